-- The functions that the blocks of a program with known names call spawn nothing, and a block declares no variable that another one writes.
use Rattle.std.proofs.Common.{◌≡◌, refl, sym, ◌∙◌, subst, ℕ, ◌||◌, Bool, true, false, List, [], ◌∷◌, length, Option, Some, None}
use Rattle.std.proofs.lemmas.Bool.{eqb-true}
use Rattle.std.specs.Prelude.{slice_get, nat_lt, ◌==◌, if◌then◌else◌}
use Rattle.std.specs.List.{list_any}
use mathlib.Core.Former.{Count}
use Rattle.source_meaning.specs.declared.tree.Expr.{Expr}
use Rattle.source_meaning.specs.declared.tree.ExprKind.{ExprKind, Row_of-Expr, end_of-Expr, more_of-Expr}
use Rattle.source_meaning.specs.declared.tree.ExprKind.TheVariants as expr
use Rattle.source_meaning.specs.declared.tree.Spot.{Spot}
use Rattle.source_meaning.specs.declared.tree.Spot.TheVariants as spot
use Rattle.source_meaning.specs.declared.tree.Stmt.{Stmt}
use Rattle.source_meaning.specs.declared.tree.StmtKind.{StmtKind, Row_of-Stmt, end_of-Stmt, more_of-Stmt, Held-StmtKind-If-2, None', Some'}
use Rattle.source_meaning.specs.declared.tree.StmtKind.TheVariants as stmt
use Rattle.source_meaning.specs.declared.tree.Function.{Function}
use Rattle.source_meaning.specs.declared.tree.Program.{Program}
use Rattle.source_meaning.specs.Inside.{some_inside, some_in_spot, some_in_row, some_expression, some_option, some_of_statement, some_below, some_in_body, some_in_other, some_statement}
use Rattle.source_meaning.specs.Variables.{is_shared, shared_below}
use Rattle.source_log.specs.Checked.{is_call, calls, any_calls, else_calls, any_declares, BlocksAre, AllBlocksAre, ElseBlocksAre, ListBlocksAre, NoSpawn, IsPlainBlock, IsPlain}
use Rattle.quad_code.specs.Rows.{row_of, rows_of, row_length}
use Rattle.quad_code.specs.Known as known
use Rattle.quad_code.specs.Known.{Region, Serial, Inner, InBlock, NamesKnown, SpotKnown, AllKnown, OptionKnown, SummedKnown, StatementKnown, SequenceKnown, ElseKnown}
use Rattle.quad_code.specs.Functions.{outer_of}
use Rattle.quad_code.specs.Whole.{MayCall, IsKnown}

-- one of two things leads to a third
either : (P : Type 0) (a b : Bool) → (a || b) ≡ true → (a ≡ true → P) → (b ≡ true → P) → P
either P true b h first second = first refl
either P false b h first second = second h

never : (P : Type 0) → false ≡ true → P
never P h = absurd cc

-- what is called where such functions alone may be called
module _ (inner : (function : ℕ) → Bool) (globals : ℕ) (g : ℕ) where
  abbrev Goal : Type 0
  Goal = inner g ≡ true

  abbrev test : ExprKind → Bool
  test = is_call g

  module _ (Calls : (function values : ℕ) → Type 0) (may : (f values : ℕ) → Calls f values → inner f ≡ true) (k : ℕ → Bool) where
    mutual
      in_expression : (kind : ExprKind) → NamesKnown globals Calls k kind → some_expression test kind ≡ true → Goal
      in_expression (expr.Number n) is h = never Goal h
      in_expression expr.Dollar is h = never Goal h
      in_expression (expr.Read p) is h = in_spot p is h
      in_expression (expr.Assign' p shape e) is h = either Goal (some_in_spot test p) (some_in_row test e) h (in_spot p is.0) (in_row e is.1)
      in_expression (expr.Update' op p shape e) is h = either Goal (some_in_spot test p) (some_in_row test e) h (in_spot p is.0) (in_row e is.1)
      in_expression (expr.Step p up after) is h = in_spot p is h
      in_expression (expr.Unary' op shape e) is h = in_row e is h
      in_expression (expr.Binary' op left a right b) is h = either Goal (some_in_row test a) (some_in_row test b) h (in_row a is.0) (in_row b is.1)
      in_expression (expr.Both' left a right b) is h = either Goal (some_in_row test a) (some_in_row test b) h (in_row a is.0) (in_row b is.1)
      in_expression (expr.Either' left a right b) is h = either Goal (some_in_row test a) (some_in_row test b) h (in_row a is.0) (in_row b is.1)
      in_expression (expr.Choose' first choice left a right b) is h =
          either Goal (some_in_row test choice || some_in_row test a) (some_in_row test b) h (λ front. either Goal (some_in_row test choice) (some_in_row test a) front (in_row choice is.0) (in_row a is.1)) (in_row b is.2)
      in_expression (expr.Call' function shape values) is h =
          either Goal (g == function) (some_in_row test values) h (λ same. subst (λ f. inner f ≡ true) (sym (eqb-true g function same)) (may function (row_length values) is.0)) (in_row values is.1)

      in_spot : (p : Spot) → SpotKnown globals Calls k p → some_in_spot test p ≡ true → Goal
      in_spot (spot.Global x) is h = never Goal h
      in_spot (spot.Element' x shape index) is h = in_row index is.1 h
      in_spot (spot.Register x) is h = never Goal h
      in_spot (spot.Local slot) is h = never Goal h

      in_row : {n : _} (row : Row_of-Expr n) → AllKnown globals Calls k row → some_in_row test row ≡ true → Goal
      in_row end_of-Expr is h = never Goal h
      in_row (more_of-Expr place kind rest) is h = either Goal (some_expression test kind) (some_in_row test rest) h (in_expression kind is.0) (in_row rest is.1)

    in_option : (e : Option Expr) → OptionKnown globals Calls k e → some_option test e ≡ true → Goal
    in_option None is h = never Goal h
    in_option (Some e) is h = in_expression e.kind is h

    in_summed : (p : Spot) → SummedKnown globals k p → some_in_spot test p ≡ true → Goal
    in_summed (spot.Global x) is h = never Goal h
    in_summed (spot.Element' x shape index) is h = absurd is
    in_summed (spot.Register x) is h = never Goal h
    in_summed (spot.Local slot) is h = never Goal h

  module _ (MayBeCalled : Region → (function values : ℕ) → Type 0) (variables : ℕ) (outer : (slot : ℕ) → Option ℕ) (region : Region) (apart : region ≡ Serial → ⊥) (may : (f values : ℕ) → MayBeCalled region f values → inner f ≡ true) where
    abbrev found : StmtKind → Bool
    found = some_of_statement test

    mutual
      in_statement : (k : ℕ → Bool) (loop : Bool) (kind : StmtKind) → StatementKnown globals MayBeCalled variables outer k loop region kind → calls g kind ≡ true → Goal
      in_statement k loop stmt.Empty is h = never Goal h
      in_statement k loop (stmt.Value e) is h = either Goal (some_expression test e.kind) false h (in_expression (MayBeCalled region) may k e.kind is) (never Goal)
      in_statement k loop (stmt.Declare slot value) is h = either Goal (some_option test value) false h (in_option (MayBeCalled region) may k value is.1) (never Goal)
      in_statement k loop (stmt.Block' shape body) is h = in_sequence k loop body is h
      in_statement k loop (stmt.If' choice shape body other) is h =
          either Goal (some_expression test choice.kind) (some_in_body found body || some_in_other found other) h (in_expression (MayBeCalled region) may k choice.kind is.0)
          (λ rest. either Goal (some_in_body found body) (some_in_other found other) rest (in_sequence k loop body is.1) (in_else k loop other is.2))
      in_statement k loop (stmt.While' choice shape body) is h =
          either Goal (some_expression test choice.kind) (some_in_body found body) h (in_expression (MayBeCalled region) may k choice.kind is.0) (in_sequence k true body is.1)
      in_statement k loop (stmt.Do' shape body choice) is h =
          either Goal (some_expression test choice.kind) (some_in_body found body) h (in_expression (MayBeCalled region) may k choice.kind is.0) (in_sequence k true body is.1)
      in_statement k loop (stmt.For' first_shape first choice third shape body) is h =
          let behind = known.all_declared variables k first in
          either Goal (some_option test choice || some_option test third) (some_in_body found first || some_in_body found body) h
          (λ front. either Goal (some_option test choice) (some_option test third) front (in_option (MayBeCalled region) may behind choice is.1) (in_option (MayBeCalled region) may behind third is.2))
          (λ rest. either Goal (some_in_body found first) (some_in_body found body) rest (in_sequence k loop first is.0) (in_sequence behind true body is.3))
      in_statement k loop stmt.Break is h = never Goal h
      in_statement k loop stmt.Continue is h = never Goal h
      in_statement k loop (stmt.Return value) is h = either Goal (some_option test value) false h (in_option (MayBeCalled region) may k value is.0) (never Goal)
      in_statement k loop (stmt.Spawn' low high shape block) is h = absurd (apart is.4)
      in_statement k loop (stmt.Ps v r) is h = either Goal (some_in_spot test v) false h (in_summed (MayBeCalled region) may k v is.0) (never Goal)
      in_statement k loop (stmt.Psm v p) is h =
          either Goal (some_in_spot test v || some_in_spot test p) false h
          (λ places. either Goal (some_in_spot test v) (some_in_spot test p) places (in_summed (MayBeCalled region) may k v is.0) (in_spot (MayBeCalled region) may k p is.1)) (never Goal)
      in_statement k loop (stmt.Print text values) is h = absurd (apart is.3)

      in_sequence : (k : ℕ → Bool) (loop : Bool) {n : _} (row : Row_of-Stmt n) → SequenceKnown globals MayBeCalled variables outer k loop region row → any_calls g row ≡ true → Goal
      in_sequence k loop end_of-Stmt is h = never Goal h
      in_sequence k loop (more_of-Stmt place kind rest) is h =
          either Goal (calls g kind) (any_calls g rest) h (in_statement k loop kind is.0) (in_sequence (known.declared variables k kind) loop rest is.1)

      in_else : (k : ℕ → Bool) (loop : Bool) (other : Held-StmtKind-If-2) → ElseKnown globals MayBeCalled variables outer k loop region other → else_calls g other ≡ true → Goal
      in_else k loop None' is h = never Goal h
      in_else k loop (Some' shape body) is h = in_sequence k loop body is h

-- no spawn stands where not all code is serial
module _ (globals : ℕ) (MayBeCalled : Region → (function values : ℕ) → Type 0) (variables : ℕ) (outer : (slot : ℕ) → Option ℕ) (region : Region) (apart : region ≡ Serial → ⊥) where
  mutual
    no_spawn : (k : ℕ → Bool) (loop : Bool) (kind : StmtKind) → StatementKnown globals MayBeCalled variables outer k loop region kind → BlocksAre NoSpawn kind
    no_spawn k loop stmt.Empty is = tt
    no_spawn k loop (stmt.Value e) is = tt
    no_spawn k loop (stmt.Declare slot value) is = tt
    no_spawn k loop (stmt.Block' shape body) is = no_spawns k loop body is
    no_spawn k loop (stmt.If' choice shape body other) is = (no_spawns k loop body is.1, no_spawn_in_else k loop other is.2)
    no_spawn k loop (stmt.While' choice shape body) is = no_spawns k true body is.1
    no_spawn k loop (stmt.Do' shape body choice) is = no_spawns k true body is.1
    no_spawn k loop (stmt.For' first_shape first choice third shape body) is = (no_spawns k loop first is.0, no_spawns (known.all_declared variables k first) true body is.3)
    no_spawn k loop stmt.Break is = tt
    no_spawn k loop stmt.Continue is = tt
    no_spawn k loop (stmt.Return value) is = tt
    no_spawn k loop (stmt.Spawn' low high shape block) is = apart is.4
    no_spawn k loop (stmt.Ps v r) is = tt
    no_spawn k loop (stmt.Psm v p) is = tt
    no_spawn k loop (stmt.Print text values) is = tt

    no_spawns : (k : ℕ → Bool) (loop : Bool) {n : _} (row : Row_of-Stmt n) → SequenceKnown globals MayBeCalled variables outer k loop region row → AllBlocksAre NoSpawn row
    no_spawns k loop end_of-Stmt is = tt
    no_spawns k loop (more_of-Stmt place kind rest) is = (no_spawn k loop kind is.0, no_spawns (known.declared variables k kind) loop rest is.1)

    no_spawn_in_else : (k : ℕ → Bool) (loop : Bool) (other : Held-StmtKind-If-2) → ElseKnown globals MayBeCalled variables outer k loop region other → ElseBlocksAre NoSpawn other
    no_spawn_in_else k loop None' is = tt
    no_spawn_in_else k loop (Some' shape body) is = no_spawns k loop body is

block_is_apart : InBlock ≡ Serial → ⊥
block_is_apart h = cc

inner_is_apart : Inner ≡ Serial → ⊥
inner_is_apart h = cc

module _ (program : Program) (inner : (function : ℕ) → Bool) (body : List Stmt) (variables : ℕ) where
  abbrev globals : ℕ
  globals = length program.globals

  abbrev Plain : (n : Count) → Row_of-Stmt n → Type 0
  Plain = IsPlainBlock (λ f. inner f ≡ true) body

  -- a variable without a number is not shared
  unshared : (slot : ℕ) → outer_of body slot ≡ None → is_shared body slot ≡ false
  unshared slot h = by (is_shared body slot) h
    where
      by : (t : Bool) → (if t then Some (shared_below body slot) else None) ≡ None → t ≡ false
      by true h = absurd cc
      by false h = refl

  mutual
    plain : (k : ℕ → Bool) (loop : Bool) (kind : StmtKind) → StatementKnown globals (MayCall program inner) variables (outer_of body) k loop Serial kind → BlocksAre Plain kind
    plain k loop stmt.Empty is = tt
    plain k loop (stmt.Value e) is = tt
    plain k loop (stmt.Declare slot value) is = tt
    plain k loop (stmt.Block' shape inside) is = plain_rows k loop inside is
    plain k loop (stmt.If' choice shape inside other) is = (plain_rows k loop inside is.1, plain_else k loop other is.2)
    plain k loop (stmt.While' choice shape inside) is = plain_rows k true inside is.1
    plain k loop (stmt.Do' shape inside choice) is = plain_rows k true inside is.1
    plain k loop (stmt.For' first_shape first choice third shape inside) is = (plain_rows k loop first is.0, plain_rows (known.all_declared variables k first) true inside is.3)
    plain k loop stmt.Break is = tt
    plain k loop stmt.Continue is = tt
    plain k loop (stmt.Return value) is = tt
    plain k loop (stmt.Spawn' low high shape block) is = (
      no_spawns globals (MayCall program inner) variables (outer_of body) InBlock block_is_apart k false block is.3,
      λ g called. in_sequence inner globals g (MayCall program inner) variables (outer_of body) InBlock block_is_apart (λ f values may. may.1) k false block is.3 called,
      λ slot declared. unshared slot (is.2 slot declared).1,
    )
    plain k loop (stmt.Ps v r) is = tt
    plain k loop (stmt.Psm v p) is = tt
    plain k loop (stmt.Print text values) is = tt

    plain_rows : (k : ℕ → Bool) (loop : Bool) {n : _} (row : Row_of-Stmt n) → SequenceKnown globals (MayCall program inner) variables (outer_of body) k loop Serial row → AllBlocksAre Plain row
    plain_rows k loop end_of-Stmt is = tt
    plain_rows k loop (more_of-Stmt place kind rest) is = (plain k loop kind is.0, plain_rows (known.declared variables k kind) loop rest is.1)

    plain_else : (k : ℕ → Bool) (loop : Bool) (other : Held-StmtKind-If-2) → ElseKnown globals (MayCall program inner) variables (outer_of body) k loop Serial other → ElseBlocksAre Plain other
    plain_else k loop None' is = tt
    plain_else k loop (Some' shape inside) is = plain_rows k loop inside is

-- rows and lists of statements
module _ (Block : (n : Count) → Row_of-Stmt n → Type 0) where
  blocks_of_list : (body : List Stmt) → AllBlocksAre Block (rows_of body) → ListBlocksAre Block body
  blocks_of_list [] h = tt
  blocks_of_list (s ∷ rest) h = (h.0, blocks_of_list rest h.1)

calls_of_list : (g : ℕ) (body : List Stmt) → list_any (λ (s : Stmt). calls g s.kind) body ≡ true → any_calls g (rows_of body) ≡ true
calls_of_list g [] h = h
calls_of_list g (s ∷ rest) h = by (calls g s.kind) (calls_of_list g rest) h
  where
    by : (t : Bool) → (list_any (λ (s : Stmt). calls g s.kind) rest ≡ true → any_calls g (rows_of rest) ≡ true) → (t || list_any (λ (s : Stmt). calls g s.kind) rest) ≡ true → (t || any_calls g (rows_of rest)) ≡ true
    by true later h = refl
    by false later h = later h

pub plain_program : (program : Program) (inner : (function : ℕ) → Bool) → IsKnown program inner → IsPlain program (λ f. inner f ≡ true)
plain_program program inner is =
    record {
      blocks = λ f function found.
          blocks_of_list (IsPlainBlock (λ f. inner f ≡ true) function.body) function.body
          (plain_rows program inner function.body function.variables (λ x. nat_lt x function.params) false (rows_of function.body) (is.serial f function found));
      called = λ f function found may. (
        blocks_of_list NoSpawn function.body
            (no_spawns (length program.globals) (MayCall program inner) function.variables (outer_of function.body) Inner inner_is_apart (λ x. nat_lt x function.params) false (rows_of function.body) (is.called f function found may)),
        λ g called.
            in_sequence inner (length program.globals) g (MayCall program inner) function.variables (outer_of function.body) Inner inner_is_apart (λ f values may. may.1) (λ x. nat_lt x function.params) false (rows_of function.body)
            (is.called f function found may) (calls_of_list g function.body called),
      );
    }
