-- What code writes: free registers, and the variables that the source writes or declares there. In a block stands neither a spawn nor a join.
use Rattle.std.proofs.Common.{◌≡◌, refl, subst, arith, ℕ, ◌+◌, ◌≤◌, List, [], ◌∷◌, ◌++◌, Option, Some, None, true, false}
use Rattle.std.specs.Prelude.{◌==◌, ◌||◌, Bool}
use Rattle.source_meaning.specs.declared.tree.Expr.{Expr}
use Rattle.source_meaning.specs.declared.tree.ExprKind.{ExprKind, Row_of-Expr, end_of-Expr, more_of-Expr}
use Rattle.source_meaning.specs.declared.tree.ExprKind.TheVariants as expr
use Rattle.source_meaning.specs.declared.tree.StmtKind.{StmtKind, Row_of-Stmt, end_of-Stmt, more_of-Stmt, Held-StmtKind-If-2, None', Some'}
use Rattle.source_meaning.specs.declared.tree.StmtKind.TheVariants as stmt
use Rattle.source_meaning.specs.declared.tree.Spot.{Spot}
use Rattle.source_meaning.specs.declared.tree.Spot.TheVariants as spot
use Rattle.source_meaning.specs.Inside.{some_expression, some_in_spot, some_in_row, some_option, some_statement, some_in_body, some_in_other}
use Rattle.source_meaning.specs.Variables.{is_local, is_declaration, is_assignment, is_write}
use Rattle.xmt_quads.specs.declared.code.Operand.{Operand}
use Rattle.xmt_quads.specs.declared.code.Operand.TheVariants.{Reg}
use Rattle.xmt_quads.specs.declared.code.Quad.{Quad}
use Rattle.xmt_quads.specs.declared.code.Quad.TheVariants as quad
use Rattle.xmt_quads.specs.Live.{writes}
use Rattle.quad_code.specs.Lined.{Lined}
use Rattle.quad_code.specs.declared.Access.{Access}
use Rattle.quad_code.specs.declared.Access.TheVariants.{Own, Common}
use Rattle.quad_code.specs.Known.{Region, Serial, InBlock, StatementKnown, SequenceKnown, ElseKnown}
use Rattle.quad_code.specs.Expressions.{access_of_slot, reading, writing, adding, held, access_of, code_at, boxed_at, spot_at, values_at, arguments_of}
use Rattle.quad_code.specs.Statements.{Counts, behind, behind_all, option_at, sum_at, statement_at, sequence_at, else_at}

-- Registers with a property.
module _ (P : ℕ → Type 0) where
  -- a quad writes such a register alone, and is neither a spawn nor a join
  abbrev pub FineQuad : Quad → Type 0
  FineQuad (quad.Copy to o) = P to
  FineQuad (quad.Unary op to o) = P to
  FineQuad (quad.Binary op to a b) = P to
  FineQuad (quad.Dollar to) = P to
  FineQuad (quad.Load to place) = P to
  FineQuad (quad.Add to place o) = P to
  FineQuad (quad.Parameter to place) = P to
  FineQuad (quad.Result to) = P to
  FineQuad (quad.Spawn low high) = ⊥
  FineQuad quad.Join = ⊥
  FineQuad _ = Unit {0}

  abbrev pub Fine : List Lined → Type 0
  Fine [] = Unit {0}
  Fine (l ∷ code) = FineQuad l.quad × Fine code

  pub fine_append : (a b : List Lined) → Fine a → Fine b → Fine (a ++ b)
  fine_append [] b f g = g
  fine_append (l ∷ a) b f g = (f.0, fine_append a b f.1 g)

  same_register : (x to : ℕ) → (x == to) ≡ true → P to → P x
  same_register x to h p = let same : to ≡ x = grind (arith, h) in subst P same p

  pub what_is_written : (x : ℕ) (q : Quad) → FineQuad q → writes x q ≡ true → P x
  what_is_written x (quad.Copy to o) f h = same_register x to h f
  what_is_written x (quad.Unary op to o) f h = same_register x to h f
  what_is_written x (quad.Binary op to a b) f h = same_register x to h f
  what_is_written x (quad.Dollar to) f h = same_register x to h f
  what_is_written x (quad.Load to place) f h = same_register x to h f
  what_is_written x (quad.Add to place o) f h = same_register x to h f
  what_is_written x (quad.Parameter to place) f h = same_register x to h f
  what_is_written x (quad.Result to) f h = same_register x to h f
  what_is_written x (quad.Spawn low high) f h = absurd f
  what_is_written x quad.Join f h = absurd f
  what_is_written x _ f h = absurd (no_register h)
    where
      no_register : false ≡ true → ⊥
      no_register h = cc

  -- Of a function with so many variables. Free registers have the property.
  module _ (base_of size_of : (global : ℕ) → ℕ) (outer : (slot : ℕ) → Option ℕ) (variables : ℕ) (free : (r : ℕ) → variables ≤ r → P r) where
    -- and so do the variables that pass a test and are not shared
    abbrev pub May : (ℕ → Bool) → Type 0
    May test = (slot : ℕ) → test slot ≡ true → outer slot ≡ None → P slot

    pub left : (f g : ℕ → Bool) → May (λ slot. f slot || g slot) → May f
    left f g may slot h = may slot (let both : (f slot || g slot) ≡ true = rw h in both)

    pub right : (f g : ℕ → Bool) → May (λ slot. f slot || g slot) → May g
    right f g may slot h = may slot (by (f slot))
      where
        by : (b : Bool) → (b || g slot) ≡ true
        by true = refl
        by false = h

    pub reading_fine : (r : ℕ) (a : Access) → P r → FineQuad (reading r a)
    reading_fine r (Own slot) p = p
    reading_fine r (Common place) p = p

    pub slot_fine : (slot : ℕ) (o : Option ℕ) (v : Operand) → outer slot ≡ o → May (λ x. x == slot) → FineQuad (writing (access_of_slot slot o) v)
    slot_fine slot (Some number) v e may = tt
    slot_fine slot None v e may = may slot (let same : (slot == slot) ≡ true = grind arith in same) e

    pub writing_fine : (r : ℕ) (p : Spot) (v : Operand) → May (λ x. is_local x p) → FineQuad (writing (access_of base_of size_of outer r p) v)
    writing_fine r (spot.Local slot) v may = slot_fine slot (outer slot) v refl may
    writing_fine r (spot.Global g) v may = tt
    writing_fine r (spot.Element' g shape index) v may = tt
    writing_fine r (spot.Register g) v may = tt

    adding_slot : (line old slot : ℕ) (o : Option ℕ) (v : Operand) → outer slot ≡ o → P old → May (λ x. x == slot) → Fine (adding line old (access_of_slot slot o) v)
    adding_slot line old slot (Some number) v e p may = (p, tt)
    adding_slot line old slot None v e p may = (p, (may slot (let same : (slot == slot) ≡ true = grind arith in same) e, tt))

    pub adding_fine : (line old r : ℕ) (p : Spot) (v : Operand) → P old → May (λ x. is_local x p) → Fine (adding line old (access_of base_of size_of outer r p) v)
    adding_fine line old r (spot.Local slot) v p may = adding_slot line old slot (outer slot) v refl p may
    adding_fine line old r (spot.Global g) v p may = (p, tt)
    adding_fine line old r (spot.Element' g shape index) v p may = (p, tt)
    adding_fine line old r (spot.Register g) v p may = (p, tt)

    pub arguments_fine : (line k r : ℕ) {m : _} (row : Row_of-Expr m) → Fine (arguments_of base_of size_of outer line k r row)
    arguments_fine line k r end_of-Expr = tt
    arguments_fine line k r (more_of-Expr place kind rest) = (tt, arguments_fine line (k + 1) (r + 1) rest)

    mutual
      pub code_fine : (at r line : ℕ) (e : ExprKind) → variables ≤ r → May (λ x. some_expression (is_assignment x) e) → Fine (code_at base_of size_of outer at r line e)
      code_fine at r line (expr.Number i) h may = tt
      code_fine at r line expr.Dollar h may = (free r h, tt)
      code_fine at r line (expr.Read p) h may = fine_append _ _ (spot_fine at r line p h may) (reading_fine r _ (free r h), tt)
      code_fine at r line (expr.Assign' p shape e) h may =
          fine_append _ _ (spot_fine at r line p h (left _ _ (right _ _ may)))
          (fine_append _ _ (boxed_fine _ (r + held p) e (omega arith) (right _ _ (right _ _ may))) (writing_fine r p _ (left _ _ may), (free r h, tt)))
      code_fine at r line (expr.Update' op p shape e) h may =
          let old = r + held p in
          let free_old = free old (omega arith) in
          fine_append _ _ (spot_fine at r line p h (left _ _ (right _ _ may)))
          (reading_fine old _ free_old, (fine_append _ _ (boxed_fine _ (old + 1) e (omega arith) (right _ _ (right _ _ may))) (free_old, (writing_fine r p _ (left _ _ may), (free r h, tt)))))
      code_fine at r line (expr.Step p up after) h may =
          let old = r + held p in
          fine_append _ _ (spot_fine at r line p h (right _ _ may))
          (reading_fine old _ (free old (omega arith)), (free (old + 1) (omega arith), (writing_fine r p _ (left _ _ may), (free r h, tt))))
      code_fine at r line (expr.Unary' op shape e) h may = fine_append _ _ (boxed_fine at r e h may) (free r h, tt)
      code_fine at r line (expr.Binary' op l a r2 b) h may =
          fine_append _ _ (boxed_fine at r a h (left _ _ may)) (fine_append _ _ (boxed_fine _ (r + 1) b (omega arith) (right _ _ may)) (free r h, tt))
      code_fine at r line (expr.Both' l a r2 b) h may =
          fine_append _ _ (boxed_fine at r a h (left _ _ may))
          (tt, fine_append _ _ (fine_append _ _ (boxed_fine _ r b h (right _ _ may)) (free r h, tt)) (tt, (free r h, tt)))
      code_fine at r line (expr.Either' l a r2 b) h may =
          fine_append _ _ (boxed_fine at r a h (left _ _ may))
          (tt, fine_append _ _ (fine_append _ _ (boxed_fine _ r b h (right _ _ may)) (free r h, tt)) (tt, (free r h, tt)))
      code_fine at r line (expr.Choose' first test l a r2 b) h may =
          fine_append _ _ (boxed_fine at r test h (left _ _ (left _ _ may)))
          (tt, fine_append _ _ (fine_append _ _ (boxed_fine _ r a h (right _ _ (left _ _ may))) (free r h, tt)) (tt, fine_append _ _ (boxed_fine _ r b h (right _ _ may)) (free r h, tt)))
      code_fine at r line (expr.Call' function shape values) h may =
          fine_append _ _ (values_fine at r values h may) (fine_append _ _ (arguments_fine line 0 r values) (tt, (free r h, tt)))

      pub boxed_fine : (at r : ℕ) {m : _} (row : Row_of-Expr m) → variables ≤ r → May (λ x. some_in_row (is_assignment x) row) → Fine (boxed_at base_of size_of outer at r row)
      boxed_fine at r end_of-Expr h may = tt
      boxed_fine at r (more_of-Expr place kind rest) h may = code_fine at r place.line kind h (left _ _ may)

      pub spot_fine : (at r line : ℕ) (p : Spot) → variables ≤ r → May (λ x. some_in_spot (is_assignment x) p) → Fine (spot_at base_of size_of outer at r line p)
      spot_fine at r line (spot.Global g) h may = tt
      spot_fine at r line (spot.Register g) h may = tt
      spot_fine at r line (spot.Local slot) h may = tt
      spot_fine at r line (spot.Element' g shape index) h may = fine_append _ _ (boxed_fine at r index h may) (tt, tt)

      pub values_fine : (at r : ℕ) {m : _} (row : Row_of-Expr m) → variables ≤ r → May (λ x. some_in_row (is_assignment x) row) → Fine (values_at base_of size_of outer at r row)
      values_fine at r end_of-Expr h may = tt
      values_fine at r (more_of-Expr place kind rest) h may = fine_append _ _ (code_fine at r place.line kind h (left _ _ may)) (values_fine _ (r + 1) rest (omega arith) (right _ _ may))

    pub option_fine : (at : ℕ) (e : Option Expr) → May (λ x. some_option (is_assignment x) e) → Fine (option_at base_of size_of outer variables at e)
    option_fine at None may = tt
    option_fine at (Some e) may = code_fine at variables e.at.line e.kind (omega arith) may

    -- ---- the statements of a block

    module _ (globals : ℕ) (MayCall : Region → (function values : ℕ) → Type 0) where
      none_spawns : InBlock ≡ Serial → ⊥
      none_spawns h = cc

      pub sum_fine : (at line : ℕ) (v p : Spot) → May (λ x. is_local x v) → May (λ x. is_local x p) → May (λ x. some_in_spot (is_assignment x) p) → Fine (sum_at base_of size_of outer variables at line v p)
      sum_fine at line v p mv mp ms =
          let old = variables + 1 + held p in (
            reading_fine variables _ (free variables (omega arith)),
            fine_append _ _ (spot_fine (at + 1) (variables + 1) line p (omega arith) ms)
                (fine_append _ _ (adding_fine line old (variables + 1) p (Reg variables) (free old (omega arith)) mp) (writing_fine variables v (Reg old) mv, tt)),
          )

      mutual
        pub statement_fine : (at leave again : ℕ) (met : Counts) (line : ℕ) (s : StmtKind) (k : ℕ → Bool) (loop : Bool) → StatementKnown globals MayCall variables outer k loop InBlock s →
            May (λ x. some_statement (is_write x) s) → May (λ x. some_statement (is_declaration x) s) → Fine (statement_at base_of size_of outer variables at leave again met line s)
        statement_fine at leave again met line stmt.Empty k loop is w d = tt
        statement_fine at leave again met line (stmt.Value e) k loop is w d = code_fine at variables e.at.line e.kind (omega arith) (left _ _ w)
        statement_fine at leave again met line (stmt.Declare slot value) k loop is w d =
            fine_append _ _ (option_fine at value (left _ _ w)) (slot_fine slot (outer slot) _ refl (left _ _ d), tt)
        statement_fine at leave again met line (stmt.Block' shape body) k loop is w d = sequence_fine at leave again met body k loop is w d
        statement_fine at leave again met line (stmt.If' test shape body other) k loop is w d =
            fine_append _ _ (code_fine at variables test.at.line test.kind (omega arith) (left _ _ w)) (
              tt,
              fine_append _ _ (sequence_fine _ leave again met body k loop is.1 (left _ _ (right _ _ w)) (left _ _ d))
                  (tt, else_fine _ leave again (behind_all met body) other k loop is.2 (right _ _ (right _ _ w)) (right _ _ d)),
            )
        statement_fine at leave again met line (stmt.While' test shape body) k loop is w d =
            fine_append _ _ (code_fine at variables test.at.line test.kind (omega arith) (left _ _ w))
            (tt, (tt, (tt, fine_append _ _ (sequence_fine _ _ _ met body k true is.1 (right _ _ w) d) (tt, tt))))
        statement_fine at leave again met line (stmt.Do' shape body test) k loop is w d =
            (tt, (tt, (tt, fine_append _ _ (sequence_fine _ _ _ met body k true is.1 (right _ _ w) d) (fine_append _ _ (code_fine _ variables test.at.line test.kind (omega arith) (left _ _ w)) (tt, tt)))))
        statement_fine at leave again met line (stmt.For' first_shape first test third shape body) k loop is w d =
            fine_append _ _ (sequence_fine at leave again met first k loop is.0 (left _ _ (right _ _ w)) (left _ _ d))
            (fine_append _ _ (option_fine _ test (left _ _ (left _ _ w)))
            (tt, (tt, (tt, fine_append _ _ (sequence_fine _ _ _ (behind_all met first) body _ true is.3 (right _ _ (right _ _ w)) (right _ _ d)) (fine_append _ _ (option_fine _ third (right _ _ (left _ _ w))) (tt, tt))))))
        statement_fine at leave again met line stmt.Break k loop is w d = (tt, tt)
        statement_fine at leave again met line stmt.Continue k loop is w d = (tt, tt)
        statement_fine at leave again met line (stmt.Return value) k loop is w d = fine_append _ _ (option_fine at value (left _ _ w)) (tt, tt)
        statement_fine at leave again met line (stmt.Spawn' low high shape body) k loop is w d = absurd (none_spawns is.4)
        statement_fine at leave again met line (stmt.Ps v r) k loop is w d = sum_fine at line v (spot.Register r) (left _ _ (left _ _ w)) (λ x h e. absurd (not_true h)) (λ x h e. absurd (not_true h))
          where
            not_true : false ≡ true → ⊥
            not_true h = cc
        statement_fine at leave again met line (stmt.Psm v p) k loop is w d =
            sum_fine at line v p (left _ _ (left _ _ (left _ _ w))) (right _ _ (left _ _ (left _ _ w))) (right _ _ (right _ _ (left _ _ w)))
        statement_fine at leave again met line (stmt.Print text values) k loop is w d = absurd (none_spawns is.3)

        pub sequence_fine : (at leave again : ℕ) (met : Counts) {m : _} (row : Row_of-Stmt m) (k : ℕ → Bool) (loop : Bool) → SequenceKnown globals MayCall variables outer k loop InBlock row →
            May (λ x. some_in_body (is_write x) row) → May (λ x. some_in_body (is_declaration x) row) → Fine (sequence_at base_of size_of outer variables at leave again met row)
        sequence_fine at leave again met end_of-Stmt k loop is w d = tt
        sequence_fine at leave again met (more_of-Stmt place kind rest) k loop is w d =
            fine_append _ _ (statement_fine at leave again met place.line kind k loop is.0 (left _ _ w) (left _ _ d)) (sequence_fine _ leave again (behind met kind) rest _ loop is.1 (right _ _ w) (right _ _ d))

        pub else_fine : (at leave again : ℕ) (met : Counts) (other : Held-StmtKind-If-2) (k : ℕ → Bool) (loop : Bool) → ElseKnown globals MayCall variables outer k loop InBlock other →
            May (λ x. some_in_other (is_write x) other) → May (λ x. some_in_other (is_declaration x) other) → Fine (else_at base_of size_of outer variables at leave again met other)
        else_fine at leave again met None' k loop is w d = tt
        else_fine at leave again met (Some' shape body) k loop is w d = sequence_fine at leave again met body k loop is w d
