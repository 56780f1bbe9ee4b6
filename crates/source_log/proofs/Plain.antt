-- The code of a plain program is fine.
use Rattle.std.proofs.Common.{◌≡◌, refl, ℕ, suc, ◌+◌, ◌==◌, ◌||◌, ◌&&◌, not, inl, inr, Bool, true, false, if◌then◌else◌, List, [], ◌∷◌, Option, Some, None, arith, slice_get}
use Rattle.std.specs.List.{list_any}
use mathlib.Core.Former.{Count}
use Rattle.source_meaning.specs.declared.tree.Expr.{Expr}
use Rattle.source_meaning.specs.declared.tree.ExprKind.{ExprKind, Row_of-Expr, end_of-Expr, more_of-Expr}
use Rattle.source_meaning.specs.declared.tree.ExprKind.TheVariants as expr
use Rattle.source_meaning.specs.declared.tree.Spot.{Spot}
use Rattle.source_meaning.specs.declared.tree.Spot.TheVariants as spot
use Rattle.source_meaning.specs.declared.tree.Stmt.{Stmt}
use Rattle.source_meaning.specs.declared.tree.StmtKind.{StmtKind, Row_of-Stmt, end_of-Stmt, more_of-Stmt, Held-StmtKind-If-2, None', Some'}
use Rattle.source_meaning.specs.declared.tree.StmtKind.TheVariants as stmt
use Rattle.source_meaning.specs.declared.tree.GlobalVar.{GlobalVar}
use Rattle.source_meaning.specs.declared.tree.Function.{Function}
use Rattle.source_meaning.specs.declared.tree.Program.{Program}
use Rattle.source_meaning.specs.Store.{Cell, Word, Register, Outer, Private}
use Rattle.source_meaning.specs.Variables.{is_local, is_shared, shared_below, Frame, own_frame, block_frame}
use Rattle.source_meaning.specs.Term.{Code}
use Rattle.source_meaning.specs.Code.{spawns, all_spawns, target_of, term_of, boxed_term, row_terms, expression, expressions, expression_or, third_part, code_of, sequence, else_code, statements, first_site, with_parameters, function_code}
use Rattle.source_log.specs.Threads.{MayWrite, MayRead}
use Rattle.source_log.specs.Fine.{FineRead, FineWrite, Fine, FineTerms, FineCode, NoBlock, FineBlock, AnyFunction, FineProgram}
use Rattle.source_log.specs.Checked.{expression_calls, index_calls, any_expression_calls, option_calls, calls, any_calls, else_calls, declares, any_declares, else_declares, expression_writes, index_writes, any_expression_writes, option_writes, writes, any_writes, else_writes, shares, any_shares, else_shares, BlocksAre, AllBlocksAre, ElseBlocksAre, ListBlocksAre, NoSpawn, IsPlainBlock, IsPlain}

-- ---- one of several

in_2_1 : (a b : Bool) → a ≡ true → (a || b) ≡ true
in_2_1 a b h = grind (arith, h)

in_2_2 : (a b : Bool) → b ≡ true → (a || b) ≡ true
in_2_2 a b h = grind (arith, h)

in_3_1 : (a b c : Bool) → a ≡ true → (a || b || c) ≡ true
in_3_1 a b c h = grind (arith, h)

in_3_2 : (a b c : Bool) → b ≡ true → (a || b || c) ≡ true
in_3_2 a b c h = grind (arith, h)

in_3_3 : (a b c : Bool) → c ≡ true → (a || b || c) ≡ true
in_3_3 a b c h = grind (arith, h)

in_4_1 : (a b c d : Bool) → a ≡ true → (a || b || c || d) ≡ true
in_4_1 a b c d h = grind (arith, h)

in_4_2 : (a b c d : Bool) → b ≡ true → (a || b || c || d) ≡ true
in_4_2 a b c d h = grind (arith, h)

in_4_3 : (a b c d : Bool) → c ≡ true → (a || b || c || d) ≡ true
in_4_3 a b c d h = grind (arith, h)

in_4_4 : (a b c d : Bool) → d ≡ true → (a || b || c || d) ≡ true
in_4_4 a b c d h = grind (arith, h)

neither : (a b : Bool) → a ≡ false → b ≡ false → (a || b) ≡ false
neither a b h g = grind (arith, h, g)

spawn_shares : (w d s : Bool) → w ≡ true → d ≡ false → ((w && not d) || s) ≡ true
spawn_shares w d s h g = grind (arith, h, g)

same_number : (n : ℕ) → (n == n) ≡ true
same_number n = grind arith

any_here : {X : Type 0} (b : Bool) (test : X → Bool) (xs : List X) → b ≡ true → (b || list_any test xs) ≡ true
any_here b test xs h = in_2_1 b (list_any test xs) h

any_later : {X : Type 0} (b : Bool) (test : X → Bool) (xs : List X) → list_any test xs ≡ true → (b || list_any test xs) ≡ true
any_later b test xs h = in_2_2 b (list_any test xs) h

-- The frame of a thread, all of whose cells it may read, and the functions that it may call.
module _ (globals : List GlobalVar) (own : (thread : ℕ) → Frame) (t : ℕ) (MayCall : ℕ → Type 0) (MaySpawn : (ℕ → Code) → Type 0) (frame : Frame) (reads : (slot : ℕ) → MayRead t (frame slot)) where
  mutual
    fine_target : (line : ℕ) (p : Spot) → ((f : ℕ) → index_calls f p ≡ true → MayCall f) → ((slot : ℕ) → index_writes slot p ≡ true → MayWrite t (frame slot)) →
        FineRead t MayCall MaySpawn (target_of globals own frame line p) × (((slot : ℕ) → is_local slot p ≡ true → MayWrite t (frame slot)) → FineWrite t MayCall MaySpawn (target_of globals own frame line p))
    fine_target line (spot.Global g) c w = (tt, λ h. tt)
    fine_target line (spot.Element' g shape index) c w = ((fine_row index c w).0, λ h. (fine_row index c w).0)
    fine_target line (spot.Register r) c w = (tt, λ h. tt)
    fine_target line (spot.Local slot) c w = (reads slot, λ h. h slot (same_number slot))

    fine_term : (line : ℕ) (kind : ExprKind) → ((f : ℕ) → expression_calls f kind ≡ true → MayCall f) → ((slot : ℕ) → expression_writes slot kind ≡ true → MayWrite t (frame slot)) → Fine t MayCall MaySpawn (term_of globals own frame line kind)
    fine_term line (expr.Number n) c w = tt
    fine_term line expr.Dollar c w = tt
    fine_term line (expr.Read p) c w = (fine_target line p c w).0
    fine_term line (expr.Assign' p shape e) c w = (
      (fine_target line p (λ f h. c f (in_2_1 (index_calls f p) (any_expression_calls f e) h)) (λ s h. w s (in_2_2 (is_local s p) (index_writes s p || any_expression_writes s e) (in_2_1 (index_writes s p) (any_expression_writes s e) h)))).1 (λ s h. w s (in_2_1 (is_local s p) (index_writes s p || any_expression_writes s e) h)),
      (fine_row e (λ f h. c f (in_2_2 (index_calls f p) (any_expression_calls f e) h)) (λ s h. w s (in_2_2 (is_local s p) (index_writes s p || any_expression_writes s e) (in_2_2 (index_writes s p) (any_expression_writes s e) h)))).0,
    )
    fine_term line (expr.Update' op p shape e) c w = (
      (fine_target line p (λ f h. c f (in_2_1 (index_calls f p) (any_expression_calls f e) h)) (λ s h. w s (in_2_2 (is_local s p) (index_writes s p || any_expression_writes s e) (in_2_1 (index_writes s p) (any_expression_writes s e) h)))).1 (λ s h. w s (in_2_1 (is_local s p) (index_writes s p || any_expression_writes s e) h)),
      (fine_row e (λ f h. c f (in_2_2 (index_calls f p) (any_expression_calls f e) h)) (λ s h. w s (in_2_2 (is_local s p) (index_writes s p || any_expression_writes s e) (in_2_2 (index_writes s p) (any_expression_writes s e) h)))).0,
    )
    fine_term line (expr.Step p up after) c w =
        (fine_target line p c (λ s h. w s (in_2_2 (is_local s p) (index_writes s p) h))).1 (λ s h. w s (in_2_1 (is_local s p) (index_writes s p) h))
    fine_term line (expr.Unary' op shape e) c w = (fine_row e c w).0
    fine_term line (expr.Binary' op left a right b) c w = (
      (fine_row a (λ f h. c f (in_2_1 (any_expression_calls f a) (any_expression_calls f b) h)) (λ s h. w s (in_2_1 (any_expression_writes s a) (any_expression_writes s b) h))).0,
      (fine_row b (λ f h. c f (in_2_2 (any_expression_calls f a) (any_expression_calls f b) h)) (λ s h. w s (in_2_2 (any_expression_writes s a) (any_expression_writes s b) h))).0,
    )
    fine_term line (expr.Both' left a right b) c w = (
      (fine_row a (λ f h. c f (in_2_1 (any_expression_calls f a) (any_expression_calls f b) h)) (λ s h. w s (in_2_1 (any_expression_writes s a) (any_expression_writes s b) h))).0,
      (fine_row b (λ f h. c f (in_2_2 (any_expression_calls f a) (any_expression_calls f b) h)) (λ s h. w s (in_2_2 (any_expression_writes s a) (any_expression_writes s b) h))).0,
    )
    fine_term line (expr.Either' left a right b) c w = (
      (fine_row a (λ f h. c f (in_2_1 (any_expression_calls f a) (any_expression_calls f b) h)) (λ s h. w s (in_2_1 (any_expression_writes s a) (any_expression_writes s b) h))).0,
      (fine_row b (λ f h. c f (in_2_2 (any_expression_calls f a) (any_expression_calls f b) h)) (λ s h. w s (in_2_2 (any_expression_writes s a) (any_expression_writes s b) h))).0,
    )
    fine_term line (expr.Choose' first test left a right b) c w = (
      (fine_row test (λ f h. c f (in_3_1 (any_expression_calls f test) (any_expression_calls f a) (any_expression_calls f b) h)) (λ s h. w s (in_3_1 (any_expression_writes s test) (any_expression_writes s a) (any_expression_writes s b) h))).0,
      (fine_row a (λ f h. c f (in_3_2 (any_expression_calls f test) (any_expression_calls f a) (any_expression_calls f b) h)) (λ s h. w s (in_3_2 (any_expression_writes s test) (any_expression_writes s a) (any_expression_writes s b) h))).0,
      (fine_row b (λ f h. c f (in_3_3 (any_expression_calls f test) (any_expression_calls f a) (any_expression_calls f b) h)) (λ s h. w s (in_3_3 (any_expression_writes s test) (any_expression_writes s a) (any_expression_writes s b) h))).0,
    )
    fine_term line (expr.Call' function shape values) c w = (
      c function (in_2_1 (function == function) (any_expression_calls function values) (same_number function)),
      (fine_row values (λ f h. c f (in_2_2 (f == function) (any_expression_calls f values) h)) w).1,
    )

    fine_row : {n : _} (row : Row_of-Expr n) → ((f : ℕ) → any_expression_calls f row ≡ true → MayCall f) → ((slot : ℕ) → any_expression_writes slot row ≡ true → MayWrite t (frame slot)) →
        Fine t MayCall MaySpawn (boxed_term globals own frame row) × FineTerms t MayCall MaySpawn (row_terms globals own frame row)
    fine_row end_of-Expr c w = (tt, tt)
    fine_row (more_of-Expr place kind rest) c w =
        let this : Fine t MayCall MaySpawn (term_of globals own frame place.line kind) = fine_term place.line kind (λ f h. c f (in_2_1 (expression_calls f kind) (any_expression_calls f rest) h)) (λ s h. w s (in_2_1 (expression_writes s kind) (any_expression_writes s rest) h)) in
        (this, (this, (fine_row rest (λ f h. c f (in_2_2 (expression_calls f kind) (any_expression_calls f rest) h)) (λ s h. w s (in_2_2 (expression_writes s kind) (any_expression_writes s rest) h))).1))

  fine_expression : (e : Expr) → ((f : ℕ) → expression_calls f e.kind ≡ true → MayCall f) → ((slot : ℕ) → expression_writes slot e.kind ≡ true → MayWrite t (frame slot)) → Fine t MayCall MaySpawn (expression globals own frame e)
  fine_expression e c w = fine_term e.at.line e.kind c w

  fine_option : (default : ℕ) (o : Option Expr) → ((f : ℕ) → option_calls f o ≡ true → MayCall f) → ((slot : ℕ) → option_writes slot o ≡ true → MayWrite t (frame slot)) → Fine t MayCall MaySpawn (expression_or globals own frame default o)
  fine_option default None c w = tt
  fine_option default (Some e) c w = fine_expression e c w

  fine_third : (o : Option Expr) → ((f : ℕ) → option_calls f o ≡ true → MayCall f) → ((slot : ℕ) → option_writes slot o ≡ true → MayWrite t (frame slot)) → FineCode t MayCall MaySpawn (third_part globals own frame o)
  fine_third None c w = tt
  fine_third (Some e) c w = fine_expression e c w

  fine_expressions : (es : List Expr) → ((f : ℕ) → list_any (λ e. expression_calls f e.kind) es ≡ true → MayCall f) → ((slot : ℕ) → list_any (λ e. expression_writes slot e.kind) es ≡ true → MayWrite t (frame slot)) → FineTerms t MayCall MaySpawn (expressions globals own frame es)
  fine_expressions [] c w = tt
  fine_expressions (e ∷ es) c w = (
    fine_expression e (λ f h. c f (any_here (expression_calls f e.kind) (λ e. expression_calls f e.kind) es h)) (λ s h. w s (any_here (expression_writes s e.kind) (λ e. expression_writes s e.kind) es h)),
    fine_expressions es (λ f h. c f (any_later (expression_calls f e.kind) (λ e. expression_calls f e.kind) es h)) (λ s h. w s (any_later (expression_writes s e.kind) (λ e. expression_writes s e.kind) es h)),
  )

  module _ (Outer : (n : Count) → Row_of-Stmt n → Type 0)
      (fine_spawn : (n : Count) (block : Row_of-Stmt n) (site : ℕ) → Outer n block → (t ≡ 0) × MaySpawn (λ thread. sequence globals own (block_frame (own thread) block frame) (1 + site) block)) where
    mutual
      fine_statement : (site line : ℕ) (kind : StmtKind) → ((f : ℕ) → calls f kind ≡ true → MayCall f) → ((slot : ℕ) → writes slot kind ≡ true → MayWrite t (frame slot)) → ((slot : ℕ) → declares slot kind ≡ true → MayWrite t (frame slot)) → BlocksAre Outer kind →
          FineCode t MayCall MaySpawn (code_of globals own frame site line kind)
      fine_statement site line stmt.Empty c w d b = tt
      fine_statement site line (stmt.Value e) c w d b = fine_expression e (λ f h. c f (in_2_1 (expression_calls f e.kind) false h)) (λ s h. w s (in_2_1 (expression_writes s e.kind) false h))
      fine_statement site line (stmt.Declare slot value) c w d b = (d slot (in_2_1 (slot == slot) false (same_number slot)), fine_option 0 value (λ f h. c f (in_2_1 (option_calls f value) false h)) (λ s h. w s (in_2_1 (option_writes s value) false h)))
      fine_statement site line (stmt.Block' shape body) c w d b = fine_sequence site body c w d b
      fine_statement site line (stmt.If' test shape body other) c w d b = (
        fine_expression test (λ f h. c f (in_2_1 (expression_calls f test.kind) (any_calls f body || else_calls f other) h)) (λ s h. w s (in_2_1 (expression_writes s test.kind) (any_writes s body || else_writes s other) h)),
        fine_sequence site body (λ f h. c f (in_2_2 (expression_calls f test.kind) (any_calls f body || else_calls f other) (in_2_1 (any_calls f body) (else_calls f other) h))) (λ s h. w s (in_2_2 (expression_writes s test.kind) (any_writes s body || else_writes s other) (in_2_1 (any_writes s body) (else_writes s other) h))) (λ s h. d s (in_2_1 (any_declares s body) (else_declares s other) h)) b.0,
        fine_else (site + all_spawns body) other (λ f h. c f (in_2_2 (expression_calls f test.kind) (any_calls f body || else_calls f other) (in_2_2 (any_calls f body) (else_calls f other) h))) (λ s h. w s (in_2_2 (expression_writes s test.kind) (any_writes s body || else_writes s other) (in_2_2 (any_writes s body) (else_writes s other) h))) (λ s h. d s (in_2_2 (any_declares s body) (else_declares s other) h)) b.1,
      )
      fine_statement site line (stmt.While' test shape body) c w d b = (
        fine_expression test (λ f h. c f (in_2_1 (expression_calls f test.kind) (any_calls f body) h)) (λ s h. w s (in_2_1 (expression_writes s test.kind) (any_writes s body) h)),
        fine_sequence site body (λ f h. c f (in_2_2 (expression_calls f test.kind) (any_calls f body) h)) (λ s h. w s (in_2_2 (expression_writes s test.kind) (any_writes s body) h)) d b,
      )
      fine_statement site line (stmt.Do' shape body test) c w d b = (
        fine_sequence site body (λ f h. c f (in_2_2 (expression_calls f test.kind) (any_calls f body) h)) (λ s h. w s (in_2_2 (expression_writes s test.kind) (any_writes s body) h)) d b,
        fine_expression test (λ f h. c f (in_2_1 (expression_calls f test.kind) (any_calls f body) h)) (λ s h. w s (in_2_1 (expression_writes s test.kind) (any_writes s body) h)),
      )
      fine_statement site line (stmt.For' first_shape first test third shape body) c w d b = (
        fine_sequence site first (λ f h. c f (in_2_2 ((option_calls f test) || (option_calls f third)) ((any_calls f first) || (any_calls f body)) (in_2_1 (any_calls f first) (any_calls f body) h))) (λ s h. w s (in_2_2 ((option_writes s test) || (option_writes s third)) ((any_writes s first) || (any_writes s body)) (in_2_1 (any_writes s first) (any_writes s body) h))) (λ s h. d s (in_2_1 (any_declares s first) (any_declares s body) h)) b.0,
        (
          fine_option 1 test (λ f h. c f (in_2_1 ((option_calls f test) || (option_calls f third)) ((any_calls f first) || (any_calls f body)) (in_2_1 (option_calls f test) (option_calls f third) h))) (λ s h. w s (in_2_1 ((option_writes s test) || (option_writes s third)) ((any_writes s first) || (any_writes s body)) (in_2_1 (option_writes s test) (option_writes s third) h))),
          fine_third third (λ f h. c f (in_2_1 ((option_calls f test) || (option_calls f third)) ((any_calls f first) || (any_calls f body)) (in_2_2 (option_calls f test) (option_calls f third) h))) (λ s h. w s (in_2_1 ((option_writes s test) || (option_writes s third)) ((any_writes s first) || (any_writes s body)) (in_2_2 (option_writes s test) (option_writes s third) h))),
          fine_sequence (site + all_spawns first) body (λ f h. c f (in_2_2 ((option_calls f test) || (option_calls f third)) ((any_calls f first) || (any_calls f body)) (in_2_2 (any_calls f first) (any_calls f body) h))) (λ s h. w s (in_2_2 ((option_writes s test) || (option_writes s third)) ((any_writes s first) || (any_writes s body)) (in_2_2 (any_writes s first) (any_writes s body) h))) (λ s h. d s (in_2_2 (any_declares s first) (any_declares s body) h)) b.1,
        ),
      )
      fine_statement site line stmt.Break c w d b = tt
      fine_statement site line stmt.Continue c w d b = tt
      fine_statement site line (stmt.Return value) c w d b = fine_option 0 value (λ f h. c f (in_2_1 (option_calls f value) false h)) (λ s h. w s (in_2_1 (option_writes s value) false h))
      fine_statement site line (stmt.Spawn' low high shape block) c w d b = (
        (fine_spawn _ block site b).0,
        fine_expression low (λ f h. c f (in_2_1 ((expression_calls f low.kind) || (expression_calls f high.kind)) (any_calls f block) (in_2_1 (expression_calls f low.kind) (expression_calls f high.kind) h))) (λ s h. w s (in_2_1 ((expression_writes s low.kind) || (expression_writes s high.kind)) (any_writes s block) (in_2_1 (expression_writes s low.kind) (expression_writes s high.kind) h))),
        fine_expression high (λ f h. c f (in_2_1 ((expression_calls f low.kind) || (expression_calls f high.kind)) (any_calls f block) (in_2_2 (expression_calls f low.kind) (expression_calls f high.kind) h))) (λ s h. w s (in_2_1 ((expression_writes s low.kind) || (expression_writes s high.kind)) (any_writes s block) (in_2_2 (expression_writes s low.kind) (expression_writes s high.kind) h))),
        (fine_spawn _ block site b).1,
      )
      fine_statement site line (stmt.Ps v r) c w d b = (
        (fine_target line v (λ f h. c f (in_2_1 (index_calls f v) false h)) (λ s h. w s (in_2_1 (is_local s v || index_writes s v) false (in_2_2 (is_local s v) (index_writes s v) h)))).1 (λ s h. w s (in_2_1 (is_local s v || index_writes s v) false (in_2_1 (is_local s v) (index_writes s v) h))),
        tt,
      )
      fine_statement site line (stmt.Psm v p) c w d b = (
        (fine_target line v (λ f h. c f (in_2_1 (index_calls f v || index_calls f p) false (in_2_1 (index_calls f v) (index_calls f p) h))) (λ s h. w s (in_2_1 ((is_local s v || is_local s p) || (index_writes s v || index_writes s p)) false (in_2_2 (is_local s v || is_local s p) (index_writes s v || index_writes s p) (in_2_1 (index_writes s v) (index_writes s p) h))))).1 (λ s h. w s (in_2_1 ((is_local s v || is_local s p) || (index_writes s v || index_writes s p)) false (in_2_1 (is_local s v || is_local s p) (index_writes s v || index_writes s p) (in_2_1 (is_local s v) (is_local s p) h)))),
        (fine_target line p (λ f h. c f (in_2_1 (index_calls f v || index_calls f p) false (in_2_2 (index_calls f v) (index_calls f p) h))) (λ s h. w s (in_2_1 ((is_local s v || is_local s p) || (index_writes s v || index_writes s p)) false (in_2_2 (is_local s v || is_local s p) (index_writes s v || index_writes s p) (in_2_2 (index_writes s v) (index_writes s p) h))))).1 (λ s h. w s (in_2_1 ((is_local s v || is_local s p) || (index_writes s v || index_writes s p)) false (in_2_1 (is_local s v || is_local s p) (index_writes s v || index_writes s p) (in_2_2 (is_local s v) (is_local s p) h)))),
      )
      fine_statement site line (stmt.Print text values) c w d b = fine_expressions values (λ f h. c f (in_2_1 (list_any (λ e. expression_calls f e.kind) values) false h)) (λ s h. w s (in_2_1 (list_any (λ e. expression_writes s e.kind) values) false h))

      fine_sequence : (site : ℕ) {n : _} (row : Row_of-Stmt n) → ((f : ℕ) → any_calls f row ≡ true → MayCall f) → ((slot : ℕ) → any_writes slot row ≡ true → MayWrite t (frame slot)) → ((slot : ℕ) → any_declares slot row ≡ true → MayWrite t (frame slot)) → AllBlocksAre Outer row →
          FineCode t MayCall MaySpawn (sequence globals own frame site row)
      fine_sequence site end_of-Stmt c w d b = tt
      fine_sequence site (more_of-Stmt place kind rest) c w d b = (
        fine_statement site place.line kind (λ f h. c f (in_2_1 (calls f kind) (any_calls f rest) h)) (λ s h. w s (in_2_1 (writes s kind) (any_writes s rest) h)) (λ s h. d s (in_2_1 (declares s kind) (any_declares s rest) h)) b.0,
        fine_sequence (site + spawns kind) rest (λ f h. c f (in_2_2 (calls f kind) (any_calls f rest) h)) (λ s h. w s (in_2_2 (writes s kind) (any_writes s rest) h)) (λ s h. d s (in_2_2 (declares s kind) (any_declares s rest) h)) b.1,
      )

      fine_else : (site : ℕ) (other : Held-StmtKind-If-2) → ((f : ℕ) → else_calls f other ≡ true → MayCall f) → ((slot : ℕ) → else_writes slot other ≡ true → MayWrite t (frame slot)) → ((slot : ℕ) → else_declares slot other ≡ true → MayWrite t (frame slot)) → ElseBlocksAre Outer other →
          FineCode t MayCall MaySpawn (else_code globals own frame site other)
      fine_else site None' c w d b = tt
      fine_else site (Some' shape body) c w d b = fine_sequence site body c w d b

    fine_statements : (site : ℕ) (body : List Stmt) → ((f : ℕ) → list_any (λ s. calls f s.kind) body ≡ true → MayCall f) → ((slot : ℕ) → list_any (λ s. writes slot s.kind) body ≡ true → MayWrite t (frame slot)) → ((slot : ℕ) → list_any (λ s. declares slot s.kind) body ≡ true → MayWrite t (frame slot)) → ListBlocksAre Outer body →
        FineCode t MayCall MaySpawn (statements globals own frame site body)
    fine_statements site [] c w d b = tt
    fine_statements site (s ∷ body) c w d b = (
      fine_statement site s.at.line s.kind (λ f h. c f (any_here (calls f s.kind) (λ x. calls f x.kind) body h)) (λ v h. w v (any_here (writes v s.kind) (λ x. writes v x.kind) body h)) (λ v h. d v (any_here (declares v s.kind) (λ x. declares v x.kind) body h)) b.0,
      fine_statements (site + spawns s.kind) body (λ f h. c f (any_later (calls f s.kind) (λ x. calls f x.kind) body h)) (λ v h. w v (any_later (writes v s.kind) (λ x. writes v x.kind) body h)) (λ v h. d v (any_later (declares v s.kind) (λ x. declares v x.kind) body h)) b.1,
    )

-- ---- shared variables

module _ (Outer' : (n : Count) → Row_of-Stmt n → Type 0) (Q : ℕ → Type 0) where
  -- a block, and that what it writes and does not declare is so
  abbrev WithShared : (n : Count) → Row_of-Stmt n → Type 0
  WithShared n block = Outer' n block × ((slot : ℕ) → any_writes slot block ≡ true → any_declares slot block ≡ false → Q slot)

  mutual
    with_shared : (kind : StmtKind) → BlocksAre Outer' kind → ((slot : ℕ) → shares slot kind ≡ true → Q slot) → BlocksAre WithShared kind
    with_shared stmt.Empty b q = tt
    with_shared (stmt.Value e) b q = tt
    with_shared (stmt.Declare slot value) b q = tt
    with_shared (stmt.Block' shape body) b q = all_with_shared body b q
    with_shared (stmt.If' test shape body other) b q = (all_with_shared body b.0 (λ s h. q s (in_2_1 (any_shares s body) (else_shares s other) h)), else_with_shared other b.1 (λ s h. q s (in_2_2 (any_shares s body) (else_shares s other) h)))
    with_shared (stmt.While' test shape body) b q = all_with_shared body b q
    with_shared (stmt.Do' shape body test) b q = all_with_shared body b q
    with_shared (stmt.For' first_shape first test third shape body) b q = (all_with_shared first b.0 (λ s h. q s (in_2_1 (any_shares s first) (any_shares s body) h)), all_with_shared body b.1 (λ s h. q s (in_2_2 (any_shares s first) (any_shares s body) h)))
    with_shared stmt.Break b q = tt
    with_shared stmt.Continue b q = tt
    with_shared (stmt.Return value) b q = tt
    with_shared (stmt.Spawn' low high shape block) b q = (b, λ s written undeclared. q s (spawn_shares (any_writes s block) (any_declares s block) (any_shares s block) written undeclared))
    with_shared (stmt.Ps v r) b q = tt
    with_shared (stmt.Psm v p) b q = tt
    with_shared (stmt.Print text values) b q = tt

    all_with_shared : {n : _} (row : Row_of-Stmt n) → AllBlocksAre Outer' row → ((slot : ℕ) → any_shares slot row ≡ true → Q slot) → AllBlocksAre WithShared row
    all_with_shared end_of-Stmt b q = tt
    all_with_shared (more_of-Stmt place kind rest) b q = (with_shared kind b.0 (λ s h. q s (in_2_1 (shares s kind) (any_shares s rest) h)), all_with_shared rest b.1 (λ s h. q s (in_2_2 (shares s kind) (any_shares s rest) h)))

    else_with_shared : (other : Held-StmtKind-If-2) → ElseBlocksAre Outer' other → ((slot : ℕ) → else_shares slot other ≡ true → Q slot) → ElseBlocksAre WithShared other
    else_with_shared None' b q = tt
    else_with_shared (Some' shape body) b q = all_with_shared body b q

  list_with_shared : (body : List Stmt) → ListBlocksAre Outer' body → ((slot : ℕ) → list_any (λ s. shares slot s.kind) body ≡ true → Q slot) → ListBlocksAre WithShared body
  list_with_shared [] b q = tt
  list_with_shared (x ∷ body) b q = (with_shared x.kind b.0 (λ s h. q s (any_here (shares s x.kind) (λ y. shares s y.kind) body h)), list_with_shared body b.1 (λ s h. q s (any_later (shares s x.kind) (λ y. shares s y.kind) body h)))

-- where nothing spawns, no variable is shared
mutual
  none_shared : (slot : ℕ) (kind : StmtKind) → BlocksAre NoSpawn kind → shares slot kind ≡ false
  none_shared slot stmt.Empty b = refl
  none_shared slot (stmt.Value e) b = refl
  none_shared slot (stmt.Declare other value) b = refl
  none_shared slot (stmt.Block' shape body) b = none_shared_in slot body b
  none_shared slot (stmt.If' test shape body other) b = neither (any_shares slot body) (else_shares slot other) (none_shared_in slot body b.0) (none_shared_else slot other b.1)
  none_shared slot (stmt.While' test shape body) b = none_shared_in slot body b
  none_shared slot (stmt.Do' shape body test) b = none_shared_in slot body b
  none_shared slot (stmt.For' first_shape first test third shape body) b = neither (any_shares slot first) (any_shares slot body) (none_shared_in slot first b.0) (none_shared_in slot body b.1)
  none_shared slot stmt.Break b = refl
  none_shared slot stmt.Continue b = refl
  none_shared slot (stmt.Return value) b = refl
  none_shared slot (stmt.Spawn' low high shape block) b = absurd b
  none_shared slot (stmt.Ps v r) b = refl
  none_shared slot (stmt.Psm v p) b = refl
  none_shared slot (stmt.Print text values) b = refl

  none_shared_in : (slot : ℕ) {n : _} (row : Row_of-Stmt n) → AllBlocksAre NoSpawn row → any_shares slot row ≡ false
  none_shared_in slot end_of-Stmt b = refl
  none_shared_in slot (more_of-Stmt place kind rest) b = neither (shares slot kind) (any_shares slot rest) (none_shared slot kind b.0) (none_shared_in slot rest b.1)

  none_shared_else : (slot : ℕ) (other : Held-StmtKind-If-2) → ElseBlocksAre NoSpawn other → else_shares slot other ≡ false
  none_shared_else slot None' b = refl
  none_shared_else slot (Some' shape body) b = none_shared_in slot body b

none_shared_list : (slot : ℕ) (body : List Stmt) → ListBlocksAre NoSpawn body → is_shared body slot ≡ false
none_shared_list slot [] b = refl
none_shared_list slot (x ∷ body) b = neither (shares slot x.kind) (is_shared body slot) (none_shared slot x.kind b.0) (none_shared_list slot body b.1)

-- ---- functions

module _ (t : ℕ) (MayCall : ℕ → Type 0) (MaySpawn : (ℕ → Code) → Type 0) (frame : Frame) (may : (slot : ℕ) → MayWrite t (frame slot)) where
  fine_parameters : (slot : ℕ) (values : List ℕ) (body : Code) → FineCode t MayCall MaySpawn body → FineCode t MayCall MaySpawn (with_parameters frame slot values body)
  fine_parameters slot [] body h = h
  fine_parameters slot (v ∷ values) body h = ((may slot, tt), fine_parameters (suc slot) values body h)

own_serial : (body : List Stmt) (depth slot : ℕ) → MayWrite 0 (own_frame body 0 depth slot)
own_serial body depth slot = by_test (is_shared body slot)
  where
    by_test : (b : Bool) → MayWrite 0 (if b then Outer 0 depth (shared_below body slot) else Private 0 depth slot)
    by_test true = refl
    by_test false = refl

own_virtual : (body : List Stmt) (t depth slot : ℕ) → is_shared body slot ≡ false → MayWrite t (own_frame body t depth slot)
own_virtual body t depth slot none = by_test (is_shared body slot) none
  where
    by_test : (b : Bool) → b ≡ false → MayWrite t (if b then Outer t depth (shared_below body slot) else Private t depth slot)
    by_test true h = cc
    by_test false h = refl

read_of_write : (t : ℕ) (cell : Cell) → MayWrite t cell → MayRead t cell
read_of_write t (Word place) h = h
read_of_write t (Register number) h = h
read_of_write t (Outer owner depth number) h = h
read_of_write t (Private owner depth slot) h = inl h

-- the cells of a block of the serial code
module _ (body : List Stmt) (depth t : ℕ) (n : Count) (block : Row_of-Stmt n)
    (own_ones : (slot : ℕ) → any_declares slot block ≡ true → is_shared body slot ≡ false)
    (written : (slot : ℕ) → any_writes slot block ≡ true → any_declares slot block ≡ false → is_shared body slot ≡ true) where
  abbrev cells : Frame
  cells = block_frame (own_frame body t 0) block (own_frame body 0 depth)

  block_reads : (slot : ℕ) → MayRead t (cells slot)
  block_reads slot = by_test (any_declares slot block) (is_shared body slot) (own_ones slot)
    where
      by_test : (d s : Bool) → (d ≡ true → s ≡ false) → MayRead t (if d then (if s then Outer t 0 (shared_below body slot) else Private t 0 slot) else (if s then Outer 0 depth (shared_below body slot) else Private 0 depth slot))
      by_test true true h = absurd (let never : true ≡ false = h refl in cc)
      by_test true false h = inl refl
      by_test false true h = refl
      by_test false false h = inr refl

  block_writes : (slot : ℕ) → any_writes slot block ≡ true → MayWrite t (cells slot)
  block_writes slot writes = by_test (any_declares slot block) (is_shared body slot) (own_ones slot) (written slot writes)
    where
      by_test : (d s : Bool) → (d ≡ true → s ≡ false) → (d ≡ false → s ≡ true) → MayWrite t (if d then (if s then Outer t 0 (shared_below body slot) else Private t 0 slot) else (if s then Outer 0 depth (shared_below body slot) else Private 0 depth slot))
      by_test true true h g = absurd (let never : true ≡ false = h refl in cc)
      by_test true false h g = refl
      by_test false true h g = refl
      by_test false false h g = absurd (let never : false ≡ true = g refl in cc)

  block_declares : (slot : ℕ) → any_declares slot block ≡ true → MayWrite t (cells slot)
  block_declares slot declares = by_test (any_declares slot block) (is_shared body slot) (own_ones slot) declares
    where
      by_test : (d s : Bool) → (d ≡ true → s ≡ false) → d ≡ true → MayWrite t (if d then (if s then Outer t 0 (shared_below body slot) else Private t 0 slot) else (if s then Outer 0 depth (shared_below body slot) else Private 0 depth slot))
      by_test true true h g = absurd (let never : true ≡ false = h refl in cc)
      by_test true false h g = refl
      by_test false s h g = cc

-- The code of a plain program is fine.
pub fine_program : (program : Program) (MayCall : ℕ → Type 0) → IsPlain program MayCall → FineProgram program MayCall
fine_program program MayCall plain =
    record {
      serial = λ f depth values. serial f depth values (slice_get program.functions f) refl;
      virtual = λ t f depth values positive may. virtual t f depth values may (slice_get program.functions f) refl;
    }
  where
    spawned : (function : Function) (depth : ℕ) (n : Count) (block : Row_of-Stmt n) (site : ℕ) →
        WithShared (IsPlainBlock MayCall function.body) (λ slot. is_shared function.body slot ≡ true) n block →
        (◌≡◌ {A = ℕ} 0 0) × FineBlock MayCall (λ thread. sequence program.globals (λ child. own_frame function.body child 0) (block_frame (own_frame function.body thread 0) block (own_frame function.body 0 depth)) (1 + site) block)
    spawned function depth n block site h = (
      refl,
      λ t positive.
          fine_sequence program.globals (λ child. own_frame function.body child 0) t MayCall NoBlock (block_frame (own_frame function.body t 0) block (own_frame function.body 0 depth))
          (block_reads function.body depth t n block h.0.2 h.1) NoSpawn (λ m row s none. absurd none) (1 + site) block h.0.1
          (block_writes function.body depth t n block h.0.2 h.1) (block_declares function.body depth t n block h.0.2 h.1) h.0.0,
    )

    serial : (f depth : ℕ) (values : List ℕ) (o : Option Function) → slice_get program.functions f ≡ o → FineCode 0 AnyFunction (FineBlock MayCall) (function_code program 0 f depth values o)
    serial f depth values None there = tt
    serial f depth values (Some function) there =
        fine_parameters 0 AnyFunction (FineBlock MayCall) (own_frame function.body 0 depth) (own_serial function.body depth) 0 values _
        (fine_statements program.globals (λ child. own_frame function.body child 0) 0 AnyFunction (FineBlock MayCall) (own_frame function.body 0 depth) (λ slot. read_of_write 0 (own_frame function.body 0 depth slot) (own_serial function.body depth slot))
        (WithShared (IsPlainBlock MayCall function.body) (λ slot. is_shared function.body slot ≡ true)) (spawned function depth)
        (first_site program.functions f) function.body (λ g h. tt) (λ slot h. own_serial function.body depth slot) (λ slot h. own_serial function.body depth slot)
        (list_with_shared (IsPlainBlock MayCall function.body) (λ slot. is_shared function.body slot ≡ true) function.body (plain.blocks f function there) (λ slot h. h)))

    virtual : (t f depth : ℕ) (values : List ℕ) → MayCall f → (o : Option Function) → slice_get program.functions f ≡ o → FineCode t MayCall NoBlock (function_code program t f depth values o)
    virtual t f depth values may None there = tt
    virtual t f depth values may (Some function) there =
        let is_plain : ListBlocksAre NoSpawn function.body × ((g : ℕ) → list_any (λ s. calls g s.kind) function.body ≡ true → MayCall g) = plain.called f function there may in
        let writable : (slot : ℕ) → MayWrite t (own_frame function.body t depth slot) = λ slot. own_virtual function.body t depth slot (none_shared_list slot function.body is_plain.0) in
        fine_parameters t MayCall NoBlock (own_frame function.body t depth) writable 0 values _
        (fine_statements program.globals (λ child. own_frame function.body child 0) t MayCall NoBlock (own_frame function.body t depth) (λ slot. read_of_write t (own_frame function.body t depth slot) (writable slot))
        NoSpawn (λ m row s none. absurd none)
        (first_site program.functions f) function.body is_plain.1 (λ slot h. writable slot) (λ slot h. writable slot) is_plain.0)
