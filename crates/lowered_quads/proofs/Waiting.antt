-- The registers of a function within the limits: 256 behind its variables are enough.
use Rattle.std.proofs.Common.{◌≡◌, refl, ◌∙◌, ap, arith, ℕ, ◌+◌, ◌≤◌, Bool, true, false, List, [], ◌∷◌, Option, Some, None}
use Rattle.std.proofs.lemmas.Bool.{ltb-false}
use Rattle.std.specs.Prelude.{max, nat_lt, ◌||◌}
use Rattle.source_meaning.specs.declared.tree.Expr.{Expr}
use Rattle.source_meaning.specs.declared.tree.StmtKind.{StmtKind, Row_of-Stmt, end_of-Stmt, more_of-Stmt, Held-StmtKind-If-2, None', Some'}
use Rattle.source_meaning.specs.declared.tree.StmtKind.TheVariants as stmt
use Rattle.source_meaning.specs.declared.tree.Function.{Function}
use Rattle.source_meaning.specs.Inside.{some_below, some_in_body, some_in_other, some_statement}
use Rattle.tree_measures.specs.Waiting.{waiting_in, waiting_behind, waiting_behind_list}
use Rattle.checked_programs.specs.Limits.{waiting_in_option, most_waiting, FunctionIsWithinLimits}
use Rattle.quad_code.specs.Rows.{row_of, rows_of}
use Rattle.quad_limits.specs.Waiting.{waiting_option, waiting_statement, waiting_statements, waiting_else, function_registers}
use Rattle.lowered_quads.proofs.Lists.{in_rows}

-- more than 256 values wait in a statement, outside the statements inside it
abbrev is_over : StmtKind → Bool
is_over kind = nat_lt 256 (most_waiting kind)

left_none : (a b : Bool) → (a || b) ≡ false → a ≡ false
left_none true b h = h
left_none false b h = refl

right_none : (a b : Bool) → (a || b) ≡ false → b ≡ false
right_none true b h = absurd (let clash : true ≡ false = h in cc)
right_none false b h = h

few : (kind : StmtKind) → is_over kind ≡ false → most_waiting kind ≤ 256
few kind h = ltb-false 256 (most_waiting kind) h

both : (a b : ℕ) → a ≤ 256 → b ≤ 256 → max a b ≤ 256
both a b first second = grind (arith, first, second)

left_of : (a b : ℕ) → max a b ≤ 256 → a ≤ 256
left_of a b h = grind (arith, h)

right_of : (a b : ℕ) → max a b ≤ 256 → b ≤ 256
right_of a b h = grind (arith, h)

same_option : (e : Option Expr) → waiting_in_option e ≡ waiting_option e
same_option None = refl
same_option (Some e) = refl

same_values : (before : ℕ) (values : List Expr) → waiting_behind_list before values ≡ waiting_behind before (row_of values)
same_values before [] = refl
same_values before (e ∷ rest) = ap (λ n. max (before + waiting_in e.kind) n) (same_values (before + 1) rest)

mutual
  waits : (kind : StmtKind) → some_statement is_over kind ≡ false → waiting_statement kind ≤ 256
  waits stmt.Empty none = omega arith
  waits (stmt.Value e) none = let here : most_waiting (stmt.Value e) ≤ 256 = few (stmt.Value e) (left_none (is_over (stmt.Value e)) (some_below is_over (stmt.Value e)) none) in here
  waits (stmt.Declare slot value) none = let here : most_waiting (stmt.Declare slot value) ≤ 256 = few (stmt.Declare slot value) (left_none (is_over (stmt.Declare slot value)) (some_below is_over (stmt.Declare slot value)) none) in omega (arith, here, same_option value)
  waits (stmt.Block' shape body) none = let below : some_below is_over (stmt.Block' shape body) ≡ false = right_none (is_over (stmt.Block' shape body)) (some_below is_over (stmt.Block' shape body)) none in waits_in body below
  waits (stmt.If' test shape body other) none = let here : most_waiting (stmt.If' test shape body other) ≤ 256 = few (stmt.If' test shape body other) (left_none (is_over (stmt.If' test shape body other)) (some_below is_over (stmt.If' test shape body other)) none) in let below : some_below is_over (stmt.If' test shape body other) ≡ false = right_none (is_over (stmt.If' test shape body other)) (some_below is_over (stmt.If' test shape body other)) none in both (waiting_in test.kind) (max (waiting_statements body) (waiting_else other)) here (both (waiting_statements body) (waiting_else other) (waits_in body (left_none (some_in_body is_over body) (some_in_other is_over other) below)) (waits_else other (right_none (some_in_body is_over body) (some_in_other is_over other) below)))
  waits (stmt.While' test shape body) none = let here : most_waiting (stmt.While' test shape body) ≤ 256 = few (stmt.While' test shape body) (left_none (is_over (stmt.While' test shape body)) (some_below is_over (stmt.While' test shape body)) none) in let below : some_below is_over (stmt.While' test shape body) ≡ false = right_none (is_over (stmt.While' test shape body)) (some_below is_over (stmt.While' test shape body)) none in both (waiting_in test.kind) (waiting_statements body) here (waits_in body below)
  waits (stmt.Do' shape body test) none = let here : most_waiting (stmt.Do' shape body test) ≤ 256 = few (stmt.Do' shape body test) (left_none (is_over (stmt.Do' shape body test)) (some_below is_over (stmt.Do' shape body test)) none) in let below : some_below is_over (stmt.Do' shape body test) ≡ false = right_none (is_over (stmt.Do' shape body test)) (some_below is_over (stmt.Do' shape body test)) none in both (waiting_statements body) (waiting_in test.kind) (waits_in body below) here
  waits (stmt.For' first_shape first test third shape body) none = let here : most_waiting (stmt.For' first_shape first test third shape body) ≤ 256 = few (stmt.For' first_shape first test third shape body) (left_none (is_over (stmt.For' first_shape first test third shape body)) (some_below is_over (stmt.For' first_shape first test third shape body)) none) in let below : some_below is_over (stmt.For' first_shape first test third shape body) ≡ false = right_none (is_over (stmt.For' first_shape first test third shape body)) (some_below is_over (stmt.For' first_shape first test third shape body)) none in let t : waiting_option test ≤ 256 = omega (arith, left_of (waiting_in_option test) (waiting_in_option third) here, same_option test) in let u : waiting_option third ≤ 256 = omega (arith, right_of (waiting_in_option test) (waiting_in_option third) here, same_option third) in both (waiting_statements first) (max (waiting_option test) (max (waiting_option third) (waiting_statements body))) (waits_in first (left_none (some_in_body is_over first) (some_in_body is_over body) below)) (both (waiting_option test) (max (waiting_option third) (waiting_statements body)) t (both (waiting_option third) (waiting_statements body) u (waits_in body (right_none (some_in_body is_over first) (some_in_body is_over body) below))))
  waits stmt.Break none = omega arith
  waits stmt.Continue none = omega arith
  waits (stmt.Return value) none = let here : most_waiting (stmt.Return value) ≤ 256 = few (stmt.Return value) (left_none (is_over (stmt.Return value)) (some_below is_over (stmt.Return value)) none) in omega (arith, here, same_option value)
  waits (stmt.Spawn' low high shape body) none = let here : most_waiting (stmt.Spawn' low high shape body) ≤ 256 = few (stmt.Spawn' low high shape body) (left_none (is_over (stmt.Spawn' low high shape body)) (some_below is_over (stmt.Spawn' low high shape body)) none) in let below : some_below is_over (stmt.Spawn' low high shape body) ≡ false = right_none (is_over (stmt.Spawn' low high shape body)) (some_below is_over (stmt.Spawn' low high shape body)) none in let bounds : max (waiting_in low.kind) (1 + waiting_in high.kind) ≤ 256 = right_of 1 (max (waiting_in low.kind) (1 + waiting_in high.kind)) here in both (waiting_in low.kind) (max (1 + waiting_in high.kind) (waiting_statements body)) (left_of (waiting_in low.kind) (1 + waiting_in high.kind) bounds) (both (1 + waiting_in high.kind) (waiting_statements body) (right_of (waiting_in low.kind) (1 + waiting_in high.kind) bounds) (waits_in body below))
  waits (stmt.Ps v r) none = omega arith
  waits (stmt.Psm v p) none = let here : most_waiting (stmt.Psm v p) ≤ 256 = few (stmt.Psm v p) (left_none (is_over (stmt.Psm v p)) (some_below is_over (stmt.Psm v p)) none) in here
  waits (stmt.Print text values) none = let here : most_waiting (stmt.Print text values) ≤ 256 = few (stmt.Print text values) (left_none (is_over (stmt.Print text values)) (some_below is_over (stmt.Print text values)) none) in omega (arith, right_of 1 (waiting_behind_list 0 values) here, same_values 0 values)

  waits_in : {n : _} (row : Row_of-Stmt n) → some_in_body is_over row ≡ false → waiting_statements row ≤ 256
  waits_in end_of-Stmt none = omega arith
  waits_in (more_of-Stmt place kind rest) none =
      both (waiting_statement kind) (waiting_statements rest) (waits kind (left_none (some_statement is_over kind) (some_in_body is_over rest) none)) (waits_in rest (right_none (some_statement is_over kind) (some_in_body is_over rest) none))

  waits_else : (other : Held-StmtKind-If-2) → some_in_other is_over other ≡ false → waiting_else other ≤ 256
  waits_else None' none = omega arith
  waits_else (Some' shape body) none = waits_in body none

pub few_registers : (f : Function) → FunctionIsWithinLimits f → function_registers f ≤ f.variables + 256
few_registers f limits =
    let waiting : waiting_statements (rows_of f.body) ≤ 256 = waits_in (rows_of f.body) (in_rows is_over f.body ∙ limits.waiting) in
    grind (arith, waiting)
