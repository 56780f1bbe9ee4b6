-- In no statement of a function that breaks no rule more than 256 values wait.
use Rattle.std.proofs.Common.{◌≡◌, refl, ◌∙◌, arith, ℕ, ◌+◌, ◌≤◌, Bool, true, false, List, [], ◌∷◌, ◌++◌, length, Option, Some, None}
use Rattle.std.proofs.lemmas.Bool.{ltb-false, le-ltb}
use Rattle.std.specs.Prelude.{max, nat_lt, ◌||◌}
use Rattle.xmt_base.specs.declared.values.Place.{Place}
use Rattle.raw_tree.specs.declared.tree.RawExpr.{RawExpr}
use Rattle.raw_tree.specs.declared.tree.RawLocal.{RawLocal}
use Rattle.raw_tree.specs.declared.tree.RawFirst.{RawFirst}
use Rattle.raw_tree.specs.declared.tree.RawFirst.TheVariants as begins
use Rattle.raw_tree.specs.declared.tree.RawStmt.{RawStmt}
use Rattle.raw_tree.specs.declared.tree.RawStmtKind.{RawStmtKind, Row_of-RawStmt, end_of-RawStmt, more_of-RawStmt, Held-RawStmtKind-If-2, None', Some'}
use Rattle.raw_tree.specs.declared.tree.RawStmtKind.TheVariants as raw
use Rattle.source_meaning.specs.declared.tree.Expr.{Expr}
use Rattle.source_meaning.specs.declared.tree.Spot.{Spot}
use Rattle.source_meaning.specs.declared.tree.Spot.TheVariants as spot
use Rattle.source_meaning.specs.declared.tree.Stmt.{Stmt}
use Rattle.source_meaning.specs.declared.tree.StmtKind.{StmtKind}
use Rattle.source_meaning.specs.declared.tree.StmtKind.TheVariants as s
use Rattle.source_meaning.specs.declared.tree.StmtKind.TheBlock.{hidden-the_row-Stmt-0}
use Rattle.source_meaning.specs.Inside.{some_statement, some_in_body, some_in_list}
use Rattle.source_meaning.specs.Opened.{opened}
use Rattle.source_meaning.proofs.Rows.{some_in_body-items}
use Rattle.name_scopes.specs.declared.fault.Which.TheVariants as which
use Rattle.name_scopes.specs.declared.fault.NameKind.TheVariants as kinds
use Rattle.name_scopes.specs.declared.scope.Declared.{Declared}
use Rattle.name_scopes.specs.Locals.{Env, declare_local, is_constant}
use Rattle.name_scopes.specs.Waiting.{waiting, waiting_of_read, waiting_of_values}
use Rattle.name_faults.specs.Expressions.{whole, whole_option}
use Rattle.name_faults.specs.Statements.{after, after_inner, after_first, locals_faults, first_faults, return_faults, waits, statement_faults, inner_faults, held_faults, row_faults, statements_faults}
use Rattle.typed_programs.specs.Expressions.{typed_spot, expression, expressions, option}
use Rattle.typed_programs.specs.Statements.{declares, first_of, among, typed, typed_inner, typed_held, typed_row, typed_all}
use Rattle.tree_measures.specs.Waiting.{waiting_in, waiting_at, waiting_behind_list, waiting_for_sum}
use Rattle.checked_programs.specs.Limits.{waiting_in_option, most_waiting}
use Rattle.resolved_programs.proofs.NoFaults.{IsEmpty, fails}
use Rattle.resolved_programs.proofs.Waiting.{typed_waits, read_waits}

abbrev is_long : StmtKind → Bool
is_long x = nat_lt 256 (most_waiting x)

abbrev IsShort : StmtKind → Type 0
IsShort x = some_statement is_long x ≡ false

abbrev AreShort : List Stmt → Type 0
AreShort body = some_in_list is_long body ≡ false

neither : {a b : Bool} → a ≡ false → b ≡ false → (a || b) ≡ false
neither {a = true} is other = is
neither {a = false} is other = other

rows_short : (body : List Stmt) → AreShort body → some_in_body is_long (hidden-the_row-Stmt-0 body) ≡ false
rows_short body short = some_in_body-items is_long body ∙ short

one_short : (x : Stmt) → IsShort x.kind → AreShort (x ∷ [])
one_short x short = neither short refl

lists_short : (front rest : List Stmt) → AreShort front → AreShort rest → AreShort (front ++ rest)
lists_short [] rest ahead behind = behind
lists_short (x ∷ front) rest ahead behind = neither (first (some_statement is_long x.kind) (some_in_list is_long front) ahead) (lists_short front rest (second (some_statement is_long x.kind) (some_in_list is_long front) ahead) behind)
  where
    first : (a b : Bool) → (a || b) ≡ false → a ≡ false
    first true b is = is
    first false b is = refl

    second : (a b : Bool) → (a || b) ≡ false → b ≡ false
    second true b is = let clash : true ≡ false = is in cc
    second false b is = is

-- ---- expressions

few_wait : (n : ℕ) (at : Place) → IsEmpty (waits n at) → n ≤ 256
few_wait n at sound = ltb-false 256 n (fails (nat_lt 256 n) (kinds.TooMany which.Waiting) at sound)

whole_waits : (ds : List Declared) (wanted : Bool) (a : RawExpr) → IsEmpty (whole ds wanted a) → waiting_in (expression ds a).kind ≤ 256
whole_waits ds wanted a sound = omega (arith, typed_waits ds a.at a.kind, few_wait (waiting a.kind) a.at sound.1)

option_waits : (ds : List Declared) (wanted : Bool) (a : Option RawExpr) → IsEmpty (whole_option ds wanted a) → waiting_in_option (option ds a) ≤ 256
option_waits ds wanted None sound = omega arith
option_waits ds wanted (Some a) sound = whole_waits ds wanted a sound

return_waits : (ds : List Declared) (value : Bool) (at : Place) (a : Option RawExpr) → IsEmpty (return_faults value at a ds) → waiting_in_option (option ds a) ≤ 256
return_waits ds value at None sound = omega arith
return_waits ds value at (Some a) sound = whole_waits ds true a sound.0

values_wait : (ds : List Declared) (before : ℕ) (values : List RawExpr) → waiting_behind_list before (expressions ds values) ≤ before + waiting_of_values values
values_wait ds before [] = omega arith
values_wait ds before (a ∷ rest) = omega (arith, typed_waits ds a.at a.kind, values_wait ds (before + 1) rest)

sum_waits : (p : Spot) → waiting_for_sum p ≤ max 3 (1 + waiting_at p 1 0)
sum_waits (spot.Global g) = omega arith
sum_waits (spot.Element' g shape index) = omega arith
sum_waits (spot.Register r) = omega arith
sum_waits (spot.Local slot) = omega arith

-- ---- statements

short_value : (n : ℕ) → n ≤ 256 → (nat_lt 256 n || false) ≡ false
short_value n few = neither (le-ltb 256 n few) refl

declares_short : (start : ℕ) (constant : Bool) (locals : List RawLocal) (e : Env) → IsEmpty (locals_faults start constant locals e) → AreShort (declares constant locals e)
declares_short start constant [] e sound = refl
declares_short start constant (l ∷ rest) e sound =
    neither (short_value (waiting_in_option (option e.declared l.value)) (option_waits e.declared true l.value sound.0.0)) (declares_short start constant rest (declare_local constant l.name e) sound.1)

first_short : (start : ℕ) (begin : RawFirst) (e : Env) → IsEmpty (first_faults start begin e) → AreShort (first_of begin e)
first_short start (begins.Decl d) e sound = declares_short start (is_constant d.ty.qualifiers) d.locals e sound
first_short start (begins.Value None) e sound = refl
first_short start (begins.Value (Some a)) e sound = neither (short_value (waiting_in (expression e.declared a).kind) (whole_waits e.declared false a sound)) refl

OtherIsShort : Option Stmt → Type 0
OtherIsShort None = Unit {0}
OtherIsShort (Some x) = IsShort x.kind

if_short : (test : Expr) (body : Stmt) (other : Option Stmt) → waiting_in test.kind ≤ 256 → IsShort body.kind → OtherIsShort other → IsShort (s.If test body other)
unfolding opened OtherIsShort
if_short test body None few then_short else_short = neither (le-ltb 256 (waiting_in test.kind) few) (neither (neither then_short refl) refl)
if_short test body (Some x) few then_short else_short = neither (le-ltb 256 (waiting_in test.kind) few) (neither (neither then_short refl) (neither else_short refl))

for_short : (first : List Stmt) (test third : Option Expr) (body : Stmt) → AreShort first → waiting_in_option test ≤ 256 → waiting_in_option third ≤ 256 → IsShort body.kind →
    IsShort (s.For first test third body)
unfolding opened
for_short first test third body begins_short test_few third_few body_short =
    neither (le-ltb 256 (max (waiting_in_option test) (waiting_in_option third)) (omega arith)) (neither (rows_short first begins_short) (neither body_short refl))

module _ (value : Bool) where
  among_short : (start : ℕ) (at : Place) (kind : RawStmtKind) (e : Env) (x : Stmt) → IsEmpty (statement_faults value start at kind e) → IsShort x.kind → AreShort (among kind e x)
  among_short start at (raw.Decl d) e x sound short = declares_short start (is_constant d.ty.qualifiers) d.locals e sound
  among_short start at kind e x sound short = one_short x short

  mutual
    unfolding opened OtherIsShort

    statement_short : (start : ℕ) (at : Place) (kind : RawStmtKind) (e : Env) → IsEmpty (statement_faults value start at kind e) → IsShort (typed at kind e).kind
    statement_short start at (raw.Block' shape body) e sound = rows_short (typed_row body e) (row_short (length e.declared) body e sound)
    statement_short start at (raw.Decl d) e sound = rows_short (declares (is_constant d.ty.qualifiers) d.locals e) (declares_short start (is_constant d.ty.qualifiers) d.locals e sound)
    statement_short start at raw.Empty e sound = refl
    statement_short start at (raw.Value a) e sound = short_value (waiting_in (expression e.declared a).kind) (whole_waits e.declared false a sound)
    statement_short start at (raw.If' test shape body other) e sound =
        if_short (expression e.declared test) (typed_inner body e) (typed_held other (after_inner body e)) (whole_waits e.declared true test sound.0) (inner_short body e sound.1.0)
        (held_short other (after_inner body e) sound.1.1)
    statement_short start at (raw.While' test shape body) e sound =
        neither (le-ltb 256 (waiting_in (expression e.declared test).kind) (whole_waits e.declared true test sound.0)) (neither (inner_short body e sound.1) refl)
    statement_short start at (raw.Do' shape body test) e sound =
        neither (le-ltb 256 (waiting_in (expression e.declared test).kind) (whole_waits e.declared true test sound.1)) (neither (inner_short body e sound.0) refl)
    statement_short start at (raw.For' begin test third shape body) e sound =
        for_short (first_of begin e) (option (after_first begin e).declared test) (option (after_first begin e).declared third) (typed_inner body (after_first begin e))
        (first_short (length e.declared) begin e sound.0) (option_waits (after_first begin e).declared true test sound.1.0.0) (option_waits (after_first begin e).declared false third sound.1.0.1)
        (inner_short body (after_first begin e) sound.1.1)
    statement_short start at raw.Break e sound = refl
    statement_short start at raw.Continue e sound = refl
    statement_short start at (raw.Return v) e sound = short_value (waiting_in_option (option e.declared v)) (return_waits e.declared value at v sound)
    statement_short start at (raw.Spawn' low high shape body) e sound =
        let few = few_wait (max (waiting low.kind) (1 + waiting high.kind)) at sound.0.1 in
        neither (le-ltb 256 (max 1 (max (waiting_in (expression e.declared low).kind) (1 + waiting_in (expression e.declared high).kind)))
        (omega (arith, few, typed_waits e.declared low.at low.kind, typed_waits e.declared high.at high.kind))) (rows_short (typed_row body e) (row_short (length e.declared) body e sound.1))
    statement_short start at (raw.Ps v r) e sound = refl
    statement_short start at (raw.Psm v to) e sound =
        short_value (waiting_for_sum (typed_spot e.declared to)) (omega (arith, sum_waits (typed_spot e.declared to), read_waits e.declared to, few_wait (max 3 (1 + waiting_of_read to)) at sound.1))
    statement_short start at (raw.Print text values) e sound =
        short_value (max 1 (waiting_behind_list 0 (expressions e.declared values))) (omega (arith, values_wait e.declared 0 values, few_wait (waiting_of_values values) at sound.1.1.1))

    inner_short : {n : _} (row : Row_of-RawStmt n) (e : Env) → IsEmpty (inner_faults value row e) → IsShort (typed_inner row e).kind
    inner_short end_of-RawStmt e sound = refl
    inner_short (more_of-RawStmt at kind rest) e sound = statement_short (length e.declared) at kind e sound

    held_short : (held : Held-RawStmtKind-If-2) (e : Env) → IsEmpty (held_faults value held e) → OtherIsShort (typed_held held e)
    held_short None' e sound = tt
    held_short (Some' shape body) e sound = inner_short body e sound

    row_short : (start : ℕ) {n : _} (row : Row_of-RawStmt n) (e : Env) → IsEmpty (row_faults value start row e) → AreShort (typed_row row e)
    row_short start end_of-RawStmt e sound = refl
    row_short start (more_of-RawStmt at kind rest) e sound =
        lists_short (among kind e (typed at kind e)) (typed_row rest (after kind e)) (among_short start at kind e (typed at kind e) sound.0 (statement_short start at kind e sound.0))
        (row_short start rest (after kind e) sound.1)

  pub body_short : (start : ℕ) (body : List RawStmt) (e : Env) → IsEmpty (statements_faults value start body e) → AreShort (typed_all body e)
  body_short start [] e sound = refl
  body_short start (x ∷ rest) e sound =
      lists_short (among x.kind e (typed x.at x.kind e)) (typed_all rest (after x.kind e)) (among_short start x.at x.kind e (typed x.at x.kind e) sound.0 (statement_short start x.at x.kind e sound.0))
      (body_short start rest (after x.kind e) sound.1)
