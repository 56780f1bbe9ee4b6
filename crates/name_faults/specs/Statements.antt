-- What is broken in a statement, and what its declarations leave in reach.
use Rattle.std.specs.Prelude.{ℕ, ◌+◌, max, map, nat_lt, ◌==◌, not, if◌then◌else◌, Bool, true, false, List, [], ◌∷◌, length, Option, Some, None}
use Rattle.xmt_base.specs.declared.values.Place.{Place}
use Rattle.xmt_base.specs.Format.{has_directives, directives}
use Rattle.raw_tree.specs.declared.tree.RawName.{RawName}
use Rattle.raw_tree.specs.declared.tree.RawText.{RawText}
use Rattle.raw_tree.specs.declared.tree.RawExpr.{RawExpr}
use Rattle.raw_tree.specs.declared.tree.RawSpot.{RawSpot}
use Rattle.raw_tree.specs.declared.tree.RawSpot.TheVariants as spot
use Rattle.raw_tree.specs.declared.tree.RawLocal.{RawLocal}
use Rattle.raw_tree.specs.declared.tree.RawDecl.{RawDecl}
use Rattle.raw_tree.specs.declared.tree.RawFirst.{RawFirst}
use Rattle.raw_tree.specs.declared.tree.RawFirst.TheVariants as begins
use Rattle.raw_tree.specs.declared.tree.RawStmt.{RawStmt}
use Rattle.raw_tree.specs.declared.tree.RawStmtKind.{RawStmtKind, Row_of-RawStmt, end_of-RawStmt, more_of-RawStmt, Held-RawStmtKind-If-2, None', Some'}
use Rattle.raw_tree.specs.declared.tree.RawStmtKind.TheVariants as s
use Rattle.name_scopes.specs.declared.fault.Which.TheVariants as which
use Rattle.name_scopes.specs.declared.fault.NameKind.TheVariants as kind
use Rattle.name_scopes.specs.declared.scope.Binding.{Binding}
use Rattle.name_scopes.specs.declared.scope.Declared.{Declared}
use Rattle.name_scopes.specs.Fault.{Faults, none, one, both, when, over}
use Rattle.name_scopes.specs.Scope.{look}
use Rattle.name_scopes.specs.Locals.{Env, declare_local, left, is_constant}
use Rattle.name_scopes.specs.Waiting.{waiting, waiting_of_read, waiting_of_values}
use Rattle.name_faults.specs.Expressions.{meaning, sum_fault, register_fault, write_fault, written, faults, faults_of_spot, faults_of_values, whole, whole_option}

-- ---- declarations

-- the name is declared at this place or behind it
abbrev pub is_from : (start : ℕ) → Option Binding → Bool
is_from start None = false
is_from start (Some binding) = not (nat_lt binding.place start)

-- the name is declared already in the scope that began after so many declarations
abbrev pub double_fault : (start : ℕ) → RawName → List Declared → Faults
double_fault start name ds = when (is_from start (look ds name.bytes)) kind.Double name.at

abbrev pub declare_all : (constant : Bool) → List RawLocal → Env → Env
declare_all constant [] env = env
declare_all constant (l ∷ rest) env = declare_all constant rest (declare_local constant l.name env)

-- a name is known behind its own initial value
abbrev pub locals_faults : (start : ℕ) (constant : Bool) → List RawLocal → Env → Faults
locals_faults start constant [] env = none
locals_faults start constant (l ∷ rest) env =
    both (both (whole_option env.declared true l.value) (double_fault start l.name env.declared)) (locals_faults start constant rest (declare_local constant l.name env))

abbrev pub after_decl : RawDecl → Env → Env
after_decl d env = declare_all (is_constant d.ty.qualifiers) d.locals env

abbrev pub decl_faults : (start : ℕ) → RawDecl → Env → Faults
decl_faults start d env = locals_faults start (is_constant d.ty.qualifiers) d.locals env

abbrev pub after_first : RawFirst → Env → Env
after_first (begins.Decl d) env = after_decl d env
after_first (begins.Value v) env = env

abbrev pub first_faults : (start : ℕ) → RawFirst → Env → Faults
first_faults start (begins.Decl d) env = decl_faults start d env
first_faults start (begins.Value v) env = whole_option env.declared false v

-- ---- what stands in no other statement

abbrev pub return_faults : (value : Bool) (at : Place) → Option RawExpr → List Declared → Faults
return_faults value at None ds = none
return_faults value at (Some a) ds = both (whole ds true a) (when (not value) kind.VoidValue at)

abbrev pub waits : (number : ℕ) → Place → Faults
waits number at = when (nat_lt 256 number) (kind.TooMany which.Waiting) at

abbrev pub bounds_faults : (at : Place) (low high : RawExpr) → List Declared → Faults
bounds_faults at low high ds = both (both (faults ds true low.kind) (faults ds true high.kind)) (waits (max (waiting low.kind) (1 + waiting high.kind)) at)

abbrev pub summed_fault : RawName → List Declared → Faults
summed_fault name ds = both (sum_fault name (meaning ds name)) (write_fault name (meaning ds name))

abbrev pub sum_place_faults : RawSpot → List Declared → Faults
sum_place_faults (spot.Name name) ds = summed_fault name ds
sum_place_faults (spot.Element' name shape index) ds = both (faults_of_spot ds (spot.Element' name shape index)) (written ds (spot.Element' name shape index))

abbrev pub psm_faults : (at : Place) → RawName → RawSpot → List Declared → Faults
psm_faults at name place ds = both (both (summed_fault name ds) (sum_place_faults place ds)) (waits (max 3 (1 + waiting_of_read place)) at)

abbrev pub format_fault : (at : Place) → RawText → (count : ℕ) → Faults
format_fault at text count = if has_directives false text.bytes then when (not (directives false text.bytes == count)) kind.WrongCount at else one kind.BadFormat text.at

abbrev pub place_of : RawExpr → Place
place_of a = a.at

abbrev pub print_faults : (at : Place) → RawText → List RawExpr → List Declared → Faults
print_faults at text values ds =
    both (format_fault at text (length values)) (both (faults_of_values ds values) (both (over 16 which.PrintValues (map place_of values)) (waits (waiting_of_values values) at)))

-- ---- statements

abbrev mutual
  -- the names in reach behind a statement
  pub after : RawStmtKind → Env → Env
  after (s.Block' shape body) env = left (length env.declared) (after_row body env)
  after (s.Decl d) env = after_decl d env
  after (s.If' test shape body other) env = after_held other (after_inner body env)
  after (s.While' test shape body) env = after_inner body env
  after (s.Do' shape body test) env = after_inner body env
  after (s.For' begin test third shape body) env = left (length env.declared) (after_inner body (after_first begin env))
  after (s.Spawn' low high shape body) env = left (length env.declared) (after_row body env)
  after _ env = env

  -- a branch or the body of a loop is a scope of its own
  pub after_inner : {n : _} → Row_of-RawStmt n → Env → Env
  after_inner end_of-RawStmt env = env
  after_inner (more_of-RawStmt place what rest) env = left (length env.declared) (after what env)

  pub after_held : Held-RawStmtKind-If-2 → Env → Env
  after_held None' env = env
  after_held (Some' shape body) env = after_inner body env

  pub after_row : {n : _} → Row_of-RawStmt n → Env → Env
  after_row end_of-RawStmt env = env
  after_row (more_of-RawStmt place what rest) env = after_row rest (after what env)

abbrev pub after_all : List RawStmt → Env → Env
after_all [] env = env
after_all (x ∷ rest) env = after_all rest (after x.kind env)

-- in a function whose calls have a value or have none
module _ (value : Bool) where
  abbrev mutual
    -- what is broken in a statement of the scope that began after so many declarations
    pub statement_faults : (start : ℕ) (at : Place) → RawStmtKind → Env → Faults
    statement_faults start at (s.Block' shape body) env = row_faults (length env.declared) body env
    statement_faults start at (s.Decl d) env = decl_faults start d env
    statement_faults start at s.Empty env = none
    statement_faults start at (s.Value a) env = whole env.declared false a
    statement_faults start at (s.If' test shape body other) env = both (whole env.declared true test) (both (inner_faults body env) (held_faults other (after_inner body env)))
    statement_faults start at (s.While' test shape body) env = both (whole env.declared true test) (inner_faults body env)
    statement_faults start at (s.Do' shape body test) env = both (inner_faults body env) (whole env.declared true test)
    statement_faults start at (s.For' begin test third shape body) env =
        both (first_faults (length env.declared) begin env)
        (both (both (whole_option (after_first begin env).declared true test) (whole_option (after_first begin env).declared false third)) (inner_faults body (after_first begin env)))
    statement_faults start at s.Break env = none
    statement_faults start at s.Continue env = none
    statement_faults start at (s.Return v) env = return_faults value at v env.declared
    statement_faults start at (s.Spawn' low high shape body) env = both (bounds_faults at low high env.declared) (row_faults (length env.declared) body env)
    statement_faults start at (s.Ps v r) env = both (summed_fault v env.declared) (register_fault r (meaning env.declared r))
    statement_faults start at (s.Psm v p) env = psm_faults at v p env.declared
    statement_faults start at (s.Print text values) env = print_faults at text values env.declared

    pub inner_faults : {n : _} → Row_of-RawStmt n → Env → Faults
    inner_faults end_of-RawStmt env = none
    inner_faults (more_of-RawStmt place what rest) env = statement_faults (length env.declared) place what env

    pub held_faults : Held-RawStmtKind-If-2 → Env → Faults
    held_faults None' env = none
    held_faults (Some' shape body) env = inner_faults body env

    pub row_faults : (start : ℕ) → {n : _} → Row_of-RawStmt n → Env → Faults
    row_faults start end_of-RawStmt env = none
    row_faults start (more_of-RawStmt place what rest) env = both (statement_faults start place what env) (row_faults start rest (after what env))

  -- statements one behind the other
  abbrev pub statements_faults : (start : ℕ) → List RawStmt → Env → Faults
  statements_faults start [] env = none
  statements_faults start (x ∷ rest) env = both (statement_faults start x.at x.kind env) (statements_faults start rest (after x.kind env))
