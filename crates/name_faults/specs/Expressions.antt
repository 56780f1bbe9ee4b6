-- What is broken in an expression, by what the names in reach stand for.
use Rattle.std.specs.Prelude.{ℕ, suc, nat_lt, ◌==◌, not, Bool, true, false, List, [], ◌∷◌, Option, Some, None, is_none}
use Rattle.raw_tree.specs.declared.tree.RawName.{RawName}
use Rattle.raw_tree.specs.declared.tree.RawExpr.{RawExpr}
use Rattle.raw_tree.specs.declared.tree.RawExprKind.{RawExprKind, Row_of-RawExpr, end_of-RawExpr, more_of-RawExpr}
use Rattle.raw_tree.specs.declared.tree.RawExprKind.TheVariants as e
use Rattle.raw_tree.specs.declared.tree.RawSpot.{RawSpot}
use Rattle.raw_tree.specs.declared.tree.RawSpot.TheVariants as spot
use Rattle.name_scopes.specs.declared.fault.Which.TheVariants as which
use Rattle.name_scopes.specs.declared.fault.NameKind.TheVariants as kind
use Rattle.name_scopes.specs.declared.scope.Meaning.{Meaning}
use Rattle.name_scopes.specs.declared.scope.Meaning.TheVariants as means
use Rattle.name_scopes.specs.declared.scope.Binding.{Binding}
use Rattle.name_scopes.specs.declared.scope.Declared.{Declared}
use Rattle.name_scopes.specs.Fault.{Faults, none, one, both, when}
use Rattle.name_scopes.specs.Scope.{look}
use Rattle.name_scopes.specs.Waiting.{waiting}
use Rattle.name_scopes.specs.Constant.{constant}

abbrev pub meaning_of : Option Binding → Option Meaning
meaning_of None = None
meaning_of (Some binding) = Some binding.meaning

-- what a name stands for
abbrev pub meaning : List Declared → RawName → Option Meaning
meaning ds name = meaning_of (look ds name.bytes)

-- ---- the rules at one name

-- a name that is read or written as a variable
abbrev pub variable_fault : RawName → Option Meaning → Faults
variable_fault name None = one kind.Unknown name.at
variable_fault name (Some (means.Array number constant)) = one kind.NotScalar name.at
variable_fault name (Some (means.Function number value params)) = one kind.NotScalar name.at
variable_fault name (Some _) = none

-- a name with an index
abbrev pub array_fault : RawName → Option Meaning → Faults
array_fault name None = one kind.Unknown name.at
array_fault name (Some (means.Array number constant)) = none
array_fault name (Some _) = one kind.NotArray name.at

-- a name that a prefix-sum reads and writes
abbrev pub sum_fault : RawName → Option Meaning → Faults
sum_fault name None = one kind.Unknown name.at
sum_fault name (Some (means.Array number constant)) = one kind.NotScalar name.at
sum_fault name (Some (means.Function number value params)) = one kind.NotScalar name.at
sum_fault name (Some (means.Register number)) = one kind.NotScalar name.at
sum_fault name (Some _) = none

-- the register of a prefix-sum
abbrev pub register_fault : RawName → Option Meaning → Faults
register_fault name None = one kind.Unknown name.at
register_fault name (Some (means.Register number)) = none
register_fault name (Some _) = one kind.NotRegister name.at

-- a name that is written
abbrev pub write_fault : RawName → Option Meaning → Faults
write_fault name (Some (means.Scalar number constant)) = when constant kind.ConstWrite name.at
write_fault name (Some (means.Array number constant)) = when constant kind.ConstWrite name.at
write_fault name (Some (means.Local slot constant)) = when constant kind.ConstWrite name.at
write_fault name _ = none

-- a called name, with so many values; wanted tells that the value of the call is used
abbrev pub call_fault : (wanted : Bool) (count : ℕ) → RawName → Option Meaning → Faults
call_fault wanted count name None = one kind.Unknown name.at
call_fault true count name (Some (means.Function number value params)) = both (when (not (params == count)) kind.WrongCount name.at) (when (not value) kind.VoidValue name.at)
call_fault false count name (Some (means.Function number value params)) = when (not (params == count)) kind.WrongCount name.at
call_fault wanted count name (Some _) = one kind.NotFunction name.at

-- ---- expressions

abbrev pub name_of_spot : RawSpot → RawName
name_of_spot (spot.Name name) = name
name_of_spot (spot.Element' name shape index) = name

abbrev pub row_length : {n : _} → Row_of-RawExpr n → ℕ
row_length end_of-RawExpr = 0
row_length (more_of-RawExpr place kind rest) = suc (row_length rest)

module _ (ds : List Declared) where
  abbrev pub written : RawSpot → Faults
  written p = write_fault (name_of_spot p) (meaning ds (name_of_spot p))

  abbrev mutual
    -- what is broken in an expression; wanted tells that its value is used
    pub faults : (wanted : Bool) → RawExprKind → Faults
    faults wanted (e.Assign' p mark shape a) = both (both (faults_of_spot p) (written p)) (faults_of_box true a)
    faults wanted (e.Choose' first choice left a right b) = both (faults_of_box true choice) (both (faults_of_box true a) (faults_of_box true b))
    faults wanted (e.Binary' mark left a right b) = both (faults_of_box true a) (faults_of_box true b)
    faults wanted (e.Prefix' mark shape a) = faults_of_box true a
    faults wanted (e.StepBefore mark p) = both (faults_of_spot p) (written p)
    faults wanted (e.StepAfter p mark) = both (faults_of_spot p) (written p)
    faults wanted (e.Read p) = faults_of_spot p
    faults wanted (e.Call' name shape values) = both (call_fault wanted (row_length values) name (meaning ds name)) (faults_of_row values)
    faults wanted (e.Number v) = none
    faults wanted e.Dollar = none
    faults wanted (e.Brackets' shape a) = faults_of_box wanted a

    pub faults_of_spot : RawSpot → Faults
    faults_of_spot (spot.Name name) = variable_fault name (meaning ds name)
    faults_of_spot (spot.Element' name shape index) = both (array_fault name (meaning ds name)) (faults_of_box true index)

    pub faults_of_box : (wanted : Bool) → {n : _} → Row_of-RawExpr n → Faults
    faults_of_box wanted end_of-RawExpr = none
    faults_of_box wanted (more_of-RawExpr place kind rest) = faults wanted kind

    pub faults_of_row : {n : _} → Row_of-RawExpr n → Faults
    faults_of_row end_of-RawExpr = none
    faults_of_row (more_of-RawExpr place kind rest) = both (faults true kind) (faults_of_row rest)

  -- values, each of which is used
  abbrev pub faults_of_values : List RawExpr → Faults
  faults_of_values [] = none
  faults_of_values (a ∷ rest) = both (faults true a.kind) (faults_of_values rest)

  -- a whole expression, of which at most 256 values wait
  abbrev pub whole : (wanted : Bool) → RawExpr → Faults
  whole wanted a = both (faults wanted a.kind) (when (nat_lt 256 (waiting a.kind)) (kind.TooMany which.Waiting) a.at)

  abbrev pub whole_option : (wanted : Bool) → Option RawExpr → Faults
  whole_option wanted None = none
  whole_option wanted (Some a) = whole wanted a

  -- an expression that has to be constant
  abbrev pub constant_faults : RawExpr → Faults
  constant_faults a = both (faults true a.kind) (when (is_none (constant a.kind)) kind.NotConstant a.at)

  abbrev pub constants_faults : List RawExpr → Faults
  constants_faults [] = none
  constants_faults (a ∷ rest) = both (constant_faults a) (constants_faults rest)

  abbrev pub constant_option : Option RawExpr → Faults
  constant_option None = none
  constant_option (Some a) = constant_faults a
