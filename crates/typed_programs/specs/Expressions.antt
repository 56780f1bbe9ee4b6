-- The typed expression that a raw one stands for, by what the names in reach stand for. It means something where no rule is broken.
use Rattle.std.specs.Prelude.{ℕ, ◌-◌, ◌^◌, min, Bool, true, false, List, [], ◌∷◌, map, Option, Some}
use Rattle.std.specs.Option.{option_map}
use Rattle.xmt_base.specs.declared.values.Place.{Place}
use Rattle.xmt_lex.specs.declared.kinds.Mark.{Mark}
use Rattle.xmt_lex.specs.declared.kinds.Mark.TheVariants as m
use Rattle.raw_tree.specs.declared.tree.RawExpr.{RawExpr}
use Rattle.raw_tree.specs.declared.tree.RawExprKind.{RawExprKind, Row_of-RawExpr, end_of-RawExpr, more_of-RawExpr}
use Rattle.raw_tree.specs.declared.tree.RawExprKind.TheVariants as raw
use Rattle.raw_tree.specs.declared.tree.RawSpot.{RawSpot}
use Rattle.raw_tree.specs.declared.tree.RawSpot.TheVariants as place
use Rattle.source_meaning.specs.declared.tree.Expr.{Expr}
use Rattle.source_meaning.specs.declared.tree.ExprKind.{ExprKind}
use Rattle.source_meaning.specs.declared.tree.ExprKind.TheVariants as e
use Rattle.source_meaning.specs.declared.tree.Spot.{Spot}
use Rattle.source_meaning.specs.declared.tree.Spot.TheVariants as spot
use Rattle.name_scopes.specs.declared.scope.Meaning.{Meaning}
use Rattle.name_scopes.specs.declared.scope.Meaning.TheVariants as means
use Rattle.name_scopes.specs.declared.scope.Declared.{Declared}
use Rattle.name_scopes.specs.Constant.{unary_of, binary_of}
use Rattle.name_faults.specs.Expressions.{meaning}

-- a number of 32 bits; a program within the limits has no greater one
abbrev pub number : ℕ → ℕ
number n = min n (2 ^ 32 - 1)

-- the variable or register that a name stands for
abbrev pub variable : Option Meaning → Spot
variable (Some (means.Scalar n constant)) = spot.Global (number n)
variable (Some (means.Register n)) = spot.Register (number n)
variable (Some (means.Local n constant)) = spot.Local (number n)
variable _ = spot.Local 0

abbrev pub array_number : Option Meaning → ℕ
array_number (Some (means.Array n constant)) = number n
array_number _ = 0

abbrev pub function_number : Option Meaning → ℕ
function_number (Some (means.Function n value params)) = number n
function_number _ = 0

abbrev pub register_number : Option Meaning → ℕ
register_number (Some (means.Register n)) = number n
register_number _ = 0

abbrev pub node : Place → ExprKind → Expr
node at kind = record { at = at; kind = kind }

abbrev pub assigned : Mark → Spot → Expr → ExprKind
assigned m.Equal p a = e.Assign p a
assigned mark p a = e.Update (binary_of mark) p a

abbrev pub joined : Mark → Expr → Expr → ExprKind
joined m.AndAnd a b = e.Both a b
joined m.OrOr a b = e.Either a b
joined mark a b = e.Binary (binary_of mark) a b

-- a step adds 1, and else takes 1 away
abbrev pub is_up : Mark → Bool
is_up m.PlusPlus = true
is_up _ = false

-- a choice begins where its test begins
abbrev pub chosen : (test a b : Expr) → Expr
chosen test a b = node test.at (e.Choose test a b)

abbrev pub prefixed : Place → Mark → Expr → Expr
prefixed at mark a = node at (e.Unary (unary_of mark) a)

abbrev pub element : (array : ℕ) → Expr → Spot
element array index = spot.Element array index

abbrev pub nothing : Expr
nothing = record { at = record { line = 0; column = 0 }; kind = e.Number 0 }

module _ (ds : List Declared) where
  abbrev mutual
    -- brackets leave the place of what they stand round
    pub typed : Place → RawExprKind → Expr
    typed at (raw.Assign' p mark shape a) = node at (assigned mark (typed_spot p) (typed_box a))
    typed at (raw.Choose' first test left a right b) = chosen (typed_box test) (typed_box a) (typed_box b)
    typed at (raw.Binary' mark left a right b) = node (typed_box a).at (joined mark (typed_box a) (typed_box b))
    typed at (raw.Prefix' mark shape a) = prefixed at mark (typed_box a)
    typed at (raw.StepBefore mark p) = node at (e.Step (typed_spot p) (is_up mark) false)
    typed at (raw.StepAfter p mark) = node at (e.Step (typed_spot p) (is_up mark) true)
    typed at (raw.Read p) = node at (e.Read (typed_spot p))
    typed at (raw.Call' name shape values) = node at (e.Call (function_number (meaning ds name)) (typed_row values))
    typed at (raw.Number v) = node at (e.Number v)
    typed at raw.Dollar = node at e.Dollar
    typed at (raw.Brackets' shape a) = typed_box a

    pub typed_spot : RawSpot → Spot
    typed_spot (place.Name name) = variable (meaning ds name)
    typed_spot (place.Element' name shape index) = element (array_number (meaning ds name)) (typed_box index)

    pub typed_box : {n : _} → Row_of-RawExpr n → Expr
    typed_box end_of-RawExpr = nothing
    typed_box (more_of-RawExpr at kind rest) = typed at kind

    pub typed_row : {n : _} → Row_of-RawExpr n → List Expr
    typed_row end_of-RawExpr = []
    typed_row (more_of-RawExpr at kind rest) = typed at kind ∷ typed_row rest

  -- the two last parts of a choice or of a binary operator's expression
  abbrev pub last_left : RawExprKind → Expr
  last_left (raw.Choose' first test left a right b) = typed_box a
  last_left (raw.Binary' mark left a right b) = typed_box a
  last_left _ = nothing

  abbrev pub last_right : RawExprKind → Expr
  last_right (raw.Choose' first test left a right b) = typed_box b
  last_right (raw.Binary' mark left a right b) = typed_box b
  last_right _ = nothing

  abbrev pub expression : RawExpr → Expr
  expression a = typed a.at a.kind

  abbrev pub expressions : List RawExpr → List Expr
  expressions values = map expression values

  abbrev pub option : Option RawExpr → Option Expr
  option e = option_map expression e
