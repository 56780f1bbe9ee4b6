-- Constant expressions and their values.
use Rattle.std.specs.Prelude.{ℕ, ◌==◌, ◌&&◌, not, Bool, true, false, if◌then◌else◌, Option, Some, None}
use Rattle.xmt_base.specs.declared.operators.UnOp.{UnOp}
use Rattle.xmt_base.specs.declared.operators.UnOp.TheVariants as un
use Rattle.xmt_base.specs.declared.operators.BinOp.{BinOp}
use Rattle.xmt_base.specs.declared.operators.BinOp.TheVariants as op
use Rattle.xmt_base.specs.Operators.{truth, unary_value, binary_value}
use Rattle.xmt_lex.specs.declared.kinds.Mark.{Mark}
use Rattle.xmt_lex.specs.declared.kinds.Mark.TheVariants as m
use Rattle.raw_tree.specs.declared.tree.RawExprKind.{RawExprKind, Row_of-RawExpr, end_of-RawExpr, more_of-RawExpr}
use Rattle.raw_tree.specs.declared.tree.RawExprKind.TheVariants as e

-- the operator that a mark is; the grammar has no other marks there
abbrev pub unary_of : Mark → UnOp
unary_of m.Minus = un.Neg
unary_of m.Not = un.Not
unary_of m.Tilde = un.Flip
unary_of _ = un.Plus

-- the operator that a binary mark is, or with which an assignment joins the old value
abbrev pub binary_of : Mark → BinOp
binary_of m.Minus = op.Sub
binary_of m.MinusEqual = op.Sub
binary_of m.Star = op.Mul
binary_of m.StarEqual = op.Mul
binary_of m.Slash = op.Div
binary_of m.SlashEqual = op.Div
binary_of m.Percent = op.Rem
binary_of m.PercentEqual = op.Rem
binary_of m.Shl = op.Shl
binary_of m.ShlEqual = op.Shl
binary_of m.Shr = op.Shr
binary_of m.ShrEqual = op.Shr
binary_of m.And = op.BitAnd
binary_of m.AndEqual = op.BitAnd
binary_of m.Or = op.BitOr
binary_of m.OrEqual = op.BitOr
binary_of m.Caret = op.BitXor
binary_of m.CaretEqual = op.BitXor
binary_of m.Less = op.Lt
binary_of m.LessEqual = op.Le
binary_of m.More = op.Gt
binary_of m.MoreEqual = op.Ge
binary_of m.EqualEqual = op.Eq
binary_of m.NotEqual = op.Ne
binary_of _ = op.Add

abbrev pub both_values : BinOp → Option ℕ → Option ℕ → Option ℕ
both_values o None right = None
both_values o (Some a) None = None
both_values o (Some a) (Some b) = binary_value o a b

-- a test, and the value that it leads to where the number is 0, and otherwise
abbrev pub chosen_value : Option ℕ → (zero other : Option ℕ) → Option ℕ
chosen_value None zero other = None
chosen_value (Some a) zero other = if a == 0 then zero else other

abbrev pub truth_value : Option ℕ → Option ℕ
truth_value None = None
truth_value (Some a) = Some (truth (not (a == 0)))

abbrev pub joined_value : Mark → Option ℕ → Option ℕ → Option ℕ
joined_value m.AndAnd left right = chosen_value left (Some 0) (truth_value right)
joined_value m.OrOr left right = chosen_value left (truth_value right) (Some 1)
joined_value mark left right = both_values (binary_of mark) left right

abbrev pub prefixed_value : Mark → Option ℕ → Option ℕ
prefixed_value mark None = None
prefixed_value mark (Some a) = Some (unary_value (unary_of mark) a)

abbrev mutual
  -- the expression holds numbers and operators alone
  pub is_arithmetic : RawExprKind → Bool
  is_arithmetic (e.Number v) = true
  is_arithmetic (e.Brackets' shape a) = is_arithmetic_box a
  is_arithmetic (e.Prefix' m shape a) = is_arithmetic_box a
  is_arithmetic (e.Binary' m left a right b) = is_arithmetic_box a && is_arithmetic_box b
  is_arithmetic (e.Choose' first test left a right b) = is_arithmetic_box test && is_arithmetic_box a && is_arithmetic_box b
  is_arithmetic _ = false

  pub is_arithmetic_box : {n : _} → Row_of-RawExpr n → Bool
  is_arithmetic_box end_of-RawExpr = true
  is_arithmetic_box (more_of-RawExpr place kind rest) = is_arithmetic kind

abbrev mutual
  -- its value, with what isn't chosen left aside, and none where it divides by 0
  pub value : RawExprKind → Option ℕ
  value (e.Number v) = Some v
  value (e.Brackets' shape a) = value_of_box a
  value (e.Prefix' mark shape a) = prefixed_value mark (value_of_box a)
  value (e.Binary' mark left a right b) = joined_value mark (value_of_box a) (value_of_box b)
  value (e.Choose' first test left a right b) = chosen_value (value_of_box test) (value_of_box b) (value_of_box a)
  value _ = None

  pub value_of_box : {n : _} → Row_of-RawExpr n → Option ℕ
  value_of_box end_of-RawExpr = None
  value_of_box (more_of-RawExpr place kind rest) = value kind

-- the value of a constant expression, and none where it is none
abbrev pub constant : RawExprKind → Option ℕ
constant kind = if is_arithmetic kind then value kind else None
