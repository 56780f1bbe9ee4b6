-- How many values wait at most while an expression is computed: with its operands left to right, each finished one waits for the next.
use Rattle.std.specs.Prelude.{ℕ, ◌+◌, max, List, [], ◌∷◌}
use Rattle.xmt_lex.specs.declared.kinds.Mark.{Mark}
use Rattle.xmt_lex.specs.declared.kinds.Mark.TheVariants as m
use Rattle.raw_tree.specs.declared.tree.RawExpr.{RawExpr}
use Rattle.raw_tree.specs.declared.tree.RawExprKind.{RawExprKind, Row_of-RawExpr, end_of-RawExpr, more_of-RawExpr}
use Rattle.raw_tree.specs.declared.tree.RawExprKind.TheVariants as e
use Rattle.raw_tree.specs.declared.tree.RawSpot.{RawSpot}
use Rattle.raw_tree.specs.declared.tree.RawSpot.TheVariants as spot

-- of a binary mark, from those of its operands: where the left one decides, nothing waits for the right one
abbrev pub waiting_of_both : Mark → (left right : ℕ) → ℕ
waiting_of_both m.AndAnd left right = max left right
waiting_of_both m.OrOr left right = max left right
waiting_of_both _ left right = max left (1 + right)

-- the old value waits where an operator joins it with the new one
abbrev pub kept : Mark → ℕ
kept m.Equal = 0
kept _ = 1

abbrev mutual
  pub waiting : RawExprKind → ℕ
  waiting (e.Assign' p m shape a) = waiting_of_write p (kept m + waiting_of_box a)
  waiting (e.Choose' first choice left a right b) = max (waiting_of_box choice) (max (waiting_of_box a) (waiting_of_box b))
  waiting (e.Binary' m left a right b) = waiting_of_both m (waiting_of_box a) (waiting_of_box b)
  waiting (e.Prefix' m shape a) = waiting_of_box a
  waiting (e.StepBefore m p) = waiting_of_step p
  waiting (e.StepAfter p m) = waiting_of_step p
  waiting (e.Read p) = waiting_of_read p
  waiting (e.Call' name shape values) = max 1 (waiting_of_row values)
  waiting (e.Number v) = 1
  waiting e.Dollar = 1
  waiting (e.Brackets' shape a) = waiting_of_box a

  -- a write of a value with so many: a tested place waits for it
  pub waiting_of_write : RawSpot → ℕ → ℕ
  waiting_of_write (spot.Name name) value = value
  waiting_of_write (spot.Element' name shape index) value = max (waiting_of_box index) (1 + value)

  pub waiting_of_read : RawSpot → ℕ
  waiting_of_read (spot.Name name) = 1
  waiting_of_read (spot.Element' name shape index) = waiting_of_box index

  pub waiting_of_step : RawSpot → ℕ
  waiting_of_step (spot.Name name) = 2
  waiting_of_step (spot.Element' name shape index) = max (waiting_of_box index) 3

  pub waiting_of_box : {n : _} → Row_of-RawExpr n → ℕ
  waiting_of_box end_of-RawExpr = 0
  waiting_of_box (more_of-RawExpr place kind rest) = waiting kind

  -- of values that are computed one behind the other and all kept
  pub waiting_of_row : {n : _} → Row_of-RawExpr n → ℕ
  waiting_of_row end_of-RawExpr = 0
  waiting_of_row (more_of-RawExpr place kind rest) = max (waiting kind) (1 + waiting_of_row rest)

abbrev pub waiting_of_values : List RawExpr → ℕ
waiting_of_values [] = 0
waiting_of_values (a ∷ rest) = max (waiting a.kind) (1 + waiting_of_values rest)
