-- How many values wait at most while an expression is computed, or a statement that computes several values.
use Rattle.std.specs.Prelude.{ℕ, ◌+◌, max, List, [], ◌∷◌}
use Rattle.source_meaning.specs.declared.tree.Expr.{Expr}
use Rattle.source_meaning.specs.declared.tree.ExprKind.{ExprKind, Row_of-Expr, end_of-Expr, more_of-Expr}
use Rattle.source_meaning.specs.declared.tree.ExprKind.TheVariants as expr
use Rattle.source_meaning.specs.declared.tree.Spot.{Spot}
use Rattle.source_meaning.specs.declared.tree.Spot.TheVariants as spot
use Rattle.source_meaning.specs.declared.tree.StmtKind.{StmtKind}
use Rattle.source_meaning.specs.declared.tree.StmtKind.TheVariants as stmt

abbrev mutual
  -- the value of the right operand comes while that of the left one waits
  pub waiting_in : ExprKind → ℕ
  waiting_in (expr.Number n) = 1
  waiting_in expr.Dollar = 1
  waiting_in (expr.Read p) = waiting_at p 1 0
  waiting_in (expr.Assign' p shape e) = waiting_at p (waiting_boxed e) (1 + waiting_boxed e)
  waiting_in (expr.Update' op p shape e) = waiting_at p (1 + waiting_boxed e) (2 + waiting_boxed e)
  waiting_in (expr.Step p up after) = waiting_at p 2 3
  waiting_in (expr.Unary' op shape e) = waiting_boxed e
  waiting_in (expr.Binary' op left a right b) = max (waiting_boxed a) (1 + waiting_boxed b)
  waiting_in (expr.Both' left a right b) = max (waiting_boxed a) (waiting_boxed b)
  waiting_in (expr.Either' left a right b) = max (waiting_boxed a) (waiting_boxed b)
  waiting_in (expr.Choose' first test left a right b) = max (waiting_boxed test) (max (waiting_boxed a) (waiting_boxed b))
  waiting_in (expr.Call' function shape values) = max 1 (waiting_behind 0 values)

  -- at a variable or a register so many; at an element so many beside those of its index
  pub waiting_at : Spot → (variable element : ℕ) → ℕ
  waiting_at (spot.Element' g shape index) variable element = max (waiting_boxed index) element
  waiting_at _ variable element = variable

  pub waiting_boxed : {n : _} → Row_of-Expr n → ℕ
  waiting_boxed end_of-Expr = 0
  waiting_boxed (more_of-Expr place kind rest) = waiting_in kind

  -- of values from left to right, when so many wait already
  pub waiting_behind : (before : ℕ) → {n : _} → Row_of-Expr n → ℕ
  waiting_behind before end_of-Expr = 0
  waiting_behind before (more_of-Expr place kind rest) = max (before + waiting_in kind) (waiting_behind (before + 1) rest)

-- the same of a list of values
abbrev pub waiting_behind_list : (before : ℕ) → List Expr → ℕ
waiting_behind_list before [] = 0
waiting_behind_list before (e ∷ values) = max (before + waiting_in e.kind) (waiting_behind_list (before + 1) values)

-- for the place of `psm`
abbrev pub waiting_for_sum : Spot → ℕ
waiting_for_sum (spot.Element' g shape index) = max 3 (1 + waiting_boxed index)
waiting_for_sum _ = 3

-- of the statements that compute several values: the values of a print and the two bounds of a spawn are as those of a call. In the others no
-- value waits outside their expressions
abbrev pub waiting_in_statement : StmtKind → ℕ
waiting_in_statement (stmt.Spawn' low high shape block) = max 1 (max (waiting_in low.kind) (1 + waiting_in high.kind))
waiting_in_statement (stmt.Ps v r) = 2
waiting_in_statement (stmt.Psm v p) = waiting_for_sum p
waiting_in_statement (stmt.Print text values) = max 1 (waiting_behind_list 0 values)
waiting_in_statement _ = 0
