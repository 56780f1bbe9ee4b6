-- Lists of trees as rows, which are how trees hold trees.
use Rattle.std.specs.Prelude.{ℕ, suc, List, [], ◌∷◌}
use mathlib.Core.Former.{Count, none_left, one_more}
use Rattle.source_meaning.specs.declared.tree.Expr.{Expr}
use Rattle.source_meaning.specs.declared.tree.ExprKind.{Row_of-Expr, end_of-Expr, more_of-Expr}
use Rattle.source_meaning.specs.declared.tree.Stmt.{Stmt}
use Rattle.source_meaning.specs.declared.tree.StmtKind.{Row_of-Stmt, end_of-Stmt, more_of-Stmt}

abbrev pub count_of : {A : Type 0} → List A → Count
count_of [] = none_left
count_of (x ∷ xs) = one_more (count_of xs)

abbrev pub row_of : (values : List Expr) → Row_of-Expr (count_of values)
row_of [] = end_of-Expr
row_of (e ∷ values) = more_of-Expr e.at e.kind (row_of values)

abbrev pub rows_of : (body : List Stmt) → Row_of-Stmt (count_of body)
rows_of [] = end_of-Stmt
rows_of (s ∷ body) = more_of-Stmt s.at s.kind (rows_of body)

-- how many values stand in a row
abbrev pub row_length : {n : _} → Row_of-Expr n → ℕ
row_length end_of-Expr = 0
row_length (more_of-Expr place kind rest) = suc (row_length rest)
