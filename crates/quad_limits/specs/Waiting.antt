-- How many values wait at most in the expressions of a statement.
use Rattle.std.specs.Prelude.{ℕ, ◌+◌, max, Option, Some, None}
use Rattle.source_meaning.specs.declared.tree.Expr.{Expr}
use Rattle.source_meaning.specs.declared.tree.Function.{Function}
use Rattle.source_meaning.specs.declared.tree.StmtKind.{StmtKind, Row_of-Stmt, end_of-Stmt, more_of-Stmt, Held-StmtKind-If-2, None', Some'}
use Rattle.source_meaning.specs.declared.tree.StmtKind.TheVariants as stmt
use Rattle.tree_measures.specs.Waiting.{waiting_in, waiting_behind, waiting_for_sum}
use Rattle.quad_code.specs.Rows.{row_of, rows_of}

abbrev pub waiting_option : Option Expr → ℕ
waiting_option None = 0
waiting_option (Some e) = waiting_in e.kind

abbrev mutual
  -- how many values wait at most in an expression of the statement
  pub waiting_statement : StmtKind → ℕ
  waiting_statement (stmt.Value e) = waiting_in e.kind
  waiting_statement (stmt.Declare slot value) = waiting_option value
  waiting_statement (stmt.Block' shape body) = waiting_statements body
  waiting_statement (stmt.If' test shape body other) = max (waiting_in test.kind) (max (waiting_statements body) (waiting_else other))
  waiting_statement (stmt.While' test shape body) = max (waiting_in test.kind) (waiting_statements body)
  waiting_statement (stmt.Do' shape body test) = max (waiting_statements body) (waiting_in test.kind)
  waiting_statement (stmt.For' first_shape first test third shape body) = max (waiting_statements first) (max (waiting_option test) (max (waiting_option third) (waiting_statements body)))
  waiting_statement (stmt.Return value) = waiting_option value
  waiting_statement (stmt.Spawn' low high shape body) = max (waiting_in low.kind) (max (1 + waiting_in high.kind) (waiting_statements body))
  waiting_statement (stmt.Ps v r) = 2
  waiting_statement (stmt.Psm v p) = waiting_for_sum p
  waiting_statement (stmt.Print text values) = waiting_behind 0 (row_of values)
  waiting_statement _ = 0

  pub waiting_statements : {n : _} → Row_of-Stmt n → ℕ
  waiting_statements end_of-Stmt = 0
  waiting_statements (more_of-Stmt place kind rest) = max (waiting_statement kind) (waiting_statements rest)

  pub waiting_else : Held-StmtKind-If-2 → ℕ
  waiting_else None' = 0
  waiting_else (Some' shape body) = waiting_statements body

-- the variables of a function, and the values that wait in it; a shared parameter waits once
abbrev pub function_registers : Function → ℕ
function_registers function = function.variables + max 1 (waiting_statements (rows_of function.body))
