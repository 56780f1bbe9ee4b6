-- How deep a program is nested: the greatest number of statements and expressions on a path from the body of a function to a leaf.
-- The bodies of functions and of spawns are not counted themselves, nor is a place that is written, but its index is.
use Rattle.std.specs.Prelude.{ℕ, ◌+◌, max, List, [], ◌∷◌, Option, Some, None}
use Rattle.source_meaning.specs.declared.tree.Expr.{Expr}
use Rattle.source_meaning.specs.declared.tree.ExprKind.{ExprKind, Row_of-Expr, end_of-Expr, more_of-Expr}
use Rattle.source_meaning.specs.declared.tree.ExprKind.TheVariants as expr
use Rattle.source_meaning.specs.declared.tree.Spot.{Spot}
use Rattle.source_meaning.specs.declared.tree.Spot.TheVariants as spot
use Rattle.source_meaning.specs.declared.tree.Stmt.{Stmt}
use Rattle.source_meaning.specs.declared.tree.StmtKind.{StmtKind, Row_of-Stmt, end_of-Stmt, more_of-Stmt, Held-StmtKind-If-2, None', Some'}
use Rattle.source_meaning.specs.declared.tree.StmtKind.TheVariants as stmt
use Rattle.source_meaning.specs.declared.tree.Function.{Function}
use Rattle.source_meaning.specs.declared.tree.Program.{Program}

abbrev mutual
  -- the expression, and the deepest of its parts
  pub expression_depth : ExprKind → ℕ
  expression_depth (expr.Read p) = 1 + index_depth p
  expression_depth (expr.Assign' p shape e) = 1 + max (index_depth p) (deepest_of e)
  expression_depth (expr.Update' op p shape e) = 1 + max (index_depth p) (deepest_of e)
  expression_depth (expr.Step p up after) = 1 + index_depth p
  expression_depth (expr.Unary' op shape e) = 1 + deepest_of e
  expression_depth (expr.Binary' op left a right b) = 1 + max (deepest_of a) (deepest_of b)
  expression_depth (expr.Both' left a right b) = 1 + max (deepest_of a) (deepest_of b)
  expression_depth (expr.Either' left a right b) = 1 + max (deepest_of a) (deepest_of b)
  expression_depth (expr.Choose' first test left a right b) = 1 + max (deepest_of test) (max (deepest_of a) (deepest_of b))
  expression_depth (expr.Call' function shape values) = 1 + deepest_of values
  expression_depth _ = 1

  pub index_depth : Spot → ℕ
  index_depth (spot.Element' g shape index) = deepest_of index
  index_depth _ = 0

  pub deepest_of : {n : _} → Row_of-Expr n → ℕ
  deepest_of end_of-Expr = 0
  deepest_of (more_of-Expr place kind rest) = max (expression_depth kind) (deepest_of rest)

abbrev pub deepest_expression : List Expr → ℕ
deepest_expression [] = 0
deepest_expression (e ∷ rest) = max (expression_depth e.kind) (deepest_expression rest)

abbrev pub option_depth : Option Expr → ℕ
option_depth None = 0
option_depth (Some e) = expression_depth e.kind

abbrev mutual
  -- the statement, and the deepest of its parts
  pub statement_depth : StmtKind → ℕ
  statement_depth (stmt.Value e) = 1 + expression_depth e.kind
  statement_depth (stmt.Declare slot value) = 1 + option_depth value
  statement_depth (stmt.Block' shape body) = 1 + deepest_in body
  statement_depth (stmt.If' test shape body other) = 1 + max (expression_depth test.kind) (max (deepest_in body) (else_depth other))
  statement_depth (stmt.While' test shape body) = 1 + max (expression_depth test.kind) (deepest_in body)
  statement_depth (stmt.Do' shape body test) = 1 + max (deepest_in body) (expression_depth test.kind)
  statement_depth (stmt.For' first_shape first test third shape body) =
      1 + max (deepest_in first) (max (option_depth test) (max (option_depth third) (deepest_in body)))
  statement_depth (stmt.Return value) = 1 + option_depth value
  statement_depth (stmt.Spawn' low high shape body) = 1 + max (expression_depth low.kind) (max (expression_depth high.kind) (deepest_in body))
  statement_depth (stmt.Ps v r) = 1 + index_depth v
  statement_depth (stmt.Psm v p) = 1 + max (index_depth v) (index_depth p)
  statement_depth (stmt.Print text values) = 1 + deepest_expression values
  statement_depth _ = 1

  pub deepest_in : {n : _} → Row_of-Stmt n → ℕ
  deepest_in end_of-Stmt = 0
  deepest_in (more_of-Stmt place kind rest) = max (statement_depth kind) (deepest_in rest)

  pub else_depth : Held-StmtKind-If-2 → ℕ
  else_depth None' = 0
  else_depth (Some' shape body) = deepest_in body

abbrev pub deepest_statement : List Stmt → ℕ
deepest_statement [] = 0
deepest_statement (s ∷ rest) = max (statement_depth s.kind) (deepest_statement rest)

abbrev pub deepest_function : List Function → ℕ
deepest_function [] = 0
deepest_function (function ∷ rest) = max (deepest_statement function.body) (deepest_function rest)

abbrev pub program_depth : Program → ℕ
program_depth program = deepest_function program.functions
