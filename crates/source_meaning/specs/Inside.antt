-- What stands inside an expression or a statement, at any depth.
use Rattle.std.specs.Prelude.{Bool, false, ◌||◌, List, Option, Some, None}
use Rattle.std.specs.List.{list_any}
use Rattle.source_meaning.specs.declared.tree.Expr.{Expr}
use Rattle.source_meaning.specs.declared.tree.ExprKind.{ExprKind, Row_of-Expr, end_of-Expr, more_of-Expr}
use Rattle.source_meaning.specs.declared.tree.ExprKind.TheVariants as expr
use Rattle.source_meaning.specs.declared.tree.Spot.{Spot}
use Rattle.source_meaning.specs.declared.tree.Spot.TheVariants as spot
use Rattle.source_meaning.specs.declared.tree.Stmt.{Stmt}
use Rattle.source_meaning.specs.declared.tree.StmtKind.{StmtKind, Row_of-Stmt, end_of-Stmt, more_of-Stmt, Held-StmtKind-If-2, None', Some'}
use Rattle.source_meaning.specs.declared.tree.StmtKind.TheVariants as stmt

module _ (test : ExprKind → Bool) where
  abbrev mutual
    -- whether an expression inside this one passes the test
    pub some_inside : ExprKind → Bool
    some_inside (expr.Read p) = some_in_spot p
    some_inside (expr.Assign' p shape e) = some_in_spot p || some_in_row e
    some_inside (expr.Update' op p shape e) = some_in_spot p || some_in_row e
    some_inside (expr.Step p up after) = some_in_spot p
    some_inside (expr.Unary' op shape e) = some_in_row e
    some_inside (expr.Binary' op left a right b) = some_in_row a || some_in_row b
    some_inside (expr.Both' left a right b) = some_in_row a || some_in_row b
    some_inside (expr.Either' left a right b) = some_in_row a || some_in_row b
    some_inside (expr.Choose' first choice left a right b) = some_in_row choice || some_in_row a || some_in_row b
    some_inside (expr.Call' function shape values) = some_in_row values
    some_inside _ = false

    -- the same of an index
    pub some_in_spot : Spot → Bool
    some_in_spot (spot.Element' g shape index) = some_in_row index
    some_in_spot _ = false

    -- whether one of these expressions, or one inside them, passes
    pub some_in_row : {n : _} → Row_of-Expr n → Bool
    some_in_row end_of-Expr = false
    some_in_row (more_of-Expr place kind rest) = (test kind || some_inside kind) || some_in_row rest

  -- whether the expression, or one inside it, passes
  abbrev pub some_expression : ExprKind → Bool
  some_expression kind = test kind || some_inside kind

  abbrev pub some_option : Option Expr → Bool
  some_option None = false
  some_option (Some e) = some_expression e.kind

  -- the same of the expressions of a statement that stand in no statement inside it
  abbrev pub some_of_statement : StmtKind → Bool
  some_of_statement (stmt.Value e) = some_expression e.kind
  some_of_statement (stmt.Declare slot value) = some_option value
  some_of_statement (stmt.If' choice shape body other) = some_expression choice.kind
  some_of_statement (stmt.While' choice shape body) = some_expression choice.kind
  some_of_statement (stmt.Do' shape body choice) = some_expression choice.kind
  some_of_statement (stmt.For' first_shape first choice third shape body) = some_option choice || some_option third
  some_of_statement (stmt.Return value) = some_option value
  some_of_statement (stmt.Spawn' low high shape block) = some_expression low.kind || some_expression high.kind
  some_of_statement (stmt.Ps v r) = some_in_spot v
  some_of_statement (stmt.Psm v p) = some_in_spot v || some_in_spot p
  some_of_statement (stmt.Print text values) = list_any (λ e. some_expression e.kind) values
  some_of_statement _ = false

module _ (test : StmtKind → Bool) where
  abbrev mutual
    -- whether a statement inside this one passes the test
    pub some_below : StmtKind → Bool
    some_below (stmt.Block' shape body) = some_in_body body
    some_below (stmt.If' choice shape body other) = some_in_body body || some_in_other other
    some_below (stmt.While' choice shape body) = some_in_body body
    some_below (stmt.Do' shape body choice) = some_in_body body
    some_below (stmt.For' first_shape first choice third shape body) = some_in_body first || some_in_body body
    some_below (stmt.Spawn' low high shape block) = some_in_body block
    some_below _ = false

    -- whether one of these statements, or one inside them, passes
    pub some_in_body : {n : _} → Row_of-Stmt n → Bool
    some_in_body end_of-Stmt = false
    some_in_body (more_of-Stmt place kind rest) = (test kind || some_below kind) || some_in_body rest

    pub some_in_other : Held-StmtKind-If-2 → Bool
    some_in_other None' = false
    some_in_other (Some' shape body) = some_in_body body

  -- whether the statement, or one inside it, passes
  abbrev pub some_statement : StmtKind → Bool
  some_statement kind = test kind || some_below kind

  abbrev pub some_in_list : List Stmt → Bool
  some_in_list body = list_any (λ s. some_statement s.kind) body
