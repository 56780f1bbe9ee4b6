use Rattle.std.proofs.Common.{arith, ◌≡◌, ◌∙◌, ◌+◌, max, ap}
use Rattle.source_meaning.specs.declared.tree.Expr.{Expr}
use Rattle.source_meaning.specs.declared.tree.Stmt.{Stmt}
use Rattle.tree_measures.specs.Nesting.{expression_depth, option_depth, statement_depth, deepest_statement}
use Rattle.tree_measures.proofs.Rows.{depth_of_for, depth_of_spawn}
use Rattle.tree_measures.proofs.nesting.+statements.Goals as goal

pub depth_of_statement-returns-in-For : goal.depth_of_statement-returns-in-For
depth_of_statement-returns-in-For t c =
    let all : statement_depth c.args.s.now.kind ≡ 1 + max (deepest_statement c.in-For.first) (max (option_depth c.in-For.test) (max (option_depth c.in-For.third) (max (statement_depth c.in-For.body.kind) 0))) = ap statement_depth c.in-For.is ∙ depth_of_for c.in-For.first c.in-For.test c.in-For.third c.in-For.body in
    let first : deepest_statement c.as_slice-in-For.result.now ≡ deepest_statement c.in-For.first = ap deepest_statement c.as_slice-in-For.ensures in
    let body : statement_depth c.get-in-For.result.now.kind ≡ statement_depth c.in-For.body.kind = ap (λ (s : Stmt). statement_depth s.kind) c.get-in-For.ensures in
    omega (arith, all, first, body, c.below_itself-in-For.ensures, c.max-in-For.ensures, c.max-parts.ensures, c.max-head.ensures, c.depth_of_option-in-For.ensures, c.depth_of_option-in-For-2.ensures, c.depth_of_statements-in-For.ensures, c.depth_of_statement-in-For.ensures)

pub depth_of_statement-returns-in-Spawn : goal.depth_of_statement-returns-in-Spawn
depth_of_statement-returns-in-Spawn t c =
    let all : statement_depth c.args.s.now.kind ≡ 1 + max (expression_depth c.in-Spawn.low.kind) (max (expression_depth c.in-Spawn.high.kind) (deepest_statement c.in-Spawn.body)) = ap statement_depth c.in-Spawn.is ∙ depth_of_spawn c.in-Spawn.low c.in-Spawn.high c.in-Spawn.body in
    let body : deepest_statement c.as_slice-in-Spawn.result.now ≡ deepest_statement c.in-Spawn.body = ap deepest_statement c.as_slice-in-Spawn.ensures in
    let low : expression_depth c.get-in-Spawn.result.now.kind ≡ expression_depth c.in-Spawn.low.kind = ap (λ (e : Expr). expression_depth e.kind) c.get-in-Spawn.ensures in
    let high : expression_depth c.get-in-Spawn-2.result.now.kind ≡ expression_depth c.in-Spawn.high.kind = ap (λ (e : Expr). expression_depth e.kind) c.get-in-Spawn-2.ensures in
    omega (arith, all, body, low, high, c.below_itself-in-Spawn.ensures, c.max-in-Spawn.ensures, c.max-bounds.ensures, c.depth_of_expression-in-Spawn.ensures, c.depth_of_expression-in-Spawn-2.ensures, c.depth_of_statements-in-Spawn.ensures)
