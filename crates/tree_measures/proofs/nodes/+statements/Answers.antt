use Rattle.std.proofs.Common.{arith, ◌≡◌, ◌∙◌, ◌+◌, ap}
use Rattle.source_meaning.specs.declared.tree.Expr.{Expr}
use Rattle.source_meaning.specs.declared.tree.Stmt.{Stmt}
use Rattle.tree_measures.specs.Nodes.{expression_nodes, option_nodes, statement_nodes, nodes_of_statements}
use Rattle.tree_measures.proofs.Rows.{nodes_of_for, nodes_of_spawn}
use Rattle.tree_measures.proofs.nodes.+statements.Goals as goal

pub statement_count-returns-in-For : goal.statement_count-returns-in-For
statement_count-returns-in-For t c =
    let all : statement_nodes c.args.s.now.kind ≡ 1 + (nodes_of_statements c.in-For.first + (option_nodes c.in-For.test + (option_nodes c.in-For.third + (statement_nodes c.in-For.body.kind + 0)))) = ap statement_nodes c.in-For.is ∙ nodes_of_for c.in-For.first c.in-For.test c.in-For.third c.in-For.body in
    let first : nodes_of_statements c.as_slice-in-For.result.now ≡ nodes_of_statements c.in-For.first = ap nodes_of_statements c.as_slice-in-For.ensures in
    let body : statement_nodes c.get-in-For.result.now.kind ≡ statement_nodes c.in-For.body.kind = ap (λ (s : Stmt). statement_nodes s.kind) c.get-in-For.ensures in
    omega (arith, all, first, body, c.with_itself-in-For.ensures, c.saturating_add-in-For.ensures, c.saturating_add-parts.ensures, c.saturating_add-head.ensures, c.option_count-in-For.ensures, c.option_count-in-For-2.ensures, c.statements_count-in-For.ensures, c.statement_count-in-For.ensures)

pub statement_count-returns-in-Spawn : goal.statement_count-returns-in-Spawn
statement_count-returns-in-Spawn t c =
    let all : statement_nodes c.args.s.now.kind ≡ 1 + (expression_nodes c.in-Spawn.low.kind + (expression_nodes c.in-Spawn.high.kind + nodes_of_statements c.in-Spawn.body)) = ap statement_nodes c.in-Spawn.is ∙ nodes_of_spawn c.in-Spawn.low c.in-Spawn.high c.in-Spawn.body in
    let body : nodes_of_statements c.as_slice-in-Spawn.result.now ≡ nodes_of_statements c.in-Spawn.body = ap nodes_of_statements c.as_slice-in-Spawn.ensures in
    let low : expression_nodes c.get-in-Spawn.result.now.kind ≡ expression_nodes c.in-Spawn.low.kind = ap (λ (e : Expr). expression_nodes e.kind) c.get-in-Spawn.ensures in
    let high : expression_nodes c.get-in-Spawn-2.result.now.kind ≡ expression_nodes c.in-Spawn.high.kind = ap (λ (e : Expr). expression_nodes e.kind) c.get-in-Spawn-2.ensures in
    omega (arith, all, body, low, high, c.with_itself-in-Spawn.ensures, c.saturating_add-in-Spawn.ensures, c.saturating_add-bounds.ensures, c.expression_count-in-Spawn.ensures, c.expression_count-in-Spawn-2.ensures, c.statements_count-in-Spawn.ensures)
