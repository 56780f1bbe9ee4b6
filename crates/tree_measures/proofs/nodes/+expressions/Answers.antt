use Rattle.std.proofs.Common.{arith, ◌≡◌, ◌∙◌, ◌+◌, ap}
use Rattle.tree_measures.specs.Nodes.{expression_nodes, nodes_of_expressions}
use Rattle.tree_measures.proofs.Rows.{nodes_of_call}
use Rattle.tree_measures.proofs.nodes.+expressions.Goals as goal

pub expression_count-returns-in-Call : goal.expression_count-returns-in-Call
expression_count-returns-in-Call t c =
    let all : expression_nodes c.args.e.now.kind ≡ 1 + nodes_of_expressions c.in-Call.values = ap expression_nodes c.in-Call.is ∙ nodes_of_call c.in-Call.field-0 c.in-Call.values in
    let same : nodes_of_expressions c.as_slice.result.now ≡ nodes_of_expressions c.in-Call.values = ap nodes_of_expressions c.as_slice.ensures in
    omega (arith, all, same, c.with_itself-in-Call.ensures, c.expressions_count.ensures)
