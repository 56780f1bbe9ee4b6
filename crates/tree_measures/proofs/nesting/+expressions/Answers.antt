use Rattle.std.proofs.Common.{arith, ◌≡◌, ◌∙◌, ◌+◌, ap}
use Rattle.tree_measures.specs.Nesting.{expression_depth, deepest_expression}
use Rattle.tree_measures.proofs.Rows.{depth_of_call}
use Rattle.tree_measures.proofs.nesting.+expressions.Goals as goal

pub depth_of_expression-returns-in-Call : goal.depth_of_expression-returns-in-Call
depth_of_expression-returns-in-Call t c =
    let all : expression_depth c.args.e.now.kind ≡ 1 + deepest_expression c.in-Call.values = ap expression_depth c.in-Call.is ∙ depth_of_call c.in-Call.field-0 c.in-Call.values in
    let same : deepest_expression c.as_slice.result.now ≡ deepest_expression c.in-Call.values = ap deepest_expression c.as_slice.ensures in
    omega (arith, all, same, c.below_itself-in-Call.ensures, c.depth_of_expressions.ensures)
