use Rattle.std.proofs.Common.{◌≡◌, ◌^◌, ◌-◌, ◌+◌, ◌<◌, min, drop}
use Rattle.tree_measures.specs.Nodes.{nodes_of_expressions}
use Rattle.tree_measures.proofs.nodes.+expressions.Given as goal

abbrev pub invariant-expressions_count-loop-value : goal.invariant-expressions_count-loop-value
invariant-expressions_count-loop-value l = record { range : l.count < 2 ^ 64; all : min (l.count + nodes_of_expressions (drop l.value-index l.values)) (2 ^ 64 - 1) ≡ min (nodes_of_expressions l.values) (2 ^ 64 - 1) }
