use Rattle.std.proofs.Common.{◌≡◌, ◌^◌, ◌-◌, ◌+◌, ◌<◌, min, drop}
use Rattle.tree_measures.specs.Nodes.{nodes_of_statements}
use Rattle.tree_measures.proofs.nodes.+statements.Given as goal

abbrev pub invariant-statements_count-loop-s : goal.invariant-statements_count-loop-s
invariant-statements_count-loop-s l = record { range : l.count < 2 ^ 64; all : min (l.count + nodes_of_statements (drop l.s-index l.body)) (2 ^ 64 - 1) ≡ min (nodes_of_statements l.body) (2 ^ 64 - 1) }
