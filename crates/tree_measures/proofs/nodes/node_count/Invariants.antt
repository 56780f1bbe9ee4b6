use Rattle.std.proofs.Common.{◌≡◌, ◌^◌, ◌-◌, ◌+◌, ◌<◌, min, drop, length, sum_by}
use Rattle.tree_measures.specs.Nodes.{function_nodes}
use Rattle.tree_measures.proofs.nodes.node_count.Given as goal

abbrev pub invariant-loop-global : goal.invariant-loop-global
invariant-loop-global l = record { range : l.count < 2 ^ 64; all : min (l.count + sum_by (λ global. 1 + length global.opening) (drop l.global-index l.global-items)) (2 ^ 64 - 1) ≡ min (sum_by (λ global. 1 + length global.opening) l.global-items) (2 ^ 64 - 1) }

abbrev pub invariant-loop-function : goal.invariant-loop-function
invariant-loop-function l = record { range : l.count < 2 ^ 64; all : min (l.count + sum_by function_nodes (drop l.function-index l.function-items)) (2 ^ 64 - 1) ≡ min (l.initial.count + sum_by function_nodes l.function-items) (2 ^ 64 - 1) }
