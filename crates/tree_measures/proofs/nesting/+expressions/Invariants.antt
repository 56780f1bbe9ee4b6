use Rattle.std.proofs.Common.{◌≡◌, ◌^◌, ◌-◌, ◌<◌, min, max, drop}
use Rattle.tree_measures.specs.Nesting.{deepest_expression}
use Rattle.tree_measures.proofs.nesting.+expressions.Given as goal

-- with the rest it is the depth of all
abbrev pub invariant-depth_of_expressions-loop-value : goal.invariant-depth_of_expressions-loop-value
invariant-depth_of_expressions-loop-value l = record { range : l.deepest < 2 ^ 32; all : min (max l.deepest (deepest_expression (drop l.value-index l.values))) (2 ^ 32 - 1) ≡ min (deepest_expression l.values) (2 ^ 32 - 1) }
