use Rattle.std.proofs.Common.{◌≡◌, ◌^◌, ◌-◌, ◌<◌, min, max, drop}
use Rattle.tree_measures.specs.Nesting.{deepest_function}
use Rattle.tree_measures.proofs.nesting.nest_depth.Given as goal

-- with the rest it is the depth of all
abbrev pub invariant-loop-function : goal.invariant-loop-function
invariant-loop-function l = record { range : l.deepest < 2 ^ 32; all : min (max l.deepest (deepest_function (drop l.function-index l.function-items))) (2 ^ 32 - 1) ≡ min (deepest_function l.function-items) (2 ^ 32 - 1) }
