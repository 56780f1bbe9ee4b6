use Rattle.std.proofs.Common.{◌≡◌, ◌^◌, ◌-◌, ◌<◌, min, max, drop}
use Rattle.tree_measures.specs.Nesting.{deepest_statement}
use Rattle.tree_measures.proofs.nesting.+statements.Given as goal

-- with the rest it is the depth of all
abbrev pub invariant-depth_of_statements-loop-s : goal.invariant-depth_of_statements-loop-s
invariant-depth_of_statements-loop-s l = record { range : l.deepest < 2 ^ 32; all : min (max l.deepest (deepest_statement (drop l.s-index l.body))) (2 ^ 32 - 1) ≡ min (deepest_statement l.body) (2 ^ 32 - 1) }
