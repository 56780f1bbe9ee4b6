use Rattle.std.proofs.Common.{◌≡◌, drop}
use Rattle.spawn_check.specs.First.{first_in_values}
use Rattle.spawn_check.proofs.first.+expressions.Given as goal

-- with the rest it is the first of all
abbrev pub invariant-after_values-loop-value : goal.invariant-after_values-loop-value
invariant-after_values-loop-value l = first_in_values l.marks l.around (drop l.value-index l.values) l.first ≡ first_in_values l.marks l.around l.values l.fn.first
