use Rattle.std.proofs.Common.{◌≡◌, drop, None}
use Rattle.spawn_check.specs.First.{first_in_functions}
use Rattle.spawn_check.proofs.first.first_refusal.Given as goal

-- with the rest it is the first of all
abbrev pub invariant-loop-function : goal.invariant-loop-function
invariant-loop-function l = first_in_functions l.marks (drop l.function-index l.functions) l.first ≡ first_in_functions l.marks l.functions None
