use Rattle.std.proofs.Common.{◌≡◌, length, take}
use Rattle.machine_turns.proofs.sections.overwrite.Given as goal

abbrev pub decreases-loop : goal.decreases-loop
decreases-loop l = length l.frame

abbrev pub invariant-loop-value : goal.invariant-loop-value
invariant-loop-value l = l.frame ≡ take l.value-index l.values
