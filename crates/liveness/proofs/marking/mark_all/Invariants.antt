use Rattle.std.proofs.Common.{◌-◌, ◌≡◌, length}
use Rattle.liveness.specs.Marking.{AreSound, count_of_marked}
use Rattle.liveness.proofs.marking.mark_all.Given as goal

abbrev pub invariant-loop : goal.invariant-loop
invariant-loop l = record {
  room : length l.marks ≡ length l.quads;
  sound : AreSound l.quads l.register l.marks;
}

-- the positions that are not marked
abbrev pub decreases-loop : goal.decreases-loop
decreases-loop l = length l.quads - count_of_marked l.marks
