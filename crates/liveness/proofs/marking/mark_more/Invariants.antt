use Rattle.std.proofs.Common.{ℕ, ◌<◌, ◌≤◌, ◌+◌, ◌≡◌, true, false, Some, length}
use Rattle.std.specs.Prelude.{slice_get}
use Rattle.xmt_quads.specs.declared.code.Quad.{Quad}
use Rattle.xmt_quads.specs.Program.{behind_join}
use Rattle.liveness.specs.Marking.{is_marked, passes, AreSound, count_of_marked}
use Rattle.liveness.proofs.marking.mark_more.Given as goal

-- while none is marked, the positions that were looked at are as closed marks say
abbrev pub invariant-loop-at : goal.invariant-loop-at
invariant-loop-at l = record {
  within : l.at ≤ length l.quads;
  room : length l.marks ≡ length l.quads;
  behind : l.behind ≡ behind_join l.quads l.at;
  sound : AreSound l.quads l.register l.marks;
  kept : count_of_marked l.initial.marks ≤ count_of_marked l.marks;
  grown : l.more ≡ true → count_of_marked l.initial.marks < count_of_marked l.marks;
  closed : l.more ≡ false → (at : ℕ) (q : Quad) → l.at ≤ at → slice_get l.quads at ≡ Some q →
      passes l.register l.marks (at + 1) (behind_join l.quads at) q ≡ true → is_marked l.marks at ≡ true;
}

abbrev pub decreases-loop-at : goal.decreases-loop-at
decreases-loop-at l = l.at
