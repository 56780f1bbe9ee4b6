use Rattle.std.proofs.Common.{ℕ, ◌≡◌, ◌<◌, ◌≤◌, length, false, get_or}
use Rattle.broadcast.specs.Positions.{IsWith}
use Rattle.broadcast.proofs.positions.add.Given as goal

abbrev pub invariant-loop-at : goal.invariant-loop-at
invariant-loop-at l = record {
  room : length l.marks ≡ length l.initial.masks;
  done : (k : ℕ) → k < l.at → IsWith (get_or l.marks k false) l.register (get_or l.initial.masks k 0) (get_or l.masks k 0);
  left : (k : ℕ) → l.at ≤ k → get_or l.masks k 0 ≡ get_or l.initial.masks k 0;
}
