use Rattle.broadcast.proofs.Sites.{AreAddedBefore}
use Rattle.broadcast.proofs.spawns.push_masks.Given as goal

abbrev pub invariant-loop-at : goal.invariant-loop-at
invariant-loop-at l = AreAddedBefore l.quads l.at l.positions l.initial.masks.items l.masks.items
