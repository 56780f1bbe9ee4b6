use Rattle.std.proofs.Common.{◌≡◌, length}
use Rattle.broadcast.specs.Positions.{AreMasksBelow}
use Rattle.broadcast.proofs.positions.position_masks.Given as goal

abbrev pub invariant-loop-number : goal.invariant-loop-number
invariant-loop-number l = record {
  room : length l.masks.items ≡ length l.quads;
  before : AreMasksBelow l.quads l.homes l.number l.masks.items;
}
