use Rattle.std.proofs.Common.{arith}
use Rattle.broadcast.proofs.Held.{position_masks_are}
use Rattle.broadcast.proofs.positions.position_masks.Goals as goal

pub returns : goal.returns
returns c =
    position_masks_are c.args.quads.now c.args.homes.now c.loop-number.number c.loop-number.masks.items (omega (arith, c.requires.registers, c.loop-number-test.false)) c.loop-number.invariant.room
    c.loop-number.invariant.before
