use Rattle.broadcast.proofs.Held.{all_zero}
use Rattle.broadcast.proofs.slots.slots_have_no_masks.Goals as goal

pub returns : goal.returns
returns c = all_zero c.args._program.now c.args._allocation.now.homes c.args._masks.now c.requires.masks c.requires.slots
