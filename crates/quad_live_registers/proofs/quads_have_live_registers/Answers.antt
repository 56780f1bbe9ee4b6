use Rattle.quad_live_registers.proofs.Whole.{live_registers}
use Rattle.quad_live_registers.proofs.quads_have_live_registers.Goals as goal

pub returns : goal.returns
returns c = live_registers
