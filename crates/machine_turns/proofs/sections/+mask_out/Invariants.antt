use Rattle.std.proofs.Common.{length}
use Rattle.machine_turns.proofs.sections.+mask_out.Given as goal

abbrev pub decreases-mask_out : goal.decreases-mask_out
decreases-mask_out l = length l.regs.now
