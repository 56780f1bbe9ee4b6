use Rattle.std.proofs.Common.{rules}
use Rattle.xmt_isa.specs.Opening.{zeros_of}
use Rattle.machine_turns.proofs.beginning.zeros.Goals as goal

pub returns : goal.returns
unfolding zeros_of
returns c = search rules
