use Rattle.std.proofs.Common.{rules}
use Rattle.xmt_isa.specs.Opening.{zeros_of}
use Rattle.xmt_isa.proofs.unit.zeros.Goals as goal

pub returns : goal.returns
unfolding zeros_of
returns c = search rules
