use Rattle.quad_limits.proofs.StatementWeights.{quads_are_light}
use Rattle.quad_limits.proofs.StatementRegisters.{registers_are_few}
use Rattle.quad_limits.proofs.ProgramNames.{names_are_there}
use Rattle.quad_limits.proofs.quads_keep_limits.Goals as goal

pub returns : goal.returns
returns c = record { light = quads_are_light; registers = registers_are_few; names = names_are_there }
