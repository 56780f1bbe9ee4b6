use Rattle.lowered_quads.proofs.WellFormed.{lowered_programs_are_well_formed}
use Rattle.lowered_quads.proofs.lowered_programs_are_well_formed.Goals as goal

pub returns : goal.returns
returns c = lowered_programs_are_well_formed
