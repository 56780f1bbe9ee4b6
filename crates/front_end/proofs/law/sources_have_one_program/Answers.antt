use Rattle.front_end.proofs.Accepted.{accepted_as_one, broken_has_none}
use Rattle.front_end.proofs.law.sources_have_one_program.Goals as goal

pub returns : goal.returns
returns c = record { one = accepted_as_one; none = broken_has_none }
