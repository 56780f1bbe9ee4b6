use Rattle.thin_law.proofs.Accepted.{thin_accepted}
use Rattle.thin_law.proofs.thin_sources_are_accepted.Goals as goal

pub returns : goal.returns
returns c = thin_accepted
