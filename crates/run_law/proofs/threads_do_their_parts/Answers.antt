use Rattle.run_law.proofs.Parts.{all_do_their_parts}
use Rattle.run_law.proofs.threads_do_their_parts.Goals as goal

pub returns : goal.returns
returns c = all_do_their_parts
