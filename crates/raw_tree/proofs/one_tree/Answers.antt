use Rattle.raw_tree.proofs.Program.{one_program}
use Rattle.raw_tree.proofs.one_tree.Goals as goal

pub returns : goal.returns
returns c = one_program
