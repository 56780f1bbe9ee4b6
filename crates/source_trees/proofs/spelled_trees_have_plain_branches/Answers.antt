use Rattle.source_trees.proofs.Branches
use Rattle.source_trees.proofs.spelled_trees_have_plain_branches.Goals as goal

pub returns : goal.returns
returns c = Branches.spelled_trees_have_plain_branches
