use Rattle.source_trees.proofs.Trees
use Rattle.source_trees.proofs.spelled_trees_are_from_source.Goals as goal

pub returns : goal.returns
returns c = Trees.spelled_trees_are_from_source
