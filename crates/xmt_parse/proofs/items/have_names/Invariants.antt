use Rattle.std.proofs.Common.{◌≡◌, drop}
use Rattle.raw_tree.specs.ReadingItems.{have_names}
use Rattle.xmt_parse.proofs.items.have_names.Given as goal

abbrev pub invariant-loop-p : goal.invariant-loop-p
invariant-loop-p l = have_names (drop l.p-index l.all) ≡ have_names l.all
