use Rattle.std.proofs.Common.{append_assoc}
use Rattle.xmt_top.specs.Messages.{spent_line}
use Rattle.xmt_top.proofs.messages.spent_line.Goals as goal

pub returns : goal.returns
unfolding spent_line
returns c = simp append_assoc c.format.ensures.ok
