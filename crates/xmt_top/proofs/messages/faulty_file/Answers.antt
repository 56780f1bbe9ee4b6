use Rattle.std.proofs.Common.{append_assoc}
use Rattle.xmt_top.proofs.messages.faulty_file.Goals as goal

pub returns : goal.returns
returns c = simp append_assoc c.format.ensures.ok
