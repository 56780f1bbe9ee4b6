use Rattle.std.proofs.Common.{rules}
use Rattle.xmt_top.specs.Messages.{refusal_line}
use Rattle.xmt_top.proofs.messages.refusal_line.Goals as goal

pub returns : goal.returns
unfolding refusal_line
returns c = search (rules, c.broken_rule.ensures)
