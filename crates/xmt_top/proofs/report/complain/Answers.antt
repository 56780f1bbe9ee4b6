use Rattle.xmt_top.proofs.Complaints.{either_part}
use Rattle.xmt_top.proofs.report.complain.Goals as goal

pub returns-in-Ok-clause-part : goal.returns-in-Ok-clause-part
returns-in-Ok-clause-part g c =
    either_part c.args.line.now (g.H.Host.told c.args.host.now).err (g.H.Host.told c.complain_all.new.host).err c.complain_all.result c.complain_all.ensures.ok c.complain_all.ensures.part
