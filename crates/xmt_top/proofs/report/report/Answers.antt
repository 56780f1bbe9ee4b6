use Rattle.std.proofs.Common.{◌≡◌, ◌⊎◌, sym, subst}
use Rattle.xmt_cli.specs.JobOf.{seen_job}
use Rattle.xmt_jobs.specs.declared.outcome.Outcome.{Outcome}
use Rattle.xmt_jobs.specs.Written.{WritesPart}
use Rattle.xmt_top.specs.Complaints.{Complains}
use Rattle.xmt_top.specs.Shows.{line_of}
use Rattle.xmt_top.proofs.report.report.Goals as goal

pub returns-in-Fault-clause-line : goal.returns-in-Fault-clause-line
returns-in-Fault-clause-line g c =
    subst (λ (o : Outcome). (c.complain.result.code ≡ 7) ⊎ Complains (line_of (seen_job c.args.job.now) o) (g.H.Host.told c.args.host.now) (g.H.Host.told c.complain.new.host)) (sym c.in-Fault.is)
    c.complain.ensures.line

pub returns-in-Fault-clause-part : goal.returns-in-Fault-clause-part
returns-in-Fault-clause-part g c =
    subst (λ (o : Outcome). WritesPart (line_of (seen_job c.args.job.now) o) (g.H.Host.told c.args.host.now).err (g.H.Host.told c.complain.new.host).err) (sym c.in-Fault.is) c.complain.ensures.part

pub returns-in-NoMemory-clause-part : goal.returns-in-NoMemory-clause-part
returns-in-NoMemory-clause-part g c =
    subst (λ (o : Outcome). WritesPart (line_of (seen_job c.args.job.now) o) (g.H.Host.told c.args.host.now).err (g.H.Host.told c.complain-in-NoMemory.new.host).err) (sym c.in-NoMemory.is)
    c.complain-in-NoMemory.ensures.part
