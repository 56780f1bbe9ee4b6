use Rattle.std.proofs.Common.{◌-◌, ◌≤◌, length, take}
use Rattle.xmt_host.specs.Told.{OnlyComplains}
use Rattle.xmt_jobs.specs.Written.{Writes}
use Rattle.xmt_top.proofs.print.complain_all.Given as goal

abbrev pub invariant-loop-at : goal.invariant-loop-at
invariant-loop-at g l = record {
  inside : l.at ≤ length l.bytes;
  written : Writes (take l.at l.bytes) (g.H.Host.told l.fn.host).err (g.H.Host.told l.host).err;
  only : OnlyComplains (g.H.Host.told l.fn.host) (g.H.Host.told l.host);
}

abbrev pub decreases-loop-at : goal.decreases-loop-at
decreases-loop-at g l = length l.bytes - l.at
