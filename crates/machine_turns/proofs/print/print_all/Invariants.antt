use Rattle.std.proofs.Common.{◌-◌, ◌≤◌, length, take}
use Rattle.xmt_host.specs.Told.{OnlyPrints}
use Rattle.machine_turns.specs.Prints.{Prints}
use Rattle.machine_turns.proofs.print.print_all.Given as goal

abbrev pub invariant-loop-at : goal.invariant-loop-at
invariant-loop-at g l = record {
  inside : l.at ≤ length l.bytes;
  printed : Prints (take l.at l.bytes) (g.H.Host.told l.fn.host).out (g.H.Host.told l.host).out;
  only : OnlyPrints (g.H.Host.told l.fn.host) (g.H.Host.told l.host);
}

abbrev pub decreases-loop-at : goal.decreases-loop-at
decreases-loop-at g l = length l.bytes - l.at
