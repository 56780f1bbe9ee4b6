use Rattle.std.proofs.Common.{◌≤◌, [], map, vec_len}
use Rattle.xmt_host.specs.Told.{OnlyPrints}
use Rattle.machine_turns.specs.Steps.{steps_left}
use Rattle.machine_turns.specs.View.{seen_seat, machine_of}
use Rattle.threaded_runs.specs.Sections.{HasComeTo}
use Rattle.threaded_runs.proofs.run.run_to_end.Given as goal

abbrev pub invariant-turns : goal.invariant-turns
invariant-turns g l = record {
  some : 1 ≤ vec_len l.machine.seats;
  few : vec_len l.machine.seats ≤ 65;
  come : HasComeTo l.image l.budget (machine_of l.fn.machine []) l.machine (g.H.Host.told l.fn.host).out (g.H.Host.told l.host).out;
  only : OnlyPrints (g.H.Host.told l.fn.host) (g.H.Host.told l.host);
}

abbrev pub decreases-turns : goal.decreases-turns
decreases-turns g l = steps_left l.budget (map (seen_seat l.machine.spawned) l.machine.seats.items)
