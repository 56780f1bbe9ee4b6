use Rattle.std.proofs.Common.{◌-◌, ◌≡◌, ◌≤◌, false}
use Rattle.xmt_isa.specs.Fits.{UnitFits}
use Rattle.unit_steps.specs.Steps.{is_new_master, RunsAlone}
use Rattle.unit_steps.specs.Keeps.{HasStart}
use Rattle.tcu_engine.proofs.running.run.Given as goal

abbrev pub invariant-loop-done : goal.invariant-loop-done
invariant-loop-done l = record {
  few : l.done ≤ l.most;
  alone : RunsAlone l.image l.start l.budget l.done l.fn.unit l.unit;
  fits : UnitFits l.image l.start l.unit;
  start : HasStart l.image l.start l.unit;
  free : l.unit.waits ≡ false;
  begun : is_new_master l.unit ≡ false;
  within : l.unit.counts.steps ≤ l.budget;
}

abbrev pub decreases-loop-done : goal.decreases-loop-done
decreases-loop-done l = l.most - l.done
