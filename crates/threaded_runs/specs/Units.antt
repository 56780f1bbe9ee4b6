-- Control units as workers, and back in their seats.
use Rattle.std.specs.Prelude.{replicate}
use Rattle.std.specs.declared.option.Option.TheVariants.{None}
use Rattle.xmt_isa.specs.declared.unit.Unit.{Unit}
use Rattle.xmt_isa.specs.declared.unit.UnitState.{UnitState}
use Rattle.xmt_isa.specs.declared.unit.UnitState.TheVariants.{Draws, Runs, Stopped, Halted}
use Rattle.xmt_isa.specs.Machine.{ready}
use Rattle.machine_turns.specs.declared.seats.Seat.{Seat}
use Rattle.machine_turns.specs.Seats.{seat_of}
use Rattle.spawn_join.specs.declared.worker.Worker.{Worker}

-- a unit that has stopped is due to draw
abbrev pub due_by : UnitState → Unit → Unit
due_by Stopped u = ready u
due_by Draws u = u
due_by Runs u = u
due_by Halted u = u

abbrev pub due_worker : Seat → Worker
due_worker s = record { unit = due_by s.unit.state s.unit; pass = None; gap = replicate 8 0 }

abbrev pub seat_again : Worker → Seat
seat_again w = seat_of w.unit
