-- The machine that the program keeps, as a machine in which only the master waits, and its spawn is counted at once.
use Rattle.std.specs.Prelude.{ℕ, ◌==◌, ◌&&◌, if◌then◌else◌, Bool, List, map}
use Rattle.machine_turns.specs.declared.machine.Machine as kept
use Rattle.machine_turns.specs.declared.seats.Seat.{Seat}
use Rattle.machine_turns.specs.Seats.{free}
use Rattle.xmt_isa.specs.declared.unit.Unit.{Unit}
use Rattle.xmt_isa.specs.Machine.{Machine, waits_for}
use Rattle.xmt_isa.specs.Picked.{PickedRun}

-- the unit as others see it: the master waits while a section runs, and no control unit does
abbrev pub seen : Bool → Unit → Unit
seen spawned u = if spawned && (u.number == 0) then waits_for u else free u

abbrev pub seen_seat : Bool → Seat → Unit
seen_seat spawned s = seen spawned s.unit

-- the kept machine, with what it has printed
abbrev pub machine_of : kept.Machine → List ℕ → Machine
machine_of m out = record { units = map (seen_seat m.spawned) m.seats.items; words = m.words.items; drawn = m.drawn; start = m.start; out = out }

-- the run, with the generator's state
abbrev pub run_of : kept.Machine → List ℕ → ℕ → PickedRun
run_of m out state = record { machine = machine_of m out; state = state }
