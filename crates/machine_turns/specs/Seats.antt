-- A unit, kept together with what it does next.
use Rattle.std.specs.Prelude.{◌≡◌, ℕ, suc, ◌≤◌, Bool, false, List, slice_set}
use Rattle.xmt_isa.specs.declared.image.Image.{Image}
use Rattle.xmt_isa.specs.declared.unit.Unit.{Unit}
use Rattle.xmt_isa.specs.declared.unit.UnitState.TheVariants as state
use Rattle.xmt_isa.specs.declared.unit.Start.{Start}
use Rattle.xmt_isa.specs.declared.unit.Request.TheVariants as request
use Rattle.xmt_isa.specs.declared.unit.Next.TheVariants as next
use Rattle.xmt_isa.specs.Machine.{is_stopped}
use Rattle.xmt_isa.specs.Fits.{UnitFits}
use Rattle.unit_steps.specs.Steps.{is_new_master, DoesNext, HasSpent, StandsAtTrap, RunsAlone}
use Rattle.tcu_engine.specs.Asks.{is_request}
use Rattle.tcu_engine.specs.declared.ask.Ask.{Ask}
use Rattle.tcu_engine.specs.declared.ask.Ask.TheVariants.{Load, Store, Add, Draw, Print, Spawn, Pause, Stopped, Halt, Trap, Spent}
use Rattle.machine_turns.specs.declared.seats.Seat.{Seat}

abbrev pub unit_of : Seat → Unit
unit_of s = s.unit

abbrev pub has_stopped : Seat → Bool
has_stopped s = is_stopped s.unit.state

-- the unit without its waiting
abbrev pub free : Unit → Unit
free u = record u { waits = false }

-- what an answer says of its unit
abbrev pub Means : Image → Start → (budget : ℕ) → Unit → Ask → Type 0
Means image start budget u (Load word) = DoesNext image start budget u (next.Ask (request.Load word))
Means image start budget u (Store word value) = DoesNext image start budget u (next.Ask (request.Store word value))
Means image start budget u (Add word value) = DoesNext image start budget u (next.Ask (request.Add word value))
Means image start budget u Draw = DoesNext image start budget u (next.Ask request.Draw)
Means image start budget u (Print text) = DoesNext image start budget u (next.Ask (request.Print text))
Means image start budget u (Spawn ask) = DoesNext image start budget u (next.Ask (request.Spawn ask))
Means image start budget u Pause = DoesNext image start budget u next.Local
Means image start budget u Stopped = u.state ≡ state.Stopped
Means image start budget u Halt = u.state ≡ state.Halted
Means image start budget u (Trap trap) = DoesNext image start budget u (next.Trap trap.kind) × StandsAtTrap image start u trap
Means image start budget u Spent = HasSpent budget u

-- the answer says what the unit does next, and the unit fits the image
pub record Tells (image : Image) (start : Start) (budget : ℕ) (u : Unit) (ask : Ask) : Type 0 where
  pub begun : is_new_master u ≡ false
  pub fits : UnitFits image start u
  pub within : u.counts.steps ≤ budget
  pub waits : u.waits ≡ is_request ask
  pub means : Means image start budget u ask

-- the unit is this one but for its waiting, and the answer says what it does next
pub record Holds (image : Image) (start : Start) (budget : ℕ) (known : Unit) (u : Unit) (ask : Ask) : Type 0 where
  pub same : free u ≡ known
  pub tells : Tells image start budget u ask

-- in one place stands now this unit, and no other has changed
pub record Replaced (image : Image) (start : Start) (budget : ℕ) (old new : List Seat) (k : ℕ) (known : Unit) : Type 0 where
  pub seat : Seat
  pub put : new ≡ slice_set old k seat
  pub holds : Holds image start budget known seat.unit seat.ask

-- the unit has run some instructions of its own, and the answer says what it does next
pub record HasRunOn (image : Image) (start : Start) (budget : ℕ) (known : Unit) (u : Unit) (ask : Ask) : Type 0 where
  pub further : ℕ
  pub alone : RunsAlone image start budget (suc further) known (free u)
  pub tells : Tells image start budget u ask

-- the unit in one place has run some instructions of its own, and no other has changed
pub record RanOn (image : Image) (start : Start) (budget : ℕ) (old new : List Seat) (k : ℕ) (known : Unit) : Type 0 where
  pub seat : Seat
  pub put : new ≡ slice_set old k seat
  pub runs : HasRunOn image start budget known seat.unit seat.ask

-- a unit that wasn't asked yet
abbrev pub seat_of : Unit → Seat
seat_of u = record { unit = u; ask = Pause }
