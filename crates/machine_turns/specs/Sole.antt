-- Where one unit alone may be active, and how the run goes on there.
use Rattle.std.specs.Prelude.{◌≡◌, ◌≢◌, ℕ, ◌<◌, ◌==◌, if◌then◌else◌, Bool, true, false, List, length, slice_get}
use Rattle.std.specs.declared.option.Option.{Option}
use Rattle.std.specs.declared.option.Option.TheVariants.{Some, None}
use Rattle.xmt_isa.specs.declared.run.Choice.{Choice}
use Rattle.xmt_isa.specs.declared.run.Choice.TheVariants as choice
use Rattle.xmt_isa.specs.declared.unit.Unit.{Unit}
use Rattle.xmt_isa.specs.Picked.{is_active}
use Rattle.tcu_engine.specs.declared.ask.Ask.{Ask}
use Rattle.tcu_engine.specs.declared.ask.Ask.TheVariants.{Trap, Spent}
use Rattle.machine_turns.specs.declared.seats.Seat.{Seat}

-- the place of the unit that alone may be active: the master's outside sections, and in them that of the only control unit
abbrev pub sole_place : Bool → List Seat → Option ℕ
sole_place false seats = Some 0
sole_place true seats = if length seats == 2 then Some 1 else None

-- a unit is in this place, and no other unit is active
pub record OnlyActive (spawned : Bool) (seats : List Seat) (k : ℕ) : Type 0 where
  pub inside : k < length seats
  pub others : (j : ℕ) (s : Seat) → slice_get seats j ≡ Some s → j ≢ k → is_active spawned s.unit ≡ false

-- how the run goes on where the only active unit does this next
abbrev pub asked_choice : (k : ℕ) → Unit → Ask → Choice
asked_choice k u (Trap trap) = choice.Trap trap
asked_choice k u Spent = choice.Spent u.number u.counts.steps
asked_choice k u ask = choice.Step k

-- how the run goes on where no other unit is active
abbrev pub sole_choice : Bool → (k : ℕ) → Seat → Choice
sole_choice spawned k s = if is_active spawned s.unit then asked_choice k s.unit s.ask else choice.Done
