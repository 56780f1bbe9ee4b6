-- How a picked run goes on, by what the kept units do next.
use Rattle.std.specs.Prelude.{◌≡◌, ℕ, ◌&&◌, Bool, true, false, List, map, find, count_by}
use Rattle.std.specs.declared.option.Option.{Option}
use Rattle.std.specs.declared.option.Option.TheVariants.{Some, None}
use Rattle.xmt_isa.specs.declared.image.Image.{Image}
use Rattle.xmt_isa.specs.declared.run.Choice.{Choice}
use Rattle.xmt_isa.specs.declared.run.Choice.TheVariants as choice
use Rattle.xmt_isa.specs.Machine.{turn}
use Rattle.xmt_isa.specs.Picked.{is_active, picks}
use Rattle.tcu_engine.specs.declared.ask.Ask.{Ask}
use Rattle.tcu_engine.specs.declared.ask.Ask.TheVariants.{Print, Stopped, Halt, Trap, Spent}
use Rattle.machine_turns.specs.declared.seats.Seat.{Seat}
use Rattle.machine_turns.specs.declared.machine.Machine.{Machine}
use Rattle.machine_turns.specs.Seats.{unit_of}
use Rattle.machine_turns.specs.Kept.{Kept}
use Rattle.machine_turns.specs.View.{machine_of}

abbrev pub asks_trap : Ask → Bool
asks_trap (Trap trap) = true
asks_trap ask = false

abbrev pub asks_spent : Ask → Bool
asks_spent Spent = true
asks_spent ask = false

abbrev pub seat_active : Bool → Seat → Bool
seat_active spawned s = is_active spawned s.unit

abbrev pub seat_trapped : Bool → Seat → Bool
seat_trapped spawned s = is_active spawned s.unit && asks_trap s.ask

abbrev pub seat_spent : Bool → Seat → Bool
seat_spent spawned s = is_active spawned s.unit && asks_spent s.ask

abbrev pub trap_choice : Ask → Choice
trap_choice (Trap trap) = choice.Trap trap
trap_choice ask = choice.Done

abbrev pub count_active : Bool → List Seat → ℕ
count_active spawned seats = count_by (seat_active spawned) seats

abbrev pub choice_among : Bool → List Seat → (state : ℕ) → (trapped spent : Option Seat) → Choice
choice_among spawned seats state (Some s) spent = trap_choice s.ask
choice_among spawned seats state None (Some s) = choice.Spent s.unit.number s.unit.counts.steps
choice_among spawned seats state None None = picks spawned (map unit_of seats) (count_active spawned seats) state

-- the least unit at a trap ends the run, else the least one that has spent the budget, else the run has ended or goes on
abbrev pub seats_choice : Bool → List Seat → (state : ℕ) → Choice
seats_choice spawned seats state = choice_among spawned seats state (find (seat_trapped spawned) seats) (find (seat_spent spawned) seats)

-- the unit is active, stands at no trap and hasn't spent the budget
pub record SeatGoesOn (spawned : Bool) (s : Seat) : Type 0 where
  pub active : is_active spawned s.unit ≡ true
  pub untrapped : seat_trapped spawned s ≡ false
  pub unspent : seat_spent spawned s ≡ false

-- the machine has had the turn of the unit in this place, in which nothing was printed, and keeps what it keeps
pub record Goes (image : Image) (budget : ℕ) (k : ℕ) (old new : Machine) : Type 0 where
  pub kept : Kept image budget new
  pub turns : (out : List ℕ) → machine_of new out ≡ turn image (machine_of old out) k

-- the unit goes on, and prints nothing
abbrev pub GoesSilently : Ask → Type 0
GoesSilently (Print text) = ⊥
GoesSilently Stopped = ⊥
GoesSilently Halt = ⊥
GoesSilently (Trap trap) = ⊥
GoesSilently Spent = ⊥
GoesSilently ask = Unit {0}
