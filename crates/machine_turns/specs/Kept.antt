-- What the kept machine keeps from turn to turn.
use Rattle.std.specs.Prelude.{◌≡◌, ◌≢◌, ◌⊎◌, ℕ, ◌≤◌, Bool, true, false, List, ◌∷◌, length, map, All, slice_get, IsSomeAnd}
use Rattle.std.specs.List.{list_all}
use Rattle.xmt_isa.specs.declared.image.Image.{Image}
use Rattle.xmt_isa.specs.declared.unit.UnitState.TheVariants.{Draws, Stopped}
use Rattle.xmt_isa.specs.declared.unit.SpawnAsk.{SpawnAsk}
use Rattle.xmt_isa.specs.declared.unit.Start.{Start}
use Rattle.xmt_isa.specs.Machine.{ready}
use Rattle.xmt_isa.specs.Picked.{is_active}
use Rattle.xmt_isa.specs.Fits.{UnitFits, StartFits}
use Rattle.xmt_isa.specs.Valid.{IsValid}
use Rattle.unit_steps.specs.Keeps.{HasStart}
use Rattle.tcu_engine.specs.declared.ask.Ask.{Ask}
use Rattle.tcu_engine.specs.declared.ask.Ask.TheVariants as ask
use Rattle.machine_turns.specs.declared.seats.Seat.{Seat}
use Rattle.machine_turns.specs.declared.machine.Machine.{Machine}
use Rattle.machine_turns.specs.Seats.{free, has_stopped, Tells}

-- a control unit outside a section: it is due and new, or has stopped
pub record IsIdle (image : Image) (budget : ℕ) (s : Seat) : Type 0 where
  pub number : s.unit.number ≢ 0
  pub free : s.unit.waits ≡ false
  pub fits : (start : Start) → UnitFits image start s.unit
  pub within : s.unit.counts.steps ≤ budget
  pub idle : (s.unit.state ≡ Draws) ⊎ (s.unit.state ≡ Stopped)

-- a control unit of a section
pub record IsRunning (image : Image) (start : Start) (budget : ℕ) (s : Seat) : Type 0 where
  pub number : s.unit.number ≢ 0
  pub tells : Tells image start budget s.unit s.ask

-- the control units at the beginning of a section
pub record AreReadied (image : Image) (start : Start) (budget : ℕ) (old new : List Seat) : Type 0 where
  pub due : map (λ s. free s.unit) new ≡ map (λ s. ready s.unit) old
  pub running : All (IsRunning image start budget) new

-- behind this master they stand now
pub record BehindMaster (image : Image) (start : Start) (budget : ℕ) (master : Seat) (others new : List Seat) : Type 0 where
  pub due : List Seat
  pub are : new ≡ master ∷ due
  pub readied : AreReadied image start budget others due

-- the master runs the serial code
pub record Serial (image : Image) (budget : ℕ) (start : Start) (master : Seat) (others : List Seat) : Type 0 where
  pub number : master.unit.number ≡ 0
  pub tells : Tells image start budget master.unit master.ask
  pub idle : All (IsIdle image budget) others

-- the control units run a section, for whose threads the master waits at its spawn
pub record Parallel (image : Image) (budget : ℕ) (start : Start) (master : Seat) (others : List Seat) : Type 0 where
  pub number : master.unit.number ≡ 0
  pub tells : Tells image start budget master.unit master.ask
  pub spawn : SpawnAsk
  pub asks : master.ask ≡ ask.Spawn spawn
  pub block : spawn.at ≡ start.at
  pub fits : StartFits image start
  pub running : All (IsRunning image start budget) others
  -- some control unit hasn't stopped
  pub runs : list_all has_stopped others ≡ false

abbrev pub KeptBy : Image → (budget : ℕ) → Start → (spawned : Bool) → (master : Seat) → (others : List Seat) → Type 0
KeptBy image budget start true master others = Parallel image budget start master others
KeptBy image budget start false master others = Serial image budget start master others

pub record Kept (image : Image) (budget : ℕ) (m : Machine) : Type 0 where
  pub valid : IsValid image
  pub master : Seat
  pub others : List Seat
  pub are : m.seats.items ≡ master ∷ others
  pub some : 1 ≤ length others
  pub holds : KeptBy image budget m.start m.spawned master others

-- the unit in this place is active, and asks for this
abbrev pub IsAt : Machine → (k : ℕ) → Ask → Type 0
IsAt m k asked = IsSomeAnd (slice_get m.seats.items k) (λ s. (is_active m.spawned s.unit ≡ true) × (s.ask ≡ asked))

-- the unit may go on
pub record MayGo (image : Image) (start : Start) (budget : ℕ) (s : Seat) : Type 0 where
  pub has_start : HasStart image start s.unit
  pub tells : Tells image start budget s.unit s.ask
