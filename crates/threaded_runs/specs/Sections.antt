-- What a section of threads does to the kept machine.
use Rattle.std.specs.Prelude.{◌≡◌, ◌≢◌, ℕ, ◌+◌, ◌*◌, ◌<◌, false, List, ◌++◌, length, map, slice_get, slice_index}
use Rattle.std.specs.Option.{IfSome}
use Rattle.std.specs.declared.option.Option.{Option}
use Rattle.std.specs.declared.option.Option.TheVariants.{Some, None}
use Rattle.xmt_isa.specs.declared.image.Image.{Image}
use Rattle.xmt_isa.specs.declared.run.Choice.{Choice}
use Rattle.xmt_isa.specs.declared.run.Choice.TheVariants as choice
use Rattle.xmt_isa.specs.Machine as spec
use Rattle.xmt_isa.specs.Legal.{RunsTo}
use Rattle.machine_turns.specs.declared.machine.Machine.{Machine}
use Rattle.machine_turns.specs.declared.seats.Seat.{Seat}
use Rattle.machine_turns.specs.Steps.{IsWithin, steps_left}
use Rattle.machine_turns.specs.Kept.{Kept}
use Rattle.machine_turns.specs.Seats.{Replaced}
use Rattle.machine_turns.specs.View.{seen_seat, machine_of}
use Rattle.machine_turns.specs.Prints.{Prints}
use Rattle.unit_steps.specs.Steps.{answered}
use Rattle.threaded_runs.specs.Runs.{IsEnd}
use Rattle.threaded_runs.specs.Words.{Narrows}

-- the unit in each place has the number of that place
abbrev pub AreNumbered : List Seat → Type 0
AreNumbered seats = (place : ℕ) (s : Seat) → slice_get seats place ≡ Some s → s.unit.number ≡ place

-- the master has gone on behind a section that has left these words
pub record GoesOn (image : Image) (budget : ℕ) (old : Machine) (left : List ℕ) (new : Machine) : Type 0 where
  pub words : Narrows old.words.items left new.words.items
  pub drawn : new.drawn ≡ slice_index left 1
  pub start : new.start ≡ old.start
  pub serial : new.spawned ≡ false
  pub replaced : IfSome (slice_get old.seats.items 0) (λ s. Replaced image old.start budget old.seats.items new.seats.items 0 (answered image old.start s.unit 0))

-- the section has run, and its threads have joined: a legal schedule leads from the spawn to where the master goes on
pub record Joins (image : Image) (budget : ℕ) (old new : Machine) : Type 0 where
  pub kept : Kept image budget new
  pub serial : new.spawned ≡ false
  pub leads : (out : List ℕ) → RunsTo image (machine_of old out) (machine_of new out)
  pub left : steps_left budget (map (seen_seat new.spawned) new.seats.items) < steps_left budget (map (seen_seat old.spawned) old.seats.items)

-- the run has ended so in the section: a legal schedule leads from the spawn to a machine where it has, and prints nothing
pub record EndsInside (image : Image) (budget : ℕ) (old : Machine) (end : Choice) : Type 0 where
  pub there : List ℕ → spec.Machine
  pub leads : (out : List ℕ) → RunsTo image (machine_of old out) (there out)
  pub within : (out : List ℕ) → IsWithin budget (there out).units
  pub ends : (out : List ℕ) → IsEnd image budget (there out) end
  pub silent : (out : List ℕ) → (there out).out ≡ out
  pub no_step : (k : ℕ) → end ≢ choice.Step k
  pub not_done : end ≢ choice.Done

-- how a section has ended
abbrev pub HasSection : Image → (budget : ℕ) → (old new : Machine) → Option Choice → Type 0
HasSection image budget old new None = Joins image budget old new
HasSection image budget old new (Some end) = EndsInside image budget old end

-- the master has had a turn, or its section has run: a legal schedule leads on, and what it printed went to the host
pub record HasTurned (image : Image) (budget : ℕ) (old new : Machine) (before now : Option (List ℕ)) : Type 0 where
  pub kept : Kept image budget new
  pub serial : new.spawned ≡ false
  pub bytes : List ℕ
  pub printed : Prints bytes before now
  pub leads : (out : List ℕ) → RunsTo image (machine_of old out) (machine_of new (out ++ bytes))
  pub left : steps_left budget (map (seen_seat new.spawned) new.seats.items) < steps_left budget (map (seen_seat old.spawned) old.seats.items)

-- the run goes on, or has ended so in a section, in which nothing was printed
abbrev pub HasGoneOn : Image → (budget : ℕ) → (old new : Machine) → (before now : Option (List ℕ)) → Option Choice → Type 0
HasGoneOn image budget old new before now None = HasTurned image budget old new before now
HasGoneOn image budget old new before now (Some end) = EndsInside image budget old end × (now ≡ before)

-- the machine between sections to which a legal schedule leads, and what that printed went to the host
pub record HasComeTo (image : Image) (budget : ℕ) (begin : spec.Machine) (m : Machine) (before now : Option (List ℕ)) : Type 0 where
  pub kept : Kept image budget m
  pub serial : m.spawned ≡ false
  pub numbered : AreNumbered m.seats.items
  pub long : length m.words.items ≡ 12 + length image.words + 257 * image.outer
  pub out : List ℕ
  pub legal : RunsTo image begin (machine_of m out)
  pub printed : Prints out before now
