-- From a run of the machine to its log.
use Rattle.std.specs.Prelude.{◌≡◌, ℕ, suc, ◌+◌, ◌<◌, ◌≤◌, true, false, List, length, ◌⊎◌, ◌↔◌, slice_get, slice_index}
use Rattle.std.specs.declared.option.Option.TheVariants.{Some}
use Rattle.xmt_base.specs.Counters.{capped}
use Rattle.xmt_base.specs.declared.values.TrapKind.{TrapKind}
use Rattle.xmt_isa.specs.declared.image.Image.{Image}
use Rattle.xmt_isa.specs.declared.unit.Unit.{Unit}
use Rattle.xmt_isa.specs.declared.unit.UnitState.TheVariants.{Runs}
use Rattle.xmt_isa.specs.Step.{next_of}
use Rattle.xmt_isa.specs.Machine.{Machine, resumes, after}
use Rattle.xmt_isa.specs.Opening.{opening}
use Rattle.xmt_isa.specs.Legal.{IsLegal, HasHalted}
use Rattle.xmt_isa.specs.Picked.{is_active, is_spawned}
use Rattle.machine_log.specs.Log.{Log, World, opening_world, after_log, AllEnded}
use Rattle.xmt_isa.specs.Threads.{move}
use Rattle.xmt_isa.specs.Traces.{IsAtTrap}
use Rattle.xmt_isa.specs.Valid.{IsValid}
use Rattle.machine_log.specs.Done.{Parts, IsDone, IsRising, LowerEnded, owned, spawns_of}
use Rattle.interleaving.specs.Actors.{part_of, IsPrompt, turns_of}
use Rattle.xmt_isa.specs.declared.unit.Next.TheVariants as next

-- an actor is where a unit is
abbrev pub IsAt : Machine → Unit → Parts → (actor : ℕ) → Type 0
IsAt m u p actor = p.ends actor ≡ record { start = m.start; unit = u }

-- a machine is what a log tells, with what each actor did by itself
pub record IsLogOf (image : Image) (memory : List ℕ) (m : Machine) (log : Log) (p : Parts) : Type 0 where
  pub done : IsDone image memory log p
  pub world : World
  pub is_world : after_log image (opening_world image memory) log ≡ world
  pub words : m.words ≡ world.words
  pub printed : m.out ≡ world.printed
  -- of an actor that isn't there nothing was done
  pub to_come : (actor : ℕ) → world.threads < 1 + actor → (p.steps actor ≡ 0) × (world.ended actor ≡ false)
  -- an active unit that runs is an actor that hasn't ended, unit 0 the serial code
  pub active : (k : ℕ) (u : Unit) → slice_get m.units k ≡ Some u → is_active (is_spawned m.units) u ≡ true → u.state ≡ Runs →
      (actor : ℕ) × (actor < world.threads) × (world.ended actor ≡ false) × IsAt m u p actor × ((k ≡ 0) ↔ (actor ≡ 0))
  -- while the master waits, the serial code stands behind its join already, and its last step was its spawn
  pub waits : (u : Unit) → slice_get m.units 0 ≡ Some u → u.waits ≡ true →
      (p.ends 0 ≡ record { start = m.start; unit = resumes image m.start u }) × IsPrompt (move image) (p.steps 0) (p.starts 0) (part_of 0 log)
  -- a virtual thread that hasn't ended was never drawn, or some control unit runs it, and no other one
  pub at_work : (actor : ℕ) → 0 < actor → actor < world.threads → world.ended actor ≡ false →
      (p.steps actor ≡ 0) ⊎ ((u : Unit) × (slice_get m.units (suc (p.owner actor)) ≡ Some u) × (u.state ≡ Runs) × IsAt m u p actor × (p.runner (p.owner actor) ≡ actor))
  -- where the master does not wait, each virtual thread has ended
  pub serial : is_spawned m.units ≡ false → AllEnded world.threads world.ended
  -- while it waits, a control unit that runs is the virtual thread that it runs
  pub runs : is_spawned m.units ≡ true → (place : ℕ) (u : Unit) → slice_get m.units (suc place) ≡ Some u → u.state ≡ Runs →
      (0 < p.runner place) × (p.runner place < world.threads) × (world.ended (p.runner place) ≡ false) × IsAt m u p (p.runner place)
      × (length m.units ≡ 2 → LowerEnded world.ended (p.runner place))
  -- an actor that runs has the thread number with which it began
  pub thread : (actor : ℕ) → (p.ends actor).unit.state ≡ Runs → (p.ends actor).unit.thread ≡ (p.starts actor).unit.thread
  -- an active unit that stands at a trap is an actor that stands at that trap, with the same line and thread number
  pub traps : (k : ℕ) (u : Unit) (kind : TrapKind) → slice_get m.units k ≡ Some u → is_active (is_spawned m.units) u ≡ true → next_of image m.start u ≡ next.Trap kind →
      (actor : ℕ) × (actor < world.threads) × (world.ended actor ≡ false) × IsAtTrap image (p.ends actor) kind (slice_index image.lines u.at) × ((p.ends actor).unit.thread ≡ u.thread) × (u.thread ≡ (p.starts actor).unit.thread)
  -- where there is a control unit and no unit is active, the machine has halted
  pub over : 2 ≤ length m.units → ((k : ℕ) (u : Unit) → slice_get m.units k ≡ Some u → is_active (is_spawned m.units) u ≡ false) → HasHalted m
  -- the machine has halted just where the serial code has ended
  pub halted : HasHalted m ↔ (world.ended 0 ≡ true)

-- the turns that the units had in a schedule
pub record HasSums (schedule : List ℕ) (m : Machine) (log : Log) (threads : ℕ) (p : Parts) : Type 0 where
  -- a unit's steps are its turns, in a counter of 64 bits
  pub steps : (k : ℕ) (u : Unit) → slice_get m.units k ≡ Some u → u.counts.steps ≡ capped (turns_of k schedule)
  -- how often the control unit in a place drew its first number of a section
  pub draws : ℕ → ℕ
  pub master : turns_of 0 schedule ≡ p.steps 0
  pub units : (place : ℕ) → turns_of (suc place) schedule ≡ draws place + owned p.owner p.steps place threads
  pub bound : (place : ℕ) → draws place ≤ spawns_of log

-- each run of the machine of a valid image by a legal schedule has a log
abbrev pub HasLogs : Image → Type 0
HasLogs image =
    (memory : List ℕ) (n : ℕ) (schedule : List ℕ) → IsLegal image (opening image memory n) schedule →
    (log : Log) × (p : Parts) × IsLogOf image memory (after image (opening image memory n) schedule) log p
    × HasSums schedule (after image (opening image memory n) schedule) log (after_log image (opening_world image memory) log).threads p × (n ≡ 1 → IsRising image memory log p)

abbrev pub RunsHaveLogs : Type 0
RunsHaveLogs = (image : Image) → IsValid image → HasLogs image
