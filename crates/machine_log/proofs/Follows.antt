-- What the units of a machine stand for: the threads of a log, and what each of them did by itself.
use Rattle.std.proofs.Common.{◌≡◌, ℕ, suc, ◌+◌, ◌-◌, ◌<◌, ◌≤◌, Bool, true, false, if◌then◌else◌, nat_lt, List, ◌∷◌, length, ◌⊎◌, Some, slice_get}
use Rattle.std.specs.Prelude.{⊤}
use Rattle.std.specs.List.{list_all}
use Rattle.interleaving.specs.Actors.{part_of, IsPrompt, with_state}
use Rattle.xmt_isa.specs.declared.image.Image.{Image}
use Rattle.xmt_isa.specs.declared.unit.Unit.{Unit}
use Rattle.xmt_isa.specs.declared.unit.UnitState.{UnitState}
use Rattle.xmt_isa.specs.declared.unit.UnitState.TheVariants.{Draws, Runs, Stopped, Halted}
use Rattle.xmt_isa.specs.declared.unit.SpawnAsk.{SpawnAsk}
use Rattle.xmt_isa.specs.declared.unit.Start.{Start}
use Rattle.xmt_isa.specs.Machine.{Machine, broadcast, resumes, is_stopped}
use Rattle.xmt_isa.specs.Opening.{new_unit}
use Rattle.xmt_isa.specs.Threads.{Actor, move, BeginsAt, HasRoom, begun, number_at}
use Rattle.xmt_isa.specs.Traces.{ComesToSpawn}
use Rattle.machine_log.specs.Log.{Log, World, opening_world, after_log, AllEnded}
use Rattle.machine_log.specs.Done.{Parts, IsDone, EntriesRise, spawns_of, owned}

-- ---- what the units of a machine stand for

-- the control unit in a place during a section
abbrev pub StandsBy : (start : Start) → (drawn first : ℕ) → (ended : ℕ → Bool) → Parts → (place : ℕ) → Unit → UnitState → Type 0
StandsBy start drawn first ended p place u Draws = ⊤
StandsBy start drawn first ended p place u Runs =
    (k : ℕ) × (k < drawn) × (k < start.count) × (p.runner place ≡ first + k) × (p.owner (first + k) ≡ place) × (ended (first + k) ≡ false)
    × (p.ends (first + k) ≡ record { start = start; unit = u })
StandsBy start drawn first ended p place u Stopped = start.count ≤ drawn
StandsBy start drawn first ended p place u Halted = ⊥

-- a unit is at work at an actor
abbrev pub IsRunBy : (rest : List Unit) → Parts → (actor : ℕ) → Type 0
IsRunBy rest p actor = (u : Unit) × (slice_get rest (p.owner actor) ≡ Some u) × (u.state ≡ Runs) × (p.runner (p.owner actor) ≡ actor)

-- a section: the master waits, and the actors from `first` on are its virtual threads
pub record Section (image : Image) (rest : List Unit) (drawn : ℕ) (start : Start) (threads : ℕ) (ended : ℕ → Bool) (p : Parts) (first : ℕ) : Type 0 where
  pub positive : 0 < first
  pub all : first + start.count ≡ threads
  pub earlier : (actor : ℕ) → 0 < actor → actor < first → ended actor ≡ true
  pub begins : (k : ℕ) → k < start.count → BeginsAt start k (p.starts (first + k))
  pub undrawn : (k : ℕ) → drawn ≤ k → k < start.count → (p.steps (first + k) ≡ 0) × (ended (first + k) ≡ false)
  pub begun : (k : ℕ) → k < drawn → k < start.count → (ended (first + k) ≡ true) ⊎ IsRunBy rest p (first + k)
  pub units : (place : ℕ) (u : Unit) → slice_get rest place ≡ Some u → StandsBy start drawn first ended p place u u.state
  -- one unit alone runs the thread that was drawn last
  pub last : length rest ≡ 1 → (u : Unit) → slice_get rest 0 ≡ Some u → u.state ≡ Runs → 1 + p.runner 0 ≡ first + drawn
  pub spawner : (before : Log) × (s : Actor) × (ask : SpawnAsk) × ComesToSpawn image before s ask × (start ≡ broadcast s.unit ask)

-- the master runs, or has ended
pub record IsSerial (master : Unit) (start : Start) (threads : ℕ) (ended : ℕ → Bool) (p : Parts) : Type 0 where
  pub goes : master.waits ≡ false
  pub stands : p.ends 0 ≡ record { start = start; unit = master }
  pub all_ended : AllEnded threads ended
  pub live : ((master.state ≡ Runs) × (ended 0 ≡ false)) ⊎ ((master.state ≡ Halted) × (ended 0 ≡ true))

-- the master waits for the threads of its spawn
pub record IsWaiting (image : Image) (master : Unit) (rest : List Unit) (drawn : ℕ) (start : Start) (threads : ℕ) (ended : ℕ → Bool) (p : Parts) : Type 0 where
  pub waits : master.waits ≡ true
  pub runs : master.state ≡ Runs
  pub stands : p.ends 0 ≡ record { start = start; unit = resumes image start master }
  pub unended : ended 0 ≡ false
  -- some control unit, if there is one, has not stopped
  pub some : 1 ≤ length rest → list_all (λ u. is_stopped u.state) rest ≡ false
  pub first : ℕ
  pub section : Section image rest drawn start threads ended p first

pub record Stands (image : Image) (master : Unit) (rest : List Unit) (drawn : ℕ) (start : Start) (threads : ℕ) (ended : ℕ → Bool) (p : Parts) : Type 0 where
  pub master_number : master.number ≡ 0
  pub numbers : (place : ℕ) (u : Unit) → slice_get rest place ≡ Some u → u.number ≡ 1 + place
  pub rooms : (place : ℕ) (u : Unit) → slice_get rest place ≡ Some u → HasRoom u
  pub there : 0 < threads
  -- of actors to come nothing is known
  pub fresh : (actor : ℕ) → threads ≤ actor → (p.steps actor ≡ 0) × (ended actor ≡ false)
  pub phase : IsSerial master start threads ended p ⊎ IsWaiting image master rest drawn start threads ended p

-- ---- steps

-- how many turns each unit has had, and in how many of them the control unit in a place drew its first number of a section
pub record Tallies : Type 0 where
  pub turns : ℕ → ℕ
  pub draws : ℕ → ℕ

-- each unit's turns are the instructions of the actors that it ran, and its first draws, of which there is at most one a section
pub record Counted (log : Log) (threads : ℕ) (p : Parts) (t : Tallies) : Type 0 where
  pub serial : t.turns 0 ≡ p.steps 0
  pub units : (place : ℕ) → t.turns (suc place) ≡ t.draws place + owned p.owner p.steps place threads
  pub bound : (place : ℕ) → t.draws place ≤ spawns_of log

-- a machine, and what was found for it
pub record Follows (image : Image) (memory : List ℕ) (m : Machine) (log : Log) (p : Parts) (t : Tallies) : Type 0 where
  pub done : IsDone image memory log p
  pub world : World
  pub is_world : after_log image (opening_world image memory) log ≡ world
  pub master : Unit
  pub rest : List Unit
  pub units : m.units ≡ master ∷ rest
  pub words : m.words ≡ world.words
  pub printed : m.out ≡ world.printed
  pub rising : length rest ≡ 1 → EntriesRise image memory log
  pub counted : Counted log world.threads p t
  -- while the master waits, the last step of the serial code is its spawn
  pub prompt : master.waits ≡ true → IsPrompt (move image) (p.steps 0) (p.starts 0) (part_of 0 log)
  pub due : master.waits ≡ true → (place : ℕ) (u : Unit) → slice_get rest place ≡ Some u → u.state ≡ Draws → 1 + t.draws place ≤ spawns_of log
  pub stands : Stands image master rest m.drawn m.start world.threads world.ended p

-- ---- how what is found grows

-- an actor took one more step
abbrev pub goes : Parts → (actor : ℕ) → Actor → Parts
goes p actor s = record p { ends = with_state p.ends actor s; steps = with_state p.steps actor (1 + p.steps actor) }

-- an actor that has done nothing begins, on the control unit in a place
abbrev pub begins_on : Parts → (actor place : ℕ) → Actor → Parts
begins_on p actor place s =
    record p {
      starts = with_state p.starts actor s;
      ends = with_state p.ends actor s;
      owner = with_state p.owner actor place;
      runner = with_state p.runner place actor;
    }

-- the threads of a spawn, from the actor `first` on, stand at the beginning of the block; on which unit isn't known yet
abbrev pub block_actor : Start → (k : ℕ) → Actor
block_actor start k = begun start (new_unit 1) (number_at start k)

abbrev pub from_actor : (first : ℕ) → Start → (ℕ → Actor) → ℕ → Actor
from_actor first start actors actor = if nat_lt actor first then actors actor else block_actor start (actor - first)

abbrev pub spawns_from : Parts → (first : ℕ) → Start → Parts
spawns_from p first start = record p { starts = from_actor first start p.starts; ends = from_actor first start p.ends }

-- a unit had a turn
abbrev pub took : Tallies → (unit : ℕ) → Tallies
took t unit = record t { turns = with_state t.turns unit (1 + t.turns unit) }

-- a control unit drew its first number of a section
abbrev pub drew : Tallies → (place : ℕ) → Tallies
drew t place = record { turns = with_state t.turns (suc place) (1 + t.turns (suc place)); draws = with_state t.draws place (1 + t.draws place) }
