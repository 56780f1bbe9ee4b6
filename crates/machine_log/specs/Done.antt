-- A lawful log of which each thread of an image did exactly its part by itself.
use Rattle.std.specs.Prelude.{◌≡◌, ℕ, zero, suc, ◌==◌, ◌+◌, ◌<◌, Bool, true, false, if◌then◌else◌, List, [], ◌∷◌, ◌++◌, ◌⊎◌}
use Rattle.xmt_base.specs.Action.{Action, Spawn}
use Rattle.xmt_base.specs.Operators.{count_between}
use Rattle.interleaving.specs.Actors.{Entry, part_of, Does, IsLawfulBy}
use Rattle.interleaving.specs.Starts.{count_behind}
use Rattle.xmt_isa.specs.declared.image.Image.{Image}
use Rattle.xmt_isa.specs.declared.unit.SpawnAsk.{SpawnAsk}
use Rattle.xmt_isa.specs.declared.unit.Request.TheVariants as request
use Rattle.xmt_isa.specs.Machine.{broadcast}
use Rattle.xmt_isa.specs.Threads.{Actor, action_of, move, main_actor, BeginsAt}
use Rattle.xmt_isa.specs.Traces.{ComesToSpawn}
use Rattle.machine_log.specs.Log.{Log, opening_world, after_entry, after_log, IsLawful}

pub record Parts : Type 0 where
  -- where each thread begins, where it stands, and in how many instructions of its own it came there
  pub starts : ℕ → Actor
  pub ends : ℕ → Actor
  pub steps : ℕ → ℕ
  -- the place among the control units of the one that drew a virtual thread
  pub owner : ℕ → ℕ
  -- the virtual thread that the control unit in a place runs, or ran last
  pub runner : ℕ → ℕ

abbrev pub spawn_entry : (site low high reply : ℕ) → Entry Action
spawn_entry site low high reply = record { actor = 0; action = Spawn site low high; reply = reply }

-- a virtual thread begins at the block of a spawn, with its number, behind what the serial code did up to the spawn
abbrev pub BeginsBehind : Image → (before : Log) → (site low high k : ℕ) → Actor → Type 0
BeginsBehind image before site low high k a =
    (serial : Actor) × (ask : SpawnAsk) × ComesToSpawn image (part_of 0 before) serial ask × BeginsAt (broadcast serial.unit ask) k a × (action_of image serial.unit (request.Spawn ask) ≡ Spawn site low high)

abbrev pub BlocksBegin : Image → Log → (starts : ℕ → Actor) → Type 0
BlocksBegin image log starts =
    (before after : Log) (site low high reply k : ℕ) →
    log ≡ before ++ (spawn_entry site low high reply ∷ after) → k < count_between low high → BeginsBehind image before site low high k (starts (count_behind 1 before + k))

-- the log is lawful, and each thread by itself does exactly its part
pub record IsDone (image : Image) (memory : List ℕ) (log : Log) (p : Parts) : Type 0 where
  pub lawful : IsLawful image (opening_world image memory) log
  pub does : (thread : ℕ) → Does (move image) (p.steps thread) (p.starts thread) (part_of thread log) (p.ends thread)
  pub serial : p.starts 0 ≡ main_actor image
  pub blocks : BlocksBegin image log p.starts

-- ---- one thread behind the other, as one unit runs them

-- all virtual threads below this one have ended
abbrev pub LowerEnded : (ended : ℕ → Bool) → (thread : ℕ) → Type 0
LowerEnded ended thread = (lower : ℕ) → 0 < lower → lower < thread → ended lower ≡ true

abbrev pub EntriesRise : Image → (memory : List ℕ) → Log → Type 0
EntriesRise image memory = IsLawfulBy (after_entry image) (λ w e. LowerEnded w.ended e.actor) (opening_world image memory)

pub record IsRising (image : Image) (memory : List ℕ) (log : Log) (p : Parts) : Type 0 where
  pub entries : EntriesRise image memory log
  -- and a thread that has begun comes behind those below it
  pub rest : (thread : ℕ) → thread < (after_log image (opening_world image memory) log).threads → LowerEnded (after_log image (opening_world image memory) log).ended thread ⊎ (p.steps thread ≡ 0)

-- ---- steps

abbrev pub is_spawn : Action → Bool
is_spawn (Spawn site low high) = true
is_spawn _ = false

abbrev pub spawns_of : Log → ℕ
spawns_of [] = 0
spawns_of (e ∷ log) = (if is_spawn e.action then 1 else 0) + spawns_of log

-- the instructions of those of the threads 1 to n that the control unit in a place ran
abbrev pub owned : (owner steps : ℕ → ℕ) → (place n : ℕ) → ℕ
owned owner steps place zero = 0
owned owner steps place (suc n) = owned owner steps place n + (if owner (suc n) == place then steps (suc n) else 0)
