-- What keeps the serial code and blocks apart, wherever a thread comes by itself. A valid image has it.
use Rattle.std.specs.Prelude.{◌≡◌, ℕ, ◌+◌, ◌*◌, ◌<◌, ◌≤◌, true, List, length}
use Rattle.xmt_isa.specs.declared.image.Image.{Image}
use Rattle.xmt_isa.specs.declared.unit.UnitState.TheVariants.{Runs}
use Rattle.xmt_isa.specs.declared.unit.SpawnAsk.{SpawnAsk}
use Rattle.xmt_isa.specs.Step.{next_of, local_of}
use Rattle.xmt_isa.specs.Machine.{broadcast}
use Rattle.xmt_isa.specs.Picked.{is_live}
use Rattle.interleaving.specs.Actors.{Entry, Does}
use Rattle.xmt_base.specs.Action.{Action}
use Rattle.xmt_isa.specs.Threads.{Actor, move, main_actor, BeginsAt}
use Rattle.xmt_isa.specs.Traces.{ComesToSpawn}
use Rattle.xmt_isa.specs.declared.unit.Request.{Request}
use Rattle.xmt_isa.specs.declared.unit.Request.TheVariants as request
use Rattle.xmt_isa.specs.declared.unit.Next.TheVariants as next

pub record KeepsApart (image : Image) : Type 0 where
  -- the serial code does not draw
  pub serial : (steps : ℕ) (part : List (Entry Action)) (a : Actor) → Does (move image) steps (main_actor image) part a → a.unit.state ≡ Runs → next_of image a.start a.unit ≡ next.Ask request.Draw → ⊥
  -- a block does not spawn
  pub spawns : (before : List (Entry Action)) (s : Actor) (ask : SpawnAsk) → ComesToSpawn image before s ask → (k : ℕ) (begin : Actor) → BeginsAt (broadcast s.unit ask) k begin →
      (steps : ℕ) (part : List (Entry Action)) (a : Actor) → Does (move image) steps begin part a → a.unit.state ≡ Runs → (other : SpawnAsk) → next_of image a.start a.unit ≡ next.Ask (request.Spawn other) → ⊥
  -- and does not end the run
  pub halts : (before : List (Entry Action)) (s : Actor) (ask : SpawnAsk) → ComesToSpawn image before s ask → (k : ℕ) (begin : Actor) → BeginsAt (broadcast s.unit ask) k begin →
      (steps : ℕ) (part : List (Entry Action)) (a : Actor) → Does (move image) steps begin part a → a.unit.state ≡ Runs → next_of image a.start a.unit ≡ next.Local → is_live (local_of image a.start a.unit).state ≡ true

-- ---- the words that threads share

-- a word of the machine's table, but for the first four, which stay 0
pub record IsShared (image : Image) (word : ℕ) : Type 0 where
  pub above : 4 ≤ word
  pub below : word < 12 + length image.words + 257 * image.outer

abbrev pub AsksForShared : Image → Request → Type 0
AsksForShared image (request.Load word) = IsShared image word
AsksForShared image (request.Store word value) = IsShared image word
AsksForShared image (request.Add word value) = IsShared image word
AsksForShared image _ = Unit {0}

-- wherever a thread comes by itself, it asks for words that threads share
pub record KeepsToShared (image : Image) : Type 0 where
  pub serial : (steps : ℕ) (part : List (Entry Action)) (a : Actor) → Does (move image) steps (main_actor image) part a → a.unit.state ≡ Runs → (ask : Request) → next_of image a.start a.unit ≡ next.Ask ask → AsksForShared image ask
  pub virtual : (before : List (Entry Action)) (s : Actor) (spawn : SpawnAsk) → ComesToSpawn image before s spawn → (k : ℕ) (begin : Actor) → BeginsAt (broadcast s.unit spawn) k begin →
      (steps : ℕ) (part : List (Entry Action)) (a : Actor) → Does (move image) steps begin part a → a.unit.state ≡ Runs → (ask : Request) → next_of image a.start a.unit ≡ next.Ask ask → AsksForShared image ask
