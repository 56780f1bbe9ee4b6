-- What the steps of the units of a valid image keep: each unit stands where it may, and asks only for what is there.
use Rattle.std.specs.Prelude.{⊤, ◌≡◌, ◌≢◌, ◌↔◌, ℕ, ◌+◌, ◌<◌, ◌≤◌, true, false, length, slice_get}
use Rattle.std.specs.declared.option.Option.TheVariants.{Some}
use Rattle.xmt_base.specs.Format.{directives}
use Rattle.xmt_isa.specs.declared.image.Image.{Image}
use Rattle.xmt_isa.specs.declared.image.Instr.{Instr}
use Rattle.xmt_isa.specs.declared.operation.Operation.{Operation}
use Rattle.xmt_isa.specs.declared.operation.Operation.TheVariants.{Return}
use Rattle.xmt_isa.specs.declared.unit.Unit.{Unit}
use Rattle.xmt_isa.specs.declared.unit.UnitState.TheVariants.{Runs, Stopped, Halted}
use Rattle.xmt_isa.specs.declared.unit.Start.{Start}
use Rattle.xmt_isa.specs.declared.unit.SpawnAsk.{SpawnAsk}
use Rattle.xmt_isa.specs.declared.unit.Request.{Request}
use Rattle.xmt_isa.specs.declared.unit.Request.TheVariants as request
use Rattle.xmt_isa.specs.declared.unit.Next.TheVariants.{Local, Ask}
use Rattle.xmt_isa.specs.Image.{operation_at}
use Rattle.xmt_isa.specs.Operation.{operation_of}
use Rattle.xmt_isa.specs.Flow.{IsSound}
use Rattle.xmt_isa.specs.Regions.{IsSpawn}
use Rattle.xmt_isa.specs.Step.{next_of, local_of}
use Rattle.xmt_isa.specs.Machine.{ready, text_of}
use Rattle.xmt_isa.specs.Picked.{is_live}
use Rattle.xmt_isa.specs.Fits.{UnitFits, StartFits}
use Rattle.machine_places.specs.Keeps.{IsShared}
use Rattle.unit_steps.specs.Steps.{is_new_master, begun, answered}

-- what a unit asks for is there: a word of the table that threads share, of which a register takes 0 or 1; a text with at most 16 values
abbrev pub IsThere : Image → Request → Type 0
IsThere image (request.Load word) = IsShared image word
IsThere image (request.Store word value) = IsShared image word
IsThere image (request.Add word value) = IsShared image word × (word < 12 → value ≤ 1)
IsThere image request.Draw = ⊤
IsThere image (request.Print text) = (text < length image.texts) × (directives false (text_of image text) ≤ 16)
IsThere image (request.Spawn ask) = ⊤

-- of a control unit, what was broadcast fits; the master doesn't look at it
abbrev pub HasStart : Image → Start → Unit → Type 0
HasStart image start u = u.number ≢ 0 → StartFits image start

-- the unit stands at an instruction of the image, whose registers, slot, word or text, and the place that it leads to are there
pub record StandsSoundly (image : Image) (u : Unit) : Type 0 where
  pub instruction : Instr
  pub is_at : slice_get image.code u.at ≡ Some instruction
  pub operation : Operation
  pub means : operation_of instruction ≡ Some operation
  pub is_sound : IsSound image u.at instruction operation

pub record KeepsFit (image : Image) : Type 0 where
  -- a unit that fits goes on to fit: the master when it begins, ..
  pub begin : (start : Start) (u : Unit) → UnitFits image start u → u.waits ≡ false → UnitFits image start (begun image u)
  -- .. after an instruction of its own, ..
  pub alone : (start : Start) (u : Unit) → HasStart image start u → UnitFits image start u → u.waits ≡ false → u.state ≡ Runs → next_of image start u ≡ Local → UnitFits image start (local_of image start u)
  -- .. when it has asked, ..
  pub ask : (start : Start) (u : Unit) (ask : Request) → UnitFits image start u → is_live u.state ≡ true → is_new_master u ≡ false → next_of image start u ≡ Ask ask → UnitFits image start (record u { waits = true })
  -- .. behind its request, ..
  pub reply : (start : Start) (u : Unit) (reply : ℕ) → HasStart image start u → UnitFits image start u → u.waits ≡ true → UnitFits image start (answered image start u reply)
  -- .. and, where it has stopped, at the beginning of another section
  pub ready : (start other : Start) (u : Unit) → UnitFits image start u → u.state ≡ Stopped → UnitFits image other (ready u)
  -- the master fits whatever was broadcast, and does the same next
  pub master : (start other : Start) (u : Unit) → u.number ≡ 0 → UnitFits image start u → UnitFits image other u × (next_of image other u ≡ next_of image start u)
  -- a unit that runs stands soundly, and asks for what is there
  pub stands : (start : Start) (u : Unit) → UnitFits image start u → u.state ≡ Runs → StandsSoundly image u
  pub there : (start : Start) (u : Unit) (ask : Request) → HasStart image start u → UnitFits image start u → is_live u.state ≡ true → next_of image start u ≡ Ask ask → IsThere image ask
  -- the master alone spawns, at a spawn, and prints; a control unit alone draws, but for a master that is due to begin
  pub spawns : (start : Start) (u : Unit) (ask : SpawnAsk) → UnitFits image start u → is_live u.state ≡ true → next_of image start u ≡ Ask (request.Spawn ask) → (u.number ≡ 0) × IsSpawn image u.at × (ask.at ≡ u.at + 1)
  pub prints : (start : Start) (u : Unit) (text : ℕ) → UnitFits image start u → is_live u.state ≡ true → next_of image start u ≡ Ask (request.Print text) → u.number ≡ 0
  pub draws : (start : Start) (u : Unit) → UnitFits image start u → is_live u.state ≡ true → is_new_master u ≡ false → next_of image start u ≡ Ask request.Draw → u.number ≢ 0
  -- the master halts exactly by a return at depth 0, and a control unit never
  pub halts : (start : Start) (u : Unit) → UnitFits image start u → u.state ≡ Runs → next_of image start u ≡ Local → ((local_of image start u).state ≡ Halted) ↔ ((operation_at image u.at ≡ Some Return) × (u.depth ≡ 0) × (u.number ≡ 0))
