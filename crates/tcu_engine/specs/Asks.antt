-- What an advance has done, and what it answers.
use Rattle.std.specs.Prelude.{◌≡◌, ℕ, ◌≤◌, Bool, true, false}
use Rattle.xmt_isa.specs.declared.image.Image.{Image}
use Rattle.xmt_isa.specs.declared.unit.Unit.{Unit}
use Rattle.xmt_isa.specs.declared.unit.Start.{Start}
use Rattle.xmt_isa.specs.declared.unit.Request.{Request}
use Rattle.xmt_isa.specs.declared.unit.Request.TheVariants as request
use Rattle.unit_steps.specs.Steps.{begun, RunsAlone}
use Rattle.tcu_engine.specs.declared.ask.Ask.{Ask}
use Rattle.tcu_engine.specs.declared.ask.Ask.TheVariants.{Load, Store, Add, Draw, Print, Spawn, Pause}

-- the answer by which a unit asks for something
abbrev pub ask_of : Request → Ask
ask_of (request.Load word) = Load word
ask_of (request.Store word value) = Store word value
ask_of (request.Add word value) = Add word value
ask_of request.Draw = Draw
ask_of (request.Print text) = Print text
ask_of (request.Spawn ask) = Spawn ask

-- the unit waits for a reply
abbrev pub is_request : Ask → Bool
is_request (Load word) = true
is_request (Store word value) = true
is_request (Add word value) = true
is_request Draw = true
is_request (Print text) = true
is_request (Spawn ask) = true
is_request ask = false

-- the unit has run at most so many instructions of its own, each below the budget, and just so many where it pauses
pub record HasAdvanced (image : Image) (start : Start) (budget most : ℕ) (old new : Unit) (answer : Ask) : Type 0 where
  pub count : ℕ
  pub few : count ≤ most
  pub alone : RunsAlone image start budget count (begun image old) (record new { waits = false })
  pub pause : answer ≡ Pause → count ≡ most
