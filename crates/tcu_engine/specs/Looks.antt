-- What a unit is at, as it is looked at.
use Rattle.std.specs.Prelude.{⊤, ◌≡◌, ℕ, ◌^◌, ◌<◌, ◌≤◌, ◌==◌, if◌then◌else◌, Bool, true, false, slice_index}
use Rattle.xmt_base.specs.declared.values.Trap as spec
use Rattle.xmt_base.specs.declared.values.TrapKind.{TrapKind}
use Rattle.xmt_isa.specs.declared.image.Image.{Image}
use Rattle.xmt_isa.specs.declared.unit.Unit.{Unit}
use Rattle.xmt_isa.specs.declared.unit.UnitState.{UnitState}
use Rattle.xmt_isa.specs.declared.unit.UnitState.TheVariants as state
use Rattle.xmt_isa.specs.declared.unit.Start.{Start}
use Rattle.xmt_isa.specs.declared.unit.Request.{Request}
use Rattle.xmt_isa.specs.declared.unit.Request.TheVariants as request
use Rattle.xmt_isa.specs.declared.unit.Next.{Next}
use Rattle.xmt_isa.specs.declared.unit.Next.TheVariants as next
use Rattle.xmt_isa.specs.Step.{next_of}
use Rattle.unit_steps.specs.Steps.{RunsAlone}
use Rattle.tcu_engine.specs.declared.ask.Ask.{Ask}
use Rattle.tcu_engine.specs.declared.ask.Ask.TheVariants.{Pause, Stopped, Halt, Trap, Spent}
use Rattle.tcu_engine.specs.Asks.{ask_of}

-- a trap of this kind where the unit stands
abbrev pub trap_of : Image → Unit → TrapKind → spec.Trap
trap_of image u kind = record { kind = kind; line = slice_index image.lines u.at; thread = u.thread }

-- a request of a place that 32 bits hold
abbrev pub HasPlace : Request → Type 0
HasPlace (request.Load word) = word < 2 ^ 32
HasPlace (request.Store word value) = word < 2 ^ 32
HasPlace (request.Add word value) = word < 2 ^ 32
HasPlace request.Draw = ⊤
HasPlace (request.Print text) = ⊤
HasPlace (request.Spawn ask) = ⊤

-- an instruction that touches the unit alone
abbrev pub is_local : Next → Bool
is_local next.Local = true
is_local (next.Trap kind) = false
is_local (next.Ask request) = false

-- what a unit that is live and has steps left is at
abbrev pub at_next : Image → Unit → Next → Ask
at_next image u next.Local = Pause
at_next image u (next.Trap kind) = Trap (trap_of image u kind)
at_next image u (next.Ask request) = ask_of request

abbrev pub at_live : Image → Start → (budget : ℕ) → Unit → Ask
at_live image start budget u = if u.counts.steps == budget then Spent else at_next image u (next_of image start u)

abbrev pub at_state : Image → Start → (budget : ℕ) → Unit → UnitState → Ask
at_state image start budget u state.Halted = Halt
at_state image start budget u state.Stopped = Stopped
at_state image start budget u state.Draws = at_live image start budget u
at_state image start budget u state.Runs = at_live image start budget u

-- what a unit is at, a local instruction being a pause
abbrev pub is_at : Image → Start → (budget : ℕ) → Unit → Ask
is_at image start budget u = at_state image start budget u u.state

-- so many of a unit's own instructions lead to where it pauses only after the most
pub record HasRun (image : Image) (start : Start) (budget most : ℕ) (old new : Unit) (answer : Ask) : Type 0 where
  pub count : ℕ
  pub few : count ≤ most
  pub alone : RunsAlone image start budget count old new
  pub pause : answer ≡ Pause → count ≡ most
