-- The threads of an image, each by itself: the serial code, and each virtual thread on a control unit.
use Rattle.std.specs.Prelude.{◌≡◌, ℕ, ◌+◌, ◌%◌, ◌^◌, ◌==◌, Bool, true, false, if◌then◌else◌, length, take, count_by, slice_set}
use Rattle.std.specs.declared.option.Option.TheVariants.{Some, None}
use Rattle.xmt_base.specs.Action.{Action, Load, Store, Add, Print, Spawn, Ended}
use Rattle.xmt_base.specs.Text.{piece}
use Rattle.interleaving.specs.Actors.{Move, Rests, Alone, Acts}
use Rattle.xmt_isa.specs.declared.image.Image.{Image}
use Rattle.xmt_isa.specs.declared.unit.Start.{Start}
use Rattle.xmt_isa.specs.declared.unit.Unit.{Unit}
use Rattle.xmt_isa.specs.declared.unit.UnitState.{UnitState}
use Rattle.xmt_isa.specs.declared.unit.UnitState.TheVariants.{Draws, Runs, Stopped, Halted}
use Rattle.xmt_isa.specs.declared.unit.Request.{Request}
use Rattle.xmt_isa.specs.declared.unit.Request.TheVariants as request
use Rattle.xmt_isa.specs.declared.unit.Next.{Next}
use Rattle.xmt_isa.specs.declared.unit.Next.TheVariants as next
use Rattle.xmt_isa.specs.Step.{more, next_of, local_of, answer_of}
use Rattle.xmt_isa.specs.Machine.{broadcast, resumes, waits_for, text_of}
use Rattle.xmt_isa.specs.Opening.{new_master, no_start}
use Rattle.xmt_isa.specs.Picked.{is_live}
use Rattle.xmt_isa.specs.Places.{shared_at}

-- a unit, with what the last spawn broadcast
pub record Actor : Type 0 where
  pub start : Start
  pub unit : Unit

-- the number of a spawn, in the order of the code
abbrev pub site_of : Image → (at : ℕ) → ℕ
site_of image at = count_by (λ i. i.op == 44) (take at image.code)

-- what others see of a request; a thread that draws again has ended
abbrev pub action_of : Image → Unit → Request → Action
action_of image u (request.Load word) = Load (shared_at image word)
action_of image u (request.Store word value) = Store (shared_at image word) value
action_of image u (request.Add word value) = Add (shared_at image word) value
action_of image u (request.Print text) = Print (piece (text_of image text) u.list)
action_of image u (request.Spawn ask) = Spawn (site_of image u.at) ask.low ask.high
action_of image u request.Draw = Ended

-- a unit whose thread has ended
abbrev pub stops : Unit → Unit
stops u = record u { state = Stopped; thread = None; counts = record u.counts { steps = more u.counts.steps } }

-- a thread behind its request: the serial code is behind its spawn only when the threads of the block have ended
abbrev pub answered : Image → Actor → Request → (reply : ℕ) → Actor
answered image a (request.Load word) reply = record a { unit = answer_of image a.start a.unit reply }
answered image a (request.Store word value) reply = record a { unit = answer_of image a.start a.unit reply }
answered image a (request.Add word value) reply = record a { unit = answer_of image a.start a.unit reply }
answered image a (request.Print text) reply = record a { unit = answer_of image a.start a.unit reply }
answered image a (request.Spawn ask) reply = record { start = broadcast a.unit ask; unit = resumes image (broadcast a.unit ask) (waits_for a.unit) }
answered image a request.Draw reply = record a { unit = stops a.unit }

abbrev pub goes_alone : Image → Actor → Actor
goes_alone image a = record a { unit = local_of image a.start a.unit }

-- an instruction that touches the unit alone, or the one by which the main function ends
abbrev pub move_alone : Image → Actor → (live : Bool) → Move Actor Action
move_alone image a live = if live then Alone (goes_alone image a) else Acts Ended (λ reply. goes_alone image a)

abbrev pub move_by : Image → Actor → Next → Move Actor Action
move_by image a next.Local = move_alone image a (is_live (local_of image a.start a.unit).state)
move_by image a (next.Trap kind) = Rests
move_by image a (next.Ask ask) = Acts (action_of image a.unit ask) (answered image a ask)

abbrev pub is_running : UnitState → Bool
is_running Draws = false
is_running Runs = true
is_running Stopped = false
is_running Halted = false

-- what a thread does next by itself
abbrev pub move : Image → Actor → Move Actor Action
move image a = if is_running a.unit.state then move_by image a (next_of image a.start a.unit) else Rests

-- ---- where threads begin

abbrev pub main_actor : Image → Actor
main_actor image = record { start = no_start; unit = new_master image }

-- the number of a virtual thread
abbrev pub number_at : Start → (k : ℕ) → ℕ
number_at start k = (start.low + k) % 2 ^ 32

-- a unit that begins with the thread of this number; it keeps its frames and its argument list
abbrev pub begins : Start → Unit → (number : ℕ) → Unit
begins start u number =
    record u {
      state = Runs;
      at = start.at;
      thread = Some number;
      depth = 0;
      regs = slice_set start.regs 1 number;
      counts = record u.counts { steps = more u.counts.steps; threads = more u.counts.threads };
    }

abbrev pub begun : Start → Unit → (number : ℕ) → Actor
begun start u number = record { start = start; unit = begins start u number }

-- a unit has its room for return addresses, frames and arguments, whatever they hold
pub record HasRoom (u : Unit) : Type 0 where
  pub back : length u.back ≡ 256
  pub frames : length u.frames ≡ 131584
  pub list : length u.list ≡ 16

-- the virtual thread k of a spawn, on some control unit
abbrev pub BeginsAt : Start → (k : ℕ) → Actor → Type 0
BeginsAt start k a = (u : Unit) × (u.number ≡ 0 → ⊥) × HasRoom u × (a ≡ begun start u (number_at start k))
