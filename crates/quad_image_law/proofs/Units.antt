-- What a unit does at an instruction, where the instruction is known.
use Rattle.std.proofs.Common.{◌≡◌, refl, ◌∙◌, ap, arith, ℕ, ◌+◌, ◌-◌, ◌*◌, ◌/◌, ◌%◌, ◌<◌, length, Option, Some, true, false}
use Rattle.std.specs.Prelude.{Bool, nat_lt, if◌then◌else◌, slice_get}
use Rattle.std.specs.Option.{option_and_then}
use Rattle.std.proofs.lemmas.Nat.{div-mul-add, mod-mul-add}
use Rattle.std.proofs.Math.Nat.{mul_comm}
use Rattle.xmt_base.specs.Action.{Action, Ended, Word, Register, Outer}
use Rattle.interleaving.specs.Actors.{Move, Rests, Alone, Acts}
use Rattle.xmt_isa.specs.declared.image.Image.{Image}
use Rattle.xmt_isa.specs.declared.image.Instr.{Instr}
use Rattle.xmt_isa.specs.declared.operation.Operation.{Operation}
use Rattle.xmt_isa.specs.declared.unit.Start.{Start}
use Rattle.xmt_isa.specs.declared.unit.Unit.{Unit}
use Rattle.xmt_isa.specs.declared.unit.UnitState.TheVariants.{Runs}
use Rattle.xmt_isa.specs.declared.unit.Request.{Request}
use Rattle.xmt_isa.specs.declared.unit.Request.TheVariants as request
use Rattle.xmt_isa.specs.declared.unit.Next.{Next}
use Rattle.xmt_isa.specs.declared.unit.Next.TheVariants as next
use Rattle.xmt_isa.specs.Operation.{operation_of}
use Rattle.xmt_isa.specs.Image.{operation_at}
use Rattle.xmt_isa.specs.Step.{next_here, local_here, answer_here, next_of}
use Rattle.xmt_isa.specs.Machine.{broadcast, resumes, waits_for}
use Rattle.xmt_isa.specs.Picked.{is_live}
use Rattle.xmt_isa.specs.Places.{shared_at}
use Rattle.xmt_isa.specs.Threads.{Actor, action_of, stops, move, is_running}

-- the operation of a known instruction
pub operation_is : (image : Image) (at : ℕ) (i : Instr) → slice_get image.code at ≡ Some i → operation_at image at ≡ operation_of i
operation_is image at i here = ap (option_and_then operation_of) here

-- ---- a running unit

-- a unit that runs, at this place
abbrev pub running : Unit → (at : ℕ) → Unit
running u at = record u { state = Runs; at = at }

abbrev pub actor_at : Start → Unit → (at : ℕ) → Actor
actor_at start u at = record { start = start; unit = running u at }

-- behind a request, where the operation is known
abbrev pub answered_by : Image → Actor → Option Operation → Request → (reply : ℕ) → Actor
answered_by image a o (request.Load word) reply = record a { unit = answer_here a.start a.unit o reply }
answered_by image a o (request.Store word value) reply = record a { unit = answer_here a.start a.unit o reply }
answered_by image a o (request.Add word value) reply = record a { unit = answer_here a.start a.unit o reply }
answered_by image a o (request.Print text) reply = record a { unit = answer_here a.start a.unit o reply }
answered_by image a o (request.Spawn ask) reply = record { start = broadcast a.unit ask; unit = resumes image (broadcast a.unit ask) (waits_for a.unit) }
answered_by image a o request.Draw reply = record a { unit = stops a.unit }

abbrev pub alone_by : Actor → Unit → (live : Bool) → Move Actor Action
alone_by a u live = if live then Alone (record a { unit = u }) else Acts Ended (λ reply. record a { unit = u })

abbrev pub moved_by : Image → Actor → Option Operation → Next → Move Actor Action
moved_by image a o next.Local = alone_by a (local_here image a.start a.unit o) (is_live (local_here image a.start a.unit o).state)
moved_by image a o (next.Trap kind) = Rests
moved_by image a o (next.Ask ask) = Acts (action_of image a.unit ask) (answered_by image a o ask)

-- what a running thread does at an operation
abbrev pub acted : Image → Actor → Option Operation → Move Actor Action
acted image a o = moved_by image a o (next_here image a.start a.unit o)

module _ (image : Image) (start : Start) (u : Unit) (at : ℕ) (operation : Operation) (here : operation_at image at ≡ Some operation) where
  pub next_is : next_of image start (running u at) ≡ next_here image start (running u at) (Some operation)
  next_is = ap (next_here image start (running u at)) here

  by_operation : move image (actor_at start u at) ≡ acted image (actor_at start u at) (operation_at image at)
  by_operation = refl

  pub move_is : move image (actor_at start u at) ≡ acted image (actor_at start u at) (Some operation)
  move_is = by_operation ∙ ap (acted image (actor_at start u at)) here

pub lives : (start : Start) (u : Unit) (at : ℕ) → is_running (actor_at start u at).unit.state ≡ false → ⊥
lives start u at h = cc

-- ---- the words that places are

pub data_word : (image : Image) (i : ℕ) → i < length image.words → shared_at image (12 + i) ≡ Word i
data_word image i below =
    let high : nat_lt (12 + i) 12 ≡ false = grind arith in
    let low : nat_lt (12 + i) (12 + length image.words) ≡ true = grind arith in
    let same : 12 + i - 12 ≡ i = omega arith in
    rw (high, low, same) refl

pub register_word : (image : Image) (r : ℕ) → r < 8 → shared_at image (4 + r) ≡ Register r
register_word image r below =
    let low : nat_lt (4 + r) 12 ≡ true = grind arith in
    let same : 4 + r - 4 ≡ r = omega arith in
    rw (low, same) refl

row_of : (outer depth i : ℕ) → i < outer → (outer * depth + i) / outer ≡ depth
row_of outer depth i below = rw (mul_comm outer depth) (div-mul-add depth outer i below)

column_of : (outer depth i : ℕ) → i < outer → (outer * depth + i) % outer ≡ i
column_of outer depth i below = rw (mul_comm outer depth) (mod-mul-add depth outer i below)

pub outer_word : (image : Image) (depth i : ℕ) → i < image.outer → shared_at image (12 + length image.words + image.outer * depth + i) ≡ Outer depth i
outer_word image depth i below =
    let word = 12 + length image.words + image.outer * depth + i in
    let high : nat_lt word 12 ≡ false = grind arith in
    let low : nat_lt word (12 + length image.words) ≡ false = grind arith in
    let same : word - (12 + length image.words) ≡ image.outer * depth + i = omega arith in
    rw (high, low, same) (rw (row_of image.outer depth i below, column_of image.outer depth i below) refl)
