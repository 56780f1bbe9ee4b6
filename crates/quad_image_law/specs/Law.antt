-- What the image of a quad program does.
use Rattle.std.specs.Prelude.{ℕ, ◌+◌, ◌≤◌, List, All}
use Rattle.xmt_base.specs.Action.{Action, Start, Traces}
use Rattle.source_log.specs.Bounded.{EndsThread}
use Rattle.xmt_isa.specs.declared.image.Image.{Image}
use Rattle.xmt_isa.specs.Traces as isa
use Rattle.xmt_quads.specs.declared.code.QuadProgram.{QuadProgram}
use Rattle.xmt_quads.specs.declared.homes.Home.{Home}
use Rattle.xmt_quads.specs.Allocation.{IsAllocationOf, HasOwnSlots}
use Rattle.xmt_quads.specs.Traces.{traces_of}
use Rattle.xmt_quads.specs.WellFormed.{IsWellFormed}
use Rattle.quad_images.specs.Image.{IsImageOf}

-- the work of the quads is as much as there are instructions, but for at most 24 of them, and for none once the thread has ended
pub record IsPaid (trace : List Action) (instructions work : ℕ) : Type 0 where
  pub under_way : instructions ≤ work + 24
  pub ended : EndsThread trace → instructions ≤ work

-- each trace of this code is one of the quads, and their work pays for its instructions
abbrev pub HasPaidTraces : QuadProgram → Traces → Type 0
HasPaidTraces program code =
    (begin : Start) (replies : List ℕ) (trace : List Action) (instructions : ℕ) → code begin replies trace instructions → (work : ℕ) × traces_of program begin replies trace work × IsPaid trace instructions work

abbrev pub ImagesHavePaidTraces : Type 0
ImagesHavePaidTraces =
    (program : QuadProgram) (homes : List (List Home)) (image : Image) → IsWellFormed program → IsAllocationOf program homes → All HasOwnSlots homes → IsImageOf program homes image →
    HasPaidTraces program (isa.traces_of image)
