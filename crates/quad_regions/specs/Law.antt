-- Blocks and jumps nest in the quads of a program.
use Rattle.std.specs.Prelude.{◌≡◌, ℕ, Bool, All, Some, slice_get}
use Rattle.source_meaning.specs.declared.tree.Program.{Program}
use Rattle.xmt_quads.specs.declared.code.QuadFunction.{QuadFunction}
use Rattle.xmt_quads.specs.declared.code.QuadProgram.{QuadProgram}
use Rattle.xmt_quads.specs.Regions.{HasRegions}
use Rattle.quad_code.specs.Whole.{IsCodeOf, IsKnown}

-- the functions that blocks may call are marked
abbrev pub AreMarked : (inner : (function : ℕ) → Bool) → QuadProgram → Type 0
AreMarked inner quads = (f : ℕ) (code : QuadFunction) → slice_get quads.functions f ≡ Some code → code.inner ≡ inner f

abbrev pub QuadsHaveRegions : Type 0
QuadsHaveRegions =
    (program : Program) (inner : (function : ℕ) → Bool) (quads : QuadProgram) → IsKnown program inner → IsCodeOf program quads → AreMarked inner quads →
    All (HasRegions quads) quads.functions
