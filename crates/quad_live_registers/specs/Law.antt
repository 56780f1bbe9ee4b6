-- Which registers are live in the quads of a program.
use Rattle.std.specs.Prelude.{ℕ, Bool, All}
use Rattle.source_meaning.specs.declared.tree.Program.{Program}
use Rattle.xmt_quads.specs.declared.code.QuadProgram.{QuadProgram}
use Rattle.xmt_quads.specs.WellFormed.{HasLiveRegisters}
use Rattle.quad_code.specs.Whole.{IsCodeOf, IsKnown}

abbrev pub QuadsHaveLiveRegisters : Type 0
QuadsHaveLiveRegisters =
    (program : Program) (inner : (function : ℕ) → Bool) (quads : QuadProgram) → IsKnown program inner → IsCodeOf program quads →
    All HasLiveRegisters quads.functions
