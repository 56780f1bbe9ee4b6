-- What the quads ask of a program follows for checked programs.
use Rattle.std.specs.Prelude.{ℕ, ◌^◌, ◌≤◌, Bool}
use Rattle.source_meaning.specs.declared.tree.Program.{Program}
use Rattle.source_meaning.specs.Layout.{all_words}
use Rattle.checked_programs.specs.Checked.{IsChecked}
use Rattle.checked_programs.specs.Limits.{IsWithinLimits}
use Rattle.quad_code.specs.Whole.{IsKnown}
use Rattle.quad_limits.specs.Limits.{HasWords}
use Rattle.checked_quads.specs.Inner.{AreInner}

-- all names are known in a checked program within the limits; blocks may call the functions that reach neither a print nor a spawn
abbrev pub CheckedProgramsAreKnown : Type 0
CheckedProgramsAreKnown =
    (program : Program) (inner : (function : ℕ) → Bool) → IsChecked program → IsWithinLimits program → AreInner program inner →
    IsKnown program inner

-- each global of a checked program has a word
abbrev pub CheckedProgramsHaveWords : Type 0
CheckedProgramsHaveWords = (program : Program) → IsChecked program → all_words program.globals ≤ 2 ^ 20 → HasWords program
