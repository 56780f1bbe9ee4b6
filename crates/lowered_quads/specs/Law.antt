-- The quads of a checked program are well formed.
use Rattle.std.specs.Prelude.{◌^◌, ◌≤◌}
use Rattle.source_meaning.specs.declared.tree.Program.{Program}
use Rattle.spawn_check.specs.Words.{words_of}
use Rattle.checked_programs.specs.Checked.{IsChecked}
use Rattle.checked_programs.specs.Limits.{IsWithinLimits, HasFewNodes}
use Rattle.xmt_quads.specs.declared.code.QuadProgram.{QuadProgram}
use Rattle.xmt_quads.specs.WellFormed.{IsWellFormed}
use Rattle.lowered_quads.specs.Lowered.{IsLowered}

-- a checked program within the limits, with at most 65,536 nodes, and at most 2^20 words with those of the shared variables
pub record CanBeLowered (program : Program) : Type 0 where
  pub checked : IsChecked program
  pub limits : IsWithinLimits program
  pub nodes : HasFewNodes program
  pub words : words_of program ≤ 2 ^ 20

abbrev pub LoweredProgramsAreWellFormed : Type 0
LoweredProgramsAreWellFormed = (program : Program) (quads : QuadProgram) → CanBeLowered program → IsLowered program quads → IsWellFormed quads
