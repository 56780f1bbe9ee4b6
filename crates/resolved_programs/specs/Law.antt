-- What the typed program of a tree has by the rules of names and types.
use Rattle.raw_tree.specs.declared.tree.RawProgram.{RawProgram}
use Rattle.source_meaning.specs.declared.tree.Program.{Program}
use Rattle.spawn_check.specs.Table.{MeetsNone}
use Rattle.typed_programs.specs.Items.{Resolves}
use Rattle.checked_programs.specs.Checked.{IsChecked}
use Rattle.checked_programs.specs.Limits.{IsWithinLimits, HasFewNodes}
use Rattle.resolved_programs.specs.FromSource.{IsFromSource}
use Rattle.resolved_programs.specs.Branches.{TreeHasPlainBranches}

-- the program of a tree that breaks no rule of names and types is checked, where it meets no line of the table of spawn blocks
abbrev pub ResolvedProgramsAreChecked : Type 0
ResolvedProgramsAreChecked = (tree : RawProgram) (program : Program) → IsFromSource tree → Resolves tree program → MeetsNone program → IsChecked program

-- and it keeps to the limits
abbrev pub ResolvedProgramsKeepLimits : Type 0
ResolvedProgramsKeepLimits = (tree : RawProgram) (program : Program) → IsFromSource tree → Resolves tree program → IsWithinLimits program

-- nor has it too many nodes, where no declaration is a branch
abbrev pub ResolvedProgramsHaveFewNodes : Type 0
ResolvedProgramsHaveFewNodes = (tree : RawProgram) (program : Program) → TreeHasPlainBranches tree → Resolves tree program → HasFewNodes program
