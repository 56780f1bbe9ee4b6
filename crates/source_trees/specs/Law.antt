-- What every tree has that the tokens of a source spell.
use Rattle.std.specs.Prelude.{ℕ, ◌^◌, ◌≤◌, List, [], length}
use Rattle.xmt_lex.specs.Lex.{first_spot}
use Rattle.token_law.specs.Longest.{AreTokens}
use Rattle.raw_tree.specs.declared.tree.RawProgram.{RawProgram}
use Rattle.raw_tree.specs.Level.{Tokens}
use Rattle.raw_tree.specs.Items.{SpellsItems}
use Rattle.resolved_programs.specs.FromSource.{IsFromSource}
use Rattle.resolved_programs.specs.Branches.{TreeHasPlainBranches}

-- its names are spelled as names, and its texts can be printed
abbrev pub SpelledTreesAreFromSource : Type 0
SpelledTreesAreFromSource =
    (source : List ℕ) (ts : Tokens) (nesting : ℕ) (tree : RawProgram) → length source ≤ 2 ^ 20 → AreTokens [] first_spot source ts → SpellsItems source nesting tree.items ts →
    IsFromSource tree

-- and no declaration in it is a branch or the body of a loop
abbrev pub SpelledTreesHavePlainBranches : Type 0
SpelledTreesHavePlainBranches = (source : List ℕ) (ts : Tokens) (nesting : ℕ) (tree : RawProgram) → SpellsItems source nesting tree.items ts → TreeHasPlainBranches tree
