-- What a source has done where a run of its image ends.
use Rattle.std.specs.Prelude.{◌≡◌, ℕ, ◌+◌, ◌*◌, ◌≤◌, IsTrue, List, length}
use Rattle.std.specs.List.{Contains}
use Rattle.source_meaning.specs.declared.tree.Program.{Program}
use Rattle.source_meaning.specs.Layout.{all_words}
use Rattle.source_meaning.specs.Run as source
use Rattle.source_meaning.specs.Run.{Configuration, is_over, start, words_held}
use Rattle.xmt_isa.specs.declared.run.Choice.{Choice}
use Rattle.xmt_isa.specs.declared.run.Choice.TheVariants.{Done, Trap, Spent, Step}
use Rattle.xmt_compile.specs.Implements.{reached}

-- Done: the source has ended, and leaves these words in its globals. Trap: one of its threads stands at that trap. Spent: a unit did as many steps as the budget
-- allows, and the source has taken at least one step for each 64 of them, but for the first 64.
abbrev pub EndsSo : Program → Configuration → (steps budget : ℕ) → (left : List ℕ) → Choice → Type 0
EndsSo program c steps budget left Done = IsTrue (is_over c) × (words_held c.store (all_words program.globals) ≡ left)
EndsSo program c steps budget left (Trap trap) = Contains (source.traps program c) trap
EndsSo program c steps budget left (Spent unit done) = (done ≡ budget) × (budget ≤ 64 * (steps + 1))
EndsSo program c steps budget left (Step k) = ⊥

-- From this memory of its globals, and by a legal schedule, the source has printed this, has come to such an end and, where it has ended, leaves
-- these words in its globals. With one control unit it is the rising schedule.
pub record HasDone (program : Program) (memory : List ℕ) (units budget : ℕ) (end : Choice) (output left : List ℕ) : Type 0 where
  pub schedule : List ℕ
  pub legal : source.IsLegal program (start program memory) schedule
  pub printed : (reached program memory schedule).output ≡ output
  pub ends : EndsSo program (reached program memory schedule) (length schedule) budget left end
  pub rising : units ≡ 1 → schedule ≡ source.rising program (start program memory) (length schedule)

-- The same, wherever the run has come.
pub record HasPrinted (program : Program) (memory : List ℕ) (units : ℕ) (output : List ℕ) : Type 0 where
  pub schedule : List ℕ
  pub legal : source.IsLegal program (start program memory) schedule
  pub printed : (reached program memory schedule).output ≡ output
  pub rising : units ≡ 1 → schedule ≡ source.rising program (start program memory) (length schedule)
