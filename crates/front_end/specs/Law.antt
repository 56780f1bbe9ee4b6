-- A source has at most one program, and one that breaks a rule has none.
use Rattle.std.specs.Prelude.{◌≡◌, ℕ, List}
use Rattle.xmt_base.specs.declared.Place.{Place}
use Rattle.source_meaning.specs.declared.tree.Program.{Program}
use Rattle.front_end.specs.declared.refusal.SourceKind.{SourceKind}
use Rattle.front_end.specs.Refused.{IsAccepted, Breaks}

-- no program is one of the source
abbrev pub HasNoProgram : List ℕ → Type 0
HasNoProgram source = (program : Program) → ¬ IsAccepted source program

abbrev pub SourcesHaveOneProgram : Type 0
SourcesHaveOneProgram = (source : List ℕ) (p q : Program) → IsAccepted source p → IsAccepted source q → p ≡ q

abbrev pub BrokenSourcesHaveNone : Type 0
BrokenSourcesHaveNone = (source : List ℕ) (kind : SourceKind) (place : Place) → Breaks source kind place → HasNoProgram source
