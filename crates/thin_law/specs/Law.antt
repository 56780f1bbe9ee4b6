-- Thin sources are accepted by the rules of the whole language.
use Rattle.std.specs.Prelude.{ℕ, List}
use Rattle.source_meaning.specs.declared.tree.Program.{Program}
use Rattle.thin_source.specs.Thin.{IsThin}
use Rattle.front_end.specs.Refused.{IsAccepted}

-- a thin source is accepted, as the same program
abbrev pub ThinSourcesAreAccepted : Type 0
ThinSourcesAreAccepted = (source : List ℕ) (program : Program) → IsThin source program → IsAccepted source program
