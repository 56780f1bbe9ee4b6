-- What names stand for.
use Rattle.std.specs.Prelude.{ℕ, if◌then◌else◌, List, [], ◌∷◌, ◌++◌, length, Option, Some, None}
use Rattle.std.specs.Str.{bytes_eq}
use Rattle.name_scopes.specs.declared.scope.Meaning.{Meaning}
use Rattle.name_scopes.specs.declared.scope.Binding.{Binding}
use Rattle.name_scopes.specs.declared.scope.Declared.{Declared}

-- the second, where there is one; otherwise the first
abbrev pub or_hidden : Option Binding → Option Binding → Option Binding
or_hidden before None = before
or_hidden before (Some behind) = Some behind

-- what a name stands for: its last declaration of those in reach
abbrev pub look : List Declared → List ℕ → Option Binding
look [] name = None
look (d ∷ ds) name = or_hidden (if bytes_eq name d.name then Some d.binding else None) (look ds name)

-- one more declaration, which hides an earlier one of that name
abbrev pub declare : List ℕ → Meaning → List Declared → List Declared
declare name meaning ds = ds ++ record { name = name; binding = record { place = length ds; meaning = meaning }; hidden = look ds name } ∷ []
