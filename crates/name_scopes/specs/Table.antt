-- The table by which a name is found at once.
use Rattle.std.specs.Prelude.{◌≡◌, ℕ, ◌<◌, List, length, take, Option, Some, None, slice_index_or}
use Rattle.std.specs.Str.{bytes_eq}
use Rattle.std.specs.HashMap.{get_by}
use Rattle.name_scopes.specs.declared.scope.Binding.{Binding}
use Rattle.name_scopes.specs.declared.scope.Declared.{Declared}
use Rattle.name_scopes.specs.declared.scope.Scope.{Scope}
use Rattle.name_scopes.specs.Scope.{look}

abbrev pub found : Option (Option Binding) → Option Binding
found None = None
found (Some binding) = binding

-- the table has the last declaration of each name, and each declaration knows which one it hides
pub record IsTable (scope : Scope) : Type 0 where
  pub finds : (name : List ℕ) → found (get_by (λ key. bytes_eq name key.items) scope.by_name) ≡ look scope.declared name
  pub restores : (place : ℕ) (default : Declared) → place < length scope.declared →
      (slice_index_or scope.declared place default).hidden ≡ look (take place scope.declared) (slice_index_or scope.declared place default).name
