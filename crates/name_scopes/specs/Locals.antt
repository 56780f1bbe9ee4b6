-- The names in reach inside a function, and its variables in order of declaration.
use Rattle.std.specs.Prelude.{ℕ, Bool, true, false, List, [], ◌∷◌, ◌++◌, length, take}
use Rattle.std.specs.List.{list_any}
use Rattle.xmt_base.specs.declared.values.Place.{Place}
use Rattle.raw_tree.specs.declared.tree.Qualifier.{Qualifier}
use Rattle.raw_tree.specs.declared.tree.Qualifier.TheVariants as q
use Rattle.raw_tree.specs.declared.tree.RawName.{RawName}
use Rattle.name_scopes.specs.declared.scope.Declared.{Declared}
use Rattle.name_scopes.specs.declared.scope.Meaning.TheVariants as means
use Rattle.name_scopes.specs.declared.locals.Locals.{Locals}
use Rattle.name_scopes.specs.Scope.{declare}

-- what is declared, and where each variable of the function is
pub record Env : Type 0 where
  pub declared : List Declared
  pub variables : List Place

abbrev pub env : Locals → Env
env locals = record { declared = locals.scope.declared; variables = locals.variables }

-- one more variable
abbrev pub declare_local : (constant : Bool) → RawName → Env → Env
declare_local constant name e =
    record {
      declared = declare name.bytes (means.Local (length e.variables) constant) e.declared;
      variables = e.variables ++ name.at ∷ [];
    }

-- behind a scope that began after so many declarations: its names are out of reach
abbrev pub left : (count : ℕ) → Env → Env
left count inner = record { declared = take count inner.declared; variables = inner.variables }

abbrev pub is_const : Qualifier → Bool
is_const q.Const = true
is_const q.Volatile = false

-- the type has the word `const`
abbrev pub is_constant : List Qualifier → Bool
is_constant words = list_any is_const words
