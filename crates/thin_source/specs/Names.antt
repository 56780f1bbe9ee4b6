-- What the names of a thin source stand for.
use Rattle.std.specs.Prelude.{ℕ, Bool, true, false, List, slice_get, slice_range, if◌then◌else◌, Option, Some, None}
use Rattle.std.specs.List.{position}
use Rattle.std.specs.Str.{bytes_eq}
use Rattle.source_meaning.specs.declared.tree.GlobalVar.{GlobalVar}
use Rattle.thin_source.specs.declared.tokens.Token.{Token}
use Rattle.thin_source.specs.Tokens.{Text}

-- the bytes of a token
abbrev pub bytes_of : Text → Token → Text
bytes_of source t = slice_range source t.start t.end

-- what stands round an expression: the source, the globals, and whether it stands in the block of a spawn
pub record Context : Type 0 where
  pub source : Text
  pub globals : List GlobalVar
  pub inside : Bool

-- the same within the block of a spawn
abbrev pub within_block : Context → Context
within_block c = record { source = c.source; globals = c.globals; inside = true }

-- whether there is a global and it is an array, or a scalar
abbrev pub has_shape : Bool → Option GlobalVar → Bool
has_shape array None = false
has_shape true (Some global) = global.array
has_shape false (Some global) = if global.array then false else true

abbrev pub of_shape : List GlobalVar → Bool → Option ℕ → Option ℕ
of_shape globals array None = None
of_shape globals array (Some number) = if has_shape array (slice_get globals number) then Some number else None

-- the number of the array, or of the scalar, that a token names
abbrev pub global_of : Context → (array : Bool) → Token → Option ℕ
global_of c array t = of_shape c.globals array (position (λ global. bytes_eq (bytes_of c.source t) global.name) c.globals)
