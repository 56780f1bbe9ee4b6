-- What was written to the streams of a host between two moments.
use Rattle.std.specs.Prelude.{◌≡◌, ℕ, List, ◌++◌, take}
use Rattle.std.specs.declared.option.Option.{Option}
use Rattle.std.specs.Option.{option_map}
use Rattle.xmt_host.specs.Told.{Told}

-- these bytes were written to a stream
abbrev pub Writes : List ℕ → Option (List ℕ) → Option (List ℕ) → Type 0
Writes bytes old new = new ≡ option_map (λ written. written ++ bytes) old

-- a prefix of these bytes was written
abbrev pub WritesPart : List ℕ → Option (List ℕ) → Option (List ℕ) → Type 0
WritesPart bytes old new = (n : ℕ) × Writes (take n bytes) old new

-- nothing was printed, and no file was changed
pub record IsSilent (before now : Told) : Type 0 where
  pub out : now.out ≡ before.out
  pub files : now.files ≡ before.files
