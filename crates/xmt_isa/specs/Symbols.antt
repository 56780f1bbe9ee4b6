-- The symbols of a memory: its globals in the order of their words.
use Rattle.std.specs.Prelude.{◌≡◌, ◌≢◌, ℕ, ◌+◌, List, [], ◌∷◌, All, AllPairs}
use Rattle.xmt_base.specs.declared.values.Symbol.{Symbol}
use Rattle.xmt_base.specs.Name.{IsName}

-- the symbols follow each other from one word to another
abbrev pub Covers : (from : ℕ) → List Symbol → (to : ℕ) → Type 0
Covers from [] to = from ≡ to
Covers from (s ∷ ss) to = (s.base ≡ from) × Covers (from + s.length) ss to

-- names that differ, and each word in one symbol
pub record AreSymbols (symbols : List Symbol) (words : ℕ) : Type 0 where
  pub names : All (λ s. IsName s.name) symbols
  pub differ : AllPairs (λ s t. s.name ≢ t.name) symbols
  pub cover : Covers 0 symbols words
