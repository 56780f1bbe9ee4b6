-- The words of a machine, and those that threads share in their place.
use Rattle.std.specs.Prelude.{◌≡◌, ℕ, ◌%◌, ◌^◌, ◌<◌, ◌≤◌, List, length, slice_index}

-- these words in 64 bits, behind four zeros in place of the first four
pub record Widens (words wide : List ℕ) : Type 0 where
  pub size : length wide ≡ length words
  pub zeros : (place : ℕ) → place < 4 → slice_index wide place ≡ 0
  pub each : (place : ℕ) → 4 ≤ place → slice_index words place ≡ slice_index wide place % 2 ^ 32

-- the first four words as they were, and the others in 32 bits
pub record Narrows (words wide new : List ℕ) : Type 0 where
  pub size : length new ≡ length words
  pub first : (place : ℕ) → place < 4 → slice_index new place ≡ slice_index words place
  pub each : (place : ℕ) → 4 ≤ place → slice_index new place ≡ slice_index wide place % 2 ^ 32
