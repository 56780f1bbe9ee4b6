-- The passes of workers that draw one number each.
use Rattle.std.specs.Prelude.{◌≡◌, ℕ, [], ◌∷◌, length, Option, Some, None}
use Rattle.shared_words.specs.History.{own}
use Rattle.shared_words.specs.Passes.{WordsId, Token, IsPassOf}
use Rattle.shared_words.specs.Sections.{unnumbered}

-- a pass of these words that has no number, and may draw one
abbrev pub IsReady : WordsId → Option Token → Type 0
IsReady words None = ⊥
IsReady words (Some p) = (p.of ≡ words) × (p.known ≡ unnumbered p.known.seen)

-- a pass of these words that has seen the 1001 entries of its one number
abbrev pub HasWorked : WordsId → Option Token → Type 0
HasWorked words None = ⊥
HasWorked words (Some p) = IsPassOf words p × ((n : ℕ) × (p.known.numbers ≡ n ∷ []) × (length (own n p.known.seen.entries) ≡ 1001))
