-- The passes of callers that make many calls.
use Rattle.std.specs.Prelude.{◌≡◌, ◌^◌, ◌≤◌, Option, Some, None}
use Rattle.shared_words.specs.Passes.{WordsId, Token}

-- a pass of these words that may draw 2^32 numbers
abbrev pub IsReady : WordsId → Option Token → Type 0
IsReady words None = ⊥
IsReady words (Some p) = (p.of ≡ words) × (2 ^ 32 ≤ p.known.room)
