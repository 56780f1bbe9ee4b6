-- What a print writes: the bytes of its text, with the next value as a signed decimal for each `%d`, and a `%` for each `%%`.
use Rattle.std.specs.Prelude.{ℕ, ◌==◌, Bool, true, false, if◌then◌else◌, List, [], ◌∷◌, ◌++◌, slice_index, drop}
use Rattle.std.specs.Fmt.{signed_decimal}
use Rattle.xmt_base.specs.Operators.{signed}

-- what a byte behind a `%` writes
abbrev pub placed : (byte : ℕ) → (values : List ℕ) → List ℕ
placed byte values = if byte == 100 then signed_decimal (signed (slice_index values 0)) else byte ∷ []

abbrev pub values_left : (byte : ℕ) → (values : List ℕ) → List ℕ
values_left byte values = if byte == 100 then drop 1 values else values

-- the rest of a text, whose first byte may stand behind a `%`
abbrev pub piece_from : (behind : Bool) → (text values : List ℕ) → List ℕ
piece_from behind [] values = []
piece_from true (byte ∷ text) values = placed byte values ++ piece_from false text (values_left byte values)
piece_from false (byte ∷ text) values = (if byte == 37 then [] else byte ∷ []) ++ piece_from (byte == 37) text values

abbrev pub piece : (text values : List ℕ) → List ℕ
piece = piece_from false
