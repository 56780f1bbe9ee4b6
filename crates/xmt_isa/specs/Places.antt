-- The words of the machine's table, and the places that threads share.
use Rattle.std.specs.Prelude.{ℕ, ◌+◌, ◌-◌, ◌*◌, ◌/◌, ◌%◌, nat_lt, if◌then◌else◌, length}
use Rattle.xmt_base.specs.Action.{Shared, Word, Register, Outer}
use Rattle.xmt_isa.specs.declared.image.Image.{Image}

-- The place that a word of the table is: words 4 to 11 are the registers, then come the data words, and then the outer words of each depth.
abbrev pub shared_at : Image → (word : ℕ) → Shared
shared_at image word =
    if nat_lt word 12 then Register (word - 4)
    else (if nat_lt word (12 + length image.words) then Word (word - 12)
    else Outer ((word - (12 + length image.words)) / image.outer) ((word - (12 + length image.words)) % image.outer))

-- the word of the table that a place is
abbrev pub word_at : Image → Shared → ℕ
word_at image (Register number) = 4 + number
word_at image (Word place) = 12 + place
word_at image (Outer depth number) = 12 + length image.words + (image.outer * depth + number)
