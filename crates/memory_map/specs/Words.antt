-- Lines, their words, and how names and values are spelled.
use Rattle.std.specs.Prelude.{ℕ, ◌+◌, ◌-◌, ◌*◌, ◌%◌, ◌^◌, ◌==◌, ◌&&◌, ◌||◌, Bool, not, if◌then◌else◌, nat_eq, nat_lt, nat_le, List, [], ◌∷◌, length, take, filter, slice_index}
use Rattle.std.specs.declared.option.Option.{Option}
use Rattle.std.specs.declared.option.Option.TheVariants.{Some, None}
use Rattle.std.specs.List.{slice_split, starts_with}

-- the value of a hexadecimal digit, and 255 of another byte
abbrev pub digit_of : ℕ → ℕ
digit_of c = if nat_le 48 c && nat_le c 57 then c - 48 else (if nat_le 97 c && nat_le c 102 then c - 97 + 10 else (if nat_le 65 c && nat_le c 70 then c - 65 + 10 else 255))

-- the number that goes on with these digits, below 2 ^ 32
abbrev pub number_from : ℕ → ℕ → List ℕ → Option ℕ
number_from base n [] = Some n
number_from base n (c ∷ cs) = if nat_lt (digit_of c) base && nat_lt (n * base + digit_of c) (2 ^ 32) then number_from base (n * base + digit_of c) cs else None

-- what may stand behind a first 0: nothing, or x and hexadecimal digits
abbrev pub after_zero : List ℕ → Option ℕ
after_zero [] = Some 0
after_zero (c ∷ cs) = if (c == 120 || c == 88) && not (length cs == 0) then number_from 16 0 cs else None

-- 0, digits without a first 0, or 0x and hexadecimal digits
abbrev pub number_of : List ℕ → Option ℕ
number_of [] = None
number_of (c ∷ cs) = if c == 48 then after_zero cs else number_from 10 0 (c ∷ cs)

-- the negative number in two's complement, from -2 ^ 31 on
abbrev pub negative_of : Option ℕ → Option ℕ
negative_of None = None
negative_of (Some n) = if nat_le n (2 ^ 31) then Some ((2 ^ 32 - n) % 2 ^ 32) else None

-- an optional minus sign, and a number
abbrev pub value_of : List ℕ → Option ℕ
value_of [] = None
value_of (c ∷ cs) = if c == 45 then negative_of (number_of cs) else number_of (c ∷ cs)

-- the line without a carriage return at its end
abbrev pub without_return : List ℕ → List ℕ
without_return line = if slice_index line (length line - 1) == 13 then take (length line - 1) line else line

-- a carriage return is dropped before a newline, so not in the last part
abbrev pub part_lines : List (List ℕ) → List (List ℕ)
part_lines [] = []
part_lines (part ∷ []) = part ∷ []
part_lines (part ∷ next ∷ parts) = without_return part ∷ part_lines (next ∷ parts)

-- the lines of a text
abbrev pub text_lines : List ℕ → List (List ℕ)
text_lines bytes = part_lines (slice_split (λ c. c == 10) bytes)

-- the text begins with two slashes
abbrev pub begins_comment : List ℕ → Bool
begins_comment text = starts_with nat_eq text (47 ∷ 47 ∷ [])

-- a line up to its comment
abbrev pub without_comment : List ℕ → List ℕ
without_comment [] = []
without_comment (c ∷ cs) = if begins_comment (c ∷ cs) then [] else c ∷ without_comment cs

-- the pieces between spaces and tabs that aren't empty
abbrev pub split_words : List ℕ → List (List ℕ)
split_words line = filter (λ word. not (length word == 0)) (slice_split (λ c. c == 32 || c == 9) line)

-- the words of a line
abbrev pub words_of : List ℕ → List (List ℕ)
words_of line = split_words (without_comment line)
