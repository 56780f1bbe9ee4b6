-- The tokens of a thin source. At each place the longest spelling that stands there is taken, and blanks part tokens.
use Rattle.std.specs.Prelude.{◌≡◌, ℕ, ◌+◌, ◌-◌, ◌*◌, ◌≤◌, ◌^◌, nat_lt, ◌==◌, ◌&&◌, ◌||◌, Bool, true, false, if◌then◌else◌, List, [], ◌∷◌, ◌++◌, length, codes, Option, Some, None}
use Rattle.std.specs.Char.{is_ascii_digit}
use Rattle.std.specs.List.{list_all}
use Rattle.std.specs.Str.{bytes_eq}
use Rattle.xmt_base.specs.declared.values.Place.{Place}
use Rattle.xmt_base.specs.Name.{is_name_start, is_name_part, is_name}
use Rattle.thin_source.specs.declared.tokens.Mark.{Mark}
use Rattle.thin_source.specs.declared.tokens.Mark.TheVariants as m
use Rattle.thin_source.specs.declared.tokens.TokenKind.{TokenKind}
use Rattle.thin_source.specs.declared.tokens.TokenKind.TheVariants as kind
use Rattle.thin_source.specs.declared.tokens.Token.{Token}

abbrev pub Text : Type 0
Text = List ℕ

-- space, tab, newline and carriage return
abbrev pub is_blank : ℕ → Bool
is_blank b = b == 32 || b == 9 || b == 10 || b == 13

-- the mark that a byte spells
abbrev pub mark_of : ℕ → Option Mark
mark_of b =
    if b == 40 then Some m.OpenRound else (if b == 41 then Some m.CloseRound
    else (if b == 91 then Some m.OpenSquare else (if b == 93 then Some m.CloseSquare
    else (if b == 123 then Some m.OpenBrace else (if b == 125 then Some m.CloseBrace
    else (if b == 59 then Some m.Semicolon else (if b == 44 then Some m.Comma
    else (if b == 36 then Some m.Dollar else (if b == 61 then Some m.Equals
    else (if b == 43 then Some m.Plus else (if b == 45 then Some m.Minus
    else (if b == 42 then Some m.Star else None))))))))))))

abbrev pub is_mark : ℕ → Bool
is_mark b = elim (mark_of b) [ None ↦ false | Some k ↦ true ]

-- the rest of the one text behind its first quote: `%d\n"`
abbrev pub text_rest : Text
text_rest = 37 ∷ 100 ∷ 92 ∷ 110 ∷ 34 ∷ []

abbrev pub is_empty : Text → Bool
is_empty [] = true
is_empty (b ∷ bs) = false

-- What spells a word, a number, the text or a mark: a letter or `_` and then letters, digits and `_`; `0`, or another digit
-- and then digits; `"%d\n"`; a mark's byte.
abbrev pub is_spelling : Text → Bool
is_spelling [] = false
is_spelling (b ∷ bs) =
    if is_name_start b then list_all is_name_part bs
    else (if b == 48 then is_empty bs
    else (if is_ascii_digit b then list_all is_ascii_digit bs
    else (if b == 34 then bytes_eq bs text_rest
    else is_mark b && is_empty bs)))

-- the value of decimal digits behind those that have been read
abbrev pub decimal_value : ℕ → Text → ℕ
decimal_value so_far [] = so_far
decimal_value so_far (b ∷ bs) = decimal_value (so_far * 10 + (b - 48)) bs

-- a number is at most 2147483647
abbrev pub number_kind : ℕ → Option TokenKind
number_kind value = if nat_lt value (2 ^ 31) then Some (kind.Number value) else None

-- a name, which no keyword is
unfoldable pub name_kind : Text → Option TokenKind
name_kind w = if is_name w then Some kind.Name else None

-- four of the keywords are tokens, and the others are none
abbrev pub word_kind : Text → Option TokenKind
word_kind w =
    if bytes_eq w (codes "int") then Some kind.Int
    else (if bytes_eq w (codes "main") then Some kind.Main
    else (if bytes_eq w (codes "spawn") then Some kind.Spawn
    else (if bytes_eq w (codes "printf") then Some kind.Printf
    else name_kind w)))

abbrev pub mark_kind : Option Mark → Option TokenKind
mark_kind None = None
mark_kind (Some mark) = Some (kind.Mark mark)

-- the token that a spelling is
abbrev pub kind_of : Text → Option TokenKind
kind_of [] = None
kind_of (b ∷ bs) =
    if is_name_start b then word_kind (b ∷ bs)
    else (if is_ascii_digit b then number_kind (decimal_value 0 (b ∷ bs))
    else (if b == 34 then Some kind.Text
    else mark_kind (mark_of b)))

-- w is a spelling, and no longer one stands in front of w ++ z
abbrev pub IsLongest : Text → Text → Type 0
IsLongest w z = (is_spelling w ≡ true) × ((v y : Text) → v ++ y ≡ w ++ z → is_spelling v ≡ true → length v ≤ length w)

-- the place behind a byte; lines and columns count from 1
abbrev pub behind : Place → ℕ → Place
behind p b =
    if b == 10 then record { line = p.line + 1; column = 1 } else record { line = p.line; column = p.column + 1 }

-- the place behind a token's bytes
abbrev pub along : Place → Text → Place
along p w = record { line = p.line; column = p.column + length w }

abbrev pub first_place : Place
first_place = record { line = 1; column = 1 }

-- the bytes w as a token, which stand from a byte's number and place on
abbrev pub token : ℕ → Place → Text → TokenKind → Token
token at p w k = record { kind = k; start = at; end = at + length w; place = p }

-- the bytes from that number and place on are parted into these tokens and blanks
pub data AreTokens : ℕ → Place → Text → List Token → Type 0 where
  end : {at : ℕ} {p : Place} → AreTokens at p [] []
  blank : {at : ℕ} {p : Place} (b : ℕ) {z : Text} {ts : List Token} →
      is_blank b ≡ true → AreTokens (at + 1) (behind p b) z ts → AreTokens at p (b ∷ z) ts
  taken : {at : ℕ} {p : Place} (w z : Text) (k : TokenKind) {ts : List Token} →
      IsLongest w z → kind_of w ≡ Some k → AreTokens (at + length w) (along p w) z ts → AreTokens at p (w ++ z) (token at p w k ∷ ts)

-- the tokens of a source
abbrev pub TokensOf : Text → List Token → Type 0
TokensOf source ts = AreTokens 0 first_place source ts
