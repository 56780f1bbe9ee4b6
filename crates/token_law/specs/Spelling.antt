-- What the bytes of a source spell, by the table of tokens. 34 is a quote, 42 is `*`, 47 is `/`, 48 is `0`, 92 is `\`, and 120 and 88 are `x` and `X`.
use Rattle.std.specs.Prelude.{◌≡◌, ℕ, ◌==◌, ◌≤◌, ◌&&◌, ◌||◌, nat_le, not, Bool, true, false, [], ◌∷◌, ◌++◌, length, Some}
use Rattle.std.specs.Char.{is_ascii_digit}
use Rattle.std.specs.List.{list_all}
use Rattle.std.specs.Str.Parse.{AllDigits, digits_value}
use Rattle.xmt_base.specs.Name.{is_name_start}
use Rattle.xmt_lex.specs.declared.kinds.Mark.{Mark}
use Rattle.xmt_lex.specs.declared.scan.Class.TheVariants as class
use Rattle.xmt_lex.specs.Tables.{marks}
use Rattle.xmt_lex.specs.Lex.{Text, is_in, is_escape, lookup}

-- Bytes that stand together. A digit and the letters, digits and `_` behind it do so whether they are a number or not, and so does a comment without its end.
pub data Shape : Type 0 where
  Blanks : Shape
  Comment : Shape
  OpenComment : Shape
  Word : Shape
  Numeral : Shape
  Quoted : Shape
  Sign : Mark → Shape

-- no `*/` stands in it
abbrev pub HasNoEnd : Text → Type 0
HasNoEnd w = (x y : Text) → w ≡ x ++ 42 ∷ 47 ∷ y → ⊥

-- a byte between quotes that is no quote, no `\` and no control byte
abbrev pub is_text_byte : ℕ → Bool
is_text_byte b = nat_le 32 b && nat_le b 126 && not (b == 34) && not (b == 92)

-- what may stand between quotes: such bytes, and `\n`, `\t`, `\\` and `\"`
pub data IsTextBody : Text → Type 0 where
  none : IsTextBody []
  byte : (b : ℕ) {w : Text} → is_text_byte b ≡ true → IsTextBody w → IsTextBody (b ∷ w)
  escape : (b : ℕ) {w : Text} → is_escape b ≡ true → IsTextBody w → IsTextBody (92 ∷ b ∷ w)

-- one constructor for each row of the table
pub data Spells : Shape → Text → Type 0 where
  blanks : (b : ℕ) (w : Text) → is_in class.Blank b ≡ true → list_all (is_in class.Blank) w ≡ true → Spells Blanks (b ∷ w)
  -- `//`, to the end of the line
  line_comment : (w : Text) → list_all (is_in class.Line) w ≡ true → Spells Comment (47 ∷ 47 ∷ w)
  -- `/*`, to the next `*/`
  comment : (w : Text) → HasNoEnd (w ++ 42 ∷ []) → Spells Comment (47 ∷ 42 ∷ (w ++ 42 ∷ 47 ∷ []))
  -- `/*`, and no `*/` behind it
  open_comment : (w : Text) → HasNoEnd w → Spells OpenComment (47 ∷ 42 ∷ w)
  -- a letter or `_`, then letters, digits and `_`
  word : (b : ℕ) (w : Text) → is_name_start b ≡ true → list_all (is_in class.Word) w ≡ true → Spells Word (b ∷ w)
  -- a digit, then letters, digits and `_`
  numeral : (b : ℕ) (w : Text) → is_ascii_digit b ≡ true → list_all (is_in class.Word) w ≡ true → Spells Numeral (b ∷ w)
  -- a quote, what may stand between, a quote
  quoted : (w : Text) → IsTextBody w → Spells Quoted (34 ∷ (w ++ 34 ∷ []))
  -- a mark of the table
  sign : (w : Text) (mark : Mark) → lookup marks w ≡ Some mark → Spells (Sign mark) w

-- `0`, or a digit 1 to 9 and digits, or `0x` or `0X` and hexadecimal digits
pub data IsNumber : Text → ℕ → Type 0 where
  zero : IsNumber (48 ∷ []) 0
  decimal : (b : ℕ) (w : Text) → (b == 48) ≡ false → AllDigits 10 (b ∷ w) → IsNumber (b ∷ w) (digits_value 10 (b ∷ w))
  hexadecimal : (x b : ℕ) (w : Text) → (x == 120 || x == 88) ≡ true → AllDigits 16 (b ∷ w) → IsNumber (48 ∷ x ∷ b ∷ w) (digits_value 16 (b ∷ w))

-- w spells something in front of w ++ z, and no longer front does
pub record IsLongest (shape : Shape) (w z : Text) : Type 0 where
  pub spells : Spells shape w
  pub longest : (other : Shape) (v y : Text) → v ++ y ≡ w ++ z → Spells other v → length v ≤ length w
