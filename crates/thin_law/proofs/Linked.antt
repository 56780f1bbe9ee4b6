-- Which tokens stand side by side in a thin source, so that no two of them are parts of a longer token.
use Rattle.std.proofs.Common.{◌≡◌, ℕ, ◌==◌, Bool, true, false, cond, [], ◌∷◌, slice_index, Option, Some, None, refl, sym, ap, ◌∙◌}
use Rattle.std.specs.Char.{is_ascii_digit}
use Rattle.xmt_base.specs.declared.Place.{Place}
use Rattle.xmt_base.specs.Name.{is_name_start}
use Rattle.thin_source.specs.Tokens.{Text, decimal_value, number_kind, word_kind, mark_of, mark_kind, kind_of, AreTokens, end, blank, taken}
use Rattle.thin_source.specs.Grammar as thin
use Rattle.xmt_lex.specs.declared.TokenKind.{TokenKind}
use Rattle.xmt_lex.specs.declared.TokenKind.TheVariants as kind
use Rattle.xmt_lex.specs.declared.kinds.Keyword.{Keyword}
use Rattle.xmt_lex.specs.declared.kinds.Mark.TheVariants as m
use Rattle.xmt_lex.specs.declared.scan.Class.TheVariants as class
use Rattle.xmt_lex.specs.Lex.{is_in, kind_of_keyword, keyword_of}
use Rattle.raw_tree.specs.Level.{Tokens}
use Rattle.thin_law.proofs.SameTokens.{Kind, whole_kind, whole_tokens, kind_in}
use Rattle.token_law.proofs.Bytes.{same_byte}
use Rattle.thin_law.proofs.Bytes.{blank_not, blank_no_word, no_word}
use Rattle.thin_law.proofs.Pieces.{word_is, number_kind_is, JoinsNone, MayFollow}

abbrev pub is_mark_kind : TokenKind → Bool
is_mark_kind (kind.Mark mark) = true
is_mark_kind _ = false

-- whether a token of the kind begins an operand
abbrev pub begins_operand : TokenKind → Bool
begins_operand kind.Name = true
begins_operand (kind.Number v) = true
begins_operand (kind.Mark m.Dollar) = true
begins_operand (kind.Mark m.OpenRound) = true
begins_operand _ = false

-- the first token, if there is one, passes the test
abbrev pub FirstIs : (TokenKind → Bool) → Tokens → Type 0
FirstIs test [] = Unit {0}
FirstIs test (t ∷ ts) = test t.kind ≡ true

-- behind a number stands a mark, and behind `=`, `+`, `-` and `*` an operand
abbrev pub MayStand : TokenKind → Tokens → Type 0
MayStand (kind.Number v) ts = FirstIs is_mark_kind ts
MayStand (kind.Mark m.Equal) ts = FirstIs begins_operand ts
MayStand (kind.Mark m.Plus) ts = FirstIs begins_operand ts
MayStand (kind.Mark m.Minus) ts = FirstIs begins_operand ts
MayStand (kind.Mark m.Star) ts = FirstIs begins_operand ts
MayStand _ ts = Unit {0}

abbrev pub AreLinked : Tokens → Type 0
AreLinked [] = Unit {0}
AreLinked (t ∷ ts) = MayStand t.kind ts × AreLinked ts

-- ---- the byte in front

no_mark_word : (found : Option Keyword) → is_mark_kind (kind_of_keyword found) ≡ false
no_mark_word None = refl
no_mark_word (Some word) = refl

mark_first : {at : ℕ} {p : Place} {z : Text} {ts : thin.Tokens} → AreTokens at p z ts → FirstIs is_mark_kind (whole_tokens ts) → is_in class.Word (slice_index z 0) ≡ false
mark_first end first = refl
mark_first (blank b h rest) first = blank_no_word b h
mark_first (taken [] z k long of_kind rest) first = absurd (let wrong : false ≡ true = long.0 in cc)
mark_first (taken (b ∷ bs) z k long of_kind rest) first = by (is_name_start b) (is_ascii_digit b) refl refl of_kind
  where
    by : (start digit : Bool) → is_name_start b ≡ start → is_ascii_digit b ≡ digit →
        cond start (word_kind (b ∷ bs)) (cond digit (number_kind (decimal_value 0 (b ∷ bs))) (cond (b == 34) (kind_of (34 ∷ [])) (mark_kind (mark_of b)))) ≡ Some k → is_in class.Word b ≡ false
    by true digit _ _ h = let wrong : is_mark_kind (whole_kind k) ≡ false = ap is_mark_kind (sym (word_is (b ∷ bs) k h)) ∙ no_mark_word (keyword_of (b ∷ bs)) in absurd (let no_more : true ≡ false = sym first ∙ wrong in cc)
    by false true _ _ h = let wrong : is_mark_kind (whole_kind k) ≡ false = ap is_mark_kind ((number_kind_is (decimal_value 0 (b ∷ bs)) k h).1) in absurd (let no_more : true ≡ false = sym first ∙ wrong in cc)
    by false false start digit h = no_word b start digit

-- a byte that is read as another kind of token doesn't stand there
not_there : (i b : ℕ) (bs : Text) (k : Kind) → begins_operand (kind_in (kind_of (i ∷ bs))) ≡ false → kind_of (b ∷ bs) ≡ Some k → begins_operand (whole_kind k) ≡ true → (b == i) ≡ false
not_there i b bs k fails of_kind passes = by (b == i) refl
  where
    by : (t : Bool) → (b == i) ≡ t → t ≡ false
    by false is = refl
    by true is =
        let same : kind_in (kind_of (i ∷ bs)) ≡ whole_kind k = ap (λ (c : ℕ). kind_in (kind_of (c ∷ bs))) (sym (same_byte b i is)) ∙ ap kind_in of_kind in
        absurd (let wrong : true ≡ false = sym passes ∙ ap begins_operand (sym same) ∙ fails in cc)

operand_first : {at : ℕ} {p : Place} {z : Text} {ts : thin.Tokens} → AreTokens at p z ts → FirstIs begins_operand (whole_tokens ts) → JoinsNone (slice_index z 0)
operand_first end first = (refl, refl, refl)
operand_first (blank b h rest) first = (blank_not 61 b refl h, blank_not 43 b refl h, blank_not 45 b refl h)
operand_first (taken [] z k long of_kind rest) first = absurd (let wrong : false ≡ true = long.0 in cc)
operand_first (taken (b ∷ bs) z k long of_kind rest) first = (not_there 61 b bs k refl of_kind first, not_there 43 b bs k refl of_kind first, not_there 45 b bs k refl of_kind first)

-- what may stand behind a token has a byte that may follow it
pub follows : (k : TokenKind) {at : ℕ} {p : Place} {z : Text} {ts : thin.Tokens} → AreTokens at p z ts → MayStand k (whole_tokens ts) → MayFollow k (slice_index z 0)
follows (kind.Number v) are stands = mark_first are stands
follows (kind.Mark m.Equal) are stands = operand_first are stands
follows (kind.Mark m.Plus) are stands = operand_first are stands
follows (kind.Mark m.Minus) are stands = operand_first are stands
follows (kind.Mark m.Star) are stands = operand_first are stands
follows _ are stands = tt
