-- What the lexer of the whole language reads where a thin token or a blank stands.
use Rattle.std.proofs.Common.{◌≡◌, ℕ, zero, suc, ◌+◌, ◌==◌, ◌&&◌, not, Bool, true, false, cond, [], ◌∷◌, ◌++◌, length, take, slice_index, Some, None, refl, sym, ap, ◌∙◌, subst, arith}
use Rattle.std.specs.Char.{is_ascii_digit}
use Rattle.std.specs.List.{list_all}
use Rattle.std.specs.Str.{bytes_eq}
use Rattle.std.proofs.Math.Seq.{take-append_seam}
use Rattle.xmt_base.specs.declared.Place.{Place}
use Rattle.xmt_base.specs.Name.{is_name_start, is_name_part}
use Rattle.thin_source.specs.Tokens.{Text, is_blank, is_mark, is_empty, is_spelling, text_rest, decimal_value, number_kind, word_kind, mark_of, mark_kind, kind_of, IsLongest}
use Rattle.thin_source.specs.Tokens as thin
use Rattle.xmt_lex.specs.declared.Spot.{Spot}
use Rattle.xmt_lex.specs.declared.TokenKind.{TokenKind}
use Rattle.xmt_lex.specs.declared.TokenKind.TheVariants as kind
use Rattle.xmt_lex.specs.declared.scan.Class.TheVariants as class
use Rattle.xmt_lex.specs.declared.scan.Piece.{Piece}
use Rattle.xmt_lex.specs.declared.scan.Piece.TheVariants as piece
use Rattle.xmt_lex.specs.Lex.{is_in, run, kind_of_word, piece_of, Step, Reads, taken, token_at, step, tokens_from, behind, along}
use Rattle.thin_law.proofs.SameTokens.{Kind, whole_kind, kind_in}
use Rattle.token_law.proofs.Bytes.{same_byte, other_byte, both}
use Rattle.thin_law.proofs.Bytes.{blank_not, empty_is, text_is, is_plain}
use Rattle.thin_law.proofs.Pieces.{word_piece, word_run, word_is, number_piece, number_is, number_kind_is, text_piece, mark_piece, MayFollow}

stepped : (s : Spot) (b : ℕ) (y : Text) (p : Piece) → (b == 35) ≡ false → piece_of (b ∷ y) ≡ p → step [] s (b ∷ y) ≡ taken [] s (b ∷ y) p
unfolding step
stepped s b y p other is = rw (other, is)

-- so many bytes are read as a token of that kind
abbrev pub read : Spot → ℕ → TokenKind → Step
read s n k = Reads n (Some (token_at s n k)) []

-- ---- the tokens

reads_word : (s : Spot) (b : ℕ) (bs z : Text) (k : Kind) → is_name_start b ≡ true → IsLongest (b ∷ bs) z → word_kind (b ∷ bs) ≡ Some k → step [] s (b ∷ (bs ++ z)) ≡ read s (length (b ∷ bs)) (whole_kind k)
reads_word s b bs z k start long is =
    stepped s b (bs ++ z) (piece.Word (run class.Word (b ∷ (bs ++ z)))) (other_byte 35 b is_name_start refl start) (word_piece b (bs ++ z) start)
    ∙ ap (λ (n : ℕ). read s n (kind_of_word [] (take n (b ∷ (bs ++ z))))) (word_run b bs z start long)
    ∙ ap (λ (w : Text). read s (length (b ∷ bs)) (kind_of_word [] w)) (take-append_seam (b ∷ bs) z)
    ∙ ap (read s (length (b ∷ bs))) (word_is (b ∷ bs) k is)

reads_number : (s : Spot) (b : ℕ) (bs z : Text) (k : Kind) (nought : Bool) → (b == 48) ≡ nought → is_ascii_digit b ≡ true → cond nought (is_empty bs) (list_all is_ascii_digit bs) ≡ true →
    number_kind (decimal_value 0 (b ∷ bs)) ≡ Some k → MayFollow (whole_kind k) (slice_index z 0) → step [] s (b ∷ (bs ++ z)) ≡ read s (length (b ∷ bs)) (whole_kind k)
reads_number s b bs z k nought is digit spelled of_kind follows =
    let v = decimal_value 0 (b ∷ bs) in
    let found = number_kind_is v k of_kind in
    let ends : is_in class.Word (slice_index z 0) ≡ false = subst (λ (kind : TokenKind). MayFollow kind (slice_index z 0)) found.1 follows in
    stepped s b (bs ++ z) (piece.Whole (length (b ∷ bs)) (kind.Number v)) (other_byte 35 b is_ascii_digit refl digit)
    (number_piece b v bs z digit (digits nought is spelled) ends (number_is b bs nought is digit spelled found.0))
    ∙ ap (read s (length (b ∷ bs))) (sym found.1)
  where
    digits : (t : Bool) → (b == 48) ≡ t → cond t (is_empty bs) (list_all is_ascii_digit bs) ≡ true → list_all is_ascii_digit bs ≡ true
    digits true is h = subst (λ (v : Text). list_all is_ascii_digit v ≡ true) (sym (empty_is bs h)) refl
    digits false is h = h

reads_text : (s : Spot) (b : ℕ) (bs z : Text) (k : Kind) → b ≡ 34 → bs ≡ text_rest → kind_of (34 ∷ []) ≡ Some k → step [] s (b ∷ (bs ++ z)) ≡ read s (length (b ∷ bs)) (whole_kind k)
reads_text s b bs z k quote is of_kind =
    ap (λ (v : Text). step [] s (b ∷ (v ++ z))) is ∙ ap (λ (c : ℕ). step [] s (c ∷ (text_rest ++ z))) quote
    ∙ stepped s 34 (text_rest ++ z) (piece.Whole 6 kind.Text) refl (text_piece z)
    ∙ ap (read s 6) (ap kind_in of_kind)
    ∙ ap (λ (v : Text). read s (length (34 ∷ v)) (whole_kind k)) (sym is)

reads_mark : (s : Spot) (b : ℕ) (bs z : Text) (k : Kind) → is_mark b ≡ true → bs ≡ [] → mark_kind (mark_of b) ≡ Some k → MayFollow (whole_kind k) (slice_index z 0) → step [] s (b ∷ (bs ++ z)) ≡ read s (length (b ∷ bs)) (whole_kind k)
reads_mark s b bs z k spelled is of_kind follows =
    let same : kind_in (mark_kind (mark_of b)) ≡ whole_kind k = ap kind_in of_kind in
    ap (λ (v : Text). step [] s (b ∷ (v ++ z))) is
    ∙ stepped s b z (piece.Whole 1 (kind_in (mark_kind (mark_of b)))) (other_byte 35 b is_mark refl spelled)
    (mark_piece b spelled z (subst (λ (kind : TokenKind). MayFollow kind (slice_index z 0)) (sym same) follows))
    ∙ ap (read s 1) same
    ∙ ap (λ (v : Text). read s (length (b ∷ v)) (whole_kind k)) (sym is)

-- a thin token is read as the token of the whole language
pub reads : (s : Spot) (w z : Text) (k : Kind) → IsLongest w z → kind_of w ≡ Some k → MayFollow (whole_kind k) (slice_index z 0) → step [] s (w ++ z) ≡ read s (length w) (whole_kind k)
reads s [] z k long of_kind follows = absurd (let no : false ≡ true = long.0 in cc)
reads s (b ∷ bs) z k long of_kind follows = by (is_name_start b) (is_ascii_digit b) (b == 34) (b == 48) refl refl refl refl of_kind long.0
  where
    by : (start digit quote nought : Bool) → is_name_start b ≡ start → is_ascii_digit b ≡ digit → (b == 34) ≡ quote → (b == 48) ≡ nought →
        cond start (word_kind (b ∷ bs)) (cond digit (number_kind (decimal_value 0 (b ∷ bs))) (cond quote (kind_of (34 ∷ [])) (mark_kind (mark_of b)))) ≡ Some k →
        cond start (list_all is_name_part bs) (cond nought (is_empty bs) (cond digit (list_all is_ascii_digit bs) (cond quote (bytes_eq bs text_rest) (is_mark b && is_empty bs)))) ≡ true →
        step [] s (b ∷ (bs ++ z)) ≡ read s (length (b ∷ bs)) (whole_kind k)
    by true _ _ _ is _ _ _ h spelled = reads_word s b bs z k is long h
    by false true _ nought _ is _ n h spelled = reads_number s b bs z k nought n is spelled h follows
    by false false true true _ is _ n h spelled = let no : (b == 48) ≡ false = other_byte 48 b (λ c. not (is_ascii_digit c)) refl (ap not is) in absurd (cc)
    by false false false true _ is _ n h spelled = let no : (b == 48) ≡ false = other_byte 48 b (λ c. not (is_ascii_digit c)) refl (ap not is) in absurd (cc)
    by false false true false _ _ is _ h spelled = reads_text s b bs z k (same_byte b 34 is) (text_is bs spelled) h
    by false false false false _ _ _ _ h spelled =
        let parts = both (is_mark b) (is_empty bs) spelled in
        reads_mark s b bs z k parts.0 (empty_is bs parts.1) h follows

-- ---- places

-- behind a byte that is no newline
behind_plain : (s : Spot) (b : ℕ) → (b == 10) ≡ false → ((behind s b).at ≡ s.at + 1) × ((behind s b).place ≡ record { line = s.place.line; column = s.place.column + 1 })
behind_plain s b other = (rw other, rw other)

plain_byte : (t more : Bool) → (not t && more) ≡ true → (t ≡ false) × (more ≡ true)
plain_byte true more h = absurd (cc)
plain_byte false more h = (refl, h)

-- the spot behind some bytes of one line
pub along_plain : (s : Spot) (w : Text) → list_all is_plain w ≡ true → ((along s w).at ≡ s.at + length w) × ((along s w).place ≡ thin.along s.place w)
along_plain s [] h = (omega arith, ap (λ (n : ℕ). record { line = s.place.line; column = n }) (let e : s.place.column ≡ s.place.column + 0 = omega arith in e))
along_plain s (b ∷ w) h =
    let parts = plain_byte (b == 10) (list_all is_plain w) h in
    let one = behind_plain s b parts.0 in
    let rest = along_plain (behind s b) w parts.1 in
    let far : s.place.column + 1 + length w ≡ s.place.column + length (b ∷ w) = omega arith in
    (omega (arith, rest.0, one.0), rest.1 ∙ ap (λ (p : Place). thin.along p w) one.1 ∙ ap (λ (n : ℕ). record { line = s.place.line; column = n }) far)

behind_by : (s : Spot) (b : ℕ) (t : Bool) → (b == 10) ≡ t → ((behind s b).at ≡ s.at + 1) × ((behind s b).place ≡ thin.behind s.place b)
behind_by s b true is = (rw is, rw is)
behind_by s b false is = (rw is, rw is)

-- the spot behind any byte
pub behind_byte : (s : Spot) (b : ℕ) → ((behind s b).at ≡ s.at + 1) × ((behind s b).place ≡ thin.behind s.place b)
behind_byte s b = behind_by s b (b == 10) refl

-- ---- blanks

to_blank : {A : Type 0} (blank : Bool) (a b : A) → blank ≡ true → cond blank a b ≡ a
to_blank true a b h = refl
to_blank false a b h = absurd (cc)

blank_run : (b : ℕ) (z : Text) → is_blank b ≡ true → run class.Blank (b ∷ z) ≡ suc (run class.Blank z)
blank_run b z h = to_blank (is_blank b) (1 + run class.Blank z) 0 h ∙ one_more (run class.Blank z)
  where
    one_more : (n : ℕ) → 1 + n ≡ suc n
    one_more n = omega arith

blank_piece : (b : ℕ) (z : Text) → is_blank b ≡ true → piece_of (b ∷ z) ≡ piece.Nothing (suc (run class.Blank z))
unfolding piece_of
blank_piece b z h = to_blank (is_blank b) (piece.Nothing (run class.Blank (b ∷ z))) _ h ∙ ap (λ (n : ℕ). piece.Nothing n) (blank_run b z h)

blank_step : (s : Spot) (b : ℕ) (z : Text) → is_blank b ≡ true → step [] s (b ∷ z) ≡ Reads (suc (run class.Blank z)) None []
blank_step s b z h = stepped s b z (piece.Nothing (suc (run class.Blank z))) (blank_not 35 b refl h) (blank_piece b z h)

blanks_read : (s : Spot) (b : ℕ) (z : Text) → is_blank b ≡ true → tokens_from [] s zero (b ∷ z) ≡ tokens_from [] (behind s b) (run class.Blank z) z
unfolding tokens_from
blanks_read s b z h = rw (tokens_from, blank_step s b z h)

-- it doesn't matter whether blanks are read in one piece
any_blanks : (s : Spot) (z : Text) → tokens_from [] s (run class.Blank z) z ≡ tokens_from [] s zero z
unfolding tokens_from
any_blanks s [] = refl
any_blanks s (b ∷ z) = by (is_blank b) refl
  where
    by : (t : Bool) → is_blank b ≡ t → tokens_from [] s (run class.Blank (b ∷ z)) (b ∷ z) ≡ tokens_from [] s zero (b ∷ z)
    by true is = ap (λ (n : ℕ). tokens_from [] s n (b ∷ z)) (blank_run b z is) ∙ sym (blanks_read s b z is)
    by false is = ap (λ (t : Bool). tokens_from [] s (cond t (1 + run class.Blank z) 0) (b ∷ z)) is

-- a blank is skipped
pub reads_blank : (s : Spot) (b : ℕ) (z : Text) → is_blank b ≡ true → tokens_from [] s zero (b ∷ z) ≡ tokens_from [] (behind s b) zero z
reads_blank s b z h = blanks_read s b z h ∙ any_blanks (behind s b) z
