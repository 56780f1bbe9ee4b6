-- What the lexer finds in front is the longest that is spelled there.
use Rattle.std.proofs.Common.{◌≡◌, ℕ, ◌+◌, ◌≤◌, ◌<◌, ◌==◌, ◌&&◌, Bool, true, false, cond, [], ◌∷◌, ◌++◌, length, length-append, append_assoc, drop, slice_index, Option, Some, None, refl, sym, ap, ◌∙◌, subst, arith}
use Rattle.std.specs.List.{list_all}
use Rattle.std.specs.Char.{is_ascii_digit}
use Rattle.xmt_base.specs.Name.{is_name_start}
use Rattle.xmt_lex.specs.declared.LexKind.TheVariants as bad
use Rattle.xmt_lex.specs.declared.TokenKind.TheVariants as kind
use Rattle.xmt_lex.specs.declared.kinds.Mark.{Mark}
use Rattle.xmt_lex.specs.declared.scan.Class.TheVariants as class
use Rattle.xmt_lex.specs.declared.scan.Piece.{Piece}
use Rattle.xmt_lex.specs.declared.scan.Piece.TheVariants as piece
use Rattle.xmt_lex.specs.Tables.{marks}
use Rattle.xmt_lex.specs.Lex as lex
use Rattle.xmt_lex.specs.Lex.{Text, is_in, run, number, numbered, number_of, lookup, comment_end, text_from, mark, piece_of}
use Rattle.token_law.specs.Spelling.{Shape, Blanks, Comment, OpenComment, Word, Numeral, Quoted, Sign, HasNoEnd, IsTextBody, Spells, blanks, line_comment, comment, open_comment, word, numeral, quoted, sign}
use Rattle.token_law.proofs.Bytes.{same_byte, other_byte, both, no_blank_byte, start_is_word, start_no_digit, digit_is_word, run_on, all_in_run}
use Rattle.token_law.proofs.Signs.{piece_size, IsSignByte, sign_byte, Fits, mark_fits}
use Rattle.token_law.proofs.Quotes.{text_reads}
use Rattle.token_law.proofs.Comments.{comment_reads, open_fits, end_after}

-- ---- the classes of what stands in front

-- one of each: at a blank, at `/*`, at `//`, at a digit, at a letter or `_`, at a quote, and elsewhere
pub record Seven (A : Type 0) : Type 0 where
  pub at_blank : A
  pub at_star : A
  pub at_slash : A
  pub at_digit : A
  pub at_letter : A
  pub at_quote : A
  pub elsewhere : A

abbrev pub pick : {A : Type 0} (blank star slash digit letter quote : Bool) → Seven A → A
pick blank star slash digit letter quote s = cond blank s.at_blank (cond star s.at_star (cond slash s.at_slash (cond digit s.at_digit (cond letter s.at_letter (cond quote s.at_quote s.elsewhere)))))

abbrev pub by_class : {A : Type 0} → Seven A → Text → A
by_class s z =
    pick (is_in class.Blank (slice_index z 0)) (slice_index z 0 == 47 && slice_index z 1 == 42) (slice_index z 0 == 47 && slice_index z 1 == 47) (is_in class.Digit (slice_index z 0)) (is_in class.Word (slice_index z 0))
    (slice_index z 0 == 34) s

abbrev pub pieces : Text → Seven Piece
pieces z =
    record {
      at_blank = piece.Nothing (run class.Blank z);
      at_star = lex.comment z;
      at_slash = piece.Nothing (run class.Line z);
      at_digit = number z;
      at_letter = piece.Word (run class.Word z);
      at_quote = text_from false 1 (drop 1 z);
      elsewhere = mark z;
    }

pub piece_by : (z : Text) → piece_of z ≡ by_class (pieces z) z
unfolding piece_of
piece_by z = refl

abbrev pub closed_size : Option ℕ → Text → ℕ
closed_size None z = length z
closed_size (Some n) z = n

abbrev pub closed_shape : Option ℕ → Shape
closed_shape None = OpenComment
closed_shape (Some n) = Comment

abbrev pub sign_shape : Piece → Shape
sign_shape (piece.Whole n (kind.Mark k)) = Sign k
sign_shape _ = Quoted

abbrev pub sizes : Text → Seven ℕ
sizes z =
    record {
      at_blank = run class.Blank z;
      at_star = closed_size (comment_end 2 (drop 2 z)) z;
      at_slash = run class.Line z;
      at_digit = run class.Word z;
      at_letter = run class.Word z;
      at_quote = piece_size (text_from false 1 (drop 1 z));
      elsewhere = piece_size (mark z);
    }

abbrev pub shapes : Text → Seven Shape
shapes z = record { at_blank = Blanks; at_star = closed_shape (comment_end 2 (drop 2 z)); at_slash = Comment; at_digit = Numeral; at_letter = Word; at_quote = Quoted; elsewhere = sign_shape (mark z) }

-- how many bytes stand together in front, and what they are
abbrev pub size : Text → ℕ
size z = by_class (sizes z) z

abbrev pub shape_at : Text → Shape
shape_at z = by_class (shapes z) z

-- the piece that so many bytes are
abbrev pub piece_for : Shape → Text → Piece
piece_for Blanks w = piece.Nothing (length w)
piece_for Comment w = piece.Nothing (length w)
piece_for OpenComment w = piece.Bad bad.OpenComment 0
piece_for Word w = piece.Word (length w)
piece_for Numeral w = numbered (length w) (number_of w)
piece_for Quoted w = piece.Whole (length w) kind.Text
piece_for (Sign k) w = piece.Whole (length w) (kind.Mark k)

-- ---- the class of what is spelled

word_class : {A : Type 0} (f : Seven A) (blank s t u digit letter quote : Bool) → blank ≡ false → s ≡ false → digit ≡ false → letter ≡ true → pick blank (s && t) (s && u) digit letter quote f ≡ f.at_letter
word_class f blank s t u digit letter quote p q r h = rw (p, q, r, h)

digit_class : {A : Type 0} (f : Seven A) (blank s t u digit letter quote : Bool) → blank ≡ false → s ≡ false → digit ≡ true → pick blank (s && t) (s && u) digit letter quote f ≡ f.at_digit
digit_class f blank s t u digit letter quote p q h = rw (p, q, h)

pub sign_class : {A : Type 0} (f : Seven A) (blank star slash digit letter quote : Bool) → blank ≡ false → star ≡ false → slash ≡ false → digit ≡ false → letter ≡ false → quote ≡ false → pick blank star slash digit letter quote f ≡ f.elsewhere
sign_class f blank star slash digit letter quote p q r s t u = rw (p, q, r, s, t, u)

-- the class of a byte
pub at_blank : {A : Type 0} (f : Seven A) (b : ℕ) (z : Text) → is_in class.Blank b ≡ true → by_class f (b ∷ z) ≡ f.at_blank
at_blank f b z h = ap (λ (t : Bool). pick t (b == 47 && slice_index z 0 == 42) (b == 47 && slice_index z 0 == 47) (is_in class.Digit b) (is_in class.Word b) (b == 34) f) h

pub at_word : {A : Type 0} (f : Seven A) (b : ℕ) (z : Text) → is_name_start b ≡ true → by_class f (b ∷ z) ≡ f.at_letter
at_word f b z h =
    word_class f (is_in class.Blank b) (b == 47) (slice_index z 0 == 42) (slice_index z 0 == 47) (is_in class.Digit b) (is_in class.Word b) (b == 34) (no_blank_byte is_name_start b refl refl refl refl h) (other_byte 47 b is_name_start refl h) (start_no_digit b h)
    (start_is_word b h)

pub at_digit : {A : Type 0} (f : Seven A) (b : ℕ) (z : Text) → is_ascii_digit b ≡ true → by_class f (b ∷ z) ≡ f.at_digit
at_digit f b z h =
    digit_class f (is_in class.Blank b) (b == 47) (slice_index z 0 == 42) (slice_index z 0 == 47) (is_in class.Digit b) (is_in class.Word b) (b == 34) (no_blank_byte is_ascii_digit b refl refl refl refl h) (other_byte 47 b is_ascii_digit refl h) h

at_sign : {A : Type 0} (f : Seven A) (z : Text) → IsSignByte (slice_index z 0) → (slice_index z 0 == 47 && slice_index z 1 == 42) ≡ false → (slice_index z 0 == 47 && slice_index z 1 == 47) ≡ false → by_class f z ≡ f.elsewhere
at_sign f z first star slash =
    sign_class f (is_in class.Blank (slice_index z 0)) (slice_index z 0 == 47 && slice_index z 1 == 42) (slice_index z 0 == 47 && slice_index z 1 == 47) (is_in class.Digit (slice_index z 0)) (is_in class.Word (slice_index z 0)) (slice_index z 0 == 34)
    first.0 star slash first.1 first.2 first.3

-- a spelling in front takes no more bytes than stand together there, and where it takes as many, it is what stands there
pub record FitsFront (shape : Shape) (v z : Text) : Type 0 where
  pub some : 0 < length v
  pub short : length v ≤ size z
  pub exact : length v ≡ size z → shape_at z ≡ shape

fits_as : (shape : Shape) (v z : Text) (n : ℕ) → size z ≡ n → shape_at z ≡ shape → 0 < length v → length v ≤ n → FitsFront shape v z
fits_as shape v z n is shaped some short = record { some = some; short = omega (arith, is, short); exact = λ _. shaped }

blanks_fit : (b : ℕ) (w y : Text) → is_in class.Blank b ≡ true → list_all (is_in class.Blank) w ≡ true → FitsFront Blanks (b ∷ w) (b ∷ (w ++ y))
blanks_fit b w y h all =
    fits_as Blanks (b ∷ w) (b ∷ (w ++ y)) (run class.Blank (b ∷ (w ++ y))) (at_blank (sizes (b ∷ (w ++ y))) b (w ++ y) h) (at_blank (shapes (b ∷ (w ++ y))) b (w ++ y) h) (omega arith)
    (omega (arith, run_on (is_in class.Blank) b (w ++ y) h, all_in_run (is_in class.Blank) w y all))

word_fits : (b : ℕ) (w y : Text) → is_name_start b ≡ true → list_all (is_in class.Word) w ≡ true → FitsFront Word (b ∷ w) (b ∷ (w ++ y))
word_fits b w y h all =
    fits_as Word (b ∷ w) (b ∷ (w ++ y)) (run class.Word (b ∷ (w ++ y))) (at_word (sizes (b ∷ (w ++ y))) b (w ++ y) h) (at_word (shapes (b ∷ (w ++ y))) b (w ++ y) h) (omega arith)
    (omega (arith, run_on (is_in class.Word) b (w ++ y) (start_is_word b h), all_in_run (is_in class.Word) w y all))

numeral_fits : (b : ℕ) (w y : Text) → is_ascii_digit b ≡ true → list_all (is_in class.Word) w ≡ true → FitsFront Numeral (b ∷ w) (b ∷ (w ++ y))
numeral_fits b w y h all =
    fits_as Numeral (b ∷ w) (b ∷ (w ++ y)) (run class.Word (b ∷ (w ++ y))) (at_digit (sizes (b ∷ (w ++ y))) b (w ++ y) h) (at_digit (shapes (b ∷ (w ++ y))) b (w ++ y) h) (omega arith)
    (omega (arith, run_on (is_in class.Word) b (w ++ y) (digit_is_word b h), all_in_run (is_in class.Word) w y all))

line_fits : (w y : Text) → list_all (is_in class.Line) w ≡ true → FitsFront Comment (47 ∷ 47 ∷ w) (47 ∷ 47 ∷ (w ++ y))
line_fits w y all =
    fits_as Comment (47 ∷ 47 ∷ w) (47 ∷ 47 ∷ (w ++ y)) (run class.Line (47 ∷ 47 ∷ (w ++ y))) refl refl (omega arith)
    (omega (arith, run_on (is_in class.Line) 47 (47 ∷ (w ++ y)) refl, run_on (is_in class.Line) 47 (w ++ y) refl, all_in_run (is_in class.Line) w y all))

comment_fits : (w y : Text) → HasNoEnd (w ++ 42 ∷ []) → FitsFront Comment (47 ∷ 42 ∷ (w ++ 42 ∷ 47 ∷ [])) (47 ∷ 42 ∷ ((w ++ 42 ∷ 47 ∷ []) ++ y))
comment_fits w y endless =
    let seen = comment_reads w y 2 endless in
    fits_as Comment (47 ∷ 42 ∷ (w ++ 42 ∷ 47 ∷ [])) (47 ∷ 42 ∷ ((w ++ 42 ∷ 47 ∷ []) ++ y)) (2 + length w + 2) (ap (λ (o : Option ℕ). closed_size o (47 ∷ 42 ∷ ((w ++ 42 ∷ 47 ∷ []) ++ y))) seen) (ap closed_shape seen) (omega arith)
    (omega (arith, length-append w (42 ∷ 47 ∷ [])))

open_comment_fits : (w y : Text) → HasNoEnd w → FitsFront OpenComment (47 ∷ 42 ∷ w) (47 ∷ 42 ∷ (w ++ y))
open_comment_fits w y endless = by (comment_end 2 (w ++ y)) refl
  where
    by : (o : Option ℕ) → comment_end 2 (w ++ y) ≡ o → FitsFront OpenComment (47 ∷ 42 ∷ w) (47 ∷ 42 ∷ (w ++ y))
    by None is =
        fits_as OpenComment (47 ∷ 42 ∷ w) (47 ∷ 42 ∷ (w ++ y)) (length (47 ∷ 42 ∷ (w ++ y))) (ap (λ (o : Option ℕ). closed_size o (47 ∷ 42 ∷ (w ++ y))) is) (ap closed_shape is) (omega arith) (omega (arith, length-append w y))
    by (Some n) is =
        let less = open_fits w y 2 n endless is in
        let whole : size (47 ∷ 42 ∷ (w ++ y)) ≡ n = ap (λ (o : Option ℕ). closed_size o (47 ∷ 42 ∷ (w ++ y))) is in
        record { some = omega arith; short = omega (arith, less, whole); exact = λ long. absurd (omega (arith, long, less, whole)) }

quoted_fits : (w y : Text) → IsTextBody w → FitsFront Quoted (34 ∷ (w ++ 34 ∷ [])) (34 ∷ ((w ++ 34 ∷ []) ++ y))
quoted_fits w y body =
    let seen : text_from false 1 ((w ++ 34 ∷ []) ++ y) ≡ piece.Whole (1 + length w + 1) kind.Text = ap (text_from false 1) (append_assoc w (34 ∷ []) y) ∙ text_reads body 1 y in
    fits_as Quoted (34 ∷ (w ++ 34 ∷ [])) (34 ∷ ((w ++ 34 ∷ []) ++ y)) (1 + length w + 1) (ap piece_size seen) refl (omega arith) (omega (arith, length-append w (34 ∷ [])))

-- ---- marks

first_same : (w y : Text) → 0 < length w → slice_index (w ++ y) 0 ≡ slice_index w 0
first_same [] y some = absurd (omega (arith, some))
first_same (b ∷ w) y some = refl

-- a mark where a comment begins
sign_before_star : (w y z : Text) (k : Mark) → w ++ y ≡ 47 ∷ 42 ∷ z → lookup marks w ≡ Some k → length w ≤ 1
unfolding mark marks
sign_before_star w y z k is entry = subst (λ (v : Text). length w ≤ piece_size (mark v)) is ((mark_fits w y k entry).short)

sign_before_slash : (w y z : Text) (k : Mark) → w ++ y ≡ 47 ∷ 47 ∷ z → lookup marks w ≡ Some k → length w ≤ 1
unfolding mark marks
sign_before_slash w y z k is entry = subst (λ (v : Text). length w ≤ piece_size (mark v)) is ((mark_fits w y k entry).short)

pub two_bytes : (z : Text) (c d : ℕ) → (slice_index z 0 == c && slice_index z 1 == d) ≡ true → (0 == c) ≡ false → (0 == d) ≡ false → (y : Text) × (z ≡ c ∷ d ∷ y)
two_bytes [] c d h first second = absurd (let wrong : true ≡ false = sym (both (0 == c) (0 == d) h).0 ∙ first in cc)
two_bytes (a ∷ []) c d h first second = absurd (let wrong : true ≡ false = sym (both (a == c) (0 == d) h).1 ∙ second in cc)
two_bytes (a ∷ b ∷ z) c d h first second =
    let parts = both (a == c) (b == d) h in
    (z, ap (λ (e : ℕ). e ∷ b ∷ z) (same_byte a c parts.0) ∙ ap (λ (e : ℕ). c ∷ e ∷ z) (same_byte b d parts.1))

-- more than one byte stands together where a comment begins
star_size : (z : Text) → 1 < size (47 ∷ 42 ∷ z)
star_size z = by (comment_end 2 z) refl
  where
    by : (o : Option ℕ) → comment_end 2 z ≡ o → 1 < size (47 ∷ 42 ∷ z)
    by None is = let whole : size (47 ∷ 42 ∷ z) ≡ length (47 ∷ 42 ∷ z) = ap (λ (o : Option ℕ). closed_size o (47 ∷ 42 ∷ z)) is in omega (arith, whole)
    by (Some n) is = let whole : size (47 ∷ 42 ∷ z) ≡ n = ap (λ (o : Option ℕ). closed_size o (47 ∷ 42 ∷ z)) is in omega (arith, whole, end_after z 2 n is)

slash_size : (z : Text) → 1 < size (47 ∷ 47 ∷ z)
slash_size z = omega (arith, run_on (is_in class.Line) 47 (47 ∷ z) refl, run_on (is_in class.Line) 47 z refl)

sign_fits : (w y : Text) (k : Mark) → lookup marks w ≡ Some k → FitsFront (Sign k) w (w ++ y)
sign_fits w y k entry = by (slice_index (w ++ y) 0 == 47 && slice_index (w ++ y) 1 == 42) (slice_index (w ++ y) 0 == 47 && slice_index (w ++ y) 1 == 47) refl refl
  where
    facts : IsSignByte (slice_index w 0) × (0 < length w)
    facts = sign_byte w k entry

    first : IsSignByte (slice_index (w ++ y) 0)
    first = subst IsSignByte (sym (first_same w y facts.1)) facts.0

    fit : Fits w k (mark (w ++ y))
    fit = mark_fits w y k entry

    by : (star slash : Bool) → (slice_index (w ++ y) 0 == 47 && slice_index (w ++ y) 1 == 42) ≡ star → (slice_index (w ++ y) 0 == 47 && slice_index (w ++ y) 1 == 47) ≡ slash → FitsFront (Sign k) w (w ++ y)
    by true slash is _ =
        let z = two_bytes (w ++ y) 47 42 is refl refl in
        let one = sign_before_star w y z.0 k z.1 entry in
        let more : 1 < size (w ++ y) = subst (λ (v : Text). 1 < size v) (sym z.1) (star_size z.0) in
        record { some = facts.1; short = omega (arith, one, more); exact = λ long. absurd (omega (arith, one, more, long)) }
    by false true _ is =
        let z = two_bytes (w ++ y) 47 47 is refl refl in
        let one = sign_before_slash w y z.0 k z.1 entry in
        let more : 1 < size (w ++ y) = subst (λ (v : Text). 1 < size v) (sym z.1) (slash_size z.0) in
        record { some = facts.1; short = omega (arith, one, more); exact = λ long. absurd (omega (arith, one, more, long)) }
    by false false star slash =
        let whole : size (w ++ y) ≡ piece_size (mark (w ++ y)) = at_sign (sizes (w ++ y)) (w ++ y) first star slash in
        let shape : shape_at (w ++ y) ≡ sign_shape (mark (w ++ y)) = at_sign (shapes (w ++ y)) (w ++ y) first star slash in
        record { some = facts.1; short = omega (arith, whole, fit.short); exact = λ long. shape ∙ ap sign_shape (fit.exact (long ∙ whole)) }

-- whatever is spelled in front fits
pub fits_front : {shape : Shape} {v : Text} → Spells shape v → (y : Text) → FitsFront shape v (v ++ y)
fits_front (blanks b w h all) y = blanks_fit b w y h all
fits_front (line_comment w all) y = line_fits w y all
fits_front (comment w endless) y = comment_fits w y endless
fits_front (open_comment w endless) y = open_comment_fits w y endless
fits_front (word b w h all) y = word_fits b w y h all
fits_front (numeral b w h all) y = numeral_fits b w y h all
fits_front (quoted w body) y = quoted_fits w y body
fits_front (sign w k entry) y = sign_fits w y k entry
