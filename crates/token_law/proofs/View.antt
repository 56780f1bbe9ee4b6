-- Each bytes have a longest spelling in front, or none.
use Rattle.std.proofs.Common.{◌≡◌, ℕ, suc, ◌+◌, ◌≤◌, ◌==◌, ◌&&◌, Bool, true, false, [], ◌∷◌, ◌++◌, length, length-append, append-nil, append_assoc, take, drop, take-append-drop, slice_index, Option, refl, sym, ap, ◌∙◌, subst, arith}
use Rattle.std.proofs.Math.Seq.{take-append_seam}
use Rattle.std.specs.List.{prefix_len}
use Rattle.std.proofs.lemmas.List.Folds.{length-prefix_len}
use Rattle.std.specs.Char.{is_ascii_digit}
use Rattle.xmt_base.specs.Name.{is_name_start}
use Rattle.xmt_lex.specs.declared.TokenKind.TheVariants as kind
use Rattle.xmt_lex.specs.declared.scan.Class.TheVariants as class
use Rattle.xmt_lex.specs.declared.scan.Piece.{Piece}
use Rattle.xmt_lex.specs.declared.scan.Piece.TheVariants as piece
use Rattle.xmt_lex.specs.Tables.{marks}
use Rattle.xmt_lex.specs.Lex.{Text, is_in, run, numbered, number_of, commented, text_from, mark, mark_in, piece_of}
use Rattle.token_law.specs.Spelling.{Shape, Blanks, Comment, OpenComment, Word, Numeral, Quoted, Sign, Spells, IsLongest}
use Rattle.token_law.specs.Spelling as spelling
use Rattle.token_law.proofs.Bytes.{same_byte, word_is_start, digit_is_word, start_is_word, run_on, run_all}
use Rattle.token_law.proofs.Signs.{piece_size, IsBad, MarkFront, found, none, mark_found}
use Rattle.token_law.proofs.Quotes.{text_reads, TextFront, text_front}
use Rattle.token_law.proofs.Quotes as quotes
use Rattle.token_law.proofs.Comments.{CommentFront, comment_front}
use Rattle.token_law.proofs.Comments as comments
use Rattle.token_law.proofs.Front.{pieces, sizes, shapes, closed_size, closed_shape, sign_shape, piece_by, size, shape_at, piece_for, by_class, at_blank, at_word, at_digit, sign_class, two_bytes, FitsFront, fits_front}

-- what stands in front of some bytes: a spelling, or nothing that is one
pub data View (z : Text) : Type 0 where
  stands : (shape : Shape) (w y : Text) → z ≡ w ++ y → Spells shape w → size z ≡ length w → shape_at z ≡ shape → piece_of z ≡ piece_for shape w → View z
  nothing : size z ≡ 0 → IsBad (piece_of z) → View z

-- a run that the first byte begins
run_length : (p : ℕ → Bool) (b : ℕ) (z : Text) → p b ≡ true → prefix_len p (b ∷ z) ≡ length (b ∷ take (prefix_len p z) z)
run_length p b z h = run_on p b z h ∙ ap suc (sym (length-prefix_len p z))

run_split : (p : ℕ → Bool) (b : ℕ) (z : Text) → (b ∷ z) ≡ (b ∷ take (prefix_len p z) z) ++ drop (prefix_len p z) z
run_split p b z = ap (λ (v : Text). b ∷ v) (sym (take-append-drop (prefix_len p z) z))

blank_view : (b : ℕ) (z : Text) → is_in class.Blank b ≡ true → View (b ∷ z)
blank_view b z h =
    stands Blanks (b ∷ take (run class.Blank z) z) (drop (run class.Blank z) z) (run_split (is_in class.Blank) b z) (spelling.blanks b _ h (run_all (is_in class.Blank) z))
    (at_blank (sizes (b ∷ z)) b z h ∙ run_length (is_in class.Blank) b z h) (at_blank (shapes (b ∷ z)) b z h)
    (piece_by (b ∷ z) ∙ at_blank (pieces (b ∷ z)) b z h ∙ ap (λ (n : ℕ). piece.Nothing n) (run_length (is_in class.Blank) b z h))

word_view : (b : ℕ) (z : Text) → is_name_start b ≡ true → View (b ∷ z)
word_view b z h =
    let long = run_length (is_in class.Word) b z (start_is_word b h) in
    stands Word (b ∷ take (run class.Word z) z) (drop (run class.Word z) z) (run_split (is_in class.Word) b z) (spelling.word b _ h (run_all (is_in class.Word) z))
    (at_word (sizes (b ∷ z)) b z h ∙ long) (at_word (shapes (b ∷ z)) b z h)
    (piece_by (b ∷ z) ∙ at_word (pieces (b ∷ z)) b z h ∙ ap (λ (n : ℕ). piece.Word n) long)

numeral_view : (b : ℕ) (z : Text) → is_ascii_digit b ≡ true → View (b ∷ z)
numeral_view b z h =
    let first = digit_is_word b h in
    let long = run_length (is_in class.Word) b z first in
    let n = run class.Word z in
    stands Numeral (b ∷ take (run class.Word z) z) (drop (run class.Word z) z) (run_split (is_in class.Word) b z) (spelling.numeral b _ h (run_all (is_in class.Word) z))
    (at_digit (sizes (b ∷ z)) b z h ∙ long) (at_digit (shapes (b ∷ z)) b z h)
    (piece_by (b ∷ z) ∙ at_digit (pieces (b ∷ z)) b z h ∙ ap (λ (m : ℕ). numbered m (number_of (take m (b ∷ z)))) (run_on (is_in class.Word) b z first)
    ∙ ap (λ (m : ℕ). numbered (suc m) (number_of (b ∷ take (run class.Word z) z))) (sym (length-prefix_len (is_in class.Word) z)))

line_length : (z : Text) → run class.Line (47 ∷ 47 ∷ z) ≡ length (47 ∷ 47 ∷ take (run class.Line z) z)
line_length z = run_on (is_in class.Line) 47 (47 ∷ z) refl ∙ ap suc (run_length (is_in class.Line) 47 z refl)

line_view : (z : Text) → View (47 ∷ 47 ∷ z)
line_view z =
    stands Comment (47 ∷ 47 ∷ take (run class.Line z) z) (drop (run class.Line z) z) (ap (λ (v : Text). 47 ∷ v) (run_split (is_in class.Line) 47 z)) (spelling.line_comment _ (run_all (is_in class.Line) z))
    (line_length z) refl (piece_by (47 ∷ 47 ∷ z) ∙ ap (λ (n : ℕ). piece.Nothing n) (line_length z))

comment_view : (z : Text) → View (47 ∷ 42 ∷ z)
comment_view z = by (comment_front 2 z)
  where
    by : CommentFront 2 z → View (47 ∷ 42 ∷ z)
    by (comments.found x y split so_far seen) =
        let long : 2 + length x + 2 ≡ length (47 ∷ 42 ∷ (x ++ 42 ∷ 47 ∷ [])) = omega (arith, length-append x (42 ∷ 47 ∷ [])) in
        stands Comment (47 ∷ 42 ∷ (x ++ 42 ∷ 47 ∷ [])) y (ap (λ (v : Text). 47 ∷ 42 ∷ v) (split ∙ sym (append_assoc x (42 ∷ 47 ∷ []) y))) (spelling.comment x so_far)
        (ap (λ (o : Option ℕ). closed_size o (47 ∷ 42 ∷ z)) seen ∙ long) (ap closed_shape seen) (piece_by (47 ∷ 42 ∷ z) ∙ ap commented seen ∙ ap (λ (n : ℕ). piece.Nothing n) long)
    by (comments.endless so_far seen) =
        stands OpenComment (47 ∷ 42 ∷ z) [] (sym (append-nil (47 ∷ 42 ∷ z))) (spelling.open_comment z so_far)
        (ap (λ (o : Option ℕ). closed_size o (47 ∷ 42 ∷ z)) seen) (ap closed_shape seen) (piece_by (47 ∷ 42 ∷ z) ∙ ap commented seen)

bad_size : (p : Piece) → IsBad p → piece_size p ≡ 0
bad_size (piece.Nothing n) h = absurd h
bad_size (piece.Word n) h = absurd h
bad_size (piece.Whole n k) h = absurd h
bad_size (piece.Bad k at) h = refl

quoted_view : (z : Text) → View (34 ∷ z)
quoted_view z = by (text_front 1 z)
  where
    by : TextFront 1 z → View (34 ∷ z)
    by (quotes.found w y split body) =
        let seen : text_from false 1 z ≡ piece.Whole (1 + length w + 1) kind.Text = ap (text_from false 1) split ∙ text_reads body 1 y in
        let long : 1 + length w + 1 ≡ length (34 ∷ (w ++ 34 ∷ [])) = omega (arith, length-append w (34 ∷ [])) in
        stands Quoted (34 ∷ (w ++ 34 ∷ [])) y (ap (λ (v : Text). 34 ∷ v) (split ∙ sym (append_assoc w (34 ∷ []) y))) (spelling.quoted w body)
        (ap piece_size seen ∙ long) refl (piece_by (34 ∷ z) ∙ seen ∙ ap (λ (n : ℕ). piece.Whole n kind.Text) long)
    by (quotes.fault is) = nothing (bad_size (text_from false 1 z) is) (subst IsBad (sym (piece_by (34 ∷ z))) is)

marked : (z : Text) → mark z ≡ mark_in marks z
unfolding mark
marked z = refl

sign_view : (z : Text) → by_class (sizes z) z ≡ piece_size (mark z) → by_class (shapes z) z ≡ sign_shape (mark z) → by_class (pieces z) z ≡ mark z → View z
sign_view z sized shaped seen = by (mark_found z)
  where
    by : MarkFront marks z → View z
    by (found w y k split entry front) =
        let there : mark z ≡ piece.Whole (length w) (kind.Mark k) = marked z ∙ front in
        stands (Sign k) w y split (spelling.sign w k entry) (sized ∙ ap piece_size there) (shaped ∙ ap sign_shape there) (piece_by z ∙ seen ∙ there)
    by (none bad) =
        let fault : IsBad (mark z) = subst IsBad (sym (marked z)) bad in
        nothing (sized ∙ bad_size (mark z) fault) (subst IsBad (sym (piece_by z ∙ seen)) fault)

pub view : (z : Text) → View z
unfolding piece_of mark marks
view [] = nothing refl tt
view (b ∷ z) = by (is_in class.Blank b) (b == 47 && slice_index z 0 == 42) (b == 47 && slice_index z 0 == 47) (is_in class.Digit b) (is_in class.Word b) (b == 34) refl refl refl refl refl refl
  where
    by : (blank star slash digit letter quote : Bool) → is_in class.Blank b ≡ blank → (b == 47 && slice_index z 0 == 42) ≡ star → (b == 47 && slice_index z 0 == 47) ≡ slash →
        is_in class.Digit b ≡ digit → is_in class.Word b ≡ letter → (b == 34) ≡ quote → View (b ∷ z)
    by true _ _ _ _ _ is _ _ _ _ _ = blank_view b z is
    by false true _ _ _ _ _ is _ _ _ _ = let both_are = two_bytes (b ∷ z) 47 42 is refl refl in subst View (sym both_are.1) (comment_view both_are.0)
    by false false true _ _ _ _ _ is _ _ _ = let both_are = two_bytes (b ∷ z) 47 47 is refl refl in subst View (sym both_are.1) (line_view both_are.0)
    by false false false true _ _ _ _ _ is _ _ = numeral_view b z is
    by false false false false true _ _ _ _ other is _ = word_view b z (word_is_start b other is)
    by false false false false false true _ _ _ _ _ is = subst (λ (c : ℕ). View (c ∷ z)) (sym (same_byte b 34 is)) (quoted_view z)
    by false false false false false false p q r s t u =
        sign_view (b ∷ z)
        (sign_class (sizes (b ∷ z)) (is_in class.Blank b) (b == 47 && slice_index z 0 == 42) (b == 47 && slice_index z 0 == 47) (is_in class.Digit b) (is_in class.Word b) (b == 34) p q r s t u)
        (sign_class (shapes (b ∷ z)) (is_in class.Blank b) (b == 47 && slice_index z 0 == 42) (b == 47 && slice_index z 0 == 47) (is_in class.Digit b) (is_in class.Word b) (b == 34) p q r s t u)
        (sign_class (pieces (b ∷ z)) (is_in class.Blank b) (b == 47 && slice_index z 0 == 42) (b == 47 && slice_index z 0 == 47) (is_in class.Digit b) (is_in class.Word b) (b == 34) p q r s t u)

-- ---- the longest in front

-- what stands in front is the longest that is spelled there
pub longest_stands : (shape : Shape) (w y : Text) → Spells shape w → size (w ++ y) ≡ length w → IsLongest shape w y
longest_stands shape w y spelled whole = record {
  spells = spelled;
  longest = λ other v z same spells_v.
      let fits = fits_front spells_v z in
      omega (arith, fits.short, ap size same, whole);
}

-- the longest in front is what the lexer finds there
pub longest_found : (shape : Shape) (w y : Text) → IsLongest shape w y → piece_of (w ++ y) ≡ piece_for shape w
longest_found shape w y long = by (view (w ++ y)) refl
  where
    fits : FitsFront shape w (w ++ y)
    fits = fits_front long.spells y

    by : {z : Text} → View z → z ≡ w ++ y → piece_of (w ++ y) ≡ piece_for shape w
    by (stands other v u split spelled sized shaped seen) is =
        let cut : v ++ u ≡ w ++ y = sym split ∙ is in
        let no_longer : length v ≤ length w = long.longest other v u cut spelled in
        let same_length : length w ≡ length v = omega (arith, no_longer, fits.short, ap size is, sized) in
        let same_bytes : v ≡ w = sym (take-append_seam v u) ∙ ap (take (length v)) cut ∙ ap (λ (n : ℕ). take n (w ++ y)) (sym same_length) ∙ take-append_seam w y in
        let same_shape : other ≡ shape = sym shaped ∙ ap shape_at is ∙ fits.exact (omega (arith, same_length, ap size is, sized)) in
        ap piece_of (sym is) ∙ seen ∙ ap (piece_for other) same_bytes ∙ ap (λ (t : Shape). piece_for t w) same_shape
    by (nothing empty bad) is = absurd (omega (arith, fits.some, fits.short, ap size is, empty))
