-- The piece that the lexer of the whole language finds where a thin token stands.
use Rattle.std.proofs.Common.{◌≡◌, ℕ, suc, ◌+◌, ◌-◌, ◌*◌, ◌^◌, ◌≤◌, ◌<◌, ◌==◌, ◌&&◌, ◌||◌, not, nat_lt, nat_le, Bool, true, false, cond, List, [], ◌∷◌, ◌++◌, length, take, slice_index, Option, Some, None, refl, sym, ap, ◌∙◌, subst, arith, codes}
use Rattle.std.proofs.lemmas.Bool.Decides.{nat_tests}
use Rattle.std.specs.Char.{is_ascii_digit}
use Rattle.std.specs.List.{list_all, list_any, prefix_len}
use Rattle.std.specs.Str.{bytes_eq}
use Rattle.std.proofs.lemmas.Slice.Eq.{bytes_eq-Decides}
use Rattle.std.proofs.Math.Seq.{take-append_seam}
use Rattle.xmt_base.specs.Name.{is_name_start, is_name_part, is_name, is_word, is_keyword, keywords as key_words}
use Rattle.thin_source.specs.Tokens.{Text, is_empty, is_mark, mark_of, mark_kind, decimal_value, number_kind, name_kind, word_kind, IsLongest, text_rest}
use Rattle.thin_law.proofs.Longest.{longest_of}
use Rattle.xmt_lex.specs.declared.TokenKind.{TokenKind}
use Rattle.xmt_lex.specs.declared.TokenKind.TheVariants as kind
use Rattle.xmt_lex.specs.declared.kinds.Keyword.{Keyword}
use Rattle.xmt_lex.specs.declared.kinds.Mark.TheVariants as m
use Rattle.xmt_lex.specs.declared.scan.Class.TheVariants as class
use Rattle.xmt_lex.specs.declared.scan.Piece.TheVariants as piece
use Rattle.xmt_lex.specs.Tables.{keywords, marks}
use Rattle.xmt_lex.specs.Lex.{is_in, run, digit, value, numbered, number_of, lookup, keyword_of, kind_of_word, mark, piece_of}
use Rattle.thin_law.proofs.SameTokens.{Kind, whole_kind, kind_in}
use Rattle.token_law.proofs.Bytes.{same_byte, other_byte, both, no_blank_byte, start_is_word, start_no_digit, digit_is_word, run_over}
use Rattle.thin_law.proofs.Bytes.{digit_range, run_of_word, run_none, all_by}

-- ---- words

to_word : {A : Type 0} (blank slash s t digit word : Bool) (a b c d e f : A) → blank ≡ false → slash ≡ false → digit ≡ false → word ≡ true →
    cond blank a (cond (slash && s) b (cond (slash && t) c (cond digit d (cond word e f)))) ≡ e
to_word blank slash s t digit word a b c d e f p q r u = rw (p, q, r, u)

pub word_piece : (b : ℕ) (y : Text) → is_name_start b ≡ true → piece_of (b ∷ y) ≡ piece.Word (run class.Word (b ∷ y))
unfolding piece_of
word_piece b y h =
    to_word (is_in class.Blank b) (b == 47) _ _ (is_in class.Digit b) (is_in class.Word b) _ _ _ _ _ _ (no_blank_byte is_name_start b refl refl refl refl h) (other_byte 47 b is_name_start refl h) (start_no_digit b h) (start_is_word b h)

when : (t : Bool) (a b n : ℕ) → t ≡ true → cond t (suc a) b ≡ suc n → a ≡ n
when true a b n is h = omega (arith, h)
when false a b n is h = absurd (cc)

-- a word is a run of letters and digits
pub word_run : (b : ℕ) (bs z : Text) → is_name_start b ≡ true → IsLongest (b ∷ bs) z → run class.Word (b ∷ (bs ++ z)) ≡ suc (length bs)
word_run b bs z h long =
    let parts : prefix_len is_name_part (bs ++ z) ≡ length bs = when (is_name_start b) (prefix_len is_name_part (bs ++ z)) _ (length bs) h (longest_of (b ∷ bs) z long) in
    ap (λ (t : Bool). cond t (1 + prefix_len (is_in class.Word) (bs ++ z)) 0) (start_is_word b h) ∙ ap (λ (n : ℕ). 1 + n) (run_of_word (bs ++ z) ∙ parts) ∙ one_more (length bs)
  where
    one_more : (n : ℕ) → 1 + n ≡ suc n
    one_more n = omega arith

-- ---- what a word is

eq_other : (v w : Text) → bytes_eq v w ≡ false → bytes_eq w v ≡ false
eq_other v w h = by (bytes_eq w v) refl
  where
    by : (t : Bool) → bytes_eq w v ≡ t → t ≡ false
    by false is = refl
    by true is = let no : bytes_eq v w ≡ true = (bytes_eq-Decides v w).1 (sym ((bytes_eq-Decides w v).0 is)) in absurd (cc)

abbrev spellings : List (Text × Keyword) → List Text
spellings [] = []
spellings (e ∷ es) = e.0 ∷ spellings es

neither : (s t : Bool) → (s || t) ≡ false → (s ≡ false) × (t ≡ false)
neither false t h = (refl, h)
neither true t h = absurd (cc)

-- a word that no spelling equals is not in the table
unlisted : (table : List (Text × Keyword)) (w : Text) → list_any (λ word. bytes_eq word w) (spellings table) ≡ false → lookup table w ≡ None
unlisted [] w h = refl
unlisted (e ∷ es) w h =
    let parts = neither (bytes_eq e.0 w) (list_any (λ word. bytes_eq word w) (spellings es)) h in
    ap (λ (t : Bool). cond t (Some e.1) (lookup es w)) (eq_other e.0 w parts.0) ∙ unlisted es w parts.1

same_keywords : spellings keywords ≡ key_words
unfolding keywords
same_keywords = refl

no_keyword : (w : Text) → is_keyword w ≡ false → keyword_of w ≡ None
unfolding keyword_of
no_keyword w h = unlisted keywords w (ap (list_any (λ word. bytes_eq word w)) same_keywords ∙ h)

name_no_keyword : (word key : Bool) → (word && not key) ≡ true → key ≡ false
name_no_keyword true false h = refl
name_no_keyword true true h = absurd (cc)
name_no_keyword false key h = absurd (cc)

named : (w : Text) (k : Kind) (t : Bool) → is_name w ≡ t → name_kind w ≡ Some k → kind_of_word [] w ≡ whole_kind k
unfolding name_kind
named w k true is h = let other = rw is at h in rw (no_keyword w (name_no_keyword (is_word w) (is_keyword w) is)) (ap kind_in other)
named w k false is h = let other = rw is at h in absurd (cc)

pub word_is : (w : Text) (k : Kind) → word_kind w ≡ Some k → kind_of_word [] w ≡ whole_kind k
unfolding name_kind keyword_of keywords
word_is w k h = by (bytes_eq w (codes "int")) (bytes_eq w (codes "main")) (bytes_eq w (codes "spawn")) (bytes_eq w (codes "printf")) refl refl refl refl h
  where
    by : (first second third fourth : Bool) → bytes_eq w (codes "int") ≡ first → bytes_eq w (codes "main") ≡ second → bytes_eq w (codes "spawn") ≡ third → bytes_eq w (codes "printf") ≡ fourth →
        cond first (word_kind (codes "int")) (cond second (word_kind (codes "main")) (cond third (word_kind (codes "spawn")) (cond fourth (word_kind (codes "printf")) (name_kind w)))) ≡ Some k → kind_of_word [] w ≡ whole_kind k
    by true _ _ _ is _ _ _ h = ap (kind_of_word []) ((bytes_eq-Decides w (codes "int")).0 is) ∙ ap kind_in h
    by false true _ _ _ is _ _ h = ap (kind_of_word []) ((bytes_eq-Decides w (codes "main")).0 is) ∙ ap kind_in h
    by false false true _ _ _ is _ h = ap (kind_of_word []) ((bytes_eq-Decides w (codes "spawn")).0 is) ∙ ap kind_in h
    by false false false true _ _ _ is h = ap (kind_of_word []) ((bytes_eq-Decides w (codes "printf")).0 is) ∙ ap kind_in h
    by false false false false _ _ _ _ h = named w k (is_name w) refl h

-- ---- numbers

to_number : {A : Type 0} (blank slash s t digit : Bool) (a b c d e : A) → blank ≡ false → slash ≡ false → digit ≡ true →
    cond blank a (cond (slash && s) b (cond (slash && t) c (cond digit d e))) ≡ d
to_number blank slash s t digit a b c d e p q r = rw (p, q, r)

pub number_piece : (b v : ℕ) (bs z : Text) → is_ascii_digit b ≡ true → list_all is_ascii_digit bs ≡ true → is_in class.Word (slice_index z 0) ≡ false → number_of (b ∷ bs) ≡ Some v →
    piece_of (b ∷ (bs ++ z)) ≡ piece.Whole (length (b ∷ bs)) (kind.Number v)
unfolding piece_of
number_piece b v bs z first rest ends number =
    to_number (is_in class.Blank b) (b == 47) _ _ (is_in class.Digit b) _ _ _ _ _ (no_blank_byte is_ascii_digit b refl refl refl refl first) (other_byte 47 b is_ascii_digit refl first) first
    ∙ ap (λ (n : ℕ). numbered n (number_of (take n (b ∷ (bs ++ z))))) long
    ∙ ap (λ (w : Text). numbered (length (b ∷ bs)) (number_of w)) (take-append_seam (b ∷ bs) z)
    ∙ ap (numbered (length (b ∷ bs))) number
  where
    digits : list_all is_ascii_digit (b ∷ bs) ≡ true
    digits = rw first rest

    long : run class.Word (b ∷ (bs ++ z)) ≡ length (b ∷ bs)
    long = run_over (is_in class.Word) (b ∷ bs) z (all_by is_ascii_digit (is_in class.Word) digit_is_word (b ∷ bs) digits) (run_none (is_in class.Word) z ends)

grows : (so_far : ℕ) (w : Text) → so_far ≤ decimal_value so_far w
grows so_far [] = omega arith
grows so_far (b ∷ w) = omega (arith, grows (so_far * 10 + (b - 48)) w)

digit_value : (b : ℕ) → is_ascii_digit b ≡ true → digit b ≡ b - 48
digit_value b h = ap (λ (t : Bool). cond t (b - 48) (cond (nat_le 97 b && nat_le b 102) (b - 87) (cond (nat_le 65 b && nat_le b 70) (b - 55) 16))) h

less : (a b : ℕ) → a < b → nat_lt a b ≡ true
less a b h = grind (arith, nat_tests)

value_is : (so_far : ℕ) (w : Text) → list_all is_ascii_digit w ≡ true → decimal_value so_far w < 2 ^ 32 → value 10 so_far w ≡ Some (decimal_value so_far w)
value_is so_far [] all small = refl
value_is so_far (b ∷ w) all small =
    let parts = both (is_ascii_digit b) (list_all is_ascii_digit w) all in
    let within = digit_range b parts.0 in
    let below : nat_lt (b - 48) 10 ≡ true = less (b - 48) 10 (omega arith) in
    let fits : nat_lt (so_far * 10 + (b - 48)) (2 ^ 32) ≡ true = less (so_far * 10 + (b - 48)) (2 ^ 32) (omega (arith, grows (so_far * 10 + (b - 48)) w)) in
    ap (λ (d : ℕ). cond (nat_lt d 10 && nat_lt (so_far * 10 + d) (2 ^ 32)) (value 10 (so_far * 10 + d) w) None) (digit_value b parts.0)
    ∙ ap (λ (t : Bool). cond (t && nat_lt (so_far * 10 + (b - 48)) (2 ^ 32)) (value 10 (so_far * 10 + (b - 48)) w) None) below
    ∙ ap (λ (t : Bool). cond t (value 10 (so_far * 10 + (b - 48)) w) None) fits
    ∙ value_is (so_far * 10 + (b - 48)) w parts.1 small

-- a number of thin digits
pub number_is : (b : ℕ) (bs : Text) (nought : Bool) → (b == 48) ≡ nought → is_ascii_digit b ≡ true → cond nought (is_empty bs) (list_all is_ascii_digit bs) ≡ true → decimal_value 0 (b ∷ bs) < 2 ^ 32 →
    number_of (b ∷ bs) ≡ Some (decimal_value 0 (b ∷ bs))
unfolding number_of
number_is b [] true is first h small = let same = same_byte b 48 is in subst (λ (c : ℕ). number_of (c ∷ []) ≡ Some (decimal_value 0 (c ∷ []))) (sym same) refl
number_is b (c ∷ bs) true is first h small = absurd (cc)
number_is b bs false is first h small = let some : nat_lt 0 (suc (length bs)) ≡ true = less 0 (suc (length bs)) (omega arith) in rw (is, some) (value_is 0 (b ∷ bs) (rw first h) small)

pub number_kind_is : (v : ℕ) (k : Kind) → number_kind v ≡ Some k → (v < 2 ^ 32) × (whole_kind k ≡ kind.Number v)
number_kind_is v k h = by (nat_lt v (2 ^ 31)) refl h
  where
    below : nat_lt v (2 ^ 31) ≡ true → v < 2 ^ 32
    below is = grind (arith, nat_tests)

    by : (t : Bool) → nat_lt v (2 ^ 31) ≡ t → number_kind v ≡ Some k → (v < 2 ^ 32) × (whole_kind k ≡ kind.Number v)
    by true is h = let other = rw is at h in (below is, sym (ap kind_in other))
    by false is h = let other = rw is at h in absurd (cc)

-- ---- the text

pub text_piece : (z : Text) → piece_of (34 ∷ (text_rest ++ z)) ≡ piece.Whole 6 kind.Text
unfolding piece_of
text_piece z = refl

-- ---- marks

-- the byte joins no mark of one byte that stands before it to a longer one
abbrev pub JoinsNone : ℕ → Type 0
JoinsNone c = ((c == 61) ≡ false) × ((c == 43) ≡ false) × ((c == 45) ≡ false)

equal_piece : (z : Text) → JoinsNone (slice_index z 0) → piece_of (61 ∷ z) ≡ piece.Whole 1 (kind.Mark m.Equal)
unfolding piece_of mark marks
equal_piece [] h = refl
equal_piece (c ∷ z) h = rw h.0

plus_piece : (z : Text) → JoinsNone (slice_index z 0) → piece_of (43 ∷ z) ≡ piece.Whole 1 (kind.Mark m.Plus)
unfolding piece_of mark marks
plus_piece [] h = refl
plus_piece (c ∷ z) h = rw (h.0, h.1)

minus_piece : (z : Text) → JoinsNone (slice_index z 0) → piece_of (45 ∷ z) ≡ piece.Whole 1 (kind.Mark m.Minus)
unfolding piece_of mark marks
minus_piece [] h = refl
minus_piece (c ∷ z) h = rw (h.0, h.2)

star_piece : (z : Text) → JoinsNone (slice_index z 0) → piece_of (42 ∷ z) ≡ piece.Whole 1 (kind.Mark m.Star)
unfolding piece_of mark marks
star_piece [] h = refl
star_piece (c ∷ z) h = rw h.0

-- the byte that may stand behind a token of some kind, so that the token is not a part of a longer one
abbrev pub MayFollow : TokenKind → ℕ → Type 0
MayFollow (kind.Number v) c = is_in class.Word c ≡ false
MayFollow (kind.Mark m.Equal) c = JoinsNone c
MayFollow (kind.Mark m.Plus) c = JoinsNone c
MayFollow (kind.Mark m.Minus) c = JoinsNone c
MayFollow (kind.Mark m.Star) c = JoinsNone c
MayFollow _ c = Unit {0}

abbrev MarkPiece : ℕ → Type 0
MarkPiece b = (z : Text) → MayFollow (kind_in (mark_kind (mark_of b))) (slice_index z 0) → piece_of (b ∷ z) ≡ piece.Whole 1 (kind_in (mark_kind (mark_of b)))

-- one byte of the table, and those behind it
next_byte : (P : ℕ → Type 0) (b i : ℕ) → P i → ((b == i) ≡ false → P b) → P b
next_byte P b i here other = by (b == i) refl
  where
    by : (t : Bool) → (b == i) ≡ t → P b
    by true is = subst P (sym (same_byte b i is)) here
    by false is = other is

abbrev has_mark : {A : Type 0} → Option A → Bool
has_mark None = false
has_mark (Some a) = true

pub mark_piece : (b : ℕ) → is_mark b ≡ true → MarkPiece b
unfolding piece_of mark marks
mark_piece b h =
    next_byte MarkPiece b 40 (λ z f. refl) (λ h1.
    next_byte MarkPiece b 41 (λ z f. refl) (λ h2.
    next_byte MarkPiece b 91 (λ z f. refl) (λ h3.
    next_byte MarkPiece b 93 (λ z f. refl) (λ h4.
    next_byte MarkPiece b 123 (λ z f. refl) (λ h5.
    next_byte MarkPiece b 125 (λ z f. refl) (λ h6.
    next_byte MarkPiece b 59 (λ z f. refl) (λ h7.
    next_byte MarkPiece b 44 (λ z f. refl) (λ h8.
    next_byte MarkPiece b 36 (λ z f. refl) (λ h9.
    next_byte MarkPiece b 61 equal_piece (λ h10.
    next_byte MarkPiece b 43 plus_piece (λ h11.
    next_byte MarkPiece b 45 minus_piece (λ h12.
    next_byte MarkPiece b 42 star_piece (λ h13. absurd (let none : mark_of b ≡ None = rw (h1, h2, h3, h4, h5, h6, h7, h8, h9, h10, h11, h12, h13) in let no : is_mark b ≡ false = ap has_mark none in cc))))))))))))))
