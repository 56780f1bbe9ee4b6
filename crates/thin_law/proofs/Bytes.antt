-- The tests of bytes that part tokens, of the thin reader and of the lexer of the whole language.
use Rattle.std.proofs.Common.{◌≡◌, ℕ, ◌+◌, ◌≤◌, ◌==◌, ◌&&◌, ◌||◌, not, Bool, true, false, cond, [], ◌∷◌, slice_index, refl, sym, ap, ◌∙◌, subst, arith}
use Rattle.std.proofs.lemmas.Bool.Decides.{nat_tests}
use Rattle.std.specs.Char.{is_ascii_digit}
use Rattle.std.specs.List.{list_all, prefix_len}
use Rattle.std.specs.Str.{bytes_eq}
use Rattle.std.proofs.lemmas.Slice.Eq.{bytes_eq-Decides}
use Rattle.xmt_base.specs.Name.{is_name_start, is_name_part}
use Rattle.thin_source.specs.Tokens.{Text, is_blank, is_mark, is_spelling, is_empty, text_rest}
use Rattle.xmt_lex.specs.declared.scan.Class.TheVariants as class
use Rattle.xmt_lex.specs.Lex.{is_in}
use Rattle.token_law.proofs.Bytes.{same_byte, other_byte, both, word_byte}

-- ---- blanks

pub blank_not : (i b : ℕ) → is_blank i ≡ false → is_blank b ≡ true → (b == i) ≡ false
blank_not i b fails passes = other_byte i b is_blank fails passes

blank_at : (i b : ℕ) → (b == i) ≡ true → is_in class.Word i ≡ false → is_in class.Word b ≡ false
blank_at i b is h = subst (λ (c : ℕ). is_in class.Word c ≡ false) (sym (same_byte b i is)) h

pub blank_no_word : (b : ℕ) → is_blank b ≡ true → is_in class.Word b ≡ false
blank_no_word b h = by (b == 32) (b == 9) (b == 10) (b == 13) refl refl refl refl h
  where
    by : (s t n r : Bool) → (b == 32) ≡ s → (b == 9) ≡ t → (b == 10) ≡ n → (b == 13) ≡ r → (s || t || n || r) ≡ true → is_in class.Word b ≡ false
    by true t n r is _ _ _ h = blank_at 32 b is refl
    by false true n r _ is _ _ h = blank_at 9 b is refl
    by false false true r _ _ is _ h = blank_at 10 b is refl
    by false false false true _ _ _ is h = blank_at 13 b is refl
    by false false false false _ _ _ _ h = absurd (cc)

-- ---- letters and digits

pub run_of_word : (z : Text) → prefix_len (is_in class.Word) z ≡ prefix_len is_name_part z
run_of_word [] = refl
run_of_word (b ∷ z) = ap (λ (t : Bool). cond t (1 + prefix_len (is_in class.Word) z) 0) (word_byte b) ∙ ap (λ (n : ℕ). cond (is_name_part b) (1 + n) 0) (run_of_word z)

neither_of : (s d : Bool) → s ≡ false → d ≡ false → (s || d) ≡ false
neither_of false d none h = h
neither_of true d none h = absurd (cc)

pub no_word : (b : ℕ) → is_name_start b ≡ false → is_ascii_digit b ≡ false → is_in class.Word b ≡ false
no_word b start digit = word_byte b ∙ neither_of (is_name_start b) (is_ascii_digit b) start digit

pub digit_range : (b : ℕ) → is_ascii_digit b ≡ true → (48 ≤ b) × (b ≤ 57)
digit_range b h = grind (arith, nat_tests)

-- ---- runs

pub run_none : (p : ℕ → Bool) (z : Text) → p (slice_index z 0) ≡ false → prefix_len p z ≡ 0
run_none p [] h = refl
run_none p (b ∷ z) h = ap (λ (t : Bool). cond t (1 + prefix_len p z) 0) h

each_passes : (t all : Bool) (u more : Bool) → (t ≡ true → u ≡ true) → (all ≡ true → more ≡ true) → (t && all) ≡ true → (u && more) ≡ true
each_passes true all u more one rest h = rw (one refl) (rest h)
each_passes false all u more one rest h = absurd (cc)

pub all_by : (p q : ℕ → Bool) → ((b : ℕ) → p b ≡ true → q b ≡ true) → (w : Text) → list_all p w ≡ true → list_all q w ≡ true
all_by p q each [] h = refl
all_by p q each (b ∷ w) h = each_passes (p b) (list_all p w) (q b) (list_all q w) (each b) (all_by p q each w) h

-- ---- no newline stands in a spelling

abbrev pub is_plain : ℕ → Bool
is_plain b = not (b == 10)

plain : (p : ℕ → Bool) → p 10 ≡ false → (b : ℕ) → p b ≡ true → is_plain b ≡ true
plain p fails b h = ap not (other_byte 10 b p fails h)

pub empty_is : (w : Text) → is_empty w ≡ true → w ≡ []
empty_is [] h = refl
empty_is (b ∷ w) h = absurd (cc)

pub text_is : (w : Text) → bytes_eq w text_rest ≡ true → w ≡ text_rest
text_is w h = (bytes_eq-Decides w text_rest).0 h

alone_plain : (b : ℕ) (bs : Text) → is_plain b ≡ true → list_all is_plain bs ≡ true → list_all is_plain (b ∷ bs) ≡ true
alone_plain b bs first rest = rw first rest

empty_plain : (bs : Text) → is_empty bs ≡ true → list_all is_plain bs ≡ true
empty_plain [] h = refl
empty_plain (b ∷ bs) h = absurd (cc)

text_plain : (bs : Text) → bytes_eq bs text_rest ≡ true → list_all is_plain bs ≡ true
text_plain bs h = subst (λ (v : Text). list_all is_plain v ≡ true) (sym (text_is bs h)) refl

pub plain_spelling : (w : Text) → is_spelling w ≡ true → list_all is_plain w ≡ true
plain_spelling [] h = refl
plain_spelling (b ∷ bs) h = by (is_name_start b) (b == 48) (is_ascii_digit b) (b == 34) refl refl refl refl h
  where
    by : (start nought digit quote : Bool) → is_name_start b ≡ start → (b == 48) ≡ nought → is_ascii_digit b ≡ digit → (b == 34) ≡ quote →
        cond start (list_all is_name_part bs) (cond nought (is_empty bs) (cond digit (list_all is_ascii_digit bs) (cond quote (bytes_eq bs text_rest) (is_mark b && is_empty bs)))) ≡ true → list_all is_plain (b ∷ bs) ≡ true
    by true _ _ _ is _ _ _ h = alone_plain b bs (plain is_name_start refl b is) (all_by is_name_part is_plain (plain is_name_part refl) bs h)
    by false true _ _ _ is _ _ h = alone_plain b bs (plain (λ c. c == 48) refl b is) (empty_plain bs h)
    by false false true _ _ _ is _ h = alone_plain b bs (plain is_ascii_digit refl b is) (all_by is_ascii_digit is_plain (plain is_ascii_digit refl) bs h)
    by false false false true _ _ _ is h = alone_plain b bs (plain (λ c. c == 34) refl b is) (text_plain bs h)
    by false false false false _ _ _ _ h = let both_are = both (is_mark b) (is_empty bs) h in alone_plain b bs (plain is_mark refl b both_are.0) (empty_plain bs both_are.1)
