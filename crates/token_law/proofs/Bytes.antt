-- Tests of bytes, and runs of bytes that pass one.
use Rattle.std.proofs.Common.{◌≡◌, ℕ, suc, ◌+◌, ◌≤◌, ◌==◌, ◌&&◌, ◌||◌, Bool, true, false, cond, [], ◌∷◌, ◌++◌, length, take, refl, sym, ap, ◌∙◌, arith}
use Rattle.std.proofs.lemmas.Bool.Decides.{nat_tests}
use Rattle.std.specs.Char.{is_ascii_digit}
use Rattle.std.specs.List.{list_all, prefix_len}
use Rattle.xmt_base.specs.Name.{is_name_start}
use Rattle.xmt_lex.specs.declared.scan.Class.TheVariants as class
use Rattle.xmt_lex.specs.Lex.{Text, is_in}

pub same_byte : (i j : ℕ) → (i == j) ≡ true → i ≡ j
same_byte i j h = grind (arith, nat_tests)

-- a byte that passes a test is not one that fails it
pub other_byte : (i b : ℕ) (p : ℕ → Bool) → p i ≡ false → p b ≡ true → (b == i) ≡ false
other_byte i b p fails passes = by (b == i) refl
  where
    by : (t : Bool) → (b == i) ≡ t → t ≡ false
    by false is = refl
    by true is = let same : p b ≡ p i = ap p (same_byte b i is) in absurd (let wrong : true ≡ false = sym passes ∙ same ∙ fails in cc)

pub both : (s t : Bool) → (s && t) ≡ true → (s ≡ true) × (t ≡ true)
both true true h = (refl, refl)
both true false h = absurd (cc)
both false t h = absurd (cc)

-- ---- the first byte of a word or a number

no_blank : (s t n r : Bool) → s ≡ false → t ≡ false → n ≡ false → r ≡ false → (s || t || n || r) ≡ false
no_blank s t n r a b c d = rw (a, b, c, d)

pub no_blank_byte : (p : ℕ → Bool) (b : ℕ) → p 32 ≡ false → p 9 ≡ false → p 10 ≡ false → p 13 ≡ false → p b ≡ true → is_in class.Blank b ≡ false
no_blank_byte p b x9 x10 x13 x32 h = no_blank (b == 32) (b == 9) (b == 10) (b == 13) (other_byte 32 b p x9 h) (other_byte 9 b p x10 h) (other_byte 10 b p x13 h) (other_byte 13 b p x32 h)

either_way : (d u l a : Bool) → (((d || u) || l) || a) ≡ (((u || l) || a) || d)
either_way true true l a = refl
either_way true false true a = refl
either_way true false false true = refl
either_way true false false false = refl
either_way false true l a = refl
either_way false false true a = refl
either_way false false false true = refl
either_way false false false false = refl

-- a letter, a digit or `_` is the first byte of a word, or a digit
pub word_byte : (b : ℕ) → is_in class.Word b ≡ (is_name_start b || is_ascii_digit b)
word_byte b = either_way (is_in class.Digit b) _ _ (b == 95)

first_of : (s d : Bool) → s ≡ true → (s || d) ≡ true
first_of true d h = refl
first_of false d h = absurd (cc)

left_of : (s d : Bool) → (s || d) ≡ true → d ≡ false → s ≡ true
left_of true d h none = refl
left_of false d h none = absurd (let wrong : true ≡ false = sym h ∙ none in cc)

pub start_is_word : (b : ℕ) → is_name_start b ≡ true → is_in class.Word b ≡ true
start_is_word b h = word_byte b ∙ first_of (is_name_start b) (is_ascii_digit b) h

pub start_no_digit : (b : ℕ) → is_name_start b ≡ true → is_in class.Digit b ≡ false
start_no_digit b h = grind (arith, nat_tests)

pub word_is_start : (b : ℕ) → is_in class.Digit b ≡ false → is_in class.Word b ≡ true → is_name_start b ≡ true
word_is_start b other h = left_of (is_name_start b) (is_ascii_digit b) (sym (word_byte b) ∙ h) other

pub digit_is_word : (b : ℕ) → is_in class.Digit b ≡ true → is_in class.Word b ≡ true
digit_is_word b h = grind (arith, nat_tests)

-- ---- runs

one_more : (n : ℕ) → 1 + n ≡ suc n
one_more n = omega arith

-- a run behind one more byte
pub run_on : (p : ℕ → Bool) (b : ℕ) (z : Text) → p b ≡ true → prefix_len p (b ∷ z) ≡ suc (prefix_len p z)
run_on p b z h = ap (λ (t : Bool). cond t (1 + prefix_len p z) 0) h ∙ one_more (prefix_len p z)

in_run : (t all : Bool) (m n : ℕ) → (all ≡ true → m ≤ n) → (t && all) ≡ true → suc m ≤ cond t (1 + n) 0
in_run true all m n less h = omega (arith, less h)
in_run false all m n less h = absurd (cc)

-- bytes that pass are in the run
pub all_in_run : (p : ℕ → Bool) (v y : Text) → list_all p v ≡ true → length v ≤ prefix_len p (v ++ y)
all_in_run p [] y h = omega arith
all_in_run p (b ∷ bs) y h = in_run (p b) (list_all p bs) (length bs) (prefix_len p (bs ++ y)) (all_in_run p bs y) h

all_behind : (p : ℕ → Bool) (b n : ℕ) (bs : Text) (t : Bool) → p b ≡ t → list_all p (take n bs) ≡ true → list_all p (take (cond t (1 + n) 0) (b ∷ bs)) ≡ true
all_behind p b n bs true is h = rw (one_more n, is) h
all_behind p b n bs false is h = refl

-- the bytes of a run pass
pub run_all : (p : ℕ → Bool) (z : Text) → list_all p (take (prefix_len p z) z) ≡ true
run_all p [] = refl
run_all p (b ∷ bs) = all_behind p b (prefix_len p bs) bs (p b) refl (run_all p bs)

over : (t all : Bool) (m n : ℕ) → (all ≡ true → n ≡ m) → (t && all) ≡ true → cond t (1 + n) 0 ≡ suc m
over true all m n same h = omega (arith, same h)
over false all m n same h = absurd (cc)

-- a run ends where its bytes do
pub run_over : (p : ℕ → Bool) (w z : Text) → list_all p w ≡ true → prefix_len p z ≡ 0 → prefix_len p (w ++ z) ≡ length w
run_over p [] z all ends = ends
run_over p (b ∷ w) z all ends = over (p b) (list_all p w) (length w) (prefix_len p (w ++ z)) (λ h. run_over p w z h ends) all
