-- What a dump spells is read as it was written: bytes, words and values.
use Rattle.std.proofs.Common.{ℤ, inl, inr, ◌≡◌, ℕ, ◌+◌, ◌-◌, ◌*◌, ◌/◌, ◌%◌, ◌^◌, ◌<◌, ◌≤◌, ◌==◌, ◌&&◌, ◌||◌, suc, zero, Bool, true, false, not, cond, nat_eq, nat_lt, nat_le, List, [], ◌∷◌, ◌++◌, length, get_or, Some, None, refl, sym, ◌∙◌, ap, subst, length-append, arith}
use Rattle.std.proofs.lemmas.Bool.{cases_lt}
use Rattle.std.proofs.lemmas.Bool.Decides.{nat_tests}
use Rattle.std.proofs.lemmas.Fmt.{decimal_by_steps, first_decimal, decimal_digit}
use Rattle.std.proofs.lemmas.Int.{to_z_pos}
use Rattle.std.proofs.Math.Facts.{to_z-neg}
use Rattle.std.specs.Int.{w32}
use Rattle.memory_map.specs.DumpText.{value_text}
use Rattle.std.specs.Fmt.{decimal, signed_decimal}
use Rattle.std.specs.List.{list_all, slice_split}
use Rattle.std.specs.Option.{option_and_then}
use Rattle.memory_map.specs.Words.{digit_of, number_from, number_of, negative_of, value_of, without_return, without_comment, begins_comment}

-- no blank, no newline and no slash
abbrev pub is_plain : ℕ → Bool
is_plain c = nat_lt 32 c && not (c == 47)

-- that, or a space
abbrev pub is_calm : ℕ → Bool
is_calm c = nat_le 32 c && not (c == 47)

pub both_true : (a b : Bool) → (a && b) ≡ true → (a ≡ true) × (b ≡ true)
both_true true b h = (refl, h)
both_true false b h = cc

pub make_both : (a b : Bool) → a ≡ true → b ≡ true → (a && b) ≡ true
make_both true b ha hb = hb
make_both false b ha hb = cc

pub all_append : (p : ℕ → Bool) (xs ys : List ℕ) → list_all p xs ≡ true → list_all p ys ≡ true → list_all p (xs ++ ys) ≡ true
all_append p [] ys hx hy = hy
all_append p (x ∷ xs) ys hx hy =
    let parts = both_true (p x) (list_all p xs) hx in
    make_both (p x) (list_all p (xs ++ ys)) parts.0 (all_append p xs ys parts.1 hy)

calm_one : (c : ℕ) → is_plain c ≡ true → is_calm c ≡ true
calm_one c plain = grind (arith, nat_tests)

pub plain_calm : (xs : List ℕ) → list_all is_plain xs ≡ true → list_all is_calm xs ≡ true
plain_calm [] plain = refl
plain_calm (x ∷ xs) plain =
    let parts = both_true (is_plain x) (list_all is_plain xs) plain in
    make_both (is_calm x) (list_all is_calm xs) (calm_one x parts.0) (plain_calm xs parts.1)

calm_newline : (c : ℕ) → is_calm c ≡ true → (c == 10) ≡ false
calm_newline c calm = grind (arith, nat_tests)

calm_return : (c : ℕ) → is_calm c ≡ true → (c == 13) ≡ false
calm_return c calm = grind (arith, nat_tests)

plain_blank : (c : ℕ) → is_plain c ≡ true → (c == 32 || c == 9) ≡ false
plain_blank c plain = grind (arith, nat_tests)

-- a calm line ends at its newline
pub calm_split : (xs rest : List ℕ) → list_all is_calm xs ≡ true → slice_split (λ c. c == 10) (xs ++ 10 ∷ rest) ≡ xs ∷ slice_split (λ c. c == 10) rest
calm_split [] rest calm = refl
calm_split (x ∷ xs) rest calm =
    let parts = both_true (is_calm x) (list_all is_calm xs) calm in
    rw (calm_newline x parts.0, calm_split xs rest parts.1) refl

no_return_at : (xs : List ℕ) (i : ℕ) → list_all is_calm xs ≡ true → (get_or xs i 0 == 13) ≡ false
no_return_at [] i calm = refl
no_return_at (x ∷ xs) zero calm = calm_return x (both_true (is_calm x) (list_all is_calm xs) calm).0
no_return_at (x ∷ xs) (suc i) calm = no_return_at xs i (both_true (is_calm x) (list_all is_calm xs) calm).1

-- and has no carriage return
pub calm_return_kept : (xs : List ℕ) → list_all is_calm xs ≡ true → without_return xs ≡ xs
calm_return_kept xs calm = rw (no_return_at xs (length xs - 1) calm) refl

and_false : (a b : Bool) → a ≡ false → (a && b) ≡ false
and_false true b h = cc
and_false false b h = refl

no_slashes : (c : ℕ) (cs : List ℕ) → nat_eq 47 c ≡ false → begins_comment (c ∷ cs) ≡ false
no_slashes c [] no_slash = and_false (nat_eq 47 c) _ no_slash
no_slashes c (d ∷ cs) no_slash = and_false (nat_eq 47 c) _ no_slash

calm_slash_left : (c : ℕ) → is_calm c ≡ true → nat_eq 47 c ≡ false
calm_slash_left c calm = grind (arith, nat_tests)

-- and has no comment
pub calm_comment : (xs : List ℕ) → list_all is_calm xs ≡ true → without_comment xs ≡ xs
calm_comment [] calm = refl
calm_comment (x ∷ xs) calm =
    let parts = both_true (is_calm x) (list_all is_calm xs) calm in
    rw (no_slashes x xs (calm_slash_left x parts.0), calm_comment xs parts.1) refl

-- a plain word ends at a space
pub word_split : (xs rest : List ℕ) → list_all is_plain xs ≡ true → slice_split (λ c. c == 32 || c == 9) (xs ++ 32 ∷ rest) ≡ xs ∷ slice_split (λ c. c == 32 || c == 9) rest
word_split [] rest plain = refl
word_split (x ∷ xs) rest plain =
    let parts = both_true (is_plain x) (list_all is_plain xs) plain in
    rw (plain_blank x parts.0, word_split xs rest parts.1) refl

pub word_whole : (xs : List ℕ) → list_all is_plain xs ≡ true → slice_split (λ c. c == 32 || c == 9) xs ≡ xs ∷ []
word_whole [] plain = refl
word_whole (x ∷ xs) plain =
    let parts = both_true (is_plain x) (list_all is_plain xs) plain in
    rw (plain_blank x parts.0, word_whole xs parts.1) refl

number_append_step : (b : Bool) (base m : ℕ) (xs ys : List ℕ) → number_from base m (xs ++ ys) ≡ option_and_then (λ m. number_from base m ys) (number_from base m xs) → cond b (number_from base m (xs ++ ys)) None ≡ option_and_then (λ m. number_from base m ys) (cond b (number_from base m xs) None)
number_append_step true base m xs ys here = here
number_append_step false base m xs ys here = refl

-- digits behind digits
pub number_append : (base n : ℕ) (xs ys : List ℕ) → number_from base n (xs ++ ys) ≡ option_and_then (λ m. number_from base m ys) (number_from base n xs)
number_append base n [] ys = refl
number_append base n (x ∷ xs) ys = number_append_step (nat_lt (digit_of x) base && nat_lt (n * base + digit_of x) (2 ^ 32)) base (n * base + digit_of x) xs ys (number_append base (n * base + digit_of x) xs ys)

-- the text of a number: plain bytes, of which the first is a digit, and the number
pub record Spells (n : ℕ) (ds : List ℕ) : Type 0 where
  pub plain : list_all is_plain ds ≡ true
  pub some : 0 < length ds
  pub first : get_or ds 0 0 == 45 ≡ false
  pub number : n < 2 ^ 32 → number_from 10 0 ds ≡ Some n

digit_is : (d : ℕ) → d < 10 → digit_of (48 + d) ≡ d
digit_is d small = grind (arith, nat_tests)

digit_plain : (d : ℕ) → d < 10 → is_plain (48 + d) ≡ true
digit_plain d small = grind (arith, nat_tests)

digit_no_minus : (d : ℕ) → d < 10 → (48 + d == 45) ≡ false
digit_no_minus d small = grind (arith, nat_tests)

one_digit : (m d : ℕ) → d < 10 → m * 10 + d < 2 ^ 32 → number_from 10 m ((48 + d) ∷ []) ≡ Some (m * 10 + d)
one_digit m d small fits =
    let below : nat_lt d 10 ≡ true = grind (arith, nat_tests) in
    let within : nat_lt (m * 10 + d) (2 ^ 32) ≡ true = grind (arith, nat_tests) in
    rw (digit_is d small, below, within) refl

one_spells : (n : ℕ) → n < 10 → Spells n ((48 + n) ∷ [])
one_spells n small = record {
  plain = make_both (is_plain (48 + n)) true (digit_plain n small) refl;
  some = omega arith;
  first = digit_no_minus n small;
  number = λ fits. let same : 0 * 10 + n ≡ n = omega arith in subst (λ (m : ℕ). number_from 10 0 ((48 + n) ∷ []) ≡ Some m) same (one_digit 0 n small (omega arith));
}

first_append : (xs ys : List ℕ) → 0 < length xs → get_or (xs ++ ys) 0 0 ≡ get_or xs 0 0
first_append [] ys some = absurd (omega (arith, some))
first_append (x ∷ xs) ys some = refl

more_spells : (n : ℕ) (ds : List ℕ) → 10 ≤ n → Spells (n / 10) ds → Spells n (ds ++ ((48 + n % 10) ∷ []))
more_spells n ds large before = record {
  plain = all_append is_plain ds ((48 + n % 10) ∷ []) before.plain (make_both (is_plain (48 + n % 10)) true (digit_plain (n % 10) (omega arith)) refl);
  some = omega (arith, length-append ds ((48 + n % 10) ∷ []), before.some);
  first = rw (first_append ds ((48 + n % 10) ∷ []) before.some) before.first;
  number = λ fits.
      let whole : n / 10 * 10 + n % 10 ≡ n = omega arith in
      let last : number_from 10 (n / 10) ((48 + n % 10) ∷ []) ≡ Some n = subst (λ (m : ℕ). number_from 10 (n / 10) ((48 + n % 10) ∷ []) ≡ Some m) whole (one_digit (n / 10) (n % 10) (omega arith) (omega arith)) in
      number_append 10 0 ds ((48 + n % 10) ∷ []) ∙ rw (before.number (omega arith)) last;
}

pub decimal_spells : (n : ℕ) → n < 2 ^ 64 → Spells n (decimal n)
decimal_spells n fits = decimal_by_steps Spells one_spells more_spells n fits

-- the text of a word: plain bytes that are the value
pub record SpellsWord (word : ℕ) (text : List ℕ) : Type 0 where
  pub plain : list_all is_plain text ≡ true
  pub some : 0 < length text
  pub value : value_of text ≡ Some word

above_is_not : (a b : ℕ) → b < a → (a == b) ≡ false
above_is_not a b above = grind (arith, nat_tests)

number_spelled : (n : ℕ) (ds : List ℕ) → Spells n ds → n < 2 ^ 32 → 48 < get_or ds 0 0 → number_of ds ≡ Some n
number_spelled n [] spelled fits above = absurd (omega (arith, spelled.some))
number_spelled n (c ∷ cs) spelled fits above = rw (above_is_not c 48 above) (spelled.number fits)

value_spelled : (n : ℕ) (ds : List ℕ) → Spells n ds → number_of ds ≡ Some n → value_of ds ≡ Some n
value_spelled n [] spelled is = absurd (omega (arith, spelled.some))
value_spelled n (c ∷ cs) spelled is = rw spelled.first is

number_is : (n : ℕ) → n < 2 ^ 32 → number_of (decimal n) ≡ Some n
number_is zero fits = rw (decimal_digit 0 (omega arith)) refl
number_is (suc n) fits = number_spelled (suc n) (decimal (suc n)) (decimal_spells (suc n) (omega arith)) fits (first_decimal (suc n) (omega arith) (omega arith))

low_word : (n : ℕ) → n < 2 ^ 31 → SpellsWord n (value_text n)
low_word n low =
    let spelled = decimal_spells n (omega arith) in
    let here : SpellsWord n (decimal n) = record { plain = spelled.plain; some = spelled.some; value = value_spelled n (decimal n) spelled (number_is n (omega arith)) } in
    subst (λ (z : ℤ). SpellsWord n (signed_decimal z)) (sym (to_z_pos w32 n low)) here

negative_is : (k : ℕ) → k < 2 ^ 31 → negative_of (Some (suc k)) ≡ Some (2 ^ 32 - suc k)
negative_is k low =
    let within : nat_le (suc k) (2 ^ 31) ≡ true = grind (arith, nat_tests) in
    let same : (2 ^ 32 - suc k) % 2 ^ 32 ≡ 2 ^ 32 - suc k = omega arith in
    rw (within, same) refl

high_word : (k : ℕ) → k < 2 ^ 31 → SpellsWord (2 ^ 32 - suc k) (value_text (2 ^ 32 - suc k))
high_word k low =
    let spelled = decimal_spells (suc k) (omega arith) in
    let here : SpellsWord (2 ^ 32 - suc k) (45 ∷ decimal (suc k)) = record { plain = spelled.plain; some = omega (arith, spelled.some); value = ap negative_of (number_is (suc k) (omega arith)) ∙ negative_is k low } in
    subst (λ (z : ℤ). SpellsWord (2 ^ 32 - suc k) (signed_decimal z)) (sym (to_z-neg w32 k low)) here

-- each word is read as it was written
pub word_spells : (word : ℕ) → word < 2 ^ 32 → SpellsWord word (value_text word)
word_spells word fits = elim (cases_lt word (2 ^ 31)) [
  | inl low ↦ low_word word low
  | inr high ↦
      let same : 2 ^ 32 - suc (2 ^ 32 - 1 - word) ≡ word = omega arith in
      subst (λ (w : ℕ). SpellsWord w (value_text w)) same (high_word (2 ^ 32 - 1 - word) (omega arith))
]
