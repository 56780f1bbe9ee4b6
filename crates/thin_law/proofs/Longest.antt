-- How long the longest spelling in front of some bytes of a thin source is.
use Rattle.std.proofs.Common.{◌≡◌, ℕ, zero, suc, ◌+◌, ◌<◌, ◌≤◌, ◌==◌, ◌&&◌, Bool, true, false, cond, [], ◌∷◌, ◌++◌, length, take, drop, take-append-drop, refl, sym, ap, subst, arith}
use Rattle.std.specs.Prelude.{if◌then◌else◌}
use Rattle.std.proofs.Math.ListN.{length-take}
use Rattle.std.specs.Char.{is_ascii_digit}
use Rattle.std.specs.List.{list_all, prefix_len}
use Rattle.std.specs.Str.{bytes_eq}
use Rattle.std.proofs.lemmas.Slice.Eq.{bytes_eq-Decides}
use Rattle.std.proofs.lemmas.List.Sums.{prefix_len-le-length}
use Rattle.xmt_base.specs.Name.{is_name_start, is_name_part}
use Rattle.thin_source.specs.Tokens.{Text, text_rest, is_mark, is_empty, is_spelling, IsLongest}

-- 0 where none stands there
abbrev pub longest : Text → ℕ
longest [] = 0
longest (b ∷ bs) =
    if is_name_start b then suc (prefix_len is_name_part bs)
    else (if b == 48 then 1
    else (if is_ascii_digit b then suc (prefix_len is_ascii_digit bs)
    else (if b == 34 then (if bytes_eq (take 5 bs) text_rest then 6 else 0)
    else (if is_mark b then 1 else 0))))

-- ---- runs

one_more : (n : ℕ) → 1 + n ≡ suc n
one_more n = omega arith

in_prefix : (t all : Bool) (m n : ℕ) → (all ≡ true → m ≤ n) → (t && all) ≡ true → suc m ≤ cond t (1 + n) 0
in_prefix true all m n less h = omega (arith, less h)
in_prefix false all m n less h = absurd (cc)

all_in_prefix : (p : ℕ → Bool) (v y : Text) → list_all p v ≡ true → length v ≤ prefix_len p (v ++ y)
all_in_prefix p [] y h = omega arith
all_in_prefix p (b ∷ bs) y h = in_prefix (p b) (list_all p bs) (length bs) (prefix_len p (bs ++ y)) (all_in_prefix p bs y) h

all_behind : (p : ℕ → Bool) (b n : ℕ) (bs : Text) (t : Bool) → p b ≡ t → list_all p (take n bs) ≡ true → list_all p (take (cond t (1 + n) 0) (b ∷ bs)) ≡ true
all_behind p b n bs true is h = rw (one_more n, is) h
all_behind p b n bs false is h = refl

prefix_all : (p : ℕ → Bool) (z : Text) → list_all p (take (prefix_len p z) z) ≡ true
prefix_all p [] = refl
prefix_all p (b ∷ bs) = all_behind p b (prefix_len p bs) bs (p b) refl (prefix_all p bs)

empty_length : (bs : Text) → is_empty bs ≡ true → length bs ≡ 0
empty_length [] h = refl
empty_length (b ∷ bs) h = absurd (cc)

-- ---- what is spelled fits into the longest

-- the tests of the first byte, and what spells behind it
abbrev spells : (start nought digit quote mark : Bool) → Text → Bool
spells start nought digit quote mark bs =
    cond start (list_all is_name_part bs) (cond nought (is_empty bs) (cond digit (list_all is_ascii_digit bs) (cond quote (bytes_eq bs text_rest) (mark && is_empty bs))))

abbrev size : (start nought digit quote mark : Bool) → Text → ℕ
size start nought digit quote mark bs =
    cond start (suc (prefix_len is_name_part bs)) (cond nought 1 (cond digit (suc (prefix_len is_ascii_digit bs)) (cond quote (cond (bytes_eq (take 5 bs) text_rest) 6 0) (cond mark 1 0))))

text_fits : (bs y : Text) → bs ≡ text_rest → suc (length bs) ≤ cond (bytes_eq (take 5 (bs ++ y)) text_rest) 6 0
text_fits bs y is = subst (λ (v : Text). suc (length v) ≤ cond (bytes_eq (take 5 (v ++ y)) text_rest) 6 0) (sym is) (omega arith)

fits : (start nought digit quote mark : Bool) (bs y : Text) → spells start nought digit quote mark bs ≡ true → suc (length bs) ≤ size start nought digit quote mark (bs ++ y)
fits true _ _ _ _ bs y h = omega (arith, all_in_prefix is_name_part bs y h)
fits false true _ _ _ bs y h = omega (arith, empty_length bs h)
fits false false true _ _ bs y h = omega (arith, all_in_prefix is_ascii_digit bs y h)
fits false false false true _ bs y h = text_fits bs y ((bytes_eq-Decides bs text_rest).0 h)
fits false false false false true bs y h = omega (arith, empty_length bs h)
fits false false false false false bs y h = absurd (cc)

spelled_fits : (v y : Text) → is_spelling v ≡ true → length v ≤ longest (v ++ y)
spelled_fits [] y h = omega arith
spelled_fits (b ∷ bs) y h = fits (is_name_start b) (b == 48) (is_ascii_digit b) (b == 34) (is_mark b) bs y h

-- ---- the longest is spelled

text_spelled : (t : Bool) (bs : Text) (n : ℕ) → bytes_eq (take 5 bs) text_rest ≡ t → cond t 6 0 ≡ suc n → bytes_eq (take n bs) text_rest ≡ true
text_spelled true bs n is h = let five : n ≡ 5 = omega arith in rw five is
text_spelled false bs n is h = absurd (omega arith)

empty_taken : (bs : Text) (n : ℕ) → n ≡ 0 → is_empty (take n bs) ≡ true
empty_taken bs zero h = refl
empty_taken bs (suc n) h = absurd (omega arith)

spelled : (start nought digit quote mark : Bool) (bs : Text) (n : ℕ) → size start nought digit quote mark bs ≡ suc n → spells start nought digit quote mark (take n bs) ≡ true
spelled true _ _ _ _ bs n h = let is : n ≡ prefix_len is_name_part bs = omega arith in rw is (prefix_all is_name_part bs)
spelled false true _ _ _ bs n h = empty_taken bs n (omega arith)
spelled false false true _ _ bs n h = let is : n ≡ prefix_len is_ascii_digit bs = omega arith in rw is (prefix_all is_ascii_digit bs)
spelled false false false true _ bs n h = text_spelled (bytes_eq (take 5 bs) text_rest) bs n refl h
spelled false false false false true bs n h = empty_taken bs n (omega arith)
spelled false false false false false bs n h = absurd (omega arith)

front_spelled : (z : Text) (n : ℕ) → longest z ≡ suc n → is_spelling (take (suc n) z) ≡ true
front_spelled [] n h = absurd (omega arith)
front_spelled (b ∷ bs) n h = spelled (is_name_start b) (b == 48) (is_ascii_digit b) (b == 34) (is_mark b) bs n h

text_within : (t : Bool) (bs : Text) → bytes_eq (take 5 bs) text_rest ≡ t → cond t 6 0 ≤ suc (length bs)
text_within true bs is =
    let five : length (take 5 bs) ≡ 5 = ap length ((bytes_eq-Decides (take 5 bs) text_rest).0 is) in
    omega (arith, five, length-take 5 bs)
text_within false bs is = omega arith

within : (start nought digit quote mark : Bool) (bs : Text) → size start nought digit quote mark bs ≤ suc (length bs)
within true _ _ _ _ bs = omega (arith, prefix_len-le-length is_name_part bs)
within false true _ _ _ bs = omega arith
within false false true _ _ bs = omega (arith, prefix_len-le-length is_ascii_digit bs)
within false false false true _ bs = text_within (bytes_eq (take 5 bs) text_rest) bs refl
within false false false false true bs = omega arith
within false false false false false bs = omega arith

longest_within : (z : Text) → longest z ≤ length z
longest_within [] = omega arith
longest_within (b ∷ bs) = within (is_name_start b) (b == 48) (is_ascii_digit b) (b == 34) (is_mark b) bs

some_spelled : (z : Text) (n : ℕ) → longest z ≡ n → 0 < n → is_spelling (take n z) ≡ true
some_spelled z zero is some = absurd (omega (arith, some))
some_spelled z (suc n) is some = front_spelled z n is

has_byte : (w : Text) → is_spelling w ≡ true → 0 < length w
has_byte [] h = absurd (cc)
has_byte (b ∷ bs) h = omega arith

-- a longest spelling is as long as the longest
pub longest_of : (w z : Text) → IsLongest w z → longest (w ++ z) ≡ length w
longest_of w z (is, no_longer) =
    let n = longest (w ++ z) in
    let at_least : length w ≤ longest (w ++ z) = spelled_fits w z is in
    let front : is_spelling (take n (w ++ z)) ≡ true = some_spelled (w ++ z) n refl (omega (arith, at_least, has_byte w is)) in
    let at_most : length (take n (w ++ z)) ≤ length w = no_longer (take n (w ++ z)) (drop n (w ++ z)) (take-append-drop n (w ++ z)) front in
    omega (arith, at_least, at_most, length-take n (w ++ z), longest_within (w ++ z))
