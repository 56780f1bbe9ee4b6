-- What the lexer reads of a hash line is what its two forms say.
use Rattle.std.proofs.Common.{◌≡◌, ℕ, zero, suc, ◌+◌, ◌≤◌, ◌<◌, ◌^◌, ◌==◌, ◌&&◌, ◌||◌, not, nat_lt, Bool, true, false, cond, [], ◌∷◌, ◌++◌, length, length-append, append_assoc, take, drop, take-append-drop, slice_index, Option, Some, None, codes, refl, sym, ap, ◌∙◌, subst, arith}
use Rattle.std.proofs.lemmas.Bool.Decides.{nat_tests}
use Rattle.std.proofs.Math.Seq.{take-append_seam, drop-append_seam}
use Rattle.std.specs.Char.{digit_value}
use Rattle.std.specs.List.{list_all, prefix_len}
use Rattle.std.proofs.lemmas.List.Folds.{length-prefix_len}
use Rattle.std.specs.Str.{bytes_eq}
use Rattle.std.specs.Str.Parse.{AllDigits}
use Rattle.std.proofs.lemmas.Slice.Eq.{bytes_eq-Decides}
use Rattle.xmt_base.specs.Name.{is_name, is_word, is_keyword, is_name_start, is_name_part}
use Rattle.xmt_lex.specs.declared.scan.Class.{Class}
use Rattle.xmt_lex.specs.declared.scan.Class.TheVariants as class
use Rattle.xmt_lex.specs.Lex as lex
use Rattle.xmt_lex.specs.Lex.{Text, is_in, run, ends_line, spaced, past_word, Said, included, negated, defined_as, stands_for, defining, directed, hash_line, number_of}
use Rattle.token_law.specs.Spelling.{IsNumber}
use Rattle.token_law.specs.Spelling as spelling
use Rattle.token_law.specs.HashLine.{AreSpaces, EndsHash, signed, IsHashLine, include, define}
use Rattle.token_law.specs.HashLine as hash
use Rattle.token_law.proofs.Bytes.{same_byte, other_byte, both, word_byte, start_is_word, run_on, run_over, run_all}
use Rattle.token_law.proofs.Numbers.{numbers_read, numbers_found}
use Rattle.token_law.proofs.HashEnds.{ends_read, ends_found}

-- ---- runs

no_run : (c : Class) (b : ℕ) (z : Text) → is_in c b ≡ false → run c (b ∷ z) ≡ 0
no_run c b z h = ap (λ (t : Bool). cond t (1 + run c z) 0) h

taken_run : (c : Class) (w z : Text) → list_all (is_in c) w ≡ true → run c z ≡ 0 → take (run c (w ++ z)) (w ++ z) ≡ w
taken_run c w z all ends = ap (λ (n : ℕ). take n (w ++ z)) (run_over (is_in c) w z all ends) ∙ take-append_seam w z

past_run : (c : Class) (w z : Text) → list_all (is_in c) w ≡ true → run c z ≡ 0 → drop (run c (w ++ z)) (w ++ z) ≡ z
past_run c w z all ends = ap (λ (n : ℕ). drop n (w ++ z)) (run_over (is_in c) w z all ends) ∙ drop-append_seam w z

space_no_word : (b : ℕ) → is_in class.Space b ≡ true → is_in class.Word b ≡ false
space_no_word b h = grind (arith, nat_tests)

word_no_space : (b : ℕ) → is_in class.Word b ≡ true → is_in class.Space b ≡ false
word_no_space b h = grind (arith, nat_tests)

-- no word goes on behind spaces
behind_spaces : (a z : Text) → AreSpaces a → run class.Word z ≡ 0 → run class.Word (a ++ z) ≡ 0
behind_spaces [] z all ends = ends
behind_spaces (b ∷ a) z all ends = no_run class.Word b (a ++ z) (space_no_word b ((both (is_in class.Space b) (list_all (is_in class.Space) a) all).0))

some_spaces : (a z : Text) → AreSpaces a → 0 < length a → run class.Word (a ++ z) ≡ 0
some_spaces [] z all some = absurd (omega (arith, some))
some_spaces (b ∷ a) z all some = no_run class.Word b (a ++ z) (space_no_word b ((both (is_in class.Space b) (list_all (is_in class.Space) a) all).0))

ends_word : {returned : Bool} {z : Text} → EndsHash returned z → run class.Word z ≡ 0
ends_word hash.end = refl
ends_word (hash.space b {z = z} h rest) = no_run class.Word b z (space_no_word b h)
ends_word (hash.carriage_return rest) = refl
ends_word (hash.line_comment z) = refl
ends_word (hash.comment w none rest) = refl

-- ---- names and numbers

name_parts : (w : Text) → list_all is_name_part w ≡ true → list_all (is_in class.Word) w ≡ true
name_parts [] h = refl
name_parts (b ∷ w) h =
    let parts = both (is_name_part b) (list_all is_name_part w) h in
    let first : is_in class.Word b ≡ true = word_byte b ∙ parts.0 in
    rw first (name_parts w parts.1)

-- a name is not empty, and a run of letters, digits and `_`
record IsRun (w : Text) : Type 0 where
  all : list_all (is_in class.Word) w ≡ true
  first : is_in class.Word (slice_index w 0) ≡ true
  some : 0 < length w

name_run : (n : Text) → is_name n ≡ true → IsRun n
name_run [] h = absurd (let wrong : false ≡ true = h in cc)
name_run (b ∷ n) h =
    let spelled = both (is_word (b ∷ n)) (not (is_keyword (b ∷ n))) h in
    let parts = both (is_name_start b) (list_all is_name_part n) spelled.0 in
    let start = start_is_word b parts.0 in
    record { all = rw start (name_parts n parts.1); first = start; some = omega arith }

digit_word : (b base : ℕ) → base ≤ 16 → digit_value b < base → is_in class.Word b ≡ true
digit_word b base few h = grind (arith, nat_tests)

digits_run : (base : ℕ) → base ≤ 16 → (w : Text) → AllDigits base w → list_all (is_in class.Word) w ≡ true
digits_run base few [] all = refl
digits_run base few (b ∷ w) all = let first = digit_word b base few all.0 in rw first (digits_run base few w all.1)

number_run : {w : Text} {v : ℕ} → IsNumber w v → IsRun w
number_run spelling.zero = record { all = refl; first = refl; some = omega arith }
number_run (spelling.decimal b w other all) = record { all = digits_run 10 (omega arith) (b ∷ w) all; first = digit_word b 10 (omega arith) all.0; some = omega arith }
number_run (spelling.hexadecimal x b w mark all) = record { all = marked (x == 120) (x == 88) refl refl mark (digits_run 16 (omega arith) (b ∷ w) all); first = refl; some = omega arith }
  where
    marked : (s t : Bool) → (x == 120) ≡ s → (x == 88) ≡ t → (s || t) ≡ true → list_all (is_in class.Word) (b ∷ w) ≡ true → list_all (is_in class.Word) (48 ∷ x ∷ b ∷ w) ≡ true
    marked true t is _ h rest = let same = same_byte x 120 is in subst (λ (c : ℕ). list_all (is_in class.Word) (48 ∷ c ∷ b ∷ w) ≡ true) (sym same) rest
    marked false true _ is h rest = let same = same_byte x 88 is in subst (λ (c : ℕ). list_all (is_in class.Word) (48 ∷ c ∷ b ∷ w) ≡ true) (sym same) rest
    marked false false _ _ h rest = absurd (cc)

first_run : (w z : Text) → IsRun w → is_in class.Word (slice_index (w ++ z) 0) ≡ true
first_run [] z is = absurd (omega (arith, is.some))
first_run (b ∷ w) z is = is.first

no_space_first : (z : Text) → is_in class.Word (slice_index z 0) ≡ true → run class.Space z ≡ 0
no_space_first [] h = refl
no_space_first (b ∷ z) h = no_run class.Space b z (word_no_space b h)

-- ---- the two forms are read

abbrev behind_header : ℕ → Text → Bool
behind_header n y = nat_lt 0 n && slice_index (drop (1 + n) y) 0 == 62 && ends_line zero false (drop (2 + n) y)

abbrev with_header : ℕ → Text → Option Said
with_header n y = cond (behind_header n y) (Some None) None

some_header : (n : ℕ) → 0 < n → nat_lt 0 n ≡ true
some_header n h = grind (arith, nat_tests)

headers_read : (h z : Text) → 0 < length h → list_all (is_in class.Header) h ≡ true → EndsHash false z → included (60 ∷ (h ++ 62 ∷ z)) ≡ Some None
headers_read h z some all ends =
    let long : run class.Header (h ++ 62 ∷ z) ≡ length h = run_over (is_in class.Header) h (62 ∷ z) all refl in
    let one : 1 + length h ≡ length (60 ∷ h) = omega arith in
    let two : 2 + length h ≡ length (60 ∷ (h ++ 62 ∷ [])) = omega (arith, length-append h (62 ∷ [])) in
    let cut : 60 ∷ (h ++ 62 ∷ z) ≡ (60 ∷ (h ++ 62 ∷ [])) ++ z = ap (λ (v : Text). 60 ∷ v) (sym (append_assoc h (62 ∷ []) z)) in
    let first : drop (1 + length h) (60 ∷ (h ++ 62 ∷ z)) ≡ 62 ∷ z = ap (λ (n : ℕ). drop n (60 ∷ (h ++ 62 ∷ z))) one ∙ drop-append_seam (60 ∷ h) (62 ∷ z) in
    let rest : drop (2 + length h) (60 ∷ (h ++ 62 ∷ z)) ≡ z = ap (λ (n : ℕ). drop n (60 ∷ (h ++ 62 ∷ z))) two ∙ ap (drop (length (60 ∷ (h ++ 62 ∷ [])))) cut ∙ drop-append_seam (60 ∷ (h ++ 62 ∷ [])) z in
    ap (λ (n : ℕ). with_header n (60 ∷ (h ++ 62 ∷ z))) long
    ∙ ap (λ (t : Bool). cond (t && slice_index (drop (1 + length h) (60 ∷ (h ++ 62 ∷ z))) 0 == 62 && ends_line zero false (drop (2 + length h) (60 ∷ (h ++ 62 ∷ z)))) (Some None) None) (some_header (length h) some)
    ∙ ap (λ (v : Text). cond (slice_index v 0 == 62 && ends_line zero false (drop (2 + length h) (60 ∷ (h ++ 62 ∷ z)))) (Some None) None) first
    ∙ ap (λ (v : Text). cond (ends_line zero false v) (Some None) None) rest
    ∙ ap (λ (t : Bool). cond t (Some None) None) (ends_read ends)

-- a line by its first word
worded : (a w z : Text) → AreSpaces a → list_all (is_in class.Word) w ≡ true → run class.Space (w ++ z) ≡ 0 → run class.Word z ≡ 0 → hash_line (35 ∷ (a ++ (w ++ z))) ≡ directed w z
unfolding hash_line
worded a w z spaces all first ends =
    ap (λ (v : Text). directed (lex.word v) (past_word v)) (past_run class.Space a (w ++ z) spaces first)
    ∙ ap (λ (v : Text). directed v (past_word (w ++ z))) (taken_run class.Word w z all ends)
    ∙ ap (directed w) (past_run class.Word w z all ends)

include_read : (a b h z : Text) → AreSpaces a → AreSpaces b → 0 < length h → list_all (is_in class.Header) h ≡ true → EndsHash false z → hash_line (35 ∷ (a ++ (codes "include" ++ (b ++ 60 ∷ (h ++ 62 ∷ z))))) ≡ Some None
include_read a b h z left right some all ends =
    worded a (codes "include") (b ++ 60 ∷ (h ++ 62 ∷ z)) left refl refl (behind_spaces b (60 ∷ (h ++ 62 ∷ z)) right refl)
    ∙ ap included (past_run class.Space b (60 ∷ (h ++ 62 ∷ z)) right refl)
    ∙ headers_read h z some all ends

abbrev by_sign : Text → Text → Bool → Option Said
by_sign n y minus = defined_as n minus (past_word (cond minus (drop 1 y) y)) (number_of (lex.word (cond minus (drop 1 y) y)))

signs_read : (n w z : Text) (minus : Bool) → IsRun w → stands_for n (signed minus (w ++ z)) ≡ defined_as n minus (past_word (w ++ z)) (number_of (lex.word (w ++ z)))
signs_read n w z true is = refl
signs_read n w z false is = ap (by_sign n (w ++ z)) (other_byte 45 (slice_index (w ++ z) 0) (is_in class.Word) refl (first_run w z is))

value_read : (n w z : Text) (minus : Bool) (v : ℕ) → IsNumber w v → v < 2 ^ 32 → EndsHash false z → stands_for n (signed minus (w ++ z)) ≡ Some (Some (n, negated minus v))
value_read n w z minus v number small ends =
    let is = number_run number in
    signs_read n w z minus is
    ∙ ap (λ (u : Text). defined_as n minus u (number_of (lex.word (w ++ z)))) (past_run class.Word w z is.all (ends_word ends))
    ∙ ap (λ (u : Text). defined_as n minus z (number_of u)) (taken_run class.Word w z is.all (ends_word ends))
    ∙ ap (defined_as n minus z) (numbers_read w v number small)
    ∙ ap (λ (t : Bool). cond t (Some (Some (n, negated minus v))) None) (ends_read ends)

-- no word and no space goes on behind the name
sign_first : (minus : Bool) (w z : Text) → IsRun w → run class.Space (signed minus (w ++ z)) ≡ 0
sign_first true w z is = refl
sign_first false w z is = no_space_first (w ++ z) (first_run w z is)

name_ends : (minus : Bool) (c w z : Text) → AreSpaces c → (minus ≡ false → 0 < length c) → run class.Word (c ++ signed minus (w ++ z)) ≡ 0
name_ends true c w z all some = behind_spaces c (45 ∷ (w ++ z)) all refl
name_ends false c w z all some = some_spaces c (w ++ z) all (some refl)

defining_read : (n t : Text) → is_name n ≡ true → run class.Word t ≡ 0 → defining (n ++ t) ≡ stands_for n (spaced t)
defining_read n t named ends =
    let is = name_run n named in
    ap (λ (v : Text). cond (is_name v) (stands_for v (spaced (past_word (n ++ t)))) None) (taken_run class.Word n t is.all ends)
    ∙ ap (λ (v : Text). cond (is_name n) (stands_for n (spaced v)) None) (past_run class.Word n t is.all ends)
    ∙ ap (λ (b : Bool). cond b (stands_for n (spaced t)) None) named

define_read : (a b n c w z : Text) (minus : Bool) (v : ℕ) → AreSpaces a → AreSpaces b → 0 < length b → is_name n ≡ true → AreSpaces c → (minus ≡ false → 0 < length c) → IsNumber w v → v < 2 ^ 32 → EndsHash false z →
    hash_line (35 ∷ (a ++ (codes "define" ++ (b ++ (n ++ (c ++ signed minus (w ++ z))))))) ≡ Some (Some (n, negated minus v))
define_read a b n c w z minus v left right some named behind needed number small ends =
    let is = number_run number in
    let t = c ++ signed minus (w ++ z) in
    worded a (codes "define") (b ++ (n ++ (c ++ signed minus (w ++ z)))) left refl refl (some_spaces b (n ++ (c ++ signed minus (w ++ z))) right some)
    ∙ ap defining (past_run class.Space b (n ++ (c ++ signed minus (w ++ z))) right (no_space_first (n ++ (c ++ signed minus (w ++ z))) (first_run n (c ++ signed minus (w ++ z)) (name_run n named))))
    ∙ defining_read n (c ++ signed minus (w ++ z)) named (name_ends minus c w z behind needed)
    ∙ ap (stands_for n) (past_run class.Space c (signed minus (w ++ z)) behind (sign_first minus w z is))
    ∙ value_read n w z minus v number small ends

pub lines_read : {z : Text} {said : Said} → IsHashLine z said → hash_line z ≡ Some said
lines_read (include a b h z left right some all ends) = include_read a b h z left right some all ends
lines_read (define a b n c w z minus v left right some named behind needed number small ends) = define_read a b n c w z minus v left right some named behind needed number small ends

-- ---- what is read has one of the two forms

stops_at : (p : ℕ → Bool) (z : Text) → prefix_len p (drop (prefix_len p z) z) ≡ 0
stops_at p [] = refl
stops_at p (b ∷ z) = by (p b) refl (stops_at p z)
  where
    by : (t : Bool) → p b ≡ t → prefix_len p (drop (prefix_len p z) z) ≡ 0 → prefix_len p (drop (prefix_len p (b ∷ z)) (b ∷ z)) ≡ 0
    by true is rest =
        let more : 1 + prefix_len p z ≡ suc (prefix_len p z) = omega arith in
        ap (λ (t : Bool). prefix_len p (drop (cond t (1 + prefix_len p z) 0) (b ∷ z))) is ∙ ap (λ (n : ℕ). prefix_len p (drop n (b ∷ z))) more ∙ rest
    by false is rest = ap (λ (t : Bool). prefix_len p (drop (cond t (1 + prefix_len p z) 0) (b ∷ z))) is ∙ ap (λ (t : Bool). cond t (1 + prefix_len p z) 0) is

parted : (c : Class) (z : Text) → z ≡ take (run c z) z ++ drop (run c z) z
parted c z = sym (take-append-drop (run c z) z)

byte_there : (c : ℕ) (z : Text) → (slice_index z 0 == c) ≡ true → (0 == c) ≡ false → (y : Text) × (z ≡ c ∷ y)
byte_there c [] h other = absurd (let wrong : true ≡ false = sym h ∙ other in cc)
byte_there c (b ∷ z) h other = (z, ap (λ (d : ℕ). d ∷ z) (same_byte b c h))

drop_next : (n : ℕ) (z : Text) → drop (suc n) z ≡ drop 1 (drop n z)
drop_next zero z = refl
drop_next (suc n) [] = refl
drop_next (suc n) (b ∷ z) = drop_next n z

none_left : (n : ℕ) → nat_lt 0 n ≡ true → 0 < n
none_left n h = grind (arith, nat_tests)

chosen : {A : Type 0} (t : Bool) (a : A) (b : A) → cond t (Some a) None ≡ Some b → (t ≡ true) × (a ≡ b)
chosen true a b h = (refl, cc)
chosen false a b h = absurd (cc)

-- ---- `include`

record IsHeader (y : Text) (said : Said) : Type 0 where
  name : Text
  rest : Text
  is : y ≡ 60 ∷ (name ++ 62 ∷ rest)
  some : 0 < length name
  all : list_all (is_in class.Header) name ≡ true
  ends : EndsHash false rest
  nothing : None ≡ said

length_of_run : (c : Class) (z : Text) → length (take (run c z) z) ≡ run c z
length_of_run c z = length-prefix_len (is_in c) z

header_found : (y : Text) (said : Said) → included y ≡ Some said → IsHeader y said
header_found y said found = by (byte_there 60 y first.0 refl)
  where
    test : (((slice_index y 0 == 60 && nat_lt 0 (run class.Header (drop 1 y))) && slice_index (drop (1 + run class.Header (drop 1 y)) y) 0 == 62 && ends_line zero false (drop (2 + run class.Header (drop 1 y)) y)) ≡ true) × (None ≡ said)
    test = chosen _ None said found

    outer : ((slice_index y 0 == 60 && nat_lt 0 (run class.Header (drop 1 y)) && slice_index (drop (1 + run class.Header (drop 1 y)) y) 0 == 62) ≡ true) × (ends_line zero false (drop (2 + run class.Header (drop 1 y)) y) ≡ true)
    outer = both _ _ test.0

    inner : ((slice_index y 0 == 60 && nat_lt 0 (run class.Header (drop 1 y))) ≡ true) × ((slice_index (drop (1 + run class.Header (drop 1 y)) y) 0 == 62) ≡ true)
    inner = both _ _ outer.0

    first : ((slice_index y 0 == 60) ≡ true) × (nat_lt 0 (run class.Header (drop 1 y)) ≡ true)
    first = both _ _ inner.0

    by : (u : Text) × (y ≡ 60 ∷ u) → IsHeader y said
    by (u, is) =
        let long : run class.Header (drop 1 y) ≡ run class.Header u = ap (λ (v : Text). run class.Header (drop 1 v)) is in
        let one : 1 + run class.Header (drop 1 y) ≡ suc (run class.Header u) = omega (arith, long) in
        let two : 2 + run class.Header (drop 1 y) ≡ suc (suc (run class.Header u)) = omega (arith, long) in
        let next : drop (1 + run class.Header (drop 1 y)) y ≡ drop (run class.Header u) u = ap (λ (n : ℕ). drop n y) one ∙ ap (drop (suc (run class.Header u))) is in
        let closing = byte_there 62 (drop (run class.Header u) u) (ap (λ (v : Text). slice_index v 0 == 62) (sym next) ∙ inner.1) refl in
        let last : drop (2 + run class.Header (drop 1 y)) y ≡ closing.0 = ap (λ (n : ℕ). drop n y) two ∙ ap (drop (suc (suc (run class.Header u)))) is ∙ drop_next (run class.Header u) u ∙ ap (drop 1) closing.1 in
        record {
          name = take (run class.Header u) u;
          rest = closing.0;
          is = is ∙ ap (λ (v : Text). 60 ∷ v) (parted class.Header u ∙ ap (λ (v : Text). take (run class.Header u) u ++ v) closing.1);
          some = omega (arith, none_left (run class.Header (drop 1 y)) first.1, long, length_of_run class.Header u);
          all = run_all (is_in class.Header) u;
          ends = ends_found closing.0 (ap (ends_line zero false) (sym last) ∙ outer.1);
          nothing = test.1;
        }

-- ---- `define`

no_run_left : (c : Class) (z : Text) → run c z ≡ 0 → take (run c z) z ≡ []
no_run_left c z none = ap (λ (n : ℕ). take n z) none

-- a number with its sign, and what stands behind it
record IsSigned (n x : Text) (said : Said) : Type 0 where
  minus : Bool
  digits : Text
  rest : Text
  v : ℕ
  is : x ≡ signed minus (digits ++ rest)
  number : IsNumber digits v
  small : v < 2 ^ 32
  ends : EndsHash false rest
  stands : Some (n, negated minus v) ≡ said

value_found : (n u : Text) (minus : Bool) (said : Said) → defined_as n minus (past_word u) (number_of (lex.word u)) ≡ Some said → IsSigned n (signed minus u) said
value_found n u minus said found = by (number_of (lex.word u)) refl found
  where
    by : (o : Option ℕ) → number_of (lex.word u) ≡ o → defined_as n minus (past_word u) o ≡ Some said → IsSigned n (signed minus u) said
    by None is h = absurd (cc)
    by (Some v) is h =
        let test = chosen (ends_line zero false (past_word u)) (Some (n, negated minus v)) said h in
        let value = numbers_found (lex.word u) v is in
        record {
          minus = minus;
          digits = lex.word u;
          rest = past_word u;
          v = v;
          is = ap (signed minus) (parted class.Word u);
          number = value.number;
          small = value.small;
          ends = ends_found (past_word u) test.0;
          stands = test.1;
        }

sign_found : (n x : Text) (said : Said) → stands_for n x ≡ Some said → IsSigned n x said
sign_found n x said found = by (slice_index x 0 == 45) refl found
  where
    by : (t : Bool) → (slice_index x 0 == 45) ≡ t → by_sign n x (slice_index x 0 == 45) ≡ Some said → IsSigned n x said
    by true is h =
        let front = byte_there 45 x is refl in
        let read : by_sign n (45 ∷ front.0) true ≡ Some said = ap (λ (v : Text). by_sign n v true) (sym front.1) ∙ ap (by_sign n x) (sym is) ∙ h in
        subst (λ (v : Text). IsSigned n v said) (sym front.1) (value_found n front.0 true said read)
    by false is h = value_found n x false said (ap (by_sign n x) (sym is) ∙ h)

record IsDefinition (y : Text) (said : Said) : Type 0 where
  name : Text
  spaces : Text
  rest : Text
  is : y ≡ name ++ (spaces ++ rest)
  named : is_name name ≡ true
  between : AreSpaces spaces
  ends : run class.Word (spaces ++ rest) ≡ 0
  value : IsSigned name rest said

definition_found : (y : Text) (said : Said) → defining y ≡ Some said → IsDefinition y said
definition_found y said found = by (is_name (lex.word y)) refl found
  where
    by : (t : Bool) → is_name (lex.word y) ≡ t → cond (is_name (lex.word y)) (stands_for (lex.word y) (spaced (past_word y))) None ≡ Some said → IsDefinition y said
    by true is h =
        let cut : past_word y ≡ take (run class.Space (past_word y)) (past_word y) ++ spaced (past_word y) = parted class.Space (past_word y) in
        let read : stands_for (lex.word y) (spaced (past_word y)) ≡ Some said = ap (λ (t : Bool). cond t (stands_for (lex.word y) (spaced (past_word y))) None) (sym is) ∙ h in
        record {
          name = lex.word y;
          spaces = take (run class.Space (past_word y)) (past_word y);
          rest = spaced (past_word y);
          is = parted class.Word y ∙ ap (λ (v : Text). lex.word y ++ v) cut;
          named = is;
          between = run_all (is_in class.Space) (past_word y);
          ends = ap (run class.Word) (sym cut) ∙ stops_at (is_in class.Word) y;
          value = sign_found (lex.word y) (spaced (past_word y)) said read;
        }
    by false is h = let wrong : None ≡ Some said = ap (λ (t : Bool). cond t (stands_for (lex.word y) (spaced (past_word y))) None) (sym is) ∙ h in absurd (cc)

-- a run of word bytes does not begin where none goes on
not_both : (w z : Text) → IsRun w → run class.Word (w ++ z) ≡ 0 → ⊥
not_both [] z is none = omega (arith, is.some)
not_both (b ∷ w) z is none =
    let more : run class.Word (b ∷ (w ++ z)) ≡ suc (run class.Word (w ++ z)) = run_on (is_in class.Word) b (w ++ z) is.first in
    absurd (omega (arith, none, more))

space_needed : (minus : Bool) (c w z : Text) → IsRun w → run class.Word (c ++ signed minus (w ++ z)) ≡ 0 → minus ≡ false → 0 < length c
space_needed true c w z is ends h = absurd (cc)
space_needed false [] w z is ends h = absurd (not_both w z is ends)
space_needed false (b ∷ c) w z is ends h = omega arith

space_before : (b n t : Text) → IsRun n → run class.Word (b ++ (n ++ t)) ≡ 0 → 0 < length b
space_before [] n t is ends = absurd (not_both n t is ends)
space_before (b ∷ bs) n t is ends = omega arith

-- ---- the line

record IsWorded (y w z : Text) : Type 0 where
  front : Text
  is : y ≡ front ++ (w ++ z)
  spaces : AreSpaces front
  ends : run class.Word z ≡ 0

included_line : (y z : Text) (said : Said) → IsWorded y (codes "include") z → included (spaced z) ≡ Some said → IsHashLine (35 ∷ y) said
included_line y z said line found =
    let header = header_found (spaced z) said found in
    let whole : y ≡ line.front ++ (codes "include" ++ (take (run class.Space z) z ++ 60 ∷ (header.name ++ 62 ∷ header.rest))) =
    line.is ∙ ap (λ (v : Text). line.front ++ (codes "include" ++ v)) (parted class.Space z ∙ ap (λ (v : Text). take (run class.Space z) z ++ v) header.is) in
    subst (λ (v : Text). IsHashLine (35 ∷ v) said) (sym whole)
    (subst (IsHashLine (35 ∷ (line.front ++ (codes "include" ++ (take (run class.Space z) z ++ 60 ∷ (header.name ++ 62 ∷ header.rest)))))) header.nothing
    (include line.front (take (run class.Space z) z) header.name header.rest line.spaces (run_all (is_in class.Space) z) header.some header.all header.ends))

defined_line : (y z : Text) (said : Said) → IsWorded y (codes "define") z → defining (spaced z) ≡ Some said → IsHashLine (35 ∷ y) said
defined_line y z said line found =
    let b = take (run class.Space z) z in
    let d = definition_found (spaced z) said found in
    let s = d.value in
    let behind : spaced z ≡ d.name ++ (d.spaces ++ signed s.minus (s.digits ++ s.rest)) = d.is ∙ ap (λ (v : Text). d.name ++ (d.spaces ++ v)) s.is in
    let all : z ≡ take (run class.Space z) z ++ (d.name ++ (d.spaces ++ signed s.minus (s.digits ++ s.rest))) = parted class.Space z ∙ ap (λ (v : Text). take (run class.Space z) z ++ v) behind in
    let whole : y ≡ line.front ++ (codes "define" ++ (take (run class.Space z) z ++ (d.name ++ (d.spaces ++ signed s.minus (s.digits ++ s.rest))))) = line.is ∙ ap (λ (v : Text). line.front ++ (codes "define" ++ v)) all in
    subst (λ (v : Text). IsHashLine (35 ∷ v) said) (sym whole)
    (subst (IsHashLine (35 ∷ (line.front ++ (codes "define" ++ (take (run class.Space z) z ++ (d.name ++ (d.spaces ++ signed s.minus (s.digits ++ s.rest)))))))) s.stands
    (define line.front (take (run class.Space z) z) d.name d.spaces s.digits s.rest s.minus s.v line.spaces (run_all (is_in class.Space) z)
    (space_before (take (run class.Space z) z) d.name (d.spaces ++ signed s.minus (s.digits ++ s.rest)) (name_run d.name d.named) (ap (run class.Word) (sym all) ∙ line.ends)) d.named d.between
    (space_needed s.minus d.spaces s.digits s.rest (number_run s.number) (ap (λ (v : Text). run class.Word (d.spaces ++ v)) (sym s.is) ∙ d.ends)) s.number s.small s.ends))

directed_line : (y w z : Text) (said : Said) → IsWorded y w z → directed w z ≡ Some said → IsHashLine (35 ∷ y) said
directed_line y w z said line found = by (bytes_eq w (codes "include")) (bytes_eq w (codes "define")) refl refl found
  where
    by : (s t : Bool) → bytes_eq w (codes "include") ≡ s → bytes_eq w (codes "define") ≡ t → cond s (included (spaced z)) (cond t (defining (spaced z)) None) ≡ Some said → IsHashLine (35 ∷ y) said
    by true t is _ h = included_line y z said (subst (λ (v : Text). IsWorded y v z) ((bytes_eq-Decides w (codes "include")).0 is) line) h
    by false true _ is h = defined_line y z said (subst (λ (v : Text). IsWorded y v z) ((bytes_eq-Decides w (codes "define")).0 is) line) h
    by false false _ _ h = absurd (cc)

pub lines_found : (y : Text) (said : Said) → hash_line (35 ∷ y) ≡ Some said → IsHashLine (35 ∷ y) said
unfolding hash_line
lines_found y said found =
    directed_line y (lex.word (spaced y)) (past_word (spaced y)) said
    (record { front = take (run class.Space y) y; is = parted class.Space y ∙ ap (λ (v : Text). take (run class.Space y) y ++ v) (parted class.Word (spaced y)); spaces = run_all (is_in class.Space) y; ends = stops_at (is_in class.Word) (spaced y) })
    found
