-- Facts on lists of words.
use Rattle.std.proofs.Common.{◌≡◌, ℕ, ◌+◌, ◌<◌, List, [], ◌∷◌, length, take, drop, get_or, Some, None, refl, sym, ◌∙◌, ap, drop-cons, add-one, arith, ◌≢◌, ◌==◌, false, nat_lt, Option, Bor, MatchOption}
use Rattle.std.proofs.lemmas.Bool.{false_from_ne_true}
use Rattle.std.proofs.lemmas.Bool.Decides.{nat_tests}
use Rattle.std.proofs.Math.Seq.{take-length}
use Rattle.std.specs.Option.{option_map}
use Rattle.std.specs.List.{position_or_len}
use Rattle.xmt_cli.specs.Given.{Walk, walk, take_next, hyphen_text, front_of, behind}

-- a word that is taken
pub walk_step : (s next : Walk) (words : List (List ℕ)) (k : ℕ) → k < length words → take_next s (get_or words k []) ≡ Some next → walk s (drop k words) ≡ walk next (drop (k + 1) words)
walk_step s next words k here is = rw (drop-cons words k [] here, is, add-one k) refl

-- and one that isn't
pub walk_stop : (s : Walk) (words : List (List ℕ)) (k : ℕ) → k < length words → take_next s (get_or words k []) ≡ None → walk s (drop k words) ≡ None
walk_stop s words k here is = rw (drop-cons words k [] here, is) refl

-- what stands behind a hyphen, as `strip_prefix` says it
pub strip_is : (text : List ℕ) (r : Option (Bor (List ℕ))) → MatchOption r ((rest : List ℕ) → text ≢ 45 ∷ rest) (λ x. text ≡ 45 ∷ x.now) → option_map (λ t. t.now) r ≡ hyphen_text text
strip_is [] None none = refl
strip_is (c ∷ cs) None none =
    let other : (c == 45) ≡ false = false_from_ne_true (c == 45) (λ same. let equal : c ≡ 45 = grind (arith, nat_tests) in none cs (ap (λ (d : ℕ). d ∷ cs) equal)) in
    rw other refl
strip_is text (Some x) is = rw is refl

pub no_value : (text : List ℕ) → position_or_len (λ b. b == 61) text ≡ length text → behind text ≡ None
no_value text all =
    let out : nat_lt (position_or_len (λ b. b == 61) text) (length text) ≡ false = grind (arith, nat_tests) in
    rw out refl

pub whole_front : (text : List ℕ) → position_or_len (λ b. b == 61) text ≡ length text → text ≡ front_of text
whole_front text all = sym (ap (λ (n : ℕ). take n text) all ∙ take-length text)
