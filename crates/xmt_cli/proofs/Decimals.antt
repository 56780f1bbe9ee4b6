-- Facts on numbers among the words.
use Rattle.std.proofs.Common.{rules, ◌≡◌, ℕ, ◌<◌, ◌^◌, ◌&&◌, Bool, true, false, List, [], ◌∷◌, length, Some, None, refl, arith, Result, Ok, Err, if◌then◌else◌, nat_le}
use Rattle.std.specs.Char.{is_ascii_digit}
use Rattle.std.specs.List.{list_all}
use Rattle.std.specs.Str.Parse.{digits_value, ParsesUnsigned}
use Rattle.std.proofs.lemmas.Bool.Decides.{nat_tests}
use Rattle.std.proofs.lemmas.Str.Parse.{IsNumeralModel, numerals_by_value, parse_digits}
use Rattle.xmt_cli.specs.Numbers.{number_in}

-- the digits of texts, and what they are worth
pub own : IsNumeralModel (λ ds. list_all is_ascii_digit ds ≡ true) (digits_value 10)
own = numerals_by_value _ (search rules)

gone : (a b c : Bool) (n : ℕ) → c ≡ false → (if a && (b && c) then Some n else None) ≡ None
gone a b true n is = cc
gone true true false n is = refl
gone true false false n is = refl
gone false b false n is = refl

-- digits that are none, or are worth too much
pub no_number : (low high : ℕ) (text : List ℕ) → high < 2 ^ 64 → ((0 < length text) × (digits_value 10 text < 2 ^ 64) → ⊥) → number_in low high text ≡ None
no_number low high [] small none = refl
no_number low high (c ∷ cs) small none =
    let some : 0 < length (c ∷ cs) = omega arith in
    let not_less : digits_value 10 (c ∷ cs) < 2 ^ 64 → ⊥ = λ less. none (some, less) in
    let large : nat_le (digits_value 10 (c ∷ cs)) high ≡ false = grind (arith, nat_tests, not_less) in
    gone _ _ _ _ large

-- digits that `parse` refuses
pub refused : {E : Type 0} (low high : ℕ) (text : List ℕ) (r : Result ℕ E) (e : E) → high < 2 ^ 64 → list_all is_ascii_digit text ≡ true → ParsesUnsigned 64 10 text r → r ≡ Err e → number_in low high text ≡ None
refused low high text (Err e') e small digits parses is = no_number low high text small (parse_digits own 64 text (Err e') parses digits)
refused low high text (Ok n) e small digits parses is = cc
