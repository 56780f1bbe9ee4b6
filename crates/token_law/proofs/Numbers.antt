-- The numbers of the table are those of the lexer.
use Rattle.std.proofs.Common.{◌≡◌, ℕ, zero, suc, ◌+◌, ◌*◌, ◌^◌, ◌≤◌, ◌<◌, ◌==◌, ◌&&◌, ◌||◌, nat_lt, Bool, true, false, cond, [], ◌∷◌, length, Some, None, refl, sym, ap, ◌∙◌, subst, arith}
use Rattle.std.proofs.lemmas.Bool.Decides.{nat_tests}
use Rattle.std.proofs.Math.Nat.{mul-le-mul_left}
use Rattle.std.specs.Char.{digit_value}
use Rattle.std.specs.Str.Parse.{AllDigits, digits_value_after}
use Rattle.xmt_lex.specs.Lex.{Text, digit, value, number_of}
use Rattle.token_law.specs.Spelling.{IsNumber, zero, decimal, hexadecimal}
use Rattle.token_law.proofs.Bytes.{same_byte, both}

-- ---- digits

digit_is : (c base : ℕ) → base ≤ 16 → digit_value c < base → digit c ≡ digit_value c
digit_is c base few h = grind (arith, nat_tests)

value_is : (c base : ℕ) → base ≤ 16 → digit c < base → digit_value c ≡ digit c
value_is c base few h = grind (arith, nat_tests)

less : (a b : ℕ) → a < b → nat_lt a b ≡ true
less a b h = grind (arith, nat_tests)

below : (a b : ℕ) → nat_lt a b ≡ true → a < b
below a b h = grind (arith, nat_tests)

module _ (base : ℕ) (few : base ≤ 16) (some : 1 ≤ base) where
  grows : (so_far : ℕ) (w : Text) → so_far ≤ digits_value_after base so_far w
  grows so_far [] = omega arith
  grows so_far (c ∷ w) = omega (arith, grows (so_far * base + digit_value c) w, mul-le-mul_left so_far some)

  values_read : (so_far : ℕ) (w : Text) → AllDigits base w → digits_value_after base so_far w < 2 ^ 32 → value base so_far w ≡ Some (digits_value_after base so_far w)
  values_read so_far [] all small = refl
  values_read so_far (c ∷ w) all small =
      let same : digit c ≡ digit_value c = digit_is c base few all.0 in
      let one : nat_lt (digit_value c) base ≡ true = less (digit_value c) base all.0 in
      let more : nat_lt (so_far * base + digit_value c) (2 ^ 32) ≡ true = less (so_far * base + digit_value c) (2 ^ 32) (omega (arith, grows (so_far * base + digit_value c) w, small)) in
      ap (λ (d : ℕ). cond (nat_lt d base && nat_lt (so_far * base + d) (2 ^ 32)) (value base (so_far * base + d) w) None) same
      ∙ ap (λ (t : Bool). cond (t && nat_lt (so_far * base + digit_value c) (2 ^ 32)) (value base (so_far * base + digit_value c) w) None) one
      ∙ ap (λ (t : Bool). cond t (value base (so_far * base + digit_value c) w) None) more
      ∙ values_read (so_far * base + digit_value c) w all.1 small

  -- digits and their value
  record AreDigits (so_far : ℕ) (w : Text) (v : ℕ) : Type 0 where
    all : AllDigits base w
    is : digits_value_after base so_far w ≡ v
    small : v < 2 ^ 32

  values_found : (so_far v : ℕ) (w : Text) → so_far < 2 ^ 32 → value base so_far w ≡ Some v → AreDigits so_far w v
  values_found so_far v [] small is = let same : so_far ≡ v = cc in record { all = tt; is = same; small = omega (arith, same, small) }
  values_found so_far v (c ∷ w) small is = by (values_found (so_far * base + digit c) v w) (nat_lt (digit c) base && nat_lt (so_far * base + digit c) (2 ^ 32)) refl is
    where
      by : (so_far * base + digit c < 2 ^ 32 → value base (so_far * base + digit c) w ≡ Some v → AreDigits (so_far * base + digit c) w v) → (t : Bool) → (nat_lt (digit c) base && nat_lt (so_far * base + digit c) (2 ^ 32)) ≡ t →
          cond t (value base (so_far * base + digit c) w) None ≡ Some v → AreDigits so_far (c ∷ w) v
      by rest true test h =
          let parts = both (nat_lt (digit c) base) (nat_lt (so_far * base + digit c) (2 ^ 32)) test in
          let inner = rest (below (so_far * base + digit c) (2 ^ 32) parts.1) h in
          let same : digit_value c ≡ digit c = value_is c base few (below (digit c) base parts.0) in
          let first : digit_value c < base = omega (arith, same, below (digit c) base parts.0) in
          record { all = (first, inner.all); is = ap (λ (d : ℕ). digits_value_after base (so_far * base + d) w) same ∙ inner.is; small = inner.small }
      by rest false test h = absurd (cc)

-- ---- numbers

one_byte : (n : ℕ) → (suc (suc n) == 1) ≡ false
one_byte n = grind (arith, nat_tests)

three_bytes : (n : ℕ) → nat_lt 2 (suc (suc (suc n))) ≡ true
three_bytes n = less 2 (suc (suc (suc n))) (omega arith)

-- a number of the table is read
pub numbers_read : (w : Text) (v : ℕ) → IsNumber w v → v < 2 ^ 32 → number_of w ≡ Some v
unfolding number_of
numbers_read _ _ zero small = refl
numbers_read _ _ (decimal b w other all) small =
    let some : nat_lt 0 (suc (length w)) ≡ true = less 0 (suc (length w)) (omega arith) in
    rw (other, some) (values_read 10 (omega arith) (omega arith) 0 (b ∷ w) all small)
numbers_read _ _ (hexadecimal x b w mark all) small =
    let many : (suc (suc (suc (length w))) == 1) ≡ false = one_byte (suc (length w)) in
    let some : nat_lt 2 (suc (suc (suc (length w)))) ≡ true = three_bytes (length w) in
    rw (many, some, mark) (values_read 16 (omega arith) (omega arith) 0 (b ∷ w) all small)

-- what is read is a number of the table
pub record IsSmallNumber (w : Text) (v : ℕ) : Type 0 where
  pub number : IsNumber w v
  pub small : v < 2 ^ 32

decimal_found : (b v : ℕ) (w : Text) → (b == 48) ≡ false → value 10 0 (b ∷ w) ≡ Some v → IsSmallNumber (b ∷ w) v
decimal_found b v w other is =
    let found = values_found 10 (omega arith) (omega arith) 0 v (b ∷ w) (omega arith) is in
    record { number = subst (IsNumber (b ∷ w)) found.is (decimal b w other found.all); small = found.small }

hexadecimal_found : (x b v : ℕ) (w : Text) → (x == 120 || x == 88) ≡ true → value 16 0 (b ∷ w) ≡ Some v → IsSmallNumber (48 ∷ x ∷ b ∷ w) v
hexadecimal_found x b v w mark is =
    let found = values_found 16 (omega arith) (omega arith) 0 v (b ∷ w) (omega arith) is in
    record { number = subst (IsNumber (48 ∷ x ∷ b ∷ w)) found.is (hexadecimal x b w mark found.all); small = found.small }

behind_nought : (v : ℕ) (w : Text) → number_of (48 ∷ w) ≡ Some v → IsSmallNumber (48 ∷ w) v
unfolding number_of
behind_nought v [] is = let same : 0 ≡ v = cc in record { number = subst (IsNumber (48 ∷ [])) same zero; small = omega (arith, same) }
behind_nought v (x ∷ []) is = absurd (cc)
behind_nought v (x ∷ b ∷ w) is = by (x == 120 || x == 88) refl (rw (one_byte (suc (length w)), three_bytes (length w)) at is)
  where
    by : (t : Bool) → (x == 120 || x == 88) ≡ t → cond (x == 120 || x == 88) (value 16 0 (b ∷ w)) None ≡ Some v → IsSmallNumber (48 ∷ x ∷ b ∷ w) v
    by true mark h = hexadecimal_found x b v w mark (rw mark at h)
    by false mark h = let wrong : None ≡ Some v = rw mark at h in absurd (cc)

behind_other : (b v : ℕ) (w : Text) → (b == 48) ≡ false → number_of (b ∷ w) ≡ Some v → IsSmallNumber (b ∷ w) v
unfolding number_of
behind_other b v w other is =
    let some : nat_lt 0 (suc (length w)) ≡ true = less 0 (suc (length w)) (omega arith) in
    decimal_found b v w other (rw (other, some) at is)

no_bytes : (v : ℕ) → number_of [] ≡ Some v → IsSmallNumber [] v
unfolding number_of
no_bytes v is = absurd (cc)

pub numbers_found : (w : Text) (v : ℕ) → number_of w ≡ Some v → IsSmallNumber w v
numbers_found [] v is = no_bytes v is
numbers_found (b ∷ w) v is = by (b == 48) refl
  where
    by : (t : Bool) → (b == 48) ≡ t → IsSmallNumber (b ∷ w) v
    by true nought = let same = same_byte b 48 nought in subst (λ (c : ℕ). IsSmallNumber (c ∷ w) v) (sym same) (behind_nought v w (ap (λ (c : ℕ). number_of (c ∷ w)) (sym same) ∙ is))
    by false other = behind_other b v w other is
