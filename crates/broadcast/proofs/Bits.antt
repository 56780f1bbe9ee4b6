-- The bits of a mask.
use Rattle.std.proofs.Common.{w32, ℕ, zero, suc, ◌≡◌, ◌<◌, ◌≤◌, ◌*◌, ◌/◌, ◌%◌, ◌^◌, refl, ◌∙◌, ap, sym, arith, true, inl, inr}
use Rattle.std.specs.Prelude.{bit_or}
use Rattle.std.specs.Int.{bit_at}
use Rattle.std.proofs.Math.Nat.{div-add-mod}
use Rattle.std.proofs.lemmas.Nat.Bits.{bit_at_set_same, bit_at_set_other, bit_at_lowest, bit_at-suc}
use Rattle.std.proofs.lemmas.Bool.{false≢true}
use Rattle.broadcast.specs.Positions.{IsWith}

pub with_live : (mask register shift : ℕ) → register < 32 → shift ≡ register → IsWith true register mask (bit_or mask (1 * 2 ^ shift % 2 ^ 32))
with_live mask register shift few same = record {
  here = λ live. ap (λ s. bit_at (bit_or mask (1 * 2 ^ s % 2 ^ 32)) register) same ∙ bit_at_set_same w32 mask register few;
  others = λ other apart. elim apart [
    | inl dead ↦ absurd (false≢true (sym dead))
    | inr else ↦ ap (λ s. bit_at (bit_or mask (1 * 2 ^ s % 2 ^ 32)) other) same ∙ bit_at_set_other w32 mask register few other else
  ];
}

-- a number without a bit is 0
pub no_bits_to : (most n : ℕ) → n ≤ most → ((i : ℕ) → bit_at n i ≡ 1 → ⊥) → ((i : ℕ) → bit_at n i < 2) → n ≡ 0
no_bits_to zero n small dark bits = omega arith
no_bits_to (suc most) n small dark bits =
    let lowest : n % 2 ≡ bit_at n 0 = sym (bit_at_lowest n) in
    let even : n % 2 ≡ 0 = lowest_is (bit_at n 0) (n % 2) lowest (dark 0) (bits 0) in
    let half : n / 2 ≡ 0 =
    no_bits_to most (n / 2) (omega (arith, small, div-add-mod n 2))
    (λ i on. dark (suc i) (bit_at-suc n i ∙ on))
    (λ i. let e : bit_at n (suc i) ≡ bit_at (n / 2) i = bit_at-suc n i in let b : bit_at n (suc i) < 2 = bits (suc i) in omega (arith, e, b))
    in
    omega (arith, even, half, div-add-mod n 2)
  where
    lowest_is : (bit low : ℕ) → low ≡ bit → (bit ≡ 1 → ⊥) → bit < 2 → low ≡ 0
    lowest_is zero low same dark small = same
    lowest_is (suc zero) low same dark small = absurd (dark refl)
    lowest_is (suc (suc bit)) low same dark small = absurd (omega (arith, small))
