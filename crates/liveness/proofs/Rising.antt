-- The live registers below a number, listed.
use Rattle.std.proofs.Common.{ℕ, zero, suc, ◌≡◌, ◌<◌, ◌≤◌, ◌+◌, refl, ◌∙◌, ap, sym, subst, arith, true, false, List, [], ◌∷◌, ◌++◌, length, get_or, length-append, inl, inr}
use Rattle.std.specs.Prelude.{Contains, ◌↔◌, Bool}
use Rattle.std.specs.List.Sorted.{IsStrictlyIncreasing}
use Rattle.std.proofs.Math.Seq.{get_or-append_seam}
use Rattle.std.proofs.Math.ListN.{get_or-append}
use Rattle.std.proofs.lemmas.Bool.{cases_eq, cases_lt, both_ways}
use Rattle.std.proofs.lemmas.List.Elements.{Contains-append_left, Contains-append_right, Contains-append_cases}
use Rattle.xmt_quads.specs.declared.code.Quad.{Quad}
use Rattle.xmt_quads.specs.Live.{IsLive}
use Rattle.liveness.specs.Live.{AreLive}
use Rattle.liveness.specs.Operands.{AreReadBelow}
use Rattle.liveness.proofs.Bounds.{live_below}

-- just the live registers below a number, rising
pub record AreLiveBelow (quads : List Quad) (at bound : ℕ) (registers : List ℕ) : Type 0 where
  pub below : (r : ℕ) → Contains registers r → r < bound
  pub rising : IsStrictlyIncreasing registers
  pub live : (r : ℕ) → Contains registers r → IsLive quads r at
  pub all : (r : ℕ) → r < bound → IsLive quads r at → Contains registers r

pub none_below : (quads : List Quad) (at : ℕ) → AreLiveBelow quads at 0 []
none_below quads at = record {
  below = λ r among. absurd (empty r among);
  rising = λ k within. absurd (omega (arith, within));
  live = λ r among. absurd (empty r among);
  all = λ r below live. absurd (omega (arith, below));
} where
  empty : (r : ℕ) → Contains [] r → ⊥
  empty r (k, within, is) = omega (arith, within)

element_at : (xs : List ℕ) (k d : ℕ) → k < length xs → Contains xs (get_or xs k d)
element_at xs k d within = (k, within, default xs k (get_or xs k d) d within) where
  default : (xs : List ℕ) (k d e : ℕ) → k < length xs → get_or xs k d ≡ get_or xs k e
  default [] k d e within = absurd (omega arith)
  default (x ∷ xs) zero d e within = refl
  default (x ∷ xs) (suc k) d e within = default xs k d e (omega arith)

rising_one_more : (xs : List ℕ) (x : ℕ) → ((r : ℕ) → Contains xs r → r < x) → IsStrictlyIncreasing xs → IsStrictlyIncreasing (xs ++ x ∷ [])
rising_one_more xs x below rising k within = elim (cases_lt (k + 1) (length xs)) [
  | inl inside ↦
      let before : get_or (xs ++ x ∷ []) k 0 ≡ get_or xs k 0 = get_or-append xs (x ∷ []) 0 k (omega (arith, inside)) in
      let behind : get_or (xs ++ x ∷ []) (k + 1) 0 ≡ get_or xs (k + 1) 0 = get_or-append xs (x ∷ []) 0 (k + 1) inside in
      let less : get_or xs k 0 < get_or xs (k + 1) 0 = rising k inside in
      omega (arith, before, behind, less)
  | inr past ↦
      let long : k + 1 < length xs + 1 = omega (arith, within, length-append xs (x ∷ [])) in
      let seam : length xs ≡ k + 1 = omega (arith, long, past) in
      let before : get_or (xs ++ x ∷ []) k 0 ≡ get_or xs k 0 = get_or-append xs (x ∷ []) 0 k (omega (arith, seam)) in
      let behind : get_or (xs ++ x ∷ []) (k + 1) 0 ≡ x = ap (λ n. get_or (xs ++ x ∷ []) n 0) (sym seam) ∙ get_or-append_seam xs x [] 0 in
      let less : get_or xs k 0 < x = below (get_or xs k 0) (element_at xs k 0 (omega (arith, seam))) in
      omega (arith, before, behind, less)
]

in_one : (x y : ℕ) → Contains (x ∷ []) y → x ≡ y
in_one x y (zero, within, is) = is
in_one x y (suc k, within, is) = absurd (omega (arith, within))

pub with_live : (quads : List Quad) (at bound : ℕ) (registers : List ℕ) → IsLive quads bound at → AreLiveBelow quads at bound registers → AreLiveBelow quads at (bound + 1) (registers ++ bound ∷ [])
with_live quads at bound registers live before = record {
  below = λ r among. elim (Contains-append_cases registers (bound ∷ []) r among) [
    | inl old ↦ let less : r < bound = before.below r old in omega (arith, less)
    | inr here ↦ let same : bound ≡ r = in_one bound r here in omega (arith, same)
  ];
  rising = rising_one_more registers bound before.below before.rising;
  live = λ r among. elim (Contains-append_cases registers (bound ∷ []) r among) [
    | inl old ↦ before.live r old
    | inr here ↦ subst (λ r. IsLive quads r at) (in_one bound r here) live
  ];
  all = λ r below is_live. elim (cases_eq r bound) [
    | inl same ↦ subst (Contains (registers ++ bound ∷ [])) (sym same) (Contains-append_right registers (bound ∷ []) bound (0, omega arith, refl))
    | inr other ↦ Contains-append_left registers (bound ∷ []) r (before.all r (omega (arith, below, other)) is_live)
  ];
}

pub without : (quads : List Quad) (at bound : ℕ) (registers : List ℕ) → (IsLive quads bound at → ⊥) → AreLiveBelow quads at bound registers → AreLiveBelow quads at (bound + 1) registers
without quads at bound registers dead before = record {
  below = λ r among. let less : r < bound = before.below r among in omega (arith, less);
  rising = before.rising;
  live = before.live;
  all = λ r below is_live. elim (cases_eq r bound) [
    | inl same ↦ absurd (dead (subst (λ r. IsLive quads r at) same is_live))
    | inr other ↦ before.all r (omega (arith, below, other)) is_live
  ];
}

pub not_live : (quads : List Quad) (r at : ℕ) (b : Bool) → (b ≡ true) ↔ IsLive quads r at → b ≡ false → IsLive quads r at → ⊥
not_live quads r at b exactly is_not live = both_ways b is_not (exactly.1 live)

pub live_at_end : (quads : List Quad) (at place bound : ℕ) (registers : List ℕ) → bound ≤ place → AreReadBelow quads bound → AreLiveBelow quads at place registers → AreLive quads at registers
live_at_end quads at place bound registers past read found = record {
  rising = found.rising;
  exactly = λ r. (found.live r, λ live. let less : r < bound = live_below quads bound r at read live in found.all r (omega (arith, less, past)) live);
}
