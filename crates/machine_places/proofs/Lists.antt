-- A list with one element replaced, and the units of a machine.
use Rattle.std.proofs.Common.{◌≡◌, refl, sym, ◌∙◌, ap, subst, ◌==◌, ◌+◌, ℕ, suc, zero, Bool, true, false, not, ◌&&◌, if◌then◌else◌, List, [], ◌∷◌, map, Some, None, slice_get, slice_set, arith}
use Rattle.std.specs.List.{list_all}
use Rattle.xmt_isa.specs.declared.unit.Start.{Start}
use Rattle.xmt_isa.specs.declared.unit.Unit.{Unit}
use Rattle.xmt_isa.specs.Machine.{Machine}
use Rattle.interleaving.proofs.Interleave.{eq_of}
use Rattle.interleaving.proofs.Grows.{differs}

module _ {X : Type 0} where
  pub get-set_same : (xs : List X) (i : ℕ) (x y : X) → slice_get xs i ≡ Some x → slice_get (slice_set xs i y) i ≡ Some y
  get-set_same [] i x y h = let never : None ≡ Some x = h in cc
  get-set_same (z ∷ xs) zero x y h = refl
  get-set_same (z ∷ xs) (suc i) x y h = get-set_same xs i x y h

  pub get-set_other : (xs : List X) (i j : ℕ) (y : X) → (i ≡ j → ⊥) → slice_get (slice_set xs i y) j ≡ slice_get xs j
  get-set_other [] i j y n = refl
  get-set_other (z ∷ xs) zero zero y n = absurd (n refl)
  get-set_other (z ∷ xs) zero (suc j) y n = refl
  get-set_other (z ∷ xs) (suc i) zero y n = refl
  get-set_other (z ∷ xs) (suc i) (suc j) y n = get-set_other xs i j y (λ e. n (ap suc e))

  pub some_same : (x y : X) → Some x ≡ Some y → x ≡ y
  some_same x y e = cc

  -- an element of the list with one replaced is the new one at its place, or an old one
  pub get-set : (P : X → Type 0) (xs : List X) (i j : ℕ) (x y z : X) → slice_get xs i ≡ Some x → slice_get (slice_set xs i y) j ≡ Some z → (j ≡ i → P y) → ((i ≡ j → ⊥) → slice_get xs j ≡ Some z → P z) → P z
  get-set P xs i j x y z h g here there = by_test (i == j) refl
    where
      by_test : (b : Bool) → (i == j) ≡ b → P z
      by_test true e =
          let same : i ≡ j = eq_of i j e in
          let new : slice_get (slice_set xs i y) j ≡ Some y = rw (← same) (get-set_same xs i x y h) in
          subst P (some_same y z (sym new ∙ g)) (here (sym same))
      by_test false e =
          let other : i ≡ j → ⊥ = differs i j e in
          there other (sym (get-set_other xs i j y other) ∙ g)

  pub all_false : (test : X → Bool) (xs : List X) (i : ℕ) (x : X) → slice_get xs i ≡ Some x → test x ≡ false → list_all test xs ≡ false
  all_false test [] i x h t = let never : None ≡ Some x = h in cc
  all_false test (z ∷ xs) zero x h t = let same : z ≡ x = some_same z x h in rw (same, t) refl
  all_false test (z ∷ xs) (suc i) x h t = by_test (test z) (all_false test xs i x h t)
    where
      by_test : (b : Bool) → list_all test xs ≡ false → (b && list_all test xs) ≡ false
      by_test true e = e
      by_test false e = refl

  pub all_at : (test : X → Bool) (xs : List X) (i : ℕ) (x : X) → list_all test xs ≡ true → slice_get xs i ≡ Some x → test x ≡ true
  all_at test xs i x all h = by_test (test x) refl
    where
      by_test : (b : Bool) → test x ≡ b → b ≡ true
      by_test true e = refl
      by_test false e = let never : list_all test xs ≡ false = all_false test xs i x h e in cc

  pub set-set : (xs : List X) (i : ℕ) (x y : X) → slice_set (slice_set xs i x) i y ≡ slice_set xs i y
  set-set [] i x y = refl
  set-set (z ∷ xs) zero x y = refl
  set-set (z ∷ xs) (suc i) x y = ap (λ ys. z ∷ ys) (set-set xs i x y)

pub get-map : {X Y : Type 0} (f : X → Y) (xs : List X) (i : ℕ) (y : Y) → slice_get (map f xs) i ≡ Some y → (x : X) × (slice_get xs i ≡ Some x) × (y ≡ f x)
get-map f [] i y h = let never : None ≡ Some y = h in cc
get-map f (x ∷ xs) zero y h = (x, refl, sym (some_same (f x) y h))
get-map f (x ∷ xs) (suc i) y h = get-map f xs i y h

-- ---- units of a machine

pub active_unit : (number place : ℕ) (waits live : Bool) → number ≡ 1 + place → waits ≡ true → live ≡ true → (live && (if number == 0 then not waits else waits)) ≡ true
active_unit number place waits live is on lives = let later : (number == 0) ≡ false = grind (arith, is) in rw (later, on, lives) refl

pub alike : (units others : List Unit) (words cells : List ℕ) (drawn : ℕ) (start : Start) (out printed : List ℕ) → units ≡ others → words ≡ cells → out ≡ printed →
    ◌≡◌ {A = Machine} (record { units = units; words = words; drawn = drawn; start = start; out = out }) (record { units = others; words = cells; drawn = drawn; start = start; out = printed })
alike units others words cells drawn start out printed a b c = rw (a, b, c) refl
