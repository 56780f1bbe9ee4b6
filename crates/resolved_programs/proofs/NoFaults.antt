-- Where nothing is broken.
use Rattle.std.proofs.Common.{◌≡◌, refl, arith, ℕ, zero, suc, ◌≤◌, Bool, true, false, List, [], ◌∷◌, length, Option, Some, None, inl, inr}
use Rattle.std.specs.Prelude.{not, slice_get}
use Rattle.xmt_base.specs.declared.values.Place.{Place}
use Rattle.name_scopes.specs.declared.fault.Which.{Which}
use Rattle.name_scopes.specs.declared.fault.NameKind.{NameKind}
use Rattle.name_scopes.specs.declared.fault.Fault.{Fault}
use Rattle.name_scopes.specs.Fault.{Faults, none, one, both, when, over, past_limit, IsAmong}

abbrev pub IsEmpty : Faults → Type 0
IsEmpty none = Unit {0}
IsEmpty (one what place) = ⊥
IsEmpty (both a b) = IsEmpty a × IsEmpty b

pub nothing_among : (faults : Faults) → ((fault : Fault) → ¬ IsAmong fault faults) → IsEmpty faults
nothing_among none sound = tt
nothing_among (one what place) sound = sound (record { kind = what; place = place }) refl
nothing_among (both a b) sound = (nothing_among a (λ f among. sound f (inl among)), nothing_among b (λ f among. sound f (inr among)))

pub fails : (holds : Bool) (what : NameKind) (place : Place) → IsEmpty (when holds what place) → holds ≡ false
fails true what place empty = absurd empty
fails false what place empty = refl

pub holds_not : (holds : Bool) (what : NameKind) (place : Place) → IsEmpty (when (not holds) what place) → holds ≡ true
holds_not true what place empty = refl
holds_not false what place empty = absurd empty

pub few : (limit : ℕ) (places : List Place) (which : Which) → IsEmpty (over limit which places) → length places ≤ limit
few limit places which empty = short limit places (slice_get places limit) refl empty
  where
    short : (limit : ℕ) (places : List Place) (found : Option Place) → slice_get places limit ≡ found → IsEmpty (past_limit which found) → length places ≤ limit
    short limit places (Some place) is empty = absurd empty
    short limit places None is empty = past limit places is
      where
        past : (limit : ℕ) (places : List Place) → slice_get places limit ≡ None → length places ≤ limit
        past limit [] is = omega arith
        past zero (place ∷ places) is = absurd (let clash : Some place ≡ None = is in cc)
        past (suc limit) (place ∷ places) is = omega (arith, past limit places is)
