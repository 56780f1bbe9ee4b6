-- Parts of a tree in which nothing is broken.
use Rattle.std.proofs.Common.{◌≡◌, sym, subst, ℕ, ◌≤◌, Bool, false, List, length, Option, inl, inr, arith}
use Rattle.std.specs.Prelude.{nat_lt}
use Rattle.std.proofs.lemmas.Bool.Decides.{nat_tests}
use Rattle.std.proofs.lemmas.Option.{slice_get_past}
use Rattle.xmt_base.specs.declared.values.Place.{Place}
use Rattle.name_scopes.specs.declared.fault.Which.{Which}
use Rattle.name_scopes.specs.declared.fault.NameKind.{NameKind}
use Rattle.name_scopes.specs.declared.fault.Fault.{Fault}
use Rattle.name_scopes.specs.Fault.{Faults, none, both, when, past_limit, over, IsAmong}

pub record IsClean (faults : Faults) : Type 0 where
  pub clean : (fault : Fault) → ¬ IsAmong fault faults

pub nothing : IsClean none
nothing = record { clean = λ fault among. among }

pub neither : {a b : Faults} → IsClean a → IsClean b → IsClean (both a b)
neither first second = record { clean = λ fault among. elim among [ inl here ↦ first.clean fault here | inr there ↦ second.clean fault there ] }

pub holds_not : (test : Bool) (what : NameKind) (place : Place) → test ≡ false → IsClean (when test what place)
holds_not test what place is = subst (λ (t : Bool). IsClean (when t what place)) (sym is) nothing

pub within_limit : (limit : ℕ) (what : Which) (places : List Place) → length places ≤ limit → IsClean (over limit what places)
within_limit limit what places few = subst (λ (found : Option Place). IsClean (past_limit what found)) (sym (slice_get_past places limit few)) nothing

pub not_less : (a b : ℕ) → b ≤ a → nat_lt a b ≡ false
not_less a b h = grind (arith, nat_tests)
