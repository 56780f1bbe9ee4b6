-- What names stand for, where each thing that is declared is there.
use Rattle.std.proofs.Common.{◌≡◌, subst, ℕ, Bool, true, false, cond, List, [], ◌∷◌, Option, Some, None}
use Rattle.std.proofs.lemmas.Bool.{eqb-true}
use Rattle.std.specs.Prelude.{◌==◌}
use Rattle.std.specs.Str.{bytes_eq}
use Rattle.raw_tree.specs.declared.tree.RawName.{RawName}
use Rattle.source_meaning.specs.declared.tree.Program.{Program}
use Rattle.name_scopes.specs.declared.fault.NameKind.TheVariants as kinds
use Rattle.name_scopes.specs.declared.scope.Meaning.{Meaning}
use Rattle.name_scopes.specs.declared.scope.Meaning.TheVariants as means
use Rattle.name_scopes.specs.declared.scope.Binding.{Binding}
use Rattle.name_scopes.specs.declared.scope.Declared.{Declared}
use Rattle.name_scopes.specs.Scope.{look, or_hidden}
use Rattle.name_faults.specs.Expressions.{meaning, meaning_of, variable_fault, array_fault, sum_fault, register_fault, call_fault}
use Rattle.typed_programs.specs.Expressions.{number, variable, array_number, function_number, register_number}
use Rattle.checked_programs.specs.Fits.{Known, HasGlobal, HasRegister, HasFunction, SpotFits, SummedFits, PlaceFits}
use Rattle.resolved_programs.proofs.NoFaults.{IsEmpty, holds_not}

module _ (p : Program) (known : Known) where
  -- the thing is there, and a variable is known
  abbrev pub MeaningFits : Meaning → Type 0
  MeaningFits (means.Scalar n constant) = HasGlobal p false (number n)
  MeaningFits (means.Array n constant) = HasGlobal p true (number n)
  MeaningFits (means.Register n) = HasRegister p (number n)
  MeaningFits (means.Function n value params) = HasFunction p (number n) params
  MeaningFits (means.Local slot constant) = known (number slot) ≡ true

  abbrev pub AnyFits : Option Meaning → Type 0
  AnyFits None = Unit {0}
  AnyFits (Some m) = MeaningFits m

  -- so are all things that are declared
  abbrev pub NamesFit : List Declared → Type 0
  NamesFit [] = Unit {0}
  NamesFit (d ∷ ds) = MeaningFits d.binding.meaning × NamesFit ds

  last_fits : (holds : Bool) (b : Binding) (rest : Option Binding) → MeaningFits b.meaning → AnyFits (meaning_of rest) → AnyFits (meaning_of (or_hidden (cond holds (Some b) None) rest))
  last_fits holds b (Some other) here behind = behind
  last_fits true b None here behind = here
  last_fits false b None here behind = behind

  pub looked_fits : (ds : List Declared) (name : List ℕ) → NamesFit ds → AnyFits (meaning_of (look ds name))
  looked_fits [] name fit = tt
  looked_fits (d ∷ ds) name fit = last_fits (bytes_eq name d.name) d.binding (look ds name) fit.0 (looked_fits ds name fit.1)

  pub meaning_fits : (ds : List Declared) (name : RawName) → NamesFit ds → AnyFits (meaning ds name)
  meaning_fits ds name fit = looked_fits ds name.bytes fit

  -- ---- a name that breaks no rule where it stands

  pub variable_fits : (name : RawName) (m : Option Meaning) → AnyFits m → IsEmpty (variable_fault name m) → SpotFits p known (variable m)
  variable_fits name None fit sound = absurd sound
  variable_fits name (Some (means.Scalar n constant)) fit sound = fit
  variable_fits name (Some (means.Array n constant)) fit sound = absurd sound
  variable_fits name (Some (means.Register n)) fit sound = fit
  variable_fits name (Some (means.Function n value params)) fit sound = absurd sound
  variable_fits name (Some (means.Local slot constant)) fit sound = fit

  pub array_fits : (name : RawName) (m : Option Meaning) → AnyFits m → IsEmpty (array_fault name m) → HasGlobal p true (array_number m)
  array_fits name None fit sound = absurd sound
  array_fits name (Some (means.Scalar n constant)) fit sound = absurd sound
  array_fits name (Some (means.Array n constant)) fit sound = fit
  array_fits name (Some (means.Register n)) fit sound = absurd sound
  array_fits name (Some (means.Function n value params)) fit sound = absurd sound
  array_fits name (Some (means.Local slot constant)) fit sound = absurd sound

  pub summed_fits : (name : RawName) (m : Option Meaning) → AnyFits m → IsEmpty (sum_fault name m) → SummedFits p known (variable m)
  summed_fits name None fit sound = absurd sound
  summed_fits name (Some (means.Scalar n constant)) fit sound = fit
  summed_fits name (Some (means.Array n constant)) fit sound = absurd sound
  summed_fits name (Some (means.Register n)) fit sound = absurd sound
  summed_fits name (Some (means.Function n value params)) fit sound = absurd sound
  summed_fits name (Some (means.Local slot constant)) fit sound = fit

  pub place_fits : (name : RawName) (m : Option Meaning) → AnyFits m → IsEmpty (sum_fault name m) → PlaceFits p known (variable m)
  place_fits name None fit sound = absurd sound
  place_fits name (Some (means.Scalar n constant)) fit sound = fit
  place_fits name (Some (means.Array n constant)) fit sound = absurd sound
  place_fits name (Some (means.Register n)) fit sound = absurd sound
  place_fits name (Some (means.Function n value params)) fit sound = absurd sound
  place_fits name (Some (means.Local slot constant)) fit sound = fit

  pub register_fits : (name : RawName) (m : Option Meaning) → AnyFits m → IsEmpty (register_fault name m) → HasRegister p (register_number m)
  register_fits name None fit sound = absurd sound
  register_fits name (Some (means.Scalar n constant)) fit sound = absurd sound
  register_fits name (Some (means.Array n constant)) fit sound = absurd sound
  register_fits name (Some (means.Register n)) fit sound = fit
  register_fits name (Some (means.Function n value params)) fit sound = absurd sound
  register_fits name (Some (means.Local slot constant)) fit sound = absurd sound

  pub call_fits : (wanted : Bool) (count : ℕ) (name : RawName) (m : Option Meaning) → AnyFits m → IsEmpty (call_fault wanted count name m) → HasFunction p (function_number m) count
  call_fits wanted count name None fit sound = absurd sound
  call_fits true count name (Some (means.Scalar n constant)) fit sound = absurd sound
  call_fits false count name (Some (means.Scalar n constant)) fit sound = absurd sound
  call_fits true count name (Some (means.Array n constant)) fit sound = absurd sound
  call_fits false count name (Some (means.Array n constant)) fit sound = absurd sound
  call_fits true count name (Some (means.Register n)) fit sound = absurd sound
  call_fits false count name (Some (means.Register n)) fit sound = absurd sound
  call_fits true count name (Some (means.Local slot constant)) fit sound = absurd sound
  call_fits false count name (Some (means.Local slot constant)) fit sound = absurd sound
  call_fits true count name (Some (means.Function n value params)) fit sound =
      subst (λ k. HasFunction p (number n) k) (eqb-true params count (holds_not (params == count) kinds.WrongCount name.at sound.0)) fit
  call_fits false count name (Some (means.Function n value params)) fit sound =
      subst (λ k. HasFunction p (number n) k) (eqb-true params count (holds_not (params == count) kinds.WrongCount name.at sound)) fit
