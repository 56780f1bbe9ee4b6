-- What state a unit is in, and which number it has.
use Rattle.std.proofs.Common.{◌≡◌, ◌≢◌, refl, sym, ◌∙◌, ap, ℕ, zero, suc, ◌==◌, Bool, true, false, ◌⊎◌, inl, inr, arith}
use Rattle.std.specs.Prelude.{◌&&◌}
use Rattle.xmt_isa.specs.declared.unit.Unit.{Unit}
use Rattle.xmt_isa.specs.declared.unit.UnitState.{UnitState}
use Rattle.xmt_isa.specs.declared.unit.UnitState.TheVariants.{Draws, Runs, Stopped, Halted}
use Rattle.xmt_isa.specs.Step.{is_due}
use Rattle.xmt_isa.specs.Picked.{is_live}
use Rattle.interleaving.proofs.Interleave.{eq_of}
use Rattle.interleaving.proofs.Grows.{differs}
use Rattle.unit_steps.specs.Steps.{is_new_master}

pub never_true : {A : Type 0} → false ≡ true → A
never_true h = cc

-- a number of its own for each state
abbrev pub state_number : UnitState → ℕ
state_number Draws = 0
state_number Runs = 1
state_number Stopped = 2
state_number Halted = 3

-- no unit is in two states
pub two_states : {A : Type 0} (state first second : UnitState) → state ≡ first → state ≡ second → (state_number first == state_number second) ≡ false → A
two_states state first second a b differ = absurd (differs (state_number first) (state_number second) differ (ap state_number (sym a ∙ b)))

-- a live unit runs, or is due
pub live_is : (state : UnitState) → is_live state ≡ true → (state ≡ Runs) ⊎ (state ≡ Draws)
live_is Draws e = inr refl
live_is Runs e = inl refl
live_is Stopped e = never_true e
live_is Halted e = never_true e

-- it is the master or a control unit
pub zero_or : (n : ℕ) → (n ≡ 0) ⊎ (n ≢ 0)
zero_or zero = inl refl
zero_or (suc n) = inr (λ e. omega (arith, e))

-- a master that is due to begin is the master
pub new_master_zero : (u : Unit) → is_new_master u ≡ true → u.number ≡ 0
new_master_zero u e = by_number (u.number == 0) refl e
  where
    by_number : (b : Bool) → (u.number == 0) ≡ b → b && is_due u.state ≡ true → u.number ≡ 0
    by_number true same h = eq_of u.number 0 same
    by_number false same h = never_true h

-- any other unit that is due is a control unit
pub other_due : (u : Unit) → is_new_master u ≡ false → u.state ≡ Draws → u.number ≢ 0
other_due u e due zero_is = let both : is_new_master u ≡ true = ap (λ n. (n == 0) && is_due u.state) zero_is ∙ ap is_due due in never_true (sym e ∙ both)
