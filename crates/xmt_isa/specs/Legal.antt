-- Which units have a turn, and which schedules are legal.
use Rattle.std.specs.Prelude.{◌≡◌, ℕ, List, [], ◌∷◌, true, false, slice_get, IsSomeAnd}
use Rattle.xmt_base.specs.declared.values.TrapKind.{TrapKind}
use Rattle.xmt_isa.specs.declared.image.Image.{Image}
use Rattle.xmt_isa.specs.declared.unit.UnitState.TheVariants.{Halted}
use Rattle.xmt_isa.specs.declared.unit.Next.TheVariants as next
use Rattle.xmt_isa.specs.Step.{next_of}
use Rattle.xmt_isa.specs.Machine.{Machine, turn, after}
use Rattle.xmt_isa.specs.Picked.{is_active, is_spawned, is_trap}

-- the unit with this number is active
abbrev pub IsActive : Machine → ℕ → Type 0
IsActive m k = IsSomeAnd (slice_get m.units k) (λ u. is_active (is_spawned m.units) u ≡ true)

-- the unit with this number stands at this trap
abbrev pub StandsAtTrap : Image → Machine → ℕ → TrapKind → Type 0
StandsAtTrap image m k kind = IsSomeAnd (slice_get m.units k) (λ u. next_of image m.start u ≡ next.Trap kind)

-- the unit with this number has a turn: it is active and stands at no trap
abbrev pub HasTurn : Image → Machine → ℕ → Type 0
HasTurn image m k = IsActive m k × IsSomeAnd (slice_get m.units k) (λ u. is_trap (next_of image m.start u) ≡ false)

-- each unit that the schedule names has a turn when it comes
abbrev pub IsLegal : Image → Machine → List ℕ → Type 0
IsLegal image m [] = Unit {0}
IsLegal image m (k ∷ ks) = HasTurn image m k × IsLegal image (turn image m k) ks

-- the run has ended: the master has halted
abbrev pub HasHalted : Machine → Type 0
HasHalted m = IsSomeAnd (slice_get m.units 0) (λ u. u.state ≡ Halted)

-- a legal schedule leads from one machine to another
abbrev pub RunsTo : Image → Machine → Machine → Type 0
RunsTo image old new = (schedule : List ℕ) × IsLegal image old schedule × (after image old schedule ≡ new)
