-- Where a run stops, a unit stands at a trap or has spent the budget.
use Rattle.std.proofs.Common.{◌≡◌, ◌∙◌, refl, sym, ap, subst, ℕ, suc, ◌==◌, ◌&&◌, cond, Bool, true, false, nat_lt, List, [], ◌∷◌, find, count_by, Option, Some, None, slice_get, arith}
use Rattle.std.specs.Prelude.{if◌then◌else◌, IsSomeAnd, ⊤}
use Rattle.xmt_base.specs.declared.values.Trap.{Trap}
use Rattle.xmt_base.specs.declared.values.TrapKind.{TrapKind}
use Rattle.xmt_base.specs.Picker as picker
use Rattle.xmt_isa.specs.declared.image.Image.{Image}
use Rattle.xmt_isa.specs.declared.unit.Unit.{Unit}
use Rattle.xmt_isa.specs.declared.unit.Next.{Next}
use Rattle.xmt_isa.specs.declared.unit.Next.TheVariants as next
use Rattle.xmt_isa.specs.declared.run.Choice.{Choice}
use Rattle.xmt_isa.specs.declared.run.Choice.TheVariants as choice
use Rattle.xmt_isa.specs.Step.{next_of}
use Rattle.xmt_isa.specs.Machine.{Machine}
use Rattle.xmt_isa.specs.Legal.{IsActive, StandsAtTrap}
use Rattle.xmt_isa.specs.Picked.{PickedRun, choice_of, choice_by, picks, place_of, trap_of, is_trap, is_trapped, is_spent, is_spawned, is_active}

eq_of : (t u : ℕ) → (t == u) ≡ true → t ≡ u
eq_of t u h = grind (arith, h)

both_true : (a b : Bool) → (a && b) ≡ true → (a ≡ true) × (b ≡ true)
both_true true b h = (refl, h)
both_true false b h = cc

-- what is found stands in some place, and the test holds of it
find_some : {A : Type 0} (p : A → Bool) (xs : List A) (x : A) → find p xs ≡ Some x → (k : ℕ) × (slice_get xs k ≡ Some x) × (p x ≡ true)
find_some p [] x h = cc
find_some p (y ∷ ys) x h = by_test (p y) refl h (λ g. find_some p ys x g)
  where
    by_test : (b : Bool) → p y ≡ b → cond b (Some y) (find p ys) ≡ Some x → (find p ys ≡ Some x → (k : ℕ) × (slice_get ys k ≡ Some x) × (p x ≡ true)) → (k : ℕ) × (slice_get (y ∷ ys) k ≡ Some x) × (p x ≡ true)
    by_test true e g go = let same : y ≡ x = cc in (0, ap (λ z. Some z) same, ap p (sym same) ∙ e)
    by_test false e g go = let r = go g in (suc r.0, r.1, r.2)

-- an active unit stands at a trap
pub record Traps (image : Image) (m : Machine) : Type 0 where
  pub place : ℕ
  pub kind : TrapKind
  pub active : IsActive m place
  pub stands : StandsAtTrap image m place kind

-- a unit has done as many steps as the budget
pub record Spends (budget : ℕ) (m : Machine) : Type 0 where
  pub place : ℕ
  pub unit : Unit
  pub at : slice_get m.units place ≡ Some unit
  pub steps : unit.counts.steps ≡ budget

-- what each way to stop says of the machine
abbrev StopsSo : Image → ℕ → Machine → Choice → Type 0
StopsSo image budget m choice.Done = ⊤
StopsSo image budget m (choice.Trap trap) = Traps image m
StopsSo image budget m (choice.Spent unit steps) = Spends budget m
StopsSo image budget m (choice.Step k) = ⊤

module _ (image : Image) (budget : ℕ) (r : PickedRun) where
  abbrev m : Machine
  m = r.machine

  abbrev Stops : Choice → Type 0
  Stops = StopsSo image budget m

  at_trap : (k : ℕ) (u : Unit) → slice_get m.units k ≡ Some u → is_active (is_spawned m.units) u ≡ true → (x : Next) → next_of image m.start u ≡ x → Stops (trap_of image u x)
  at_trap k u at active next.Local is = tt
  at_trap k u at active (next.Trap kind) is = record {
    place = k;
    kind = kind;
    active = subst (λ (o : Option Unit). IsSomeAnd o (λ u. is_active (is_spawned m.units) u ≡ true)) (sym at) active;
    stands = subst (λ (o : Option Unit). IsSomeAnd o (λ u. next_of image m.start u ≡ next.Trap kind)) (sym at) is;
  }
  at_trap k u at active (next.Ask request) is = tt

  trapped : (u : Unit) → find (is_trapped image m.start budget (is_spawned m.units)) m.units ≡ Some u → Stops (trap_of image u (next_of image m.start u))
  trapped u found =
      let f = find_some (is_trapped image m.start budget (is_spawned m.units)) m.units u found in
      let both : (is_active (is_spawned m.units) u ≡ true) × ((nat_lt u.counts.steps budget && is_trap (next_of image m.start u)) ≡ true) = both_true (is_active (is_spawned m.units) u) (nat_lt u.counts.steps budget && is_trap (next_of image m.start u)) f.2 in
      at_trap f.0 u f.1 both.0 (next_of image m.start u) refl

  spent : (u : Unit) → find (is_spent budget (is_spawned m.units)) m.units ≡ Some u → Stops (choice.Spent u.number u.counts.steps)
  spent u found =
      let f = find_some (is_spent budget (is_spawned m.units)) m.units u found in
      record { place = f.0; unit = u; at = f.1; steps = eq_of u.counts.steps budget (both_true (is_active (is_spawned m.units) u) (u.counts.steps == budget) f.2).1 }

  picked : (count : ℕ) → Stops (picks (is_spawned m.units) m.units count r.state)
  picked count = by_test (count == 0) (count == 1)
    where
      by_test : (none one : Bool) →
          Stops (if none then choice.Done else (if one then choice.Step (place_of (is_spawned m.units) m.units 0) else choice.Step (place_of (is_spawned m.units) m.units (picker.choice (picker.next_state r.state) count))))
      by_test true one = tt
      by_test false true = tt
      by_test false false = tt

  by_finds : (t s : Option Unit) → find (is_trapped image m.start budget (is_spawned m.units)) m.units ≡ t → find (is_spent budget (is_spawned m.units)) m.units ≡ s → Stops (choice_by image m r.state t s)
  by_finds (Some u) s is_t is_s = trapped u is_t
  by_finds None (Some u) is_t is_s = spent u is_s
  by_finds None None is_t is_s = picked (count_by (is_active (is_spawned m.units)) m.units)

  stops : Stops (choice_of image budget r)
  stops = by_finds _ _ refl refl

  pub trap_stops : (trap : Trap) → choice_of image budget r ≡ choice.Trap trap → Traps image r.machine
  trap_stops trap is = subst Stops is stops

  pub spent_stops : (unit steps : ℕ) → choice_of image budget r ≡ choice.Spent unit steps → Spends budget r.machine
  spent_stops unit steps is = subst Stops is stops
