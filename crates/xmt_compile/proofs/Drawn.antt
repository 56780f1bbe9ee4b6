-- Which threads of a log a control unit is at work at, and where threads stand at traps.
use Rattle.std.proofs.Common.{◌≡◌, refl, sym, ◌∙◌, ap, ℕ, suc, zero, ◌<◌, ◌==◌, ◌&&◌, ◌||◌, Bool, true, false, if◌then◌else◌, List, length, Option, Some, None, slice_get, slice_index, arith, inl, inr}
use Rattle.std.specs.Option.{IfSome}
use Rattle.std.proofs.lemmas.Option.{slice_get_within}
use Rattle.xmt_base.specs.declared.values.TrapKind.{TrapKind}
use Rattle.interleaving.proofs.Interleave.{eq_of}
use Rattle.interleaving.proofs.Grows.{eq_refl}
use Rattle.xmt_isa.specs.declared.image.Image.{Image}
use Rattle.xmt_isa.specs.declared.unit.Unit.{Unit}
use Rattle.xmt_isa.specs.declared.unit.UnitState.{UnitState}
use Rattle.xmt_isa.specs.declared.unit.UnitState.TheVariants.{Draws, Runs, Stopped, Halted}
use Rattle.xmt_isa.specs.declared.unit.Next.{Next}
use Rattle.xmt_isa.specs.declared.unit.Next.TheVariants as next
use Rattle.xmt_isa.specs.Step.{next_of}
use Rattle.xmt_isa.specs.Machine.{Machine}
use Rattle.xmt_isa.specs.Picked.{is_spawned}
use Rattle.xmt_isa.specs.Threads.{Actor, is_running}
use Rattle.xmt_isa.specs.Traces.{IsAtTrap}
use Rattle.machine_log.specs.Log.{Log}
use Rattle.machine_log.specs.Done.{Parts}
use Rattle.machine_log.proofs.Standing.{never_true}
use Rattle.machine_runs.specs.Runs.{IsLogOf}
use Rattle.run_law.specs.Parts.{StandAtTraps}

-- ---- tests

abbrev pub some_below : (ℕ → Bool) → (n : ℕ) → Bool
some_below test zero = false
some_below test (suc n) = test n || some_below test n

pub some_below-is : (test : ℕ → Bool) (n : ℕ) → some_below test n ≡ true → (i : ℕ) × (i < n) × (test i ≡ true)
some_below-is test zero h = cc
some_below-is test (suc n) h = by_test (test n) refl h (λ g. some_below-is test n g)
  where
    by_test : (b : Bool) → test n ≡ b → (b || some_below test n) ≡ true → (some_below test n ≡ true → (i : ℕ) × (i < n) × (test i ≡ true)) → (i : ℕ) × (i < suc n) × (test i ≡ true)
    by_test true e h go = (n, omega arith, e)
    by_test false e h go = let r = go h in (r.0, (let less : r.0 < n = r.1 in omega (arith, less)), r.2)

pub some_below-of : (test : ℕ → Bool) (n i : ℕ) → i < n → test i ≡ true → some_below test n ≡ true
some_below-of test zero i less h = absurd (omega (arith, less))
some_below-of test (suc n) i less h = by_last (n == i) refl (λ below. some_below-of test n i below h)
  where
    either : (b c : Bool) → c ≡ true → (b || c) ≡ true
    either true c e = refl
    either false c e = e

    by_last : (b : Bool) → (n == i) ≡ b → (i < n → some_below test n ≡ true) → (test n || some_below test n) ≡ true
    by_last true e go = (let here : test n ≡ true = ap test (eq_of n i e) ∙ h in rw here refl)
    by_last false e go = either (test n) (some_below test n) (go (grind (arith, less, e)))

pub both_true : (a b : Bool) → (a && b) ≡ true → (a ≡ true) × (b ≡ true)
both_true true b h = (refl, h)
both_true false b h = cc

pub runs_of : (state : UnitState) → is_running state ≡ true → state ≡ Runs
runs_of Draws h = cc
runs_of Runs h = refl
runs_of Stopped h = cc
runs_of Halted h = cc

-- ---- control units at work

abbrev pub runs_at : Option Unit → Bool
runs_at None = false
runs_at (Some u) = is_running u.state

module _ (m : Machine) (p : Parts) where
  abbrev pub runs_here : (thread place : ℕ) → Bool
  runs_here thread place = runs_at (slice_get m.units (suc place)) && (p.runner place == thread)

  -- a control unit is at work at the thread
  abbrev pub is_drawn : (thread : ℕ) → Bool
  is_drawn thread = is_spawned m.units && some_below (runs_here thread) (length m.units)

  pub record IsDrawn (thread : ℕ) : Type 0 where
    pub spawned : is_spawned m.units ≡ true
    pub place : ℕ
    pub unit : Unit
    pub at : slice_get m.units (suc place) ≡ Some unit
    pub runs : unit.state ≡ Runs
    pub is_runner : p.runner place ≡ thread

  some_unit : (o : Option Unit) → runs_at o ≡ true → (u : Unit) × (o ≡ Some u) × (u.state ≡ Runs)
  some_unit None h = cc
  some_unit (Some u) h = (u, refl, runs_of u.state h)

  pub drawn_is : (thread : ℕ) → is_drawn thread ≡ true → IsDrawn thread
  drawn_is thread h =
      let both : (is_spawned m.units ≡ true) × (some_below (runs_here thread) (length m.units) ≡ true) = both_true (is_spawned m.units) (some_below (runs_here thread) (length m.units)) h in
      let found : (i : ℕ) × (i < length m.units) × (runs_here thread i ≡ true) = some_below-is (runs_here thread) (length m.units) both.1 in
      let here : (runs_at (slice_get m.units (suc found.0)) ≡ true) × ((p.runner found.0 == thread) ≡ true) = both_true (runs_at (slice_get m.units (suc found.0))) (p.runner found.0 == thread) found.2 in
      let unit : (u : Unit) × (slice_get m.units (suc found.0) ≡ Some u) × (u.state ≡ Runs) = some_unit (slice_get m.units (suc found.0)) here.0 in
      record { spawned = both.0; place = found.0; unit = unit.0; at = unit.1; runs = unit.2; is_runner = eq_of (p.runner found.0) thread here.1 }

  pub is_drawn_of : (thread : ℕ) → IsDrawn thread → is_drawn thread ≡ true
  is_drawn_of thread d =
      let within : suc d.place < length m.units = slice_get_within m.units (suc d.place) d.unit d.at in
      let here : runs_here thread d.place ≡ true = (let runs : runs_at (slice_get m.units (suc d.place)) ≡ true = ap runs_at d.at ∙ ap is_running d.runs in let same : (p.runner d.place == thread) ≡ true = ap (λ t. t == thread) d.is_runner ∙ eq_refl thread in rw (runs, same) refl) in
      let some : some_below (runs_here thread) (length m.units) ≡ true = some_below-of (runs_here thread) (length m.units) d.place (omega (arith, within)) here in
      rw (d.spawned, some) refl

-- ---- traps

abbrev pub trap_of_next : Next → (line : ℕ) → Option (TrapKind × ℕ)
trap_of_next next.Local line = None
trap_of_next (next.Trap kind) line = Some (kind, line)
trap_of_next (next.Ask ask) line = None

module _ (image : Image) where
  -- the trap at which an actor stands
  abbrev pub trap_here : Actor → Option (TrapKind × ℕ)
  trap_here a = if is_running a.unit.state then trap_of_next (next_of image a.start a.unit) (slice_index image.lines a.unit.at) else None

  abbrev AtTrap : Actor → TrapKind × ℕ → Type 0
  AtTrap a at = IsAtTrap image a at.0 at.1

  trap_holds : (a : Actor) → IfSome (trap_here a) (AtTrap a)
  trap_holds a = by_state (is_running a.unit.state) refl
    where
      by_next : (n : Next) → a.unit.state ≡ Runs → next_of image a.start a.unit ≡ n → IfSome (trap_of_next n (slice_index image.lines a.unit.at)) (AtTrap a)
      by_next next.Local runs is = tt
      by_next (next.Trap kind) runs is = record { runs = runs; traps = is; is_line = refl }
      by_next (next.Ask ask) runs is = tt

      by_state : (b : Bool) → is_running a.unit.state ≡ b → IfSome (if b then trap_of_next (next_of image a.start a.unit) (slice_index image.lines a.unit.at) else None) (AtTrap a)
      by_state true e = by_next (next_of image a.start a.unit) (runs_of a.unit.state e) refl
      by_state false e = tt

  -- of each thread the trap at which it stands; the serial code stands at none while it waits, and a virtual thread only where a unit is at work at it
  abbrev pub trap_at : Machine → Parts → (thread : ℕ) → Option (TrapKind × ℕ)
  trap_at m p zero = if is_spawned m.units then None else trap_here (p.ends 0)
  trap_at m p (suc thread) = if is_drawn m p (suc thread) then trap_here (p.ends (suc thread)) else None

  pub stand_at_traps : (m : Machine) (p : Parts) (count : ℕ) → StandAtTraps image p count (trap_at m p)
  stand_at_traps m p count zero less = by_test (is_spawned m.units)
    where
      by_test : (b : Bool) → IfSome (if b then None else trap_here (p.ends 0)) (AtTrap (p.ends 0))
      by_test true = tt
      by_test false = trap_holds (p.ends 0)
  stand_at_traps m p count (suc thread) less = by_test (is_drawn m p (suc thread))
    where
      by_test : (b : Bool) → IfSome (if b then trap_here (p.ends (suc thread)) else None) (AtTrap (p.ends (suc thread)))
      by_test true = trap_holds (p.ends (suc thread))
      by_test false = tt

  pub trap_here_of : (a : Actor) (kind : TrapKind) → a.unit.state ≡ Runs → next_of image a.start a.unit ≡ next.Trap kind → trap_here a ≡ Some (kind, slice_index image.lines a.unit.at)
  trap_here_of a kind runs is =
      ap (λ b. if b then trap_of_next (next_of image a.start a.unit) (slice_index image.lines a.unit.at) else None) (ap is_running runs) ∙ ap (λ n. trap_of_next n (slice_index image.lines a.unit.at)) is

-- ---- what a log tells of them

module _ (image : Image) (memory : List ℕ) (m : Machine) (log : Log) (p : Parts) (is_log : IsLogOf image memory m log p) where
  -- where a virtual thread lives, the master waits
  pub lives_spawned : (thread : ℕ) → 0 < thread → thread < is_log.world.threads → is_log.world.ended thread ≡ false → is_spawned m.units ≡ true
  lives_spawned thread later less lives = by_test (is_spawned m.units) refl
    where
      by_test : (b : Bool) → is_spawned m.units ≡ b → b ≡ true
      by_test true e = refl
      by_test false e = never_true (sym (is_log.serial e thread later less) ∙ lives)

  -- a thread at which no unit is at work has ended, or has done nothing
  pub undrawn : (thread : ℕ) → 0 < thread → thread < is_log.world.threads → is_log.world.ended thread ≡ false → is_drawn m p thread ≡ false → p.steps thread ≡ 0
  undrawn thread later less lives none = elim (is_log.at_work thread later less lives) [
    | inl idle ↦ idle
    | inr r ↦
        let drawn : is_drawn m p thread ≡ true =
        is_drawn_of m p thread (record { spawned = lives_spawned thread later less lives; place = p.owner thread; unit = r.0; at = r.1; runs = r.2; is_runner = r.4 }) in
        never_true (sym drawn ∙ none)
  ]
