-- Turns of the only active unit, one after another, in which it runs instructions of its own.
use Rattle.std.proofs.Common.{◌≡◌, refl, sym, ap, ◌∙◌, ℕ, zero, suc, ◌<◌, ◌≤◌, ◌^◌, ◌&&◌, Bool, true, false, List, [], ◌∷◌, length, Some, slice_get, slice_set, arith}
use Rattle.std.specs.Vec.{with_item}
use Rattle.std.specs.Option.{IsSomeAnd, IfSome}
use Rattle.std.proofs.lemmas.List.{length-set}
use Rattle.xmt_isa.specs.declared.image.Image.{Image}
use Rattle.xmt_isa.specs.declared.run.Choice.TheVariants as choice
use Rattle.xmt_isa.specs.declared.unit.Unit.{Unit}
use Rattle.xmt_isa.specs.declared.unit.Start.{Start}
use Rattle.xmt_isa.specs.Step.{is_due, local_of}
use Rattle.xmt_isa.specs.Picked.{is_live, is_active, state_after}
use Rattle.unit_steps.specs.Steps.{RunsAlone}
use Rattle.xmt_isa.specs.Fits.{UnitFits}
use Rattle.tcu_engine.specs.Asks.{is_request}
use Rattle.tcu_engine.specs.declared.ask.Ask.{Ask}
use Rattle.tcu_engine.specs.declared.ask.Ask.TheVariants as ask
use Rattle.tcu_engine.proofs.Runs.{turned}
use Rattle.machine_turns.specs.declared.seats.Seat.{Seat}
use Rattle.machine_turns.specs.declared.machine.Machine as kept
use Rattle.machine_turns.specs.Seats.{free, Means, Tells, HasRunOn, RanOn}
use Rattle.machine_turns.specs.Kept.{Kept, IsAt}
use Rattle.machine_turns.specs.Runs.{RunsOn}
use Rattle.machine_turns.specs.Goes.{Goes, SeatGoesOn}
use Rattle.machine_turns.specs.Sole.{sole_place, OnlyActive, sole_choice}
use Rattle.machine_turns.proofs.Advance.{fewer_left}
use Rattle.machine_turns.proofs.Asked.{not_new}
use Rattle.machine_turns.proofs.Choices.{choice_same, count_same}
use Rattle.machine_turns.proofs.Frees.{free_same, local_stepped}
use Rattle.machine_turns.proofs.Legality.{goes_on_turn}
use Rattle.machine_turns.proofs.Moved.{Turning, turning, turning_by, goes_alone}
use Rattle.machine_turns.proofs.Ran.{has_come_further}
use Rattle.machine_turns.proofs.Seen.{at_some}
use Rattle.machine_turns.proofs.Sole.{only_active, sole_chosen, sole_state}
use Rattle.machine_turns.proofs.Turned.{turns_silent}

-- ---- one element replaced

set_twice : {A : Type 0} (xs : List A) (k : ℕ) (a b : A) → slice_set (slice_set xs k a) k b ≡ slice_set xs k b
set_twice [] k a b = refl
set_twice (x ∷ xs) zero a b = refl
set_twice (x ∷ xs) (suc k) a b = ap (λ ys. x ∷ ys) (set_twice xs k a b)

set_there : {A : Type 0} (xs : List A) (k : ℕ) (x y : A) → slice_get xs k ≡ Some x → slice_get (slice_set xs k y) k ≡ Some y
set_there [] k x y there = absurd cc
set_there (z ∷ zs) zero x y there = refl
set_there (z ∷ zs) (suc k) x y there = set_there zs k x y there

sole_set : (spawned : Bool) (seats : List Seat) (k : ℕ) (s : Seat) → sole_place spawned (slice_set seats k s) ≡ sole_place spawned seats
sole_set false seats k s = refl
sole_set true seats k s = rw (length-set seats k s) refl

-- ---- a unit after an instruction of its own

and_second : (a b : Bool) → (a && b) ≡ true → b ≡ true
and_second true b is = is
and_second false b is = absurd cc

and_never : (a b : Bool) → b ≡ false → (a && b) ≡ false
and_never true b is = is
and_never false b is = refl

active_after : (spawned : Bool) (u after : Unit) → is_active spawned u ≡ true → after.number ≡ u.number → is_live after.state ≡ true → is_active spawned after ≡ true
active_after spawned u after active number live = rw (live, number) (and_second _ _ active)

pub alone_due : (image : Image) (start : Start) (budget n : ℕ) (u v : Unit) → RunsAlone image start budget (suc n) u v → is_due v.state ≡ false
alone_due image start budget zero u v (first, same) = ap (λ (w : Unit). is_due w.state) same ∙ (local_stepped image start u first.next).0.due
alone_due image start budget (suc n) u v (first, others) = alone_due image start budget n (local_of image start u) v others

-- ---- turns of the only active unit

pub stays_on : (image : Image) (budget : ℕ) (m : kept.Machine) → Kept image budget m → RunsOn image budget m m
stays_on image budget m kept_m = record { kept = kept_m; come = λ begin state before now come. come; left = omega arith }

on_then : (image : Image) (budget : ℕ) (old mid new : kept.Machine) → RunsOn image budget old mid → RunsOn image budget mid new → RunsOn image budget old new
on_then image budget old mid new first others = record {
  kept = others.kept;
  come = λ begin state before now come. others.come begin state before now (first.come begin state before now come);
  left = omega (arith, first.left, others.left);
}

module _ (image : Image) (budget k : ℕ) (fits : budget < 2 ^ 64) where
  -- one turn of the only active unit, which the generator isn't asked for
  on_once : (old new : kept.Machine) → Kept image budget old → sole_place old.spawned old.seats.items ≡ Some k → Turning image budget old k ask.Pause → Goes image budget k old new → RunsOn image budget old new
  on_once old new kept_old sole t goes =
      let only : OnlyActive old.spawned old.seats.items k = only_active image budget old k kept_old sole in
      let on : SeatGoesOn old.spawned t.seat = record { active = t.active; untrapped = rw t.asks (and_never _ false refl); unspent = rw t.asks (and_never _ false refl) } in
      let there : IsSomeAnd (slice_get old.seats.items k) (SeatGoesOn old.spawned) = rw t.there on in
      let step : choice.Step k ≡ sole_choice old.spawned k t.seat = rw (t.active, t.asks) refl in
      let fewer = fewer_left image budget old new k [] [] fits kept_old there (goes.turns []) in
      record {
        kept = goes.kept;
        come = λ begin state before now come.
            has_come_further image budget begin old new state state k before now now come
            (λ out. step ∙ sole_chosen old.spawned old.seats.items k t.seat t.there only state ∙ choice_same image budget old kept_old out state)
            (sym (ap (λ n. state_after n state) (count_same image budget old kept_old) ∙ sole_state old.spawned old.seats.items k t.seat t.there only state))
            (goes_on_turn image budget old k kept_old there)
            (turns_silent image budget k old new now goes);
        left = omega (arith, fewer);
      }

  -- so many choices of the only active unit are so many turns
  on_by : (n : ℕ) (old new : kept.Machine) (s last : Seat) → Kept image budget old → sole_place old.spawned old.seats.items ≡ Some k
      → slice_get old.seats.items k ≡ Some s → is_active old.spawned s.unit ≡ true → s.ask ≡ ask.Pause
      → RunsAlone image old.start budget (suc n) s.unit (free last.unit) → Tells image old.start budget last.unit last.ask → new.seats.items ≡ slice_set old.seats.items k last
      → new.words.items ≡ old.words.items → new.drawn ≡ old.drawn → new.start ≡ old.start → new.spawned ≡ old.spawned → RunsOn image budget old new
  on_by zero old new s last kept_old sole there active asks (first, same) tells put words drawn same_start same_spawned =
      let t : Turning image budget old k ask.Pause = turning_by image budget old k ask.Pause s kept_old there active asks in
      on_once old new kept_old sole t
      (goes_alone image budget k old new ask.Pause kept_old t refl (record { seat = last; put = put; holds = record { same = same; tells = tells } }) words drawn same_start same_spawned)
  on_by (suc n) old new s last kept_old sole there active asks (first, others) tells put words drawn same_start same_spawned =
      let t : Turning image budget old k ask.Pause = turning_by image budget old k ask.Pause s kept_old there active asks in
      let u : Unit = s.unit in
      let after : Unit = local_of image old.start u in
      let waits : u.waits ≡ false = t.may.tells.waits ∙ rw asks refl in
      let stepped = (local_stepped image old.start u first.next).0 in
      let keeps = turned image old.start budget 0 u u after kept_old.valid refl t.may.tells.fits t.may.has_start waits first refl stepped.steps in
      let seat : Seat = record { unit = after; ask = ask.Pause } in
      let mid : kept.Machine = record old { seats = with_item old.seats k seat } in
      let goes : Goes image budget k old mid = goes_alone image budget k old mid ask.Pause kept_old t refl (record {
        seat = seat;
        put = refl;
        holds = record {
          same = free_same after keeps.free;
          tells = record { begun = keeps.begun; fits = keeps.fits; within = keeps.within; waits = keeps.free; means = others.0 };
        };
      }) refl refl refl refl in
      on_then image budget old mid new (on_once old mid kept_old sole t goes)
      (on_by n mid new seat last goes.kept (sole_set old.spawned old.seats.items k seat ∙ sole) (set_there old.seats.items k s seat there) (active_after old.spawned u after active stepped.number others.0.live) refl
      others tells (put ∙ sym (set_twice old.seats.items k seat last)) words drawn same_start same_spawned)

  pub ran_on : (old new : kept.Machine) → Kept image budget old → sole_place old.spawned old.seats.items ≡ Some k → IsAt old k ask.Pause
      → IfSome (slice_get old.seats.items k) (λ s. RanOn image old.start budget old.seats.items new.seats.items k s.unit)
      → new.words.items ≡ old.words.items → new.drawn ≡ old.drawn → new.start ≡ old.start → new.spawned ≡ old.spawned → RunsOn image budget old new
  ran_on old new kept_old sole is_at ran words drawn same_start same_spawned =
      let t : Turning image budget old k ask.Pause = turning image budget old k ask.Pause kept_old is_at in
      let run : RanOn image old.start budget old.seats.items new.seats.items k t.seat.unit = at_some _ _ t.seat t.there ran in
      on_by run.runs.further old new t.seat run.seat kept_old sole t.there t.active t.asks run.runs.alone run.runs.tells run.put words drawn same_start same_spawned

-- the place of the only active unit is inside
pub sole_inside : (image : Image) (budget : ℕ) (m : kept.Machine) (k : ℕ) → Kept image budget m → sole_place m.spawned m.seats.items ≡ Some k → k < length m.seats.items
sole_inside image budget m k kept_m is = (only_active image budget m k kept_m is).inside

-- a unit that has run some instructions of its own, and what it does next
pub some_alone : (image : Image) (start : Start) (budget count : ℕ) (u v : Unit) (a : Ask) → RunsAlone image start budget count u (free v) → (free v ≡ u → count ≡ 0 → ⊥)
    → UnitFits image start v → v.counts.steps ≤ budget → v.waits ≡ is_request a → Means image start budget v a → HasRunOn image start budget u v a
some_alone image start budget zero u v a alone some fits within waits means = absurd (some alone refl)
some_alone image start budget (suc n) u v a alone some fits within waits means = record {
  further = n;
  alone = alone;
  tells = record { begun = not_new v (alone_due image start budget n u (free v) alone); fits = fits; within = within; waits = waits; means = means };
}
