-- Turns of the kept machine.
use Rattle.std.proofs.Common.{◌≡◌, refl, sym, ap, ◌∙◌, subst, ℕ, ◌+◌, ◌<◌, ◌^◌, ◌%◌, true, false, List, map, Some, slice_get, slice_set, slice_index, arith}
use Rattle.std.specs.Prelude.{⊤}
use Rattle.std.proofs.lemmas.Option.{slice_get-map}
use Rattle.std.specs.Option.{IfSome}
use Rattle.xmt_isa.specs.declared.image.Image.{Image}
use Rattle.xmt_isa.specs.declared.unit.Unit.{Unit}
use Rattle.xmt_isa.specs.declared.unit.UnitState.{UnitState}
use Rattle.xmt_isa.specs.declared.unit.UnitState.TheVariants as state
use Rattle.xmt_isa.specs.declared.unit.Start.{Start}
use Rattle.xmt_isa.specs.declared.unit.Request.{Request}
use Rattle.xmt_isa.specs.declared.unit.Request.TheVariants as request
use Rattle.xmt_isa.specs.declared.unit.Next.{Next}
use Rattle.xmt_isa.specs.declared.unit.Next.TheVariants.{Local, Ask}
use Rattle.xmt_isa.specs.Step.{next_of, local_of, answer_of}
use Rattle.xmt_isa.specs.Machine.{Machine, turn, moves, is_stopped}
use Rattle.xmt_isa.specs.Picked.{is_live, is_active}
use Rattle.unit_steps.specs.Steps.{DoesNext, answered}
use Rattle.tcu_engine.specs.Asks.{ask_of, is_request}
use Rattle.tcu_engine.specs.declared.ask.Ask as engine
use Rattle.tcu_engine.specs.declared.ask.Ask.TheVariants as ask
use Rattle.machine_turns.specs.declared.seats.Seat.{Seat}
use Rattle.machine_turns.specs.declared.machine.Machine as kept
use Rattle.machine_turns.specs.Seats.{free, Means, Replaced}
use Rattle.machine_turns.specs.Kept.{Kept, MayGo, IsAt}
use Rattle.machine_turns.specs.View.{seen, seen_seat, machine_of}
use Rattle.machine_turns.specs.Goes.{Goes}
use Rattle.machine_turns.proofs.Frees.{IsAnswered, free_same, next_free, answer_free, local_stepped, answer_stepped}
use Rattle.machine_turns.proofs.Seen.{some_of, at_some, may_go, seen_active, Puts, puts}

-- a turn of a unit that is there
pub turn_at : (image : Image) (m : Machine) (k : ℕ) (u : Unit) (next : Next) → slice_get m.units k ≡ Some u → next_of image m.start u ≡ next → turn image m k ≡ moves image m k u next
turn_at image m k u next here does = rw (here, does) refl

pub same_machine : (us us' : List Unit) (ws ws' : List ℕ) (d d' : ℕ) (s s' : Start) (o : List ℕ) → us ≡ us' → ws ≡ ws' → d ≡ d' → s ≡ s'
    → (let left : Machine = record { units = us; words = ws; drawn = d; start = s; out = o } in let right : Machine = record { units = us'; words = ws'; drawn = d'; start = s'; out = o } in left ≡ right)
same_machine us us' ws ws' d d' s s' o a b c e = rw (a, b, c, e) refl

-- ---- the unit in a place that has a turn

pub record Turning (image : Image) (budget : ℕ) (m : kept.Machine) (k : ℕ) (asked : engine.Ask) : Type 0 where
  pub seat : Seat
  pub there : slice_get m.seats.items k ≡ Some seat
  pub active : is_active m.spawned seat.unit ≡ true
  pub asks : seat.ask ≡ asked
  pub may : MayGo image m.start budget seat
  pub means : Means image m.start budget seat.unit asked
  pub seen : slice_get (map (seen_seat m.spawned) m.seats.items) k ≡ Some (free seat.unit)

abbrev pub turning_by : (image : Image) (budget : ℕ) (m : kept.Machine) (k : ℕ) (asked : engine.Ask) (s : Seat) → Kept image budget m → slice_get m.seats.items k ≡ Some s → is_active m.spawned s.unit ≡ true → s.ask ≡ asked → Turning image budget m k asked
turning_by image budget m k asked s kept there active asks =
    let may : MayGo image m.start budget s = may_go image budget m k s kept there active in
    let shown : seen m.spawned s.unit ≡ free s.unit = seen_active m.spawned s.unit active in
    record {
      seat = s;
      there = there;
      active = active;
      asks = asks;
      may = may;
      means = subst (λ (a : engine.Ask). Means image m.start budget s.unit a) asks may.tells.means;
      seen = rw (slice_get-map (seen_seat m.spawned) m.seats.items k, there) (ap (λ (u : Unit). Some u) shown);
    }

pub turning : (image : Image) (budget : ℕ) (m : kept.Machine) (k : ℕ) (asked : engine.Ask) → Kept image budget m → IsAt m k asked → Turning image budget m k asked
turning image budget m k asked kept is =
    let found = some_of (slice_get m.seats.items k) (λ (s : Seat). (is_active m.spawned s.unit ≡ true) × (s.ask ≡ asked)) is in
    turning_by image budget m k asked found.0 kept found.1 found.2.0 found.2.1

-- what calls for that unit require
pub turning_may : (image : Image) (budget : ℕ) (m : kept.Machine) (k : ℕ) (asked : engine.Ask) → Kept image budget m → IsAt m k asked → IfSome (slice_get m.seats.items k) (MayGo image m.start budget)
turning_may image budget m k asked kept is =
    let t : Turning image budget m k asked = turning image budget m k asked kept is in
    rw t.there t.may

pub turning_asks : (m : kept.Machine) (k : ℕ) (asked : engine.Ask) (P : engine.Ask → Type 0) → IsAt m k asked → P asked → IfSome (slice_get m.seats.items k) (λ s. P s.ask)
turning_asks m k asked P is holds =
    let found = some_of (slice_get m.seats.items k) (λ (s : Seat). (is_active m.spawned s.unit ≡ true) × (s.ask ≡ asked)) is in
    let there : slice_get m.seats.items k ≡ Some found.0 = found.1 in
    rw there (subst P (sym found.2.1) holds)

-- ---- units behind plain requests

not_stopped : (s : UnitState) → is_live s ≡ true → is_stopped s ≡ false
not_stopped state.Draws live = refl
not_stopped state.Runs live = refl
not_stopped state.Stopped live = absurd cc
not_stopped state.Halted live = refl

-- a request that is answered with a word, or with nothing
abbrev pub IsPlain : Request → Type 0
IsPlain (request.Spawn ask) = ⊥
IsPlain request.Draw = ⊥
IsPlain other = ⊤

plain_answered : (r : Request) → IsPlain r → IsAnswered r
plain_answered (request.Spawn ask) plain = plain
plain_answered request.Draw plain = tt
plain_answered (request.Load word) plain = tt
plain_answered (request.Store word value) plain = tt
plain_answered (request.Add word value) plain = tt
plain_answered (request.Print text) plain = tt

plain_draws : (r : Request) → IsPlain r → r ≡ request.Draw → ⊥
plain_draws (request.Spawn ask) plain is = plain
plain_draws request.Draw plain is = plain
plain_draws (request.Load word) plain is = cc
plain_draws (request.Store word value) plain is = cc
plain_draws (request.Add word value) plain is = cc
plain_draws (request.Print text) plain is = cc

does_of : (image : Image) (start : Start) (budget : ℕ) (u : Unit) (r : Request) → Means image start budget u (ask_of r) → DoesNext image start budget u (Ask r)
does_of image start budget u (request.Spawn ask) means = means
does_of image start budget u request.Draw means = means
does_of image start budget u (request.Load word) means = means
does_of image start budget u (request.Store word value) means = means
does_of image start budget u (request.Add word value) means = means
does_of image start budget u (request.Print text) means = means

behind_plain : (image : Image) (start : Start) (u : Unit) (w : ℕ) → w < 2 ^ 32 → free (answer_of image start u (w % 2 ^ 32)) ≡ answer_of image start (free u) w
behind_plain image start u w less =
    let same : w % 2 ^ 32 ≡ w = omega (arith, less) in
    ap (λ v. free (answer_of image start u v)) same ∙ sym (answer_free image start u w)

answered_plain : (image : Image) (start : Start) (u : Unit) (w : ℕ) (r : Request) → IsPlain r → w < 2 ^ 32 → next_of image start u ≡ Ask r → answered image start u w ≡ answer_of image start (free u) w
answered_plain image start u w (request.Spawn ask) plain less is = absurd plain
answered_plain image start u w request.Draw plain less is = absurd plain
answered_plain image start u w (request.Load word) plain less is = rw is (behind_plain image start u w less)
answered_plain image start u w (request.Store word value) plain less is = rw is (behind_plain image start u w less)
answered_plain image start u w (request.Add word value) plain less is = rw is (behind_plain image start u w less)
answered_plain image start u w (request.Print text) plain less is = rw is (behind_plain image start u w less)

-- ---- another unit in its place

module _ (image : Image) (budget k : ℕ) (old new : kept.Machine) (asked : engine.Ask) (kept_old : Kept image budget old) (t : Turning image budget old k asked) where
  pub kept_on : (known : Unit) → Replaced image old.start budget old.seats.items new.seats.items k known → known.number ≡ t.seat.unit.number → (old.spawned ≡ true → is_stopped known.state ≡ false)
      → new.start ≡ old.start → new.spawned ≡ old.spawned
      → Kept image budget new × (map (seen_seat new.spawned) new.seats.items ≡ slice_set (map (seen_seat old.spawned) old.seats.items) k known)
  kept_on known replaced number runs same_start same_spawned =
      let made : Puts image budget old.start old.spawned (map (seen_seat old.spawned) old.seats.items) new.seats.items k known =
      puts image budget old new.seats.items k t.seat known kept_old t.there t.active replaced number runs in (
        record {
          valid = kept_old.valid;
          master = made.master;
          others = made.others;
          are = made.are;
          some = made.some;
          holds = rw (same_start, same_spawned) made.holds;
        },
        rw same_spawned made.units,
      )

  -- an instruction that touches the unit alone
  pub goes_alone : asked ≡ ask.Pause → Replaced image old.start budget old.seats.items new.seats.items k (local_of image old.start t.seat.unit)
      → new.words.items ≡ old.words.items → new.drawn ≡ old.drawn → new.start ≡ old.start → new.spawned ≡ old.spawned → Goes image budget k old new
  goes_alone pauses replaced words drawn same_start same_spawned =
      let u : Unit = t.seat.unit in
      let does : DoesNext image old.start budget u Local = rw pauses at t.means in
      let waits : free u ≡ u = free_same u (t.may.tells.waits ∙ ap (λ a. is_request a) (t.asks ∙ pauses)) in
      let stepped = local_stepped image old.start u does.next in
      let made = kept_on (local_of image old.start u) replaced stepped.0.number (λ spawned. stepped.1 (not_stopped u.state does.live)) same_start same_spawned in
      record {
        kept = made.0;
        turns = λ out.
            same_machine _ (slice_set (map (seen_seat old.spawned) old.seats.items) k (local_of image old.start (free u))) _ old.words.items _ old.drawn _ old.start out
            (made.1 ∙ ap (λ v. slice_set (map (seen_seat old.spawned) old.seats.items) k (local_of image old.start v)) (sym waits)) words drawn same_start
            ∙ sym (turn_at image (machine_of old out) k (free u) Local t.seen (next_free image old.start u ∙ does.next));
      }

  -- a request that is answered with a word, or with nothing
  pub goes_plain : (r : Request) (w : ℕ) → IsPlain r → asked ≡ ask_of r → w < 2 ^ 32 → Replaced image old.start budget old.seats.items new.seats.items k (answered image old.start t.seat.unit w)
      → new.start ≡ old.start → new.spawned ≡ old.spawned
      → Kept image budget new × (map (seen_seat new.spawned) new.seats.items ≡ slice_set (map (seen_seat old.spawned) old.seats.items) k (answer_of image old.start (free t.seat.unit) w))
  goes_plain r w plain asks less replaced same_start same_spawned =
      let u : Unit = t.seat.unit in
      let does : DoesNext image old.start budget u (Ask r) = does_of image old.start budget u r (rw asks at t.means) in
      let same : answered image old.start u w ≡ answer_of image old.start (free u) w = answered_plain image old.start u w r plain less does.next in
      let back : answer_of image old.start (free u) w ≡ free (answer_of image old.start u w) = answer_free image old.start u w in
      let stepped = answer_stepped image old.start u w r does.next (plain_answered r plain) in
      let state : (answered image old.start u w).state ≡ u.state = ap (λ (v : Unit). v.state) (same ∙ back) ∙ stepped.1 (plain_draws r plain) in
      let number : (answered image old.start u w).number ≡ u.number = ap (λ (v : Unit). v.number) (same ∙ back) ∙ stepped.0.number in
      let made = kept_on (answered image old.start u w) replaced number (λ spawned. ap (λ s. is_stopped s) state ∙ not_stopped u.state does.live) same_start same_spawned in
      (made.0, made.1 ∙ ap (λ v. slice_set (map (seen_seat old.spawned) old.seats.items) k v) same)

pub turned_load : (image : Image) (budget k : ℕ) (old new : kept.Machine) (at w : ℕ) → Kept image budget old → IsAt old k (ask.Load at)
    → IfSome (slice_get old.seats.items k) (λ s. Replaced image old.start budget old.seats.items new.seats.items k (answered image old.start s.unit w))
    → w ≡ slice_index old.words.items at → w < 2 ^ 32 → new.words.items ≡ old.words.items → new.drawn ≡ old.drawn → new.start ≡ old.start → new.spawned ≡ old.spawned → Goes image budget k old new
turned_load image budget k old new at w kept is replaced value less words drawn same_start same_spawned =
    let t : Turning image budget old k (ask.Load at) = turning image budget old k (ask.Load at) kept is in
    let made = goes_plain image budget k old new (ask.Load at) kept t (request.Load at) w tt refl less (at_some _ _ t.seat t.there replaced) same_start same_spawned in
    let does : DoesNext image old.start budget t.seat.unit (Ask (request.Load at)) = t.means in
    record {
      kept = made.0;
      turns = λ out.
          same_machine _ (slice_set (map (seen_seat old.spawned) old.seats.items) k (answer_of image old.start (free t.seat.unit) (slice_index old.words.items at))) _ old.words.items _ old.drawn _ old.start out
          (made.1 ∙ ap (λ v. slice_set (map (seen_seat old.spawned) old.seats.items) k (answer_of image old.start (free t.seat.unit) v)) value) words drawn same_start
          ∙ sym (turn_at image (machine_of old out) k (free t.seat.unit) (Ask (request.Load at)) t.seen (next_free image old.start t.seat.unit ∙ does.next));
    }

pub turned_store : (image : Image) (budget k : ℕ) (old new : kept.Machine) (at value : ℕ) → Kept image budget old → IsAt old k (ask.Store at value)
    → IfSome (slice_get old.seats.items k) (λ s. Replaced image old.start budget old.seats.items new.seats.items k (answered image old.start s.unit 0))
    → new.words.items ≡ slice_set old.words.items at value → new.drawn ≡ old.drawn → new.start ≡ old.start → new.spawned ≡ old.spawned → Goes image budget k old new
turned_store image budget k old new at value kept is replaced words drawn same_start same_spawned =
    let t : Turning image budget old k (ask.Store at value) = turning image budget old k (ask.Store at value) kept is in
    let made = goes_plain image budget k old new (ask.Store at value) kept t (request.Store at value) 0 tt refl (omega arith) (at_some _ _ t.seat t.there replaced) same_start same_spawned in
    let does : DoesNext image old.start budget t.seat.unit (Ask (request.Store at value)) = t.means in
    record {
      kept = made.0;
      turns = λ out.
          same_machine _ (slice_set (map (seen_seat old.spawned) old.seats.items) k (answer_of image old.start (free t.seat.unit) 0)) _ (slice_set old.words.items at value) _ old.drawn _ old.start out made.1 words drawn same_start
          ∙ sym (turn_at image (machine_of old out) k (free t.seat.unit) (Ask (request.Store at value)) t.seen (next_free image old.start t.seat.unit ∙ does.next));
    }

pub turned_add : (image : Image) (budget k : ℕ) (old new : kept.Machine) (at value w : ℕ) → Kept image budget old → IsAt old k (ask.Add at value)
    → IfSome (slice_get old.seats.items k) (λ s. Replaced image old.start budget old.seats.items new.seats.items k (answered image old.start s.unit w))
    → w ≡ slice_index old.words.items at → w < 2 ^ 32 → new.words.items ≡ slice_set old.words.items at ((slice_index old.words.items at + value) % 2 ^ 32) → new.drawn ≡ old.drawn → new.start ≡ old.start → new.spawned ≡ old.spawned → Goes image budget k old new
turned_add image budget k old new at value w kept is replaced read less words drawn same_start same_spawned =
    let t : Turning image budget old k (ask.Add at value) = turning image budget old k (ask.Add at value) kept is in
    let made = goes_plain image budget k old new (ask.Add at value) kept t (request.Add at value) w tt refl less (at_some _ _ t.seat t.there replaced) same_start same_spawned in
    let does : DoesNext image old.start budget t.seat.unit (Ask (request.Add at value)) = t.means in
    record {
      kept = made.0;
      turns = λ out.
          same_machine _ (slice_set (map (seen_seat old.spawned) old.seats.items) k (answer_of image old.start (free t.seat.unit) (slice_index old.words.items at))) _ (slice_set old.words.items at ((slice_index old.words.items at + value) % 2 ^ 32)) _ old.drawn _ old.start out
          (made.1 ∙ ap (λ v. slice_set (map (seen_seat old.spawned) old.seats.items) k (answer_of image old.start (free t.seat.unit) v)) read) words drawn same_start
          ∙ sym (turn_at image (machine_of old out) k (free t.seat.unit) (Ask (request.Add at value)) t.seen (next_free image old.start t.seat.unit ∙ does.next));
    }

pub turned_alone : (image : Image) (budget k : ℕ) (old new : kept.Machine) → Kept image budget old → IsAt old k ask.Pause
    → IfSome (slice_get old.seats.items k) (λ s. Replaced image old.start budget old.seats.items new.seats.items k (local_of image old.start s.unit))
    → new.words.items ≡ old.words.items → new.drawn ≡ old.drawn → new.start ≡ old.start → new.spawned ≡ old.spawned → Goes image budget k old new
turned_alone image budget k old new kept is replaced words drawn same_start same_spawned =
    let t : Turning image budget old k ask.Pause = turning image budget old k ask.Pause kept is in
    goes_alone image budget k old new ask.Pause kept t refl (at_some _ _ t.seat t.there replaced) words drawn same_start same_spawned
