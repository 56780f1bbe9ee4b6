-- Turns that add one step.
use Rattle.std.proofs.Common.{◌≡◌, ℕ, ◌∷◌, [], ◌^◌, length, sym, subst, ◌+◌, ◌-◌, ◌<◌, ◌≤◌, Bool, true, false, if◌then◌else◌, List, Some, map, sum_by, get_or, slice_get, slice_set, All, ap, refl, ◌∙◌, arith}
use Rattle.std.specs.List.{list_all}
use Rattle.std.proofs.lemmas.Option.{get_or_from_slice_get, slice_get-map}
use Rattle.std.proofs.lemmas.List.Elements.{All-nil, All-cons}
use Rattle.std.proofs.lemmas.List.{map-set}
use Rattle.std.proofs.lemmas.List.Sums.{sum_by-set}
use Rattle.std.specs.Option.{IsSomeAnd}
use Rattle.xmt_isa.specs.declared.image.Image.{Image}
use Rattle.xmt_isa.specs.declared.unit.Start.{Start}
use Rattle.xmt_isa.specs.declared.unit.Unit.{Unit}
use Rattle.xmt_isa.specs.declared.unit.Request.{Request}
use Rattle.xmt_isa.specs.declared.unit.Request.TheVariants as request
use Rattle.xmt_isa.specs.declared.unit.Next.{Next}
use Rattle.xmt_isa.specs.declared.unit.Next.TheVariants.{Local, Trap, Ask}
use Rattle.xmt_isa.specs.Picked.{is_trap, is_active}
use Rattle.xmt_isa.specs.Step.{more, next_of, answer_of}
use Rattle.xmt_isa.specs.Machine.{Machine, turn, moves, serves, joins, resumes, ready, waits_for, is_stopped}
use Rattle.unit_steps.specs.Steps.{DoesNext}
use Rattle.tcu_engine.specs.declared.ask.Ask as engine
use Rattle.machine_turns.specs.declared.seats.Seat.{Seat}
use Rattle.machine_turns.specs.declared.machine.Machine as kept
use Rattle.machine_turns.specs.Seats.{free, Means}
use Rattle.machine_turns.specs.Steps.{steps_of, Advances, IsWithin, steps_left}
use Rattle.machine_turns.specs.Kept.{IsIdle, IsRunning, KeptBy, Kept, MayGo}
use Rattle.machine_turns.specs.View.{seen, seen_seat, machine_of}
use Rattle.machine_turns.specs.Goes.{SeatGoesOn}
use Rattle.machine_turns.proofs.Frees.{next_free, local_stepped, answer_stepped}
use Rattle.machine_turns.proofs.Seen.{some_of, some_inside, all_at, frees, may_go, active_live, seen_active, seen_master, seen_running}
use Rattle.machine_turns.proofs.Idle.{all_head, all_tail}
use Rattle.machine_turns.proofs.Moved.{turn_at}
use Rattle.machine_turns.proofs.Choices.{goes_does, both_false}

-- ---- which turns add a step

joins_steps_by : (image : Image) (start : Start) (b : Bool) (x : Unit) (us : List Unit) → map steps_of (if b then resumes image start x ∷ us else x ∷ us) ≡ map steps_of (x ∷ us)
joins_steps_by image start true x us = refl
joins_steps_by image start false x us = refl

joins_steps : (image : Image) (start : Start) (us : List Unit) → map steps_of (joins image start us) ≡ map steps_of us
joins_steps image start [] = refl
joins_steps image start (x ∷ us) = joins_steps_by image start (list_all (λ u. is_stopped u.state) us) x us

ready_steps : (us : List Unit) → map steps_of (map ready us) ≡ map steps_of us
ready_steps [] = refl
ready_steps (u ∷ us) = ap (λ ss. steps_of u ∷ ss) (ready_steps us)

-- the unit in one place was replaced by one with one more step
advances_by : (units : List Unit) (k : ℕ) (u after : Unit) → steps_of after ≡ more (steps_of u) → Advances units (slice_set units k after) k u
advances_by units k u after step = map-set steps_of units k after ∙ ap (λ s. slice_set (map steps_of units) k s) step

serves_advance : (image : Image) (m : Machine) (k : ℕ) (u : Unit) (r : Request) → next_of image m.start u ≡ Ask r → Advances m.units (serves image m k u r).units k u
serves_advance image m k u (request.Load at) does = advances_by m.units k u _ (answer_stepped image m.start u _ (request.Load at) does tt).0.steps
serves_advance image m k u (request.Store at value) does = advances_by m.units k u _ (answer_stepped image m.start u _ (request.Store at value) does tt).0.steps
serves_advance image m k u (request.Add at value) does = advances_by m.units k u _ (answer_stepped image m.start u _ (request.Add at value) does tt).0.steps
serves_advance image m k u (request.Print text) does = advances_by m.units k u _ (answer_stepped image m.start u _ (request.Print text) does tt).0.steps
serves_advance image m k u request.Draw does =
    joins_steps image m.start (slice_set m.units k (answer_of image m.start u m.drawn)) ∙ advances_by m.units k u _ (answer_stepped image m.start u _ request.Draw does tt).0.steps
serves_advance image m k u (request.Spawn ask) does = map-set steps_of (map ready m.units) k (waits_for u) ∙ ap (λ ss. slice_set ss k (more (steps_of u))) (ready_steps m.units)

moves_advance : (image : Image) (m : Machine) (k : ℕ) (u : Unit) (n : Next) → next_of image m.start u ≡ n → is_trap n ≡ false → Advances m.units (moves image m k u n).units k u
moves_advance image m k u Local does free = advances_by m.units k u _ (local_stepped image m.start u does).0.steps
moves_advance image m k u (Trap kind) does free = absurd cc
moves_advance image m k u (Ask r) does free = serves_advance image m k u r does

-- ---- steps within the budget

-- one step fewer is left
left_falls : (budget : ℕ) (steps : List ℕ) (k s : ℕ) → slice_get steps k ≡ Some s → s < budget → sum_by (λ n. budget - n) (slice_set steps k (s + 1)) < sum_by (λ n. budget - n) steps
left_falls budget steps k s there left =
    let here : get_or steps k 0 ≡ s = get_or_from_slice_get steps k s 0 there in
    let sums : sum_by (λ n. budget - n) (slice_set steps k (s + 1)) + (budget - get_or steps k 0) ≡ sum_by (λ n. budget - n) steps + (budget - (s + 1)) = sum_by-set (λ n. budget - n) steps k (s + 1) 0 (some_inside steps k s there) in
    omega (arith, rw here at sums, left)

-- the number of steps of the unit that is there
steps_at : (units : List Unit) (k : ℕ) (u : Unit) → slice_get units k ≡ Some u → slice_get (map steps_of units) k ≡ Some (steps_of u)
steps_at units k u there = rw (slice_get-map steps_of units k, there) refl

-- and so fewer steps are left
left_after : (budget : ℕ) (old new : List Unit) (k : ℕ) (u : Unit) → budget < 2 ^ 64 → slice_get old k ≡ Some u → steps_of u < budget → Advances old new k u → steps_left budget new < steps_left budget old
left_after budget old new k u fits there left advances =
    let one_more : more (steps_of u) ≡ steps_of u + 1 = omega (arith, left, fits) in
    rw (advances, one_more) (left_falls budget (map steps_of old) k (steps_of u) (steps_at old k u there) left)

-- the kept units are within the budget
within_running : (image : Image) (start : Start) (budget : ℕ) (seats : List Seat) → All (IsRunning image start budget) seats → IsWithin budget (frees seats)
within_running image start budget [] running = All-nil (λ s. s ≤ budget)
within_running image start budget (s ∷ seats) running =
    All-cons (λ n. n ≤ budget) (steps_of s.unit) (map steps_of (frees seats)) (all_head (IsRunning image start budget) s seats running).tells.within
    (within_running image start budget seats (all_tail (IsRunning image start budget) s seats running))

within_idle : (image : Image) (budget : ℕ) (seats : List Seat) → All (IsIdle image budget) seats → IsWithin budget (frees seats)
within_idle image budget [] idle = All-nil (λ s. s ≤ budget)
within_idle image budget (s ∷ seats) idle =
    All-cons (λ n. n ≤ budget) (steps_of s.unit) (map steps_of (frees seats)) (all_head (IsIdle image budget) s seats idle).within
    (within_idle image budget seats (all_tail (IsIdle image budget) s seats idle))

within_by : (image : Image) (budget : ℕ) (start : Start) (spawned : Bool) (master : Seat) (others : List Seat) → KeptBy image budget start spawned master others → IsWithin budget (map (seen_seat spawned) (master ∷ others))
within_by image budget start true master others held =
    let view : map (seen_seat true) others ≡ frees others = seen_running image start budget true others (λ k s there. (all_at (IsRunning image start budget) others k s held.running there).number) in
    let means : DoesNext image start budget master.unit (Ask (request.Spawn held.spawn)) = subst (λ (a : engine.Ask). Means image start budget master.unit a) held.asks held.tells.means in
    let below : steps_of master.unit < budget = means.below in
    let one : more (steps_of master.unit) ≤ budget = omega (arith, below) in
    let whole : waits_for master.unit ∷ frees others ≡ map (seen_seat true) (master ∷ others) =
    sym (ap (λ us. seen true master.unit ∷ us) view ∙ ap (λ u. u ∷ frees others) (seen_master master.unit held.number)) in
    let all : IsWithin budget (waits_for master.unit ∷ frees others) = All-cons (λ n. n ≤ budget) (more (steps_of master.unit)) (map steps_of (frees others)) one (within_running image start budget others held.running) in
    subst (λ us. IsWithin budget us) whole all
within_by image budget start false master others held =
    All-cons (λ n. n ≤ budget) (steps_of master.unit) (map steps_of (frees others)) held.tells.within (within_idle image budget others held.idle)

pub kept_within : (image : Image) (budget : ℕ) (m : kept.Machine) → Kept image budget m → IsWithin budget (map (seen_seat m.spawned) m.seats.items)
kept_within image budget m kept_m = rw kept_m.are (within_by image budget m.start m.spawned kept_m.master kept_m.others kept_m.holds)

-- ---- the turn of a unit that goes on

pub record Going (image : Image) (budget : ℕ) (m : kept.Machine) (k : ℕ) : Type 0 where
  pub unit : Unit
  pub there : slice_get (map (seen_seat m.spawned) m.seats.items) k ≡ Some unit
  pub active : is_active m.spawned unit ≡ true
  pub below : steps_of unit < budget
  pub untrapped : is_trap (next_of image m.start unit) ≡ false

going_by : (image : Image) (budget : ℕ) (m : kept.Machine) (k : ℕ) (s : Seat) → Kept image budget m → slice_get m.seats.items k ≡ Some s → SeatGoesOn m.spawned s → Going image budget m k
going_by image budget m k s kept_m there goes =
    let may : MayGo image m.start budget s = may_go image budget m k s kept_m there goes.active in
    let facts = goes_does image m.start budget s.unit s.ask may.tells.means (active_live m.spawned s.unit goes.active) (both_false _ _ goes.active goes.untrapped) (both_false _ _ goes.active goes.unspent) in
    record {
      unit = free s.unit;
      there = rw (slice_get-map (seen_seat m.spawned) m.seats.items k, there) (ap (λ (u : Unit). Some u) (seen_active m.spawned s.unit goes.active));
      active = goes.active;
      below = facts.0;
      untrapped = rw (next_free image m.start s.unit) facts.1;
    }

pub going : (image : Image) (budget : ℕ) (m : kept.Machine) (k : ℕ) → Kept image budget m → IsSomeAnd (slice_get m.seats.items k) (SeatGoesOn m.spawned) → Going image budget m k
going image budget m k kept_m goes =
    let found = some_of (slice_get m.seats.items k) (SeatGoesOn m.spawned) goes in
    going_by image budget m k found.0 kept_m found.1 found.2

-- the unit that has a turn is there
pub goes_inside : (m : kept.Machine) (k : ℕ) → IsSomeAnd (slice_get m.seats.items k) (SeatGoesOn m.spawned) → k < length m.seats.items
goes_inside m k goes = let found = some_of (slice_get m.seats.items k) (SeatGoesOn m.spawned) goes in some_inside m.seats.items k found.0 found.1

-- its turn leaves fewer steps
pub fewer_left : (image : Image) (budget : ℕ) (old new : kept.Machine) (k : ℕ) (out more_out : List ℕ) → budget < 2 ^ 64 → Kept image budget old → IsSomeAnd (slice_get old.seats.items k) (SeatGoesOn old.spawned)
    → machine_of new more_out ≡ turn image (machine_of old out) k → steps_left budget (map (seen_seat new.spawned) new.seats.items) < steps_left budget (map (seen_seat old.spawned) old.seats.items)
fewer_left image budget old new k out more_out fits kept_old goes turned =
    let g : Going image budget old k = going image budget old k kept_old goes in
    let advances : Advances (machine_of old out).units (moves image (machine_of old out) k g.unit (next_of image old.start g.unit)).units k g.unit = moves_advance image (machine_of old out) k g.unit _ refl g.untrapped in
    let same : map (seen_seat new.spawned) new.seats.items ≡ (moves image (machine_of old out) k g.unit (next_of image old.start g.unit)).units =
    ap (λ (m : Machine). m.units) (turned ∙ turn_at image (machine_of old out) k g.unit (next_of image old.start g.unit) g.there refl) in
    left_after budget (map (seen_seat old.spawned) old.seats.items) (map (seen_seat new.spawned) new.seats.items) k g.unit fits g.there g.below (ap (λ us. map steps_of us) same ∙ advances)
