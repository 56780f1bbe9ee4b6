-- A turn of the master in which it begins no section leaves the machine between sections.
use Rattle.std.proofs.Common.{◌≡◌, refl, sym, ap, ◌∙◌, subst, ℕ, Bool, true, false, if◌then◌else◌, List, [], ◌∷◌, Option, Some, slice_get, slice_set}
use Rattle.std.specs.List.{list_all}
use Rattle.std.specs.Option.{IsSomeAnd}
use Rattle.xmt_isa.specs.declared.image.Image.{Image}
use Rattle.xmt_isa.specs.declared.unit.Unit.{Unit}
use Rattle.xmt_isa.specs.declared.unit.UnitState.{UnitState}
use Rattle.xmt_isa.specs.declared.unit.UnitState.TheVariants as state
use Rattle.xmt_isa.specs.declared.unit.Start.{Start}
use Rattle.xmt_isa.specs.declared.unit.SpawnAsk.{SpawnAsk}
use Rattle.xmt_isa.specs.declared.unit.Request.{Request}
use Rattle.xmt_isa.specs.declared.unit.Request.TheVariants as request
use Rattle.xmt_isa.specs.declared.unit.Next.{Next}
use Rattle.xmt_isa.specs.declared.unit.Next.TheVariants as next
use Rattle.xmt_isa.specs.Step.{next_of, answer_of}
use Rattle.xmt_isa.specs.Machine.{Machine, turn, moves, serves, joins, resumes, is_stopped}
use Rattle.xmt_isa.specs.Picked.{is_live, is_active, is_spawned}
use Rattle.tcu_engine.specs.declared.ask.Ask as engine
use Rattle.tcu_engine.specs.declared.ask.Ask.TheVariants as ask
use Rattle.machine_turns.specs.declared.seats.Seat.{Seat}
use Rattle.machine_turns.specs.declared.machine.Machine as kept
use Rattle.machine_turns.specs.Seats.{free, Means}
use Rattle.machine_turns.specs.Kept.{Kept, IsAt}
use Rattle.machine_turns.specs.Goes.{SeatGoesOn, asks_spent}
use Rattle.machine_turns.specs.View.{machine_of}
use Rattle.machine_turns.proofs.Choices.{spawned_seen, both_false}
use Rattle.machine_turns.proofs.Frees.{next_free, local_free, answer_free}
use Rattle.machine_turns.proofs.Moved.{turn_at, Turning, turning_by}
use Rattle.machine_turns.proofs.Seen.{some_of, active_live}

-- ---- who waits behind a turn of the master

put_first : (units : List Unit) (u after : Unit) → slice_get units 0 ≡ Some u → after.waits ≡ false → is_spawned (slice_set units 0 after) ≡ false
put_first [] u after there waits = absurd cc
put_first (x ∷ units) u after there waits = waits

joins_waits_by : (image : Image) (start : Start) (b : Bool) (x : Unit) (us : List Unit) → x.waits ≡ false → is_spawned (if b then resumes image start x ∷ us else x ∷ us) ≡ false
joins_waits_by image start true x us waits = refl
joins_waits_by image start false x us waits = waits

joins_waits : (image : Image) (start : Start) (us : List Unit) → is_spawned us ≡ false → is_spawned (joins image start us) ≡ false
joins_waits image start [] waits = refl
joins_waits image start (x ∷ us) waits = joins_waits_by image start (list_all (λ u. is_stopped u.state) us) x us waits

first_waits : (units : List Unit) (u : Unit) → slice_get units 0 ≡ Some u → u.waits ≡ false → is_spawned units ≡ false
first_waits [] u there waits = refl
first_waits (x ∷ units) u there waits = let same : x ≡ u = cc in ap (λ (v : Unit). v.waits) same ∙ waits

answer_waits : (image : Image) (start : Start) (u : Unit) (value : ℕ) → (answer_of image start (free u) value).waits ≡ false
answer_waits image start u value = ap (λ (v : Unit). v.waits) (answer_free image start u value)

serves_waits : (image : Image) (m : Machine) (u : Unit) (r : Request) → slice_get m.units 0 ≡ Some (free u) → ((s : SpawnAsk) → r ≡ request.Spawn s → ⊥) → is_spawned (serves image m 0 (free u) r).units ≡ false
serves_waits image m u (request.Load at) there other = put_first m.units (free u) _ there (answer_waits image m.start u _)
serves_waits image m u (request.Store at value) there other = put_first m.units (free u) _ there (answer_waits image m.start u _)
serves_waits image m u (request.Add at value) there other = put_first m.units (free u) _ there (answer_waits image m.start u _)
serves_waits image m u (request.Print text) there other = put_first m.units (free u) _ there (answer_waits image m.start u _)
serves_waits image m u request.Draw there other =
    joins_waits image m.start (slice_set m.units 0 (answer_of image m.start (free u) m.drawn)) (put_first m.units (free u) _ there (answer_waits image m.start u _))
serves_waits image m u (request.Spawn s) there other = absurd (other s refl)

moves_waits : (image : Image) (m : Machine) (u : Unit) (n : Next) → slice_get m.units 0 ≡ Some (free u) → ((s : SpawnAsk) → n ≡ next.Ask (request.Spawn s) → ⊥) → is_spawned (moves image m 0 (free u) n).units ≡ false
moves_waits image m u next.Local there other = put_first m.units (free u) _ there (ap (λ (v : Unit). v.waits) (local_free image m.start u))
moves_waits image m u (next.Trap kind) there other = first_waits m.units (free u) there refl
moves_waits image m u (next.Ask r) there other = serves_waits image m u r there (λ s is. other s (ap (λ (q : Request). next.Ask q) is))

-- ---- a unit that goes on, and asks for no section

never_dead : (s t : UnitState) → s ≡ t → is_live t ≡ false → is_live s ≡ true → ⊥
never_dead s t is dead live = let never : false ≡ true = sym dead ∙ ap (λ v. is_live v) (sym is) ∙ live in cc

other_request : (r : Request) (s : SpawnAsk) (n : Next) → n ≡ next.Ask r → n ≡ next.Ask (request.Spawn s) → r ≡ request.Spawn s
other_request r s n is spawns = let same : next.Ask r ≡ next.Ask (request.Spawn s) = sym is ∙ spawns in cc

begins_none : (image : Image) (start : Start) (budget : ℕ) (u : Unit) (a : engine.Ask) (s : SpawnAsk) → Means image start budget u a → is_live u.state ≡ true → asks_spent a ≡ false
    → ((asked : SpawnAsk) → a ≡ ask.Spawn asked → ⊥) → next_of image start u ≡ next.Ask (request.Spawn s) → ⊥
begins_none image start budget u (ask.Load word) s means live unspent other is = let never = other_request (request.Load word) s _ means.next is in cc
begins_none image start budget u (ask.Store word value) s means live unspent other is = let never = other_request (request.Store word value) s _ means.next is in cc
begins_none image start budget u (ask.Add word value) s means live unspent other is = let never = other_request (request.Add word value) s _ means.next is in cc
begins_none image start budget u ask.Draw s means live unspent other is = let never = other_request request.Draw s _ means.next is in cc
begins_none image start budget u (ask.Print text) s means live unspent other is = let never = other_request (request.Print text) s _ means.next is in cc
begins_none image start budget u (ask.Spawn asked) s means live unspent other is = other asked refl
begins_none image start budget u ask.Pause s means live unspent other is = let never : next.Local ≡ next.Ask (request.Spawn s) = sym means.next ∙ is in cc
begins_none image start budget u ask.Stopped s means live unspent other is = never_dead u.state state.Stopped means refl live
begins_none image start budget u ask.Halt s means live unspent other is = never_dead u.state state.Halted means refl live
begins_none image start budget u (ask.Trap trap) s means live unspent other is = let never : next.Trap trap.kind ≡ next.Ask (request.Spawn s) = sym means.0.next ∙ is in cc
begins_none image start budget u ask.Spent s means live unspent other is = absurd cc

-- ---- in the kept machine

pub goes_as : (m : kept.Machine) (k : ℕ) → m.spawned ≡ false → IsSomeAnd (slice_get m.seats.items k) (SeatGoesOn false) → IsSomeAnd (slice_get m.seats.items k) (SeatGoesOn m.spawned)
goes_as m k serial goes = subst (λ (b : Bool). IsSomeAnd (slice_get m.seats.items k) (SeatGoesOn b)) (sym serial) goes

serial_by : (image : Image) (budget : ℕ) (old : kept.Machine) (s : Seat) (asked : engine.Ask) (out : List ℕ) → Kept image budget old → slice_get old.seats.items 0 ≡ Some s → SeatGoesOn old.spawned s → s.ask ≡ asked
    → ((a : SpawnAsk) → asked ≡ ask.Spawn a → ⊥) → is_spawned (turn image (machine_of old out) 0).units ≡ false
serial_by image budget old s asked out kept_old there goes asks other =
    let t : Turning image budget old 0 asked = turning_by image budget old 0 asked s kept_old there goes.active asks in
    let unspent : asks_spent asked ≡ false = ap (λ a. asks_spent a) (sym asks) ∙ both_false _ _ goes.active goes.unspent in
    let never : (a : SpawnAsk) → next_of image old.start (free s.unit) ≡ next.Ask (request.Spawn a) → ⊥ =
    λ a is. begins_none image old.start budget s.unit asked a t.means (active_live old.spawned s.unit goes.active) unspent other (sym (next_free image old.start s.unit) ∙ is) in
    ap (λ (m : Machine). is_spawned m.units) (turn_at image (machine_of old out) 0 (free s.unit) (next_of image old.start (free s.unit)) t.seen refl)
    ∙ moves_waits image (machine_of old out) s.unit (next_of image old.start (free s.unit)) t.seen never

asked_of : (m : kept.Machine) (asked : engine.Ask) (s : Seat) → slice_get m.seats.items 0 ≡ Some s → IsAt m 0 asked → s.ask ≡ asked
asked_of m asked s there is_at =
    let at : IsSomeAnd (Some s) (λ (x : Seat). (is_active m.spawned x.unit ≡ true) × (x.ask ≡ asked)) =
    subst (λ (o : Option Seat). IsSomeAnd o (λ (x : Seat). (is_active m.spawned x.unit ≡ true) × (x.ask ≡ asked))) there is_at in
    at.1

pub serial_turn : (image : Image) (budget : ℕ) (old new : kept.Machine) (asked : engine.Ask) (out further : List ℕ) → Kept image budget old → Kept image budget new
    → IsSomeAnd (slice_get old.seats.items 0) (SeatGoesOn old.spawned) → IsAt old 0 asked → ((a : SpawnAsk) → asked ≡ ask.Spawn a → ⊥)
    → machine_of new further ≡ turn image (machine_of old out) 0 → new.spawned ≡ false
serial_turn image budget old new asked out further kept_old kept_new goes is_at other turned =
    let found = some_of (slice_get old.seats.items 0) (SeatGoesOn old.spawned) goes in
    sym (spawned_seen image budget new kept_new) ∙ ap (λ (m : Machine). is_spawned m.units) turned
    ∙ serial_by image budget old found.0 asked out kept_old found.1 found.2 (asked_of old asked found.0 found.1 is_at) other
