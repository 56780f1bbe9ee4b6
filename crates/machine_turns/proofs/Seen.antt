-- The kept machine as others see it.
use Rattle.std.proofs.Common.{◌≡◌, ◌≢◌, refl, sym, ap, ◌∙◌, subst, ℕ, zero, suc, ◌<◌, ◌≤◌, ◌==◌, ◌&&◌, not, Bool, true, false, if◌then◌else◌, List, [], ◌∷◌, length, map, All, Option, Some, None, slice_get, slice_set, arith, inl, inr}
use Rattle.std.specs.List.{list_all}
use Rattle.std.proofs.lemmas.Bool.Decides.{nat_tests}
use Rattle.std.proofs.lemmas.List.Elements.{All-set, All-get_or}
use Rattle.std.proofs.lemmas.List.{map-set, length-set}
use Rattle.std.proofs.lemmas.Option.{get_or_from_slice_get, slice_get_cases}
use Rattle.std.specs.Option.{IsSomeAnd, IfSome}
use Rattle.xmt_isa.specs.declared.image.Image.{Image}
use Rattle.xmt_isa.specs.declared.unit.Unit.{Unit}
use Rattle.xmt_isa.specs.declared.unit.Start.{Start}
use Rattle.xmt_isa.specs.Machine.{is_stopped, waits_for}
use Rattle.xmt_isa.specs.Picked.{is_live, is_active}
use Rattle.machine_turns.specs.declared.seats.Seat.{Seat}
use Rattle.machine_turns.specs.declared.machine.Machine as kept
use Rattle.machine_turns.specs.Seats.{free, has_stopped, Holds, Replaced}
use Rattle.machine_turns.specs.Kept.{IsIdle, IsRunning, KeptBy, Kept, MayGo}
use Rattle.machine_turns.specs.View.{seen, seen_seat}

-- ---- values that are there

-- a value that is there
pub some_of : {A : Type 0} (o : Option A) (P : A → Type 0) → IsSomeAnd o P → (x : A) × (o ≡ Some x) × P x
some_of None P holds = absurd holds
some_of (Some x) P holds = (x, refl, holds)

-- more of a value that is there
pub some_more : {A : Type 0} (o : Option A) (P Q : A → Type 0) → ((x : A) → o ≡ Some x → P x → Q x) → IsSomeAnd o P → IsSomeAnd o Q
some_more None P Q further holds = holds
some_more (Some x) P Q further holds = further x refl holds

pub if_some : {A : Type 0} (o : Option A) (P : A → Type 0) → ((x : A) → o ≡ Some x → P x) → IfSome o P
if_some None P holds = tt
if_some (Some x) P holds = holds x refl

pub at_some : {A : Type 0} (o : Option A) (P : A → Type 0) (x : A) → o ≡ Some x → IfSome o P → P x
at_some o P x there holds = rw there at holds

-- what is there lies inside the list
pub some_inside : {A : Type 0} (xs : List A) (k : ℕ) (x : A) → slice_get xs k ≡ Some x → k < length xs
some_inside xs k x there = elim (slice_get_cases xs k).1 [ inl found ↦ found.1 | inr past ↦ let never : None ≡ Some x = sym past.1 ∙ there in cc ]

-- what holds of all elements holds of the one that is there
pub all_at : {A : Type 0} (P : A → Type 0) (xs : List A) (k : ℕ) (x : A) → All P xs → slice_get xs k ≡ Some x → P x
all_at P xs k x all there = subst P (get_or_from_slice_get xs k x x there) (All-get_or P xs k x (some_inside xs k x there) all)

-- ---- who is active

and_parts : (b c : Bool) → (b && c) ≡ true → (b ≡ true) × (c ≡ true)
and_parts true c is = (refl, is)
and_parts false c is = absurd cc

not_zero : (n : ℕ) → n ≢ 0 → (n == 0) ≡ false
not_zero n other = grind (arith, nat_tests, other)

-- the master is active outside sections, and control units in them
active_side : (spawned : Bool) (u : Unit) → is_active spawned u ≡ true → (is_live u.state ≡ true) × ((if u.number == 0 then not spawned else spawned) ≡ true)
active_side spawned u active = and_parts (is_live u.state) (if u.number == 0 then not spawned else spawned) active

pub active_live : (spawned : Bool) (u : Unit) → is_active spawned u ≡ true → is_live u.state ≡ true
active_live spawned u active = (active_side spawned u active).0

pub active_serial : (u : Unit) → is_active false u ≡ true → u.number ≢ 0 → ⊥
active_serial u active other =
    let side = (active_side false u active).1 in
    let never : false ≡ true = rw (not_zero u.number other) at side in
    cc

pub active_parallel : (u : Unit) → is_active true u ≡ true → u.number ≡ 0 → ⊥
active_parallel u active master =
    let side = (active_side true u active).1 in
    let never : false ≡ true = rw master at side in
    cc

module _ (image : Image) (budget : ℕ) (start : Start) where
  -- an active unit may go on
  pub may_go_by : (spawned : Bool) (master : Seat) (others : List Seat) (k : ℕ) (s : Seat) → KeptBy image budget start spawned master others → slice_get (master ∷ others) k ≡ Some s → is_active spawned s.unit ≡ true → MayGo image start budget s
  may_go_by false master others zero s held there active =
      let same : master ≡ s = cc in
      subst (λ (t : Seat). MayGo image start budget t) same (record { has_start = λ other. absurd (other held.number); tells = held.tells })
  may_go_by false master others (suc j) s held there active = absurd (active_serial s.unit active (all_at (IsIdle image budget) others j s held.idle there).number)
  may_go_by true master others zero s held there active =
      let same : master ≡ s = cc in
      absurd (active_parallel s.unit active (ap (λ (t : Seat). t.unit.number) (sym same) ∙ held.number))
  may_go_by true master others (suc j) s held there active =
      record { has_start = λ other. held.fits; tells = (all_at (IsRunning image start budget) others j s held.running there).tells }

pub may_go : (image : Image) (budget : ℕ) (m : kept.Machine) (k : ℕ) (s : Seat) → Kept image budget m → slice_get m.seats.items k ≡ Some s → is_active m.spawned s.unit ≡ true → MayGo image m.start budget s
may_go image budget m k s kept there active = may_go_by image budget m.start m.spawned kept.master kept.others k s kept.holds (rw kept.are at there) active

-- ---- how units are seen

pub seen_control : (spawned : Bool) (u : Unit) → u.number ≢ 0 → seen spawned u ≡ free u
seen_control true u other = rw (not_zero u.number other) refl
seen_control false u other = refl

pub seen_master : (u : Unit) → u.number ≡ 0 → seen true u ≡ waits_for u
seen_master u master = rw master refl

pub seen_active : (spawned : Bool) (u : Unit) → is_active spawned u ≡ true → seen spawned u ≡ free u
seen_active false u active = refl
seen_active true u active = seen_control true u (active_parallel u active)

-- a unit in place of an active one with the same number
pub seen_after : (spawned : Bool) (u after : Unit) → is_active spawned u ≡ true → after.number ≡ u.number → seen spawned after ≡ free after
seen_after false u after active number = refl
seen_after true u after active number = seen_control true after (λ master. active_parallel u active (sym number ∙ master))

seen_state_by : (b : Bool) (u : Unit) → (if b then waits_for u else free u).state ≡ u.state
seen_state_by true u = refl
seen_state_by false u = refl

pub seen_state : (spawned : Bool) (u : Unit) → (seen spawned u).state ≡ u.state
seen_state spawned u = seen_state_by (spawned && (u.number == 0)) u

seen_number_by : (b : Bool) (u : Unit) → (if b then waits_for u else free u).number ≡ u.number
seen_number_by true u = refl
seen_number_by false u = refl

pub seen_number : (spawned : Bool) (u : Unit) → (seen spawned u).number ≡ u.number
seen_number spawned u = seen_number_by (spawned && (u.number == 0)) u

-- control units are seen as they are, but for their waiting
abbrev pub frees : List Seat → List Unit
frees seats = map (λ s. free s.unit) seats

pub seen_running : (image : Image) (start : Start) (budget : ℕ) (spawned : Bool) (seats : List Seat) → ((k : ℕ) (s : Seat) → slice_get seats k ≡ Some s → s.unit.number ≢ 0) → map (seen_seat spawned) seats ≡ frees seats
seen_running image start budget spawned [] numbers = refl
seen_running image start budget spawned (s ∷ seats) numbers =
    let head : seen spawned s.unit ≡ free s.unit = seen_control spawned s.unit (numbers 0 s refl) in
    let rest : map (seen_seat spawned) seats ≡ frees seats = seen_running image start budget spawned seats (λ k t there. numbers (suc k) t there) in
    rw (head, rest) refl

pub stopped_seen : (spawned : Bool) (seats : List Seat) → list_all (λ u. is_stopped u.state) (map (seen_seat spawned) seats) ≡ list_all has_stopped seats
stopped_seen spawned [] = refl
stopped_seen spawned (s ∷ seats) =
    let head : (seen spawned s.unit).state ≡ s.unit.state = seen_state spawned s.unit in
    let rest : list_all (λ u. is_stopped u.state) (map (seen_seat spawned) seats) ≡ list_all has_stopped seats = stopped_seen spawned seats in
    rw (head, rest) refl

-- ---- one unit in the place of another

some_runs_by : (p : Seat → Bool) (seats : List Seat) (j : ℕ) (after : Seat) → j < length seats → p after ≡ false → list_all p (slice_set seats j after) ≡ false
some_runs_by p [] j after inside runs = absurd (omega (arith, inside))
some_runs_by p (s ∷ seats) zero after inside runs = rw runs refl
some_runs_by p (s ∷ seats) (suc j) after inside runs =
    let rest : list_all p (slice_set seats j after) ≡ false = some_runs_by p seats j after (omega (arith, inside)) runs in
    rw rest (and_no (p s))
  where
    and_no : (b : Bool) → (b && false) ≡ false
    and_no true = refl
    and_no false = refl

-- the units with one of them replaced, and what they keep
pub record Puts (image : Image) (budget : ℕ) (start : Start) (spawned : Bool) (old : List Unit) (new : List Seat) (k : ℕ) (known : Unit) : Type 0 where
  pub master : Seat
  pub others : List Seat
  pub are : new ≡ master ∷ others
  pub some : 1 ≤ length others
  pub holds : KeptBy image budget start spawned master others
  pub units : map (seen_seat spawned) new ≡ slice_set old k known

module _ (image : Image) (budget : ℕ) (start : Start) where
  -- the view of the replaced unit
  puts_view : (spawned : Bool) (seats : List Seat) (k : ℕ) (s after : Seat) (known : Unit) → is_active spawned s.unit ≡ true → Holds image start budget known after.unit after.ask → known.number ≡ s.unit.number
      → map (seen_seat spawned) (slice_set seats k after) ≡ slice_set (map (seen_seat spawned) seats) k known
  puts_view spawned seats k s after known active holds number =
      let same_number : after.unit.number ≡ s.unit.number = ap (λ (u : Unit). u.number) holds.same ∙ number in
      let shown : seen spawned after.unit ≡ known = seen_after spawned s.unit after.unit active same_number ∙ holds.same in
      map-set (seen_seat spawned) seats k after ∙ ap (λ u. slice_set (map (seen_seat spawned) seats) k u) shown

  pub puts_by : (spawned : Bool) (master : Seat) (others : List Seat) (k : ℕ) (s after : Seat) (known : Unit) → 1 ≤ length others → KeptBy image budget start spawned master others
      → slice_get (master ∷ others) k ≡ Some s → is_active spawned s.unit ≡ true → Holds image start budget known after.unit after.ask → known.number ≡ s.unit.number
      → (spawned ≡ true → is_stopped known.state ≡ false)
      → Puts image budget start spawned (map (seen_seat spawned) (master ∷ others)) (slice_set (master ∷ others) k after) k known
  puts_by false master others zero s after known some held there active holds number runs =
      let same : master ≡ s = cc in
      record {
        master = after;
        others = others;
        are = refl;
        some = some;
        holds = record { number = ap (λ (u : Unit). u.number) holds.same ∙ number ∙ ap (λ (t : Seat). t.unit.number) (sym same) ∙ held.number; tells = holds.tells; idle = held.idle };
        units = puts_view false (master ∷ others) 0 s after known active holds number;
      }
  puts_by false master others (suc j) s after known some held there active holds number runs = absurd (active_serial s.unit active (all_at (IsIdle image budget) others j s held.idle there).number)
  puts_by true master others zero s after known some held there active holds number runs =
      let same : master ≡ s = cc in
      absurd (active_parallel s.unit active (ap (λ (t : Seat). t.unit.number) (sym same) ∙ held.number))
  puts_by true master others (suc j) s after known some held there active holds number runs =
      let same_number : after.unit.number ≡ s.unit.number = ap (λ (u : Unit). u.number) holds.same ∙ number in
      let one : IsRunning image start budget after = record { number = λ zero_is. active_parallel s.unit active (sym same_number ∙ zero_is); tells = holds.tells } in
      let state : has_stopped after ≡ false = ap (λ (u : Unit). is_stopped u.state) holds.same ∙ runs refl in
      record {
        master = master;
        others = slice_set others j after;
        are = refl;
        some = rw length-set some;
        holds = record {
          number = held.number;
          tells = held.tells;
          spawn = held.spawn;
          asks = held.asks;
          block = held.block;
          fits = held.fits;
          running = All-set (IsRunning image start budget) others j after one held.running;
          runs = some_runs_by has_stopped others j after (some_inside others j s there) state;
        };
        units = puts_view true (master ∷ others) (suc j) s after known active holds number;
      }

pub puts : (image : Image) (budget : ℕ) (m : kept.Machine) (new : List Seat) (k : ℕ) (s : Seat) (known : Unit) → Kept image budget m → slice_get m.seats.items k ≡ Some s → is_active m.spawned s.unit ≡ true
    → Replaced image m.start budget m.seats.items new k known → known.number ≡ s.unit.number → (m.spawned ≡ true → is_stopped known.state ≡ false)
    → Puts image budget m.start m.spawned (map (seen_seat m.spawned) m.seats.items) new k known
puts image budget m new k s known kept there active replaced number runs =
    let is_put : new ≡ slice_set (kept.master ∷ kept.others) k replaced.seat = replaced.put ∙ ap (λ xs. slice_set xs k replaced.seat) kept.are in
    rw (is_put, kept.are) (puts_by image budget m.start m.spawned kept.master kept.others k s replaced.seat known kept.some kept.holds (rw kept.are at there) active replaced.holds number runs)
