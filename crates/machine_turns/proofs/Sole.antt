-- The choice where one unit alone may be active.
use Rattle.std.proofs.Common.{◌≡◌, ◌≢◌, refl, sym, ap, ◌∙◌, ℕ, zero, suc, ◌+◌, ◌==◌, ◌&&◌, Bool, true, false, cond, if◌then◌else◌, List, [], ◌∷◌, length, map, Option, Some, None, find, slice_get, arith}
use Rattle.std.specs.List.{count_by}
use Rattle.std.proofs.lemmas.Bool.Decides.{nat_tests}
use Rattle.std.proofs.lemmas.List.Sums.{sum_by-cons}
use Rattle.xmt_isa.specs.declared.image.Image.{Image}
use Rattle.xmt_isa.specs.declared.run.Choice.TheVariants as choice
use Rattle.xmt_isa.specs.declared.unit.Unit.{Unit}
use Rattle.xmt_isa.specs.declared.unit.Start.{Start}
use Rattle.xmt_isa.specs.Picked.{is_active, place_of, picks, state_after}
use Rattle.tcu_engine.specs.declared.ask.Ask.{Ask}
use Rattle.tcu_engine.specs.declared.ask.Ask.TheVariants.{Load, Store, Add, Draw, Print, Spawn, Pause, Stopped, Halt, Trap, Spent}
use Rattle.machine_turns.specs.declared.seats.Seat.{Seat}
use Rattle.machine_turns.specs.declared.machine.Machine as kept
use Rattle.machine_turns.specs.Seats.{unit_of}
use Rattle.machine_turns.specs.Kept.{IsIdle, KeptBy, Kept}
use Rattle.machine_turns.specs.Goes.{asks_trap, asks_spent, seat_active, seat_trapped, seat_spent, trap_choice, count_active, choice_among, seats_choice, SeatGoesOn}
use Rattle.machine_turns.specs.Sole.{sole_place, OnlyActive, asked_choice, sole_choice}
use Rattle.machine_turns.proofs.Seen.{some_inside, all_at, active_serial, active_parallel}

-- ---- the only element that passes a test

find_nothing : {A : Type 0} (p : A → Bool) (xs : List A) → ((j : ℕ) (x : A) → slice_get xs j ≡ Some x → p x ≡ false) → find p xs ≡ None
find_nothing p [] none = refl
find_nothing p (y ∷ ys) none =
    let rest : find p ys ≡ None = find_nothing p ys (λ j x there. none (suc j) x there) in
    rw (none 0 y refl, rest) refl

count_nothing : {A : Type 0} (p : A → Bool) (xs : List A) → ((j : ℕ) (x : A) → slice_get xs j ≡ Some x → p x ≡ false) → count_by p xs ≡ 0
count_nothing p [] none = refl
count_nothing p (y ∷ ys) none =
    let rest : count_by p ys ≡ 0 = count_nothing p ys (λ j x there. none (suc j) x there) in
    sum_by-cons (λ z. cond (p z) 1 0) y ys ∙ rw (none 0 y refl, rest) refl

-- no element but the one in this place passes
abbrev Only : {A : Type 0} → (A → Bool) → List A → ℕ → Type 0
Only {A} p xs k = (j : ℕ) (x : A) → slice_get xs j ≡ Some x → j ≢ k → p x ≡ false

not_first : (j : ℕ) → suc j ≢ 0
not_first j is = omega (arith, is)

not_next : (j k : ℕ) → j ≢ k → suc j ≢ suc k
not_next j k other is = other (omega (arith, is))

find_only : {A : Type 0} (p : A → Bool) (xs : List A) (k : ℕ) (x : A) → slice_get xs k ≡ Some x → Only p xs k → find p xs ≡ (if p x then Some x else None)
find_only p [] k x there only = absurd cc
find_only p (y ∷ ys) zero x there only =
    let same : y ≡ x = cc in
    let rest : find p ys ≡ None = find_nothing p ys (λ j z at. only (suc j) z at (not_first j)) in
    rw (rest, same) refl
find_only p (y ∷ ys) (suc k) x there only =
    let rest : find p ys ≡ (if p x then Some x else None) = find_only p ys k x there (λ j z at other. only (suc j) z at (not_next j k other)) in
    let first : p y ≡ false = only 0 y refl (λ is. not_first k (sym is)) in
    rw (first, rest) refl

count_only : {A : Type 0} (p : A → Bool) (xs : List A) (k : ℕ) (x : A) → slice_get xs k ≡ Some x → Only p xs k → count_by p xs ≡ (if p x then 1 else 0)
count_only p [] k x there only = absurd cc
count_only p (y ∷ ys) zero x there only =
    let same : y ≡ x = cc in
    let rest : count_by p ys ≡ 0 = count_nothing p ys (λ j z at. only (suc j) z at (not_first j)) in
    sum_by-cons (λ z. cond (p z) 1 0) y ys ∙ rw (rest, same) (one (p x))
  where
    one : (b : Bool) → cond b 1 0 + 0 ≡ (if b then 1 else 0)
    one true = refl
    one false = refl
count_only p (y ∷ ys) (suc k) x there only =
    let rest : count_by p ys ≡ (if p x then 1 else 0) = count_only p ys k x there (λ j z at other. only (suc j) z at (not_next j k other)) in
    let first : p y ≡ false = only 0 y refl (λ is. not_first k (sym is)) in
    sum_by-cons (λ z. cond (p z) 1 0) y ys ∙ rw (first, rest) (none (p x))
  where
    none : (b : Bool) → 0 + (if b then 1 else 0) ≡ (if b then 1 else 0)
    none true = refl
    none false = refl

place_only : (spawned : Bool) (xs : List Seat) (k : ℕ) (s : Seat) → slice_get xs k ≡ Some s → Only (seat_active spawned) xs k → is_active spawned s.unit ≡ true → place_of spawned (map unit_of xs) 0 ≡ k
place_only spawned [] k s there only active = absurd cc
place_only spawned (y ∷ ys) zero s there only active = let same : y ≡ s = cc in rw (same, active) refl
place_only spawned (y ∷ ys) (suc k) s there only active =
    let rest : place_of spawned (map unit_of ys) 0 ≡ k = place_only spawned ys k s there (λ j z at other. only (suc j) z at (not_next j k other)) active in
    let first : is_active spawned y.unit ≡ false = only 0 y refl (λ is. not_first k (sym is)) in
    rw (first, rest) (omega arith)

-- ---- the choice

and_first : (b c : Bool) → b ≡ false → (b && c) ≡ false
and_first true c is = absurd cc
and_first false c is = refl

module _ (spawned : Bool) (seats : List Seat) (k : ℕ) (s : Seat) (there : slice_get seats k ≡ Some s) (sole : OnlyActive spawned seats k) where
  others_fail : (p : Seat → Bool) → ((x : Seat) → is_active spawned x.unit ≡ false → p x ≡ false) → Only p seats k
  others_fail p fails = λ j x at other. fails x (sole.others j x at other)

  pub sole_count : count_active spawned seats ≡ (if is_active spawned s.unit then 1 else 0)
  sole_count = count_only (seat_active spawned) seats k s there (others_fail (seat_active spawned) (λ x is. is))

  pub sole_state : (state : ℕ) → state_after (count_active spawned seats) state ≡ state
  sole_state state = rw sole_count (at_most_one (is_active spawned s.unit))
    where
      at_most_one : (b : Bool) → state_after (if b then 1 else 0) state ≡ state
      at_most_one true = refl
      at_most_one false = refl

  sole_trapped : find (seat_trapped spawned) seats ≡ (if seat_trapped spawned s then Some s else None)
  sole_trapped = find_only (seat_trapped spawned) seats k s there (others_fail (seat_trapped spawned) (λ x is. and_first _ _ is))

  sole_spent : find (seat_spent spawned) seats ≡ (if seat_spent spawned s then Some s else None)
  sole_spent = find_only (seat_spent spawned) seats k s there (others_fail (seat_spent spawned) (λ x is. and_first _ _ is))

  abbrev found : Bool → Option Seat
  found b = if b then Some s else None

  sole_picks : is_active spawned s.unit ≡ true → (state : ℕ) → picks spawned (map unit_of seats) 1 state ≡ choice.Step k
  sole_picks active state = ap (λ n. choice.Step n) (place_only spawned seats k s there (others_fail (seat_active spawned) (λ x is. is)) active)

  count_is : (b : Bool) → is_active spawned s.unit ≡ b → count_active spawned seats ≡ (if b then 1 else 0)
  count_is b is = sole_count ∙ ap (λ t. (if t then 1 else 0)) is

  none_active : (state : ℕ) → is_active spawned s.unit ≡ false → choice_among spawned seats state None None ≡ choice.Done
  none_active state is = rw (count_is false is) refl

  one_active : (state : ℕ) → is_active spawned s.unit ≡ true → choice_among spawned seats state None None ≡ choice.Step k
  one_active state active = rw (count_is true active) (sole_picks active state)

  chosen : (state : ℕ) (b : Bool) (a : Ask) → is_active spawned s.unit ≡ b → s.ask ≡ a
      → choice_among spawned seats state (found (b && asks_trap a)) (found (b && asks_spent a)) ≡ (if b then asked_choice k s.unit a else choice.Done)
  chosen state false a active is = none_active state active
  chosen state true (Trap trap) active is = ap trap_choice is
  chosen state true Spent active is = refl
  chosen state true (Load word) active is = one_active state active
  chosen state true (Store word value) active is = one_active state active
  chosen state true (Add word value) active is = one_active state active
  chosen state true Draw active is = one_active state active
  chosen state true (Print text) active is = one_active state active
  chosen state true (Spawn ask) active is = one_active state active
  chosen state true Pause active is = one_active state active
  chosen state true Stopped active is = one_active state active
  chosen state true Halt active is = one_active state active

  -- the choice is that by the only unit that may be active
  pub sole_chosen : (state : ℕ) → sole_choice spawned k s ≡ seats_choice spawned seats state
  sole_chosen state = sym (ap (λ t. choice_among spawned seats state t (find (seat_spent spawned) seats)) sole_trapped
      ∙ ap (λ e. choice_among spawned seats state (found (seat_trapped spawned s)) e) sole_spent
      ∙ chosen state (is_active spawned s.unit) s.ask refl refl)

-- a turn is that of this unit, which goes on
asked_goes : (k j : ℕ) (u : Unit) (a : Ask) → asked_choice k u a ≡ choice.Step j → (j ≡ k) × ((asks_trap a ≡ false) × (asks_spent a ≡ false))
asked_goes k j u (Trap trap) is = absurd cc
asked_goes k j u Spent is = absurd cc
asked_goes k j u (Load word) is = (cc, (refl, refl))
asked_goes k j u (Store word value) is = (cc, (refl, refl))
asked_goes k j u (Add word value) is = (cc, (refl, refl))
asked_goes k j u Draw is = (cc, (refl, refl))
asked_goes k j u (Print text) is = (cc, (refl, refl))
asked_goes k j u (Spawn ask) is = (cc, (refl, refl))
asked_goes k j u Pause is = (cc, (refl, refl))
asked_goes k j u Stopped is = (cc, (refl, refl))
asked_goes k j u Halt is = (cc, (refl, refl))

goes_by : (spawned : Bool) (k j : ℕ) (s : Seat) (b : Bool) → is_active spawned s.unit ≡ b → (if b then asked_choice k s.unit s.ask else choice.Done) ≡ choice.Step j → (j ≡ k) × SeatGoesOn spawned s
goes_by spawned k j s false active is = absurd cc
goes_by spawned k j s true active is =
    let goes = asked_goes k j s.unit s.ask is in
    (goes.0, record { active = active; untrapped = rw active goes.1.0; unspent = rw active goes.1.1 })

pub sole_goes : (spawned : Bool) (k j : ℕ) (s : Seat) → sole_choice spawned k s ≡ choice.Step j → (j ≡ k) × SeatGoesOn spawned s
sole_goes spawned k j s is = goes_by spawned k j s (is_active spawned s.unit) refl is

-- ---- in the kept machine

not_false : (b : Bool) → (b ≡ true → ⊥) → b ≡ false
not_false true never = absurd (never refl)
not_false false never = refl

sole_test : (b : Bool) (k : ℕ) → (if b then Some 1 else None) ≡ Some k → (b ≡ true) × (k ≡ 1)
sole_test true k is = (refl, cc)
sole_test false k is = absurd cc

only_by : (image : Image) (budget : ℕ) (start : Start) (spawned : Bool) (master : Seat) (others : List Seat) (k : ℕ) → KeptBy image budget start spawned master others → sole_place spawned (master ∷ others) ≡ Some k
    → OnlyActive spawned (master ∷ others) k
only_by image budget start false master others k held is =
    let first : k ≡ 0 = cc in
    rw first (record { inside = omega arith; others = idle })
  where
    idle : (j : ℕ) (s : Seat) → slice_get (master ∷ others) j ≡ Some s → j ≢ 0 → is_active false s.unit ≡ false
    idle zero s there other = absurd (other refl)
    idle (suc j) s there other = not_false (is_active false s.unit) (λ active. active_serial s.unit active (all_at (IsIdle image budget) others j s held.idle there).number)
only_by image budget start true master others k held is =
    let test = sole_test (length (master ∷ others) == 2) k is in
    let two : length (master ∷ others) ≡ 2 = grind (arith, nat_tests, test.0) in
    rw test.1 (record { inside = omega (arith, two); others = waiting two })
  where
    waiting : length (master ∷ others) ≡ 2 → (j : ℕ) (s : Seat) → slice_get (master ∷ others) j ≡ Some s → j ≢ 1 → is_active true s.unit ≡ false
    waiting two zero s there other =
        let same : master ≡ s = cc in
        not_false (is_active true s.unit) (λ active. active_parallel s.unit active (ap (λ (t : Seat). t.unit.number) (sym same) ∙ held.number))
    waiting two (suc j) s there other =
        let inside = some_inside (master ∷ others) (suc j) s there in
        absurd (other (omega (arith, inside, two)))

pub only_active : (image : Image) (budget : ℕ) (m : kept.Machine) (k : ℕ) → Kept image budget m → sole_place m.spawned m.seats.items ≡ Some k → OnlyActive m.spawned m.seats.items k
only_active image budget m k kept_m is = rw kept_m.are (only_by image budget m.start m.spawned kept_m.master kept_m.others k kept_m.holds (rw kept_m.are at is))
