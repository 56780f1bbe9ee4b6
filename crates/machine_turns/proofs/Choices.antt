-- How a picked run goes on, by what the kept units do next.
use Rattle.std.proofs.Common.{◌≡◌, ◌≢◌, refl, sym, ap, ◌∙◌, ℕ, zero, suc, ◌+◌, ◌-◌, ◌<◌, ◌==◌, ◌&&◌, nat_lt, Bool, true, false, cond, if◌then◌else◌, List, [], ◌∷◌, map, Option, Some, None, find, slice_get, arith}
use Rattle.std.specs.List.{list_all, count_by}
use Rattle.std.specs.Option.{IsSomeAnd, option_map}
use Rattle.std.proofs.lemmas.Bool.Decides.{nat_tests}
use Rattle.std.proofs.lemmas.List.Sums.{sum_by-cons}
use Rattle.xmt_isa.specs.declared.image.Image.{Image}
use Rattle.xmt_isa.specs.declared.run.Choice.TheVariants as choice
use Rattle.xmt_isa.specs.declared.unit.Unit.{Unit}
use Rattle.xmt_isa.specs.declared.unit.UnitState.{UnitState}
use Rattle.xmt_isa.specs.declared.unit.UnitState.TheVariants as state
use Rattle.xmt_isa.specs.declared.unit.Start.{Start}
use Rattle.xmt_isa.specs.declared.unit.Next.{Next}
use Rattle.xmt_isa.specs.declared.unit.Next.TheVariants as next
use Rattle.xmt_base.specs.Picker.{choice as pick_of, next_state}
use Rattle.xmt_isa.specs.Step.{next_of}
use Rattle.xmt_isa.specs.Machine.{is_stopped, waits_for}
use Rattle.xmt_isa.specs.Legal.{HasHalted}
use Rattle.xmt_isa.specs.Picked.{is_live, is_spawned, is_active, is_trap, is_trapped, is_spent, trap_of, place_of, picks, choice_by, choice_of}
use Rattle.unit_steps.specs.Steps.{DoesNext}
use Rattle.tcu_engine.specs.declared.ask.Ask.{Ask}
use Rattle.tcu_engine.specs.declared.ask.Ask.TheVariants.{Load, Store, Add, Draw, Print, Spawn, Pause, Stopped, Halt, Trap, Spent}
use Rattle.machine_turns.specs.declared.seats.Seat.{Seat}
use Rattle.machine_turns.specs.declared.machine.Machine as kept
use Rattle.machine_turns.specs.Seats.{unit_of, free, has_stopped, Means}
use Rattle.machine_turns.specs.Kept.{IsRunning, KeptBy, Kept}
use Rattle.machine_turns.specs.View.{seen, seen_seat, machine_of, run_of}
use Rattle.machine_turns.specs.Goes.{asks_trap, asks_spent, seat_active, seat_trapped, seat_spent, trap_choice, count_active, choice_among, seats_choice}
use Rattle.machine_turns.proofs.Frees.{next_free}
use Rattle.machine_turns.proofs.Seen.{all_at, active_live, may_go, seen_active, seen_master}

-- ---- finding

-- the head fails the test, and nothing is found behind it
find_behind : {A : Type 0} (b : Bool) (x : A) (rest : Option A) → cond b (Some x) rest ≡ None → (b ≡ false) × (rest ≡ None)
find_behind true x rest none = cc
find_behind false x rest none = (refl, none)

-- a test that finds nothing holds of no element
pub find_none : {A : Type 0} (p : A → Bool) (xs : List A) (k : ℕ) (x : A) → find p xs ≡ None → slice_get xs k ≡ Some x → p x ≡ false
find_none p [] k x none there = cc
find_none p (y ∷ ys) zero x none there = let same : y ≡ x = cc in rw (← same) (find_behind (p y) y (find p ys) none).0
find_none p (y ∷ ys) (suc k) x none there = find_none p ys k x (find_behind (p y) y (find p ys) none).1 there

-- what is found is there, and passes
pub record Found {A : Type 0} (p : A → Bool) (xs : List A) (x : A) : Type 0 where
  pub place : ℕ
  pub there : slice_get xs place ≡ Some x
  pub passes : p x ≡ true

find_some_by : {A : Type 0} (p : A → Bool) (y : A) (ys : List A) (x : A) (b : Bool) → p y ≡ b → (find p ys ≡ Some x → Found p ys x) → cond b (Some y) (find p ys) ≡ Some x → Found p (y ∷ ys) x
find_some_by p y ys x true is behind found = let same : y ≡ x = cc in record { place = 0; there = ap (λ z. Some z) same; passes = rw (← same) is }
find_some_by p y ys x false is behind found = let rest : Found p ys x = behind found in record { place = suc rest.place; there = rest.there; passes = rest.passes }

pub find_some : {A : Type 0} (p : A → Bool) (xs : List A) (x : A) → find p xs ≡ Some x → Found p xs x
find_some p [] x found = absurd cc
find_some p (y ∷ ys) x found = find_some_by p y ys x (p y) refl (λ behind. find_some p ys x behind) found

mapped_by : {A B : Type 0} (f : A → B) (b : Bool) (x : A) (rest : Option A) → cond b (Some (f x)) (option_map f rest) ≡ option_map f (cond b (Some x) rest)
mapped_by f true x rest = refl
mapped_by f false x rest = refl

find_mapped : {A B : Type 0} (p : A → Bool) (q : B → Bool) (f : A → B) (xs : List A) → ((k : ℕ) (x : A) → slice_get xs k ≡ Some x → q (f x) ≡ p x) → find q (map f xs) ≡ option_map f (find p xs)
find_mapped p q f [] same = refl
find_mapped p q f (x ∷ xs) same =
    let rest : find q (map f xs) ≡ option_map f (find p xs) = find_mapped p q f xs (λ k y there. same (suc k) y there) in
    rw (same 0 x refl, rest) (mapped_by f (p x) x (find p xs))

-- ---- counting

count_mapped : {A B : Type 0} (p : A → Bool) (q : B → Bool) (f : A → B) (xs : List A) → ((x : A) → q (f x) ≡ p x) → count_by q (map f xs) ≡ count_by p xs
count_mapped p q f [] same = refl
count_mapped p q f (x ∷ xs) same =
    let left : count_by q (map f (x ∷ xs)) ≡ cond (q (f x)) 1 0 + count_by q (map f xs) = sum_by-cons (λ y. cond (q y) 1 0) (f x) (map f xs) in
    let right : count_by p (x ∷ xs) ≡ cond (p x) 1 0 + count_by p xs = sum_by-cons (λ y. cond (p y) 1 0) x xs in
    let rest : count_by q (map f xs) ≡ count_by p xs = count_mapped p q f xs same in
    left ∙ rw (same x, rest) refl ∙ sym right

none_counted_by : (b : Bool) (n : ℕ) → cond b 1 0 + n ≡ 0 → (b ≡ false) × (n ≡ 0)
none_counted_by true n none = absurd (omega (arith, none))
none_counted_by false n none = (refl, omega (arith, none))

none_counted : {A : Type 0} (p : A → Bool) (xs : List A) (k : ℕ) (x : A) → count_by p xs ≡ 0 → slice_get xs k ≡ Some x → p x ≡ false
none_counted p [] k x none there = absurd cc
none_counted p (y ∷ ys) zero x none there =
    let same : y ≡ x = cc in
    let parts = none_counted_by (p y) (count_by p ys) (sym (sum_by-cons (λ z. cond (p z) 1 0) y ys) ∙ none) in
    rw (← same) parts.0
none_counted p (y ∷ ys) (suc k) x none there =
    let parts = none_counted_by (p y) (count_by p ys) (sym (sum_by-cons (λ z. cond (p z) 1 0) y ys) ∙ none) in
    none_counted p ys k x parts.1 there

-- ---- units as others see them

seen_active_by : (b spawned : Bool) (u : Unit) → is_active spawned (if b then waits_for u else free u) ≡ is_active spawned u
seen_active_by true spawned u = refl
seen_active_by false spawned u = refl

pub active_seen : (spawned : Bool) (u : Unit) → is_active spawned (seen spawned u) ≡ is_active spawned u
active_seen spawned u = seen_active_by (spawned && (u.number == 0)) spawned u

place_by : (a b : Bool) (i x y : ℕ) (x' y' : ℕ) → a ≡ b → x ≡ x' → y ≡ y' → (if a then (if i == 0 then 0 else 1 + x) else 1 + y) ≡ (if b then (if i == 0 then 0 else 1 + x') else 1 + y')
place_by a b i x y x' y' same first second = rw (same, first, second) refl

place_seen : (spawned : Bool) (seats : List Seat) (i : ℕ) → place_of spawned (map (seen_seat spawned) seats) i ≡ place_of spawned (map unit_of seats) i
place_seen spawned [] i = refl
place_seen spawned (s ∷ seats) i =
    place_by (is_active spawned (seen spawned s.unit)) (is_active spawned s.unit) i _ _ _ _ (active_seen spawned s.unit) (place_seen spawned seats (i - 1)) (place_seen spawned seats i)

count_seen : (spawned : Bool) (seats : List Seat) → count_by (is_active spawned) (map (seen_seat spawned) seats) ≡ count_active spawned seats
count_seen spawned seats = count_mapped (seat_active spawned) (is_active spawned) (seen_seat spawned) seats (λ s. active_seen spawned s.unit)

pub spawned_seen : (image : Image) (budget : ℕ) (m : kept.Machine) → Kept image budget m → is_spawned (map (seen_seat m.spawned) m.seats.items) ≡ m.spawned
spawned_seen image budget m kept = rw kept.are (waits_by m.spawned kept.master kept.others kept.holds)
  where
    waits_by : (spawned : Bool) (master : Seat) (others : List Seat) → KeptBy image budget m.start spawned master others → (seen spawned master.unit).waits ≡ spawned
    waits_by true master others held = ap (λ (u : Unit). u.waits) (seen_master master.unit held.number)
    waits_by false master others held = refl

-- ---- tests by answers

eq_self : (n : ℕ) → (n == n) ≡ true
eq_self n = grind (arith, nat_tests)

eq_below : (n m : ℕ) → n < m → (n == m) ≡ false
eq_below n m less = grind (arith, nat_tests, less)

lt_below : (n m : ℕ) → n < m → nat_lt n m ≡ true
lt_below n m less = grind (arith, nat_tests, less)

lt_self : (n : ℕ) → nat_lt n n ≡ false
lt_self n = grind (arith, nat_tests)

module _ (image : Image) (start : Start) (budget : ℕ) (u : Unit) where
  trap_does : (n : Next) → DoesNext image start budget u n → (nat_lt u.counts.steps budget && is_trap (next_of image start u)) ≡ is_trap n
  trap_does n does = rw (lt_below u.counts.steps budget does.below, does.next) refl

  never_live : (s : UnitState) → u.state ≡ s → is_live s ≡ false → is_live u.state ≡ true → ⊥
  never_live s is dead live = let never : false ≡ true = sym dead ∙ ap (λ t. is_live t) (sym is) ∙ live in cc

  trap_test : (ask : Ask) → Means image start budget u ask → is_live u.state ≡ true → (nat_lt u.counts.steps budget && is_trap (next_of image start u)) ≡ asks_trap ask
  trap_test (Load word) means live = trap_does _ means
  trap_test (Store word value) means live = trap_does _ means
  trap_test (Add word value) means live = trap_does _ means
  trap_test Draw means live = trap_does _ means
  trap_test (Print text) means live = trap_does _ means
  trap_test (Spawn ask) means live = trap_does _ means
  trap_test Pause means live = trap_does _ means
  trap_test (Trap t) means live = trap_does _ means.0
  trap_test Stopped means live = absurd (never_live state.Stopped means refl live)
  trap_test Halt means live = absurd (never_live state.Halted means refl live)
  trap_test Spent means live = rw (means.steps, lt_self budget) refl

  spent_test : (ask : Ask) → Means image start budget u ask → is_live u.state ≡ true → (u.counts.steps == budget) ≡ asks_spent ask
  spent_test (Load word) means live = eq_below u.counts.steps budget means.below
  spent_test (Store word value) means live = eq_below u.counts.steps budget means.below
  spent_test (Add word value) means live = eq_below u.counts.steps budget means.below
  spent_test Draw means live = eq_below u.counts.steps budget means.below
  spent_test (Print text) means live = eq_below u.counts.steps budget means.below
  spent_test (Spawn ask) means live = eq_below u.counts.steps budget means.below
  spent_test Pause means live = eq_below u.counts.steps budget means.below
  spent_test (Trap t) means live = eq_below u.counts.steps budget means.0.below
  spent_test Stopped means live = absurd (never_live state.Stopped means refl live)
  spent_test Halt means live = absurd (never_live state.Halted means refl live)
  spent_test Spent means live = rw means.steps (eq_self budget)

  trap_choice_of : (ask : Ask) → Means image start budget u ask → asks_trap ask ≡ true → trap_of image (free u) (next_of image start (free u)) ≡ trap_choice ask
  trap_choice_of (Trap t) means is =
      let does : next_of image start (free u) ≡ next.Trap t.kind = next_free image start u ∙ means.0.next in
      rw (does, ← means.1.line, ← means.1.thread) refl
  trap_choice_of (Load word) means is = absurd cc
  trap_choice_of (Store word value) means is = absurd cc
  trap_choice_of (Add word value) means is = absurd cc
  trap_choice_of Draw means is = absurd cc
  trap_choice_of (Print text) means is = absurd cc
  trap_choice_of (Spawn ask) means is = absurd cc
  trap_choice_of Pause means is = absurd cc
  trap_choice_of Stopped means is = absurd cc
  trap_choice_of Halt means is = absurd cc
  trap_choice_of Spent means is = absurd cc

  -- a unit that goes on does something that is no trap
  pub goes_does : (ask : Ask) → Means image start budget u ask → is_live u.state ≡ true → asks_trap ask ≡ false → asks_spent ask ≡ false → (u.counts.steps < budget) × (is_trap (next_of image start u) ≡ false)
  goes_does (Load word) means live trapped spent = (means.below, rw means.next refl)
  goes_does (Store word value) means live trapped spent = (means.below, rw means.next refl)
  goes_does (Add word value) means live trapped spent = (means.below, rw means.next refl)
  goes_does Draw means live trapped spent = (means.below, rw means.next refl)
  goes_does (Print text) means live trapped spent = (means.below, rw means.next refl)
  goes_does (Spawn ask) means live trapped spent = (means.below, rw means.next refl)
  goes_does Pause means live trapped spent = (means.below, rw means.next refl)
  goes_does (Trap t) means live trapped spent = absurd cc
  goes_does Stopped means live trapped spent = absurd (never_live state.Stopped means refl live)
  goes_does Halt means live trapped spent = absurd (never_live state.Halted means refl live)
  goes_does Spent means live trapped spent = absurd cc

both_test : (a : Bool) (b c : Bool) → (a ≡ true → b ≡ c) → (a && b) ≡ (a && c)
both_test true b c same = same refl
both_test false b c same = refl

both_true : (a b : Bool) → (a && b) ≡ true → (a ≡ true) × (b ≡ true)
both_true true b is = (refl, is)
both_true false b is = absurd cc

pub both_false : (a b : Bool) → a ≡ true → (a && b) ≡ false → b ≡ false
both_false true b first is = is
both_false false b first is = absurd cc

module _ (image : Image) (budget : ℕ) (m : kept.Machine) (kept_m : Kept image budget m) where
  trapped_seen : (k : ℕ) (s : Seat) → slice_get m.seats.items k ≡ Some s → is_trapped image m.start budget m.spawned (seen_seat m.spawned s) ≡ seat_trapped m.spawned s
  trapped_seen k s there =
      rw (active_seen m.spawned s.unit) (both_test (is_active m.spawned s.unit) _ _ (λ active.
      rw (seen_active m.spawned s.unit active, next_free image m.start s.unit)
      (trap_test image m.start budget s.unit s.ask (may_go image budget m k s kept_m there active).tells.means (active_live m.spawned s.unit active))))

  spent_seen : (k : ℕ) (s : Seat) → slice_get m.seats.items k ≡ Some s → is_spent budget m.spawned (seen_seat m.spawned s) ≡ seat_spent m.spawned s
  spent_seen k s there =
      rw (active_seen m.spawned s.unit) (both_test (is_active m.spawned s.unit) _ _ (λ active.
      rw (seen_active m.spawned s.unit active)
      (spent_test image m.start budget s.unit s.ask (may_go image budget m k s kept_m there active).tells.means (active_live m.spawned s.unit active))))

  picks_by : (units seats : List Unit) (spawned : Bool) (n n' state : ℕ) → n ≡ n' → ((i : ℕ) → place_of spawned units i ≡ place_of spawned seats i) → picks spawned units n state ≡ picks spawned seats n' state
  picks_by units seats spawned n n' state count place = rw (count, place 0, place (pick_of (next_state state) n')) refl

  choice_same_by : (out : List ℕ) (state : ℕ) (t e : Option Seat) → find (seat_trapped m.spawned) m.seats.items ≡ t → find (seat_spent m.spawned) m.seats.items ≡ e
      → choice_by image (machine_of m out) state (option_map (seen_seat m.spawned) t) (option_map (seen_seat m.spawned) e) ≡ choice_among m.spawned m.seats.items state t e
  choice_same_by out state (Some s) e trapped spent =
      let found : Found (seat_trapped m.spawned) m.seats.items s = find_some (seat_trapped m.spawned) m.seats.items s trapped in
      let parts = both_true (is_active m.spawned s.unit) (asks_trap s.ask) found.passes in
      rw (seen_active m.spawned s.unit parts.0) (trap_choice_of image m.start budget s.unit s.ask (may_go image budget m found.place s kept_m found.there parts.0).tells.means parts.1)
  choice_same_by out state None (Some s) trapped spent =
      let found : Found (seat_spent m.spawned) m.seats.items s = find_some (seat_spent m.spawned) m.seats.items s spent in
      let parts = both_true (is_active m.spawned s.unit) (asks_spent s.ask) found.passes in
      rw (seen_active m.spawned s.unit parts.0) refl
  choice_same_by out state None None trapped spent =
      rw (spawned_seen image budget m kept_m)
      (picks_by (map (seen_seat m.spawned) m.seats.items) (map unit_of m.seats.items) m.spawned _ _ state (count_seen m.spawned m.seats.items) (λ i. place_seen m.spawned m.seats.items i))

  -- the choice by the kept units is that of the machine
  pub choice_same : (out : List ℕ) (state : ℕ) → seats_choice m.spawned m.seats.items state ≡ choice_of image budget (run_of m out state)
  choice_same out state =
      let trapped : find (is_trapped image m.start budget m.spawned) (map (seen_seat m.spawned) m.seats.items) ≡ option_map (seen_seat m.spawned) (find (seat_trapped m.spawned) m.seats.items) =
      find_mapped (seat_trapped m.spawned) (is_trapped image m.start budget m.spawned) (seen_seat m.spawned) m.seats.items trapped_seen in
      let spent : find (is_spent budget m.spawned) (map (seen_seat m.spawned) m.seats.items) ≡ option_map (seen_seat m.spawned) (find (seat_spent m.spawned) m.seats.items) =
      find_mapped (seat_spent m.spawned) (is_spent budget m.spawned) (seen_seat m.spawned) m.seats.items spent_seen in
      let known : choice_of image budget (run_of m out state) ≡ choice_by image (machine_of m out) state
      (option_map (seen_seat m.spawned) (find (seat_trapped m.spawned) m.seats.items)) (option_map (seen_seat m.spawned) (find (seat_spent m.spawned) m.seats.items)) =
      ap (λ b. choice_by image (machine_of m out) state (find (is_trapped image m.start budget b) (map (seen_seat m.spawned) m.seats.items)) (find (is_spent budget b) (map (seen_seat m.spawned) m.seats.items))) (spawned_seen image budget m kept_m)
      ∙ rw (trapped, spent) refl in
      sym (known ∙ choice_same_by out state (find (seat_trapped m.spawned) m.seats.items) (find (seat_spent m.spawned) m.seats.items) refl refl)

  pub count_same : count_by (is_active (is_spawned (map (seen_seat m.spawned) m.seats.items))) (map (seen_seat m.spawned) m.seats.items) ≡ count_active m.spawned m.seats.items
  count_same = rw (spawned_seen image budget m kept_m) (count_seen m.spawned m.seats.items)

-- ---- the end

done_test : (b c : Bool) (x y : ℕ) → (if b then choice.Done else (if c then choice.Step x else choice.Step y)) ≡ choice.Done → b ≡ true
done_test true c x y is = refl
done_test false true x y is = absurd cc
done_test false false x y is = absurd cc

picks_done : (spawned : Bool) (units : List Unit) (count state : ℕ) → picks spawned units count state ≡ choice.Done → count ≡ 0
picks_done spawned units count state is =
    let test : (count == 0) ≡ true = done_test (count == 0) (count == 1) _ _ is in
    grind (arith, nat_tests, test)

trap_never_done : (ask : Ask) → asks_trap ask ≡ true → trap_choice ask ≡ choice.Done → ⊥
trap_never_done (Trap t) is done = cc
trap_never_done (Load word) is done = cc
trap_never_done (Store word value) is done = cc
trap_never_done (Add word value) is done = cc
trap_never_done Draw is done = cc
trap_never_done (Print text) is done = cc
trap_never_done (Spawn ask) is done = cc
trap_never_done Pause is done = cc
trap_never_done Stopped is done = cc
trap_never_done Halt is done = cc
trap_never_done Spent is done = cc

done_by : (spawned : Bool) (seats : List Seat) (state : ℕ) (t e : Option Seat) → find (seat_trapped spawned) seats ≡ t → choice_among spawned seats state t e ≡ choice.Done → count_active spawned seats ≡ 0
done_by spawned seats state (Some s) e trapped done =
    let found : Found (seat_trapped spawned) seats s = find_some (seat_trapped spawned) seats s trapped in
    absurd (trap_never_done s.ask (both_true (is_active spawned s.unit) (asks_trap s.ask) found.passes).1 done)
done_by spawned seats state None (Some s) trapped done = absurd cc
done_by spawned seats state None None trapped done = picks_done spawned (map unit_of seats) (count_active spawned seats) state done

-- some unit hasn't stopped
record SomeRuns (seats : List Seat) : Type 0 where
  place : ℕ
  seat : Seat
  there : slice_get seats place ≡ Some seat
  runs : has_stopped seat ≡ false

some_runs_by : (s : Seat) (seats : List Seat) (b : Bool) → has_stopped s ≡ b → (b && list_all has_stopped seats) ≡ false → (list_all has_stopped seats ≡ false → SomeRuns seats) → SomeRuns (s ∷ seats)
some_runs_by s seats false is some behind = record { place = 0; seat = s; there = refl; runs = is }
some_runs_by s seats true is some behind = let rest : SomeRuns seats = behind some in record { place = suc rest.place; seat = rest.seat; there = rest.there; runs = rest.runs }

some_runs : (seats : List Seat) → list_all has_stopped seats ≡ false → SomeRuns seats
some_runs [] runs = absurd cc
some_runs (s ∷ seats) runs = some_runs_by s seats (has_stopped s) refl runs (λ more. some_runs seats more)

-- a control unit that hasn't stopped is active in a section
running_live : (t : UnitState) → is_stopped t ≡ false → (t ≡ state.Halted → ⊥) → is_live t ≡ true
running_live state.Draws runs halts = refl
running_live state.Runs runs halts = refl
running_live state.Stopped runs halts = absurd cc
running_live state.Halted runs halts = absurd (halts refl)

dead_halted : (t : UnitState) → is_live t ≡ false → (t ≡ state.Stopped → ⊥) → t ≡ state.Halted
dead_halted state.Draws dead stops = absurd cc
dead_halted state.Runs dead stops = absurd cc
dead_halted state.Stopped dead stops = absurd (stops refl)
dead_halted state.Halted dead stops = refl

number_test : (n : ℕ) → n ≢ 0 → (n == 0) ≡ false
number_test n other = grind (arith, nat_tests, other)

not_live : (b : Bool) → (b && true) ≡ false → b ≡ false
not_live true is = absurd cc
not_live false is = refl

halted_by : (image : Image) (budget : ℕ) (start : Start) (spawned : Bool) (master : Seat) (others : List Seat) → KeptBy image budget start spawned master others → count_active spawned (master ∷ others) ≡ 0
    → IsSomeAnd (slice_get (map (seen_seat spawned) (master ∷ others)) 0) (λ u. u.state ≡ state.Halted)
halted_by image budget start true master others held none =
    let some : SomeRuns others = some_runs others held.runs in
    let one : IsRunning image start budget some.seat = all_at (IsRunning image start budget) others some.place some.seat held.running some.there in
    let live : is_live some.seat.unit.state ≡ true = running_live some.seat.unit.state some.runs (λ halts. one.number (one.tells.fits.halts halts)) in
    let idle : is_active true some.seat.unit ≡ false = none_counted (seat_active true) (master ∷ others) (suc some.place) some.seat none some.there in
    let active : is_active true some.seat.unit ≡ true = rw (live, number_test some.seat.unit.number one.number) refl in
    let never : false ≡ true = sym idle ∙ active in
    absurd cc
halted_by image budget start false master others held none =
    let idle : is_active false master.unit ≡ false = none_counted (seat_active false) (master ∷ others) 0 master none refl in
    let side = rw held.number at idle in
    let dead : is_live master.unit.state ≡ false = not_live (is_live master.unit.state) side in
    dead_halted master.unit.state dead (λ stops. held.tells.fits.stops stops held.number)

-- where no unit is active, the master has halted
pub has_halted : (image : Image) (budget : ℕ) (m : kept.Machine) (seed : ℕ) → Kept image budget m → choice.Done ≡ seats_choice m.spawned m.seats.items seed → (out : List ℕ) → HasHalted (machine_of m out)
has_halted image budget m seed kept_m done out =
    let none : count_active m.spawned m.seats.items ≡ 0 = done_by m.spawned m.seats.items seed (find (seat_trapped m.spawned) m.seats.items) (find (seat_spent m.spawned) m.seats.items) refl (sym done) in
    halted_at m.spawned m.seats.items kept_m.master kept_m.others kept_m.are kept_m.holds none
  where
    halted_at : (spawned : Bool) (seats : List Seat) (master : Seat) (others : List Seat) → seats ≡ master ∷ others → KeptBy image budget m.start spawned master others → count_active spawned seats ≡ 0
        → IsSomeAnd (slice_get (map (seen_seat spawned) seats) 0) (λ u. u.state ≡ state.Halted)
    halted_at spawned seats master others are held none = rw are (halted_by image budget m.start spawned master others held (rw are at none))
