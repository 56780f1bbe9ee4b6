-- Where all control units of a section have stopped, the master goes on.
use Rattle.std.proofs.Common.{◌≡◌, refl, sym, ap, ◌∙◌, subst, ℕ, suc, ◌+◌, ◌-◌, ◌%◌, ◌^◌, ◌<◌, ◌≤◌, nat_lt, Bool, true, false, List, [], ◌∷◌, length, map, All, Some, slice_get, slice_index, slice_index_or, sum_by, arith, inr}
use Rattle.std.specs.List.{list_all}
use Rattle.std.proofs.lemmas.Bool.Decides.{nat_tests}
use Rattle.std.proofs.lemmas.List.{length-map}
use Rattle.std.proofs.lemmas.List.Sums.{sum_by-cons}
use Rattle.std.proofs.lemmas.Option.{get_or_from_slice_get}
use Rattle.xmt_isa.specs.declared.image.Image.{Image}
use Rattle.xmt_isa.specs.declared.unit.Unit.{Unit}
use Rattle.xmt_isa.specs.declared.unit.UnitState.TheVariants.{Runs, Stopped}
use Rattle.xmt_isa.specs.declared.unit.Start.{Start}
use Rattle.xmt_isa.specs.declared.unit.SpawnAsk.{SpawnAsk}
use Rattle.xmt_isa.specs.Step.{more}
use Rattle.xmt_isa.specs.Machine.{Machine, joins, resumes, waits_for, is_stopped}
use Rattle.xmt_isa.specs.Legal.{RunsTo}
use Rattle.xmt_isa.specs.Fits.{UnitFits}
use Rattle.unit_steps.specs.Steps.{answered, behind_spawn}
use Rattle.tcu_engine.specs.declared.ask.Ask.TheVariants as ask
use Rattle.machine_turns.specs.declared.seats.Seat.{Seat}
use Rattle.machine_turns.specs.declared.machine.Machine as kept
use Rattle.machine_turns.specs.Seats.{free, Replaced}
use Rattle.machine_turns.specs.Steps.{steps_of, steps_left}
use Rattle.machine_turns.specs.Kept.{IsIdle, Serial, KeptBy, Kept, IsAt}
use Rattle.machine_turns.specs.View.{seen_seat, machine_of}
use Rattle.machine_turns.proofs.Frees.{free_same}
use Rattle.machine_turns.proofs.Seen.{frees, at_some}
use Rattle.spawn_join.specs.declared.worker.Worker.{Worker}
use Rattle.spawn_join.specs.Worked.{IsDue, HasFinished, units_of, unit_in}
use Rattle.spawn_join.specs.Ends.{AllStopped}
use Rattle.threaded_runs.specs.Sections.{GoesOn, Joins}
use Rattle.threaded_runs.specs.Units.{due_worker, seat_again}
use Rattle.threaded_runs.specs.Words.{Narrows}
use Rattle.threaded_runs.proofs.Places.{map_there, there_map, inside_there, there_inside, same_lists, all_there, sums_fall}
use Rattle.threaded_runs.proofs.Spawned.{master, workers, held, next_after, master_below, view, serial_view, workers_due, workers_size, idle_due}
use Rattle.threaded_runs.proofs.Led.{HasRun, Led, led, finished_at}

-- a unit that has stopped fits whatever is broadcast
stopped_fits : (image : Image) (start other : Start) (u : Unit) → UnitFits image start u → u.waits ≡ false → u.state ≡ Stopped → UnitFits image other u
stopped_fits image start other u fits waits stopped = record {
  room = fits.room;
  registers = fits.registers;
  zero = fits.zero;
  depth = fits.depth;
  stops = fits.stops;
  halts = fits.halts;
  waits = fits.waits;
  master_waits = fits.master_waits;
  asks = λ does. let never : false ≡ true = sym waits ∙ does in absurd cc;
  placed = λ runs. let never : Stopped ≡ Runs = sym stopped ∙ runs in absurd cc;
}

stopped_all : (us : List Unit) → ((k : ℕ) (u : Unit) → slice_get us k ≡ Some u → u.state ≡ Stopped) → list_all (λ u. is_stopped u.state) us ≡ true
stopped_all [] each = refl
stopped_all (u ∷ us) each =
    let head : is_stopped u.state ≡ true = ap is_stopped (each 0 u refl) in
    let rest : list_all (λ (x : Unit). is_stopped x.state) us ≡ true = stopped_all us (λ k x there. each (suc k) x there) in
    rw (head, rest) refl

joins_resumed : (image : Image) (start : Start) (x : Unit) (us : List Unit) → list_all (λ u. is_stopped u.state) us ≡ true → joins image start (x ∷ us) ≡ resumes image start x ∷ us
joins_resumed image start x us all = rw all refl

all_same : (m : Machine) (us : List Unit) (ws : List ℕ) (d : ℕ) (s : Start) (o : List ℕ) → m.units ≡ us → m.words ≡ ws → m.drawn ≡ d → m.start ≡ s → m.out ≡ o
    → (let right : Machine = record { units = us; words = ws; drawn = d; start = s; out = o } in m ≡ right)
all_same m us ws d s o a b c e f =
    ap (λ x. record m { units = x }) a ∙ ap (λ x. record m { units = us; words = x }) b ∙ ap (λ x. record m { units = us; words = ws; drawn = x }) c
    ∙ ap (λ x. record m { units = us; words = ws; drawn = d; start = x }) e
    ∙ ap (λ x. let made : Machine = record { units = us; words = ws; drawn = d; start = s; out = x } in made) f

same_drawn : {A : Type 0} (x y z : A) → x ≡ z → y ≡ z → x ≡ y
same_drawn x y z a b = a ∙ sym b

-- the words that the schedule leaves are those that were narrowed
same_words : (old left new cells : List ℕ) → length new ≡ length old → length cells ≡ length left → length left ≡ length old → Narrows old left new → ((place : ℕ) → place < 4 → slice_index cells place ≡ slice_index old place)
    → ((place : ℕ) → 4 ≤ place → slice_index cells place ≡ slice_index left place % 2 ^ 32) → cells ≡ new
same_words old left new cells new_size cells_size left_size narrows first each =
    same_lists cells new (omega (arith, new_size, cells_size, left_size)) (λ k x y here there.
    sym (get_or_from_slice_get cells k x 0 here) ∙ by_test k (nat_lt k 4) refl ∙ get_or_from_slice_get new k y 0 there)
  where
    by_test : (k : ℕ) (b : Bool) → nat_lt k 4 ≡ b → slice_index cells k ≡ slice_index new k
    by_test k true e = let low : k < 4 = grind (arith, nat_tests, e) in first k low ∙ sym (narrows.first k low)
    by_test k false e = let far : 4 ≤ k = grind (arith, nat_tests, e) in each k far ∙ sym (narrows.each k far)

kept_serial : (image : Image) (budget : ℕ) (start other : Start) (spawned : Bool) (first : Seat) (others : List Seat) → spawned ≡ false → other ≡ start → Serial image budget start first others → KeptBy image budget other spawned first others
kept_serial image budget start other spawned first others serial same is = rw (serial, same) is

due_steps : (image : Image) (budget : ℕ) (s : Seat) → IsIdle image budget s → steps_of (due_worker s).unit ≡ steps_of s.unit
due_steps image budget s idle = ap steps_of (idle_due image budget s idle)

-- ---- put back

seats_there : (news : List Worker) (k : ℕ) (s : Seat) → slice_get (map seat_again news) k ≡ Some s → (w : Worker) × (slice_get news k ≡ Some w) × (seat_again w ≡ s)
seats_there news k s there = map_there seat_again news k s there

module _ (image : Image) (budget : ℕ) (old : kept.Machine) (spawn : SpawnAsk) (kept_old : Kept image budget old) (serial : old.spawned ≡ false) (is_at : IsAt old 0 (ask.Spawn spawn))
    (start : Start) (wide : List ℕ) (news : List Worker) (left : List ℕ)
    (run : HasRun image budget old (workers image budget old spawn kept_old serial is_at) (master image budget old spawn kept_old serial is_at) spawn start wide news left)
    (stopped : AllStopped news) where
  abbrev olds : List Worker
  olds = workers image budget old spawn kept_old serial is_at

  abbrev first : Unit
  first = master image budget old spawn kept_old serial is_at

  abbrev back : List Seat
  back = map seat_again news

  -- the worker in a place, before and after
  record Place (k : ℕ) (v : Worker) : Type 0 where
    before : Worker
    there : slice_get olds k ≡ Some before
    due : IsDue image start budget before.unit
    done : HasFinished image start budget before v
    stops : v.unit.state ≡ Stopped

  place_at : (k : ℕ) (v : Worker) → slice_get news k ≡ Some v → Place k v
  place_at k v now =
      let size : length news ≡ length olds = run.size in
      let inside : k < length news = there_inside news k v now in
      let w = inside_there olds k (omega (arith, size, inside)) in
      let state : (slice_index_or news k v).unit.state ≡ Stopped = stopped k v inside in
      record {
        before = w.0;
        there = w.1;
        due = workers_due image budget old spawn kept_old serial is_at start k w.0 w.1;
        done = finished_at image start budget olds news k w.0 v run.finished w.1 now;
        stops = ap (λ (x : Worker). x.unit.state) (sym (get_or_from_slice_get news k v v now)) ∙ state;
      }

  idle_at : (k : ℕ) (s : Seat) → slice_get back k ≡ Some s → IsIdle image budget s
  idle_at k s there =
      let w = seats_there news k s there in
      let p = place_at k w.0 w.1 in
      let made : IsIdle image budget (seat_again w.0) = record {
        number = λ is. p.due.control (sym p.done.number ∙ is);
        free = p.done.free;
        fits = λ other. stopped_fits image start other w.0.unit p.done.fits p.done.free p.stops;
        within = p.done.within;
        idle = inr p.stops;
      } in
      subst (λ (t : Seat). IsIdle image budget t) w.2 made

  all_idle : All (IsIdle image budget) back
  all_idle = all_there (IsIdle image budget) back idle_at

  -- they are seen as they are
  frees_back : frees back ≡ units_of news
  frees_back = same_lists (frees back) (units_of news)
      (length-map back (λ (s : Seat). free s.unit) ∙ length-map news seat_again ∙ sym (length-map news unit_in))
      (λ k x y here there.
      let s = map_there (λ (t : Seat). free t.unit) back k x here in
      let v = map_there unit_in news k y there in
      let again : slice_get back k ≡ Some (seat_again v.0) = there_map seat_again news k v.0 v.1 in
      let same : s.0 ≡ seat_again v.0 = same_there s.0 (seat_again v.0) (sym s.1 ∙ again) in
      let free_v : v.0.unit.waits ≡ false = (place_at k v.0 v.1).done.free in
      sym s.2 ∙ ap (λ (t : Seat). free t.unit) same ∙ free_same v.0.unit free_v ∙ v.2)
    where
      same_there : (s t : Seat) → Some s ≡ Some t → s ≡ t
      same_there s t is = cc

  all_stopped : list_all (λ u. is_stopped u.state) (units_of news) ≡ true
  all_stopped = stopped_all (units_of news) (λ k u there. let v = map_there unit_in news k u there in ap (λ (x : Unit). x.state) (sym v.2) ∙ (place_at k v.0 v.1).stops)

  -- ---- the master goes on

  answered_is : answered image start first 0 ≡ behind_spawn image spawn.at first
  answered_is = rw (next_after image budget old spawn kept_old serial is_at start) refl

  block : spawn.at ≡ start.at
  block = ap (λ (s : Start). s.at) (sym run.is_start)

  behind_is : answered image start first 0 ≡ resumes image start (waits_for first)
  behind_is = answered_is ∙ ap (λ at. behind_spawn image at first) block

  -- ---- steps

  steps_fall : sum_by (λ n. budget - n) (map steps_of (units_of news)) ≤ sum_by (λ n. budget - n) (map steps_of (frees kept_old.others))
  steps_fall =
      sums_fall budget (map steps_of (frees kept_old.others)) (map steps_of (units_of news)) sizes (λ k x y here there.
      let u = map_there steps_of (frees kept_old.others) k x here in
      let s = map_there (λ (t : Seat). free t.unit) kept_old.others k u.0 u.1 in
      let z = map_there steps_of (units_of news) k y there in
      let v = map_there unit_in news k z.0 z.1 in
      let w : slice_get olds k ≡ Some (due_worker s.0) = there_map due_worker kept_old.others k s.0 s.1 in
      let rises = (led image budget old spawn kept_old serial is_at start wide news left run []).rises k (due_worker s.0) v.0 w v.1 in
      let before : steps_of (due_worker s.0).unit ≡ steps_of s.0.unit = due_steps image budget s.0 (idle_of k s.0 s.1) in
      let is_x : steps_of s.0.unit ≡ x = ap steps_of s.2 ∙ u.2 in
      let is_y : steps_of v.0.unit ≡ y = ap steps_of v.2 ∙ z.2 in
      omega (arith, rises, before, is_x, is_y))
    where
      idle_of : (k : ℕ) (s : Seat) → slice_get kept_old.others k ≡ Some s → IsIdle image budget s
      idle_of k s there =
          let all : All (IsIdle image budget) kept_old.others = (held image budget old spawn kept_old serial is_at).idle in
          subst (IsIdle image budget) (get_or_from_slice_get kept_old.others k s s there) (all k s (there_inside kept_old.others k s there))

      sizes : length (map steps_of (frees kept_old.others)) ≡ length (map steps_of (units_of news))
      sizes =
          length-map (frees kept_old.others) steps_of ∙ length-map kept_old.others (λ (t : Seat). free t.unit) ∙ sym (workers_size image budget old spawn kept_old serial is_at) ∙ sym run.size
          ∙ sym (length-map (units_of news) steps_of ∙ length-map news unit_in)

  left_falls : (x : Unit) → steps_of x ≡ more (steps_of first) → steps_left budget (x ∷ units_of news) < steps_left budget (free first ∷ frees kept_old.others)
  left_falls x steps =
      let below : steps_of first < budget = master_below image budget old spawn kept_old serial is_at in
      let fits : budget < 2 ^ 64 = run.fits in
      let rest : sum_by (λ n. budget - n) (map steps_of (units_of news)) ≤ sum_by (λ n. budget - n) (map steps_of (frees kept_old.others)) = steps_fall in
      let after : sum_by (λ n. budget - n) (steps_of x ∷ map steps_of (units_of news)) ≡ (budget - steps_of x) + sum_by (λ n. budget - n) (map steps_of (units_of news)) = sum_by-cons (λ n. budget - n) (steps_of x) (map steps_of (units_of news)) in
      let before : sum_by (λ n. budget - n) (steps_of first ∷ map steps_of (frees kept_old.others)) ≡ (budget - steps_of first) + sum_by (λ n. budget - n) (map steps_of (frees kept_old.others)) = sum_by-cons (λ n. budget - n) (steps_of first) (map steps_of (frees kept_old.others)) in
      let one_more : steps_of x ≡ steps_of first + 1 = omega (arith, steps, below, fits) in
      omega (arith, below, rest, after, before, one_more)

  -- ---- the machine that goes on

  module _ (mid new : kept.Machine) (seats : mid.seats.items ≡ kept_old.master ∷ back) (words : mid.words.items ≡ old.words.items) (start_is : mid.start ≡ start) (size : length left ≡ length old.words.items)
      (goes : GoesOn image budget mid left new) where
    one : Replaced image start budget (kept_old.master ∷ back) new.seats.items 0 (answered image start first 0)
    one =
        let there : slice_get mid.seats.items 0 ≡ Some kept_old.master = ap (λ xs. slice_get xs 0) seats in
        let is : Replaced image mid.start budget mid.seats.items new.seats.items 0 (answered image mid.start first 0) = at_some (slice_get mid.seats.items 0) (λ (s : Seat). Replaced image mid.start budget mid.seats.items new.seats.items 0 (answered image mid.start s.unit 0)) kept_old.master there goes.replaced in
        subst (λ (t : Start). Replaced image t budget (kept_old.master ∷ back) new.seats.items 0 (answered image t first 0)) start_is
        (subst (λ (xs : List Seat). Replaced image mid.start budget xs new.seats.items 0 (answered image mid.start first 0)) seats is)

    are : new.seats.items ≡ one.seat ∷ back
    are = one.put

    resumed : free one.seat.unit ≡ resumes image start (waits_for first)
    resumed = one.holds.same ∙ behind_is

    new_start : new.start ≡ start
    new_start = goes.start ∙ start_is

    new_view : map (seen_seat new.spawned) new.seats.items ≡ resumes image start (waits_for first) ∷ units_of news
    new_view = serial_view new.spawned new.seats.items one.seat back goes.serial are ∙ ap (λ u. u ∷ frees back) resumed ∙ ap (λ us. resumes image start (waits_for first) ∷ us) frees_back

    keeps : Kept image budget new
    keeps = record {
      valid = kept_old.valid;
      master = one.seat;
      others = back;
      are = are;
      some =
          let some : 1 ≤ length kept_old.others = kept_old.some in
          let all : length back ≡ length kept_old.others = length-map news seat_again ∙ run.size ∙ workers_size image budget old spawn kept_old serial is_at in
          omega (arith, some, all);
      holds = kept_serial image budget start new.start new.spawned one.seat back goes.serial new_start (record {
        number = ap (λ (u : Unit). u.number) (one.holds.same ∙ answered_is) ∙ (held image budget old spawn kept_old serial is_at).number;
        tells = one.holds.tells;
        idle = all_idle;
      });
    }

    narrowed : Narrows old.words.items left new.words.items
    narrowed = subst (λ ws. Narrows ws left new.words.items) words goes.words

    leads_on : (out : List ℕ) → RunsTo image (machine_of old out) (machine_of new out)
    leads_on out =
        let l : Led image old first start olds news left out = led image budget old spawn kept_old serial is_at start wide news left run out in
        let units : l.there.units ≡ map (seen_seat new.spawned) new.seats.items = l.units ∙ joins_resumed image start (waits_for first) (units_of news) all_stopped ∙ sym new_view in
        let same_ws : l.cells.words ≡ new.words.items = same_words old.words.items left new.words.items l.cells.words narrowed.size l.agrees.size size narrowed l.first l.agrees.each in
        let there : l.there ≡ machine_of new out =
        all_same l.there (map (seen_seat new.spawned) new.seats.items) new.words.items new.drawn new.start out units (l.words ∙ same_ws) (l.drawn ∙ l.agrees.drawn ∙ sym goes.drawn) (l.start_is ∙ sym new_start) l.out_is in
        subst (λ m. RunsTo image (machine_of old out) m) there l.leads

    pub joined : Joins image budget old new
    joined = record {
      kept = keeps;
      serial = goes.serial;
      leads = leads_on;
      left = subst (λ us. steps_left budget us < steps_left budget (map (seen_seat old.spawned) old.seats.items)) (sym new_view)
          (subst (λ us. steps_left budget (resumes image start (waits_for first) ∷ units_of news) < steps_left budget us) (sym (view image budget old spawn kept_old serial is_at)) (left_falls (resumes image start (waits_for first)) refl));
    }
