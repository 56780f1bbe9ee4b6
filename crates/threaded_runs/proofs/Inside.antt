-- Where a control unit of a section stands at a trap, or has spent its budget, the run ends in the section.
use Rattle.std.proofs.Common.{◌≡◌, ◌≢◌, refl, sym, ap, ◌∙◌, subst, ℕ, zero, suc, ◌^◌, ◌<◌, ◌≤◌, ◌==◌, ◌&&◌, nat_lt, Bool, true, false, not, if◌then◌else◌, List, [], ◌∷◌, length, map, Option, Some, None, slice_get, slice_index, slice_index_or, find, arith}
use Rattle.std.specs.List.{list_all}
use Rattle.std.proofs.lemmas.Bool.Decides.{nat_tests}
use Rattle.std.proofs.lemmas.Option.{get_or_from_slice_get}
use Rattle.xmt_base.specs.declared.values.Trap.{Trap}
use Rattle.xmt_isa.specs.declared.image.Image.{Image}
use Rattle.xmt_isa.specs.declared.run.Choice.{Choice}
use Rattle.xmt_isa.specs.declared.run.Choice.TheVariants as choice
use Rattle.xmt_isa.specs.declared.unit.Unit.{Unit}
use Rattle.xmt_isa.specs.declared.unit.UnitState.{UnitState}
use Rattle.xmt_isa.specs.declared.unit.UnitState.TheVariants.{Draws, Runs, Stopped, Halted}
use Rattle.xmt_isa.specs.declared.unit.Start.{Start}
use Rattle.xmt_isa.specs.declared.unit.SpawnAsk.{SpawnAsk}
use Rattle.xmt_isa.specs.declared.unit.Next.{Next}
use Rattle.xmt_isa.specs.declared.unit.Next.TheVariants as next
use Rattle.xmt_isa.specs.Step.{more, next_of}
use Rattle.xmt_isa.specs.Machine.{Machine, joins, waits_for, is_stopped}
use Rattle.xmt_isa.specs.Picked.{is_live, is_spawned, is_active, is_trap, is_trapped, is_spent, trap_of, choice_by, choice_of}
use Rattle.unit_steps.specs.Steps.{HasSpent, StandsAtTrap}
use Rattle.tcu_engine.specs.declared.ask.Ask.TheVariants as ask
use Rattle.machine_turns.specs.declared.machine.Machine as kept
use Rattle.machine_turns.specs.Steps.{IsWithin, steps_of}
use Rattle.machine_turns.specs.Kept.{Kept, IsAt}
use Rattle.spawn_join.specs.declared.worker.Worker.{Worker}
use Rattle.spawn_join.specs.Worked.{IsDue, HasFinished, units_of, unit_in}
use Rattle.spawn_join.specs.Ends.{HasTrapped, NoTrap, NoneTrappedTo, NoneTrapped, IsFirstTrapped, NoneSpentTo, IsFirstSpent}
use Rattle.threaded_runs.specs.Runs.{IsEnd}
use Rattle.threaded_runs.specs.Sections.{EndsInside}
use Rattle.threaded_runs.proofs.Places.{map_there, there_map, inside_there, there_inside, all_there, find_head, find_first, find_nothing}
use Rattle.threaded_runs.proofs.Spawned.{master, workers, held, master_below, workers_due}
use Rattle.threaded_runs.proofs.Led.{HasRun, Led, led, finished_at}

-- ---- not all have stopped

live_goes : (s : UnitState) → is_live s ≡ true → is_stopped s ≡ false
live_goes Draws live = refl
live_goes Runs live = refl
live_goes Stopped live = absurd cc
live_goes Halted live = absurd cc

and_no : (b : Bool) → (b && false) ≡ false
and_no true = refl
and_no false = refl

some_live : (us : List Unit) (k : ℕ) (u : Unit) → slice_get us k ≡ Some u → is_live u.state ≡ true → list_all (λ (x : Unit). is_stopped x.state) us ≡ false
some_live [] k u there live = absurd cc
some_live (x ∷ us) zero u there live =
    let same : u ≡ x = cc in
    let goes : is_stopped x.state ≡ false = live_goes x.state (ap (λ (y : Unit). is_live y.state) (sym same) ∙ live) in
    rw goes refl
some_live (x ∷ us) (suc k) u there live =
    let rest : list_all (λ (y : Unit). is_stopped y.state) us ≡ false = some_live us k u there live in
    rw rest (and_no (is_stopped x.state))

joins_not : (image : Image) (start : Start) (x : Unit) (us : List Unit) → list_all (λ u. is_stopped u.state) us ≡ false → joins image start (x ∷ us) ≡ x ∷ us
joins_not image start x us some = rw some refl

-- ---- the tests of one unit

not_zero : (n : ℕ) → n ≢ 0 → (n == 0) ≡ false
not_zero n other = grind (arith, nat_tests, other)

trapped_is : (image : Image) (start : Start) (budget : ℕ) (u : Unit) (trap : Trap) → u.number ≢ 0 → HasTrapped image start budget u trap → is_trapped image start budget true u ≡ true
trapped_is image start budget u trap control (below, stands) =
    let test : nat_lt u.counts.steps budget ≡ true = grind (arith, nat_tests, below) in
    rw (stands.live, not_zero u.number control, test, stands.kind) refl

spent_is : (budget : ℕ) (u : Unit) → u.number ≢ 0 → HasSpent budget u → is_spent budget true u ≡ true
spent_is budget u control spent =
    let test : (u.counts.steps == budget) ≡ true = grind (arith, nat_tests, spent.steps) in
    rw (spent.live, not_zero u.number control, test) refl

untrapped_by : (image : Image) (start : Start) (budget : ℕ) (u : Unit) → NoTrap image start budget u → (live there below : Bool) (n : Next) → is_live u.state ≡ live → nat_lt u.counts.steps budget ≡ below → next_of image start u ≡ n
    → ((live && there) && (below && is_trap n)) ≡ false
untrapped_by image start budget u none false there below n is_it is_below is_next = refl
untrapped_by image start budget u none true false below n is_it is_below is_next = refl
untrapped_by image start budget u none true true false n is_it is_below is_next = refl
untrapped_by image start budget u none true true true next.Local is_it is_below is_next = refl
untrapped_by image start budget u none true true true (next.Ask request) is_it is_below is_next = refl
untrapped_by image start budget u none true true true (next.Trap kind) is_it is_below is_next =
    let below : u.counts.steps < budget = grind (arith, nat_tests, is_below) in
    absurd (none (record { kind = kind; line = slice_index image.lines u.at; thread = u.thread }) (below, record { live = is_it; kind = is_next; line = refl; thread = refl }))

untrapped_is : (image : Image) (start : Start) (budget : ℕ) (u : Unit) → NoTrap image start budget u → is_trapped image start budget true u ≡ false
untrapped_is image start budget u none =
    untrapped_by image start budget u none (is_live u.state) (if u.number == 0 then not true else true) (nat_lt u.counts.steps budget) (next_of image start u) refl refl refl

unspent_by : (budget : ℕ) (u : Unit) → (HasSpent budget u → ⊥) → (live there spent : Bool) → is_live u.state ≡ live → (u.counts.steps == budget) ≡ spent → ((live && there) && spent) ≡ false
unspent_by budget u none false there spent is_it is_spent = refl
unspent_by budget u none true false spent is_it is_spent = refl
unspent_by budget u none true true false is_it is_spent = refl
unspent_by budget u none true true true is_it is_spent =
    let steps : u.counts.steps ≡ budget = grind (arith, nat_tests, is_spent) in
    absurd (none (record { live = is_it; steps = steps }))

unspent_is : (budget : ℕ) (u : Unit) → (HasSpent budget u → ⊥) → is_spent budget true u ≡ false
unspent_is budget u none = unspent_by budget u none (is_live u.state) (if u.number == 0 then not true else true) (u.counts.steps == budget) refl refl

-- the master has no turn in a section
inactive_master : (u : Unit) → u.number ≡ 0 → is_active true u ≡ false
inactive_master u is = rw is (and_no (is_live u.state))

and_first : (b c : Bool) → b ≡ false → (b && c) ≡ false
and_first b c is = rw is refl

-- ---- the tests of all units

module _ (image : Image) (budget : ℕ) (start : Start) (first : Unit) (news : List Worker) (is_master : first.number ≡ 0) where
  abbrev units : List Unit
  units = first ∷ units_of news

  abbrev trapped : Unit → Bool
  trapped u = is_trapped image start budget true u

  abbrev spent : Unit → Bool
  spent u = is_spent budget true u

  no_master_trapped : trapped first ≡ false
  no_master_trapped = and_first (is_active true first) (nat_lt first.counts.steps budget && is_trap (next_of image start first)) (inactive_master first is_master)

  no_master_spent : spent first ≡ false
  no_master_spent = and_first (is_active true first) (first.counts.steps == budget) (inactive_master first is_master)

  -- where no unit before one is at a trap, that isn't seen before it
  before_trapped : (to : ℕ) → NoneTrappedTo image start budget news to → (i : ℕ) (u : Unit) → i < to → slice_get (units_of news) i ≡ Some u → trapped u ≡ false
  before_trapped to none i u before there =
      let v = map_there unit_in news i u there in
      let no : NoTrap image start budget v.0.unit = subst (λ (w : Worker). NoTrap image start budget w.unit) (get_or_from_slice_get news i v.0 v.0 v.1) (none i v.0 before) in
      subst (λ (x : Unit). trapped x ≡ false) v.2 (untrapped_is image start budget v.0.unit no)

  before_spent : (to : ℕ) → NoneSpentTo budget news to → (i : ℕ) (u : Unit) → i < to → slice_get (units_of news) i ≡ Some u → spent u ≡ false
  before_spent to none i u before there =
      let v = map_there unit_in news i u there in
      let no : HasSpent budget v.0.unit → ⊥ = subst (λ (w : Worker). HasSpent budget w.unit → ⊥) (get_or_from_slice_get news i v.0 v.0 v.1) (none i v.0 before) in
      subst (λ (x : Unit). spent x ≡ false) v.2 (unspent_is budget v.0.unit no)

  nothing_trapped : NoneTrapped image start budget news → find trapped units ≡ None
  nothing_trapped none =
      find_head trapped first (units_of news) no_master_trapped
      ∙ find_nothing trapped (units_of news) (λ i u there. before_trapped (length news) none i u (let v = map_there unit_in news i u there in there_inside news i v.0 v.1) there)

  first_trapped : (k : ℕ) (v : Worker) → slice_get news k ≡ Some v → trapped v.unit ≡ true → NoneTrappedTo image start budget news k → find trapped units ≡ Some v.unit
  first_trapped k v now is none =
      find_head trapped first (units_of news) no_master_trapped
      ∙ find_first trapped (units_of news) k v.unit (there_map unit_in news k v now) is (λ i u before there. before_trapped k none i u before there)

  first_spent : (k : ℕ) (v : Worker) → slice_get news k ≡ Some v → spent v.unit ≡ true → NoneSpentTo budget news k → find spent units ≡ Some v.unit
  first_spent k v now is none =
      find_head spent first (units_of news) no_master_spent
      ∙ find_first spent (units_of news) k v.unit (there_map unit_in news k v now) is (λ i u before there. before_spent k none i u before there)

-- ---- how a run ends by what is found

trap_told : (image : Image) (start : Start) (u : Unit) (trap : Trap) → StandsAtTrap image start u trap → trap_of image u (next.Trap trap.kind) ≡ choice.Trap trap
trap_told image start u trap stands =
    ap (λ n. choice.Trap (record { kind = trap.kind; line = n; thread = u.thread })) (sym stands.line) ∙ ap (λ n. choice.Trap (record { kind = trap.kind; line = trap.line; thread = n })) (sym stands.thread)

module _ (image : Image) (budget : ℕ) (m : Machine) (state : ℕ) (start : Start) (us : List Unit) (units : m.units ≡ us) (start_is : m.start ≡ start) (spawned : is_spawned us ≡ true) where
  finds_trapped : (found : Option Unit) → find (is_trapped image start budget true) us ≡ found → find (is_trapped image m.start budget (is_spawned m.units)) m.units ≡ found
  finds_trapped found is =
      ap (λ s. find (is_trapped image s budget (is_spawned m.units)) m.units) start_is ∙ ap (λ (xs : List Unit). find (is_trapped image start budget (is_spawned xs)) xs) units
      ∙ ap (λ b. find (is_trapped image start budget b) us) spawned ∙ is

  finds_spent : (found : Option Unit) → find (is_spent budget true) us ≡ found → find (is_spent budget (is_spawned m.units)) m.units ≡ found
  finds_spent found is = ap (λ (xs : List Unit). find (is_spent budget (is_spawned xs)) xs) units ∙ ap (λ b. find (is_spent budget b) us) spawned ∙ is

  ends_trapped : (u : Unit) (trap : Trap) → find (is_trapped image start budget true) us ≡ Some u → StandsAtTrap image start u trap → choice_of image budget (record { machine = m; state = state }) ≡ choice.Trap trap
  ends_trapped u trap found stands =
      ap (λ o. choice_by image m state o (find (is_spent budget (is_spawned m.units)) m.units)) (finds_trapped (Some u) found)
      ∙ ap (λ s. trap_of image u (next_of image s u)) start_is ∙ ap (trap_of image u) stands.kind ∙ trap_told image start u trap stands

  ends_spent : (u : Unit) → find (is_trapped image start budget true) us ≡ None → find (is_spent budget true) us ≡ Some u → u.counts.steps ≡ budget
      → choice_of image budget (record { machine = m; state = state }) ≡ choice.Spent u.number budget
  ends_spent u none found steps =
      ap (λ o. choice_by image m state o (find (is_spent budget (is_spawned m.units)) m.units)) (finds_trapped None none) ∙ ap (choice_by image m state None) (finds_spent (Some u) found)
      ∙ ap (choice.Spent u.number) steps

-- ---- the section

module _ (image : Image) (budget : ℕ) (old : kept.Machine) (spawn : SpawnAsk) (kept_old : Kept image budget old) (serial : old.spawned ≡ false) (is_at : IsAt old 0 (ask.Spawn spawn))
    (start : Start) (wide : List ℕ) (news : List Worker) (left : List ℕ)
    (run : HasRun image budget old (workers image budget old spawn kept_old serial is_at) (master image budget old spawn kept_old serial is_at) spawn start wide news left) where
  abbrev olds : List Worker
  olds = workers image budget old spawn kept_old serial is_at

  abbrev waiting : Unit
  waiting = waits_for (master image budget old spawn kept_old serial is_at)

  is_master : waiting.number ≡ 0
  is_master = (held image budget old spawn kept_old serial is_at).number

  -- the worker in a place, before and after
  record Place (k : ℕ) (v : Worker) : Type 0 where
    before : Worker
    due : IsDue image start budget before.unit
    done : HasFinished image start budget before v

  place_at : (k : ℕ) (v : Worker) → slice_get news k ≡ Some v → Place k v
  place_at k v now =
      let size : length news ≡ length olds = run.size in
      let inside : k < length news = there_inside news k v now in
      let w = inside_there olds k (omega (arith, size, inside)) in
      record {
        before = w.0;
        due = workers_due image budget old spawn kept_old serial is_at start k w.0 w.1;
        done = finished_at image start budget olds news k w.0 v run.finished w.1 now;
      }

  control_at : (k : ℕ) (v : Worker) → slice_get news k ≡ Some v → v.unit.number ≢ 0
  control_at k v now same = let p = place_at k v now in p.due.control (sym p.done.number ∙ same)

  all_within : IsWithin budget (waiting ∷ units_of news)
  all_within = all_there (λ s. s ≤ budget) (map steps_of (waiting ∷ units_of news)) each
    where
      each : (k x : ℕ) → slice_get (map steps_of (waiting ∷ units_of news)) k ≡ Some x → x ≤ budget
      each zero x there =
          let below : steps_of (master image budget old spawn kept_old serial is_at) < budget = master_below image budget old spawn kept_old serial is_at in
          let fits : budget < 2 ^ 64 = run.fits in
          let same : more (steps_of (master image budget old spawn kept_old serial is_at)) ≡ x = cc in
          omega (arith, below, fits, same)
      each (suc k) x there =
          let u = map_there steps_of (units_of news) k x there in
          let v = map_there unit_in news k u.0 u.1 in
          let within : steps_of v.0.unit ≤ budget = (place_at k v.0 v.1).done.within in
          let same : steps_of v.0.unit ≡ x = ap steps_of v.2 ∙ u.2 in
          omega (arith, within, same)

  -- a live unit keeps the master waiting
  waits : (k : ℕ) (v : Worker) → slice_get news k ≡ Some v → is_live v.unit.state ≡ true → joins image start (waiting ∷ units_of news) ≡ waiting ∷ units_of news
  waits k v now live = joins_not image start waiting (units_of news) (some_live (units_of news) k v.unit (there_map unit_in news k v now) live)

  ends_inside : (end : Choice) (k : ℕ) (v : Worker) → slice_get news k ≡ Some v → is_live v.unit.state ≡ true → ((i : ℕ) → end ≢ choice.Step i) → end ≢ choice.Done
      → ((m : Machine) → m.units ≡ waiting ∷ units_of news → m.start ≡ start → IsEnd image budget m end) → EndsInside image budget old end
  ends_inside end k v now live no_step not_done ends = record {
    there = λ out. (at out).there;
    leads = λ out. (at out).leads;
    within = λ out. subst (IsWithin budget) (sym (units out)) all_within;
    ends = λ out. ends (at out).there (units out) (at out).start_is;
    silent = λ out. (at out).out_is;
    no_step = no_step;
    not_done = not_done;
  }
    where
      at : (out : List ℕ) → Led image old (master image budget old spawn kept_old serial is_at) start olds news left out
      at out = led image budget old spawn kept_old serial is_at start wide news left run out

      units : (out : List ℕ) → (at out).there.units ≡ waiting ∷ units_of news
      units out = (at out).units ∙ waits k v now live

  pub trapped_inside : (number : ℕ) (trap : Trap) → IsFirstTrapped image start budget news number trap → EndsInside image budget old (choice.Trap trap)
  trapped_inside number trap one =
      let v = inside_there news one.place one.inside in
      let is : HasTrapped image start budget v.0.unit trap = subst (λ (w : Worker). HasTrapped image start budget w.unit trap) (get_or_from_slice_get news one.place v.0 v.0 v.1) (one.trapped v.0) in
      let found : find (is_trapped image start budget true) (waiting ∷ units_of news) ≡ Some v.0.unit =
      first_trapped image budget start waiting news is_master one.place v.0 v.1 (trapped_is image start budget v.0.unit trap (control_at one.place v.0 v.1) is) one.first in
      ends_inside (choice.Trap trap) one.place v.0 v.1 is.1.live (λ i same. absurd cc) (λ same. absurd cc)
      (λ m units start_is state. ends_trapped image budget m state start (waiting ∷ units_of news) units start_is refl v.0.unit trap found is.1)

  pub spent_inside : (number : ℕ) → NoneTrapped image start budget news → IsFirstSpent budget news number → EndsInside image budget old (choice.Spent number budget)
  spent_inside number none one =
      let v = inside_there news one.place one.inside in
      let same : slice_index_or news one.place v.0 ≡ v.0 = get_or_from_slice_get news one.place v.0 v.0 v.1 in
      let is : HasSpent budget v.0.unit = subst (λ (w : Worker). HasSpent budget w.unit) same (one.spent v.0) in
      let number_is : v.0.unit.number ≡ number = ap (λ (w : Worker). w.unit.number) (sym same) ∙ one.number_is v.0 in
      let found : find (is_spent budget true) (waiting ∷ units_of news) ≡ Some v.0.unit =
      first_spent image budget start waiting news is_master one.place v.0 v.1 (spent_is budget v.0.unit (control_at one.place v.0 v.1) is) one.first in
      ends_inside (choice.Spent number budget) one.place v.0 v.1 is.live (λ i e. absurd cc) (λ e. absurd cc)
      (λ m units start_is state.
      ends_spent image budget m state start (waiting ∷ units_of news) units start_is refl v.0.unit (nothing_trapped image budget start waiting news is_master none) found is.steps
      ∙ ap (λ n. choice.Spent n budget) number_is)
