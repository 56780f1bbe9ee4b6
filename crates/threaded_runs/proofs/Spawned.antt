-- The kept machine at the spawn of a section, and the machine that the spawn opens.
use Rattle.std.proofs.Common.{◌≡◌, refl, sym, ap, ◌∙◌, subst, ℕ, zero, suc, ◌+◌, ◌<◌, ◌≤◌, ◌&&◌, Bool, true, false, List, [], ◌∷◌, length, map, All, Some, slice_get, arith, inl, inr}
use Rattle.std.specs.List.{list_all}
use Rattle.std.specs.Option.{IsSomeAnd}
use Rattle.std.proofs.lemmas.List.{length-map}
use Rattle.xmt_isa.specs.declared.image.Image.{Image}
use Rattle.xmt_isa.specs.declared.unit.Unit.{Unit}
use Rattle.xmt_isa.specs.declared.unit.UnitState.{UnitState}
use Rattle.xmt_isa.specs.declared.unit.UnitState.TheVariants.{Draws, Runs, Stopped, Halted}
use Rattle.xmt_isa.specs.declared.unit.Start.{Start}
use Rattle.xmt_isa.specs.declared.unit.SpawnAsk.{SpawnAsk}
use Rattle.xmt_isa.specs.declared.unit.Request.TheVariants as request
use Rattle.xmt_isa.specs.declared.unit.Next.TheVariants.{Ask}
use Rattle.xmt_isa.specs.Step.{next_of}
use Rattle.xmt_isa.specs.Machine.{Machine, turn, ready, spawns, waits_for, broadcast, is_stopped}
use Rattle.xmt_isa.specs.Picked.{is_active}
use Rattle.xmt_isa.specs.Legal.{HasTurn}
use Rattle.xmt_isa.specs.Fits.{StartFits}
use Rattle.xmt_isa.specs.Valid.{IsValid}
use Rattle.unit_steps.proofs.Keeps.{keeps_fit}
use Rattle.tcu_engine.specs.Asks.{is_request}
use Rattle.tcu_engine.specs.declared.ask.Ask as engine
use Rattle.tcu_engine.specs.declared.ask.Ask.TheVariants as ask
use Rattle.machine_turns.specs.declared.seats.Seat.{Seat}
use Rattle.machine_turns.specs.declared.machine.Machine as kept
use Rattle.machine_turns.specs.Seats.{free, Tells}
use Rattle.machine_turns.specs.Kept.{IsIdle, Serial, KeptBy, Kept, MayGo, IsAt}
use Rattle.machine_turns.specs.View.{seen_seat, machine_of}
use Rattle.machine_turns.specs.Goes.{SeatGoesOn, asks_trap, asks_spent}
use Rattle.machine_turns.proofs.Frees.{free_same, due_same, next_free}
use Rattle.machine_turns.proofs.Seen.{frees}
use Rattle.machine_turns.proofs.Idle.{all_head, all_tail, ready_fits}
use Rattle.machine_turns.proofs.Moved.{turn_at, same_machine}
use Rattle.machine_turns.proofs.Legality.{goes_on_turn}
use Rattle.machine_turns.proofs.Blocks.{spawn_fits}
use Rattle.machine_sections.specs.Merge.{Cells, IsOpen}
use Rattle.machine_histories.specs.Histories.{Agrees}
use Rattle.spawn_join.specs.declared.worker.Worker.{Worker}
use Rattle.spawn_join.specs.Worked.{IsDue, units_of, unit_in}
use Rattle.threaded_runs.specs.Sections.{AreNumbered}
use Rattle.threaded_runs.specs.Units.{due_by, due_worker}
use Rattle.threaded_runs.specs.Words.{Widens}
use Rattle.threaded_runs.proofs.Places.{map_there}

-- ---- idle units

due_ready : (u : Unit) → (u.state ≡ Draws) → due_by u.state u ≡ ready u
due_ready u is = ap (λ s. due_by s u) is ∙ due_same u is

pub idle_due : (image : Image) (budget : ℕ) (s : Seat) → IsIdle image budget s → due_by s.unit.state s.unit ≡ ready s.unit
idle_due image budget s idle = elim idle.idle [ inl draws ↦ due_ready s.unit draws | inr stopped ↦ ap (λ t. due_by t s.unit) stopped ]

idle_draws : (image : Image) (start : Start) (budget : ℕ) (s : Seat) → IsIdle image budget s → IsDue image start budget (due_worker s).unit
idle_draws image start budget s idle =
    let same : due_by s.unit.state s.unit ≡ ready s.unit = idle_due image budget s idle in
    let made : IsDue image start budget (ready s.unit) = record {
      fits = ready_fits image start s.unit (idle.fits start) idle.free;
      control = idle.number;
      draws = refl;
      free = idle.free;
      within = idle.within;
    } in
    subst (λ u. IsDue image start budget u) (sym same) made

pub all_due : (image : Image) (start : Start) (budget : ℕ) (seats : List Seat) → All (IsIdle image budget) seats → (k : ℕ) (w : Worker) → slice_get (map due_worker seats) k ≡ Some w → IsDue image start budget w.unit
all_due image start budget [] idle k w there = absurd cc
all_due image start budget (s ∷ seats) idle zero w there =
    let same : due_worker s ≡ w = cc in
    subst (λ (v : Worker). IsDue image start budget v.unit) same (idle_draws image start budget s (all_head (IsIdle image budget) s seats idle))
all_due image start budget (s ∷ seats) idle (suc k) w there = all_due image start budget seats (all_tail (IsIdle image budget) s seats idle) k w there

-- due units are as a spawn makes them
pub due_units : (image : Image) (budget : ℕ) (seats : List Seat) → All (IsIdle image budget) seats → map ready (frees seats) ≡ units_of (map due_worker seats)
due_units image budget [] idle = refl
due_units image budget (s ∷ seats) idle =
    let one : IsIdle image budget s = all_head (IsIdle image budget) s seats idle in
    let head : ready (free s.unit) ≡ due_by s.unit.state s.unit = ap ready (free_same s.unit one.free) ∙ sym (idle_due image budget s one) in
    let rest : map ready (frees seats) ≡ units_of (map due_worker seats) = due_units image budget seats (all_tail (IsIdle image budget) s seats idle) in
    ap (λ us. ready (free s.unit) ∷ us) rest ∙ ap (λ u. u ∷ units_of (map due_worker seats)) head

some_draws : (image : Image) (budget : ℕ) (seats : List Seat) → 1 ≤ length seats → All (IsIdle image budget) seats → list_all (λ (u : Unit). is_stopped u.state) (units_of (map due_worker seats)) ≡ false
some_draws image budget [] some idle = absurd (omega (arith, some))
some_draws image budget (s ∷ seats) some idle =
    let same : due_by s.unit.state s.unit ≡ ready s.unit = idle_due image budget s (all_head (IsIdle image budget) s seats idle) in
    let state : is_stopped (due_by s.unit.state s.unit).state ≡ false = ap (λ (u : Unit). is_stopped u.state) same in
    rw state refl

due_number : (state : UnitState) (u : Unit) → (due_by state u).number ≡ u.number
due_number Draws u = refl
due_number Runs u = refl
due_number Stopped u = refl
due_number Halted u = refl

numbers_of : (seats : List Seat) (first : Seat) (others : List Seat) → AreNumbered seats → seats ≡ first ∷ others → (place : ℕ) (u : Unit) → slice_get (units_of (map due_worker others)) place ≡ Some u → u.number ≡ 1 + place
numbers_of seats first others numbered are place u there =
    let w = map_there unit_in (map due_worker others) place u there in
    let s = map_there due_worker others place w.0 w.1 in
    let at : slice_get seats (suc place) ≡ Some s.0 = ap (λ xs. slice_get xs (suc place)) are ∙ s.1 in
    let number : s.0.unit.number ≡ suc place = numbered (suc place) s.0 at in
    let same : (due_by s.0.unit.state s.0.unit).number ≡ u.number = ap (λ (v : Worker). v.unit.number) s.2 ∙ ap (λ (v : Unit). v.number) w.2 in
    let plain : (due_by s.0.unit.state s.0.unit).number ≡ s.0.unit.number = due_number s.0.unit.state s.0.unit in
    omega (arith, number, same, plain)

-- ---- the spawn

serial_of : (image : Image) (budget : ℕ) (start : Start) (spawned : Bool) (master : Seat) (others : List Seat) → spawned ≡ false → KeptBy image budget start spawned master others → Serial image budget start master others
serial_of image budget start spawned master others is held = rw is at held

and_no : (b : Bool) → (b && false) ≡ false
and_no true = refl
and_no false = refl

first_at : (seats : List Seat) (first : Seat) (others : List Seat) (P : Seat → Type 0) → seats ≡ first ∷ others → IsSomeAnd (slice_get seats 0) P → P first
first_at seats first others P are is = rw are at is

at_first : (seats : List Seat) (first : Seat) (others : List Seat) (P : Seat → Type 0) → seats ≡ first ∷ others → P first → IsSomeAnd (slice_get seats 0) P
at_first seats first others P are is = rw are is

spawns_first : (us : List Unit) (x u : Unit) (rest : List Unit) → us ≡ x ∷ rest → spawns us 0 u ≡ waits_for u ∷ map ready rest
spawns_first us x u rest are = rw are refl

pub serial_view : (spawned : Bool) (seats : List Seat) (first : Seat) (others : List Seat) → spawned ≡ false → seats ≡ first ∷ others → map (seen_seat spawned) seats ≡ free first.unit ∷ frees others
serial_view spawned seats first others is are = rw (is, are) refl

-- where something else was broadcast, the master does the same
master_tells : (image : Image) (start other : Start) (budget : ℕ) (u : Unit) (spawn : SpawnAsk) → IsValid image → u.number ≡ 0 → Tells image start budget u (ask.Spawn spawn) → Tells image other budget u (ask.Spawn spawn)
master_tells image start other budget u spawn valid number tells =
    let kept = (keeps_fit image valid).master start other u number tells.fits in
    record {
      begun = tells.begun;
      fits = kept.0;
      within = tells.within;
      waits = tells.waits;
      means = record { live = tells.means.live; below = tells.means.below; next = kept.1 ∙ tells.means.next };
    }

module _ (image : Image) (budget : ℕ) (old : kept.Machine) (spawn : SpawnAsk) (kept_old : Kept image budget old) (serial : old.spawned ≡ false) (is_at : IsAt old 0 (ask.Spawn spawn)) where
  abbrev pub master : Unit
  master = kept_old.master.unit

  abbrev pub workers : List Worker
  workers = map due_worker kept_old.others

  pub held : Serial image budget old.start kept_old.master kept_old.others
  held = serial_of image budget old.start old.spawned kept_old.master kept_old.others serial kept_old.holds

  asked : (is_active old.spawned master ≡ true) × (kept_old.master.ask ≡ ask.Spawn spawn)
  asked = first_at old.seats.items kept_old.master kept_old.others (λ (s : Seat). (is_active old.spawned s.unit ≡ true) × (s.ask ≡ ask.Spawn spawn)) kept_old.are is_at

  pub tells_spawn : Tells image old.start budget master (ask.Spawn spawn)
  tells_spawn = subst (λ (a : engine.Ask). Tells image old.start budget master a) asked.1 held.tells

  pub master_next : next_of image old.start master ≡ Ask (request.Spawn spawn)
  master_next = tells_spawn.means.next

  -- before the spawn the master is below the budget
  pub master_below : master.counts.steps < budget
  master_below = tells_spawn.means.below

  pub master_there : slice_get old.seats.items 0 ≡ Some kept_old.master
  master_there = ap (λ xs. slice_get xs 0) kept_old.are

  pub start_fits : (start : Start) → start ≡ broadcast master spawn → StartFits image start
  start_fits start is = spawn_fits image budget old 0 spawn kept_old is_at kept_old.master master_there start is

  pub may_go : (start : Start) → MayGo image start budget kept_old.master
  may_go start = record {
    has_start = λ other. absurd (other held.number);
    tells = subst (λ (a : engine.Ask). Tells image start budget master a) (sym asked.1) (master_tells image old.start start budget master spawn kept_old.valid held.number tells_spawn);
  }

  pub asks_reply : is_request kept_old.master.ask ≡ true
  asks_reply = ap is_request asked.1

  -- the master does the same where the spawn was broadcast
  pub next_after : (start : Start) → next_of image start master ≡ Ask (request.Spawn spawn)
  next_after start = ((keeps_fit image kept_old.valid).master old.start start master held.number held.tells.fits).1 ∙ master_next

  pub goes_on : IsSomeAnd (slice_get old.seats.items 0) (SeatGoesOn old.spawned)
  goes_on = at_first old.seats.items kept_old.master kept_old.others (SeatGoesOn old.spawned) kept_old.are (record {
    active = asked.0;
    untrapped = ap (λ a. is_active old.spawned master && asks_trap a) asked.1 ∙ and_no (is_active old.spawned master);
    unspent = ap (λ a. is_active old.spawned master && asks_spent a) asked.1 ∙ and_no (is_active old.spawned master);
  })

  pub has_turn : (out : List ℕ) → HasTurn image (machine_of old out) 0
  has_turn out = goes_on_turn image budget old 0 kept_old goes_on out

  -- the machine that the spawn opens
  abbrev pub opened : Start → List ℕ → Machine
  opened start out = record { units = waits_for master ∷ units_of workers; words = old.words.items; drawn = 0; start = start; out = out }

  pub view : map (seen_seat old.spawned) old.seats.items ≡ free master ∷ frees kept_old.others
  view = serial_view old.spawned old.seats.items kept_old.master kept_old.others serial kept_old.are

  pub spawn_turn : (start : Start) (out : List ℕ) → start ≡ broadcast master spawn → turn image (machine_of old out) 0 ≡ opened start out
  spawn_turn start out is =
      let first : slice_get (map (seen_seat old.spawned) old.seats.items) 0 ≡ Some (free master) = ap (λ us. slice_get us 0) view in
      let units : spawns (map (seen_seat old.spawned) old.seats.items) 0 (free master) ≡ waits_for master ∷ units_of workers =
      spawns_first (map (seen_seat old.spawned) old.seats.items) (free master) (free master) (frees kept_old.others) view
      ∙ ap (λ us. waits_for master ∷ us) (due_units image budget kept_old.others held.idle) in
      turn_at image (machine_of old out) 0 (free master) (Ask (request.Spawn spawn)) first (next_free image old.start master ∙ master_next)
      ∙ same_machine (spawns (map (seen_seat old.spawned) old.seats.items) 0 (free master)) (waits_for master ∷ units_of workers) old.words.items old.words.items 0 0 (broadcast (free master) spawn) start out
      units refl refl (sym is)

  pub is_open : AreNumbered old.seats.items → (start : Start) (out : List ℕ) → IsOpen (opened start out) (waits_for master) (units_of workers)
  is_open numbered start out = record {
    units = refl;
    waits = refl;
    numbers = numbers_of old.seats.items kept_old.master kept_old.others numbered kept_old.are;
    some = some_draws image budget kept_old.others kept_old.some held.idle;
  }

  pub agrees : (wide : List ℕ) → Widens old.words.items wide → 4 ≤ length old.words.items → (let c : Cells = record { words = old.words.items; drawn = 0 } in Agrees wide c)
  agrees wide widens long =
      let size : length wide ≡ length old.words.items = widens.size in
      record { size = sym widens.size; each = widens.each; drawn = sym (widens.zeros 1 (omega arith)); long = omega (arith, size, long) }

  pub workers_due : (start : Start) (k : ℕ) (w : Worker) → slice_get workers k ≡ Some w → IsDue image start budget w.unit
  workers_due start = all_due image start budget kept_old.others held.idle

  pub workers_size : length workers ≡ length kept_old.others
  workers_size = length-map kept_old.others due_worker
