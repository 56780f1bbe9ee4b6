-- Draws and spawns of the kept machine.
use Rattle.std.proofs.Common.{◌≡◌, ◌≢◌, refl, sym, ap, ◌∙◌, subst, ℕ, zero, suc, ◌+◌, ◌≤◌, Bool, true, false, if◌then◌else◌, List, [], ◌∷◌, length, map, All, Some, slice_get, slice_set, arith}
use Rattle.std.specs.List.{list_all}
use Rattle.std.proofs.lemmas.List.{map-set, length-set, length-map}
use Rattle.std.proofs.lemmas.List.Elements.{All-set}
use Rattle.std.specs.Option.{IfSome}
use Rattle.xmt_isa.specs.declared.image.Image.{Image}
use Rattle.xmt_isa.specs.declared.unit.Unit.{Unit}
use Rattle.xmt_isa.specs.declared.unit.Start.{Start}
use Rattle.xmt_isa.specs.declared.unit.SpawnAsk.{SpawnAsk}
use Rattle.xmt_isa.specs.declared.unit.Request.TheVariants as request
use Rattle.xmt_isa.specs.declared.unit.Next.TheVariants.{Ask}
use Rattle.xmt_isa.specs.Step.{more, next_of, answer_of, draws}
use Rattle.xmt_isa.specs.Machine.{Machine, turn, joins, resumes, ready, spawns, waits_for, broadcast, is_stopped}
use Rattle.xmt_isa.specs.Picked.{is_active}
use Rattle.xmt_isa.specs.Regions.{IsSpawn}
use Rattle.xmt_isa.specs.Fits.{StartFits}
use Rattle.xmt_isa.proofs.Broadcast.{broadcast_fits}
use Rattle.xmt_isa.specs.Valid.{IsValid}
use Rattle.unit_steps.specs.Steps.{DoesNext, answered, behind_spawn}
use Rattle.tcu_engine.specs.Asks.{is_request}
use Rattle.tcu_engine.specs.declared.ask.Ask as engine
use Rattle.tcu_engine.specs.declared.ask.Ask.TheVariants as ask
use Rattle.machine_turns.specs.declared.seats.Seat.{Seat}
use Rattle.machine_turns.specs.declared.machine.Machine as kept
use Rattle.machine_turns.specs.Seats.{free, has_stopped, Means, Tells, Holds, Replaced}
use Rattle.machine_turns.specs.Kept.{IsIdle, IsRunning, BehindMaster, Serial, Parallel, KeptBy, Kept, MayGo, IsAt}
use Rattle.machine_turns.specs.View.{seen, seen_seat, machine_of}
use Rattle.machine_turns.specs.Goes.{Goes}
use Rattle.unit_steps.proofs.Keeps.{keeps_fit}
use Rattle.machine_turns.proofs.Frees.{free_same, next_free, answer_free, draw_answer, draws_steps}
use Rattle.machine_turns.proofs.Seen.{at_some, all_at, active_serial, active_parallel, seen_master, seen_running, frees, stopped_seen}
use Rattle.machine_turns.proofs.Idle.{all_head, all_tail, all_idle}
use Rattle.machine_turns.proofs.Moved.{turn_at, same_machine, Turning, turning}

-- ---- views of all units

running_numbers : (image : Image) (start : Start) (budget : ℕ) (seats : List Seat) → All (IsRunning image start budget) seats → (k : ℕ) (s : Seat) → slice_get seats k ≡ Some s → s.unit.number ≢ 0
running_numbers image start budget seats running k s there = (all_at (IsRunning image start budget) seats k s running there).number

view_parallel : (image : Image) (start : Start) (budget : ℕ) (spawned : Bool) (seats : List Seat) (master : Seat) (others : List Seat) → spawned ≡ true → seats ≡ master ∷ others → All (IsRunning image start budget) others
    → map (seen_seat spawned) seats ≡ seen true master.unit ∷ frees others
view_parallel image start budget spawned seats master others is are running =
    rw (is, are) (ap (λ us. seen true master.unit ∷ us) (seen_running image start budget true others (running_numbers image start budget others running)))

view_serial : (spawned : Bool) (seats : List Seat) (master : Seat) (others : List Seat) → spawned ≡ false → seats ≡ master ∷ others → map (seen_seat spawned) seats ≡ free master.unit ∷ frees others
view_serial spawned seats master others is are = rw (is, are) refl

held_parallel : (image : Image) (budget : ℕ) (start : Start) (spawned : Bool) (master : Seat) (others : List Seat) → spawned ≡ true → KeptBy image budget start spawned master others → Parallel image budget start master others
held_parallel image budget start spawned master others is held = rw is at held

held_serial : (image : Image) (budget : ℕ) (start : Start) (spawned : Bool) (master : Seat) (others : List Seat) → spawned ≡ false → KeptBy image budget start spawned master others → Serial image budget start master others
held_serial image budget start spawned master others is held = rw is at held

-- ---- draws

spawned_by : (spawned : Bool) (u : Unit) → is_active spawned u ≡ true → u.number ≢ 0 → spawned ≡ true
spawned_by true u active other = refl
spawned_by false u active other = absurd (active_serial u active other)

-- a control unit drew
pub record Drawn (image : Image) (budget : ℕ) (start : Start) (master : Seat) (others new : List Seat) (k : ℕ) (known : Unit) : Type 0 where
  pub place : ℕ
  pub behind : k ≡ suc place
  pub others' : List Seat
  pub are : new ≡ master ∷ others'
  pub some : 1 ≤ length others'
  pub running : All (IsRunning image start budget) others'
  pub units : frees others' ≡ slice_set (frees others) place known

drawn_by : (image : Image) (budget : ℕ) (start : Start) (master : Seat) (others : List Seat) (k : ℕ) (s after : Seat) (known : Unit) → Parallel image budget start master others → 1 ≤ length others
    → slice_get (master ∷ others) k ≡ Some s → s.unit.number ≢ 0 → Holds image start budget known after.unit after.ask → known.number ≡ s.unit.number
    → Drawn image budget start master others (slice_set (master ∷ others) k after) k known
drawn_by image budget start master others zero s after known held some there other holds number =
    let same : master ≡ s = cc in
    absurd (other (ap (λ (t : Seat). t.unit.number) (sym same) ∙ held.number))
drawn_by image budget start master others (suc j) s after known held some there other holds number =
    let same_number : after.unit.number ≡ s.unit.number = ap (λ (u : Unit). u.number) holds.same ∙ number in
    let one : IsRunning image start budget after = record { number = λ is. other (sym same_number ∙ is); tells = holds.tells } in
    record {
      place = j;
      behind = refl;
      others' = slice_set others j after;
      are = refl;
      some = rw length-set some;
      running = All-set (IsRunning image start budget) others j after one held.running;
      units = map-set (λ (t : Seat). free t.unit) others j after ∙ ap (λ u. slice_set (frees others) j u) holds.same;
    }

set_behind : (x : Unit) (us : List Unit) (k j : ℕ) (w : Unit) → k ≡ suc j → slice_set (x ∷ us) k w ≡ x ∷ slice_set us j w
set_behind x us k j w is = rw is refl

drawn_same : (image : Image) (budget : ℕ) (start : Start) (master : Seat) (others mid put : List Seat) (k : ℕ) (drew known : Unit) → mid ≡ put → known ≡ drew → Drawn image budget start master others put k known → Drawn image budget start master others mid k drew
drawn_same image budget start master others mid put k drew known is same made = rw (is, ← same) made

answered_draw : (image : Image) (start : Start) (u : Unit) (k : ℕ) → next_of image start u ≡ Ask request.Draw → answered image start u k ≡ answer_of image start (free u) k
answered_draw image start u k is =
    let plain : answer_of image start u k ≡ draws start u k = draw_answer image start u k is in
    rw is (ap (λ v. free v) (sym plain) ∙ sym (answer_free image start u k))

module _ (image : Image) (budget : ℕ) (old : kept.Machine) (k : ℕ) (mid : List Seat) (kept_old : Kept image budget old) (is_at : IsAt old k ask.Draw)
    (replaced : IfSome (slice_get old.seats.items k) (λ s. Replaced image old.start budget old.seats.items mid k (answered image old.start s.unit old.drawn))) where
  abbrev drawing : Turning image budget old k ask.Draw
  drawing = turning image budget old k ask.Draw kept_old is_at

  abbrev drawing_unit : Unit
  drawing_unit = drawing.seat.unit

  draws_next : DoesNext image old.start budget drawing_unit (Ask request.Draw)
  draws_next = drawing.means

  draws_control : drawing_unit.number ≢ 0
  draws_control = (keeps_fit image kept_old.valid).draws old.start drawing_unit drawing.may.tells.fits draws_next.live drawing.may.tells.begun draws_next.next

  draws_spawned : old.spawned ≡ true
  draws_spawned = spawned_by old.spawned drawing_unit drawing.active draws_control

  draws_held : Parallel image budget old.start kept_old.master kept_old.others
  draws_held = held_parallel image budget old.start old.spawned kept_old.master kept_old.others draws_spawned kept_old.holds

  -- the unit behind its draw
  abbrev drew : Unit
  drew = answer_of image old.start (free drawing_unit) old.drawn

  drew_number : (answered image old.start drawing_unit old.drawn).number ≡ drawing_unit.number
  drew_number =
      let plain : answer_of image old.start drawing_unit old.drawn ≡ draws old.start drawing_unit old.drawn = draw_answer image old.start drawing_unit old.drawn draws_next.next in
      ap (λ (u : Unit). u.number) (answered_draw image old.start drawing_unit old.drawn draws_next.next ∙ answer_free image old.start drawing_unit old.drawn ∙ ap (λ v. free v) plain)
      ∙ (draws_steps old.start drawing_unit old.drawn).number

  drawn_mid : Drawn image budget old.start kept_old.master kept_old.others mid k drew
  drawn_mid =
      let one : Replaced image old.start budget old.seats.items mid k (answered image old.start drawing_unit old.drawn) = at_some _ _ drawing.seat drawing.there replaced in
      let known : answered image old.start drawing_unit old.drawn ≡ drew = answered_draw image old.start drawing_unit old.drawn draws_next.next in
      let put : mid ≡ slice_set (kept_old.master ∷ kept_old.others) k one.seat = one.put ∙ ap (λ xs. slice_set xs k one.seat) kept_old.are in
      let made : Drawn image budget old.start kept_old.master kept_old.others (slice_set (kept_old.master ∷ kept_old.others) k one.seat) k (answered image old.start drawing_unit old.drawn) =
      drawn_by image budget old.start kept_old.master kept_old.others k drawing.seat one.seat _ draws_held kept_old.some (subst (λ (xs : List Seat). slice_get xs k ≡ Some drawing.seat) kept_old.are drawing.there) draws_control one.holds drew_number in
      drawn_same image budget old.start kept_old.master kept_old.others mid _ k drew _ put known made

  -- the units that the turn leaves, before the master goes on
  drawn_units : slice_set (map (seen_seat old.spawned) old.seats.items) k drew ≡ seen true kept_old.master.unit ∷ frees drawn_mid.others'
  drawn_units =
      let view : map (seen_seat old.spawned) old.seats.items ≡ seen true kept_old.master.unit ∷ frees kept_old.others =
      view_parallel image old.start budget old.spawned old.seats.items kept_old.master kept_old.others draws_spawned kept_old.are draws_held.running in
      ap (λ us. slice_set us k drew) view ∙ set_behind (seen true kept_old.master.unit) (frees kept_old.others) k drawn_mid.place drew drawn_mid.behind ∙ ap (λ us. seen true kept_old.master.unit ∷ us) (sym drawn_mid.units)

  draw_turn : (out : List ℕ) → turn image (machine_of old out) k
      ≡ (let after : Machine = record { units = joins image old.start (slice_set (map (seen_seat old.spawned) old.seats.items) k drew); words = old.words.items; drawn = more old.drawn; start = old.start; out = out } in after)
  draw_turn out = turn_at image (machine_of old out) k (free drawing_unit) (Ask request.Draw) drawing.seen (next_free image old.start drawing_unit ∙ draws_next.next)

  joins_by : (b : Bool) (x : Unit) (us : List Unit) → list_all (λ u. is_stopped u.state) us ≡ b → joins image old.start (x ∷ us) ≡ (if b then resumes image old.start x ∷ us else x ∷ us)
  joins_by b x us is = rw is refl

  -- some control unit still runs
  pub draw_on : (new : kept.Machine) → new.seats.items ≡ mid → new.words.items ≡ old.words.items → new.drawn ≡ more old.drawn → new.start ≡ old.start → new.spawned ≡ old.spawned
      → ((master : Seat) (others : List Seat) → mid ≡ master ∷ others → list_all has_stopped others ≡ false) → Goes image budget k old new
  draw_on new seats words drawn same_start same_spawned runs =
      let others : List Seat = drawn_mid.others' in
      let on : list_all has_stopped others ≡ false = runs kept_old.master others drawn_mid.are in
      let still : list_all (λ u. is_stopped u.state) (frees others) ≡ false = stopped_seen false others ∙ on in
      let held : Parallel image budget old.start kept_old.master others = record {
        number = draws_held.number;
        tells = draws_held.tells;
        spawn = draws_held.spawn;
        asks = draws_held.asks;
        block = draws_held.block;
        fits = draws_held.fits;
        running = drawn_mid.running;
        runs = on;
      } in
      let view : map (seen_seat new.spawned) new.seats.items ≡ seen true kept_old.master.unit ∷ frees others =
      view_parallel image old.start budget new.spawned new.seats.items kept_old.master others (same_spawned ∙ draws_spawned) (seats ∙ drawn_mid.are) drawn_mid.running in
      record {
        kept = record {
          valid = kept_old.valid;
          master = kept_old.master;
          others = others;
          are = seats ∙ drawn_mid.are;
          some = drawn_mid.some;
          holds = rw (same_start, same_spawned ∙ draws_spawned) held;
        };
        turns = λ out.
            same_machine _ (joins image old.start (slice_set (map (seen_seat old.spawned) old.seats.items) k drew)) _ old.words.items _ (more old.drawn) _ old.start out
            (view ∙ sym (ap (λ us. joins image old.start us) drawn_units ∙ joins_by false _ _ still)) words drawn same_start ∙ sym (draw_turn out);
      }

  -- the master waits at its spawn
  pub master_may : IfSome (slice_get mid 0) (MayGo image old.start budget)
  master_may = rw drawn_mid.are (record { has_start = λ other. absurd (other draws_held.number); tells = draws_held.tells })

  pub master_asks : IfSome (slice_get mid 0) (λ s. is_request s.ask ≡ true)
  master_asks = rw (drawn_mid.are, draws_held.asks) refl

  master_next : next_of image old.start kept_old.master.unit ≡ Ask (request.Spawn draws_held.spawn)
  master_next =
      let means : DoesNext image old.start budget kept_old.master.unit (Ask (request.Spawn draws_held.spawn)) = subst (λ (a : engine.Ask). Means image old.start budget kept_old.master.unit a) draws_held.asks draws_held.tells.means in
      means.next

  master_behind : answered image old.start kept_old.master.unit 0 ≡ resumes image old.start (seen true kept_old.master.unit)
  master_behind =
      let waits : seen true kept_old.master.unit ≡ waits_for kept_old.master.unit = seen_master kept_old.master.unit draws_held.number in
      rw (master_next, waits) (ap (λ block. behind_spawn image block kept_old.master.unit) draws_held.block)

  behind_same : answered image old.start kept_old.master.unit 0 ≡ behind_spawn image draws_held.spawn.at kept_old.master.unit
  behind_same = rw master_next refl

  -- the last control unit has stopped, and the master was answered
  pub draw_ends : (new : kept.Machine) → IfSome (slice_get mid 0) (λ s. Replaced image old.start budget mid new.seats.items 0 (answered image old.start s.unit 0))
      → new.words.items ≡ old.words.items → new.drawn ≡ more old.drawn → new.start ≡ old.start → new.spawned ≡ false
      → ((master : Seat) (others : List Seat) → mid ≡ master ∷ others → list_all has_stopped others ≡ true) → Goes image budget k old new
  draw_ends new answers words drawn same_start same_spawned stopped =
      let others : List Seat = drawn_mid.others' in
      let all : list_all has_stopped others ≡ true = stopped kept_old.master others drawn_mid.are in
      let ended : list_all (λ u. is_stopped u.state) (frees others) ≡ true = stopped_seen false others ∙ all in
      let first : slice_get mid 0 ≡ Some kept_old.master = rw drawn_mid.are refl in
      let one : Replaced image old.start budget mid new.seats.items 0 (answered image old.start kept_old.master.unit 0) = at_some _ _ kept_old.master first answers in
      let are : new.seats.items ≡ one.seat ∷ others = one.put ∙ ap (λ xs. slice_set xs 0 one.seat) drawn_mid.are in
      let master : free one.seat.unit ≡ resumes image old.start (seen true kept_old.master.unit) = one.holds.same ∙ master_behind in
      let held : Serial image budget old.start one.seat others = record {
        number = ap (λ (u : Unit). u.number) (one.holds.same ∙ behind_same) ∙ draws_held.number;
        tells = one.holds.tells;
        idle = all_idle image old.start budget others drawn_mid.running all;
      } in
      record {
        kept = record {
          valid = kept_old.valid;
          master = one.seat;
          others = others;
          are = are;
          some = drawn_mid.some;
          holds = rw (same_start, same_spawned) held;
        };
        turns = λ out.
            same_machine _ (joins image old.start (slice_set (map (seen_seat old.spawned) old.seats.items) k drew)) _ old.words.items _ (more old.drawn) _ old.start out
            (view_serial new.spawned new.seats.items one.seat others same_spawned are ∙ ap (λ u. u ∷ frees others) master
            ∙ sym (ap (λ us. joins image old.start us) drawn_units ∙ joins_by true _ _ ended)) words drawn same_start ∙ sym (draw_turn out);
      }

-- ---- spawns

-- what is active with number 0 is the master, outside sections
pub record IsMaster (spawned : Bool) (master : Seat) (k : ℕ) (s : Seat) : Type 0 where
  pub serial : spawned ≡ false
  pub place : k ≡ 0
  pub same : master ≡ s

is_master : (image : Image) (budget : ℕ) (start : Start) (spawned : Bool) (master : Seat) (others : List Seat) (k : ℕ) (s : Seat) → KeptBy image budget start spawned master others → slice_get (master ∷ others) k ≡ Some s
    → is_active spawned s.unit ≡ true → s.unit.number ≡ 0 → IsMaster spawned master k s
is_master image budget start true master others k s held there active number = absurd (active_parallel s.unit active number)
is_master image budget start false master others zero s held there active number = record { serial = refl; place = refl; same = cc }
is_master image budget start false master others (suc j) s held there active number = absurd ((all_at (IsIdle image budget) others j s held.idle there).number number)

-- idle units don't wait
idle_ready : (image : Image) (budget : ℕ) (seats : List Seat) → All (IsIdle image budget) seats → map ready (frees seats) ≡ map (λ (s : Seat). ready s.unit) seats
idle_ready image budget [] idle = refl
idle_ready image budget (s ∷ seats) idle =
    let one : IsIdle image budget s = all_head (IsIdle image budget) s seats idle in
    let head : free s.unit ≡ s.unit = free_same s.unit one.free in
    let rest : map ready (frees seats) ≡ map (λ (t : Seat). ready t.unit) seats = idle_ready image budget seats (all_tail (IsIdle image budget) s seats idle) in
    ap (λ us. ready (free s.unit) ∷ us) rest ∙ ap (λ u. ready u ∷ map (λ (t : Seat). ready t.unit) seats) head

-- the first that is due hasn't stopped
due_runs : (others due : List Seat) → 1 ≤ length others → frees due ≡ map (λ (s : Seat). ready s.unit) others → list_all has_stopped due ≡ false
due_runs [] due some same = absurd (omega (arith, some))
due_runs (s ∷ others) [] some same = absurd cc
due_runs (s ∷ others) (d ∷ due) some same =
    let head : free d.unit ≡ ready s.unit = cc in
    let state : has_stopped d ≡ false = ap (λ (u : Unit). is_stopped u.state) head in
    rw state refl

-- where something else was broadcast, the master does the same
master_tells : (image : Image) (start other : Start) (budget : ℕ) (u : Unit) (spawn : SpawnAsk) → IsValid image → u.number ≡ 0 → Tells image start budget u (ask.Spawn spawn) → Tells image other budget u (ask.Spawn spawn)
master_tells image start other budget u spawn valid number tells =
    let kept = (keeps_fit image valid).master start other u number tells.fits in
    record {
      begun = tells.begun;
      fits = kept.0;
      within = tells.within;
      waits = tells.waits;
      means = record { live = tells.means.live; below = tells.means.below; next = kept.1 ∙ tells.means.next };
    }

spawns_by : (us : List Unit) (x u : Unit) (rest : List Unit) (k : ℕ) → us ≡ x ∷ rest → k ≡ 0 → spawns us k u ≡ waits_for u ∷ map ready rest
spawns_by us x u rest k are place = rw (are, place) refl

module _ (image : Image) (budget : ℕ) (old : kept.Machine) (k : ℕ) (spawn : SpawnAsk) (kept_old : Kept image budget old) (is_at : IsAt old k (ask.Spawn spawn)) (s : Seat) (there : slice_get old.seats.items k ≡ Some s) where
  abbrev spawning : Turning image budget old k (ask.Spawn spawn)
  spawning = turning image budget old k (ask.Spawn spawn) kept_old is_at

  spawning_same : spawning.seat ≡ s
  spawning_same = let both : Some spawning.seat ≡ Some s = sym spawning.there ∙ there in cc

  spawn_next : DoesNext image old.start budget spawning.seat.unit (Ask (request.Spawn spawn))
  spawn_next = spawning.means

  spawn_known : (spawning.seat.unit.number ≡ 0) × IsSpawn image spawning.seat.unit.at × (spawn.at ≡ spawning.seat.unit.at + 1)
  spawn_known = (keeps_fit image kept_old.valid).spawns old.start spawning.seat.unit spawn spawning.may.tells.fits spawn_next.live spawn_next.next

  spawn_master : IsMaster old.spawned kept_old.master k spawning.seat
  spawn_master = is_master image budget old.start old.spawned kept_old.master kept_old.others k spawning.seat kept_old.holds (subst (λ (xs : List Seat). slice_get xs k ≡ Some spawning.seat) kept_old.are spawning.there) spawning.active spawn_known.0

  spawn_held : Serial image budget old.start kept_old.master kept_old.others
  spawn_held = held_serial image budget old.start old.spawned kept_old.master kept_old.others spawn_master.serial kept_old.holds

  pub spawn_fits : (start : Start) → start ≡ broadcast s.unit spawn → StartFits image start
  spawn_fits start is =
      let made : StartFits image (broadcast spawning.seat.unit spawn) = broadcast_fits image old.start spawning.seat.unit spawn spawn_known.2 spawning.may.tells.fits spawn_known.1 in
      subst (λ (t : Start). StartFits image t) (ap (λ (t : Seat). broadcast t.unit spawn) spawning_same ∙ sym is) made

  pub spawn_idle : (master : Seat) (others : List Seat) → old.seats.items ≡ master ∷ others → All (IsIdle image budget) others
  spawn_idle master others are =
      let both : kept_old.master ∷ kept_old.others ≡ master ∷ others = sym kept_old.are ∙ are in
      let same : kept_old.others ≡ others = cc in
      subst (λ (xs : List Seat). All (IsIdle image budget) xs) same spawn_held.idle

  pub turned_spawn : (new : kept.Machine) → new.start ≡ broadcast s.unit spawn → new.drawn ≡ 0 → new.words.items ≡ old.words.items → new.spawned ≡ true
      → ((master : Seat) (others : List Seat) → old.seats.items ≡ master ∷ others → BehindMaster image new.start budget master others new.seats.items) → Goes image budget k old new
  turned_spawn new start drawn words spawned behind =
      let b : BehindMaster image new.start budget kept_old.master kept_old.others new.seats.items = behind kept_old.master kept_old.others kept_old.are in
      let asks : kept_old.master.ask ≡ ask.Spawn spawn = ap (λ (t : Seat). t.ask) spawn_master.same ∙ spawning.asks in
      let same_start : new.start ≡ broadcast kept_old.master.unit spawn = start ∙ ap (λ (t : Seat). broadcast t.unit spawn) (sym (spawn_master.same ∙ spawning_same)) in
      let told : Tells image old.start budget kept_old.master.unit (ask.Spawn spawn) = subst (λ (a : engine.Ask). Tells image old.start budget kept_old.master.unit a) asks spawn_held.tells in
      let tells : Tells image new.start budget kept_old.master.unit kept_old.master.ask =
      subst (λ (a : engine.Ask). Tells image new.start budget kept_old.master.unit a) (sym asks) (master_tells image old.start new.start budget kept_old.master.unit spawn kept_old.valid spawn_held.number told) in
      let count : length b.due ≡ length kept_old.others = sym (length-map b.due (λ (t : Seat). free t.unit)) ∙ ap length b.readied.due ∙ length-map kept_old.others (λ (t : Seat). ready t.unit) in
      let held : Parallel image budget new.start kept_old.master b.due = record {
        number = spawn_held.number;
        tells = tells;
        spawn = spawn;
        asks = asks;
        block = sym (ap (λ (t : Start). t.at) same_start);
        fits = spawn_fits new.start start;
        running = b.readied.running;
        runs = due_runs kept_old.others b.due kept_old.some b.readied.due;
      } in
      let view : map (seen_seat new.spawned) new.seats.items ≡ seen true kept_old.master.unit ∷ frees b.due =
      view_parallel image new.start budget new.spawned new.seats.items kept_old.master b.due spawned b.are b.readied.running in
      let before : map (seen_seat old.spawned) old.seats.items ≡ free kept_old.master.unit ∷ frees kept_old.others =
      view_serial old.spawned old.seats.items kept_old.master kept_old.others spawn_master.serial kept_old.are in
      let waits : seen true kept_old.master.unit ≡ waits_for spawning.seat.unit = seen_master kept_old.master.unit spawn_held.number ∙ ap (λ (t : Seat). waits_for t.unit) spawn_master.same in
      let units : map (seen_seat new.spawned) new.seats.items ≡ spawns (map (seen_seat old.spawned) old.seats.items) k (free spawning.seat.unit) =
      view ∙ ap (λ u. u ∷ frees b.due) waits ∙ ap (λ us. waits_for spawning.seat.unit ∷ us) (b.readied.due ∙ sym (idle_ready image budget kept_old.others spawn_held.idle))
      ∙ sym (spawns_by (map (seen_seat old.spawned) old.seats.items) (free kept_old.master.unit) (free spawning.seat.unit) (frees kept_old.others) k before spawn_master.place) in
      record {
        kept = record { valid = kept_old.valid; master = kept_old.master; others = b.due; are = b.are; some = rw count kept_old.some; holds = rw spawned held };
        turns = λ out.
            same_machine _ (spawns (map (seen_seat old.spawned) old.seats.items) k (free spawning.seat.unit)) _ old.words.items _ 0 _ (broadcast (free spawning.seat.unit) spawn) out
            units words drawn (same_start ∙ ap (λ (t : Seat). broadcast t.unit spawn) spawn_master.same)
            ∙ sym (turn_at image (machine_of old out) k (free spawning.seat.unit) (Ask (request.Spawn spawn)) spawning.seen (next_free image old.start spawning.seat.unit ∙ spawn_next.next));
      }
