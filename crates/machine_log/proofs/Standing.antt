-- What the units stand for, after a step of one thread.
use Rattle.std.proofs.Common.{◌≡◌, refl, sym, ◌∙◌, ap, ℕ, ◌+◌, ◌-◌, ◌<◌, ◌≤◌, ◌%◌, ◌^◌, Bool, true, false, if◌then◌else◌, List, [], ◌∷◌, ◌++◌, map, length, Some, slice_get, slice_set, slice_index, arith, ◌⊎◌, inl, inr}
use Rattle.std.specs.List.{list_all}
use Rattle.std.specs.Prelude.{int_lt}
use Rattle.xmt_base.specs.Operators.{signed, count_between}
use Rattle.machine_places.proofs.Words.{word_at-shared_at, HoldsOfWord, IsAbove}
use Rattle.xmt_isa.specs.declared.image.Image.{Image}
use Rattle.xmt_isa.specs.declared.unit.Start.{Start}
use Rattle.xmt_isa.specs.declared.unit.Unit.{Unit}
use Rattle.xmt_isa.specs.declared.unit.UnitState.{UnitState}
use Rattle.xmt_isa.specs.declared.unit.UnitState.TheVariants.{Draws, Runs, Stopped, Halted}
use Rattle.xmt_isa.specs.declared.unit.Request.{Request}
use Rattle.xmt_isa.specs.declared.unit.Next.{Next}
use Rattle.xmt_isa.specs.Step.{more, next_of, answer_of}
use Rattle.xmt_isa.specs.Machine.{Machine, ready, is_stopped, serves}
use Rattle.xmt_isa.specs.Picked.{is_live}
use Rattle.xmt_base.specs.Action.{Action, Spawn}
use Rattle.xmt_isa.specs.Threads.{Actor, HasRoom, move, move_by, action_of, answered, is_running}
use Rattle.interleaving.specs.Actors.{Move, Rests, Entry, with_state}
use Rattle.machine_log.specs.Log.{Log, World, IsLogged, reply_in, after_action}
use Rattle.machine_log.specs.Done.{Parts, is_spawn, spawns_of}
use Rattle.machine_log.proofs.Follows.{Tallies, Stands, IsSerial, IsWaiting, goes}
use Rattle.interleaving.proofs.Interleave.{with_state-same}
use Rattle.interleaving.proofs.Grows.{with-other}
use Rattle.machine_places.proofs.Lists.{get-set_same, get-set, all_false}
use Rattle.machine_places.proofs.Units.{is_plain}
use Rattle.machine_log.proofs.Counts.{spawns_more}
use Rattle.machine_log.proofs.Sections.{section_moves, section_ends}
use Rattle.xmt_isa.specs.declared.unit.Request.TheVariants as request

-- ---- numbers

counted : (b : Bool) (n : ℕ) → (if b then 0 else n % 2 ^ 32 + 1) ≤ 2 ^ 32
counted true n = omega arith
counted false n = omega arith

pub count_between-bound : (low high : ℕ) → count_between low high ≤ 2 ^ 32
count_between-bound low high = counted (int_lt (signed high) (signed low)) (high + (2 ^ 32 - low))

pub more-small : (n count : ℕ) → n < count → count ≤ 2 ^ 32 → more n ≡ 1 + n
more-small n count less bound = omega (arith, less, bound)

pub more-grows : (n count : ℕ) → count ≤ n → count ≤ 2 ^ 32 → count ≤ more n
more-grows n count less bound = omega (arith, less, bound)

pub never_true : {A : Type 0} → true ≡ false → A
never_true h = cc

pub never_false : {A : Type 0} → false ≡ true → A
never_false h = cc

pub due_runs : {A : Type 0} → Runs ≡ Draws → A
due_runs h = cc

pub due_stopped : {A : Type 0} → Stopped ≡ Draws → A
due_stopped h = cc

-- ---- a machine whose words and output are those of a world

abbrev pub mach : World → List Unit → (drawn : ℕ) → Start → Machine
mach w units drawn start = record { units = units; words = w.words; drawn = drawn; start = start; out = w.printed }

pub running : (state : UnitState) (x : Move Actor Action) → state ≡ Runs → (if is_running state then x else Rests) ≡ x
running state x runs = rw runs refl

-- what an actor does
pub move_here : (image : Image) (p : Parts) (actor : ℕ) (start : Start) (u : Unit) (n : Next) → p.ends actor ≡ record { start = start; unit = u } → u.state ≡ Runs → next_of image start u ≡ n →
    move image (p.ends actor) ≡ move_by image (record { start = start; unit = u }) n
move_here image p actor start u n stands runs goes_on =
    let here : Actor = record { start = start; unit = u } in
    ap (move image) stands ∙ running u.state (move_by image here (next_of image start u)) runs ∙ ap (move_by image here) goes_on

-- ---- accesses and prints

module _ (image : Image) (w : World) (actor : ℕ) (start : Start) (u : Unit) where
  pub serves_plain : (ask : Request) → is_plain ask ≡ true → HoldsOfWord IsAbove ask → (units : List Unit) (k drawn : ℕ) →
      serves image (mach w units drawn start) k u ask ≡ mach (after_action image w actor (action_of image u ask)) (slice_set units k (answer_of image start u (reply_in image w (action_of image u ask)))) drawn start
  serves_plain (request.Load at) plain above units k drawn = ap (λ word. mach w (slice_set units k (answer_of image start u (slice_index w.words word))) drawn start) (sym (word_at-shared_at image at above))
  serves_plain (request.Store at value) plain above units k drawn = ap (λ word. mach (record w { words = slice_set w.words word value }) (slice_set units k (answer_of image start u 0)) drawn start) (sym (word_at-shared_at image at above))
  serves_plain (request.Add at value) plain above units k drawn =
      ap (λ word. mach (record w { words = slice_set w.words word ((slice_index w.words word + value) % 2 ^ 32) }) (slice_set units k (answer_of image start u (slice_index w.words word))) drawn start) (sym (word_at-shared_at image at above))
  serves_plain (request.Print text) plain above units k drawn = refl
  serves_plain request.Draw plain above units k drawn = cc
  serves_plain (request.Spawn ask) plain above units k drawn = cc

  pub threads_plain : (ask : Request) → is_plain ask ≡ true → (after_action image w actor (action_of image u ask)).threads ≡ w.threads
  threads_plain (request.Load at) plain = refl
  threads_plain (request.Store at value) plain = refl
  threads_plain (request.Add at value) plain = refl
  threads_plain (request.Print text) plain = refl
  threads_plain request.Draw plain = cc
  threads_plain (request.Spawn ask) plain = cc

  pub ended_plain : (ask : Request) → is_plain ask ≡ true → (after_action image w actor (action_of image u ask)).ended ≡ w.ended
  ended_plain (request.Load at) plain = refl
  ended_plain (request.Store at value) plain = refl
  ended_plain (request.Add at value) plain = refl
  ended_plain (request.Print text) plain = refl
  ended_plain request.Draw plain = cc
  ended_plain (request.Spawn ask) plain = cc

  pub answered_plain : (ask : Request) → is_plain ask ≡ true → (reply : ℕ) → answered image (record { start = start; unit = u }) ask reply ≡ record { start = start; unit = answer_of image start u reply }
  answered_plain (request.Load at) plain reply = refl
  answered_plain (request.Store at value) plain reply = refl
  answered_plain (request.Add at value) plain reply = refl
  answered_plain (request.Print text) plain reply = refl
  answered_plain request.Draw plain reply = cc
  answered_plain (request.Spawn ask) plain reply = cc

  pub logged_plain : (ask : Request) → is_plain ask ≡ true → IsLogged actor (action_of image u ask)
  logged_plain (request.Load at) plain = tt
  logged_plain (request.Store at value) plain = tt
  logged_plain (request.Add at value) plain = tt
  logged_plain (request.Print text) plain = tt
  logged_plain request.Draw plain = cc
  logged_plain (request.Spawn ask) plain = cc

  pub no_spawn_plain : {A : Type 0} (ask : Request) → is_plain ask ≡ true → (site low high : ℕ) → action_of image u ask ≡ Spawn site low high → A
  no_spawn_plain (request.Load at) plain site low high e = cc
  no_spawn_plain (request.Store at value) plain site low high e = cc
  no_spawn_plain (request.Add at value) plain site low high e = cc
  no_spawn_plain (request.Print text) plain site low high e = cc
  no_spawn_plain request.Draw plain site low high e = cc
  no_spawn_plain (request.Spawn ask) plain site low high e = cc

-- ---- what the units stand for, after a step of one thread

module _ (image : Image) (master : Unit) (rest : List Unit) (drawn : ℕ) (start : Start) (threads : ℕ) (ended : ℕ → Bool) (p : Parts) (st : Stands image master rest drawn start threads ended p) where
  pub numbers_set : (place : ℕ) (u v : Unit) → slice_get rest place ≡ Some u → v.number ≡ u.number → (other : ℕ) (x : Unit) → slice_get (slice_set rest place v) other ≡ Some x → x.number ≡ 1 + other
  numbers_set place u v there same other x at = get-set (λ y. y.number ≡ 1 + other) rest place other u v x there at
      (λ here. same ∙ st.numbers place u there ∙ ap (λ n. 1 + n) (sym here))
      (λ differ old. st.numbers other x old)

  pub rooms_set : (place : ℕ) (u v : Unit) → slice_get rest place ≡ Some u → (HasRoom u → HasRoom v) → (other : ℕ) (x : Unit) → slice_get (slice_set rest place v) other ≡ Some x → HasRoom x
  rooms_set place u v there room other x at = get-set (λ y. HasRoom y) rest place other u v x there at (λ here. room (st.rooms place u there)) (λ differ old. st.rooms other x old)

  pub fresh_steps : (actor n : ℕ) → actor < threads → (other : ℕ) → threads ≤ other → (with_state p.steps actor n other ≡ 0) × (ended other ≡ false)
  fresh_steps actor n inside other past = (with-other p.steps actor other n (λ e. omega (arith, e, inside, past)) ∙ (st.fresh other past).0, (st.fresh other past).1)

  pub stands_master : IsSerial master start threads ended p → ended 0 ≡ false → (v : Unit) → v.number ≡ master.number → v.waits ≡ master.waits → v.state ≡ Runs →
      Stands image v rest drawn start threads ended (goes p 0 (record { start = start; unit = v }))
  stands_master serial live v number waits runs =
      record {
        master_number = number ∙ st.master_number;
        numbers = st.numbers;
        rooms = st.rooms;
        there = st.there;
        fresh = fresh_steps 0 (1 + p.steps 0) st.there;
        phase = inl (record {
          goes = waits ∙ serial.goes;
          stands = with_state-same p.ends 0 (record { start = start; unit = v });
          all_ended = serial.all_ended;
          live = inl (runs, live);
        });
      }

  pub stands_halted : IsSerial master start threads ended p → (v : Unit) → v.number ≡ master.number → v.waits ≡ master.waits → v.state ≡ Halted →
      Stands image v rest drawn start threads (with_state ended 0 true) (goes p 0 (record { start = start; unit = v }))
  stands_halted serial v number waits halted =
      record {
        master_number = number ∙ st.master_number;
        numbers = st.numbers;
        rooms = st.rooms;
        there = st.there;
        fresh = λ other past. ((fresh_steps 0 (1 + p.steps 0) st.there other past).0, with-other ended 0 other true (λ e. let positive : 0 < threads = st.there in omega (arith, e, positive, past)) ∙ (st.fresh other past).1);
        phase = inl (record {
          goes = waits ∙ serial.goes;
          stands = with_state-same p.ends 0 (record { start = start; unit = v });
          all_ended = λ t later less. with-other ended 0 t true (λ e. omega (arith, e, later)) ∙ serial.all_ended t later less;
          live = inr (halted, with_state-same ended 0 true);
        });
      }

  -- of a unit
  module _ (waiting : IsWaiting image master rest drawn start threads ended p) (place : ℕ) (u : Unit) (there : slice_get rest place ≡ Some u)
      (k : ℕ) (below : k < drawn) (inside : k < start.count) (runs : p.runner place ≡ waiting.first + k) (owned : p.owner (waiting.first + k) ≡ place) (live : ended (waiting.first + k) ≡ false) (running : u.state ≡ Runs) where
    pub actor_later : 0 < waiting.first + k
    actor_later = let positive : 0 < waiting.first = waiting.section.positive in omega (arith, positive)

    pub actor_inside : waiting.first + k < threads
    actor_inside = let all : waiting.first + start.count ≡ threads = waiting.section.all in omega (arith, all, inside)

    pub stands_unit : (v : Unit) → v.number ≡ u.number → (HasRoom u → HasRoom v) → v.state ≡ Runs → Stands image master (slice_set rest place v) drawn start threads ended (goes p (waiting.first + k) (record { start = start; unit = v }))
    stands_unit v number room v_runs =
        record {
          master_number = st.master_number;
          numbers = numbers_set place u v there number;
          rooms = rooms_set place u v there room;
          there = st.there;
          fresh = fresh_steps (waiting.first + k) (1 + p.steps (waiting.first + k)) actor_inside;
          phase = inr (record {
            waits = waiting.waits;
            runs = waiting.runs;
            stands = with-other p.ends (waiting.first + k) 0 (record { start = start; unit = v }) (λ e. let later : 0 < waiting.first + k = actor_later in omega (arith, e, later)) ∙ waiting.stands;
            unended = waiting.unended;
            some = λ one. all_false (λ (x : Unit). is_stopped x.state) (slice_set rest place v) place v (get-set_same rest place u v there) (ap is_stopped v_runs);
            first = waiting.first;
            section = section_moves image rest drawn start threads ended p waiting.first waiting.section place u there k below inside runs owned live running v v_runs;
          });
        }

    pub stands_ended : (x : Actor) → Stands image master (slice_set rest place (ready u)) drawn start threads (with_state ended (waiting.first + k) true) (goes p (waiting.first + k) x)
    stands_ended x =
        record {
          master_number = st.master_number;
          numbers = numbers_set place u (ready u) there refl;
          rooms = rooms_set place u (ready u) there (λ r. record { back = r.back; frames = r.frames; list = r.list });
          there = st.there;
          fresh = λ other past. (
            (fresh_steps (waiting.first + k) (1 + p.steps (waiting.first + k)) actor_inside other past).0,
            with-other ended (waiting.first + k) other true (λ e. let less : waiting.first + k < threads = actor_inside in omega (arith, e, less, past)) ∙ (st.fresh other past).1,
          );
          phase = inr (record {
            waits = waiting.waits;
            runs = waiting.runs;
            stands = with-other p.ends (waiting.first + k) 0 x (λ e. let later : 0 < waiting.first + k = actor_later in omega (arith, e, later)) ∙ waiting.stands;
            unended = with-other ended (waiting.first + k) 0 true (λ e. let later : 0 < waiting.first + k = actor_later in omega (arith, e, later)) ∙ waiting.unended;
            some = λ one. all_false (λ (x : Unit). is_stopped x.state) (slice_set rest place (ready u)) place (ready u) (get-set_same rest place u (ready u) there) refl;
            first = waiting.first;
            section = section_ends image rest drawn start threads ended p waiting.first waiting.section place u there k below inside runs owned live running x;
          });
        }

pub still_runs : (state old : UnitState) → old ≡ Runs → is_live state ≡ true → (state ≡ old) ⊎ (state ≡ Halted) → state ≡ Runs
still_runs state old runs live (inl h) = h ∙ runs
still_runs state old runs live (inr h) = let never : is_live Halted ≡ true = ap is_live (sym h) ∙ live in cc

pub has_halted : (state old : UnitState) → old ≡ Runs → is_live state ≡ false → (state ≡ old) ⊎ (state ≡ Halted) → state ≡ Halted
has_halted state old runs ends (inl h) = let never : is_live Runs ≡ false = ap is_live (sym (h ∙ runs)) ∙ ends in cc
has_halted state old runs ends (inr h) = h

-- the units at a spawn have not stopped
pub ready_some : (rest : List Unit) → 1 ≤ length (map ready rest) → list_all (λ u. is_stopped u.state) (map ready rest) ≡ false
ready_some [] one = absurd (omega (arith, one))
ready_some (u ∷ us) one = refl

-- ---- units that are due

-- each unit but the one in a place that is due has a draw to come
abbrev pub DueBut : List Unit → (place : ℕ) → Log → Tallies → Type 0
DueBut rest place log t = (other : ℕ) (x : Unit) → (other ≡ place → ⊥) → slice_get rest other ≡ Some x → x.state ≡ Draws → 1 + t.draws other ≤ spawns_of log

pub due_set : (rest : List Unit) (place : ℕ) (u v : Unit) (log : Log) (t : Tallies) → slice_get rest place ≡ Some u → DueBut rest place log t → (v.state ≡ Draws → ⊥) →
    (other : ℕ) (x : Unit) → slice_get (slice_set rest place v) other ≡ Some x → x.state ≡ Draws → 1 + t.draws other ≤ spawns_of log
due_set rest place u v log t there others busy other x at is = get-set (λ y. y.state ≡ Draws → 1 + t.draws other ≤ spawns_of log) rest place other u v x there at
    (λ same due. absurd (busy due)) (λ differ old. others other x (λ h. differ (sym h)) old) is

pub due_more : (log : Log) (e : Entry Action) (n : ℕ) → 1 + n ≤ spawns_of log → 1 + n ≤ spawns_of (log ++ (e ∷ []))
due_more log e n h = let more : spawns_of (log ++ (e ∷ [])) ≡ spawns_of log + (if is_spawn e.action then 1 else 0) = spawns_more log e in omega (arith, more, h)
