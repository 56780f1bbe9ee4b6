-- No unit does more than 64 instructions for each step of the source, and 64.
use Rattle.std.proofs.Common.{◌≡◌, refl, sym, ◌∙◌, ap, subst, ℕ, suc, zero, ◌+◌, ◌*◌, ◌<◌, ◌≤◌, ◌==◌, nat_lt, Bool, true, false, if◌then◌else◌, List, [], ◌∷◌, ◌++◌, length, append-nil, Some, None, slice_get, arith, inl, inr}
use Rattle.std.proofs.lemmas.Bool.Decides.{nat_tests}
use Rattle.xmt_base.specs.Action.{Action, Load, Store, Add, Print, Spawn, Trap, Ended}
use Rattle.xmt_base.specs.Counters.{capped}
use Rattle.interleaving.specs.Actors.{Move, Rests, Alone, Acts, part_of, Does, DoesThen, turns_of}
use Rattle.interleaving.specs.Parts.{actions_of}
use Rattle.interleaving.proofs.Interleave.{eq_of}
use Rattle.interleaving.proofs.Grows.{differs}
use Rattle.source_meaning.specs.declared.tree.Program.{Program}
use Rattle.source_log.specs.Bounded.{EndsThread, HasBoundedTraces}
use Rattle.source_log.specs.FromLog.{total, IsScheduleOf}
use Rattle.source_log.specs.Log as source
use Rattle.source_log.specs.Log.{world_of, trap_action}
use Rattle.source_log.specs.Threads as thread
use Rattle.source_log.proofs.Bounds.{unit_steps}
use Rattle.source_log.proofs.FromLog.{some_threads_of}
use Rattle.xmt_isa.specs.declared.image.Image.{Image}
use Rattle.xmt_isa.specs.declared.unit.Unit.{Unit}
use Rattle.xmt_isa.specs.Machine.{Machine}
use Rattle.xmt_isa.specs.Traces.{traces_of}
use Rattle.machine_log.specs.Log.{Log, World, IsLogged, IsLawful, opening_world, after_entry, after_log}
use Rattle.machine_log.specs.Done.{Parts, is_spawn, spawns_of, owned}
use Rattle.machine_log.proofs.Standing.{never_true}
use Rattle.machine_runs.specs.Runs.{IsLogOf, HasSums}
use Rattle.run_law.specs.Cells.{WorldsAgree}
use Rattle.xmt_compile.proofs.Drawn.{is_drawn, IsDrawn, drawn_is}
use Rattle.xmt_compile.proofs.Schedule.{ended_thread}
use Rattle.xmt_compile.proofs.Threads.{trap, trace, SourceSteps, in_source, no_trap}

-- ---- spawns

does_length : {State : Type 0} (next : State → Move State Action) (n : ℕ) (s : State) (part : Log) (end : State) → Does next n s part end → length part ≤ n
does_length next zero s part end does = (let none : length part ≡ 0 = ap length does.0 in omega (arith, none))
does_length {State} next (suc n) s part end does = by_move (λ s part h. does_length next n s part end h) (next s) part does
  where
    by_move : ((s : State) (part : Log) → Does next n s part end → length part ≤ n) → (m : Move State Action) (part : Log) → DoesThen (Does next n) m part end → length part ≤ suc n
    by_move go Rests part h = absurd h
    by_move go (Alone s) part h = (let less : length part ≤ n = go s part h in omega (arith, less))
    by_move go (Acts action left) [] h = absurd h
    by_move go (Acts action left) (e ∷ part) h = (let less : length part ≤ n = go (left e.reply) part h.1 in omega (arith, less))

-- each spawn of a log is one of the serial code
spawns_serial : (image : Image) (log : Log) (w : World) → IsLawful image w log → spawns_of log ≤ length (part_of 0 log)
spawns_serial image [] w lawful = omega arith
spawns_serial image (e ∷ log) w lawful = by_test (0 == e.actor) refl (spawns_serial image log (after_entry image w e) lawful.1)
  where
    one : (b : Bool) → (if b then 1 else 0) ≤ 1
    one true = omega arith
    one false = omega arith

    no_spawn : (x : Action) → IsLogged e.actor x → (e.actor ≡ 0 → ⊥) → is_spawn x ≡ false
    no_spawn (Load place) logged virtual = refl
    no_spawn (Store place v) logged virtual = refl
    no_spawn (Add place v) logged virtual = refl
    no_spawn (Print text) logged virtual = refl
    no_spawn (Spawn site low high) logged virtual = absurd (virtual logged)
    no_spawn (Trap kind line) logged virtual = refl
    no_spawn Ended logged virtual = refl

    by_test : (b : Bool) → (0 == e.actor) ≡ b → spawns_of log ≤ length (part_of 0 log) → (if is_spawn e.action then 1 else 0) + spawns_of log ≤ length (if b then e ∷ part_of 0 log else part_of 0 log)
    by_test true is rest = (let small : (if is_spawn e.action then 1 else 0) ≤ 1 = one (is_spawn e.action) in omega (arith, small, rest))
    by_test false is rest =
        let none : is_spawn e.action ≡ false = no_spawn e.action lawful.0.2 (λ h. differs 0 e.actor is (sym h)) in
        let first : ◌≡◌ {A = ℕ} (if is_spawn e.action then 1 else 0) 0 = ap (λ b. if b then 1 else 0) none in
        omega (arith, first, rest)

-- ---- sums

-- what the unit in a place runs: the threads that it drew, and thread 0 stands for its draws
abbrev runs : (owner : ℕ → ℕ) → (place t : ℕ) → Bool
runs owner place zero = true
runs owner place (suc t) = owner (suc t) == place

abbrev took : (work : ℕ → ℕ) → (draws t : ℕ) → ℕ
took work draws zero = draws
took work draws (suc t) = work (suc t)

as_total : (owner work : ℕ → ℕ) (place draws n : ℕ) → draws + owned owner work place n ≡ total (suc n) (λ t. if runs owner place t then took work draws t else 0)
as_total owner work place draws zero = omega arith
as_total owner work place draws (suc n) =
    let rest : draws + owned owner work place n ≡ total (suc n) (λ t. if runs owner place t then took work draws t else 0) = as_total owner work place draws n in
    omega (arith, rest)

first_within : (n : ℕ) (steps : ℕ → ℕ) → 0 < n → steps 0 ≤ total n steps
first_within zero steps some = absurd (omega (arith, some))
first_within (suc zero) steps some = omega arith
first_within (suc (suc n)) steps some = (let rest : steps 0 ≤ total (suc n) steps = first_within (suc n) steps (omega arith) in omega (arith, rest))

capped_less : (n : ℕ) → capped n ≤ n
capped_less n = omega arith

module _ (program : Program) (image : Image) (bounded : HasBoundedTraces program (traces_of image)) (memory : List ℕ) (m : Machine) (log : Log) (p : Parts) (is_log : IsLogOf image memory m log p)
    (lawful : source.IsLawful (source.opening_world program memory) log) (agree : WorldsAgree image (after_log image (opening_world image memory) log) (world_of program memory log))
    (s : SourceSteps program image bounded memory m log p is_log lawful agree) (schedule : List ℕ) (is_schedule : IsScheduleOf program memory log (trap program image bounded memory m log p is_log lawful agree) s.steps schedule) where
  abbrev trace_of : ℕ → List Action
  trace_of = trace program image bounded memory m log p is_log lawful agree

  count : (world_of program memory log).threads ≡ is_log.world.threads
  count = agree.threads ∙ ap (λ (w : World). w.threads) is_log.is_world

  length_is : length schedule ≡ total is_log.world.threads s.steps
  length_is = is_schedule.long ∙ ap (λ n. total n s.steps) count

  some : 0 < is_log.world.threads
  some = subst (λ n. 0 < n) count (some_threads_of program memory log)

  -- the serial code took a step for each spawn
  spawns_bound : spawns_of log ≤ s.steps 0
  spawns_bound =
      let stand = is_schedule.stand 0 (some_threads_of program memory log) in
      let entries : spawns_of log ≤ length (part_of 0 log) = spawns_serial image log (opening_world image memory) is_log.done.lawful in
      let steps : length (part_of 0 log) ≤ s.steps 0 = does_length (thread.move program 0) (s.steps 0) stand.0 (part_of 0 log) stand.1 stand.3 in
      omega (arith, entries, steps)

  pub master_steps : p.steps 0 ≤ 64 * (length schedule + 1)
  master_steps =
      let serial : p.steps 0 ≤ 64 * (s.steps 0 + 1) = s.serial in
      let first : s.steps 0 ≤ total is_log.world.threads s.steps = first_within is_log.world.threads s.steps some in
      let all : length schedule ≡ total is_log.world.threads s.steps = length_is in
      omega (arith, serial, first, all)

  -- ---- the control unit in a place

  -- a thread that has ended is run no more
  ended_undrawn : (t : ℕ) → is_log.world.ended t ≡ true → is_drawn m p t ≡ false
  ended_undrawn t ended = by_test (is_drawn m p t) refl
    where
      by_test : (b : Bool) → is_drawn m p t ≡ b → b ≡ false
      by_test true e =
          let d : IsDrawn m p t = drawn_is m p t e in
          let lives : is_log.world.ended (p.runner d.place) ≡ false = (is_log.runs d.spawned d.place d.unit d.at d.runs).2 in
          never_true (sym ended ∙ ap is_log.world.ended (sym d.is_runner) ∙ lives)
      by_test false e = refl

  none_beyond : (t : ℕ) → is_log.world.threads < 1 + t → p.steps t ≡ 0
  none_beyond t past = (is_log.to_come t past).0

  ended_bound : (t : ℕ) → 0 < t → t < is_log.world.threads → is_log.world.ended t ≡ true → p.steps t ≤ 64 * s.steps t
  ended_bound t later less ended =
      let untrapped : trap program image bounded memory m log p is_log lawful agree t ≡ None = no_trap program image bounded memory m log p is_log lawful agree t later (ended_undrawn t ended) in
      let same : trace_of t ≡ actions_of (part_of t log) = ap (λ o. actions_of (part_of t log) ++ trap_action o) untrapped ∙ append-nil (actions_of (part_of t log)) in
      (s.bound t later (in_source program image bounded memory m log p is_log lawful agree t less)).ended (subst (λ acts. EndsThread acts) (sym same) (ended_thread program image bounded memory m log p is_log lawful agree s t ended))

  module _ (place draws : ℕ) (few : draws ≤ spawns_of log) where
    abbrev took_of : ℕ → ℕ
    took_of = took p.steps draws

    -- a thread that the unit ran before has ended, or has done nothing
    before : (t : ℕ) → runs p.owner place t ≡ true → (t == p.runner place) ≡ false → took_of t ≤ 64 * s.steps t
    before zero mine other = (let bound : spawns_of log ≤ s.steps 0 = spawns_bound in omega (arith, few, bound))
    before (suc t) mine other = by_there (nat_lt (suc t) is_log.world.threads) refl
      where
        none : p.steps (suc t) ≡ 0 → p.steps (suc t) ≤ 64 * s.steps (suc t)
        none h = omega (arith, h)

        by_ended : suc t < is_log.world.threads → (b : Bool) → is_log.world.ended (suc t) ≡ b → p.steps (suc t) ≤ 64 * s.steps (suc t)
        by_ended less true e = ended_bound (suc t) (omega arith) less e
        by_ended less false e = elim (is_log.at_work (suc t) (omega arith) less e) [
          | inl idle ↦ none idle
          | inr r ↦ absurd (differs (suc t) (p.runner place) other (sym r.4 ∙ ap p.runner (eq_of (p.owner (suc t)) place mine)))
        ]

        by_there : (b : Bool) → nat_lt (suc t) is_log.world.threads ≡ b → p.steps (suc t) ≤ 64 * s.steps (suc t)
        by_there true e = by_ended (grind (arith, nat_tests, e)) (is_log.world.ended (suc t)) refl
        by_there false e = none (none_beyond (suc t) (let past : is_log.world.threads ≤ suc t = grind (arith, nat_tests, e) in omega (arith, past)))

    now : (t : ℕ) → took_of t ≤ 64 * s.steps t + 64
    now zero = (let bound : spawns_of log ≤ s.steps 0 = spawns_bound in omega (arith, few, bound))
    now (suc t) = by_there (nat_lt (suc t) is_log.world.threads) refl
      where
        by_there : (b : Bool) → nat_lt (suc t) is_log.world.threads ≡ b → p.steps (suc t) ≤ 64 * s.steps (suc t) + 64
        by_there true e =
            let bound : p.steps (suc t) ≤ 64 * (s.steps (suc t) + 1) = (s.bound (suc t) (omega arith) (in_source program image bounded memory m log p is_log lawful agree (suc t) (grind (arith, nat_tests, e)))).under_way in
            omega (arith, bound)
        by_there false e =
            let none : p.steps (suc t) ≡ 0 = none_beyond (suc t) (let past : is_log.world.threads ≤ suc t = grind (arith, nat_tests, e) in omega (arith, past)) in
            omega (arith, none)

    unit_bound : draws + owned p.owner p.steps place is_log.world.threads ≤ 64 * (length schedule + 1)
    unit_bound = by_count is_log.world.threads refl some
      where
        term : (b : Bool) (x : ℕ) → x ≡ 0 → (if b then x else 0) ≡ 0
        term true x h = h
        term false x h = refl

        by_count : (n : ℕ) → is_log.world.threads ≡ n → 0 < n → draws + owned p.owner p.steps place n ≤ 64 * (length schedule + 1)
        by_count zero is positive = absurd (omega (arith, positive))
        by_count (suc n) is positive =
            let last : (if p.owner (suc n) == place then p.steps (suc n) else 0) ≡ 0 = term (p.owner (suc n) == place) (p.steps (suc n)) (none_beyond (suc n) (omega (arith, is))) in
            let sum : draws + owned p.owner p.steps place n ≡ total (suc n) (λ t. if runs p.owner place t then took_of t else 0) = as_total p.owner p.steps place draws n in
            let all : total (suc n) (λ t. if runs p.owner place t then took_of t else 0) ≤ 64 * (total (suc n) s.steps + 1) = unit_steps took_of s.steps (runs p.owner place) (p.runner place) before (λ mine. now (p.runner place)) (suc n) in
            let long : length schedule ≡ total (suc n) s.steps = length_is ∙ ap (λ n. total n s.steps) is in
            omega (arith, last, sum, all, long)

  -- ---- all units

  pub unit_steps_bound : (turns : List ℕ) → HasSums turns m log is_log.world.threads p → (k : ℕ) (u : Unit) → slice_get m.units k ≡ Some u → u.counts.steps ≤ 64 * (length schedule + 1)
  unit_steps_bound turns sums k u at =
      let counted : u.counts.steps ≡ capped (turns_of k turns) = sums.steps k u at in
      let less : capped (turns_of k turns) ≤ turns_of k turns = capped_less (turns_of k turns) in
      let bound : turns_of k turns ≤ 64 * (length schedule + 1) = by_unit k in
      omega (arith, counted, less, bound)
    where
      by_unit : (k : ℕ) → turns_of k turns ≤ 64 * (length schedule + 1)
      by_unit zero = subst (λ n. n ≤ 64 * (length schedule + 1)) (sym sums.master) master_steps
      by_unit (suc place) = subst (λ n. n ≤ 64 * (length schedule + 1)) (sym (sums.units place)) (unit_bound place (sums.draws place) (sums.bound place))
