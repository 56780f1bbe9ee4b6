-- A rising log gives the rising schedule.
use Rattle.std.proofs.Common.{◌≡◌, refl, sym, ◌∙◌, ap, subst, ℕ, suc, zero, ◌+◌, ◌-◌, ◌<◌, ◌==◌, ◌⊎◌, inl, inr, Bool, true, false, if◌then◌else◌, IsTrue, List, [], ◌∷◌, length, arith, Option, Some, None, is_none, slice_get}
use Rattle.xmt_base.specs.declared.values.TrapKind.{TrapKind}
use Rattle.xmt_base.specs.Action.{Action, Start}
use Rattle.xmt_base.specs.Action as action
use Rattle.source_meaning.specs.declared.tree.Program.{Program}
use Rattle.source_meaning.specs.Term.{Code}
use Rattle.source_meaning.specs.Next.{Ask, Quietly, Loading, Storing, Adding, Printing, Spawning, Joining, Ending, Next, Is, Asks, Traps}
use Rattle.std.specs.Option.{option_map_or}
use Rattle.source_meaning.specs.Run.{Thread, Configuration, start, step, can_step, waits_for, next_of, next_of_thread, next_of_rest, first_live, live_child, rising_from, rising_thread, rising}
use Rattle.interleaving.specs.Actors.{Move, Rests, Alone, Acts, Entry, part_of, IsPrompt, with_state, IsLawfulBy, Leads, Interleaved}
use Rattle.interleaving.proofs.Interleave.{with_state-same, with_state-other, interleaves}
use Rattle.source_log.specs.Log.{Log, World, opening_world, AllEnded, MayGo, IsLawfulEntry, IsLawful, IsLogged, after_action, after_entry, after_log}
use Rattle.interleaving.specs.Starts.{start_of}
use Rattle.source_log.specs.Threads.{Actor, next_of_actor, actor_after, move_of, move, MayAsk, IsKept, ThreadsKeep, Made}
use Rattle.source_log.specs.Standing.{thread_of, StandsFor}
use Rattle.source_log.specs.FromLog.{DoTheirParts, IsScheduleOf}
use Rattle.source_log.specs.Rising.{LowerEnded, IsRising, EachRisingLogHasTheRisingSchedule}
use Rattle.source_log.proofs.Steps.{equal_of, positive_of, true-false}
use Rattle.source_log.proofs.Facts.{none_waits, alone_step, act_step}
use Rattle.source_log.proofs.Prepared.{spawn_is, prepared}
use Rattle.interleaving.proofs.Starts.{are_starts}
use Rattle.source_log.proofs.Joins.{JoinsNext, joins_rest}
use Rattle.source_log.proofs.Fine.{threads_keep}
use Rattle.source_log.proofs.Plain.{fine_program}
use Rattle.source_log.proofs.FromLog.{each, first, stands, counts, ends, may_end, first_is_main, all_of}

-- ---- the first live thread

none_live : (threads : List Thread) (t m : ℕ) → ((u : ℕ) (x : Thread) → slice_get threads u ≡ Some x → waits_for t x ≡ false) → first_live t m threads ≡ None
none_live [] t m none = refl
none_live (x ∷ threads) t m none =
    let this : waits_for t x ≡ false = none 0 x refl in
    rw this (none_live threads t (suc m) (λ u y there. none (suc u) y there))

live_at : (threads : List Thread) (t m k : ℕ) (x : Thread) → slice_get threads k ≡ Some x → waits_for t x ≡ true → ((u : ℕ) (y : Thread) → u < k → slice_get threads u ≡ Some y → waits_for t y ≡ false) → first_live t m threads ≡ Some (m + k)
live_at [] t m k x there awaited lower = cc
live_at (y ∷ threads) t m zero x there awaited lower =
    let same : y ≡ x = cc in
    let here : waits_for t y ≡ true = ap (waits_for t) same ∙ awaited in
    let sum : m ≡ m + 0 = omega arith in
    rw here (ap Some sum)
live_at (y ∷ threads) t m (suc k) x there awaited lower =
    let this : waits_for t y ≡ false = lower 0 y (omega arith) refl in
    let sum : suc m + k ≡ m + suc k = omega arith in
    rw this (live_at threads t (suc m) k x there awaited (λ u z small h. lower (suc u) z (omega (arith, small)) h) ∙ ap Some sum)

-- ---- whose turn it is

-- where virtual threads live, the serial code waits for them
abbrev IsWaiting : Program → World → Actor → Type 0
IsWaiting program w a =
    (t : ℕ) → 0 < t → t < w.threads → w.ended t ≡ false →
    (behind : ℕ → Option Code) × (next_of_actor program 0 a ≡ Asks Joining behind)

module _ (p : Program) (c : Configuration) (w : World) (actors : ℕ → Actor) (stands_for : StandsFor p c w actors) where
  next_here : (t : ℕ) → t < w.threads → next_of p c t ≡ next_of_actor p t (actors t)
  next_here t less = ap (next_of_thread p t) (stands_for.threads t less)

  no_child : (t : ℕ) → t < w.threads → (t ≡ 0 → AllEnded w) → live_child t c.threads (next_of_actor p t (actors t)) ≡ None
  no_child t less ready = by_next (next_of_actor p t (actors t)) (stands_for.kept t less 0 [] (actors t) (refl, refl))
    where
      by_ask : (a : Ask) (left : ℕ → Option Code) → MayAsk t a → live_child t c.threads (Asks a left) ≡ None
      by_ask Quietly left may = refl
      by_ask (Loading cell) left may = refl
      by_ask (Storing cell v) left may = refl
      by_ask (Adding cell v) left may = refl
      by_ask (Printing text) left may = refl
      by_ask (Spawning site low high block) left may = refl
      by_ask Ending left may = refl
      by_ask Joining left may = none_live c.threads t 0 (λ u x there. none_waits p c w actors stands_for t u x (ready may u) there)

      by_next : (n : Next (Option Code) (Unit {0})) → IsKept t n → live_child t c.threads n ≡ None
      by_next (Is result) kept = refl
      by_next (Traps kind line) kept = refl
      by_next (Asks a left) kept = by_ask a left kept.0

  no_turn : (turns t : ℕ) → t < w.threads → (t ≡ 0 → AllEnded w) → rising_from p c turns t ≡ t
  no_turn zero t less ready = refl
  no_turn (suc turns) t less ready = ap (λ o. option_map_or (rising_from p c turns) o t) (ap (live_child t c.threads) (next_here t less) ∙ no_child t less ready)

  serial_turn : AllEnded w → rising_thread p c ≡ 0
  serial_turn all = no_turn (length c.threads) 0 stands_for.positive (λ e. all)

  virtual_turn : (t : ℕ) → 0 < t → t < w.threads → w.ended t ≡ false → LowerEnded w t → IsWaiting p w (actors 0) → rising_thread p c ≡ t
  virtual_turn t positive less live lower waiting =
      let joins : (behind : ℕ → Option Code) × (next_of_actor p 0 (actors 0) ≡ Asks Joining behind) = waiting t positive less live in
      let some_more : length c.threads ≡ suc (w.threads - 1) = stands_for.count ∙ (let positive_here : 0 < w.threads = stands_for.positive in omega (arith, positive_here)) in
      let child : first_live 0 0 c.threads ≡ Some (0 + t) =
      live_at c.threads 0 0 t (thread_of t (actors t)) (stands_for.threads t less) (awaited t positive (stands_for.ended t less ∙ live))
      (λ u y small h. none_waits p c w actors stands_for 0 u y (λ above within. lower u above small) h) in
      let sum : 0 + t ≡ t = omega arith in
      ap (λ n. rising_from p c n 0) some_more ∙
      ap (λ n. option_map_or (rising_from p c (w.threads - 1)) (live_child 0 c.threads n) 0) (next_here 0 stands_for.positive ∙ joins.1) ∙
      ap (λ o. option_map_or (rising_from p c (w.threads - 1)) o 0) child ∙
      ap (rising_from p c (w.threads - 1)) sum ∙
      no_turn (w.threads - 1) t less (λ zero_t. grind (arith, positive, zero_t))
    where
      awaited : (t : ℕ) → 0 < t → is_none (actors t).code ≡ false → waits_for 0 (thread_of t (actors t)) ≡ true
      awaited zero positive live = absurd (grind (arith, positive))
      awaited (suc t) positive live = rw live refl

-- ---- the steps

abbrev left_of : {S A : Type 0} → (ℕ → S) → Move S A → ℕ → S
left_of default Rests = default
left_of default (Alone s) = default
left_of default (Acts a f) = f

live_of_move : (p : Program) (t : ℕ) (a : Actor) → (move p t a ≡ Rests → ⊥) → is_none a.code ≡ false
live_of_move p t a moves = by_code a.code moves
  where
    by_code : (code : Option Code) → (move_of a (next_of_rest p t a.number code) ≡ Rests → ⊥) → is_none code ≡ false
    by_code None moves = absurd (moves refl)
    by_code (Some code) moves = refl

-- what ends in an entry is the thread of the entry alone
ended_before : (w : World) (t : ℕ) (x : Action) (u : ℕ) → (after_action w t x).ended u ≡ false → w.ended u ≡ false
ended_before w t (action.Load place) u h = h
ended_before w t (action.Store place v) u h = h
ended_before w t (action.Add place v) u h = h
ended_before w t (action.Print text) u h = h
ended_before w t (action.Spawn site low high) u h = h
ended_before w t (action.Trap kind line) u h = h
ended_before w t action.Ended u h = by_test (t == u) h
  where
    by_test : (b : Bool) → (if b then true else w.ended u) ≡ false → w.ended u ≡ false
    by_test true h = cc
    by_test false h = h

module _ (p : Program) where
  -- whether a thread can step, and it is its turn
  abbrev CanRise : Configuration → ℕ → Type 0
  CanRise c t = IsTrue (can_step p c t) × (rising_thread p c ≡ t)

  abbrev MayRise : World → ℕ → Type 0
  MayRise w t = MayGo w t × LowerEnded w t

  abbrev IsLawfulRise : World → Entry Action → Type 0
  IsLawfulRise w e = IsLawfulEntry w e × LowerEnded w e.actor

  abbrev Rises : Configuration → World → (ℕ → Actor) → Type 0
  Rises c w actors = StandsFor p c w actors × IsWaiting p w (actors 0)

  turn : (c : Configuration) (w : World) (actors : ℕ → Actor) (t : ℕ) → Rises c w actors → MayRise w t → is_none (actors t).code ≡ false → rising_thread p c ≡ t
  turn c w actors t rises may live = by_test (0 == t) refl
    where
      by_test : (b : Bool) → (0 == t) ≡ b → rising_thread p c ≡ t
      by_test true e =
          let zero_t : 0 ≡ t = equal_of 0 t e in
          serial_turn p c w actors rises.0 (may.0.1 (sym zero_t)) ∙ zero_t
      by_test false e = virtual_turn p c w actors rises.0 t (positive_of t e) may.0.0 (sym (rises.0.ended t may.0.0) ∙ live) may.1 rises.1

  waiting_alone : (w : World) (actors : ℕ → Actor) (t : ℕ) (s : Actor) → MayRise w t → IsWaiting p w (actors 0) → IsWaiting p w (with_state actors t s 0)
  waiting_alone w actors t s may waiting u positive less live = by_test (t == 0) refl
    where
      Found : Actor → Type 0
      Found a = (behind : ℕ → Option Code) × (next_of_actor p 0 a ≡ Asks Joining behind)

      by_test : (b : Bool) → (t == 0) ≡ b → Found (with_state actors t s 0)
      by_test true e = true-false (w.ended u) (may.0.1 (equal_of t 0 e) u positive less) live
      by_test false e = subst Found (sym (with_state-other actors t 0 s e)) (waiting u positive less live)

  alone_rise : (c : Configuration) (w : World) (actors : ℕ → Actor) (t : ℕ) (s : Actor) → Rises c w actors → MayRise w t → move p t (actors t) ≡ Alone s → CanRise c t × Rises (step p c t) w (with_state actors t s)
  alone_rise c w actors t s rises may does =
      let taken : IsTrue (can_step p c t) × StandsFor p (step p c t) w (with_state actors t s) = alone_step p c w actors t rises.0 may.0 s does in (
        (taken.0, turn c w actors t rises may (live_of_move p t (actors t) (λ h. let never : ◌≡◌ {A = Move Actor Action} Rests (Alone s) = sym h ∙ does in cc))),
        (taken.1, waiting_alone w actors t s may rises.1),
      )

  -- behind an entry
  waiting_after : (w : World) (actors : ℕ → Actor) (e : Entry Action) (left : ℕ → Actor) → IsLawfulRise w e → IsWaiting p w (actors 0) → move p e.actor (actors e.actor) ≡ Acts e.action left → IsWaiting p (after_entry w e) (with_state actors e.actor (left e.reply) 0)
  waiting_after w actors e left lawful waiting does u positive less live = by_test (e.actor == 0) refl
    where
      Found : Actor → Type 0
      Found a = (behind : ℕ → Option Code) × (next_of_actor p 0 a ≡ Asks Joining behind)

      lives : w.ended u ≡ false
      lives = ended_before w e.actor e.action u live

      spawned : (site low high : ℕ) → e.action ≡ action.Spawn site low high → e.actor ≡ 0 → Found (left e.reply)
      spawned site low high is_spawn zero_e =
          let does_spawn : move p e.actor (actors e.actor) ≡ Acts (action.Spawn site low high) left = does ∙ ap (λ x. Acts x left) is_spawn in
          let does_0 : move p 0 (actors 0) ≡ Acts (action.Spawn site low high) left = subst (λ t. move p t (actors t) ≡ Acts (action.Spawn site low high) left) zero_e does_spawn in
          let at : (block : ℕ → Code) × (code : ℕ → Option Code) × (next_of_actor p 0 (actors 0) ≡ Asks (Spawning site low high block) code) = spawn_is (next_of_actor p 0 (actors 0)) (actors 0) site low high left does_0 in
          let joins : (behind : ℕ → Option Code) × (next_of_rest p 0 (actors 0).number (at.1 e.reply) ≡ Asks Joining behind) = subst (λ n. JoinsNext (next_of_rest p 0 (actors 0).number) n) at.2 (joins_rest p 0 (actors 0).number (actors 0).code) e.reply in
          let same : ◌≡◌ {A = Move Actor Action} (Acts (action.Spawn site low high) (λ reply. actor_after (actors 0) (Spawning site low high at.0) (at.1 reply))) (Acts (action.Spawn site low high) left) = sym (ap (move_of (actors 0)) at.2) ∙ does_0 in
          let is_left : actor_after (actors 0) (Spawning site low high at.0) (at.1 e.reply) ≡ left e.reply = ap (λ f. f e.reply) (ap (left_of left) same) in
          (joins.0, sym (ap (next_of_actor p 0) is_left) ∙ joins.1)

      serial : (x : Action) → e.action ≡ x → e.actor ≡ 0 → AllEnded w → u < (after_action w e.actor x).threads → Found (left e.reply)
      serial (action.Load place) is zero_e all small = true-false (w.ended u) (all u positive small) lives
      serial (action.Store place v) is zero_e all small = true-false (w.ended u) (all u positive small) lives
      serial (action.Add place v) is zero_e all small = true-false (w.ended u) (all u positive small) lives
      serial (action.Print text) is zero_e all small = true-false (w.ended u) (all u positive small) lives
      serial (action.Spawn site low high) is zero_e all small = spawned site low high is zero_e
      serial (action.Trap kind line) is zero_e all small = true-false (w.ended u) (all u positive small) lives
      serial action.Ended is zero_e all small = true-false (w.ended u) (all u positive small) lives

      same_threads : (x : Action) → IsLogged e.actor x → (e.actor ≡ 0 → ⊥) → (after_action w e.actor x).threads ≡ w.threads
      same_threads (action.Load place) logged virtual = refl
      same_threads (action.Store place v) logged virtual = refl
      same_threads (action.Add place v) logged virtual = refl
      same_threads (action.Print text) logged virtual = refl
      same_threads (action.Spawn site low high) logged virtual = absurd (virtual logged)
      same_threads (action.Trap kind line) logged virtual = refl
      same_threads action.Ended logged virtual = refl

      by_test : (b : Bool) → (e.actor == 0) ≡ b → Found (with_state actors e.actor (left e.reply) 0)
      by_test true is_zero =
          let zero_e : e.actor ≡ 0 = equal_of e.actor 0 is_zero in
          let is_left : left e.reply ≡ with_state actors e.actor (left e.reply) 0 = sym (with_state-same actors e.actor (left e.reply)) ∙ ap (with_state actors e.actor (left e.reply)) zero_e in
          subst Found is_left (serial e.action refl zero_e (lawful.0.0.1 zero_e) less)
      by_test false not_zero =
          let virtual : e.actor ≡ 0 → ⊥ = λ h. grind (arith, not_zero, h) in
          let threads : (after_entry w e).threads ≡ w.threads = same_threads e.action lawful.0.2 virtual in
          subst Found (sym (with_state-other actors e.actor 0 (left e.reply) not_zero)) (waiting u positive (subst (λ n. u < n) threads less) lives)

  act_rise : (c : Configuration) (w : World) (actors : ℕ → Actor) (e : Entry Action) (left : ℕ → Actor) → Rises c w actors → IsLawfulRise w e → Made p w actors e → move p e.actor (actors e.actor) ≡ Acts e.action left → CanRise c e.actor × Rises (step p c e.actor) (after_entry w e) (with_state actors e.actor (left e.reply))
  act_rise c w actors e left rises lawful made does =
      let taken : IsTrue (can_step p c e.actor) × StandsFor p (step p c e.actor) (after_entry w e) (with_state actors e.actor (left e.reply)) = act_step p c w actors e.actor rises.0 lawful.0.0 e.action e.reply left does lawful.0.1 made in (
        (taken.0, turn c w actors e.actor rises (lawful.0.0, lawful.1) (live_of_move p e.actor (actors e.actor) (λ h. let never : ◌≡◌ {A = Move Actor Action} Rests (Acts e.action left) = sym h ∙ does in cc))),
        (taken.1, waiting_after w actors e left lawful rises.1 does),
      )

  both_lawful : (log : Log) (w : World) → IsLawful w log → IsLawfulBy after_entry (λ w e. LowerEnded w e.actor) w log → IsLawfulBy after_entry IsLawfulRise w log
  both_lawful [] w lawful rises = tt
  both_lawful (e ∷ log) w lawful rises = ((lawful.0, rises.0), both_lawful log (after_entry w e) lawful.1 rises.1)

  -- a schedule in which it is each thread's turn is the rising one
  leads_rising : (schedule : List ℕ) (c d : Configuration) → Leads (step p) CanRise c schedule d → schedule ≡ rising p c (length schedule)
  leads_rising [] c d h = refl
  leads_rising (t ∷ schedule) c d h =
      let rest : schedule ≡ rising p (step p c t) (length schedule) = leads_rising schedule (step p c t) d h.1 in
      let can : can_step p c (rising_thread p c) ≡ true = ap (can_step p c) h.0.1 ∙ h.0.0 in
      ap (λ s. t ∷ s) rest ∙
      ap (λ u. u ∷ rising p (step p c u) (length schedule)) (sym h.0.1) ∙
      sym (ap (λ b. if b then rising_thread p c ∷ rising p (step p c (rising_thread p c)) (length schedule) else []) can)

  leads_plain : (schedule : List ℕ) (c d : Configuration) → Leads (step p) CanRise c schedule d → Leads (step p) (λ c t. IsTrue (can_step p c t)) c schedule d
  leads_plain [] c d h = h
  leads_plain (t ∷ schedule) c d h = (h.0.0, leads_plain schedule (step p c t) d h.1)

module _ (program : Program) (words : List ℕ) (log : Log) (trap : ℕ → Option (TrapKind × ℕ)) (steps : ℕ → ℕ)
    (parts : DoTheirParts program words log trap steps) (keep : ThreadsKeep program) (rises : IsRising program words log steps) where
  abbrev final : World
  final = after_log (opening_world program words) log

  abbrev actor_at : ℕ → Actor
  actor_at = first program words log trap steps parts keep

  abbrev count_at : ℕ → ℕ
  count_at = counts program words log trap steps parts keep

  abbrev end_at : ℕ → Actor
  end_at = ends program words log trap steps parts keep

  risen : Interleaved (step program) (CanRise program) (Rises program) (start program words) final count_at end_at final.threads
  risen =
      interleaves (step program) (CanRise program) (move program) after_entry (IsLawfulRise program) (MayRise program) (Made program) (Rises program)
      (λ w e lawful. (lawful.0.0, lawful.1))
      (λ c w states t s holds go does. alone_rise program c w states t s holds go does)
      (λ c w states e left holds lawful made does. act_rise program c w states e left holds lawful made does)
      final.threads log (start program words) (opening_world program words) actor_at count_at end_at
      (stands program words log trap steps parts keep, λ t positive less live. absurd (grind (arith, positive, less)))
      (both_lawful program log (opening_world program words) parts.lawful rises.entries)
      (prepared program log (start_of log) (are_starts log) keep actor_at final.threads (λ t less. (each program words log trap steps parts keep t).begins less) log [] (opening_world program words) actor_at refl refl parts.lawful (omega arith) (omega arith) (λ t more. refl)
      (record { steps = 0; does = (refl, first_is_main program words log trap steps parts keep); plain = tt }))
      (λ t. (each program words log trap steps parts keep t).does) idle
    where
      by_rest : (t : ℕ) → t < final.threads → MayGo final t → LowerEnded final t ⊎ (steps t ≡ 0) → MayRise program final t ⊎ IsPrompt (move program t) (count_at t) (actor_at t) (part_of t log)
      by_rest t less go (inl lower) = inl (go, lower)
      by_rest t less go (inr none) =
          let is_zero : count_at t ≡ 0 = (each program words log trap steps parts keep t).counted less ∙ none in
          inr (λ n is_more end h. grind (arith, is_zero, is_more))

      by_end : (t : ℕ) → t < final.threads → MayGo final t ⊎ IsPrompt (move program t) (count_at t) (actor_at t) (part_of t log) → MayRise program final t ⊎ IsPrompt (move program t) (count_at t) (actor_at t) (part_of t log)
      by_end t less (inl go) = by_rest t less go (rises.rest t less)
      by_end t less (inr prompt) = inr prompt

      idle : (t : ℕ) → t < final.threads → MayRise program final t ⊎ IsPrompt (move program t) (count_at t) (actor_at t) (part_of t log)
      idle t less = by_end t less (may_end program words log trap steps parts keep t less)

  rising_schedule : (schedule : List ℕ) × IsScheduleOf program words log trap steps schedule × (schedule ≡ rising program (start program words) (length schedule))
  rising_schedule = (
    risen.schedule,
    all_of program words log trap steps parts keep
        (record { schedule = risen.schedule; there = risen.there; states = risen.states; leads = leads_plain program risen.schedule (start program words) risen.there risen.leads; holds = risen.holds.0; stands = risen.stands; turns = risen.turns }),
    leads_rising program risen.schedule (start program words) risen.there risen.leads,
  )

pub each_rising_log_has_the_rising_schedule : EachRisingLogHasTheRisingSchedule
each_rising_log_has_the_rising_schedule program in_blocks words log trap steps plain parts rises =
    rising_schedule program words log trap steps parts (threads_keep program (λ f. in_blocks f ≡ true) (fine_program program (λ f. in_blocks f ≡ true) plain)) rises
