-- From a log, and from what each thread does by itself, to a schedule of the source.
use Rattle.std.proofs.Common.{◌≡◌, refl, sym, ◌∙◌, ap, ap₂, subst, ℕ, suc, zero, ◌+◌, ◌<◌, ◌≤◌, ◌==◌, nat_lt, ◌⊎◌, inl, inr, Bool, true, false, if◌then◌else◌, IsTrue, List, [], ◌∷◌, ◌++◌, length, set, arith, Option, Some, None, slice_get, le_of_eq, length-set, length-append}
use Rattle.xmt_base.specs.declared.values.TrapKind.{TrapKind}
use Rattle.xmt_base.specs.Action.{Shared, Word, Register, Outer, Action, Start, Main, Block}
use Rattle.source_meaning.specs.declared.tree.Program.{Program}
use Rattle.source_meaning.specs.Store.{Private}
use Rattle.std.proofs.lemmas.Option.{slice_get_within}
use Rattle.source_meaning.specs.Term.{Code}
use Rattle.source_meaning.specs.Next.{Ask, Next, Is, Asks, Traps}
use Rattle.source_meaning.specs.Run.{Thread, Configuration, start, step, is_step, can_step, after, after_step, after_answer, may_go, reply, new_threads, IsLegal, is_over, first_has_ended, has_ended, next_of, next_of_thread, trap_in, trap_of_thread}
use Rattle.source_meaning.specs.Trace.{action_of, main_of, traces_in}
use Rattle.interleaving.specs.Actors.{part_of, Does, DoesThen, IsPrompt, turns_of, Leads, Interleaved}
use Rattle.interleaving.proofs.Interleave.{interleaves}
use Rattle.source_log.specs.Log.{Log, World, opening_world, AllEnded, MayGo, IsLawfulEntry, IsLawful, after_entry, after_log}
use Rattle.interleaving.specs.Starts.{start_of}
use Rattle.interleaving.specs.Parts.{actions_of, replies_of}
use Rattle.source_log.specs.Threads.{Actor, next_of_actor, own_reply, actor_after, move_by, move_of, move, main_actor, Keeps, ThreadsKeep, Made}
use Rattle.source_log.specs.Standing.{cell_at, outermost_for, thread_of, StandsFor}
use Rattle.source_log.specs.FromLog.{Begins, total, IsNumbered, DoTheirParts, IsScheduleOf, EachLogHasASchedule}
use Rattle.source_log.proofs.Fine.{threads_keep}
use Rattle.source_log.proofs.Plain.{fine_program}
use Rattle.source_log.proofs.Steps.{other_of_less, other_comm}
use Rattle.source_log.proofs.Facts.{alone_step, act_step}
use Rattle.interleaving.proofs.Starts.{are_starts}
use Rattle.source_log.proofs.Prompt.{Run, done_is_run}
use Rattle.source_log.proofs.ByItself.{IsAt, ByItself, by_itself}
use Rattle.source_log.proofs.Prepared.{threads_grow_all, parts_plain, prepared}

-- ---- schedules

leads_legal : (p : Program) (c : Configuration) (schedule : List ℕ) (d : Configuration) → Leads (step p) (λ c t. IsTrue (can_step p c t)) c schedule d → IsLegal p c schedule × (d ≡ after p c schedule)
leads_legal p c [] d h = (tt, h)
leads_legal p c (t ∷ schedule) d h =
    let rest : IsLegal p (step p c t) schedule × (d ≡ after p (step p c t) schedule) = leads_legal p (step p c t) schedule d h.1 in
    ((h.0, rest.0), rest.1)

-- a step leaves no fewer threads
step_grows : (p : Program) (c : Configuration) (t : ℕ) → length c.threads ≤ length (step p c t).threads
step_grows p c t = by_thread (slice_get c.threads t) (next_of p c t)
  where
    by_answer : (thread : Thread) (a : Ask) (left : ℕ → Option Code) (b : Bool) → length c.threads ≤ length (if b then after_answer c t thread a left else c).threads
    by_answer thread a left true =
        let list : List Thread = set c.threads t (record thread { code = left (reply c a) }) in
        let more : List Thread = new_threads t thread.outermost (length c.threads) a in
        let listed : length list ≡ length c.threads = length-set c.threads t (record thread { code = left (reply c a) }) in
        let both : length (list ++ more) ≡ length list + length more = length-append list more in
        omega (arith, listed, both)
    by_answer thread a left false = omega arith

    by_next : (thread : Thread) (n : Next (Option Code) (Unit {0})) → length c.threads ≤ length (after_step c t (Some thread) n).threads
    by_next thread (Is result) = omega arith
    by_next thread (Traps kind line) = omega arith
    by_next thread (Asks a left) = by_answer thread a left (may_go t c.threads a)

    by_thread : (o : Option Thread) (n : Next (Option Code) (Unit {0})) → length c.threads ≤ length (after_step c t o n).threads
    by_thread None n = omega arith
    by_thread (Some thread) n = by_next thread n

run_grows : (p : Program) (schedule : List ℕ) (c : Configuration) → length c.threads ≤ length (after p c schedule).threads
run_grows p [] c = omega arith
run_grows p (t ∷ schedule) c =
    let one : length c.threads ≤ length (step p c t).threads = step_grows p c t in
    let rest : length (step p c t).threads ≤ length (after p (step p c t) schedule).threads = run_grows p schedule (step p c t) in
    omega (arith, one, rest)

step_within : (p : Program) (c : Configuration) (t : ℕ) → IsTrue (can_step p c t) → t < length c.threads
step_within p c t can = by_thread (slice_get c.threads t) refl can
  where
    by_thread : (o : Option Thread) → slice_get c.threads t ≡ o → IsTrue (is_step t c.threads (next_of_thread p t o)) → t < length c.threads
    by_thread None there can = absurd (let never : false ≡ true = can in cc)
    by_thread (Some thread) there can = slice_get_within c.threads t thread there

abbrev AllBelow : (count : ℕ) → List ℕ → Type 0
AllBelow count [] = Unit {0}
AllBelow count (t ∷ schedule) = (t < count) × AllBelow count schedule

all_below : (count : ℕ) (p : Program) (c : Configuration) (schedule : List ℕ) → IsLegal p c schedule → length (after p c schedule).threads ≤ count → AllBelow count schedule
all_below count p c [] legal fits = tt
all_below count p c (t ∷ schedule) legal fits =
    let here : t < length c.threads = step_within p c t legal.0 in
    let grows : length c.threads ≤ length (after p c (t ∷ schedule)).threads = run_grows p (t ∷ schedule) c in
    (omega (arith, here, grows, fits), all_below count p (step p c t) schedule legal.1 fits)

total_same : (count : ℕ) (f g : ℕ → ℕ) → ((t : ℕ) → t < count → f t ≡ g t) → total count f ≡ total count g
total_same zero f g same = refl
total_same (suc n) f g same = ap₂ (λ a b. a + b) (total_same n f g (λ t less. same t (omega (arith, less)))) (same n (omega arith))

total_none : (count : ℕ) → total count (λ t. 0) ≡ 0
total_none zero = refl
total_none (suc n) = let rest : total n (λ t. 0) ≡ 0 = total_none n in omega (arith, rest)

total_one : (count u : ℕ) (f : ℕ → ℕ) → u < count → total count (λ t. if t == u then suc (f t) else f t) ≡ suc (total count f)
total_one zero u f less = absurd (grind (arith, less))
total_one (suc n) u f less = by_test (λ small. total_one n u f small) (nat_lt u n) refl
  where
    by_test : (u < n → total n (λ t. if t == u then suc (f t) else f t) ≡ suc (total n f)) → (b : Bool) → nat_lt u n ≡ b → total n (λ t. if t == u then suc (f t) else f t) + (if n == u then suc (f n) else f n) ≡ suc (total n f + f n)
    by_test go true early =
        let differ : (n == u) ≡ false = grind (arith, early) in
        let rest : total n (λ t. if t == u then suc (f t) else f t) ≡ suc (total n f) = go (grind (arith, early)) in
        rw differ (omega (arith, rest))
    by_test go false late =
        let same : (n == u) ≡ true = grind (arith, late, less) in
        let rest : total n (λ t. if t == u then suc (f t) else f t) ≡ total n f = total_same n (λ t. if t == u then suc (f t) else f t) f (λ t small. let differ : (t == u) ≡ false = grind (arith, late, small) in rw differ refl) in
        rw same (omega (arith, rest))

total_turns : (count : ℕ) (schedule : List ℕ) → AllBelow count schedule → length schedule ≡ total count (λ t. turns_of t schedule)
total_turns count [] below = sym (total_none count)
total_turns count (u ∷ schedule) below = ap suc (total_turns count schedule below.1) ∙ sym (total_one count u (λ t. turns_of t schedule) below.0)

turns_within : (t : ℕ) (schedule : List ℕ) → turns_of t schedule ≤ length schedule
turns_within t [] = omega arith
turns_within t (u ∷ schedule) = by_test (t == u) (turns_within t schedule)
  where
    by_test : (b : Bool) → turns_of t schedule ≤ length schedule → (if b then suc (turns_of t schedule) else turns_of t schedule) ≤ suc (length schedule)
    by_test true h = omega (arith, h)
    by_test false h = omega (arith, h)

over_of : (threads : List Thread) (x : Thread) → slice_get threads 0 ≡ Some x → first_has_ended threads ≡ has_ended x
over_of [] x h = cc
over_of (y ∷ threads) x h = let same : y ≡ x = cc in ap has_ended same

-- ---- numbers

-- a thread keeps its `$`
same_number : (p : Program) (t n : ℕ) (a : Actor) (part : Log) (end : Actor) → Does (move p t) n a part end → end.number ≡ a.number
same_number p t zero a part end does = ap (λ x. x.number) does.1
same_number p t (suc n) a part end does = by_next (λ a1 part1 h. same_number p t n a1 part1 end h) (next_of_actor p t a) does
  where
    by_acts : ((a1 : Actor) (part1 : Log) → Does (move p t) n a1 part1 end → end.number ≡ a1.number) → (ask : Ask) (left : ℕ → Option Code) (acts : List Action) (part : Log) → DoesThen (Does (move p t) n) (move_by a ask left acts) part end → end.number ≡ a.number
    by_acts go ask left [] part does = go (actor_after a ask (left (own_reply a.store ask))) part does
    by_acts go ask left (x ∷ rest) [] does = absurd does
    by_acts go ask left (x ∷ rest) (e ∷ part) does = go (actor_after a ask (left e.reply)) part does.1

    by_next : ((a1 : Actor) (part1 : Log) → Does (move p t) n a1 part1 end → end.number ≡ a1.number) → (m : Next (Option Code) (Unit {0})) → DoesThen (Does (move p t) n) (move_of a m) part end → end.number ≡ a.number
    by_next go (Is result) does = absurd does
    by_next go (Traps kind line) does = absurd does
    by_next go (Asks ask left) does = by_acts go ask left (action_of ask) part does

numbered : (p : Program) (t : ℕ) (begin : Start) (to from : Actor) → to.number ≡ from.number → Begins p t begin from → IsNumbered t begin (outermost_for t to.number)
numbered p zero begin to from same begins = refl
numbered p (suc t) Main to from same begins = tt
numbered p (suc t) (Block before replies number) to from same (steps, done, serial, block, run, is_before, spawned, is_block, is_x) = ap Some (same ∙ ap (λ a. a.number) is_x)

-- ---- threads that never are

no_part : (t : ℕ) (log : Log) (w : World) → IsLawful w log → (after_log w log).threads ≤ t → part_of t log ≡ []
no_part t [] w lawful more = refl
no_part t (e ∷ log) w lawful more =
    let rest : part_of t log ≡ [] = no_part t log (after_entry w e) lawful.1 more in
    let there : e.actor < w.threads = lawful.0.0.0 in
    let grows : w.threads ≤ (after_log w (e ∷ log)).threads = threads_grow_all (e ∷ log) w in
    let differ : (t == e.actor) ≡ false = other_comm e.actor t (other_of_less e.actor t (omega (arith, there, grows, more))) in
    ap (λ b. if b then e ∷ part_of t log else part_of t log) differ ∙ rest

pub some_threads_of : (program : Program) (words : List ℕ) (log : Log) → 0 < (after_log (opening_world program words) log).threads
some_threads_of program words log =
    let grows : 1 ≤ (after_log (opening_world program words) log).threads = threads_grow_all log (opening_world program words) in
    omega (arith, grows)

-- a thread that has ended
idle : Actor
idle = record { code = None; number = 0; store = λ cell. 0 }

module _ (program : Program) (words : List ℕ) (log : Log) (trap : ℕ → Option (TrapKind × ℕ)) (steps : ℕ → ℕ)
    (parts : DoTheirParts program words log trap steps) (keep : ThreadsKeep program) where
  abbrev pub last : World
  last = after_log (opening_world program words) log

  -- what a thread does by itself; one that never is does nothing
  pub record Each (t : ℕ) : Type 0 where
    pub from : Actor
    pub to : Actor
    pub count : ℕ
    pub does : Does (move program t) count from (part_of t log) to
    pub begins : t < last.threads → Begins program t (start_of log t) from
    pub is_at : t < last.threads → IsAt (trap t) (next_of_actor program t to)
    pub counted : t < last.threads → count ≡ steps t

  pub each_of : (t : ℕ) (b : Bool) → nat_lt t last.threads ≡ b → Each t
  each_of t true e =
      let less : t < last.threads = grind (arith, e) in
      let r : ByItself program t (start_of log t) (part_of t log) (trap t) (steps t) = by_itself program t (start_of log t) (part_of t log) (trap t) (steps t) (parts_plain t log (opening_world program words) parts.lawful) (parts.traces t less) in
      record { from = r.from; to = r.to; count = steps t; does = r.does; begins = λ h. r.begins; is_at = λ h. r.is_at; counted = λ h. refl }
  each_of t false e =
      let more : last.threads ≤ t = grind (arith, e) in
      let never : t < last.threads → ⊥ = λ h. grind (arith, h, more) in
      record { from = idle; to = idle; count = 0; does = (no_part t log (opening_world program words) parts.lawful more, refl); begins = λ h. absurd (never h); is_at = λ h. absurd (never h); counted = λ h. absurd (never h) }

  pub each : (t : ℕ) → Each t
  each t = each_of t (nat_lt t last.threads) refl

  abbrev pub first : ℕ → Actor
  first t = (each t).from

  pub some_threads : 0 < last.threads
  some_threads =
      let grows : 1 ≤ last.threads = threads_grow_all log (opening_world program words) in
      omega (arith, grows)

  pub first_is_main : first 0 ≡ main_actor program
  first_is_main = subst (λ s. Begins program 0 s (each 0).from) (are_starts log).serial ((each 0).begins some_threads)

  opening_cells : (place : Shared) → (start program words).store (cell_at place) ≡ (opening_world program words).cells place
  opening_cells (Word place) = refl
  opening_cells (Register number) = refl
  opening_cells (Outer depth number) = refl

  only_zero : (P : ℕ → Type 0) → P 0 → (t : ℕ) → t < 1 → P t
  only_zero P h t less = let zero_t : 0 ≡ t = omega (arith, less) in subst P zero_t h

  pub stands : StandsFor program (start program words) (opening_world program words) first
  stands =
      record {
        count = refl;
        positive = omega arith;
        threads = only_zero (λ t. slice_get (start program words).threads t ≡ Some (thread_of t (first t))) (ap (λ a. Some (thread_of 0 a)) (sym first_is_main));
        cells = opening_cells;
        output = refl;
        ended = only_zero _ (ap (λ a. has_ended (thread_of 0 a)) first_is_main);
        none_ended = λ t more. refl;
        private = λ t d s less. only_zero (λ u. 0 ≡ (first u).store (Private u d s)) (sym (ap (λ a. a.store (Private 0 d s)) first_is_main)) t less;
        outer = λ t d s less live. only_zero (λ u. 0 ≡ (first u).store (Private 0 d s)) (sym (ap (λ a. a.store (Private 0 d s)) first_is_main)) t less;
        fresh = λ t d s more. sym (ap (λ a. a.store (Private t d s)) first_is_main);
        kept = only_zero (λ t. Keeps program t (first t)) (subst (λ a. Keeps program 0 a) (sym first_is_main) keep.serial);
      }

  abbrev pub counts : ℕ → ℕ
  counts t = (each t).count

  abbrev pub ends : ℕ → Actor
  ends t = (each t).to

  pub may_end : (t : ℕ) → t < last.threads → MayGo last t ⊎ IsPrompt (move program t) (counts t) (first t) (part_of t log)
  may_end t less = by_test (0 == t) refl
    where
      by_test : (b : Bool) → (0 == t) ≡ b → MayGo last t ⊎ IsPrompt (move program t) (counts t) (first t) (part_of t log)
      by_test false differ = inl (less, λ zero_t. grind (arith, differ, zero_t))
      by_test true same = by_waits parts.waits
        where
          zero_t : 0 ≡ t
          zero_t = grind (arith, same)

          by_waits : AllEnded last ⊎ ((less : ℕ) → steps 0 ≡ suc less → traces_in program 0 Main (replies_of (part_of 0 log)) (actions_of (part_of 0 log)) less → ⊥) → MayGo last t ⊎ IsPrompt (move program t) (counts t) (first t) (part_of t log)
          by_waits (inl all) = inl (less, λ e. all)
          by_waits (inr prompt) =
              inr (subst (λ u. IsPrompt (move program u) (counts u) (first u) (part_of u log)) zero_t
              (subst (λ n. IsPrompt (move program 0) n (first 0) (part_of 0 log)) (sym ((each 0).counted some_threads))
              (subst (λ a. IsPrompt (move program 0) (steps 0) a (part_of 0 log)) (sym first_is_main)
              (λ less is_more end does.
              let run : Run program 0 0 less (main_of program (replies_of (part_of 0 log))) (part_of 0 log) end = done_is_run program 0 0 less (main_of program (replies_of (part_of 0 log))) (part_of 0 log) end refl (parts_plain 0 log (opening_world program words) parts.lawful) does in
              prompt less is_more (actions_of (part_of 0 log), run.0, run.1, inl refl)))))

  -- the schedule, over the actors
  pub built : Interleaved (step program) (λ c t. IsTrue (can_step program c t)) (StandsFor program) (start program words) last counts ends last.threads
  built =
      interleaves (step program) (λ c t. IsTrue (can_step program c t)) (move program) after_entry IsLawfulEntry MayGo (Made program) (StandsFor program)
      (λ w e lawful. lawful.0)
      (λ c w states t s stands go does. alone_step program c w states t stands go s does)
      (λ c w states e left stands lawful made does. act_step program c w states e.actor stands lawful.0 e.action e.reply left does lawful.1 made)
      last.threads log (start program words) (opening_world program words) first counts ends stands parts.lawful
      (prepared program log (start_of log) (are_starts log) keep first last.threads (λ t less. (each t).begins less) log [] (opening_world program words) first refl refl parts.lawful (omega arith) (omega arith) (λ t more. refl)
      (record { steps = 0; does = (refl, first_is_main); plain = tt }))
      (λ t. (each t).does) may_end

  module _ (found : Interleaved (step program) (λ c t. IsTrue (can_step program c t)) (StandsFor program) (start program words) last counts ends last.threads) where
    legal_run : IsLegal program (start program words) found.schedule × (found.there ≡ after program (start program words) found.schedule)
    legal_run = leads_legal program (start program words) found.schedule found.there found.leads

    -- where each thread stands at the end
    at_end : (t : ℕ) → t < last.threads → slice_get found.there.threads t ≡ Some (thread_of t (ends t))
    at_end t less = found.holds.threads t less ∙ ap (λ a. Some (thread_of t a)) (found.stands t less)

    stood : (t : ℕ) → t < last.threads → (from to : Actor) × Begins program t (start_of log t) from × Does (move program t) (steps t) from (part_of t log) to × (slice_get found.there.threads t ≡ Some (thread_of t to))
    stood t less = ((each t).from, (each t).to, (each t).begins less, subst (λ n. Does (move program t) n (each t).from (part_of t log) (each t).to) ((each t).counted less) (each t).does, at_end t less)

    trapped : (t : ℕ) (kind : TrapKind) (line : ℕ) → t < last.threads → trap t ≡ Some (kind, line) →
        (thread : Thread) × (slice_get found.there.threads t ≡ Some thread) × (trap_of_thread program t thread ≡ Some (record { kind = kind; line = line; thread = thread.outermost })) × IsNumbered t (start_of log t) thread.outermost
    trapped t kind line less is_trap =
        let at : next_of_actor program t (ends t) ≡ Traps kind line = subst (λ o. IsAt o (next_of_actor program t (ends t))) is_trap ((each t).is_at less) in (
          thread_of t (ends t),
          at_end t less,
          ap (λ n. trap_in n (outermost_for t (ends t).number)) at,
          numbered program t (start_of log t) (ends t) (each t).from (same_number program t (each t).count (each t).from (part_of t log) (each t).to (each t).does) ((each t).begins less),
        )

    ended_at : (t : ℕ) (thread : Thread) → t < last.threads → slice_get found.there.threads t ≡ Some thread → has_ended thread ≡ last.ended t
    ended_at t thread less there =
        let same : Some (thread_of t (found.states t)) ≡ Some thread = sym (found.holds.threads t less) ∙ there in
        let is_thread : thread_of t (found.states t) ≡ thread = cc in
        subst (λ x. has_ended x ≡ last.ended t) is_thread (found.holds.ended t less)

    pub all_of : IsScheduleOf program words log trap steps found.schedule
    all_of =
        let final : StandsFor program found.there last found.states = found.holds in
        let told : (t : ℕ) → t < last.threads → turns_of t found.schedule ≡ steps t = λ t less. found.turns t less ∙ (each t).counted less in
        record {
          legal = legal_run.0;
          cells = λ place. subst (λ d. d.store (cell_at place) ≡ last.cells place) legal_run.1 (final.cells place);
          output = subst (λ d. d.output ≡ last.printed) legal_run.1 final.output;
          over = subst (λ d. is_over d ≡ last.ended 0) legal_run.1 (over_of found.there.threads (thread_of 0 (found.states 0)) (final.threads 0 some_threads) ∙ final.ended 0 some_threads);
          ended = λ t thread less there. ended_at t thread less (subst (λ d. slice_get d.threads t ≡ Some thread) (sym legal_run.1) there);
          count = subst (λ d. length d.threads ≡ last.threads) legal_run.1 final.count;
          stand = λ t less. subst (λ d. (from to : Actor) × Begins program t (start_of log t) from × Does (move program t) (steps t) from (part_of t log) to × (slice_get d.threads t ≡ Some (thread_of t to))) legal_run.1 (stood t less);
          traps = λ t kind line less is_trap. subst (λ d. (thread : Thread) × (slice_get d.threads t ≡ Some thread) × (trap_of_thread program t thread ≡ Some (record { kind = kind; line = line; thread = thread.outermost })) × IsNumbered t (start_of log t) thread.outermost) legal_run.1 (trapped t kind line less is_trap);
          turns = told;
          long = total_turns last.threads found.schedule (all_below last.threads program (start program words) found.schedule legal_run.0 (subst (λ d. length d.threads ≤ last.threads) legal_run.1 (le_of_eq final.count))) ∙ total_same last.threads (λ t. turns_of t found.schedule) steps told;
        }

-- For every log and for what each thread does by itself there is a schedule of the source that does what the log says.
pub from_log : (program : Program) (words : List ℕ) (log : Log) (trap : ℕ → Option (TrapKind × ℕ)) (steps : ℕ → ℕ) → DoTheirParts program words log trap steps → ThreadsKeep program → (schedule : List ℕ) × IsScheduleOf program words log trap steps schedule
from_log program words log trap steps parts keep =
    ((built program words log trap steps parts keep).schedule, all_of program words log trap steps parts keep (built program words log trap steps parts keep))

pub each_log_has_a_schedule : EachLogHasASchedule
each_log_has_a_schedule program in_blocks words log trap steps plain parts = from_log program words log trap steps parts (threads_keep program (λ f. in_blocks f ≡ true) (fine_program program (λ f. in_blocks f ≡ true) plain))
