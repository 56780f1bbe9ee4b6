-- The threads that a spawn makes are those that begin there by themselves.
use Rattle.std.proofs.Common.{◌≡◌, refl, sym, ◌∙◌, ap, subst, ℕ, suc, ◌+◌, ◌%◌, ◌^◌, ◌<◌, ◌≤◌, ◌==◌, Bool, true, false, if◌then◌else◌, List, [], ◌∷◌, ◌++◌, arith, append-nil, append_assoc, Option, Some}
use Rattle.xmt_base.specs.Action.{Shared, Action, Start, Main, Block}
use Rattle.xmt_base.specs.Action as action
use Rattle.source_meaning.specs.declared.tree.Program.{Program}
use Rattle.source_meaning.specs.Store.{Word, Register, Outer, Private}
use Rattle.source_meaning.specs.Term.{Code}
use Rattle.source_meaning.specs.Next.{Ask, Quietly, Loading, Storing, Adding, Printing, Spawning, Joining, Ending, Next, Is, Asks, Traps}
use Rattle.source_meaning.specs.Trace.{Local, main_of, block_of, spawn_of, IsSpawned, serial_next}
use Rattle.interleaving.specs.Actors.{Move, Acts, Entry, part_of, Does, with_state, IsPrepared}
use Rattle.interleaving.proofs.Interleave.{with_state-same, with_state-other, part_of-append, does_append, does_over, does_same}
use Rattle.source_log.specs.Log.{Log, World, IsLogged, IsLawful, after_action, after_entry, after_log, reply_in}
use Rattle.interleaving.specs.Starts.{count_after, count_behind, AreStarts}
use Rattle.interleaving.specs.Parts.{actions_of, takes_reply, replies_of}
use Rattle.source_log.specs.Threads.{Actor, next_of_actor, actor_after, move_of, move, actor_of, main_actor, Keeps, BlockKeeps, ThreadsKeep, IsMade, Made}
use Rattle.source_log.specs.FromLog.{Begins}
use Rattle.source_log.proofs.ByItself.{ArePlain, run_is_done, snoc_same}
use Rattle.source_log.proofs.Steps.{equal_of, other_of_less, other_comm}

-- there are never fewer threads than before
threads_grow : (w : World) (t : ℕ) (x : Action) → w.threads ≤ (after_action w t x).threads
threads_grow w t (action.Load place) = omega arith
threads_grow w t (action.Store place v) = omega arith
threads_grow w t (action.Add place v) = omega arith
threads_grow w t (action.Print text) = omega arith
threads_grow w t (action.Spawn site low high) = omega arith
threads_grow w t (action.Trap kind line) = omega arith
threads_grow w t action.Ended = omega arith

pub threads_grow_all : (log : Log) (w : World) → w.threads ≤ (after_log w log).threads
threads_grow_all [] w = omega arith
threads_grow_all (e ∷ log) w =
    let one : w.threads ≤ (after_entry w e).threads = threads_grow w e.actor e.action in
    let rest : (after_entry w e).threads ≤ (after_log (after_entry w e) log).threads = threads_grow_all log (after_entry w e) in
    omega (arith, one, rest)

-- the world has as many threads as the log makes
threads_counted : (w : World) (t : ℕ) (x : Action) → (after_action w t x).threads ≡ count_after w.threads x
threads_counted w t (action.Load place) = refl
threads_counted w t (action.Store place v) = refl
threads_counted w t (action.Add place v) = refl
threads_counted w t (action.Print text) = refl
threads_counted w t (action.Spawn site low high) = refl
threads_counted w t (action.Trap kind line) = refl
threads_counted w t action.Ended = refl

pub all_threads_counted : (log : Log) (w : World) → (after_log w log).threads ≡ count_behind w.threads log
all_threads_counted [] w = refl
all_threads_counted (e ∷ log) w = all_threads_counted log (after_entry w e) ∙ ap (λ n. count_behind n log) (threads_counted w e.actor e.action)

count_behind-append : (first second : Log) (count : ℕ) → count_behind count (first ++ second) ≡ count_behind (count_behind count first) second
count_behind-append [] second count = refl
count_behind-append (e ∷ first) second count = count_behind-append first second (count_after count e.action)

plain-append : (first second : Log) → ArePlain first → ArePlain second → ArePlain (first ++ second)
plain-append [] second h g = g
plain-append (e ∷ first) second h g = (h.0, h.1, plain-append first second h.2 g)

pub reply_plain : (w : World) (x : Action) (r : ℕ) → r ≡ reply_in w x → takes_reply x ≡ false → r ≡ 0
reply_plain w (action.Load place) r e h = cc
reply_plain w (action.Store place v) r e h = e
reply_plain w (action.Add place v) r e h = cc
reply_plain w (action.Print text) r e h = e
reply_plain w (action.Spawn site low high) r e h = e
reply_plain w (action.Trap kind line) r e h = e
reply_plain w action.Ended r e h = e

-- a lawful log's parts are plain
pub parts_plain : (t : ℕ) (log : Log) (w : World) → IsLawful w log → ArePlain (part_of t log)
parts_plain t [] w lawful = tt
parts_plain t (e ∷ log) w lawful = by_test (t == e.actor) (parts_plain t log (after_entry w e) lawful.1)
  where
    by_test : (b : Bool) → ArePlain (part_of t log) → ArePlain (if b then e ∷ part_of t log else part_of t log)
    by_test true h = (reply_plain w e.action e.reply lawful.0.1, lawful.0.2, h)
    by_test false h = h

-- ---- one thread of a block

pub spawn_is : (n : Next (Option Code) (Unit {0})) (x : Actor) (site low high : ℕ) (left : ℕ → Actor) → move_of x n ≡ Acts (action.Spawn site low high) left → (block : ℕ → Code) × (code : ℕ → Option Code) × (n ≡ Asks (Spawning site low high block) code)
spawn_is (Is result) x site low high left h = cc
spawn_is (Traps kind line) x site low high left h = cc
spawn_is (Asks Quietly code) x site low high left h = cc
spawn_is (Asks (Loading (Word place)) code) x site low high left h = cc
spawn_is (Asks (Loading (Register number)) code) x site low high left h = cc
spawn_is (Asks (Loading (Outer o d n)) code) x site low high left h = cc
spawn_is (Asks (Loading (Private o d n)) code) x site low high left h = cc
spawn_is (Asks (Storing (Word place) v) code) x site low high left h = cc
spawn_is (Asks (Storing (Register number) v) code) x site low high left h = cc
spawn_is (Asks (Storing (Outer o d n) v) code) x site low high left h = cc
spawn_is (Asks (Storing (Private o d n) v) code) x site low high left h = cc
spawn_is (Asks (Adding (Word place) v) code) x site low high left h = cc
spawn_is (Asks (Adding (Register number) v) code) x site low high left h = cc
spawn_is (Asks (Adding (Outer o d n) v) code) x site low high left h = cc
spawn_is (Asks (Adding (Private o d n) v) code) x site low high left h = cc
spawn_is (Asks (Printing text) code) x site low high left h = cc
spawn_is (Asks Joining code) x site low high left h = cc
spawn_is (Asks Ending code) x site low high left h = cc
spawn_is (Asks (Spawning site' low' high' block) code) x site low high left h =
    let same : action.Spawn site' low' high' ≡ action.Spawn site low high = cc in
    let same_site : site' ≡ site = cc in
    let same_low : low' ≡ low = cc in
    let same_high : high' ≡ high = cc in
    (block, code, ap (λ n. Asks (Spawning n low' high' block) code) same_site ∙ ap (λ n. Asks (Spawning site n high' block) code) same_low ∙ ap (λ n. Asks (Spawning site low n block) code) same_high)

module _ (program : Program) (t : ℕ) (x : Actor) (site low high number : ℕ) (part : Log) where
  -- what the serial code is about to do where it is about to spawn this
  spawn_next : (n : Next (Option Code) (Unit {0})) (done : List Action) → actions_of part ++ (action.Spawn site low high ∷ []) ≡ done ++ spawn_of n → IsSpawned n number → (done ≡ actions_of part) × (block : ℕ → Code) × (code : ℕ → Option Code) × (n ≡ Asks (Spawning site low high block) code)
  spawn_next (Is result) done h spawned = absurd spawned
  spawn_next (Traps kind line) done h spawned = absurd spawned
  spawn_next (Asks Quietly code) done h spawned = absurd spawned
  spawn_next (Asks (Loading cell) code) done h spawned = absurd spawned
  spawn_next (Asks (Storing cell v) code) done h spawned = absurd spawned
  spawn_next (Asks (Adding cell v) code) done h spawned = absurd spawned
  spawn_next (Asks (Printing text) code) done h spawned = absurd spawned
  spawn_next (Asks Joining code) done h spawned = absurd spawned
  spawn_next (Asks Ending code) done h spawned = absurd spawned
  spawn_next (Asks (Spawning site' low' high' block) code) done h spawned =
      let both : (actions_of part ≡ done) × (action.Spawn site low high ≡ action.Spawn site' low' high') = snoc_same (actions_of part) done (action.Spawn site low high) (action.Spawn site' low' high') h in
      let same : action.Spawn site low high ≡ action.Spawn site' low' high' = both.1 in
      let same_site : site' ≡ site = cc in
      let same_low : low' ≡ low = cc in
      let same_high : high' ≡ high = cc in
      (sym both.0, block, code, ap (λ n. Asks (Spawning n low' high' block) code) same_site ∙ ap (λ n. Asks (Spawning site n high' block) code) same_low ∙ ap (λ n. Asks (Spawning site low n block) code) same_high)

  -- a thread of this spawn begins with the block's code and what the serial code's cells hold
  block_begins : Begins program t (Block (actions_of part ++ (action.Spawn site low high ∷ [])) (replies_of part) number) x → ArePlain part → (n : ℕ) (s : Actor) (block : ℕ → Code) (code : ℕ → Option Code) → Does (move program 0) n (main_actor program) part s → next_of_actor program 0 s ≡ Asks (Spawning site low high block) code → x ≡ record { code = Some (block t); number = number; store = s.store }
  block_begins (steps, done, serial, blk, run, is_before, spawned, is_block, is_x) plain n s block code does at =
      let found : (done ≡ actions_of part) × (block : ℕ → Code) × (code : ℕ → Option Code) × (serial_next program serial ≡ Asks (Spawning site low high block) code) = spawn_next (serial_next program serial) done is_before spawned in
      let does' : Does (move program 0) steps (main_actor program) part (actor_of 0 serial) = run_is_done program 0 0 serial steps (main_of program (replies_of part)) done part run found.0 refl plain in
      let same : s ≡ actor_of 0 serial =
      does_same (move program 0) n steps (main_actor program) s (actor_of 0 serial) part (action.Spawn site low high) (action.Spawn site low high)
      (λ reply. actor_after s (Spawning site low high block) (code reply)) (λ reply. actor_after (actor_of 0 serial) (Spawning site low high found.1) (found.2 reply))
      does (ap (move_of s) at) does' (ap (move_of (actor_of 0 serial)) found.3) in
      let serial_at : serial_next program serial ≡ Asks (Spawning site low high block) code = sym (ap (next_of_actor program 0) same) ∙ at in
      let is_here : ◌≡◌ {A = Option (Local (Option Code))} (Some (record { code = Some (block t); store = serial.store; replies = [] })) (Some blk) = sym (ap (λ n. block_of n t serial.store []) serial_at) ∙ is_block in
      let is_blk : ◌≡◌ {A = Local (Option Code)} (record { code = Some (block t); store = serial.store; replies = [] }) blk = cc in
      is_x ∙ sym (ap (actor_of number) is_blk) ∙ ap (λ a. record { code = Some (block t); number = number; store = a.store }) (sym same)

-- ---- all entries

module _ (program : Program) (log0 : Log) (start : ℕ → Start) (starts : AreStarts log0 start) (keep : ThreadsKeep program)
    (first : ℕ → Actor) (count : ℕ) (begins : (t : ℕ) → t < count → Begins program t (start t) (first t)) where
  -- how the serial code has come here
  pub record Serial (done : Log) (s : Actor) : Type 0 where
    pub steps : ℕ
    pub does : Does (move program 0) steps (main_actor program) (part_of 0 done) s
    pub plain : ArePlain (part_of 0 done)

  made : (e : Entry Action) (done log : Log) (w : World) (states : ℕ → Actor) → log0 ≡ done ++ (e ∷ log) → w.threads ≡ count_behind 1 done → IsLawful w (e ∷ log) → 0 < w.threads → (after_log w (e ∷ log)).threads ≤ count → ((t : ℕ) → w.threads ≤ t → states t ≡ first t) → Serial done (states 0) →
      (k : ℕ) (s : Actor) (left : ℕ → Actor) → Does (move program e.actor) k (states e.actor) [] s → move program e.actor s ≡ Acts e.action left → Made program w (with_state states e.actor s) e
  made e done log w states is_log so_many lawful positive fits fresh serial k s left quiet at =
      subst (λ a. IsMade program w (with_state states e.actor s) a.store (next_of_actor program e.actor a)) (sym (with_state-same states e.actor s))
      (by_next (next_of_actor program e.actor s) refl)
    where
      spawned : (site low high : ℕ) (block : ℕ → Code) (code : ℕ → Option Code) → next_of_actor program e.actor s ≡ Asks (Spawning site low high block) code → e.actor ≡ 0 → e.action ≡ action.Spawn site low high → IsMade program w (with_state states e.actor s) s.store (Asks (Spawning site low high block) code)
      spawned site low high block code next zero_e is_spawn j less =
          let t : ℕ = w.threads + j in
          let grown : (after_entry w e).threads ≤ count = omega (arith, threads_grow_all log (after_entry w e), fits) in
          let there : (after_action w e.actor (action.Spawn site low high)).threads ≤ count = subst (λ x. (after_action w e.actor x).threads ≤ count) is_spawn grown in
          let counted : w.threads + j < count = omega (arith, there, less) in
          let entry : e ≡ record { actor = 0; action = action.Spawn site low high; reply = e.reply } = λ i. record { actor = zero_e i; action = is_spawn i; reply = e.reply } in
          let split : log0 ≡ done ++ (record { actor = 0; action = action.Spawn site low high; reply = e.reply } ∷ log) = is_log ∙ ap (λ x. done ++ (x ∷ log)) entry in
          let begin : start (w.threads + j) ≡ Block (actions_of (part_of 0 done) ++ (action.Spawn site low high ∷ [])) (replies_of (part_of 0 done)) ((low + j) % 2 ^ 32) =
          ap (λ n. start (n + j)) so_many ∙ starts.virtual done log site low high e.reply j split less in
          let quiet_0 : Does (move program 0) k (states 0) [] s = subst (λ u. Does (move program u) k (states u) [] s) zero_e quiet in
          let next_0 : next_of_actor program 0 s ≡ Asks (Spawning site low high block) code = subst (λ u. next_of_actor program u s ≡ Asks (Spawning site low high block) code) zero_e next in
          let does : Does (move program 0) (serial.steps + k) (main_actor program) (part_of 0 done) s =
          subst (λ part. Does (move program 0) (serial.steps + k) (main_actor program) part s) (append-nil (part_of 0 done))
          (does_append (move program 0) serial.steps k (main_actor program) (states 0) s (part_of 0 done) [] serial.does quiet_0) in
          let is_first : first (w.threads + j) ≡ record { code = Some (block (w.threads + j)); number = (low + j) % 2 ^ 32; store = s.store } =
          block_begins program (w.threads + j) (first (w.threads + j)) site low high ((low + j) % 2 ^ 32) (part_of 0 done)
          (subst (λ b. Begins program (w.threads + j) b (first (w.threads + j))) begin (begins (w.threads + j) counted)) serial.plain (serial.steps + k) s block code does next_0 in
          let there_e : e.actor < w.threads = lawful.0.0.0 in
          let is_made : with_state states e.actor s (w.threads + j) ≡ record { code = Some (block (w.threads + j)); number = (low + j) % 2 ^ 32; store = s.store } =
          with_state-other states e.actor (w.threads + j) s (other_of_less e.actor (w.threads + j) (omega (arith, there_e))) ∙ fresh (w.threads + j) (omega arith) ∙ is_first in
          let keeps : Keeps program (w.threads + j) (record { code = Some (block (w.threads + j)); number = (low + j) % 2 ^ 32; store = s.store }) =
          subst (λ n. BlockKeeps program s.store n) next_0 (keep.virtual (serial.steps + k) (part_of 0 done) s does) (w.threads + j) ((low + j) % 2 ^ 32) (omega (arith, positive)) in
          (is_made, subst (λ a. Keeps program (w.threads + j) a) (sym is_made) keeps)

      by_ask : (a : Ask) (code : ℕ → Option Code) → next_of_actor program e.actor s ≡ Asks a code → IsMade program w (with_state states e.actor s) s.store (Asks a code)
      by_ask Quietly code next = tt
      by_ask (Loading cell) code next = tt
      by_ask (Storing cell v) code next = tt
      by_ask (Adding cell v) code next = tt
      by_ask (Printing text) code next = tt
      by_ask Joining code next = tt
      by_ask Ending code next = tt
      by_ask (Spawning site low high block) code next =
          let acts : ◌≡◌ {A = Move Actor Action} (Acts (action.Spawn site low high) (λ reply. actor_after s (Spawning site low high block) (code reply))) (Acts e.action left) = sym (ap (move_of s) next) ∙ at in
          let is_spawn : e.action ≡ action.Spawn site low high = cc in
          spawned site low high block code next (subst (λ x. IsLogged e.actor x) is_spawn lawful.0.2) is_spawn

      by_next : (n : Next (Option Code) (Unit {0})) → next_of_actor program e.actor s ≡ n → IsMade program w (with_state states e.actor s) s.store n
      by_next (Is result) next = tt
      by_next (Traps kind line) next = tt
      by_next (Asks a code) next = by_ask a code next

  serial_on : (e : Entry Action) (done log : Log) (w : World) (states : ℕ → Actor) → IsLawful w (e ∷ log) → Serial done (states 0) →
      (k : ℕ) (s : Actor) (left : ℕ → Actor) → Does (move program e.actor) k (states e.actor) [] s → move program e.actor s ≡ Acts e.action left → Serial (done ++ (e ∷ [])) (with_state states e.actor (left e.reply) 0)
  serial_on e done log w states lawful serial k s left quiet at = by_test (e.actor == 0) refl
    where
      by_test : (b : Bool) → (e.actor == 0) ≡ b → Serial (done ++ (e ∷ [])) (with_state states e.actor (left e.reply) 0)
      by_test true is_zero =
          let zero_e : e.actor ≡ 0 = equal_of e.actor 0 is_zero in
          let quiet_0 : Does (move program 0) k (states 0) [] s = subst (λ u. Does (move program u) k (states u) [] s) zero_e quiet in
          let at_0 : move program 0 s ≡ Acts e.action left = subst (λ u. move program u s ≡ Acts e.action left) zero_e at in
          let part : part_of 0 (done ++ (e ∷ [])) ≡ part_of 0 done ++ (e ∷ []) =
          part_of-append 0 done (e ∷ []) ∙ ap (λ b. part_of 0 done ++ (if b then e ∷ [] else [])) (let same : (0 == e.actor) ≡ true = grind (arith, zero_e) in same) in
          let more : Does (move program 0) (suc k + 0) (states 0) (e ∷ []) (left e.reply) = does_over (move program 0) k 0 (states 0) s e left [] (left e.reply) quiet_0 at_0 (refl, refl) in
          let is_left : with_state states e.actor (left e.reply) 0 ≡ left e.reply = ap (λ u. with_state states u (left e.reply) 0) zero_e ∙ with_state-same states 0 (left e.reply) in
          record {
            steps = serial.steps + (suc k + 0);
            does = subst (λ p. Does (move program 0) (serial.steps + (suc k + 0)) (main_actor program) p (with_state states e.actor (left e.reply) 0)) (sym part)
                (subst (λ a. Does (move program 0) (serial.steps + (suc k + 0)) (main_actor program) (part_of 0 done ++ (e ∷ [])) a) (sym is_left)
                (does_append (move program 0) serial.steps (suc k + 0) (main_actor program) (states 0) (left e.reply) (part_of 0 done) (e ∷ []) serial.does more));
            plain = subst ArePlain (sym part) (plain-append (part_of 0 done) (e ∷ []) serial.plain (reply_plain w e.action e.reply lawful.0.1, lawful.0.2, tt));
          }
      by_test false not_zero =
          let part : part_of 0 (done ++ (e ∷ [])) ≡ part_of 0 done =
          part_of-append 0 done (e ∷ []) ∙ ap (λ b. part_of 0 done ++ (if b then e ∷ [] else [])) (other_comm e.actor 0 not_zero) ∙ append-nil (part_of 0 done) in
          record {
            steps = serial.steps;
            does = subst (λ p. Does (move program 0) serial.steps (main_actor program) p (with_state states e.actor (left e.reply) 0)) (sym part)
                (subst (λ a. Does (move program 0) serial.steps (main_actor program) (part_of 0 done) a) (sym (with_state-other states e.actor 0 (left e.reply) not_zero)) serial.does);
            plain = subst ArePlain (sym part) serial.plain;
          }

  pub prepared : (log done : Log) (w : World) (states : ℕ → Actor) → log0 ≡ done ++ log → w.threads ≡ count_behind 1 done → IsLawful w log → 0 < w.threads → (after_log w log).threads ≤ count → ((t : ℕ) → w.threads ≤ t → states t ≡ first t) → Serial done (states 0) → IsPrepared (move program) after_entry (Made program) w states log
  prepared [] done w states is_log so_many lawful positive fits fresh serial = tt
  prepared (e ∷ log) done w states is_log so_many lawful positive fits fresh serial = λ k s left quiet at. (
    made e done log w states is_log so_many lawful positive fits fresh serial k s left quiet at,
    prepared log (done ++ (e ∷ [])) (after_entry w e) (with_state states e.actor (left e.reply)) (is_log ∙ sym (append_assoc done (e ∷ []) log))
        (threads_counted w e.actor e.action ∙ ap (λ n. count_after n e.action) so_many ∙ sym (count_behind-append done (e ∷ []) 1)) lawful.1
        (let grows : w.threads ≤ (after_entry w e).threads = threads_grow w e.actor e.action in omega (arith, positive, grows)) fits
        (λ t more.
        let grows : w.threads ≤ (after_entry w e).threads = threads_grow w e.actor e.action in
        let there : e.actor < w.threads = lawful.0.0.0 in
        with_state-other states e.actor t (left e.reply) (other_of_less e.actor t (omega (arith, grows, more, there))) ∙ fresh t (omega (arith, grows, more)))
        (serial_on e done log w states lawful serial k s left quiet at),
  )
