-- The steps of the source are those of its actors: by themselves, and with the others.
use Rattle.std.proofs.Common.{◌≡◌, refl, sym, ◌∙◌, ap, subst, ℕ, suc, zero, ◌+◌, ◌%◌, ◌^◌, ◌<◌, ◌==◌, ◌⊎◌, inl, inr, Bool, true, false, if◌then◌else◌, IsTrue, [], ◌∷◌, ◌++◌, length, arith, Option, Some, is_none, append-nil, slice_get}
use Rattle.std.proofs.lemmas.Option.{slice_get_within}
use Rattle.xmt_base.specs.Action.{Shared, Action}
use Rattle.xmt_base.specs.Action as action
use Rattle.source_meaning.specs.declared.tree.Program.{Program}
use Rattle.source_meaning.specs.Store.{Cell, Word, Register, Outer, Private}
use Rattle.source_meaning.specs.Term.{Code}
use Rattle.source_meaning.specs.Next.{Ask, Quietly, Loading, Storing, Adding, Printing, Spawning, Joining, Ending, Next, Is, Asks, Traps}
use Rattle.xmt_base.specs.Operators.{count_between}
use Rattle.source_meaning.specs.Run.{Thread, Configuration, can_step, waits_for, may_go, reply, store_after, text_of, outermost_of, new_threads, after_answer, step}
use Rattle.source_meaning.specs.Trace.{action_of}
use Rattle.interleaving.specs.Actors.{Move, Rests, Alone, Acts, Does, DoesThen, with_state}
use Rattle.source_log.specs.Log.{World, MayGo, after_action, reply_in, cells_with}
use Rattle.source_log.specs.Threads.{Actor, next_of_actor, actor_after, own_reply, move_by, move_of, move, MayAsk, is_ending, IsKept, Keeps, IsMade}
use Rattle.source_log.specs.Standing.{cell_at, outermost_for, parent_for, thread_of, StandsFor}
use Rattle.source_log.proofs.Cells.{length-threads_from, slice_get-threads_from, written_alike, private_written, none_awaited}
use Rattle.source_log.proofs.Steps.{NewThreads, is_answer, is_taken, any_step, no_threads, equal_of, some_of_asks}

-- what a move is
abbrev state_in : {S A : Type 0} → S → Move S A → S
state_in default Rests = default
state_in default (Alone s) = s
state_in default (Acts a f) = default

abbrev action_in : {S A : Type 0} → A → Move S A → A
action_in default Rests = default
action_in default (Alone s) = default
action_in default (Acts a f) = a

abbrev left_in : {S A : Type 0} → (ℕ → S) → Move S A → ℕ → S
left_in default Rests = default
left_in default (Alone s) = default
left_in default (Acts a f) = f

-- the serial code, and a virtual thread that has ended, is waited for by none
pub none_waits : (p : Program) (c : Configuration) (w : World) (actors : ℕ → Actor) → StandsFor p c w actors → (t u : ℕ) (x : Thread) → (0 < u → u < w.threads → w.ended u ≡ true) → slice_get c.threads u ≡ Some x → waits_for t x ≡ false
none_waits p c w actors stands t u x over there =
    let less : u < w.threads = subst (λ n. u < n) stands.count (slice_get_within c.threads u x there) in
    let same : Some (thread_of u (actors u)) ≡ Some x = sym (stands.threads u less) ∙ there in
    let is_x : thread_of u (actors u) ≡ x = cc in
    subst (λ y. waits_for t y ≡ false) is_x (by_number u less (λ positive. over positive less))
  where
    by_end : (b : Bool) → is_none (actors 0).code ≡ b → waits_for t (thread_of 0 (actors 0)) ≡ false
    by_end true e = rw e refl
    by_end false e = rw e refl

    by_number : (v : ℕ) → v < w.threads → (0 < v → w.ended v ≡ true) → waits_for t (thread_of v (actors v)) ≡ false
    by_number zero less ended = by_end (is_none (actors 0).code) refl
    by_number (suc v) less ended =
        let is_over : is_none (actors (suc v)).code ≡ true = stands.ended (suc v) less ∙ ended (omega arith) in
        rw is_over refl

module _ (p : Program) (c : Configuration) (w : World) (actors : ℕ → Actor) (t : ℕ) (stands : StandsFor p c w actors) (go : MayGo w t) where
  kept_next : IsKept t (next_of_actor p t (actors t))
  kept_next = stands.kept t go.0 0 [] (actors t) (refl, refl)

  lives : (a : Ask) (left : ℕ → Option Code) → next_of_actor p t (actors t) ≡ Asks a left → w.ended t ≡ false
  lives a left next = sym (stands.ended t go.0) ∙ some_of_asks p t (actors t).number (actors t).code a left next

  -- what has ended stays so, and nothing else ends
  none_ends : (a : Ask) → w.ended t ≡ false → is_ending a ≡ false → (u : ℕ) → w.ended u ≡ (if t == u then is_ending a else w.ended u)
  none_ends a live not_end u = by_test (t == u) refl
    where
      by_test : (b : Bool) → (t == u) ≡ b → w.ended u ≡ (if b then is_ending a else w.ended u)
      by_test true e = sym (ap w.ended (equal_of t u e)) ∙ live ∙ sym not_end
      by_test false e = refl

  -- a step that makes no thread
  step_of : (new : World) (a : Ask) (left : ℕ → Option Code) (r : ℕ) → next_of_actor p t (actors t) ≡ Asks a left → may_go t c.threads a ≡ true → MayAsk t a → ((r : ℕ) → is_none (left r) ≡ is_ending a) → reply c a ≡ r →
      Keeps p t (actor_after (actors t) a (left r)) → new_threads t (thread_of t (actors t)).outermost (length c.threads) a ≡ [] → new.threads ≡ w.threads → new.printed ≡ w.printed ++ text_of a →
      ((place : Shared) → store_after c.store a (cell_at place) ≡ new.cells place) → ((u : ℕ) → new.ended u ≡ (if t == u then is_ending a else w.ended u)) →
      IsTrue (can_step p c t) × StandsFor p (step p c t) new (with_state actors t (actor_after (actors t) a (left r)))
  step_of new a left r next goes may ends told keeps none threads printed cells has_ended =
      let keeps_here : Keeps p t (actor_after (actors t) a (left (reply c a))) = subst (λ n. Keeps p t (actor_after (actors t) a (left n))) (sym told) keeps in
      let same_threads : new.threads ≡ w.threads + 0 = omega (arith, threads) in (
        is_taken p c w new actors t a left stands go.0 next goes go.1 may ends keeps_here,
        subst (λ d. StandsFor p d new (with_state actors t (actor_after (actors t) a (left r)))) (sym (is_answer p c w new actors t a left stands go.0 next goes go.1 may ends keeps_here))
            (subst (λ n. StandsFor p (after_answer c t (thread_of t (actors t)) a left) new (with_state actors t (actor_after (actors t) a (left n)))) told
            (any_step p c w new actors t a left stands go.0 next goes go.1 may ends keeps_here 0 (no_threads p c w new actors t a left stands go.0 next goes go.1 may ends keeps_here none) same_threads printed cells has_ended)),
      )

  -- ---- a step that nobody else sees

  module _ (s : Actor) (does : move p t (actors t) ≡ Alone s) where
    keeps_alone : Keeps p t s
    keeps_alone n part end h =
        stands.kept t go.0 (suc n) part end (subst (λ m. DoesThen (Does (move p t) n) m part end) (sym does) h)

    quiet_step : (a : Ask) (left : ℕ → Option Code) → next_of_actor p t (actors t) ≡ Asks a left → actor_after (actors t) a (left (own_reply (actors t).store a)) ≡ s → may_go t c.threads a ≡ true → MayAsk t a → ((r : ℕ) → is_none (left r) ≡ is_ending a) → is_ending a ≡ false →
        reply c a ≡ own_reply (actors t).store a → new_threads t (thread_of t (actors t)).outermost (length c.threads) a ≡ [] → text_of a ≡ [] → ((place : Shared) → store_after c.store a (cell_at place) ≡ c.store (cell_at place)) →
        IsTrue (can_step p c t) × StandsFor p (step p c t) w (with_state actors t s)
    quiet_step a left next is_s goes may ends not_end told none silent cells =
        subst (λ x. IsTrue (can_step p c t) × StandsFor p (step p c t) w (with_state actors t x)) is_s
        (step_of w a left (own_reply (actors t).store a) next goes may ends told (subst (λ x. Keeps p t x) (sym is_s) keeps_alone) none refl
        (sym (ap (λ text. w.printed ++ text) silent ∙ append-nil w.printed)) (λ place. cells place ∙ stands.cells place) (none_ends a (lives a left next) not_end))

    -- what is read of a private cell
    own_cell : (owner depth slot : ℕ) → w.ended t ≡ false → (owner ≡ t) ⊎ (owner ≡ 0) → c.store (Private owner depth slot) ≡ (actors t).store (Private owner depth slot)
    own_cell owner depth slot live (inl e) = subst (λ o. c.store (Private o depth slot) ≡ (actors t).store (Private o depth slot)) (sym e) (stands.private t depth slot go.0)
    own_cell owner depth slot live (inr e) = subst (λ o. c.store (Private o depth slot) ≡ (actors t).store (Private o depth slot)) (sym e) (stands.outer t depth slot go.0 live)

    has_joined : t ≡ 0 → may_go t c.threads Joining ≡ true
    has_joined zero_t = none_awaited c.threads t (λ u x there. none_waits p c w actors stands t u x (go.1 zero_t u) there)

    by_ask : (a : Ask) (left : ℕ → Option Code) → next_of_actor p t (actors t) ≡ Asks a left → move_by (actors t) a left (action_of a) ≡ Alone s → MayAsk t a → ((r : ℕ) → is_none (left r) ≡ is_ending a) → IsTrue (can_step p c t) × StandsFor p (step p c t) w (with_state actors t s)
    by_ask Quietly left next h may ends = quiet_step Quietly left next (ap (state_in s) h) refl may ends refl refl refl refl (λ place. refl)
    by_ask (Loading (Word place)) left next h may ends = cc
    by_ask (Loading (Register number)) left next h may ends = cc
    by_ask (Loading (Outer o d n)) left next h may ends = cc
    by_ask (Loading (Private o d n)) left next h may ends = quiet_step (Loading (Private o d n)) left next (ap (state_in s) h) refl may ends refl (own_cell o d n (lives (Loading (Private o d n)) left next) may) refl refl (λ place. refl)
    by_ask (Storing (Word place) v) left next h may ends = cc
    by_ask (Storing (Register number) v) left next h may ends = cc
    by_ask (Storing (Outer o d n) v) left next h may ends = cc
    by_ask (Storing (Private o d n) v) left next h may ends = quiet_step (Storing (Private o d n) v) left next (ap (state_in s) h) refl may ends refl refl refl refl (λ place. private_written c.store o d n v place)
    by_ask (Adding (Word place) v) left next h may ends = cc
    by_ask (Adding (Register number) v) left next h may ends = cc
    by_ask (Adding (Outer o d n) v) left next h may ends = cc
    by_ask (Adding (Private o d n) v) left next h may ends = quiet_step (Adding (Private o d n) v) left next (ap (state_in s) h) refl may ends refl (own_cell o d n (lives (Adding (Private o d n) v) left next) (inl may)) refl refl (λ place. private_written c.store o d n _ place)
    by_ask (Printing text) left next h may ends = cc
    by_ask (Spawning site low high block) left next h may ends = cc
    by_ask Joining left next h may ends = quiet_step Joining left next (ap (state_in s) h) (has_joined may) may ends refl refl refl refl (λ place. refl)
    by_ask Ending left next h may ends = cc

    by_next : (n : Next (Option Code) (Unit {0})) → next_of_actor p t (actors t) ≡ n → move_of (actors t) n ≡ Alone s → IsKept t n → IsTrue (can_step p c t) × StandsFor p (step p c t) w (with_state actors t s)
    by_next (Is result) next h kept = cc
    by_next (Traps kind line) next h kept = cc
    by_next (Asks a left) next h kept = by_ask a left next h kept.0 kept.1

    pub alone_step : IsTrue (can_step p c t) × StandsFor p (step p c t) w (with_state actors t s)
    alone_step = by_next (next_of_actor p t (actors t)) refl does kept_next

  -- ---- a step that others see

  module _ (act : Action) (r : ℕ) (left' : ℕ → Actor) (does : move p t (actors t) ≡ Acts act left') (told_r : r ≡ reply_in w act) (made : IsMade p w actors (actors t).store (next_of_actor p t (actors t))) where
    keeps_seen : Keeps p t (left' r)
    keeps_seen n part end h =
        stands.kept t go.0 (suc n) (record { actor = t; action = act; reply = r } ∷ part) end (subst (λ m. DoesThen (Does (move p t) n) m (record { actor = t; action = act; reply = r } ∷ part) end) (sym does) (refl, h))

    abbrev Seen : Action → Type 0
    Seen x = IsTrue (can_step p c t) × StandsFor p (step p c t) (after_action w t x) (with_state actors t (left' r))

    seen_step : (g : Action) (a : Ask) (left : ℕ → Option Code) → next_of_actor p t (actors t) ≡ Asks a left → ◌≡◌ {A = Move Actor Action} (Acts g (λ reply. actor_after (actors t) a (left reply))) (Acts act left') → may_go t c.threads a ≡ true → MayAsk t a → ((r : ℕ) → is_none (left r) ≡ is_ending a) →
        reply c a ≡ reply_in w g → new_threads t (thread_of t (actors t)).outermost (length c.threads) a ≡ [] → (after_action w t g).threads ≡ w.threads → (after_action w t g).printed ≡ w.printed ++ text_of a →
        ((place : Shared) → store_after c.store a (cell_at place) ≡ (after_action w t g).cells place) → ((u : ℕ) → (after_action w t g).ended u ≡ (if t == u then is_ending a else w.ended u)) → Seen act
    seen_step g a left next h goes may ends told none threads printed cells has_ended =
        let is_act : g ≡ act = ap (action_in act) h in
        let is_left : actor_after (actors t) a (left r) ≡ left' r = ap (λ f. f r) (ap (left_in left') h) in
        let is_told : reply c a ≡ r = told ∙ ap (reply_in w) is_act ∙ sym told_r in
        subst Seen is_act
        (subst (λ x. IsTrue (can_step p c t) × StandsFor p (step p c t) (after_action w t g) (with_state actors t x)) is_left
        (step_of (after_action w t g) a left r next goes may ends is_told (subst (λ x. Keeps p t x) (sym is_left) keeps_seen) none threads printed cells has_ended))

    -- a load, a store and an add, at a cell that is that of a place
    loads : (place : Shared) (cell : Cell) (left : ℕ → Option Code) → cell ≡ cell_at place → next_of_actor p t (actors t) ≡ Asks (Loading cell) left → ◌≡◌ {A = Move Actor Action} (Acts (action.Load place) (λ reply. actor_after (actors t) (Loading cell) (left reply))) (Acts act left') → MayAsk t (Loading cell) → ((r : ℕ) → is_none (left r) ≡ false) → Seen act
    loads place cell left is_cell next h may ends =
        seen_step (action.Load place) (Loading cell) left next h refl may ends (ap c.store is_cell ∙ stands.cells place) refl refl (sym (append-nil w.printed)) stands.cells (none_ends (Loading cell) (lives (Loading cell) left next) refl)

    stores : (place : Shared) (cell : Cell) (v : ℕ) (left : ℕ → Option Code) → cell ≡ cell_at place → next_of_actor p t (actors t) ≡ Asks (Storing cell v) left → ◌≡◌ {A = Move Actor Action} (Acts (action.Store place v) (λ reply. actor_after (actors t) (Storing cell v) (left reply))) (Acts act left') → MayAsk t (Storing cell v) → ((r : ℕ) → is_none (left r) ≡ false) → Seen act
    stores place cell v left is_cell next h may ends =
        seen_step (action.Store place v) (Storing cell v) left next h refl may ends refl refl refl (sym (append-nil w.printed))
        (λ other. ap (λ x. store_after c.store (Storing x v) (cell_at other)) is_cell ∙ written_alike c.store w.cells place v stands.cells other) (none_ends (Storing cell v) (lives (Storing cell v) left next) refl)

    adds : (place : Shared) (cell : Cell) (v : ℕ) (left : ℕ → Option Code) → cell ≡ cell_at place → next_of_actor p t (actors t) ≡ Asks (Adding cell v) left → ◌≡◌ {A = Move Actor Action} (Acts (action.Add place v) (λ reply. actor_after (actors t) (Adding cell v) (left reply))) (Acts act left') → MayAsk t (Adding cell v) → ((r : ℕ) → is_none (left r) ≡ false) → Seen act
    adds place cell v left is_cell next h may ends =
        seen_step (action.Add place v) (Adding cell v) left next h refl may ends (ap c.store is_cell ∙ stands.cells place) refl refl (sym (append-nil w.printed))
        (λ other. ap (λ x. store_after c.store (Adding x v) (cell_at other)) is_cell ∙ written_alike c.store w.cells place ((c.store (cell_at place) + v) % 2 ^ 32) stands.cells other ∙
        ap (λ n. cells_with w.cells place ((n + v) % 2 ^ 32) other) (stands.cells place)) (none_ends (Adding cell v) (lives (Adding cell v) left next) refl)

    outermost_positive : (m n : ℕ) → 0 < m → outermost_for m n ≡ Some n
    outermost_positive zero n less = absurd (grind (arith, less))
    outermost_positive (suc m) n less = refl

    parent_positive : (m : ℕ) → 0 < m → parent_for m ≡ Some 0
    parent_positive zero less = absurd (grind (arith, less))
    parent_positive (suc m) less = refl

    spawns : (site low high : ℕ) (block : ℕ → Code) (left : ℕ → Option Code) → next_of_actor p t (actors t) ≡ Asks (Spawning site low high block) left → ◌≡◌ {A = Move Actor Action} (Acts (action.Spawn site low high) (λ reply. actor_after (actors t) (Spawning site low high block) (left reply))) (Acts act left') → t ≡ 0 → ((r : ℕ) → is_none (left r) ≡ false) → Seen act
    spawns site low high block left next h zero_t ends =
        subst Seen is_act
        (subst (λ x. IsTrue (can_step p c t) × StandsFor p (step p c t) (after_action w t (action.Spawn site low high)) (with_state actors t x)) is_left (
          is_taken p c w (after_action w t (action.Spawn site low high)) actors t (Spawning site low high block) left stands go.0 next refl go.1 zero_t ends keeps_here,
          subst (λ d. StandsFor p d (after_action w t (action.Spawn site low high)) (with_state actors t (actor_after (actors t) (Spawning site low high block) (left r)))) (sym (is_answer p c w (after_action w t (action.Spawn site low high)) actors t (Spawning site low high block) left stands go.0 next refl go.1 zero_t ends keeps_here))
              (subst (λ n. StandsFor p (after_answer c t (thread_of t (actors t)) (Spawning site low high block) left) (after_action w t (action.Spawn site low high)) (with_state actors t (actor_after (actors t) (Spawning site low high block) (left n)))) is_told
              (any_step p c w (after_action w t (action.Spawn site low high)) actors t (Spawning site low high block) left stands go.0 next refl go.1 zero_t ends keeps_here (count_between low high) news refl (sym (append-nil w.printed)) stands.cells (none_ends (Spawning site low high block) (lives (Spawning site low high block) left next) refl))),
        ))
      where
        is_act : action.Spawn site low high ≡ act
        is_act = ap (action_in act) h

        is_left : actor_after (actors t) (Spawning site low high block) (left r) ≡ left' r
        is_left = ap (λ f. f r) (ap (left_in left') h)

        is_told : reply c (Spawning site low high block) ≡ r
        is_told = ap (reply_in w) is_act ∙ sym told_r

        keeps_here : Keeps p t (actor_after (actors t) (Spawning site low high block) (left (reply c (Spawning site low high block))))
        keeps_here = subst (λ n. Keeps p t (actor_after (actors t) (Spawning site low high block) (left n))) (sym is_told) (subst (λ x. Keeps p t x) (sym is_left) keeps_seen)

        all_made : (k : ℕ) → k < count_between low high → (actors (w.threads + k) ≡ record { code = Some (block (w.threads + k)); number = (low + k) % 2 ^ 32; store = (actors t).store }) × Keeps p (w.threads + k) (actors (w.threads + k))
        all_made = subst (λ n. IsMade p w actors (actors t).store n) next made

        made_here : (k : ℕ) → k < count_between low high → actors (w.threads + k) ≡ record { code = Some (block (w.threads + k)); number = (low + k) % 2 ^ 32; store = (actors t).store }
        made_here k less = (all_made k less).0

        thread_made : (k : ℕ) → k < count_between low high → slice_get (new_threads t (thread_of t (actors t)).outermost (length c.threads) (Spawning site low high block)) k ≡ Some (thread_of (w.threads + k) (actors (w.threads + k)))
        thread_made k less =
            let number : ℕ = (low + k) % 2 ^ 32 in
            slice_get-threads_from t (outermost_for t (actors t).number) block (length c.threads) low (count_between low high) k less ∙
            ap (λ n. Some (record { code = Some (block (n + k)); number = (low + k) % 2 ^ 32; outermost = outermost_of (outermost_for t (actors t).number) ((low + k) % 2 ^ 32); parent = Some t })) stands.count ∙
            ap (λ u. Some (record { code = Some (block (w.threads + k)); number = (low + k) % 2 ^ 32; outermost = outermost_of (outermost_for u (actors t).number) ((low + k) % 2 ^ 32); parent = Some u })) zero_t ∙
            ap (λ o. Some (record { code = Some (block (w.threads + k)); number = (low + k) % 2 ^ 32; outermost = o; parent = Some 0 })) (sym (outermost_positive (w.threads + k) ((low + k) % 2 ^ 32) (let positive : 0 < w.threads = stands.positive in omega (arith, positive)))) ∙
            ap (λ o. Some (record { code = Some (block (w.threads + k)); number = (low + k) % 2 ^ 32; outermost = outermost_for (w.threads + k) ((low + k) % 2 ^ 32); parent = o })) (sym (parent_positive (w.threads + k) (let positive : 0 < w.threads = stands.positive in omega (arith, positive)))) ∙
            ap (λ x. Some (thread_of (w.threads + k) x)) (sym (made_here k less))

        news : NewThreads p c w (after_action w t (action.Spawn site low high)) actors t (Spawning site low high block) left stands go.0 next refl go.1 zero_t ends keeps_here (count_between low high)
        news =
            record {
              count = length-threads_from t (outermost_for t (actors t).number) block (length c.threads) low (count_between low high);
              threads = thread_made;
              live = λ k less. ap (λ x. is_none x.code) (made_here k less);
              stores = λ k d s owner less. ap (λ x. x.store (Private owner d s)) (made_here k less) ∙ ap (λ u. (actors u).store (Private owner d s)) zero_t;
              store = λ k d s owner less. refl;
              kept = λ k less. (all_made k less).1;
            }

    seen_by_ask : (a : Ask) (left : ℕ → Option Code) → next_of_actor p t (actors t) ≡ Asks a left → move_by (actors t) a left (action_of a) ≡ Acts act left' → MayAsk t a → ((r : ℕ) → is_none (left r) ≡ is_ending a) → Seen act
    seen_by_ask Quietly left next h may ends = cc
    seen_by_ask (Loading (Word place)) left next h may ends = loads (action.Word place) (Word place) left refl next h may ends
    seen_by_ask (Loading (Register number)) left next h may ends = loads (action.Register number) (Register number) left refl next h may ends
    seen_by_ask (Loading (Outer o d n)) left next h may ends = loads (action.Outer d n) (Outer o d n) left (ap (λ x. Outer x d n) may) next h may ends
    seen_by_ask (Loading (Private o d n)) left next h may ends = cc
    seen_by_ask (Storing (Word place) v) left next h may ends = stores (action.Word place) (Word place) v left refl next h may ends
    seen_by_ask (Storing (Register number) v) left next h may ends = stores (action.Register number) (Register number) v left refl next h may ends
    seen_by_ask (Storing (Outer o d n) v) left next h may ends = stores (action.Outer d n) (Outer o d n) v left (ap (λ x. Outer x d n) may) next h may ends
    seen_by_ask (Storing (Private o d n) v) left next h may ends = cc
    seen_by_ask (Adding (Word place) v) left next h may ends = adds (action.Word place) (Word place) v left refl next h may ends
    seen_by_ask (Adding (Register number) v) left next h may ends = adds (action.Register number) (Register number) v left refl next h may ends
    seen_by_ask (Adding (Outer o d n) v) left next h may ends = adds (action.Outer d n) (Outer o d n) v left (ap (λ x. Outer x d n) may) next h may ends
    seen_by_ask (Adding (Private o d n) v) left next h may ends = cc
    seen_by_ask (Printing text) left next h may ends =
        seen_step (action.Print text) (Printing text) left next h refl may ends refl refl refl refl stands.cells (none_ends (Printing text) (lives (Printing text) left next) refl)
    seen_by_ask (Spawning site low high block) left next h may ends = spawns site low high block left next h may ends
    seen_by_ask Joining left next h may ends = cc
    seen_by_ask Ending left next h may ends =
        seen_step action.Ended Ending left next h refl may ends refl refl refl (sym (append-nil w.printed)) stands.cells (λ u. refl)

    seen_by_next : (n : Next (Option Code) (Unit {0})) → next_of_actor p t (actors t) ≡ n → move_of (actors t) n ≡ Acts act left' → IsKept t n → Seen act
    seen_by_next (Is result) next h kept = cc
    seen_by_next (Traps kind line) next h kept = cc
    seen_by_next (Asks a left) next h kept = seen_by_ask a left next h kept.0 kept.1

    pub act_step : IsTrue (can_step p c t) × StandsFor p (step p c t) (after_action w t act) (with_state actors t (left' r))
    act_step = seen_by_next (next_of_actor p t (actors t)) refl does kept_next
