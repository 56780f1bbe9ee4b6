-- One step of a thread, in the configuration and for the world and the actors that it stands for.
use Rattle.std.proofs.Common.{◌≡◌, refl, sym, ◌∙◌, ap, subst, ℕ, ◌+◌, ◌-◌, ◌<◌, ◌≤◌, nat_lt, ◌==◌, Bool, true, false, if◌then◌else◌, IsTrue, List, [], ◌++◌, length, set, arith, Option, Some, None, is_none, slice_get, length-set, length-append}
use Rattle.xmt_base.specs.Action.{Shared}
use Rattle.source_meaning.specs.declared.tree.Program.{Program}
use Rattle.source_meaning.specs.Store.{Private}
use Rattle.source_meaning.specs.Term.{Code}
use Rattle.source_meaning.specs.Next.{Ask, Asks}
use Rattle.source_meaning.specs.Run.{Thread, Configuration, next_of_rest, can_step, has_ended, may_go, reply, store_after, text_of, new_threads, after_answer, step}
use Rattle.source_meaning.proofs.Commute.{step_is}
use Rattle.interleaving.specs.Actors.{with_state}
use Rattle.interleaving.proofs.Interleave.{with_state-same, with_state-other}
use Rattle.source_log.specs.Log.{World, AllEnded}
use Rattle.source_log.specs.Threads.{Actor, next_of_actor, actor_after, MayAsk, is_ending, Keeps}
use Rattle.source_log.specs.Standing.{cell_at, thread_of, StandsFor}
use Rattle.source_log.proofs.Cells.{untouched, same_after, slice_get-set_same, slice_get-set_other, slice_get-first, slice_get-second}

-- ---- numbers

pub equal_of : (t u : ℕ) → (t == u) ≡ true → t ≡ u
equal_of t u h = grind (arith, h)

pub other_of_less : (t u : ℕ) → t < u → (t == u) ≡ false
other_of_less t u less = grind (arith, less)

pub other_comm : (t u : ℕ) → (t == u) ≡ false → (u == t) ≡ false
other_comm t u h = grind (arith, h)

other_of_zero : (t : ℕ) → (t == 0) ≡ false → (0 == t) ≡ false
other_of_zero t h = other_comm t 0 h

pub positive_of : (t : ℕ) → (0 == t) ≡ false → 0 < t
positive_of t h = grind (arith, h)

pub true-false : {X : Type 0} (b : Bool) → b ≡ true → b ≡ false → X
true-false b e f = cc

-- ---- what a step does

pub some_of_asks : (program : Program) (t number : ℕ) (code : Option Code) (a : Ask) (left : ℕ → Option Code) → next_of_rest program t number code ≡ Asks a left → is_none code ≡ false
some_of_asks program t number None a left next = cc
some_of_asks program t number (Some code) a left next = refl

pub can_step_is : (p : Program) (c : Configuration) (t : ℕ) (thread : Thread) (a : Ask) (left : ℕ → Option Code) → slice_get c.threads t ≡ Some thread → next_of_rest p t thread.number thread.code ≡ Asks a left → may_go t c.threads a ≡ true → IsTrue (can_step p c t)
can_step_is p c t thread a left there next goes = rw there (rw next goes)

module _ (p : Program) (c : Configuration) (w new : World) (actors : ℕ → Actor) (t : ℕ) (a : Ask) (left : ℕ → Option Code)
    (stands : StandsFor p c w actors) (there : t < w.threads) (next : next_of_actor p t (actors t) ≡ Asks a left)
    (goes : may_go t c.threads a ≡ true) (ready : t ≡ 0 → AllEnded w) (may : MayAsk t a)
    (ends : (r : ℕ) → is_none (left r) ≡ is_ending a)
    (keeps : Keeps p t (actor_after (actors t) a (left (reply c a)))) where
  after : Actor
  after = actor_after (actors t) a (left (reply c a))

  live : w.ended t ≡ false
  live = sym (stands.ended t there) ∙ some_of_asks p t (actors t).number (actors t).code a left next

  pub is_answer : step p c t ≡ after_answer c t (thread_of t (actors t)) a left
  is_answer = step_is p c t (thread_of t (actors t)) a left (stands.threads t there) next goes

  pub is_taken : IsTrue (can_step p c t)
  is_taken = can_step_is p c t (thread_of t (actors t)) a left (stands.threads t there) next goes

  own_thread : (u : ℕ) → u < w.threads → (b : Bool) → (t == u) ≡ b → slice_get (set c.threads t (record (thread_of t (actors t)) { code = left (reply c a) })) u ≡ Some (thread_of u (with_state actors t after u))
  unfolding after
  own_thread u less true e =
      subst (λ v. slice_get (set c.threads t (record (thread_of t (actors t)) { code = left (reply c a) })) v ≡ Some (thread_of v (with_state actors t after v))) (equal_of t u e)
      (slice_get-set_same c.threads t (record (thread_of t (actors t)) { code = left (reply c a) }) (thread_of t (actors t)) (stands.threads t there) ∙
      ap (λ x. Some (thread_of t x)) (sym (with_state-same actors t after)))
  own_thread u less false e =
      slice_get-set_other c.threads t u (record (thread_of t (actors t)) { code = left (reply c a) }) e ∙ stands.threads u less ∙
      ap (λ x. Some (thread_of u x)) (sym (with_state-other actors t u after e))

  ended_after : (has_ended : (u : ℕ) → new.ended u ≡ (if t == u then is_ending a else w.ended u)) (u : ℕ) → u < w.threads → (b : Bool) → (t == u) ≡ b → is_none (with_state actors t after u).code ≡ new.ended u
  unfolding after
  ended_after has_ended u less true e =
      ap (λ x. is_none x.code) (ap (λ v. with_state actors t after v) (sym (equal_of t u e)) ∙ with_state-same actors t after) ∙ ends (reply c a) ∙ sym (has_ended u ∙ ap (λ b. if b then is_ending a else w.ended u) e)
  ended_after has_ended u less false e =
      ap (λ x. is_none x.code) (with_state-other actors t u after e) ∙ stands.ended u less ∙ sym (has_ended u ∙ ap (λ b. if b then is_ending a else w.ended u) e)

  private_after : (u depth slot : ℕ) → u < w.threads → (b : Bool) → (t == u) ≡ b → store_after c.store a (Private u depth slot) ≡ (with_state actors t after u).store (Private u depth slot)
  unfolding after
  private_after u depth slot less true e =
      subst (λ v. store_after c.store a (Private v depth slot) ≡ (with_state actors t after v).store (Private v depth slot)) (equal_of t u e)
      (same_after c.store (actors t).store a t depth slot may (λ d s. stands.private t d s there) ∙ ap (λ x. x.store (Private t depth slot)) (sym (with_state-same actors t after)))
  private_after u depth slot less false e =
      untouched c.store a t u depth slot may e ∙ stands.private u depth slot less ∙ ap (λ x. x.store (Private u depth slot)) (sym (with_state-other actors t u after e))

  outer_after : (u depth slot : ℕ) → u < w.threads → w.ended u ≡ false → (first : Bool) → (t == 0) ≡ first → (b : Bool) → (t == u) ≡ b → store_after c.store a (Private 0 depth slot) ≡ (with_state actors t after u).store (Private 0 depth slot)
  unfolding after
  outer_after u depth slot less lives true serial true e =
      let same : t ≡ u = equal_of t u e in
      let zero_t : t ≡ 0 = equal_of t 0 serial in
      subst (λ v. store_after c.store a (Private v depth slot) ≡ (with_state actors t after u).store (Private v depth slot)) (sym same ∙ zero_t) (private_after u depth slot less true e)
  outer_after u depth slot less lives true serial false e =
      let zero_t : t ≡ 0 = equal_of t 0 serial in
      let differ : (0 == u) ≡ false = subst (λ v. (v == u) ≡ false) zero_t e in
      true-false (w.ended u) (ready zero_t u (positive_of u differ) less) lives
  outer_after u depth slot less lives false virtual true e =
      untouched c.store a t 0 depth slot may virtual ∙ stands.outer t depth slot there live ∙ sym (untouched (actors t).store a t 0 depth slot may virtual) ∙
      ap (λ x. x.store (Private 0 depth slot)) (sym (with_state-same actors t after) ∙ ap (with_state actors t after) (equal_of t u e))
  outer_after u depth slot less lives false virtual false e =
      untouched c.store a t 0 depth slot may virtual ∙ stands.outer u depth slot less lives ∙ ap (λ x. x.store (Private 0 depth slot)) (sym (with_state-other actors t u after e))

  fresh_after : (u depth slot : ℕ) → w.threads ≤ u → (first : Bool) → (t == 0) ≡ first → store_after c.store a (Private u depth slot) ≡ (with_state actors t after 0).store (Private u depth slot)
  unfolding after
  fresh_after u depth slot more true serial =
      let zero_t : t ≡ 0 = equal_of t 0 serial in
      let differ : (t == u) ≡ false = other_of_less t u (omega (arith, there, more)) in
      untouched c.store a t u depth slot may differ ∙ stands.fresh u depth slot more ∙
      sym (ap (λ v. (actors v).store (Private u depth slot)) zero_t) ∙
      sym (untouched (actors t).store a t u depth slot may differ) ∙
      ap (λ x. x.store (Private u depth slot)) (sym (with_state-same actors t after) ∙ ap (with_state actors t after) zero_t)
  fresh_after u depth slot more false virtual =
      let differ : (t == u) ≡ false = other_of_less t u (omega (arith, there, more)) in
      untouched c.store a t u depth slot may differ ∙ stands.fresh u depth slot more ∙ ap (λ x. x.store (Private u depth slot)) (sym (with_state-other actors t 0 after virtual))

  kept_after : (u : ℕ) → u < w.threads → (b : Bool) → (t == u) ≡ b → Keeps p u (with_state actors t after u)
  unfolding after
  kept_after u less true e = subst (λ v. Keeps p v (with_state actors t after v)) (equal_of t u e) (subst (λ x. Keeps p t x) (sym (with_state-same actors t after)) keeps)
  kept_after u less false e = subst (λ x. Keeps p u x) (sym (with_state-other actors t u after e)) (stands.kept u less)

  none_ended_after : (has_ended : (u : ℕ) → new.ended u ≡ (if t == u then is_ending a else w.ended u)) (u : ℕ) → w.threads ≤ u → new.ended u ≡ false
  none_ended_after has_ended u more =
      let differ : (t == u) ≡ false = other_of_less t u (omega (arith, there, more)) in
      has_ended u ∙ ap (λ b. if b then is_ending a else w.ended u) differ ∙ stands.none_ended u more

  still_live : (has_ended : (u : ℕ) → new.ended u ≡ (if t == u then is_ending a else w.ended u)) (u : ℕ) → new.ended u ≡ false → (b : Bool) → (t == u) ≡ b → w.ended u ≡ false
  still_live has_ended u lives true e = subst (λ v. w.ended v ≡ false) (equal_of t u e) live
  still_live has_ended u lives false e = sym (has_ended u ∙ ap (λ b. if b then is_ending a else w.ended u) e) ∙ lives

  -- what is said of the new threads of a step
  pub record NewThreads (added : ℕ) : Type 0 where
    pub count : length (new_threads t (thread_of t (actors t)).outermost (length c.threads) a) ≡ added
    pub threads : (k : ℕ) → k < added → slice_get (new_threads t (thread_of t (actors t)).outermost (length c.threads) a) k ≡ Some (thread_of (w.threads + k) (actors (w.threads + k)))
    pub live : (k : ℕ) → k < added → is_none (actors (w.threads + k)).code ≡ false
    pub stores : (k depth slot owner : ℕ) → k < added → (actors (w.threads + k)).store (Private owner depth slot) ≡ (actors 0).store (Private owner depth slot)
    pub store : (k depth slot owner : ℕ) → k < added → store_after c.store a (Private owner depth slot) ≡ c.store (Private owner depth slot)
    pub kept : (k : ℕ) → k < added → Keeps p (w.threads + k) (actors (w.threads + k))

  late : (added : ℕ) (P : ℕ → Type 0) → ((k : ℕ) → k < added → P (w.threads + k)) → (u : ℕ) → u < w.threads + added → w.threads ≤ u → P u
  late added P each u less more =
      let same : w.threads + (u - w.threads) ≡ u = omega (arith, more) in
      subst P same (each (u - w.threads) (omega (arith, less, more)))

  by_place : (P : ℕ → Type 0) (u : ℕ) → (u < w.threads → P u) → (w.threads ≤ u → P u) → (b : Bool) → nat_lt u w.threads ≡ b → P u
  by_place P u early later true e = early (grind (arith, e))
  by_place P u early later false e = later (grind (arith, e))

  late_other : (k : ℕ) → (t == w.threads + k) ≡ false
  late_other k = other_of_less t (w.threads + k) (omega (arith, there))

  late_actor : (k : ℕ) → with_state actors t after (w.threads + k) ≡ actors (w.threads + k)
  late_actor k = with_state-other actors t (w.threads + k) after (late_other k)

  late_ended : (has_ended : (u : ℕ) → new.ended u ≡ (if t == u then is_ending a else w.ended u)) (k : ℕ) → new.ended (w.threads + k) ≡ false
  late_ended has_ended k = none_ended_after has_ended (w.threads + k) (omega arith)

  pub any_step : (added : ℕ) → NewThreads added → (threads : new.threads ≡ w.threads + added) (printed : new.printed ≡ w.printed ++ text_of a)
      (cells : (place : Shared) → store_after c.store a (cell_at place) ≡ new.cells place) (has_ended : (u : ℕ) → new.ended u ≡ (if t == u then is_ending a else w.ended u)) →
      StandsFor p (after_answer c t (thread_of t (actors t)) a left) new (with_state actors t (actor_after (actors t) a (left (reply c a))))
  unfolding after
  any_step added news threads printed cells has_ended =
      let there_of : (u : ℕ) → u < new.threads → u < w.threads + added = λ u less. subst (λ n. u < n) threads less in
      let more_of : (u : ℕ) → new.threads ≤ u → w.threads ≤ u = λ u more. omega (arith, threads, more) in
      let changed : Thread = record (thread_of t (actors t)) { code = left (reply c a) } in
      let list : List Thread = set c.threads t changed in
      let more : List Thread = new_threads t (thread_of t (actors t)).outermost (length c.threads) a in
      let listed : length list ≡ w.threads = length-set c.threads t changed ∙ stands.count in
      let counted : length more ≡ added = news.count in
      record {
        count = length-append list more ∙ omega (arith, listed, counted, threads);
        positive = let positive : 0 < w.threads = stands.positive in omega (arith, threads, positive);
        threads = λ u less. by_place (λ v. slice_get (list ++ more) v ≡ Some (thread_of v (with_state actors t after v))) u
            (λ early. slice_get-first list more u (thread_of u (with_state actors t after u)) (own_thread u early (t == u) refl))
            (late added (λ v. slice_get (list ++ more) v ≡ Some (thread_of v (with_state actors t after v)))
            (λ k small. slice_get-second list more w.threads k listed ∙ news.threads k small ∙ ap (λ x. Some (thread_of (w.threads + k) x)) (sym (late_actor k))) u (there_of u less))
            (nat_lt u w.threads) refl;
        cells = cells;
        output = ap (λ o. o ++ text_of a) stands.output ∙ sym printed;
        ended = λ u less. by_place (λ v. is_none (with_state actors t after v).code ≡ new.ended v) u
            (λ early. ended_after has_ended u early (t == u) refl)
            (late added (λ v. is_none (with_state actors t after v).code ≡ new.ended v)
            (λ k small. ap (λ x. is_none x.code) (late_actor k) ∙ news.live k small ∙ sym (late_ended has_ended k)) u (there_of u less))
            (nat_lt u w.threads) refl;
        none_ended = λ u more. none_ended_after has_ended u (more_of u more);
        private = λ u d s less. by_place (λ v. store_after c.store a (Private v d s) ≡ (with_state actors t after v).store (Private v d s)) u
            (λ early. private_after u d s early (t == u) refl)
            (late added (λ v. store_after c.store a (Private v d s) ≡ (with_state actors t after v).store (Private v d s))
            (λ k small. news.store k d s (w.threads + k) small ∙ stands.fresh (w.threads + k) d s (omega arith) ∙ sym (news.stores k d s (w.threads + k) small) ∙ ap (λ x. x.store (Private (w.threads + k) d s)) (sym (late_actor k))) u (there_of u less))
            (nat_lt u w.threads) refl;
        outer = λ u d s less lives. by_place (λ v. store_after c.store a (Private 0 d s) ≡ (with_state actors t after v).store (Private 0 d s)) u
            (λ early. outer_after u d s early (still_live has_ended u lives (t == u) refl) (t == 0) refl (t == u) refl)
            (late added (λ v. store_after c.store a (Private 0 d s) ≡ (with_state actors t after v).store (Private 0 d s))
            (λ k small. news.store k d s 0 small ∙ stands.private 0 d s stands.positive ∙ sym (news.stores k d s 0 small) ∙ ap (λ x. x.store (Private 0 d s)) (sym (late_actor k))) u (there_of u less))
            (nat_lt u w.threads) refl;
        fresh = λ u d s more. fresh_after u d s (more_of u more) (t == 0) refl;
        kept = λ u less. by_place (λ v. Keeps p v (with_state actors t after v)) u
            (λ early. kept_after u early (t == u) refl)
            (late added (λ v. Keeps p v (with_state actors t after v))
            (λ k small. subst (λ x. Keeps p (w.threads + k) x) (sym (late_actor k)) (news.kept k small)) u (there_of u less))
            (nat_lt u w.threads) refl;
      }

  -- a step that makes no threads
  pub no_threads : new_threads t (thread_of t (actors t)).outermost (length c.threads) a ≡ [] → NewThreads 0
  no_threads none =
      record {
        count = ap length none;
        threads = λ k less. absurd (grind (arith, less));
        live = λ k less. absurd (grind (arith, less));
        stores = λ k d s owner less. absurd (grind (arith, less));
        store = λ k d s owner less. absurd (grind (arith, less));
        kept = λ k less. absurd (grind (arith, less));
      }
