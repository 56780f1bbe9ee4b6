-- Steps of different threads on different cells commute.
use Rattle.std.proofs.Common.{unwrap_or, ◌≡◌, ◌≢◌, refl, sym, ◌∙◌, ap, subst, ℕ, suc, zero, ◌+◌, ◌%◌, ◌^◌, ◌<◌, Bool, true, false, not, ◌&&◌, List, [], ◌∷◌, ◌++◌, length, set, arith, Option, Some, None, is_none, append-nil, slice_get}
use Rattle.std.specs.List.{list_all}
use Rattle.std.proofs.lemmas.List.{length-set, set_comm, set-append_left}
use Rattle.std.proofs.lemmas.Option.{slice_get_within}
use mathlib.Core.Path.{fun_ext}
use Rattle.source_meaning.specs.declared.tree.Program.{Program}
use Rattle.source_meaning.specs.Store.{Cell, Word, Register, Outer, Private, same_cell, Store, store_with}
use Rattle.source_meaning.specs.Term.{Code}
use Rattle.source_meaning.specs.Next.{Ask, Quietly, Loading, Storing, Adding, Printing, Spawning, Joining, Ending, Next, Is, Asks, Traps}
use Rattle.source_meaning.specs.Run.{Thread, Configuration, next_of_rest, has_ended, is_child, waits_for, may_go, reply, store_after, text_of, new_threads, after_answer, next_of_thread, can_step, step}
use Rattle.source_meaning.specs.Apart.{cell_of, is_of_store, are_apart}
use Rattle.source_meaning.specs.Laws.{ask_in, Commute, StepsCommute}

-- ---- cells

pub same_cell-eq : (x y : Cell) → same_cell x y ≡ true → x ≡ y
same_cell-eq (Word a) (Word b) h = ap Word (grind (arith, h))
same_cell-eq (Register a) (Register b) h = ap Register (grind (arith, h))
same_cell-eq (Outer t d n) (Outer u e m) h = grind (arith, h)
same_cell-eq (Private t d n) (Private u e m) h = grind (arith, h)
same_cell-eq (Word a) (Register b) h = cc
same_cell-eq (Word a) (Outer u e m) h = cc
same_cell-eq (Word a) (Private u e m) h = cc
same_cell-eq (Register a) (Word b) h = cc
same_cell-eq (Register a) (Outer u e m) h = cc
same_cell-eq (Register a) (Private u e m) h = cc
same_cell-eq (Outer t d n) (Word b) h = cc
same_cell-eq (Outer t d n) (Register b) h = cc
same_cell-eq (Outer t d n) (Private u e m) h = cc
same_cell-eq (Private t d n) (Word b) h = cc
same_cell-eq (Private t d n) (Register b) h = cc
same_cell-eq (Private t d n) (Outer u e m) h = cc

pub same_cell-refl : (x : Cell) → same_cell x x ≡ true
same_cell-refl (Word a) = grind arith
same_cell-refl (Register a) = grind arith
same_cell-refl (Outer t d n) = grind arith
same_cell-refl (Private t d n) = grind arith

-- cells that differ differ in either order
pub same_cell_comm : (x y : Cell) → same_cell x y ≡ false → same_cell y x ≡ false
same_cell_comm x y h = grind (arith, same_cell-eq, same_cell-refl, h)

pub store_with_comm : (store : Store) (x y : Cell) (v w : ℕ) → same_cell x y ≡ false → store_with (store_with store x v) y w ≡ store_with (store_with store y w) x v
store_with_comm store x y v w apart = fun_ext (λ cell. grind (arith, same_cell-eq, same_cell-refl, apart))

pub store_with_other : (store : Store) (x y : Cell) (v : ℕ) → same_cell x y ≡ false → store_with store x v y ≡ store y
store_with_other store x y v apart = rw apart refl

-- ---- the store

-- a step leaves each other cell as it is
pub store_after_other : (store : Store) (a : Ask) (y : Cell) → are_apart (cell_of a) (Some y) ≡ true → store_after store a y ≡ store y
store_after_other store Quietly y apart = refl
store_after_other store Ending y apart = refl
store_after_other store (Loading x) y apart = refl
store_after_other store (Storing x v) y apart = store_with_other store x y v (grind (arith, apart))
store_after_other store (Adding x v) y apart = store_with_other store x y _ (grind (arith, apart))
store_after_other store (Printing text) y apart = refl
store_after_other store (Spawning site low high block) y apart = refl
store_after_other store Joining y apart = refl

pub store_after_comm : (store : Store) (a b : Ask) → are_apart (cell_of a) (cell_of b) ≡ true → store_after (store_after store a) b ≡ store_after (store_after store b) a
store_after_comm store Quietly b apart = refl
store_after_comm store Ending b apart = refl
store_after_comm store (Loading x) b apart = refl
store_after_comm store (Printing text) b apart = refl
store_after_comm store (Spawning site low high block) b apart = refl
store_after_comm store Joining b apart = refl
store_after_comm store (Storing x v) Quietly apart = refl
store_after_comm store (Storing x v) Ending apart = refl
store_after_comm store (Storing x v) (Loading y) apart = refl
store_after_comm store (Storing x v) (Printing text) apart = refl
store_after_comm store (Storing x v) (Spawning site low high block) apart = refl
store_after_comm store (Storing x v) Joining apart = refl
store_after_comm store (Storing x v) (Storing y w) apart = store_with_comm store x y v w (grind (arith, apart))
store_after_comm store (Storing x v) (Adding y w) apart =
    let differ : same_cell x y ≡ false = grind (arith, apart) in
    ap (λ n. store_with (store_with store x v) y ((n + w) % 2 ^ 32)) (store_with_other store x y v differ) ∙ store_with_comm store x y v ((store y + w) % 2 ^ 32) differ
store_after_comm store (Adding x v) Quietly apart = refl
store_after_comm store (Adding x v) Ending apart = refl
store_after_comm store (Adding x v) (Loading y) apart = refl
store_after_comm store (Adding x v) (Printing text) apart = refl
store_after_comm store (Adding x v) (Spawning site low high block) apart = refl
store_after_comm store (Adding x v) Joining apart = refl
store_after_comm store (Adding x v) (Storing y w) apart =
    let differ : same_cell x y ≡ false = grind (arith, apart) in
    store_with_comm store x y ((store x + v) % 2 ^ 32) w differ ∙ sym (ap (λ n. store_with (store_with store y w) x ((n + v) % 2 ^ 32)) (store_with_other store y x w (same_cell_comm x y differ)))
store_after_comm store (Adding x v) (Adding y w) apart =
    let differ : same_cell x y ≡ false = grind (arith, apart) in
    ap (λ n. store_with (store_with store x ((store x + v) % 2 ^ 32)) y ((n + w) % 2 ^ 32)) (store_with_other store x y ((store x + v) % 2 ^ 32) differ) ∙
    store_with_comm store x y ((store x + v) % 2 ^ 32) ((store y + w) % 2 ^ 32) differ ∙
    sym (ap (λ n. store_with (store_with store y ((store y + w) % 2 ^ 32)) x ((n + v) % 2 ^ 32)) (store_with_other store y x ((store y + w) % 2 ^ 32) (same_cell_comm x y differ)))

-- ---- truth values

and_left : (a b : Bool) → (a && b) ≡ true → a ≡ true
and_left true b h = refl
and_left false b h = h

and_right : (a b : Bool) → (a && b) ≡ true → b ≡ true
and_right true b h = h
and_right false b h = cc

not_true : (b : Bool) → not b ≡ true → b ≡ false
not_true true h = sym h
not_true false h = refl

-- ---- lists of threads

pub slice_get-set_other : {X : Type 0} (xs : List X) (t u : ℕ) (x : X) → t ≢ u → slice_get (set xs t x) u ≡ slice_get xs u
slice_get-set_other [] t u x differ = refl
slice_get-set_other (y ∷ xs) zero zero x differ = absurd (differ refl)
slice_get-set_other (y ∷ xs) zero (suc u) x differ = refl
slice_get-set_other (y ∷ xs) (suc t) zero x differ = refl
slice_get-set_other (y ∷ xs) (suc t) (suc u) x differ = slice_get-set_other xs t u x (λ e. differ (ap suc e))

pub slice_get-append : {X : Type 0} (xs ys : List X) (u : ℕ) (x : X) → slice_get xs u ≡ Some x → slice_get (xs ++ ys) u ≡ Some x
slice_get-append [] ys u x there = cc
slice_get-append (y ∷ xs) ys zero x there = there
slice_get-append (y ∷ xs) ys (suc u) x there = slice_get-append xs ys u x there

-- what is not waited for while it lives is a child of another, and so it stays
waits_for_none : (u : ℕ) (old new : Thread) → new.parent ≡ old.parent → has_ended old ≡ false → waits_for u old ≡ false → waits_for u new ≡ false
waits_for_none u old new parent live waits =
    let no_child : is_child u old.parent ≡ false = sym (rw live refl) ∙ waits in
    by_end (has_ended new) refl (ap (is_child u) parent ∙ no_child)
  where
    by_end : (b : Bool) → has_ended new ≡ b → is_child u new.parent ≡ false → waits_for u new ≡ false
    by_end true is no_child = rw is refl
    by_end false is no_child = rw is no_child

-- a thread that has not ended is none that is waited for, and what it becomes is none either
pub waiting-set : (threads : List Thread) (u t : ℕ) (old new : Thread) → new.parent ≡ old.parent → slice_get threads t ≡ Some old → has_ended old ≡ false → list_all (λ thread. not (waits_for u thread)) threads ≡ true → list_all (λ thread. not (waits_for u thread)) (set threads t new) ≡ true
waiting-set [] u t old new parent there live ended = cc
waiting-set (x ∷ threads) u zero old new parent there live ended =
    let same : x ≡ old = cc in
    let rest : list_all (λ thread. not (waits_for u thread)) threads ≡ true = and_right (not (waits_for u x)) _ ended in
    let first : waits_for u old ≡ false = subst (λ y. waits_for u y ≡ false) same (not_true (waits_for u x) (and_left (not (waits_for u x)) _ ended)) in
    rw (waits_for_none u old new parent live first, rest) refl
waiting-set (x ∷ threads) u (suc t) old new parent there live ended =
    let rest : list_all (λ thread. not (waits_for u thread)) threads ≡ true = and_right (not (waits_for u x)) _ ended in
    let first : not (waits_for u x) ≡ true = and_left (not (waits_for u x)) _ ended in
    let later : list_all (λ thread. not (waits_for u thread)) (set threads t new) ≡ true = waiting-set threads u t old new parent there live rest in
    rw (first, later) refl

-- ---- steps

pub same_configuration : {s s' : Store} {ts ts' : List Thread} {o o' : List ℕ} → s ≡ s' → ts ≡ ts' → o ≡ o' → ◌≡◌ {A = Configuration} (record { store = s; threads = ts; output = o }) (record { store = s'; threads = ts'; output = o' })
same_configuration p q r = λ i. record { store = p i; threads = q i; output = r i }

-- a step of a thread whose code asks something that may go
pub step_is : (p : Program) (c : Configuration) (t : ℕ) (thread : Thread) (a : Ask) (f : ℕ → Option Code) → slice_get c.threads t ≡ Some thread → next_of_rest p t thread.number thread.code ≡ Asks a f → may_go t c.threads a ≡ true → step p c t ≡ after_answer c t thread a f
step_is p c t thread a f there next goes = rw there (rw next (rw goes refl))

pub asks_live : (p : Program) (t number : ℕ) (code : Option Code) (a : Ask) (f : ℕ → Option Code) → next_of_rest p t number code ≡ Asks a f → is_none code ≡ false
asks_live p t number None a f next = cc
asks_live p t number (Some code) a f next = refl

of_store_adds_none : (a : Ask) (t : ℕ) (outermost : Option ℕ) (first : ℕ) → is_of_store a ≡ true → new_threads t outermost first a ≡ []
of_store_adds_none Quietly t outermost first h = refl
of_store_adds_none Ending t outermost first h = refl
of_store_adds_none (Loading x) t outermost first h = refl
of_store_adds_none (Storing x v) t outermost first h = refl
of_store_adds_none (Adding x v) t outermost first h = refl
of_store_adds_none (Printing text) t outermost first h = cc
of_store_adds_none (Spawning site low high block) t outermost first h = cc
of_store_adds_none Joining t outermost first h = cc

pub of_store_goes : (a : Ask) (t : ℕ) (threads : List Thread) → is_of_store a ≡ true → may_go t threads a ≡ true
of_store_goes Quietly t threads h = refl
of_store_goes Ending t threads h = refl
of_store_goes (Loading x) t threads h = refl
of_store_goes (Storing x v) t threads h = refl
of_store_goes (Adding x v) t threads h = refl
of_store_goes (Printing text) t threads h = cc
of_store_goes (Spawning site low high block) t threads h = cc
of_store_goes Joining t threads h = cc

of_store_prints_none : (a : Ask) → is_of_store a ≡ true → text_of a ≡ []
of_store_prints_none Quietly h = refl
of_store_prints_none Ending h = refl
of_store_prints_none (Loading x) h = refl
of_store_prints_none (Storing x v) h = refl
of_store_prints_none (Adding x v) h = refl
of_store_prints_none (Printing text) h = cc
of_store_prints_none (Spawning site low high block) h = cc
of_store_prints_none Joining h = cc

pub still_goes : (threads : List Thread) (u t : ℕ) (old new : Thread) (b : Ask) → new.parent ≡ old.parent → slice_get threads t ≡ Some old → has_ended old ≡ false → may_go u threads b ≡ true → may_go u (set threads t new) b ≡ true
still_goes threads u t old new Quietly parent there live goes = refl
still_goes threads u t old new Ending parent there live goes = refl
still_goes threads u t old new (Loading x) parent there live goes = refl
still_goes threads u t old new (Storing x v) parent there live goes = refl
still_goes threads u t old new (Adding x v) parent there live goes = refl
still_goes threads u t old new (Printing text) parent there live goes = refl
still_goes threads u t old new (Spawning site low high block) parent there live goes = refl
still_goes threads u t old new Joining parent there live goes = waiting-set threads u t old new parent there live goes

-- an ask is answered as before, after a step elsewhere that touches the store at most
same_reply : (c d : Configuration) (a b : Ask) → d.store ≡ store_after c.store a → are_apart (cell_of a) (cell_of b) ≡ true → reply d b ≡ reply c b
same_reply c d a Quietly s apart = refl
same_reply c d a Ending s apart = refl
same_reply c d a (Loading y) s apart = ap (λ (store : Store). store y) s ∙ store_after_other c.store a y apart
same_reply c d a (Storing y w) s apart = refl
same_reply c d a (Adding y w) s apart = ap (λ (store : Store). store y) s ∙ store_after_other c.store a y apart
same_reply c d a (Printing text) s apart = refl
same_reply c d a (Spawning site low high block) s apart = refl
same_reply c d a Joining s apart = refl

-- the same for a step that may do more, of an ask that touches the store at most
same_reply_of_store : (c d : Configuration) (a b : Ask) → is_of_store a ≡ true → d.store ≡ store_after c.store b → are_apart (cell_of b) (cell_of a) ≡ true → reply d a ≡ reply c a
same_reply_of_store c d Quietly b of_store s apart = refl
same_reply_of_store c d Ending b of_store s apart = refl
same_reply_of_store c d (Loading x) b of_store s apart = ap (λ (store : Store). store x) s ∙ store_after_other c.store b x apart
same_reply_of_store c d (Storing x v) b of_store s apart = refl
same_reply_of_store c d (Adding x v) b of_store s apart = ap (λ (store : Store). store x) s ∙ store_after_other c.store b x apart
same_reply_of_store c d (Printing text) b of_store s apart = cc
same_reply_of_store c d (Spawning site low high block) b of_store s apart = cc
same_reply_of_store c d Joining b of_store s apart = cc

are_apart_comm : (a b : Ask) → are_apart (cell_of a) (cell_of b) ≡ true → are_apart (cell_of b) (cell_of a) ≡ true
are_apart_comm a b = swap (cell_of a) (cell_of b)
  where
    swap : (x y : Option Cell) → are_apart x y ≡ true → are_apart y x ≡ true
    swap None None h = refl
    swap None (Some y) h = refl
    swap (Some x) None h = refl
    swap (Some x) (Some y) h = let differ : same_cell x y ≡ false = grind (arith, h) in rw (same_cell_comm x y differ) refl

-- the configuration after an answer to an ask that touches the store at most
pub after_answer_of_store : (c : Configuration) (t : ℕ) (thread : Thread) (a : Ask) (f : ℕ → Option Code) → is_of_store a ≡ true → after_answer c t thread a f ≡ record { store = store_after c.store a; threads = set c.threads t (record thread { code = f (reply c a) }); output = c.output }
after_answer_of_store c t thread a f of_store =
    same_configuration refl
    (ap (λ more. set c.threads t (record thread { code = f (reply c a) }) ++ more) (of_store_adds_none a t thread.outermost (length c.threads) of_store) ∙ append-nil _)
    (ap (λ more. c.output ++ more) (of_store_prints_none a of_store) ∙ append-nil c.output)

-- A step that touches the store at most commutes with a step of another thread that does not touch its cell.
pub steps_commute : (p : Program) (c : Configuration) (t u : ℕ) (first second : Thread) (a b : Ask) (f g : ℕ → Option Code) → t ≢ u → slice_get c.threads t ≡ Some first → slice_get c.threads u ≡ Some second → next_of_rest p t first.number first.code ≡ Asks a f → next_of_rest p u second.number second.code ≡ Asks b g → is_of_store a ≡ true → may_go u c.threads b ≡ true → are_apart (cell_of a) (cell_of b) ≡ true → step p (step p c t) u ≡ step p (step p c u) t
steps_commute p c t u first second a b f g differ first_there second_there first_next second_next of_store goes apart =
    ap (λ d. step p d u) first_step ∙ second_after_first ∙ same_configuration (store_after_comm c.store a b apart) same_threads refl ∙ sym first_after_second ∙ sym (ap (λ d. step p d t) second_step)
  where
    new_first : Thread
    new_first = record first { code = f (reply c a) }

    new_second : Thread
    new_second = record second { code = g (reply c b) }

    after_first : Configuration
    after_first = record { store = store_after c.store a; threads = set c.threads t new_first; output = c.output }

    first_step : step p c t ≡ after_first
    first_step = step_is p c t first a f first_there first_next (of_store_goes a t c.threads of_store) ∙ after_answer_of_store c t first a f of_store

    second_step : step p c u ≡ after_answer c u second b g
    second_step = step_is p c u second b g second_there second_next goes

    second_after_first : step p after_first u ≡ after_answer after_first u second b g
    second_after_first =
        step_is p after_first u second b g (slice_get-set_other c.threads t u new_first differ ∙ second_there) second_next
        (still_goes c.threads u t first new_first b refl first_there (asks_live p t first.number first.code a f first_next) goes)

    first_after_second : step p (after_answer c u second b g) t ≡ record { store = store_after (store_after c.store b) a; threads = set (set c.threads u new_second ++ new_threads u second.outermost (length c.threads) b) t (record first { code = f (reply (after_answer c u second b g) a) }); output = c.output ++ text_of b }
    first_after_second =
        step_is p (after_answer c u second b g) t first a f
        (slice_get-append (set c.threads u new_second) (new_threads u second.outermost (length c.threads) b) t first (slice_get-set_other c.threads u t new_second (λ e. differ (sym e)) ∙ first_there))
        first_next (of_store_goes a t (set c.threads u new_second ++ new_threads u second.outermost (length c.threads) b) of_store) ∙
        after_answer_of_store (after_answer c u second b g) t first a f of_store

    second_told : reply after_first b ≡ reply c b
    second_told = same_reply c after_first a b refl apart

    first_told : reply (after_answer c u second b g) a ≡ reply c a
    first_told = same_reply_of_store c (after_answer c u second b g) a b of_store refl (are_apart_comm a b apart)

    more : List Thread
    more = new_threads u second.outermost (length c.threads) b

    same_threads : set (set c.threads t new_first) u (record second { code = g (reply after_first b) }) ++ new_threads u second.outermost (length (set c.threads t new_first)) b ≡ set (set c.threads u new_second ++ more) t (record first { code = f (reply (after_answer c u second b g) a) })
    same_threads =
        ap (λ n. set (set c.threads t new_first) u (record second { code = g n }) ++ new_threads u second.outermost (length (set c.threads t new_first)) b) second_told ∙
        ap (λ n. set (set c.threads t new_first) u new_second ++ new_threads u second.outermost n b) (length-set c.threads t new_first) ∙
        ap (λ ts. ts ++ more) (set_comm c.threads t u new_first new_second differ) ∙
        sym (set-append_left (set c.threads u new_second) more t new_first (subst (λ n. t < n) (sym (length-set c.threads u new_second)) (slice_get_within c.threads t first first_there))) ∙
        sym (ap (λ n. set (set c.threads u new_second ++ more) t (record first { code = f n })) first_told)

-- ---- the law, said of what threads ask

module _ (p : Program) (c : Configuration) (t u : ℕ) (differ : t ≢ u) where
  both_orders : (first second : Thread) (a b : Ask) (f g : ℕ → Option Code) → slice_get c.threads t ≡ Some first → slice_get c.threads u ≡ Some second → next_of_rest p t first.number first.code ≡ Asks a f → next_of_rest p u second.number second.code ≡ Asks b g → is_of_store a ≡ true → may_go u c.threads b ≡ true → are_apart (cell_of a) (cell_of b) ≡ true → Commute p c t u
  both_orders first second a b f g first_there second_there first_next second_next of_store goes apart = record {
    legal = (can_step_is c t first a f first_there first_next (of_store_goes a t c.threads of_store), (after_first, tt));
    turned = (can_step_is c u second b g second_there second_next goes, (after_second, tt));
    same = steps_commute p c t u first second a b f g differ first_there second_there first_next second_next of_store goes apart;
  }
    where
      can_step_is : (d : Configuration) (v : ℕ) (thread : Thread) (x : Ask) (h : ℕ → Option Code) → slice_get d.threads v ≡ Some thread → next_of_rest p v thread.number thread.code ≡ Asks x h → may_go v d.threads x ≡ true → can_step p d v ≡ true
      can_step_is d v thread x h there next may = rw there (rw next may)

      new_first : Thread
      new_first = record first { code = f (reply c a) }

      first_step : step p c t ≡ record { store = store_after c.store a; threads = set c.threads t new_first; output = c.output }
      first_step = step_is p c t first a f first_there first_next (of_store_goes a t c.threads of_store) ∙ after_answer_of_store c t first a f of_store

      after_first : can_step p (step p c t) u ≡ true
      after_first =
          ap (λ d. can_step p d u) first_step ∙
          can_step_is (record { store = store_after c.store a; threads = set c.threads t new_first; output = c.output }) u second b g
          (slice_get-set_other c.threads t u new_first differ ∙ second_there) second_next
          (still_goes c.threads u t first new_first b refl first_there (asks_live p t first.number first.code a f first_next) goes)

      after_second : can_step p (step p c u) t ≡ true
      after_second =
          ap (λ d. can_step p d t) (step_is p c u second b g second_there second_next goes) ∙
          can_step_is (after_answer c u second b g) t first a f
          (slice_get-append (set c.threads u (record second { code = g (reply c b) })) (new_threads u second.outermost (length c.threads) b) t first (slice_get-set_other c.threads u t (record second { code = g (reply c b) }) (λ e. differ (sym e)) ∙ first_there))
          first_next (of_store_goes a t (after_answer c u second b g).threads of_store)

none_is_some : {X : Type 0} {x : X} → None ≡ Some x → ⊥
none_is_some h = cc

-- a thread that asks is there, and its code asks
asks_there : {Goal : Type 0} (p : Program) (t : ℕ) (there : Option Thread) (a : Ask) → ask_in (next_of_thread p t there) ≡ Some a → ((thread : Thread) (f : ℕ → Option Code) → there ≡ Some thread → next_of_rest p t thread.number thread.code ≡ Asks a f → Goal) → Goal
asks_there {Goal} p t None a asks go = absurd (none_is_some asks)
asks_there {Goal} p t (Some thread) a asks go = by_next (next_of_rest p t thread.number thread.code) refl asks
  where
    by_next : (n : Next (Option Code) (Unit {0})) → next_of_rest p t thread.number thread.code ≡ n → ask_in n ≡ Some a → Goal
    by_next (Is result) is h = absurd (none_is_some h)
    by_next (Traps kind line) is h = absurd (none_is_some h)
    by_next (Asks b f) is h = let same : b ≡ a = ap (λ o. unwrap_or o a) h in go thread f refl (is ∙ ap (λ x. Asks x f) same)

pub steps_commute_in_runs : StepsCommute
steps_commute_in_runs p c t u a b differ first_asks second_asks second_can of_store apart =
    asks_there p t (slice_get c.threads t) a first_asks (λ first f first_there first_next.
    asks_there p u (slice_get c.threads u) b second_asks (λ second g second_there second_next.
    let goes : may_go u c.threads b ≡ true = sym (rw second_there (rw second_next refl)) ∙ second_can in
    both_orders p c t u differ first second a b f g first_there second_there first_next second_next of_store goes apart))
