-- What a thread does by itself where no other thread can see it, it does in the configuration.
use Rattle.std.proofs.Common.{◌≡◌, refl, sym, ◌∙◌, ap, subst, ℕ, suc, zero, true, not, List, [], ◌∷◌, ◌++◌, append-nil, set, Option, Some, None, slice_get, replicate, unwrap_or}
use Rattle.std.specs.List.{list_all}
use Rattle.xmt_base.specs.Action.{Action}
use Rattle.source_meaning.specs.declared.tree.Program.{Program}
use Rattle.source_meaning.specs.Store.{Word, Register, Outer, Private}
use Rattle.source_meaning.specs.Term.{Code}
use Rattle.source_meaning.specs.Next.{Ask, Quietly, Loading, Storing, Adding, Printing, Spawning, Joining, Ending, Next, Is, Asks, Traps}
use Rattle.source_meaning.specs.Run.{Thread, Configuration, next_of_rest, waits_for, may_go, reply, store_after, after, IsLegal, after_answer}
use Rattle.source_meaning.specs.Trace.{Local, action_of, reply_to, step_with_reply, step_of, trace_then, and_then, local_run}
use Rattle.source_meaning.specs.Laws.{UnseenRun}
use Rattle.source_meaning.proofs.Commute.{step_is, waiting-set, asks_live, same_configuration, after_answer_of_store}

-- ---- lists

set_there : {X : Type 0} (xs : List X) (t : ℕ) (x : X) → slice_get xs t ≡ Some x → set xs t x ≡ xs
set_there [] t x there = refl
set_there (y ∷ xs) zero x there = let same : y ≡ x = cc in ap (λ z. z ∷ xs) (sym same)
set_there (y ∷ xs) (suc t) x there = ap (λ zs. y ∷ zs) (set_there xs t x there)

set_twice : {X : Type 0} (xs : List X) (t : ℕ) (x y : X) → set (set xs t x) t y ≡ set xs t y
set_twice [] t x y = refl
set_twice (z ∷ xs) zero x y = refl
set_twice (z ∷ xs) (suc t) x y = ap (λ zs. z ∷ zs) (set_twice xs t x y)

slice_get-set : {X : Type 0} (xs : List X) (t : ℕ) (x y : X) → slice_get xs t ≡ Some x → slice_get (set xs t y) t ≡ Some y
slice_get-set [] t x y there = cc
slice_get-set (z ∷ xs) zero x y there = refl
slice_get-set (z ∷ xs) (suc t) x y there = slice_get-set xs t x y there

from_some : {X : Type 0} (x y : X) → Some x ≡ Some y → x ≡ y
from_some x y same = ap (λ o. unwrap_or o x) same

first_of_some : {X : Type 0} (trace : List Action) (end : X) (other : List Action) (left : X) → ◌≡◌ {A = Option (List Action × X)} (Some (trace, end)) (Some (other, left)) → trace ≡ other
first_of_some trace end other left same = ap (λ pair. pair.0) (from_some (trace, end) (other, left) same)

-- ---- one step

goes : (t : ℕ) (threads : List Thread) (a : Ask) → list_all (λ other. not (waits_for t other)) threads ≡ true → may_go t threads a ≡ true
goes t threads Quietly free = refl
goes t threads (Loading cell) free = refl
goes t threads (Storing cell value) free = refl
goes t threads (Adding cell value) free = refl
goes t threads (Printing text) free = refl
goes t threads (Spawning site low high block) free = refl
goes t threads Joining free = free
goes t threads Ending free = refl

-- an unseen step touches the thread and the store alone
answer_is : (c : Configuration) (t : ℕ) (thread : Thread) (a : Ask) (f : ℕ → Option Code) → action_of a ≡ [] → after_answer c t thread a f ≡ record { store = store_after c.store a; threads = set c.threads t (record thread { code = f (reply c a) }); output = c.output }
answer_is c t thread Quietly f unseen = after_answer_of_store c t thread Quietly f refl
answer_is c t thread (Loading cell) f unseen = after_answer_of_store c t thread (Loading cell) f refl
answer_is c t thread (Storing cell value) f unseen = after_answer_of_store c t thread (Storing cell value) f refl
answer_is c t thread (Adding cell value) f unseen = after_answer_of_store c t thread (Adding cell value) f refl
answer_is c t thread (Printing text) f unseen = cc
answer_is c t thread (Spawning site low high block) f unseen = cc
answer_is c t thread Joining f unseen = same_configuration refl (append-nil _) (append-nil c.output)
answer_is c t thread Ending f unseen = cc

by_pair : (held r : ℕ) (left : List ℕ) → ◌≡◌ {A = Option (ℕ × List ℕ)} (Some (held, [])) (Some (r, left)) → (r ≡ held) × (left ≡ [])
by_pair held r left h =
    let same : ◌≡◌ {A = ℕ × List ℕ} (held, []) (r, left) = from_some (held, []) (r, left) h in
    (ap (λ p. p.0) (sym same), ap (λ p. p.1) (sym same))

-- and is told what the configuration tells it
told : (c : Configuration) (a : Ask) (r : ℕ) (left : List ℕ) → action_of a ≡ [] → reply_to c.store [] a ≡ Some (r, left) → (r ≡ reply c a) × (left ≡ [])
told c Quietly r left unseen h = by_pair 0 r left h
told c (Loading (Word place)) r left unseen h = cc
told c (Loading (Register number)) r left unseen h = cc
told c (Loading (Outer thread depth number)) r left unseen h = cc
told c (Loading (Private thread depth slot)) r left unseen h = by_pair (c.store (Private thread depth slot)) r left h
told c (Storing cell value) r left unseen h = by_pair 0 r left h
told c (Adding (Word place) value) r left unseen h = cc
told c (Adding (Register number) value) r left unseen h = cc
told c (Adding (Outer thread depth number) value) r left unseen h = cc
told c (Adding (Private thread depth slot) value) r left unseen h = by_pair (c.store (Private thread depth slot)) r left h
told c (Printing text) r left unseen h = by_pair 0 r left h
told c (Spawning site low high block) r left unseen h = by_pair 0 r left h
told c Joining r left unseen h = by_pair 0 r left h
told c Ending r left unseen h = by_pair 0 r left h

-- a run without a trace begins with a step without one
split : {X : Type 0} (first : List Action) (outcome : Option (List Action × X)) (end : X) → trace_then first outcome ≡ Some ([], end) → (first ≡ []) × (outcome ≡ Some ([], end))
split [] None end h = (refl, cc)
split [] (Some rest) end h = (refl, h)
split (x ∷ first) None end h = (cc, cc)
split (x ∷ first) (Some rest) end h = let never : (x ∷ first) ++ rest.0 ≡ [] = first_of_some ((x ∷ first) ++ rest.0) rest.1 [] end h in (cc, cc)

-- ---- runs

-- after so many turns of the thread the configuration has what it has come to by itself
abbrev Comes : (program : Program) (c : Configuration) (t : ℕ) (thread : Thread) (work : ℕ) (end : Local (Option Code)) → Type 0
Comes program c t thread work end =
    IsLegal program c (replicate work t) ×
    (after program c (replicate work t) ≡ record { store = end.store; threads = set c.threads t (record thread { code = end.code }); output = c.output })

module _ (program : Program) (t : ℕ) where
  abbrev Run : (c : Configuration) (thread : Thread) (work : ℕ) (end : Local (Option Code)) → Type 0
  Run c thread work end =
      slice_get c.threads t ≡ Some thread → list_all (λ other. not (waits_for t other)) c.threads ≡ true →
      local_run (next_of_rest program t thread.number) work (record { code = thread.code; store = c.store; replies = [] }) ≡ Some ([], end) →
      Comes program c t thread work end

  -- a step, and what comes behind it
  one_more : (c : Configuration) (thread : Thread) (work : ℕ) (end : Local (Option Code)) (a : Ask) (f : ℕ → Option Code) →
      ((d : Configuration) (other : Thread) → Run d other work end) →
      slice_get c.threads t ≡ Some thread → list_all (λ other. not (waits_for t other)) c.threads ≡ true →
      next_of_rest program t thread.number thread.code ≡ Asks a f →
      action_of a ≡ [] →
      local_run (next_of_rest program t thread.number) work (record { code = f (reply c a); store = store_after c.store a; replies = [] }) ≡ Some ([], end) →
      Comes program c t thread (suc work) end
  one_more c thread work end a f later there free next unseen rest =
      let live = asks_live program t thread.number thread.code a f next in
      let comes : Comes program (record { store = store_after c.store a; threads = set c.threads t (record thread { code = f (reply c a) }); output = c.output }) t (record thread { code = f (reply c a) }) work end =
      later _ (record thread { code = f (reply c a) })
      (slice_get-set c.threads t thread (record thread { code = f (reply c a) }) there)
      (waiting-set c.threads t t thread (record thread { code = f (reply c a) }) refl there live free)
      rest in
      let stepped = step_is program c t thread a f there next (goes t c.threads a free) ∙ answer_is c t thread a f unseen in (
        (rw there (rw next (goes t c.threads a free)), subst (λ d. IsLegal program d (replicate work t)) (sym stepped) comes.0),
        ap (λ d. after program d (replicate work t)) stepped ∙ comes.1 ∙
            ap (λ threads. record { store = end.store; threads = threads; output = c.output }) (set_twice c.threads t _ _),
      )

  by_reply : (c : Configuration) (thread : Thread) (work : ℕ) (end : Local (Option Code)) (a : Ask) (f : ℕ → Option Code) (told_this : Option (ℕ × List ℕ)) →
      ((d : Configuration) (other : Thread) → Run d other work end) →
      slice_get c.threads t ≡ Some thread → list_all (λ other. not (waits_for t other)) c.threads ≡ true →
      next_of_rest program t thread.number thread.code ≡ Asks a f →
      reply_to c.store [] a ≡ told_this →
      and_then (step_with_reply c.store a f told_this) (local_run (next_of_rest program t thread.number) work) ≡ Some ([], end) →
      Comes program c t thread (suc work) end
  by_reply c thread work end a f None later there free next tells runs = cc
  by_reply c thread work end a f (Some r) later there free next tells runs =
      let parts = split (action_of a) (local_run (next_of_rest program t thread.number) work (record { code = f r.0; store = store_after c.store a; replies = r.1 })) end runs in
      let same = told c a r.0 r.1 parts.0 tells in
      one_more c thread work end a f later there free next parts.0
      (subst (λ x. local_run (next_of_rest program t thread.number) work (record { code = f x; store = store_after c.store a; replies = [] }) ≡ Some ([], end)) same.0
      (subst (λ left. local_run (next_of_rest program t thread.number) work (record { code = f r.0; store = store_after c.store a; replies = left }) ≡ Some ([], end)) same.1 parts.1))

  by_next : (c : Configuration) (thread : Thread) (work : ℕ) (end : Local (Option Code)) (n : Next (Option Code) (Unit {0})) →
      ((d : Configuration) (other : Thread) → Run d other work end) →
      slice_get c.threads t ≡ Some thread → list_all (λ other. not (waits_for t other)) c.threads ≡ true →
      next_of_rest program t thread.number thread.code ≡ n →
      and_then (step_of c.store [] n) (local_run (next_of_rest program t thread.number) work) ≡ Some ([], end) →
      Comes program c t thread (suc work) end
  by_next c thread work end (Is result) later there free next runs = cc
  by_next c thread work end (Traps kind line) later there free next runs = cc
  by_next c thread work end (Asks a f) later there free next runs = by_reply c thread work end a f (reply_to c.store [] a) later there free next refl runs

  comes_there : (work : ℕ) (end : Local (Option Code)) (c : Configuration) (thread : Thread) → Run c thread work end
  comes_there zero end c thread there free runs =
      let same : record { code = thread.code; store = c.store; replies = [] } ≡ end = ap (λ p. p.1) (from_some ([], record { code = thread.code; store = c.store; replies = [] }) ([], end) runs) in (
        tt,
        same_configuration (ap (λ (l : Local (Option Code)). l.store) same)
            (sym (set_there c.threads t thread there) ∙ ap (λ (l : Local (Option Code)). set c.threads t (record thread { code = l.code })) same)
            refl,
      )
  comes_there (suc work) end c thread there free runs =
      by_next c thread work end (next_of_rest program t thread.number thread.code) (comes_there work end) there free refl runs

pub unseen_run : UnseenRun
unseen_run program c t thread work end there free runs = comes_there program t work end c thread there free runs
