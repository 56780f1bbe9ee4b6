-- The part of a thread that has ended ends with its end; and where the threads of a log begin.
use Rattle.std.proofs.Common.{◌≡◌, refl, sym, ◌∙◌, ap, subst, ℕ, ◌+◌, ◌-◌, ◌%◌, ◌^◌, ◌<◌, ◌≤◌, ◌==◌, ◌&&◌, nat_lt, nat_le, Bool, true, false, if◌then◌else◌, List, [], ◌∷◌, ◌++◌, arith}
use Rattle.std.proofs.lemmas.Bool.Decides.{nat_tests}
use Rattle.xmt_base.specs.Action.{Action, Load, Store, Add, Print, Spawn, Trap, Ended, Start, Block}
use Rattle.xmt_base.specs.Operators.{count_between}
use Rattle.interleaving.specs.Actors.{part_of}
use Rattle.interleaving.specs.Parts.{actions_of, replies_of}
use Rattle.interleaving.specs.Starts.{count_after, count_behind, start_at, start_behind}
use Rattle.interleaving.proofs.Interleave.{eq_of}
use Rattle.source_log.specs.Bounded.{EndsThread}
use Rattle.xmt_isa.specs.declared.image.Image.{Image}
use Rattle.machine_log.specs.Log.{Log, World, IsLawful, after_action, after_entry, after_log}
use Rattle.machine_log.proofs.Done.{threads_behind}

-- ---- ends

module _ (image : Image) (w : World) (t : ℕ) where
  stays : (actor : ℕ) (x : Action) → w.ended t ≡ true → (after_action image w actor x).ended t ≡ true
  stays actor (Load place) h = h
  stays actor (Store place v) h = h
  stays actor (Add place v) h = h
  stays actor (Print text) h = h
  stays actor (Spawn site low high) h = h
  stays actor (Trap kind line) h = h
  stays actor Ended h = by_test (actor == t) h
    where
      by_test : (b : Bool) → w.ended t ≡ true → (if b then true else w.ended t) ≡ true
      by_test true h = refl
      by_test false h = h

  became : (actor : ℕ) (x : Action) → w.ended t ≡ false → (after_action image w actor x).ended t ≡ true → (x ≡ Ended) × (actor ≡ t)
  became actor (Load place) h g = (let never : false ≡ true = sym h ∙ g in cc)
  became actor (Store place v) h g = (let never : false ≡ true = sym h ∙ g in cc)
  became actor (Add place v) h g = (let never : false ≡ true = sym h ∙ g in cc)
  became actor (Print text) h g = (let never : false ≡ true = sym h ∙ g in cc)
  became actor (Spawn site low high) h g = (let never : false ≡ true = sym h ∙ g in cc)
  became actor (Trap kind line) h g = (let never : false ≡ true = sym h ∙ g in cc)
  became actor Ended h g = by_test (actor == t) refl g
    where
      by_test : (b : Bool) → (actor == t) ≡ b → (if b then true else w.ended t) ≡ true → (Ended ≡ Ended) × (actor ≡ t)
      by_test true e g = (refl, eq_of actor t e)
      by_test false e g = (let never : false ≡ true = sym h ∙ g in cc)

-- a thread that has ended does no more
no_more : (image : Image) (t : ℕ) (log : Log) (w : World) → IsLawful image w log → w.ended t ≡ true → part_of t log ≡ []
no_more image t [] w lawful ended = refl
no_more image t (e ∷ log) w lawful ended = by_test (t == e.actor) refl (no_more image t log (after_entry image w e) lawful.1 (stays image w t e.actor e.action ended))
  where
    by_test : (b : Bool) → (t == e.actor) ≡ b → part_of t log ≡ [] → (if b then e ∷ part_of t log else part_of t log) ≡ []
    by_test true is rest = (let never : true ≡ false = sym ended ∙ ap w.ended (eq_of t e.actor is) ∙ lawful.0.0.1 in cc)
    by_test false is rest = rest

ends_more : (x : Action) (trace : List Action) → EndsThread trace → EndsThread (x ∷ trace)
ends_more x trace h = (x ∷ h.0, ap (λ l. x ∷ l) h.1)

pub ends_thread : (image : Image) (t : ℕ) (log : Log) (w : World) → IsLawful image w log → w.ended t ≡ false → (after_log image w log).ended t ≡ true → EndsThread (actions_of (part_of t log))
ends_thread image t [] w lawful lives ended = (let never : false ≡ true = sym lives ∙ ended in cc)
ends_thread image t (e ∷ log) w lawful lives ended = by_ended ((after_entry image w e).ended t) refl (λ h. ends_thread image t log (after_entry image w e) lawful.1 h ended)
  where
    by_ended : (b : Bool) → (after_entry image w e).ended t ≡ b → (b ≡ false → EndsThread (actions_of (part_of t log))) → EndsThread (actions_of (part_of t (e ∷ log)))
    by_ended false is go = by_test (t == e.actor) (go refl)
      where
        by_test : (b : Bool) → EndsThread (actions_of (part_of t log)) → EndsThread (actions_of (if b then e ∷ part_of t log else part_of t log))
        by_test true h = ends_more e.action (actions_of (part_of t log)) h
        by_test false h = h
    by_ended true is go =
        let now : (e.action ≡ Ended) × (e.actor ≡ t) = became image w t e.actor e.action lives is in
        let none : part_of t log ≡ [] = no_more image t log (after_entry image w e) lawful.1 is in
        let mine : (t == e.actor) ≡ true = grind (arith, now.1) in
        subst (λ b. EndsThread (actions_of (if b then e ∷ part_of t log else part_of t log))) (sym mine)
        ([], ap (λ p. e.action ∷ actions_of p) none ∙ ap (λ x. x ∷ []) now.0)

-- ---- where threads begin

abbrev pub IsBlock : Start → Type 0
IsBlock begin = (before : List Action) × (replies : List ℕ) × (number : ℕ) × (begin ≡ Block before replies number)

block_behind : (log before : Log) (count t : ℕ) → count ≤ t → t < count_behind count log → IsBlock (start_behind before count log t)
block_behind [] before count t above below = absurd (omega (arith, above, below))
block_behind (e ∷ log) before count t above below = by_action e.action below (λ more. block_behind log (before ++ (e ∷ [])) (count_after count e.action) t more below)
  where
    by_action : (x : Action) → t < count_behind (count_after count x) log → (count_after count x ≤ t → IsBlock (start_behind (before ++ (e ∷ [])) (count_after count x) log t)) →
        IsBlock (start_at before x count (start_behind (before ++ (e ∷ [])) (count_after count x) log t) t)
    by_action (Spawn site low high) below go = by_test (nat_lt t (count + count_between low high)) refl
      where
        otherwise : Start
        otherwise = start_behind (before ++ (e ∷ [])) (count + count_between low high) log t

        begin : Start
        begin = Block (actions_of (part_of 0 before) ++ (Spawn site low high ∷ [])) (replies_of (part_of 0 before)) ((low + (t - count)) % 2 ^ 32)

        by_test : (b : Bool) → nat_lt t (count + count_between low high) ≡ b → IsBlock (if nat_le count t && nat_lt t (count + count_between low high) then begin else otherwise)
        by_test true is =
            let first : nat_le count t ≡ true = grind (arith, above) in
            rw (first, is) (actions_of (part_of 0 before) ++ (Spawn site low high ∷ []), replies_of (part_of 0 before), (low + (t - count)) % 2 ^ 32, refl)
        by_test false is =
            let first : nat_le count t ≡ true = grind (arith, above) in
            rw (first, is) (go (grind (arith, nat_tests, is)))
    by_action (Load place) below go = go above
    by_action (Store place v) below go = go above
    by_action (Add place v) below go = go above
    by_action (Print text) below go = go above
    by_action (Trap kind line) below go = go above
    by_action Ended below go = go above

-- each virtual thread of a log begins at a block
pub begins_block : (image : Image) (log : Log) (w : World) (t : ℕ) → w.threads ≡ 1 → 0 < t → t < (after_log image w log).threads → IsBlock (start_behind [] 1 log t)
begins_block image log w t one later less =
    block_behind log [] 1 t (omega (arith, later)) (subst (λ n. t < n) (threads_behind image log w ∙ ap (λ n. count_behind n log) one) less)
