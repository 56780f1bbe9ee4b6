-- A lawful log with what each actor does by itself, as it grows.
use Rattle.std.proofs.Common.{◌≡◌, refl, sym, ◌∙◌, ap, subst, ℕ, suc, ◌+◌, ◌-◌, ◌<◌, ◌≤◌, ◌==◌, nat_lt, Bool, true, false, if◌then◌else◌, List, [], ◌∷◌, ◌++◌, Some, arith, inl, inr}
use Rattle.std.proofs.lemmas.Bool.Decides.{nat_tests}
use Rattle.xmt_isa.specs.declared.image.Image.{Image}
use Rattle.xmt_isa.specs.declared.unit.Start.{Start}
use Rattle.xmt_isa.specs.declared.unit.Unit.{Unit}
use Rattle.xmt_isa.specs.Machine.{broadcast}
use Rattle.xmt_base.specs.Operators.{count_between}
use Rattle.xmt_base.specs.Action.{Action, Load, Store, Add, Print, Spawn, Trap, Ended}
use Rattle.interleaving.specs.Actors.{Alone, Acts, Entry, part_of, Does, with_state}
use Rattle.machine_log.specs.Log.{Log, World, opening_world, after_action, after_entry, after_log, IsLawfulEntry}
use Rattle.xmt_isa.specs.Threads.{Actor, move, BeginsAt, HasRoom, begun, number_at}
use Rattle.machine_log.specs.Done.{Parts, IsDone, BeginsBehind, BlocksBegin, spawn_entry}
use Rattle.interleaving.specs.Starts.{count_after, count_behind}
use Rattle.interleaving.proofs.Starts.{count_grows, count_behind-append}
use Rattle.machine_log.proofs.Follows.{goes, begins_on, from_actor, spawns_from, block_actor}
use Rattle.interleaving.proofs.Interleave.{eq_of}
use Rattle.interleaving.proofs.Grows.{differs, with-other, with-at, does_alone, does_act, part_of-own, part_of-other, inside_more, lawful_more}

-- a world counts the threads
pub threads_count : (image : Image) (w : World) (actor : ℕ) (action : Action) → (after_action image w actor action).threads ≡ count_after w.threads action
threads_count image w actor (Store place value) = refl
threads_count image w actor (Add place value) = refl
threads_count image w actor (Print text) = refl
threads_count image w actor (Spawn site low high) = refl
threads_count image w actor Ended = refl
threads_count image w actor (Load place) = refl
threads_count image w actor (Trap kind line) = refl

pub threads_behind : (image : Image) (log : Log) (w : World) → (after_log image w log).threads ≡ count_behind w.threads log
threads_behind image [] w = refl
threads_behind image (e ∷ log) w = threads_behind image log (after_entry image w e) ∙ ap (λ n. count_behind n log) (threads_count image w e.actor e.action)

pub threads_grow : (image : Image) (w : World) (log : Log) → w.threads ≤ (after_log image w log).threads
threads_grow image w log =
    let all : (after_log image w log).threads ≡ count_behind w.threads log = threads_behind image log w in
    let grows : w.threads ≤ count_behind w.threads log = count_grows log w.threads in
    omega (arith, all, grows)

-- the threads of a spawn lie below the count of threads
spawned : (image : Image) (memory : List ℕ) (log before after : Log) (site low high reply : ℕ) → log ≡ before ++ (spawn_entry site low high reply ∷ after) →
    count_behind 1 before + count_between low high ≤ (after_log image (opening_world image memory) log).threads
spawned image memory log before after site low high reply eq =
    let all : (after_log image (opening_world image memory) log).threads ≡ count_behind (count_behind 1 before + count_between low high) after =
    threads_behind image log (opening_world image memory) ∙ ap (count_behind 1) eq ∙ count_behind-append 1 before (spawn_entry site low high reply ∷ after) in
    let grows : count_behind 1 before + count_between low high ≤ count_behind (count_behind 1 before + count_between low high) after = count_grows after (count_behind 1 before + count_between low high) in
    omega (arith, all, grows)

-- two spawns with a thread that begins in one place are alike there
begins_again : (b start : Start) (j k : ℕ) (a : Actor) (u : Unit) → (u.number ≡ 0 → ⊥) → HasRoom u → BeginsAt b j a → BeginsAt start k a → BeginsAt b j (begun start u (number_at start k))
begins_again b start j k a u on_unit room first second =
    let same : begun start second.0 (number_at start k) ≡ begun b first.0 (number_at b j) = sym second.3 ∙ first.3 in
    let starts : start ≡ b = ap (λ (x : Actor). x.start) same in
    let threads : Some (number_at start k) ≡ Some (number_at b j) = ap (λ (x : Actor). x.unit.thread) same in
    let numbers : number_at start k ≡ number_at b j = cc in
    (u, on_unit, room, subst (λ n. begun start u n ≡ begun b u (number_at b j)) (sym numbers) (subst (λ c. begun c u (number_at b j) ≡ begun b u (number_at b j)) (sym starts) refl))

module _ (image : Image) (memory : List ℕ) where
  pub world : Log → World
  world log = after_log image (opening_world image memory) log

  pub done_alone : (log : Log) (p : Parts) (actor : ℕ) (s : Actor) → IsDone image memory log p → move image (p.ends actor) ≡ Alone s → IsDone image memory log (goes p actor s)
  done_alone log p actor s done goes_on =
      record {
        lawful = done.lawful;
        does = does;
        serial = done.serial;
        blocks = done.blocks;
      }
    where
      does : (t : ℕ) → Does (move image) (with_state p.steps actor (1 + p.steps actor) t) (p.starts t) (part_of t log) (with_state p.ends actor s t)
      does t = by_test (actor == t) refl
        where
          by_test : (b : Bool) → (actor == t) ≡ b → Does (move image) (if b then 1 + p.steps actor else p.steps t) (p.starts t) (part_of t log) (if b then s else p.ends t)
          by_test true e = subst (λ u. Does (move image) (1 + p.steps actor) (p.starts u) (part_of u log) s) (eq_of actor t e)
              (let more : 1 + p.steps actor ≡ suc (p.steps actor) = omega arith in
              subst (λ n. Does (move image) n (p.starts actor) (part_of actor log) s) (sym more) (does_alone (move image) (p.steps actor) (p.starts actor) (part_of actor log) (p.ends actor) s (done.does actor) goes_on))
          by_test false e = done.does t

  -- a spawn in a log with one more entry is an earlier one, or the new one
  pub done_act : (log : Log) (p : Parts) (e : Entry Action) (left : ℕ → Actor) → IsDone image memory log p →
      move image (p.ends e.actor) ≡ Acts e.action left →
      IsLawfulEntry image (after_log image (opening_world image memory) log) e →
      ((site low high reply : ℕ) → e ≡ spawn_entry site low high reply → (k : ℕ) → k < count_between low high → BeginsBehind image log site low high k (p.starts (count_behind 1 log + k))) →
      IsDone image memory (log ++ (e ∷ [])) (goes p e.actor (left e.reply))
  done_act log p e left done acts lawful new =
      record {
        lawful = lawful_more (after_entry image) (IsLawfulEntry image) (opening_world image memory) log e done.lawful lawful;
        does = does;
        serial = done.serial;
        blocks = λ before after site low high reply k eq less. elim (inside_more log before after e (spawn_entry site low high reply) eq) [
          | inl h ↦ subst (λ b. BeginsBehind image b site low high k (p.starts (count_behind 1 b + k))) h.0 (new site low high reply h.1 k less)
          | inr h ↦ done.blocks before h.0 site low high reply k h.1 less
        ];
      }
    where
      does : (t : ℕ) → Does (move image) (with_state p.steps e.actor (1 + p.steps e.actor) t) (p.starts t) (part_of t (log ++ (e ∷ []))) (with_state p.ends e.actor (left e.reply) t)
      does t = by_test (e.actor == t) refl
        where
          by_test : (b : Bool) → (e.actor == t) ≡ b → Does (move image) (if b then 1 + p.steps e.actor else p.steps t) (p.starts t) (part_of t (log ++ (e ∷ []))) (if b then left e.reply else p.ends t)
          by_test true eq = subst (λ u. Does (move image) (1 + p.steps e.actor) (p.starts u) (part_of u (log ++ (e ∷ []))) (left e.reply)) (eq_of e.actor t eq)
              (let more : 1 + p.steps e.actor ≡ suc (p.steps e.actor) = omega arith in
              subst (λ n. Does (move image) n (p.starts e.actor) (part_of e.actor (log ++ (e ∷ []))) (left e.reply)) (sym more)
              (subst (λ part. Does (move image) (suc (p.steps e.actor)) (p.starts e.actor) part (left e.reply)) (sym (part_of-own e log e.actor refl))
              (does_act (move image) (p.steps e.actor) (p.starts e.actor) (part_of e.actor log) (p.ends e.actor) e left (done.does e.actor) acts)))
          by_test false eq = subst (λ part. Does (move image) (p.steps t) (p.starts t) part (p.ends t)) (sym (part_of-other e log t (λ h. differs e.actor t eq (sym h)))) (done.does t)

  -- an actor that has done nothing does nothing from any start
  pub does_none : (n : ℕ) (s r end : Actor) (part : Log) → n ≡ 0 → Does (move image) n s part end → Does (move image) n r part r
  does_none n s r end part none does = rw none (let h = rw none at does in (h.0, refl))

  -- a virtual thread begins on a unit
  pub done_begins : (log : Log) (p : Parts) (actor place k : ℕ) (start : Start) (u : Unit) → IsDone image memory log p → 0 < actor → p.steps actor ≡ 0 →
      (u.number ≡ 0 → ⊥) → HasRoom u → BeginsAt start k (p.starts actor) →
      IsDone image memory log (begins_on p actor place (begun start u (number_at start k)))
  done_begins log p actor place k start u done later none on_unit room at =
      record {
        lawful = done.lawful;
        does = does;
        serial = with-other p.starts actor 0 new (λ e. absurd (omega (arith, e, later))) ∙ done.serial;
        blocks = λ before after site low high reply j eq less. blocks before site low high (count_behind 1 before + j) j (done.blocks before after site low high reply j eq less);
      }
    where
      new : Actor
      new = begun start u (number_at start k)

      does : (t : ℕ) → Does (move image) (p.steps t) (with_state p.starts actor new t) (part_of t log) (with_state p.ends actor new t)
      does t = by_test (actor == t) refl
        where
          by_test : (b : Bool) → (actor == t) ≡ b → Does (move image) (p.steps t) (if b then new else p.starts t) (part_of t log) (if b then new else p.ends t)
          by_test true e = let none_here : p.steps t ≡ 0 = ap p.steps (sym (eq_of actor t e)) ∙ none in does_none (p.steps t) (p.starts t) new (p.ends t) (part_of t log) none_here (done.does t)
          by_test false e = done.does t

      blocks : (before : Log) (site low high t j : ℕ) → BeginsBehind image before site low high j (p.starts t) → BeginsBehind image before site low high j (with_state p.starts actor new t)
      blocks before site low high t j old = (
        old.0,
        old.1,
        old.2,
        with-at (λ t a. BeginsAt (broadcast old.0.unit old.1) j a) p.starts actor t new
            (λ same. begins_again (broadcast old.0.unit old.1) start j k (p.starts actor) u on_unit room (subst (λ t. BeginsAt (broadcast old.0.unit old.1) j (p.starts t)) (sym same) old.3) at)
            (λ other. old.3),
        old.4,
      )

  -- the threads of a spawn stand at its beginning
  pub done_spawns : (log : Log) (p : Parts) (first : ℕ) (start : Start) → IsDone image memory log p → 0 < first → (after_log image (opening_world image memory) log).threads ≤ first →
      ((t : ℕ) → first ≤ t → p.steps t ≡ 0) →
      IsDone image memory log (spawns_from p first start)
  done_spawns log p first start done positive later none =
      record {
        lawful = done.lawful;
        does = does;
        serial = below 0 positive (p.starts) ∙ done.serial;
        blocks = blocks;
      }
    where
      below : (t : ℕ) → t < first → (f : ℕ → Actor) → from_actor first start f t ≡ f t
      below t less f = let e : nat_lt t first ≡ true = grind (arith, nat_tests, less) in rw e refl

      does : (t : ℕ) → Does (move image) (p.steps t) (from_actor first start p.starts t) (part_of t log) (from_actor first start p.ends t)
      does t = by_test (nat_lt t first) refl
        where
          by_test : (b : Bool) → nat_lt t first ≡ b → Does (move image) (p.steps t) (if b then p.starts t else block_actor start (t - first)) (part_of t log) (if b then p.ends t else block_actor start (t - first))
          by_test true e = done.does t
          by_test false e = let past : first ≤ t = grind (arith, nat_tests, e) in does_none (p.steps t) (p.starts t) (block_actor start (t - first)) (p.ends t) (part_of t log) (none t past) (done.does t)

      blocks : BlocksBegin image log (from_actor first start p.starts)
      blocks before after site low high reply k eq less =
          let bound : count_behind 1 before + count_between low high ≤ (after_log image (opening_world image memory) log).threads = spawned image memory log before after site low high reply eq in
          let h : BeginsBehind image before site low high k (p.starts (count_behind 1 before + k)) = done.blocks before after site low high reply k eq less in
          let here : count_behind 1 before + k < first = omega (arith, bound, less, later) in
          (h.0, h.1, h.2, subst (λ a. BeginsAt (broadcast h.0.unit h.1) k a) (sym (below (count_behind 1 before + k) here p.starts)) h.3, h.4)
