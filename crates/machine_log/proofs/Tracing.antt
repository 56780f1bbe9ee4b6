-- Each thread of a log has its part for a trace.
use Rattle.std.proofs.Common.{◌≡◌, refl, sym, ◌∙◌, ap, subst, ℕ, ◌+◌, ◌-◌, ◌%◌, ◌^◌, ◌<◌, ◌≤◌, nat_lt, Bool, true, false, arith, List, [], ◌∷◌, ◌++◌, append-nil}
use Rattle.std.proofs.lemmas.Bool.Decides.{nat_tests}
use Rattle.xmt_base.specs.Action.{Action, Spawn, Block}
use Rattle.xmt_base.specs.Operators.{count_between}
use Rattle.interleaving.specs.Actors.{Entry, part_of}
use Rattle.interleaving.specs.Parts.{actions_of, replies_of}
use Rattle.interleaving.specs.Starts.{count_after, count_behind, start_of, AreStarts}
use Rattle.interleaving.proofs.Starts.{are_starts}
use Rattle.xmt_isa.specs.declared.image.Image.{Image}
use Rattle.xmt_isa.specs.Traces.{BeginsFrom}
use Rattle.machine_log.specs.Log.{Log, World, IsLogged, IsLawful, after_action, after_entry, after_log, opening_world}
use Rattle.machine_log.specs.Done.{Parts, IsDone, BeginsBehind, spawn_entry}
use Rattle.machine_log.specs.Traces.{ThreadsHaveTraces}
use Rattle.machine_log.proofs.Done.{threads_count}

-- ---- each virtual thread that is there is of a spawn in the log

record FromSpawn (count : ℕ) (log : Log) (thread : ℕ) : Type 0 where
  before : Log
  after : Log
  site : ℕ
  low : ℕ
  high : ℕ
  reply : ℕ
  k : ℕ
  is_log : log ≡ before ++ (spawn_entry site low high reply ∷ after)
  inside : k < count_between low high
  number : thread ≡ count_behind count before + k

later_spawn : (e : Entry Action) (log : Log) (count more thread : ℕ) → more ≡ count_after count e.action → FromSpawn more log thread → FromSpawn count (e ∷ log) thread
later_spawn e log count more thread is f =
    record {
      before = e ∷ f.before;
      after = f.after;
      site = f.site;
      low = f.low;
      high = f.high;
      reply = f.reply;
      k = f.k;
      is_log = ap (λ l. e ∷ l) f.is_log;
      inside = f.inside;
      number = f.number ∙ ap (λ n. count_behind n f.before + f.k) is;
    }

abbrev entry_of : ℕ → Action → ℕ → Entry Action
entry_of actor action reply = record { actor = actor; action = action; reply = reply }

same_entries : (a b : ℕ) (x y : Action) (reply : ℕ) → a ≡ b → x ≡ y → entry_of a x reply ≡ entry_of b y reply
same_entries a b x y reply h g = rw (h, g) refl

module _ (image : Image) where
  from_spawn : (log : Log) (w : World) (thread : ℕ) → IsLawful image w log → w.threads ≤ thread → thread < (after_log image w log).threads → FromSpawn w.threads log thread
  from_spawn [] w thread lawful past less = absurd (omega (arith, past, less))
  from_spawn (e ∷ log) w thread lawful past less = by_action e.action refl (λ more. later_spawn e log w.threads (after_entry image w e).threads thread (threads_count image w e.actor e.action) (from_spawn log (after_entry image w e) thread lawful.1 more less))
    where
      by_action : (action : Action) → e.action ≡ action → ((after_entry image w e).threads ≤ thread → FromSpawn w.threads (e ∷ log) thread) → FromSpawn w.threads (e ∷ log) thread
      by_action (Spawn site low high) is go = by_test (nat_lt thread (w.threads + count_between low high)) refl
        where
          grown : (after_entry image w e).threads ≡ w.threads + count_between low high
          grown = ap (λ a. (after_action image w e.actor a).threads) is

          serial : e.actor ≡ 0
          serial = subst (IsLogged e.actor) is lawful.0.2

          by_test : (b : Bool) → nat_lt thread (w.threads + count_between low high) ≡ b → FromSpawn w.threads (e ∷ log) thread
          by_test true t =
              let inside : thread < w.threads + count_between low high = grind (arith, nat_tests, t) in
              record {
                before = [];
                after = log;
                site = site;
                low = low;
                high = high;
                reply = e.reply;
                k = thread - w.threads;
                is_log = ap (λ x. x ∷ log) (same_entries e.actor 0 e.action (Spawn site low high) e.reply serial is);
                inside = omega (arith, past, inside);
                number = omega (arith, past);
              }
          by_test false t = go (let over : w.threads + count_between low high ≤ thread = grind (arith, nat_tests, t) in omega (arith, grown, over))
      by_action action is go = go (let same : (after_entry image w e).threads ≡ w.threads = ap (λ a. (after_action image w e.actor a).threads) is in omega (arith, same, past))

-- ---- where threads begin

module _ (image : Image) (memory : List ℕ) (log : Log) (p : Parts) (done : IsDone image memory log p) where
  begins_behind : (before : Log) (site low high k t : ℕ) → k < count_between low high → BeginsBehind image before site low high k (p.starts t) →
      BeginsFrom image (Block (actions_of (part_of 0 before) ++ (Spawn site low high ∷ [])) (replies_of (part_of 0 before)) ((low + k) % 2 ^ 32)) (p.starts t)
  begins_behind before site low high k t less r =
      let low_is : r.1.low ≡ low = (let e : Spawn _ r.1.low r.1.high ≡ Spawn site low high = r.4 in cc) in
      let high_is : r.1.high ≡ high = (let e : Spawn _ r.1.low r.1.high ≡ Spawn site low high = r.4 in cc) in (
        part_of 0 before,
        r.0,
        r.1,
        k,
        r.2,
        ([], sym (append-nil (replies_of (part_of 0 before)))),
        ap (λ x. actions_of (part_of 0 before) ++ (x ∷ [])) (sym r.4),
        subst (λ l. k < count_between l r.1.high) (sym low_is) (subst (λ h. k < count_between low h) (sym high_is) less),
        ap (λ l. (l + k) % 2 ^ 32) (sym low_is),
        r.3,
      )

  pub begins_from : (thread : ℕ) → thread < (after_log image (opening_world image memory) log).threads → BeginsFrom image (start_of log thread) (p.starts thread)
  begins_from thread less = by_test (nat_lt 0 thread) refl
    where
      starts : AreStarts log (start_of log)
      starts = are_starts log

      virtual : FromSpawn 1 log thread → BeginsFrom image (start_of log thread) (p.starts thread)
      virtual f =
          subst (λ t. BeginsFrom image (start_of log t) (p.starts t)) (sym f.number)
          (subst (λ b. BeginsFrom image b (p.starts (count_behind 1 f.before + f.k))) (sym (starts.virtual f.before f.after f.site f.low f.high f.reply f.k f.is_log f.inside))
          (begins_behind f.before f.site f.low f.high f.k (count_behind 1 f.before + f.k) f.inside (done.blocks f.before f.after f.site f.low f.high f.reply f.k f.is_log f.inside)))

      by_test : (b : Bool) → nat_lt 0 thread ≡ b → BeginsFrom image (start_of log thread) (p.starts thread)
      by_test true e = virtual (from_spawn image log (opening_world image memory) thread done.lawful (let later : 0 < thread = grind (arith, nat_tests, e) in omega (arith, later)) less)
      by_test false e =
          let none : thread ≡ 0 = (let below : thread ≤ 0 = grind (arith, nat_tests, e) in omega (arith, below)) in
          subst (λ t. BeginsFrom image (start_of log t) (p.starts t)) (sym none) (subst (λ b. BeginsFrom image b (p.starts 0)) (sym starts.serial) done.serial)

pub all_have_traces : ThreadsHaveTraces
all_have_traces image memory log p done thread trace less is =
    record {
      actor = p.starts thread;
      begins = begins_from image memory log p done thread less;
      part = part_of thread log;
      end = p.ends thread;
      does = done.does thread;
      told = ([], sym (append-nil (replies_of (part_of thread log))));
      is_trace = is;
    }
