-- Where the threads of a log begin. Thread 0 is the serial code. The first new thread of a spawn has as its number how many threads there are so far, and its thread k the number k more than that.
use Rattle.std.specs.Prelude.{◌≡◌, ℕ, ◌+◌, ◌-◌, ◌%◌, ◌^◌, ◌<◌, nat_lt, nat_le, ◌&&◌, if◌then◌else◌, List, [], ◌∷◌, ◌++◌}
use Rattle.xmt_base.specs.Action.{Action, Spawn, Start, Main, Block}
use Rattle.xmt_base.specs.Operators.{count_between}
use Rattle.interleaving.specs.Actors.{Entry, part_of}
use Rattle.interleaving.specs.Parts.{actions_of, replies_of}

-- how many threads there are behind an action, and behind a log
abbrev pub count_after : (count : ℕ) → Action → ℕ
count_after count (Spawn site low high) = count + count_between low high
count_after count _ = count

abbrev pub count_behind : (count : ℕ) → List (Entry Action) → ℕ
count_behind count [] = count
count_behind count (e ∷ log) = count_behind (count_after count e.action) log

-- where each thread begins: thread 0 at `main`, and the threads of a spawn at its block, behind what the serial code did before
pub record AreStarts (log : List (Entry Action)) (start : ℕ → Start) : Type 0 where
  pub serial : start 0 ≡ Main
  pub virtual :
      (before after : List (Entry Action)) (site low high reply k : ℕ) →
      log ≡ before ++ (record { actor = 0; action = Spawn site low high; reply = reply } ∷ after) → k < count_between low high →
      start (count_behind 1 before + k) ≡ Block (actions_of (part_of 0 before) ++ (Spawn site low high ∷ [])) (replies_of (part_of 0 before)) ((low + k) % 2 ^ 32)

-- where a thread begins, if this action makes it, with so many threads before
abbrev pub start_at : (before : List (Entry Action)) → Action → (count : ℕ) → (otherwise : Start) → (thread : ℕ) → Start
start_at before (Spawn site low high) count otherwise thread =
    if nat_le count thread && nat_lt thread (count + count_between low high)
    then Block (actions_of (part_of 0 before) ++ (Spawn site low high ∷ [])) (replies_of (part_of 0 before)) ((low + (thread - count)) % 2 ^ 32)
    else otherwise
start_at before _ count otherwise thread = otherwise

abbrev pub start_behind : (before : List (Entry Action)) → (count : ℕ) → List (Entry Action) → (thread : ℕ) → Start
start_behind before count [] thread = Main
start_behind before count (e ∷ log) thread = start_at before e.action count (start_behind (before ++ (e ∷ [])) (count_after count e.action) log thread) thread

-- where each thread of a log begins
abbrev pub start_of : List (Entry Action) → (thread : ℕ) → Start
start_of log = start_behind [] 1 log
