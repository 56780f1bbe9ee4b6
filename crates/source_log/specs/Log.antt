-- The log of a run: all that its threads did that others can see, in the order in which it happened, with the reply to each.
use Rattle.std.specs.Prelude.{◌≡◌, ℕ, ◌+◌, ◌%◌, ◌^◌, ◌<◌, ◌==◌, Bool, true, false, ◌&&◌, if◌then◌else◌, List, [], ◌∷◌, ◌++◌, slice_index, map, Option, Some, None}
use Rattle.xmt_base.specs.declared.values.TrapKind.{TrapKind}
use Rattle.xmt_base.specs.Action.{Shared, Word, Register, Outer, Action, Load, Store, Add, Print, Spawn, Trap, Ended}
use Rattle.source_meaning.specs.declared.tree.Program.{Program}
use Rattle.xmt_base.specs.Operators.{count_between}
use Rattle.interleaving.specs.Actors.{Entry, world_after, IsLawfulBy}

-- Thread 0 is the serial code. The first new thread of a spawn has as its number how many threads there are so far, and its thread k the number k more than that.
abbrev pub Log : Type 0
Log = List (Entry Action)

-- ---- what the entries so far have made

pub record World : Type 0 where
  pub cells : Shared → ℕ
  pub printed : List ℕ
  -- how many threads there have been
  pub threads : ℕ
  pub ended : ℕ → Bool

abbrev pub same_place : Shared → Shared → Bool
same_place (Word a) (Word b) = a == b
same_place (Register a) (Register b) = a == b
same_place (Outer d n) (Outer e m) = (d == e) && (n == m)
same_place _ _ = false

abbrev pub cells_with : (Shared → ℕ) → Shared → ℕ → Shared → ℕ
cells_with cells place value other = if same_place place other then value else cells other

abbrev pub after_action : World → (thread : ℕ) → Action → World
after_action w thread (Store place value) = record w { cells = cells_with w.cells place value }
after_action w thread (Add place value) = record w { cells = cells_with w.cells place ((w.cells place + value) % 2 ^ 32) }
after_action w thread (Print text) = record w { printed = w.printed ++ text }
after_action w thread (Spawn site low high) = record w { threads = w.threads + count_between low high }
after_action w thread Ended = record w { ended = λ other. if thread == other then true else w.ended other }
after_action w thread _ = w

abbrev pub after_entry : World → Entry Action → World
after_entry w e = after_action w e.actor e.action

-- the reply that an action has
abbrev pub reply_in : World → Action → ℕ
reply_in w (Load place) = w.cells place
reply_in w (Add place value) = w.cells place
reply_in w _ = 0

-- before the first entry
abbrev pub opening_world : Program → (words : List ℕ) → World
opening_world program words = record { cells = opening_cell; printed = []; threads = 1; ended = λ thread. false }
  where
    opening_cell : Shared → ℕ
    opening_cell (Word place) = slice_index words place
    opening_cell (Register number) = slice_index (map (λ r. r.opening) program.registers) number
    opening_cell (Outer depth number) = 0

-- ---- lawful logs

-- every virtual thread so far has ended
abbrev pub AllEnded : World → Type 0
AllEnded w = (thread : ℕ) → 0 < thread → thread < w.threads → w.ended thread ≡ true

-- a thread is there, and the serial code does not wait
abbrev pub MayGo : World → (thread : ℕ) → Type 0
MayGo w thread = (thread < w.threads) × (thread ≡ 0 → AllEnded w)

-- to stand at a trap is no entry of a log, and only the serial code spawns
abbrev pub IsLogged : (thread : ℕ) → Action → Type 0
IsLogged thread (Trap kind line) = ⊥
IsLogged thread (Spawn site low high) = thread ≡ 0
IsLogged thread _ = Unit {0}

abbrev pub IsLawfulEntry : World → Entry Action → Type 0
IsLawfulEntry w e = MayGo w e.actor × (e.reply ≡ reply_in w e.action) × IsLogged e.actor e.action

abbrev pub IsLawful : World → Log → Type 0
IsLawful = IsLawfulBy after_entry IsLawfulEntry

abbrev pub after_log : World → Log → World
after_log = world_after after_entry

-- the world at the end of a program's log
abbrev pub world_of : Program → (words : List ℕ) → Log → World
world_of program words log = after_log (opening_world program words) log

-- where a thread stands, if that is a trap, as the last of its trace
abbrev pub trap_action : Option (TrapKind × ℕ) → List Action
trap_action None = []
trap_action (Some trap) = Trap trap.0 trap.1 ∷ []
