-- The log of a machine's run: the actions of its threads that others can see, in their order, with the reply to each. Here a world has the words of the machine's table.
use Rattle.std.specs.Prelude.{◌≡◌, ℕ, ◌+◌, ◌%◌, ◌^◌, ◌<◌, Bool, true, false, List, [], ◌++◌, slice_index, slice_set}
use Rattle.xmt_base.specs.Action.{Action, Load, Store, Add, Print, Spawn, Trap, Ended}
use Rattle.xmt_base.specs.Operators.{count_between}
use Rattle.xmt_isa.specs.declared.image.Image.{Image}
use Rattle.xmt_isa.specs.Opening.{opening_words}
use Rattle.xmt_isa.specs.Places.{word_at}
use Rattle.interleaving.specs.Actors.{Entry, with_state, world_after, IsLawfulBy}

-- Thread 0 is the serial code, and the first new thread of a spawn has as its number how many threads there are so far.
abbrev pub Log : Type 0
Log = List (Entry Action)

-- what the entries so far have made
pub record World : Type 0 where
  pub words : List ℕ
  pub printed : List ℕ
  -- how many threads there have been
  pub threads : ℕ
  pub ended : ℕ → Bool

-- before the first entry
abbrev pub opening_world : Image → (memory : List ℕ) → World
opening_world image memory = record { words = opening_words image memory; printed = []; threads = 1; ended = λ thread. false }

-- every virtual thread so far has ended
abbrev pub AllEnded : (threads : ℕ) → (ended : ℕ → Bool) → Type 0
AllEnded threads ended = (thread : ℕ) → 0 < thread → thread < threads → ended thread ≡ true

-- a thread is there and has not ended, and the serial code acts only where each virtual thread has
abbrev pub MayGo : World → (thread : ℕ) → Type 0
MayGo w thread = (thread < w.threads) × (w.ended thread ≡ false) × (thread ≡ 0 → AllEnded w.threads w.ended)

-- to stand at a trap is no entry of a log, and only the serial code spawns
abbrev pub IsLogged : (thread : ℕ) → Action → Type 0
IsLogged thread (Trap kind line) = ⊥
IsLogged thread (Spawn site low high) = thread ≡ 0
IsLogged thread _ = Unit {0}

module _ (image : Image) where
  abbrev pub after_action : World → (thread : ℕ) → Action → World
  after_action w thread (Store place value) = record w { words = slice_set w.words (word_at image place) value }
  after_action w thread (Add place value) = record w { words = slice_set w.words (word_at image place) ((slice_index w.words (word_at image place) + value) % 2 ^ 32) }
  after_action w thread (Print text) = record w { printed = w.printed ++ text }
  after_action w thread (Spawn site low high) = record w { threads = w.threads + count_between low high }
  after_action w thread Ended = record w { ended = with_state w.ended thread true }
  after_action w thread _ = w

  abbrev pub after_entry : World → Entry Action → World
  after_entry w e = after_action w e.actor e.action

  -- the reply that an action has
  abbrev pub reply_in : World → Action → ℕ
  reply_in w (Load place) = slice_index w.words (word_at image place)
  reply_in w (Add place value) = slice_index w.words (word_at image place)
  reply_in w _ = 0

  abbrev pub IsLawfulEntry : World → Entry Action → Type 0
  IsLawfulEntry w e = MayGo w e.actor × (e.reply ≡ reply_in w e.action) × IsLogged e.actor e.action

  abbrev pub IsLawful : World → Log → Type 0
  IsLawful = IsLawfulBy after_entry IsLawfulEntry

  abbrev pub after_log : World → Log → World
  after_log = world_after after_entry
