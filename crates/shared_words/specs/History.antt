-- Histories of accesses to a list of words.
use Rattle.std.specs.Prelude.{◌≡◌, ℕ, ◌+◌, ◌%◌, ◌^◌, ◌==◌, ◌||◌, not, Bool, List, [], ◌∷◌, slice_index, slice_set, filter}
use Rattle.shared_words.specs.declared.log.Action.{Action}
use Rattle.shared_words.specs.declared.log.Action.TheVariants.{Load, Store, Add}
use Rattle.shared_words.specs.declared.log.Entry.{Entry}
use Rattle.shared_words.specs.declared.log.History.{History}

abbrev pub entry_of : ℕ → Action → ℕ → ℕ → ℕ → Entry
entry_of number action place operand reply = record { number = number; action = action; place = place; operand = operand; reply = reply }

-- the entry by which a number is drawn: word 0 counts them
abbrev pub enrolment : ℕ → Entry
enrolment number = entry_of number Add 0 1 number

-- the words after an access with this operand at this place
abbrev pub words_by : Action → ℕ → ℕ → List ℕ → List ℕ
words_by Load place operand words = words
words_by Store place operand words = slice_set words place operand
words_by Add place operand words = slice_set words place ((slice_index words place + operand) % 2 ^ 64)

abbrev pub words_after_entry : List ℕ → Entry → List ℕ
words_after_entry words e = words_by e.action e.place e.operand words

-- the words after all entries, the oldest first
abbrev pub words_after : List ℕ → List Entry → List ℕ
words_after words [] = words
words_after words (e ∷ es) = words_after (words_after_entry words e) es

-- each reply is the word that stood at the entry's place before it
abbrev pub AllReplied : List ℕ → List Entry → Type 0
AllReplied words [] = Unit {0}
AllReplied words (e ∷ es) = (e.reply ≡ slice_index words e.place) × AllReplied (words_after_entry words e) es

-- the words that a history leaves
abbrev pub replay : History → List ℕ
replay h = words_after h.opened h.entries

abbrev pub IsLegal : History → Type 0
IsLegal h = AllReplied h.opened h.entries

-- the entries with this number
abbrev pub own : ℕ → List Entry → List Entry
own number entries = filter (λ e. e.number == number) entries

-- an access for the caller's own ends, which is one at a word other than 0, which counts the numbers, and 3, which halts the callers
abbrev pub is_act : Entry → Bool
is_act e = not (e.place == 0 || e.place == 3)

-- the acts with this number
abbrev pub acts : ℕ → List Entry → List Entry
acts number entries = filter is_act (own number entries)
