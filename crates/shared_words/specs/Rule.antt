-- The rule of the words: one legal history, of which each view has seen a beginning. It holds between any two steps.
use Rattle.std.specs.Prelude.{◌≡◌, ◌≢◌, ℕ, ◌+◌, ◌≤◌, ◌<◌, ◌^◌, true, List, [], ◌++◌, length, slice_index, nat_eq, Contains, sum_by, Option, Some, None}
use Rattle.std.specs.List.{IsDistinct}
use mathlib.Core.Option.{some}
use mathlib.Core.List.{IsPrefix}
use lib.ListN.{get_elem?}
use Rattle.atomic_table.specs.Table.{State, Me}
use Rattle.shared_words.specs.declared.log.Entry.{Entry}
use Rattle.shared_words.specs.declared.log.Known.{Known}
use Rattle.shared_words.specs.declared.rule.Part.{Part}
use Rattle.shared_words.specs.declared.rule.View.{View}
use Rattle.shared_words.specs.Passes.{WordsId, Token}
use Rattle.shared_words.specs.History.{AllReplied, words_after, own}

-- ---- what a seat of the table is to a pass

abbrev pub known_of : List ℕ → Option ℕ → ℕ → List ℕ → List Entry → Known
known_of numbers writes_with room opened entries = record { numbers = numbers; writes_with = writes_with; room = room; seen = record { opened = opened; entries = entries } }

-- the view of a pass between calls
abbrev pub view_of : Known → View
view_of k = record { live = true; known = k; taken = None }

-- the view of the first pass
abbrev pub opener : List ℕ → ℕ → View
opener words room = view_of (known_of [] None room words [])

-- what callers see of a pass
abbrev pub token_of : WordsId → View → Token
token_of words v = record { of = words; known = v.known }

-- the number that a pass writes with is one of its own
abbrev pub WritesWithOwn : Option ℕ → List ℕ → Type 0
WritesWithOwn None numbers = Unit {0}
WritesWithOwn (Some n) numbers = Contains numbers n

-- the seat of a pass, between calls
pub record IsWhole {S : Type 0} (me : Me S View) : Type 0 where
  pub live : me.0.live ≡ true
  pub none_taken : me.0.taken ≡ None
  pub no_slot : me.1 ≡ []
  pub writes : WritesWithOwn me.0.known.writes_with me.0.known.numbers

-- the same, and its history began with as many words as there are
pub record IsHeld {S : Type 0} (words : WordsId) (me : Me S View) : Type 0 where
  pub whole : IsWhole me
  pub opened : length me.0.known.seen.opened ≡ words.words

-- a table of words alone, with a list of as many to put them into
pub record HasPlace (words : WordsId) (place : ℕ) : Type 0 where
  pub some_word : 0 < words.words
  pub no_slot : words.slots ≡ 0
  pub enough : place ≡ words.words

-- ---- the rule

-- the numbers of a view, and of the pass that it has taken in but not looked at since
abbrev pub taken_numbers : Option Part → List ℕ
taken_numbers None = []
taken_numbers (Some p) = p.numbers

abbrev pub numbers_of : View → List ℕ
numbers_of v = taken_numbers v.taken ++ v.known.numbers

-- What was seen is a beginning of the history, in which all entries with the numbers stand
pub record Saw (entries : List Entry) (numbers : List ℕ) (seen : List Entry) : Type 0 where
  pub begins : IsPrefix seen entries
  pub inside : (n : ℕ) → Contains numbers n → own n entries ≡ own n seen

-- the same of a pass that was taken in
pub record PartFits (opened : List ℕ) (entries : List Entry) (p : Part) : Type 0 where
  pub opened_is : p.seen.opened ≡ opened
  pub saw : Saw entries p.numbers p.seen.entries

abbrev pub TakenFits : List ℕ → List Entry → Option Part → Type 0
TakenFits opened entries None = Unit {0}
TakenFits opened entries (Some p) = PartFits opened entries p

-- One view of the history, where `count` numbers were drawn: what it has seen begins the history and has all entries with its numbers, and these differ and are below the count
pub record Fits (opened : List ℕ) (entries : List Entry) (count : ℕ) (v : View) : Type 0 where
  pub opened_is : v.live ≡ true → v.known.seen.opened ≡ opened
  pub saw : Saw entries v.known.numbers v.known.seen.entries
  pub taken_fits : TakenFits opened entries v.taken
  pub distinct : IsDistinct nat_eq (numbers_of v)
  pub below : (n : ℕ) → Contains (numbers_of v) n → n < count

abbrev pub AllFit : List ℕ → List Entry → ℕ → List View → Type 0
AllFit opened entries count views = (i : ℕ) (v : View) → get_elem? views i ≡ some v → Fits opened entries count v

-- no two views have a number in common
abbrev pub Apart : List View → Type 0
Apart views = (i j : ℕ) (v w : View) → i ≢ j → get_elem? views i ≡ some v → get_elem? views j ≡ some w → (n : ℕ) → Contains (numbers_of v) n → Contains (numbers_of w) n → ⊥

abbrev pub rooms : List View → ℕ
rooms views = sum_by (λ v. v.known.room) views

-- The rule, in five parts. The words are what one legal history leaves (`replied`, `words`). Each view has seen a beginning of it,
-- and all entries of its own numbers stand there (`fit`). The numbers of two views differ (`apart`). Each number of a view or an
-- entry is below word 0 (`numbered`, `fit`). Word 0 and the rooms of all views are at most 2^63 together (`room`). A spent view
-- has no number and no room.
pub record Kept {S : Type 0} (opened : List ℕ) (s : State S View) : Type 0 where
  pub entries : List Entry
  pub replied : AllReplied opened entries
  pub some_word : 0 < length s.words
  pub words : s.words ≡ words_after opened entries
  pub numbered : (e : Entry) → Contains entries e → e.number < slice_index s.words 0
  pub fit : AllFit opened entries (slice_index s.words 0) s.views
  pub apart : Apart s.views
  pub room : slice_index s.words 0 + rooms s.views ≤ 2 ^ 63
