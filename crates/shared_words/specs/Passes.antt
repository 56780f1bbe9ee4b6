-- What passes know, and what a call changes of it.
use Rattle.std.specs.Prelude.{◌≡◌, ◌≢◌, ℕ, ◌+◌, ◌^◌, List, [], ◌∷◌, ◌++◌, length, All, Contains, Some, unwrap_or}
use mathlib.Core.List.{IsPrefix}
use Rattle.atomic_table.specs.Seated.{TableId}
use Rattle.shared_words.specs.declared.log.Action.{Action}
use Rattle.shared_words.specs.declared.log.Entry.{Entry}
use Rattle.shared_words.specs.declared.log.History.{History}
use Rattle.shared_words.specs.declared.log.Known.{Known}
use Rattle.shared_words.specs.History.{entry_of, enrolment, IsLegal, own, replay}

-- which words they are, among all that were ever opened; its field `words` is their number
abbrev pub WordsId : Type 0
WordsId = TableId

-- a pass: the words that it is of, and what it knows
pub record Token : Type 0 where
  pub of : WordsId
  pub known : Known

-- a pass of these words, whose history began with so many
pub record IsPassOf (words : WordsId) (pass : Token) : Type 0 where
  pub of : pass.of ≡ words
  pub opened : length pass.known.seen.opened ≡ words.words

-- it has a number that it writes with
abbrev pub IsEnrolled : Known → Type 0
IsEnrolled k = (n : ℕ) × (k.writes_with ≡ Some n)

-- the number that an enrolled pass writes with
abbrev pub writer : Known → ℕ
writer k = unwrap_or k.writes_with 0

-- No number was given out, and none can be, but to this pass
abbrev pub IsSole : Known → Type 0
IsSole k = length k.numbers + k.room ≡ 2 ^ 63

-- each entry has one of the numbers
abbrev pub AllBy : List ℕ → List Entry → Type 0
AllBy numbers entries = All (λ e. Contains numbers e.number) entries

-- the first is a beginning of the second
pub record Begins (before after : History) : Type 0 where
  pub opened : after.opened ≡ before.opened
  pub entries : IsPrefix before.entries after.entries

-- A legal history that begins with all that was seen before got one entry more, and all of it is seen then. None of the entries in between has one of the numbers.
pub record Appends (numbers : List ℕ) (before after : History) (e : Entry) : Type 0 where
  pub between : List Entry
  pub opened : after.opened ≡ before.opened
  pub entries : after.entries ≡ (before.entries ++ between) ++ e ∷ []
  pub legal : IsLegal after
  pub others : All (λ n. own n between ≡ []) numbers

-- A pass appended the entry e. One that was sole missed nothing before it, and to one that is sole all entries belong
pub record Writes (before after : Known) (e : Entry) : Type 0 where
  pub appends : Appends before.numbers before.seen after.seen e
  pub sole : IsSole before → after.seen.entries ≡ before.seen.entries ++ e ∷ []
  pub whole : IsSole after → AllBy after.numbers after.seen.entries

-- an access of a pass
pub record Accesses (before after : Known) (action : Action) (place operand reply : ℕ) : Type 0 where
  pub same : after ≡ record before { seen = after.seen }
  pub writes : Writes before after (entry_of (writer before) action place operand reply)

-- a pass drew the number n, which neither it nor an earlier entry has, and writes with it from then on
pub record Enrols (before after : Known) (n : ℕ) : Type 0 where
  pub same : after ≡ record { numbers = before.numbers ++ n ∷ []; writes_with = Some n; room = after.room; seen = after.seen }
  pub room : after.room + 1 ≡ before.room
  pub writes : Writes before after (enrolment n)
  pub fresh : Contains before.numbers n → ⊥
  pub new : (e : Entry) → Contains (before.seen.entries ++ writes.appends.between) e → e.number ≢ n

-- A pass took in another, and has seen the whole of a legal history since. No number was held by both, and no entry of their numbers came since
pub record Merges (before from after : Known) : Type 0 where
  pub same : after ≡ record { numbers = from.numbers ++ before.numbers; writes_with = before.writes_with; room = before.room + from.room; seen = after.seen }
  pub apart : (n : ℕ) → Contains before.numbers n → Contains from.numbers n → ⊥
  pub legal : IsLegal after.seen
  pub begins : Begins before.seen after.seen
  pub from_begins : Begins from.seen after.seen
  pub own_kept : All (λ n. own n after.seen.entries ≡ own n before.seen.entries) before.numbers
  pub from_own_kept : All (λ n. own n after.seen.entries ≡ own n from.seen.entries) from.numbers
  pub whole : IsSole after → AllBy after.numbers after.seen.entries

-- The words at the end are those that a legal history leaves, of which the pass had seen a beginning, and a sole pass all
pub record Ends (k : Known) (words : List ℕ) : Type 0 where
  pub history : History
  pub begins : Begins k.seen history
  pub legal : IsLegal history
  pub words_are : words ≡ replay history
  pub sole : IsSole k → history ≡ k.seen
