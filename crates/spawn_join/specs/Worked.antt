-- What a worker was given, and what it has done.
use Rattle.std.specs.Prelude.{◌≡◌, ◌≢◌, ℕ, ◌<◌, ◌≤◌, false, ◌^◌, nat_eq, Contains, List, [], length, slice_index_or, map, Option, Some, None}
use Rattle.std.specs.List.{IsDistinct}
use Rattle.shared_words.specs.declared.log.Entry.{Entry}
use Rattle.shared_words.specs.History.{IsLegal, replay}
use Rattle.shared_words.specs.declared.log.History.{History}
use Rattle.shared_words.specs.declared.log.Known.{Known}
use Rattle.shared_words.specs.Passes.{WordsId, Token, IsPassOf}
use Rattle.shared_words.specs.Sections.{unnumbered, Ran, AllOwnRuns}
use Rattle.xmt_isa.specs.declared.image.Image.{Image}
use Rattle.xmt_isa.specs.declared.unit.Unit.{Unit}
use Rattle.xmt_isa.specs.declared.unit.UnitState.TheVariants as state
use Rattle.xmt_isa.specs.declared.unit.Start.{Start}
use Rattle.xmt_isa.specs.Fits.{UnitFits}
use Rattle.spawn_join.specs.declared.worker.Worker.{Worker}
use Rattle.spawn_join.specs.Own.{DoesOwn, HasEnded}

-- a control unit that is due to draw
pub record IsDue (image : Image) (start : Start) (budget : ℕ) (u : Unit) : Type 0 where
  pub fits : UnitFits image start u
  pub control : u.number ≢ 0
  pub draws : u.state ≡ state.Draws
  pub free : u.waits ≡ false
  pub within : u.counts.steps ≤ budget

-- a pass of these words that has no number, and may draw one; it has seen this
abbrev pub MayEnrol : WordsId → History → Option Token → Type 0
MayEnrol words seen None = ⊥
MayEnrol words seen (Some p) = IsPassOf words p × (p.known ≡ unnumbered seen)

-- a worker that may run
pub record IsReady (image : Image) (start : Start) (budget : ℕ) (words : WordsId) (w : Worker) : Type 0 where
  pub unit : IsDue image start budget w.unit
  pub seen : History
  pub pass : MayEnrol words seen w.pass

-- the worker has got its pass
pub record IsGiven (words : WordsId) (seen : History) (old new : Worker) : Type 0 where
  pub unit : new.unit ≡ old.unit
  pub pass : MayEnrol words seen new.pass

-- the unit of a worker ran until it ended, by its own entries behind the enrolment of its number
pub record HasRun (image : Image) (start : Start) (budget : ℕ) (words : WordsId) (seen : History) (old : Unit) (new : Worker) : Type 0
  where
    pub number : ℕ
    pub token : Token
    pub pass : new.pass ≡ Some token
    pub of : IsPassOf words token
    pub ran : Ran (DoesOwn image start) seen number token.known old new.unit
    pub same : new.unit.number ≡ old.number
    pub fits : UnitFits image start new.unit
    pub free : new.unit.waits ≡ false
    pub within : new.unit.counts.steps ≤ budget
    pub ended : HasEnded image start budget new.unit

-- the same, whatever its pass had seen
abbrev pub HasWorked : Image → Start → (budget : ℕ) → WordsId → (old new : Worker) → Type 0
HasWorked image start budget words old new =
    (seen : History) → MayEnrol words seen old.pass → HasRun image start budget words seen old.unit new

-- it has a pass of these words
abbrev pub HasPass : WordsId → Option Token → Type 0
HasPass words None = ⊥
HasPass words (Some p) = IsPassOf words p

-- what the pass of a worker knows
abbrev pub known_of : Option Token → Known
known_of None = record { numbers = []; writes_with = None; room = 0; seen = record { opened = []; entries = [] } }
known_of (Some p) = p.known

abbrev pub knowns : List Worker → List Known
knowns ws = map (λ (w : Worker). known_of w.pass) ws

-- its pass was taken from it
pub record IsTaken (old new : Worker) : Type 0 where
  pub unit : new.unit ≡ old.unit
  pub pass : new.pass ≡ None

abbrev pub unit_in : Worker → Unit
unit_in w = w.unit

abbrev pub units_of : List Worker → List Unit
units_of ws = map unit_in ws

-- the pass that begins a history of these words
abbrev pub opening : List ℕ → Known
opening words = record { numbers = []; writes_with = None; room = 2 ^ 63; seen = record { opened = words; entries = [] } }

-- Units ran at once over words, and left others: there is a legal history that begins with these words and leaves those. Each unit has
-- a number of its own, and the entries of this number behind its enrolment lead the unit from one state to the other. There are no others.
pub record RanAtOnce (image : Image) (start : Start) (words : List ℕ) (olds news : List Worker) (left : List ℕ) : Type 0 where
  pub history : History
  pub opened : history.opened ≡ words
  pub legal : IsLegal history
  pub left_are : left ≡ replay history
  pub numbers : List ℕ
  pub distinct : IsDistinct nat_eq numbers
  pub runs : AllOwnRuns (DoesOwn image start) history.entries numbers (units_of olds) (units_of news)
  pub only : (e : Entry) → Contains history.entries e → Contains numbers e.number

-- What a section leaves in a worker: its unit has ended, and its pass was taken back.
pub record HasFinished (image : Image) (start : Start) (budget : ℕ) (old new : Worker) : Type 0 where
  pub pass : new.pass ≡ None
  pub number : new.unit.number ≡ old.unit.number
  pub fits : UnitFits image start new.unit
  pub free : new.unit.waits ≡ false
  pub within : new.unit.counts.steps ≤ budget
  pub ended : HasEnded image start budget new.unit

-- ---- of all workers, each in its place

abbrev pub AllGiven : WordsId → History → (olds news : List Worker) → Type 0
AllGiven words seen olds news =
    (i : ℕ) (d : Worker) → i < length olds → IsGiven words seen (slice_index_or olds i d) (slice_index_or news i d)

abbrev pub AllHaveWorked : Image → Start → (budget : ℕ) → WordsId → (olds news : List Worker) → Type 0
AllHaveWorked image start budget words olds news =
    (i : ℕ) (d : Worker) → i < length olds → HasWorked image start budget words (slice_index_or olds i d) (slice_index_or news i d)

abbrev pub AllTaken : (olds news : List Worker) → Type 0
AllTaken olds news = (i : ℕ) (d : Worker) → i < length olds → IsTaken (slice_index_or olds i d) (slice_index_or news i d)

abbrev pub AllFinished : Image → Start → (budget : ℕ) → (olds news : List Worker) → Type 0
AllFinished image start budget olds news =
    (i : ℕ) (d : Worker) → i < length olds → HasFinished image start budget (slice_index_or olds i d) (slice_index_or news i d)
