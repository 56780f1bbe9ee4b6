-- How a section ended, by its units.
use Rattle.std.specs.Prelude.{◌≡◌, ℕ, ◌<◌, List, Option, MatchOption, length, slice_index_or}
use Rattle.xmt_base.specs.declared.values.Trap.{Trap}
use Rattle.xmt_isa.specs.declared.image.Image.{Image}
use Rattle.xmt_isa.specs.declared.unit.Unit.{Unit}
use Rattle.xmt_isa.specs.declared.unit.Start.{Start}
use Rattle.unit_steps.specs.Steps.{HasSpent, StandsAtTrap}
use Rattle.xmt_isa.specs.declared.unit.UnitState.TheVariants as state
use Rattle.spawn_join.specs.declared.worker.Worker.{Worker}
use Rattle.spawn_join.specs.declared.end.SectionEnd.{SectionEnd}
use Rattle.spawn_join.specs.declared.end.SectionEnd.TheVariants as section
use Rattle.spawn_join.specs.Worked.{AllFinished, RanAtOnce}

-- it stands at this trap, with steps below the budget
abbrev pub HasTrapped : Image → Start → (budget : ℕ) → Unit → Trap → Type 0
HasTrapped image start budget u trap = (u.counts.steps < budget) × StandsAtTrap image start u trap

abbrev pub NoTrap : Image → Start → (budget : ℕ) → Unit → Type 0
NoTrap image start budget u = (trap : Trap) → HasTrapped image start budget u trap → ⊥

-- none of the first so many units stands at a trap
abbrev pub NoneTrappedTo : Image → Start → (budget : ℕ) → List Worker → ℕ → Type 0
NoneTrappedTo image start budget ws to = (i : ℕ) (d : Worker) → i < to → NoTrap image start budget (slice_index_or ws i d).unit

abbrev pub NoneTrapped : Image → Start → (budget : ℕ) → List Worker → Type 0
NoneTrapped image start budget ws = NoneTrappedTo image start budget ws (length ws)

-- this is the number of the first unit that stands at a trap, and its trap
pub record IsFirstTrapped (image : Image) (start : Start) (budget : ℕ) (ws : List Worker) (number : ℕ) (trap : Trap) : Type 0 where
  pub place : ℕ
  pub inside : place < length ws
  pub trapped : (d : Worker) → HasTrapped image start budget (slice_index_or ws place d).unit trap
  pub number_is : (d : Worker) → (slice_index_or ws place d).unit.number ≡ number
  pub first : NoneTrappedTo image start budget ws place

-- what a look for the first unit at a trap finds
abbrev pub FindsTrapped : Image → Start → (budget : ℕ) → List Worker → Option (ℕ × Trap) → Type 0
FindsTrapped image start budget ws found =
    MatchOption found (NoneTrapped image start budget ws) (λ r. IsFirstTrapped image start budget ws r.0 r.1)

-- none of the first so many units has spent its budget
abbrev pub NoneSpentTo : (budget : ℕ) → List Worker → ℕ → Type 0
NoneSpentTo budget ws to = (i : ℕ) (d : Worker) → i < to → HasSpent budget (slice_index_or ws i d).unit → ⊥

abbrev pub NoneSpent : (budget : ℕ) → List Worker → Type 0
NoneSpent budget ws = NoneSpentTo budget ws (length ws)

-- this is the number of the first active unit that has done as many steps as the budget
pub record IsFirstSpent (budget : ℕ) (ws : List Worker) (number : ℕ) : Type 0 where
  pub place : ℕ
  pub inside : place < length ws
  pub spent : (d : Worker) → HasSpent budget (slice_index_or ws place d).unit
  pub number_is : (d : Worker) → (slice_index_or ws place d).unit.number ≡ number
  pub first : NoneSpentTo budget ws place

abbrev pub AllStopped : List Worker → Type 0
AllStopped ws = (i : ℕ) (d : Worker) → i < length ws → (slice_index_or ws i d).unit.state ≡ state.Stopped

-- how the units ended
abbrev pub EndsAs : Image → Start → (budget : ℕ) → List Worker → SectionEnd → Type 0
EndsAs image start budget ws section.All = NoneTrapped image start budget ws × NoneSpent budget ws
EndsAs image start budget ws (section.Trap number trap) = IsFirstTrapped image start budget ws number trap
EndsAs image start budget ws (section.Spent number) = NoneTrapped image start budget ws × IsFirstSpent budget ws number
EndsAs image start budget ws section.NoMemory = ⊥

-- What a section has done with words and units. Without memory they are as before. Else one legal history led from the words to those
-- that are left, and each unit by its own entries to where it has ended. All have stopped; or the first is named that stands at a trap;
-- or none does, and the first is named that has spent its budget.
abbrev pub SectionGives : Image → Start → (budget : ℕ) → (words : List ℕ) → (olds news : List Worker) → (left : List ℕ) → SectionEnd
    → Type 0
SectionGives image start budget words olds news left section.NoMemory = (left ≡ words) × (news ≡ olds)
SectionGives image start budget words olds news left section.All =
    RanAtOnce image start words olds news left × AllFinished image start budget olds news × AllStopped news
SectionGives image start budget words olds news left (section.Trap number trap) =
    RanAtOnce image start words olds news left × AllFinished image start budget olds news
    × IsFirstTrapped image start budget news number trap
SectionGives image start budget words olds news left (section.Spent number) =
    RanAtOnce image start words olds news left × AllFinished image start budget olds news
    × NoneTrapped image start budget news × IsFirstSpent budget news number
