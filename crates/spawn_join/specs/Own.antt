-- What one control unit of a section does of its own: the entries of its number behind the enrolment lead it from one state to another.
use Rattle.std.specs.Prelude.{⊤, ◌≡◌, ℕ, ◌^◌, ◌<◌, ◌≤◌, ◌⊎◌, if◌then◌else◌, Bool, true, false, List, [], ◌∷◌, Some}
use Rattle.xmt_base.specs.declared.values.Trap.{Trap}
use Rattle.shared_words.specs.declared.log.Action.{Action}
use Rattle.shared_words.specs.declared.log.Action.TheVariants.{Add}
use Rattle.shared_words.specs.declared.log.Entry as accesses
use Rattle.shared_words.specs.declared.log.History.{History}
use Rattle.shared_words.specs.declared.log.Known.{Known}
use Rattle.shared_words.specs.History.{entry_of}
use Rattle.shared_words.specs.Passes.{Accesses}
use Rattle.shared_words.specs.Sections.{Ran}
use Rattle.prefix_sum.specs.Draws.{late}
use Rattle.interleaving.specs.Actors.{Entry, Does}
use Rattle.xmt_isa.specs.declared.image.Image.{Image}
use Rattle.xmt_isa.specs.declared.unit.Unit.{Unit}
use Rattle.xmt_isa.specs.declared.unit.UnitState.TheVariants as state
use Rattle.xmt_isa.specs.declared.unit.Start.{Start}
use Rattle.xmt_isa.specs.declared.unit.Request.{Request}
use Rattle.xmt_isa.specs.declared.unit.Next.TheVariants as next
use Rattle.xmt_isa.specs.Step.{more, next_of}
use Rattle.xmt_isa.specs.Machine.{is_stopped}
use Rattle.xmt_isa.specs.Picked.{is_live}
use Rattle.xmt_isa.specs.Fits.{UnitFits}
use Rattle.unit_steps.specs.Steps.{HasSpent, StandsAtTrap}
use Rattle.machine_sections.specs.Merge.{unit_move}
use Rattle.machine_histories.specs.Histories.{order_of}

-- an access that a unit makes: of a word of the machine, with an operand of 32 bits, or a draw
abbrev pub IsAccess : (action : Action) → (place operand : ℕ) → Type 0
IsAccess action place operand = ((4 ≤ place) × (operand < 2 ^ 32)) ⊎ ((place ≡ 1) × (action ≡ Add) × (operand ≡ 1))

abbrev pub AreAccesses : List accesses.Entry → Type 0
AreAccesses [] = ⊤
AreAccesses (e ∷ es) = IsAccess e.action e.place e.operand × AreAccesses es

-- a unit by itself does just this part and comes to another
abbrev pub Comes : Image → Start → Unit → List (Entry Request) → Unit → Type 0
Comes image start old part new = (steps : ℕ) × Does (unit_move image start) steps old part new

abbrev pub one_if : Bool → ℕ
one_if b = if b then 1 else 0

-- These entries are accesses of a unit, and lead it from one state to another. It got a number from the count on just where it has
-- stopped, and then once.
pub record DoesOwn (image : Image) (start : Start) (old : Unit) (made : List accesses.Entry) (new : Unit) : Type 0 where
  pub comes : (unit_of : ℕ → ℕ) → Comes image start old (order_of unit_of made) new
  pub accesses_are : AreAccesses made
  pub late_are : late 1 start.count made ≡ one_if (is_stopped new.state)

-- a unit that waits asks for this
pub record AsksFor (image : Image) (start : Start) (u : Unit) (request : Request) : Type 0 where
  pub live : is_live u.state ≡ true
  pub next : next_of image start u ≡ next.Ask request
  pub waits : u.waits ≡ true

-- a pass made the access that a unit asked for, and the unit has its reply
pub record Served (image : Image) (start : Start) (k after : Known) (u v : Unit) : Type 0 where
  pub action : Action
  pub place : ℕ
  pub operand : ℕ
  pub reply : ℕ
  pub writes : Accesses k after action place operand reply
  pub is_access : IsAccess action place operand
  pub leads : (number : ℕ) (unit_of : ℕ → ℕ)
      → Comes image start u (order_of unit_of (entry_of number action place operand reply ∷ [])) v
  pub late_are : (number : ℕ) → late 1 start.count (entry_of number action place operand reply ∷ []) ≡ one_if (is_stopped v.state)
  pub live : is_live u.state ≡ true
  pub number : v.number ≡ u.number
  pub steps : v.counts.steps ≡ more u.counts.steps
  pub free : v.waits ≡ false

-- it has stopped, or stands at a trap with steps below the budget, or has done as many steps as the budget
abbrev pub HasEnded : Image → Start → (budget : ℕ) → Unit → Type 0
HasEnded image start budget u =
    (u.state ≡ state.Stopped) ⊎ (((trap : Trap) × (u.counts.steps < budget) × StandsAtTrap image start u trap) ⊎ HasSpent budget u)

-- a unit and its pass, some steps and at most one access later
pub record Went (image : Image) (start : Start) (budget : ℕ) (k after : Known) (u v : Unit) : Type 0 where
  pub fits : UnitFits image start v
  pub free : v.waits ≡ false
  pub within : v.counts.steps ≤ budget
  pub number : v.number ≡ u.number
  pub writes_with : after.writes_with ≡ k.writes_with
  pub runs : (seen : History) (n : ℕ) (first : Unit) → k.writes_with ≡ Some n
      → Ran (DoesOwn image start) seen n k first u → Ran (DoesOwn image start) seen n after first v
