-- Histories of a section: every access of the shared words in its order, with the number of its caller. Word 0 gives out the numbers, word 1 is drawn from, word 3 halts the units, and from 4 on stand the words of the machine.
use Rattle.std.specs.Prelude.{◌≡◌, ⊤, ℕ, ◌+◌, ◌%◌, ◌^◌, ◌<◌, ◌≤◌, ◌==◌, nat_lt, if◌then◌else◌, List, [], ◌∷◌, length, ◌⊎◌, slice_get, slice_index}
use Rattle.std.specs.declared.option.Option.TheVariants.{Some}
use Rattle.shared_words.specs.declared.log.Action.{Action}
use Rattle.shared_words.specs.declared.log.Action.TheVariants.{Load, Store, Add}
use Rattle.shared_words.specs.declared.log.Entry as accesses
use Rattle.shared_words.specs.History.{words_after, AllReplied}
use Rattle.interleaving.specs.Actors.{Entry, part_of}
use Rattle.xmt_isa.specs.declared.image.Image.{Image}
use Rattle.xmt_isa.specs.declared.unit.Unit.{Unit}
use Rattle.xmt_isa.specs.declared.unit.Request.{Request}
use Rattle.xmt_isa.specs.declared.unit.Request.TheVariants as request
use Rattle.xmt_isa.specs.Machine.{Machine}
use Rattle.machine_sections.specs.Merge.{Cells, IsOpen, IsLocal, Merged}

-- what a section leaves in a history: accesses of the machine's words, draws, and what no unit asked for
abbrev pub IsAllowed : (unit_of : ℕ → ℕ) → (count : ℕ) → accesses.Entry → Type 0
IsAllowed unit_of count e =
    ((4 ≤ e.place) × (e.operand < 2 ^ 32) × (unit_of e.number < count))
    ⊎ ((e.place ≡ 1) × (e.action ≡ Add) × (e.operand ≡ 1) × (unit_of e.number < count))
    ⊎ ((e.place ≡ 0) ⊎ (e.place ≡ 3))

abbrev pub AreAllowed : (unit_of : ℕ → ℕ) → (count : ℕ) → List accesses.Entry → Type 0
AreAllowed unit_of count [] = ⊤
AreAllowed unit_of count (e ∷ h) = IsAllowed unit_of count e × AreAllowed unit_of count h

-- how often a number is drawn
abbrev pub draws_in : List accesses.Entry → ℕ
draws_in [] = 0
draws_in (e ∷ h) = (if e.place == 1 then 1 else 0) + draws_in h

-- the request of a unit that an access serves, with the reply in 32 bits
abbrev pub served_by : (unit : ℕ) → Action → (place operand reply : ℕ) → Entry Request
served_by unit Load place operand reply = record { actor = unit; action = request.Load place; reply = reply % 2 ^ 32 }
served_by unit Store place operand reply = record { actor = unit; action = request.Store place operand; reply = 0 }
served_by unit Add place operand reply = record { actor = unit; action = request.Add place operand; reply = reply % 2 ^ 32 }

-- the requests of all units in their order
abbrev pub order_of : (unit_of : ℕ → ℕ) → List accesses.Entry → List (Entry Request)
order_of unit_of [] = []
order_of unit_of (e ∷ h) =
    if nat_lt 3 e.place then served_by (unit_of e.number) e.action e.place e.operand e.reply ∷ order_of unit_of h
    else (if e.place == 1 then record { actor = unit_of e.number; action = request.Draw; reply = e.reply } ∷ order_of unit_of h else order_of unit_of h)

-- the words of a table are those of a machine, in 64 bits
pub record Agrees (words : List ℕ) (c : Cells) : Type 0 where
  pub size : length c.words ≡ length words
  pub each : (place : ℕ) → 4 ≤ place → slice_index c.words place ≡ slice_index words place % 2 ^ 32
  pub drawn : c.drawn ≡ slice_index words 1
  pub long : 4 ≤ length words

-- the four words in front of those of the machine are the same
abbrev pub KeepsFirst : List ℕ → List ℕ → Type 0
KeepsFirst old new = (place : ℕ) → place < 4 → slice_index new place ≡ slice_index old place

-- A legal history of a section, with what each unit did alone, is a run of the machine by a legal schedule. `unit_of` tells
-- which unit a number of a caller belongs to.
abbrev pub HistoriesMerge : Type 0
HistoriesMerge =
    (image : Image) (m : Machine) (master : Unit) (rest : List Unit) (words : List ℕ) (h : List accesses.Entry) (unit_of : ℕ → ℕ) (ends : ℕ → Unit) →
    IsOpen m master rest → Agrees words (record { words = m.words; drawn = m.drawn }) →
    AllReplied words h → AreAllowed unit_of (length rest) h → slice_index words 1 + draws_in h < 2 ^ 64 →
    ((place : ℕ) (u : Unit) → slice_get rest place ≡ Some u → IsLocal image m.start u (part_of place (order_of unit_of h)) (ends place)) →
    (c : Cells) × Agrees (words_after words h) c × Merged image m master ends (length rest) c × KeepsFirst m.words c.words
