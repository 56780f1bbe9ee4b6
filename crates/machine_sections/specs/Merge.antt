-- The control units of a section: what each does by itself, and a lawful order of their requests, make a schedule.
use Rattle.std.specs.Prelude.{◌≡◌, ⊤, ℕ, suc, ◌+◌, ◌%◌, ◌^◌, ◌<◌, true, false, if◌then◌else◌, List, ◌∷◌, length, slice_get, slice_index, slice_set}
use Rattle.std.specs.declared.option.Option.TheVariants.{Some}
use Rattle.std.specs.List.{list_all}
use Rattle.interleaving.specs.Actors.{Move, Rests, Alone, Acts, Entry, part_of, Does, world_after, IsLawfulBy}
use Rattle.xmt_isa.specs.declared.image.Image.{Image}
use Rattle.xmt_isa.specs.declared.unit.Unit.{Unit}
use Rattle.xmt_isa.specs.declared.unit.Start.{Start}
use Rattle.xmt_isa.specs.declared.unit.Request.{Request}
use Rattle.xmt_isa.specs.declared.unit.Request.TheVariants.{Load, Store, Add, Draw, Print, Spawn}
use Rattle.xmt_isa.specs.declared.unit.Next.{Next}
use Rattle.xmt_isa.specs.declared.unit.Next.TheVariants as next
use Rattle.xmt_isa.specs.Step.{more, next_of, local_of, answer_of}
use Rattle.xmt_isa.specs.Machine.{Machine, is_stopped, joins, after}
use Rattle.xmt_isa.specs.Picked.{is_live}
use Rattle.xmt_isa.specs.Legal.{IsLegal}

-- the words, and the next number to be drawn
pub record Cells : Type 0 where
  pub words : List ℕ
  pub drawn : ℕ

abbrev pub after_request : Cells → Request → Cells
after_request c (Load at) = c
after_request c (Store at value) = record c { words = slice_set c.words at value }
after_request c (Add at value) = record c { words = slice_set c.words at ((slice_index c.words at + value) % 2 ^ 32) }
after_request c Draw = record c { drawn = more c.drawn }
after_request c (Print text) = c
after_request c (Spawn ask) = c

-- the reply to a request
abbrev pub told : Cells → Request → ℕ
told c (Load at) = slice_index c.words at
told c (Store at value) = 0
told c (Add at value) = slice_index c.words at
told c Draw = c.drawn
told c (Print text) = 0
told c (Spawn ask) = 0

-- a request of a block
abbrev pub IsOfBlock : Request → Type 0
IsOfBlock (Load at) = ⊤
IsOfBlock (Store at value) = ⊤
IsOfBlock (Add at value) = ⊤
IsOfBlock Draw = ⊤
IsOfBlock (Print text) = ⊥
IsOfBlock (Spawn ask) = ⊥

abbrev pub after_cell : Cells → Entry Request → Cells
after_cell c e = after_request c e.action

abbrev pub IsTold : (count : ℕ) → Cells → Entry Request → Type 0
IsTold count c e = (e.actor < count) × (e.reply ≡ told c e.action) × IsOfBlock e.action

-- ---- a unit by itself

abbrev pub unit_move_by : Image → Start → Unit → Next → Move Unit Request
unit_move_by image start u next.Local = Alone (local_of image start u)
unit_move_by image start u (next.Trap kind) = Rests
unit_move_by image start u (next.Ask ask) = Acts ask (answer_of image start u)

abbrev pub unit_move : Image → Start → Unit → Move Unit Request
unit_move image start u = if is_live u.state then unit_move_by image start u (next_of image start u) else Rests

-- A unit does just this part by itself, and becomes another, but for the field that tells that a request is unanswered.
abbrev pub IsLocal : Image → Start → (old : Unit) → List (Entry Request) → (new : Unit) → Type 0
IsLocal image start old part new = (steps : ℕ) × (mid : Unit) × Does (unit_move image start) steps old part mid × (new ≡ record mid { waits = new.waits })

-- a unit comes by itself, by some part of its own, from one state to another
pub record GoesOn (image : Image) (start : Start) (old new : Unit) : Type 0 where
  pub part : List (Entry Request)
  pub steps : ℕ
  pub does : Does (unit_move image start) steps old part new

-- ---- a section

-- a section goes on
pub record IsOpen (m : Machine) (master : Unit) (rest : List Unit) : Type 0 where
  pub units : m.units ≡ master ∷ rest
  pub waits : master.waits ≡ true
  pub numbers : (place : ℕ) (u : Unit) → slice_get rest place ≡ Some u → u.number ≡ 1 + place
  -- some unit has not stopped
  pub some : list_all (λ u. is_stopped u.state) rest ≡ false

-- where a lawful order of requests is given, and each unit by itself makes just its own, there is a legal schedule that leads
-- to these units, but for the field that tells that a request is unanswered, and to the words that the order tells
pub record Merged (image : Image) (m : Machine) (master : Unit) (ends : ℕ → Unit) (count : ℕ) (c : Cells) : Type 0 where
  pub schedule : List ℕ
  pub there : Machine
  pub legal : IsLegal image m schedule
  pub leads : after image m schedule ≡ there
  pub rest : List Unit
  pub units : there.units ≡ joins image m.start (master ∷ rest)
  pub size : length rest ≡ count
  pub each : (place : ℕ) → place < count → (u : Unit) × (slice_get rest place ≡ Some u) × (ends place ≡ record u { waits = (ends place).waits })
  pub goes : (place : ℕ) → place < count → (old u : Unit) → slice_get m.units (suc place) ≡ Some old → slice_get rest place ≡ Some u → GoesOn image m.start old u
  pub words : there.words ≡ c.words
  pub drawn : there.drawn ≡ c.drawn
  pub start : there.start ≡ m.start
  pub out : there.out ≡ m.out

abbrev pub SectionsMerge : Type 0
SectionsMerge =
    (image : Image) (m : Machine) (master : Unit) (rest : List Unit) (order : List (Entry Request)) (ends : ℕ → Unit) → IsOpen m master rest →
    IsLawfulBy after_cell (IsTold (length rest)) (record { words = m.words; drawn = m.drawn }) order →
    ((place : ℕ) (u : Unit) → slice_get rest place ≡ Some u → IsLocal image m.start u (part_of place order) (ends place)) →
    Merged image m master ends (length rest) (world_after after_cell (record { words = m.words; drawn = m.drawn }) order)
