-- The machine: a master and its control units over shared words, one instruction a turn.
use Rattle.std.specs.Prelude.{ℕ, ◌+◌, ◌*◌, ◌%◌, ◌/◌, ◌^◌, ◌==◌, if◌then◌else◌, Bool, true, false, List, [], ◌∷◌, ◌++◌, map, take, drop, slice_get, slice_index, slice_set, position, unwrap_or}
use Rattle.std.specs.declared.option.Option.{Option}
use Rattle.std.specs.declared.option.Option.TheVariants.{Some, None}
use Rattle.std.specs.Option.{option_map_or}
use Rattle.std.specs.List.{list_all}
use Rattle.xmt_base.specs.Operators.{count_between}
use Rattle.xmt_isa.specs.declared.image.Image.{Image}
use Rattle.xmt_isa.specs.declared.image.Instr.{Instr}
use Rattle.xmt_isa.specs.declared.unit.Unit.{Unit}
use Rattle.xmt_isa.specs.declared.unit.UnitState.{UnitState}
use Rattle.xmt_isa.specs.declared.unit.UnitState.TheVariants.{Draws, Runs, Stopped, Halted}
use Rattle.xmt_isa.specs.declared.unit.Start.{Start}
use Rattle.xmt_isa.specs.declared.unit.SpawnAsk.{SpawnAsk}
use Rattle.xmt_isa.specs.declared.unit.Request.{Request}
use Rattle.xmt_isa.specs.declared.unit.Request.TheVariants.{Load, Store, Add, Draw, Print, Spawn}
use Rattle.xmt_isa.specs.declared.unit.Next.{Next}
use Rattle.xmt_isa.specs.declared.unit.Next.TheVariants as next
use Rattle.xmt_isa.specs.Step.{more, next_of, local_of, answer_of}
use Rattle.xmt_base.specs.Text.{piece}

-- the whole machine
pub record Machine : Type 0 where
  -- the master, and then the control units in order of their numbers
  pub units : List Unit
  -- four words that the model leaves at 0, the eight registers, the data words, and the outer words by depth
  pub words : List ℕ
  -- the next number to be drawn
  pub drawn : ℕ
  -- what the last spawn broadcast
  pub start : Start
  -- what was printed
  pub out : List ℕ

-- these registers, with 0 in place of those whose bit isn't set
abbrev pub masked : ℕ → List ℕ → List ℕ
masked mask [] = []
masked mask (r ∷ rs) = (if mask % 2 == 1 then r else 0) ∷ masked (mask / 2) rs

-- what the master broadcasts
abbrev pub broadcast : Unit → SpawnAsk → Start
broadcast u ask = record {
  at = ask.at;
  low = ask.low;
  count = count_between ask.low ask.high;
  depth = u.depth;
  regs = masked ask.mask u.regs;
  frame = take 512 (drop (512 * u.depth) u.frames);
}

-- the master at a spawn, for whose threads it waits
abbrev pub waits_for : Unit → Unit
waits_for u = record u { waits = true; counts = record u.counts { steps = more u.counts.steps } }

-- a control unit at the beginning of a section
abbrev pub ready : Unit → Unit
ready u = record u { state = Draws }

abbrev pub is_join : Instr → Bool
is_join i = i.op == 45

-- the instruction behind the join of the block that begins here
abbrev pub behind_join : Image → ℕ → ℕ
behind_join image at = at + option_map_or (λ k. k + 1) (position is_join (drop at image.code)) 0

-- the master when all threads of the block have ended
abbrev pub resumes : Image → Start → Unit → Unit
resumes image start u = record u { waits = false; at = behind_join image start.at }

abbrev pub is_stopped : UnitState → Bool
is_stopped Draws = false
is_stopped Runs = false
is_stopped Stopped = true
is_stopped Halted = false

-- the master goes on where all control units have stopped
abbrev pub joins : Image → Start → List Unit → List Unit
joins image start [] = []
joins image start (master ∷ units) = if list_all (λ u. is_stopped u.state) units then resumes image start master ∷ units else master ∷ units

-- the units at a spawn: each is due to draw, but for the one that waits for them
abbrev pub spawns : List Unit → ℕ → Unit → List Unit
spawns units k u = slice_set (map ready units) k (waits_for u)

-- the text with this number; none has the empty one
abbrev pub text_of : Image → ℕ → List ℕ
text_of image text = unwrap_or (slice_get image.texts text) []

-- the machine with another unit in a place
abbrev pub puts : Machine → ℕ → Unit → Machine
puts m k u = record m { units = slice_set m.units k u }

-- the machine after a unit's request
abbrev pub serves : Image → Machine → ℕ → Unit → Request → Machine
serves image m k u (Load at) = puts m k (answer_of image m.start u (slice_index m.words at))
serves image m k u (Store at value) = record (puts m k (answer_of image m.start u 0)) { words = slice_set m.words at value }
serves image m k u (Add at value) =
    record (puts m k (answer_of image m.start u (slice_index m.words at))) { words = slice_set m.words at ((slice_index m.words at + value) % 2 ^ 32) }
serves image m k u (Print text) = record (puts m k (answer_of image m.start u 0)) { out = m.out ++ piece (text_of image text) u.list }
serves image m k u Draw = record m { units = joins image m.start (slice_set m.units k (answer_of image m.start u m.drawn)); drawn = more m.drawn }
serves image m k u (Spawn ask) = record m { units = spawns m.units k u; drawn = 0; start = broadcast u ask }

-- the machine after a unit's turn; a unit at a trap has none
abbrev pub moves : Image → Machine → ℕ → Unit → Next → Machine
moves image m k u next.Local = puts m k (local_of image m.start u)
moves image m k u (next.Trap kind) = m
moves image m k u (next.Ask request) = serves image m k u request

abbrev pub turn_of : Image → Machine → ℕ → Option Unit → Machine
turn_of image m k None = m
turn_of image m k (Some u) = moves image m k u (next_of image m.start u)

-- the machine after a turn of the unit with this number
abbrev pub turn : Image → Machine → ℕ → Machine
turn image m k = turn_of image m k (slice_get m.units k)

-- the machine after these turns
abbrev pub after : Image → Machine → List ℕ → Machine
after image m [] = m
after image m (k ∷ ks) = after image (turn image m k) ks
