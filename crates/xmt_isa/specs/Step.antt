-- One instruction of one unit.
use Rattle.std.specs.Prelude.{ℕ, ◌+◌, ◌-◌, ◌*◌, ◌%◌, ◌^◌, ◌==◌, if◌then◌else◌, Bool, true, false, nat_lt, length, slice_index, slice_set, unwrap_or}
use Rattle.std.specs.declared.option.Option.{Option}
use Rattle.std.specs.declared.option.Option.TheVariants.{Some, None}
use Rattle.xmt_base.specs.Operators.{unary_value, binary_value}
use Rattle.xmt_base.specs.Counters.{capped}
use Rattle.xmt_base.specs.declared.values.TrapKind.TheVariants.{DivideByZero, Index, PsIncrement, CallDepth, Address}
use Rattle.xmt_isa.specs.declared.image.Image.{Image}
use Rattle.xmt_isa.specs.declared.operation.Operation.{Operation}
use Rattle.xmt_isa.specs.declared.operation.Operation.TheVariants.{Set, Unary, Binary, Jump, IfZero, IfNot, Call, Return, ReadSlot, WriteSlot, WriteArgument, ReadArgument, ReadMaster, Check, Load, Store, Add, Print, Spawn, Join}
use Rattle.xmt_isa.specs.declared.operation.Location.{Location}
use Rattle.xmt_isa.specs.declared.operation.Location.TheVariants.{Word, Indexed, Outer, Register}
use Rattle.xmt_isa.specs.declared.unit.Unit.{Unit}
use Rattle.xmt_isa.specs.declared.unit.UnitState.{UnitState}
use Rattle.xmt_isa.specs.declared.unit.UnitState.TheVariants.{Draws, Runs, Stopped, Halted}
use Rattle.xmt_isa.specs.declared.unit.Start.{Start}
use Rattle.xmt_isa.specs.declared.unit.Request.{Request}
use Rattle.xmt_isa.specs.declared.unit.Request.TheVariants as request
use Rattle.xmt_isa.specs.declared.unit.Next.{Next}
use Rattle.xmt_isa.specs.declared.unit.Next.TheVariants.{Local, Trap, Ask}
use Rattle.xmt_isa.specs.Image.{operation_at, start_of}

-- what a register holds
abbrev pub reg : Unit → ℕ → ℕ
reg u x = slice_index u.regs x

-- the place of a slot of the present frame among all frames
abbrev pub slot : Unit → ℕ → ℕ
slot u i = 512 * u.depth + i

-- one more, in a counter of 64 bits
abbrev pub more : ℕ → ℕ
more n = capped (n + 1)

-- after one more step, at another instruction
abbrev pub goes : Unit → ℕ → Unit
goes u at = record u { at = at; counts = record u.counts { steps = more u.counts.steps } }

-- after one more step, at the next instruction
abbrev pub goes_on : Unit → Unit
goes_on u = goes u (u.at + 1)

-- after one more step, at the next instruction, with this value in a register
abbrev pub sets : Unit → ℕ → ℕ → Unit
sets u a value = record (goes_on u) { regs = slice_set u.regs a value }

-- the depth whose outer words a unit reaches: the master's own, or the master's at the spawn
abbrev pub outer_depth : Start → Unit → ℕ
outer_depth start u = if u.number == 0 then u.depth else start.depth

-- the word that a location names: 12 and up are the data words, then the outer words by depth; none past the data words
abbrev pub word_of : Image → Start → Unit → Location → Option ℕ
word_of image start u (Word i) = Some (12 + i)
word_of image start u (Indexed b i) = if nat_lt (i + reg u b) (length image.words) then Some (12 + (i + reg u b)) else None
word_of image start u (Outer i) = Some (12 + length image.words + image.outer * outer_depth start u + i)
word_of image start u (Register i) = Some (4 + i)

-- an access of a word, or a trap where there is none
abbrev pub access : Option ℕ → (ℕ → Request) → Next
access None ask = Trap Address
access (Some word) ask = Ask (ask word)

-- a prefix-sum register takes 0 or 1
abbrev pub adds : Option ℕ → Location → ℕ → Next
adds word (Register i) value = if nat_lt 1 value then Trap PsIncrement else access word (λ at. request.Add at value)
adds word (Word i) value = access word (λ at. request.Add at value)
adds word (Indexed b i) value = access word (λ at. request.Add at value)
adds word (Outer i) value = access word (λ at. request.Add at value)

-- a binary operation traps where it has no value
abbrev pub divides : Option ℕ → Next
divides None = Trap DivideByZero
divides (Some value) = Local

-- what a unit does at an operation
abbrev pub next_at : Image → Start → Unit → Operation → Next
next_at image start u (Binary op a b c) = divides (binary_value op (reg u b) (reg u c))
next_at image start u (Call f) = if nat_lt u.depth 256 then Local else Trap CallDepth
next_at image start u (Check b n) = if nat_lt (reg u b) n then Local else Trap Index
next_at image start u (Load a location) = access (word_of image start u location) (λ at. request.Load at)
next_at image start u (Store a location) = access (word_of image start u location) (λ at. request.Store at (reg u a))
next_at image start u (Add a location) = adds (word_of image start u location) location (reg u a)
next_at image start u (Print text) = Ask (request.Print text)
next_at image start u (Spawn a b mask) = Ask (request.Spawn (record { at = u.at + 1; low = reg u a; high = reg u b; mask = mask }))
next_at image start u Join = Ask request.Draw
-- the others touch the unit alone
next_at image start u operation = Local

-- in the function, one frame deeper
abbrev pub calls : Image → Unit → ℕ → Unit
calls image u f = record (goes u (start_of image f)) { depth = u.depth + 1; back = slice_set u.back u.depth (u.at + 1) }

-- back from a call; a unit that is in none halts
abbrev pub returns : Unit → Unit
returns u =
    if u.depth == 0
    then record (goes u u.at) { state = Halted }
    else record (goes u (slice_index u.back (u.depth - 1))) { depth = u.depth - 1 }

-- a unit after a local instruction
abbrev pub local_at : Image → Start → Unit → Operation → Unit
local_at image start u (Set a value) = sets u a value
local_at image start u (Unary op a b) = sets u a (unary_value op (reg u b))
local_at image start u (Binary op a b c) = sets u a (unwrap_or (binary_value op (reg u b) (reg u c)) 0)
local_at image start u (Jump to) = goes u to
local_at image start u (IfZero b to) = goes u (if reg u b == 0 then to else u.at + 1)
local_at image start u (IfNot b to) = goes u (if reg u b == 0 then u.at + 1 else to)
local_at image start u (Call f) = calls image u f
local_at image start u Return = returns u
local_at image start u (ReadSlot a i) = sets u a (slice_index u.frames (slot u i))
local_at image start u (WriteSlot b i) = record (goes_on u) { frames = slice_set u.frames (slot u i) (reg u b) }
local_at image start u (WriteArgument b i) = record (goes_on u) { list = slice_set u.list i (reg u b) }
local_at image start u (ReadArgument a i) = sets u a (slice_index u.list i)
local_at image start u (ReadMaster a i) = sets u a (slice_index start.frame i)
local_at image start u (Check b n) = goes_on u
-- the others aren't local
local_at image start u operation = u

-- after a draw: the number's thread begins with the broadcast registers, or the unit stops
abbrev pub draws : Start → Unit → ℕ → Unit
draws start u k =
    if nat_lt k start.count
    then record u {
      state = Runs;
      at = start.at;
      thread = Some ((start.low + k) % 2 ^ 32);
      depth = 0;
      regs = slice_set start.regs 1 ((start.low + k) % 2 ^ 32);
      counts = record u.counts { steps = more u.counts.steps; threads = more u.counts.threads };
    }
    else record u { state = Stopped; thread = None; counts = record u.counts { steps = more u.counts.steps } }

-- a unit after the reply to what the operation asked for
abbrev pub answer_at : Start → Unit → Operation → ℕ → Unit
answer_at start u (Load a location) reply = record (sets u a reply) { counts = record u.counts { steps = more u.counts.steps; loads = more u.counts.loads } }
answer_at start u (Store a location) reply = record (goes_on u) { counts = record u.counts { steps = more u.counts.steps; stores = more u.counts.stores } }
answer_at start u (Add a location) reply = record (sets u a reply) { counts = record u.counts { steps = more u.counts.steps; adds = more u.counts.adds } }
answer_at start u (Print text) reply = goes_on u
answer_at start u Join reply = draws start u reply
-- the others ask for nothing, or for a spawn, which the master's join answers
answer_at start u operation reply = u

-- a unit that is due to draw
abbrev pub is_due : UnitState → Bool
is_due Draws = true
is_due Runs = false
is_due Stopped = false
is_due Halted = false

-- outside the code, where a valid image leads no unit, a unit traps
abbrev pub next_here : Image → Start → Unit → Option Operation → Next
next_here image start u None = Trap Address
next_here image start u (Some operation) = next_at image start u operation

-- what a unit does next
abbrev pub next_of : Image → Start → Unit → Next
next_of image start u = if is_due u.state then Ask request.Draw else next_here image start u (operation_at image u.at)

abbrev pub local_here : Image → Start → Unit → Option Operation → Unit
local_here image start u None = u
local_here image start u (Some operation) = local_at image start u operation

-- a unit after its local instruction
abbrev pub local_of : Image → Start → Unit → Unit
local_of image start u = local_here image start u (operation_at image u.at)

abbrev pub answer_here : Start → Unit → Option Operation → ℕ → Unit
answer_here start u None reply = u
answer_here start u (Some operation) reply = answer_at start u operation reply

-- a unit after the reply to its request
abbrev pub answer_of : Image → Start → Unit → ℕ → Unit
answer_of image start u reply = if is_due u.state then draws start u reply else answer_here start u (operation_at image u.at) reply
