-- What quads do: each quad is one step of one thread.
use Rattle.std.specs.Prelude.{ℕ, zero, suc, ◌+◌, ◌==◌, nat_lt, nat_le, Bool, true, if◌then◌else◌, List, [], ◌∷◌, length, Option, Some, None}
use Rattle.xmt_base.specs.declared.values.TrapKind.{TrapKind}
use Rattle.xmt_base.specs.declared.values.TrapKind.TheVariants.{DivideByZero, Index, PsIncrement, CallDepth, Address}
use Rattle.xmt_base.specs.Operators.{unary_value, binary_value}
use Rattle.xmt_base.specs.Action.{Shared, Action}
use Rattle.xmt_base.specs.Action as action
use Rattle.xmt_base.specs.Text.{piece}
use Rattle.interleaving.specs.Actors.{Move, Rests, Alone, Acts}
use Rattle.xmt_quads.specs.declared.code.Operand.{Operand}
use Rattle.xmt_quads.specs.declared.code.Operand.TheVariants.{Reg, Literal}
use Rattle.xmt_quads.specs.declared.code.Where.{Where}
use Rattle.xmt_quads.specs.declared.code.Where.TheVariants.{Word, Element, Outer, PsReg}
use Rattle.xmt_quads.specs.declared.code.Quad.{Quad}
use Rattle.xmt_quads.specs.declared.code.Quad.TheVariants as quad
use Rattle.xmt_quads.specs.declared.code.QuadProgram.{QuadProgram}
use Rattle.xmt_quads.specs.Program.{quads_in, quad_at, line_at, text_at, site_at, behind_join, weight}

-- the virtual registers of a call, by their numbers
abbrev pub Registers : Type 0
Registers = ℕ → ℕ

abbrev pub with_register : Registers → (register value : ℕ) → Registers
with_register registers register value = λ other. if register == other then value else registers other

-- a call that waits for another
pub record Caller : Type 0 where
  pub function : ℕ
  -- the position behind its call
  pub at : ℕ
  pub registers : Registers

pub record QuadThread : Type 0 where
  -- its `$`, which is 0 in serial code
  pub number : ℕ
  -- the serial code's depth at the spawn, or none in serial code
  pub parent : Option ℕ
  pub function : ℕ
  -- the position of its next quad in that function
  pub at : ℕ
  pub registers : Registers
  -- the latest first; so many are its depth
  pub callers : List Caller
  -- the argument list, by its places
  pub list : ℕ → ℕ
  -- what its last return gave, or 0 where there was none
  pub result : ℕ
  -- what the registers of the calls to come hold at their beginnings, the next call first: any numbers
  pub found : ℕ → Registers
  pub ended : Bool

abbrev pub operand_value : Registers → Operand → ℕ
operand_value registers (Reg r) = registers r
operand_value registers (Literal n) = n

-- so many places of a list, from one on
abbrev pub places_from : (list : ℕ → ℕ) → (first count : ℕ) → List ℕ
places_from list first zero = []
places_from list first (suc count) = list first ∷ places_from list (suc first) count

-- ---- shared places

-- The depth whose outer words a thread reaches: its own in serial code, and in a block that of the serial code at the spawn.
abbrev pub reached_depth : Option ℕ → List Caller → ℕ
reached_depth None callers = length callers
reached_depth (Some depth) callers = depth

-- an element is the word so far behind the first one
abbrev pub place_of : (outer_depth : ℕ) → Registers → Where → Shared
place_of outer_depth registers (Word w) = action.Word w
place_of outer_depth registers (Element base index) = action.Word (base + operand_value registers index)
place_of outer_depth registers (Outer n) = action.Outer outer_depth n
place_of outer_depth registers (PsReg r) = action.Register r

-- an element may lie outside the data words
abbrev pub is_inside : (words : ℕ) → Registers → Where → Bool
is_inside words registers (Element base index) = nat_lt (base + operand_value registers index) words
is_inside words registers _ = true

-- a prefix-sum register takes the increments 0 and 1 alone
abbrev pub may_increment : Where → (increment : ℕ) → Bool
may_increment (PsReg r) increment = nat_le increment 1
may_increment _ increment = true

-- ---- one quad

-- what a thread does next: a move, or it stands at a trap
pub data Next : Type 0 where
  Moves : Move QuadThread Action → Next
  Traps : TrapKind → Next

-- goes on to the next quad, with these registers
abbrev pub with_next : QuadThread → Registers → QuadThread
with_next t registers = record t { at = t.at + 1; registers = registers }

abbrev pub goes : QuadThread → Next
goes t = Moves (Alone t)

abbrev pub acts : Action → (ℕ → QuadThread) → Next
acts act left = Moves (Acts act left)

abbrev pub jumps : QuadThread → (to : ℕ) → Next
jumps t to = goes (record t { at = to })

-- sets a register
abbrev pub assigns : QuadThread → (register value : ℕ) → Next
assigns t register value = goes (with_next t (with_register t.registers register value))

abbrev pub assigns_option : QuadThread → (register : ℕ) → Option ℕ → Next
assigns_option t register None = Traps DivideByZero
assigns_option t register (Some value) = assigns t register value

abbrev pub ends : QuadThread → Next
ends t = acts action.Ended (λ reply. record t { ended = true })

-- back to the caller behind its call, or the end of the thread where there is none
abbrev pub returns : QuadThread → (value : ℕ) → List Caller → Next
returns t value [] = ends t
returns t value (caller ∷ callers) = goes (record t { function = caller.function; at = caller.at; registers = caller.registers; callers = callers; result = value })

-- into a function, one deeper
abbrev pub enters : QuadThread → (function : ℕ) → QuadThread
enters t function =
    record t {
      function = function;
      at = 0;
      registers = t.found 0;
      callers = record { function = t.function; at = t.at + 1; registers = t.registers } ∷ t.callers;
      found = λ call. t.found (suc call);
    }

module _ (program : QuadProgram) where
  abbrev pub shared_place : QuadThread → Where → Shared
  shared_place t place = place_of (reached_depth t.parent t.callers) t.registers place

  -- an access of a place, which traps outside the data words
  abbrev pub accesses : QuadThread → Where → Next → Next
  accesses t place access = if is_inside (length program.words) t.registers place then access else Traps Address

  -- what a thread does at a quad
  abbrev pub next_at : QuadThread → Option Quad → Next
  next_at t None = Moves Rests
  next_at t (Some (quad.Copy r o)) = assigns t r (operand_value t.registers o)
  next_at t (Some (quad.Unary op r o)) = assigns t r (unary_value op (operand_value t.registers o))
  next_at t (Some (quad.Binary op r a b)) = assigns_option t r (binary_value op (operand_value t.registers a) (operand_value t.registers b))
  next_at t (Some (quad.Dollar r)) = assigns t r t.number
  next_at t (Some (quad.Test index length)) = if nat_lt (operand_value t.registers index) length then goes (with_next t t.registers) else Traps Index
  next_at t (Some (quad.Load r place)) =
      accesses t place (acts (action.Load (shared_place t place)) (λ reply. with_next t (with_register t.registers r reply)))
  next_at t (Some (quad.Store place o)) =
      accesses t place (acts (action.Store (shared_place t place) (operand_value t.registers o)) (λ reply. with_next t t.registers))
  next_at t (Some (quad.Add r place o)) =
      accesses t place
      (if may_increment place (operand_value t.registers o)
      then acts (action.Add (shared_place t place) (operand_value t.registers o)) (λ reply. with_next t (with_register t.registers r reply))
      else Traps PsIncrement)
  next_at t (Some (quad.Jump to)) = jumps t to
  next_at t (Some (quad.IfZero o to)) = jumps t (if operand_value t.registers o == 0 then to else t.at + 1)
  next_at t (Some (quad.IfNot o to)) = jumps t (if operand_value t.registers o == 0 then t.at + 1 else to)
  next_at t (Some (quad.Argument place o)) = goes (record t { at = t.at + 1; list = with_register t.list place (operand_value t.registers o) })
  next_at t (Some (quad.Parameter r place)) = assigns t r (t.list place)
  next_at t (Some (quad.Call function)) = if nat_lt (length t.callers) 256 then goes (enters t function) else Traps CallDepth
  next_at t (Some (quad.Result r)) = assigns t r t.result
  next_at t (Some (quad.Return o)) = returns t (operand_value t.registers o) t.callers
  next_at t (Some (quad.Print text)) = acts (action.Print (piece (text_at program text) (places_from t.list 0 16))) (λ reply. with_next t t.registers)
  next_at t (Some (quad.Spawn low high)) =
      acts (action.Spawn (site_at program t.function t.at) (operand_value t.registers low) (operand_value t.registers high))
      (λ reply. record t { at = behind_join (quads_in program t.function) t.at })
  next_at t (Some quad.Join) = ends t

  -- the quad at which a thread is, or none once it has ended
  abbrev pub quad_of : QuadThread → Option Quad
  quad_of t = if t.ended then None else quad_at program t.function t.at

  abbrev pub line_of : QuadThread → ℕ
  line_of t = line_at program t.function t.at

  abbrev pub next_of : QuadThread → Next
  next_of t = next_at t (quad_of t)

  abbrev pub move_of : Next → Move QuadThread Action
  move_of (Moves move) = move
  move_of (Traps kind) = Rests

  -- what a thread does next as an actor; at a trap it has no step
  abbrev pub move : QuadThread → Move QuadThread Action
  move t = move_of (next_of t)

  abbrev pub weight_of_option : Option Quad → ℕ
  weight_of_option None = 0
  weight_of_option (Some q) = weight q

  -- the work of its next step
  abbrev pub cost : QuadThread → ℕ
  cost t = weight_of_option (quad_of t)
