-- The traces of a quad program: what its threads do that others can see, each by itself, and with how much work.
use Rattle.std.specs.Prelude.{◌≡◌, ℕ, zero, suc, ◌+◌, ◌%◌, ◌^◌, ◌<◌, false, List, [], ◌∷◌, ◌++◌, ◌⊎◌, length, Some, None}
use Rattle.xmt_base.specs.declared.values.TrapKind.{TrapKind}
use Rattle.xmt_base.specs.Action as code
use Rattle.xmt_base.specs.Action.{Action, Spawn, Trap, Traces}
use Rattle.xmt_base.specs.Operators.{count_between}
use Rattle.interleaving.specs.Actors.{Move, Entry, DoesThen}
use Rattle.interleaving.specs.Parts.{actions_of}
use Rattle.xmt_isa.specs.Traces.{AreReplies}
use Rattle.xmt_quads.specs.declared.code.Operand.{Operand}
use Rattle.xmt_quads.specs.declared.code.Quad.TheVariants as quad
use Rattle.xmt_quads.specs.declared.code.QuadProgram.{QuadProgram}
use Rattle.xmt_quads.specs.Program.{quads_in, site_at}
use Rattle.xmt_quads.specs.Meaning.{Registers, QuadThread, operand_value, Traps, quad_of, line_of, next_of, move, cost}
use Rattle.xmt_quads.specs.Live.{IsLive}

-- from a state an actor does exactly this part of a log in so many steps, with so much work in all, and comes to that state
abbrev pub DoesWith : {State Action : Type 0} → (State → Move State Action) → (cost : State → ℕ) → (steps : ℕ) → State → List (Entry Action) → State → (work : ℕ) → Type 0
DoesWith next cost zero s part end work = (part ≡ []) × (end ≡ s) × (work ≡ 0)
DoesWith next cost (suc steps) s part end work = (rest : ℕ) × (work ≡ cost s + rest) × DoesThen (λ s part end. DoesWith next cost steps s part end rest) (next s) part end

-- ---- where threads begin

-- what a thread finds at its beginning: any numbers
pub record Contents : Type 0 where
  pub registers : Registers
  -- the argument list
  pub list : ℕ → ℕ
  -- what the registers of its calls hold at their beginnings, the first call first
  pub found : ℕ → Registers

-- the serial code at the beginning of the main function
abbrev pub main_thread : QuadProgram → Contents → QuadThread
main_thread program contents =
    record {
      number = 0;
      parent = None;
      function = program.main;
      at = 0;
      registers = contents.registers;
      callers = [];
      list = contents.list;
      result = 0;
      found = contents.found;
      ended = false;
    }

-- a thread with this number, at the block of the spawn at which the serial code stands
abbrev pub block_thread : (serial : QuadThread) → Contents → (number : ℕ) → QuadThread
block_thread serial contents number =
    record {
      number = number;
      parent = Some (length serial.callers);
      function = serial.function;
      at = serial.at + 1;
      registers = contents.registers;
      callers = [];
      list = contents.list;
      result = 0;
      found = contents.found;
      ended = false;
    }

-- the registers that are live at the block's first position hold what the serial code's hold
abbrev pub AreBroadcast : QuadProgram → (serial : QuadThread) → Registers → Type 0
AreBroadcast program serial registers = (r : ℕ) → IsLive (quads_in program serial.function) r (serial.at + 1) → registers r ≡ serial.registers r

-- the serial code comes by itself, with this part of a log, to its spawn from one number to another
pub record ComesToSpawn (program : QuadProgram) (part : List (Entry Action)) (serial : QuadThread) (low high : Operand) : Type 0 where
  pub contents : Contents
  pub steps : ℕ
  pub work : ℕ
  pub does : DoesWith (move program) (cost program) steps (main_thread program contents) part serial work
  pub spawns : quad_of program serial ≡ Some (quad.Spawn low high)

-- a thread of a block begins there, behind what the serial code did up to the block's spawn
pub record BeginsAtBlock (program : QuadProgram) (before : List Action) (replies : List ℕ) (number : ℕ) (t : QuadThread) : Type 0 where
  pub part : List (Entry Action)
  pub serial : QuadThread
  pub low : Operand
  pub high : Operand
  pub comes : ComesToSpawn program part serial low high
  pub told : AreReplies replies part
  pub did : before ≡ actions_of part ++ (Spawn (site_at program serial.function serial.at) (operand_value serial.registers low) (operand_value serial.registers high) ∷ [])
  pub k : ℕ
  pub is_made : k < count_between (operand_value serial.registers low) (operand_value serial.registers high)
  pub is_number : number ≡ (operand_value serial.registers low + k) % 2 ^ 32
  pub contents : Contents
  pub broadcast : AreBroadcast program serial contents.registers
  pub begins : t ≡ block_thread serial contents number

abbrev pub BeginsFrom : QuadProgram → code.Start → QuadThread → Type 0
BeginsFrom program code.Main t = (contents : Contents) × (t ≡ main_thread program contents)
BeginsFrom program (code.Block before replies number) t = BeginsAtBlock program before replies number t

-- ---- traces

-- the thread stands at this trap
pub record IsAtTrap (program : QuadProgram) (t : QuadThread) (kind : TrapKind) (line : ℕ) : Type 0 where
  pub traps : next_of program t ≡ Traps kind
  pub is_line : line_of program t ≡ line

-- the actions of a part of a log, and at its end the trap at which the thread stands, if it does
abbrev pub IsTraceOf : QuadProgram → List (Entry Action) → QuadThread → (trace : List Action) → Type 0
IsTraceOf program part end trace =
    (trace ≡ actions_of part)
    ⊎ ((kind : TrapKind) × (line : ℕ) × IsAtTrap program end kind line × (trace ≡ actions_of part ++ (Trap kind line ∷ [])))

-- from this start a thread of the quads does these actions and no other, with these replies and so much work
pub record HasTrace (program : QuadProgram) (begin : code.Start) (replies : List ℕ) (trace : List Action) (work : ℕ) : Type 0 where
  pub thread : QuadThread
  pub begins : BeginsFrom program begin thread
  pub part : List (Entry Action)
  pub end : QuadThread
  pub steps : ℕ
  pub does : DoesWith (move program) (cost program) steps thread part end work
  pub told : AreReplies replies part
  pub is_trace : IsTraceOf program part end trace

-- the traces of a quad program
abbrev pub traces_of : QuadProgram → Traces
traces_of program = λ begin replies trace work. HasTrace program begin replies trace work
