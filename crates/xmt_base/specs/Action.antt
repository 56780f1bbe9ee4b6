-- What a thread of any code does that others can see, and what it takes to say that two codes do the same.
use Rattle.std.specs.Prelude.{ℕ, List}
use Rattle.xmt_base.specs.declared.values.TrapKind.{TrapKind}

-- a place that several threads may reach: a word of the globals, a register, or a shared variable of the serial code at a depth of calls
pub data Shared : Type 0 where
  Word : (place : ℕ) → Shared
  Register : (number : ℕ) → Shared
  Outer : (depth number : ℕ) → Shared

pub data Action : Type 0 where
  Load : Shared → Action
  Store : Shared → (value : ℕ) → Action
  -- adds, and is told what the place held
  Add : Shared → (value : ℕ) → Action
  Print : List ℕ → Action
  -- the site is the number of the spawn in the text
  Spawn : (site low high : ℕ) → Action
  Trap : TrapKind → (line : ℕ) → Action
  Ended : Action

-- where a thread begins: at the beginning of `main`, or at a block with its `$`, behind what the serial code did up to the block's spawn when its loads and adds had these replies
pub data Start : Type 0 where
  Main : Start
  Block : (before : List Action) → (replies : List ℕ) → (number : ℕ) → Start

-- the traces of a code: what it does, from a start, with these replies to its loads and adds, in so many steps
abbrev pub Traces : Type 1
Traces = Start → (replies : List ℕ) → (trace : List Action) → (work : ℕ) → Type 0

-- each trace of the second code is one of the first
abbrev pub HasTracesOf : Traces → Traces → Type 0
HasTracesOf first second =
    (start : Start) (replies : List ℕ) (trace : List Action) (work : ℕ) →
    second start replies trace work → (other : ℕ) × first start replies trace other
