-- The code of a thread: the source on its way, with the values that are known, the calls that are entered and the loops that are unrolled.
use Rattle.std.specs.Prelude.{ℕ, Bool, List}
use Rattle.xmt_base.specs.declared.operators.UnOp.{UnOp}
use Rattle.xmt_base.specs.declared.operators.BinOp.{BinOp}
use Rattle.source_meaning.specs.Store.{Cell}

mutual
  -- what is read or written. A line is the one at which a trap is reported
  pub data Target : Type 0 where
    -- a variable, a register, or an element whose index is tested
    At : Cell → Target
    -- an element of the array with this first word and length
    Element : (line base length : ℕ) (index : Term) → Target

  -- an expression, which comes to a value
  pub data Term : Type 0 where
    Value : (value : ℕ) → Term
    Dollar : Term
    Read : Target → Term
    Assign : Target → Term → Term
    Update : (line : ℕ) → BinOp → Target → Term → Term
    Step : (up after : Bool) → Target → Term
    -- writes the term's value, and comes to the old value
    Postfix : Cell → (old : ℕ) → Term → Term
    Unary : UnOp → Term → Term
    Binary : (line : ℕ) → BinOp → Term → Term → Term
    Both : Term → Term → Term
    Either : Term → Term → Term
    Choose : Term → Term → Term → Term
    Call : (line function : ℕ) → Terms → Term
    -- a call that has begun: its body
    Entered : Code → Term

  -- the values of a call or of a print, from left to right
  pub data Terms : Type 0 where
    End : Terms
    More : Term → Terms → Terms

  -- statements, which come to an exit
  pub data Code : Type 0 where
    -- nothing is left to do
    Done : Code
    Then : Code → Code → Code
    Expression : Term → Code
    -- writes and leaves nothing: a declaration, a parameter, or the last step of a prefix-sum
    Set : Target → Term → Code
    Block : Code → Code
    If : Term → Code → Code → Code
    While : Term → Code → Code
    Do : Code → Term → Code
    -- the test, the third part and the body
    For : Term → Code → Code → Code
    -- the body of a loop that is unrolled, and the loop's next turn
    Turn : (body again : Code) → Code
    Break : Code
    Continue : Code
    Return : Term → Code
    -- the number of the spawn in the text, the two bounds, and the block's code for the thread with a given number
    Spawn : (site : ℕ) (low high : Term) (block : ℕ → Code) → Code
    -- waits for the threads that this one has spawned
    Join : Code
    -- `ps` and `psm`: the variable, and the register or place that it is added to
    PrefixSum : (line : ℕ) (variable place : Target) → Code
    -- the same, once the increment is read
    Add : (line : ℕ) (variable : Cell) (place : Target) (increment : ℕ) → Code
    Print : (text : List ℕ) → Terms → Code
