-- The one step of a thread: what comes next in its code. What says `Asks` or `quiet_step` is one step, and nothing else is.
use Rattle.std.specs.Prelude.{ℕ, suc, ◌+◌, ◌==◌, nat_lt, nat_le, Bool, true, if◌then◌else◌, List, [], ◌∷◌, Option, Some, None}
use Rattle.xmt_base.specs.declared.values.TrapKind.{TrapKind}
use Rattle.xmt_base.specs.declared.values.TrapKind.TheVariants.{DivideByZero, Index, PsIncrement, CallDepth}
use Rattle.xmt_base.specs.declared.operators.BinOp.TheVariants.{Add as Sum, Sub, Ne}
use Rattle.xmt_base.specs.Operators.{unary_value, binary_value}
use Rattle.source_meaning.specs.Store.{Cell, Word, Register}
use Rattle.source_meaning.specs.Term.{Target, At, Element, Term, Value, Dollar, Read, Assign, Update, Step, Postfix, Unary, Binary, Both, Either, Choose, Call, Entered, Terms, End, More, Code, Done, Then, Expression, Set, Block, If, While, Do, For, Turn, Break, Continue, Return, Spawn, Join, PrefixSum, Add, Print}
use Rattle.xmt_base.specs.Text.{piece}

-- what one step asks of the store, the output and the other threads
pub data Ask : Type 0 where
  Quietly : Ask
  Loading : Cell → Ask
  Storing : Cell → (value : ℕ) → Ask
  -- adds to a cell, and is told what it held
  Adding : Cell → (value : ℕ) → Ask
  Printing : List ℕ → Ask
  -- makes the threads of a block, and is told nothing
  Spawning : (site low high : ℕ) (block : ℕ → Code) → Ask
  -- can be done once the threads that this one has spawned have ended
  Joining : Ask
  -- the end of the thread
  Ending : Ask

-- what comes next in code of the type T, which comes to a result of the type R
pub data Next (T R : Type 0) : Type 0 where
  -- it has come to its result, and takes no step
  Is : R → Next T R
  -- one step, with what is left after each reply
  Asks : Ask → (ℕ → T) → Next T R
  -- it stands at a trap
  Traps : TrapKind → (line : ℕ) → Next T R

-- a step that asks nothing
abbrev pub quiet_step : {T R : Type 0} → T → Next T R
quiet_step left = Asks Quietly (λ _. left)

-- A part's step is the whole's, with what stands around it. Once the part has its result, the whole goes on by that result alone.
abbrev pub next_within : {T R U S : Type 0} → (T → U) → Next T R → (R → Next U S) → Next U S
next_within around (Is result) go = go result
next_within around (Asks ask left) go = Asks ask (λ reply. around (left reply))
next_within around (Traps kind line) go = Traps kind line

-- how a statement comes to its end
pub data Exit : Type 0 where
  Ends : Exit
  Returns : (value : ℕ) → Exit
  Breaks : Exit
  Continues : Exit

-- after the end of a statement something goes on, and each other exit is passed up
abbrev pub next_after : Exit → Next Code Exit → Next Code Exit
next_after Ends go = go
next_after exit go = Is exit

-- a loop's body ends or continues with the next turn, and a break leaves the loop
abbrev pub next_after_turn : Exit → Code → Next Code Exit → Next Code Exit
next_after_turn Ends again go = go
next_after_turn (Returns value) again go = Is (Returns value)
next_after_turn Breaks again go = quiet_step Done
next_after_turn Continues again go = quiet_step again

-- a call's value, which is 0 without a `return` of a value
abbrev pub call_value : Exit → ℕ
call_value (Returns value) = value
call_value _ = 0

abbrev pub operator_step : (line : ℕ) → Option ℕ → Next Term ℕ
operator_step line None = Traps DivideByZero line
operator_step line (Some value) = quiet_step (Value value)

-- a negative index is 2^31 or more as a number, and no array is so long
abbrev pub test_step : (line base length index : ℕ) → Next Target Cell
test_step line base length index = if nat_lt index length then quiet_step (At (Word (base + index))) else Traps Index line

abbrev pub nonzero_test : Term → Term
nonzero_test e = Binary 0 Ne e (Value 0)

-- what is left of `++p`, `p++` and their like once the old value is read
abbrev pub step_rest : (up after : Bool) → Cell → (old : ℕ) → Term
step_rest up after cell old =
    let sum = Binary 0 (if up then Sum else Sub) (Value old) (Value 1) in
    if after then Postfix cell old sum else Assign (At cell) sum

-- a register takes the increments 0 and 1 alone
abbrev pub may_add : Cell → ℕ → Bool
may_add (Register r) increment = nat_le increment 1
may_add _ increment = true

-- The thread's `$`, and the code of an entered call of a function at a depth with these values.
module _ (number : ℕ) (call_code : (function depth : ℕ) → List ℕ → Code) where
  abbrev mutual
    pub next_target : (depth : ℕ) → Target → Next Target Cell
    next_target depth (At cell) = Is cell
    next_target depth (Element line base length index) =
        next_within (Element line base length) (next depth index) (test_step line base length)

    pub next : (depth : ℕ) → Term → Next Term ℕ
    next depth (Value v) = Is v
    next depth Dollar = quiet_step (Value number)
    next depth (Read p) = next_within Read (next_target depth p) (λ cell. Asks (Loading cell) Value)
    next depth (Assign p e) =
        next_within (λ p. Assign p e) (next_target depth p) (λ cell.
        next_within (Assign (At cell)) (next depth e) (λ v. Asks (Storing cell v) (λ _. Value v)))
    next depth (Update line op p e) =
        next_within (λ p. Update line op p e) (next_target depth p) (λ cell.
        Asks (Loading cell) (λ old. Assign (At cell) (Binary line op (Value old) e)))
    next depth (Step up after p) =
        next_within (Step up after) (next_target depth p) (λ cell. Asks (Loading cell) (step_rest up after cell))
    next depth (Postfix cell old e) =
        next_within (Postfix cell old) (next depth e) (λ v. Asks (Storing cell v) (λ _. Value old))
    next depth (Unary op e) = next_within (Unary op) (next depth e) (λ v. quiet_step (Value (unary_value op v)))
    next depth (Binary line op a b) =
        next_within (λ a. Binary line op a b) (next depth a) (λ x.
        next_within (Binary line op (Value x)) (next depth b) (λ y. operator_step line (binary_value op x y)))
    next depth (Both a b) =
        next_within (λ a. Both a b) (next depth a) (λ v. quiet_step (if v == 0 then Value 0 else nonzero_test b))
    next depth (Either a b) =
        next_within (λ a. Either a b) (next depth a) (λ v. quiet_step (if v == 0 then nonzero_test b else Value 1))
    next depth (Choose test a b) =
        next_within (λ test. Choose test a b) (next depth test) (λ v. quiet_step (if v == 0 then b else a))
    next depth (Call line function values) =
        next_within (Call line function) (next_values depth values) (λ vs.
        if nat_lt depth 256 then quiet_step (Entered (call_code function (suc depth) vs)) else Traps CallDepth line)
    next depth (Entered body) = next_within Entered (next_code (suc depth) body) (λ exit. quiet_step (Value (call_value exit)))

    pub next_values : (depth : ℕ) → Terms → Next Terms (List ℕ)
    next_values depth End = Is []
    next_values depth (More e rest) =
        next_within (λ e. More e rest) (next depth e) (λ v. next_within (More (Value v)) (next_values depth rest) (λ vs. Is (v ∷ vs)))

    pub next_code : (depth : ℕ) → Code → Next Code Exit
    next_code depth Done = Is Ends
    next_code depth (Then a b) =
        next_within (λ a. Then a b) (next_code depth a) (λ exit. next_after exit (next_code depth b))
    next_code depth (Expression e) = next_within Expression (next depth e) (λ v. quiet_step Done)
    next_code depth (Set p e) =
        next_within (λ p. Set p e) (next_target depth p) (λ cell.
        next_within (Set (At cell)) (next depth e) (λ v. Asks (Storing cell v) (λ _. Done)))
    next_code depth (Block body) = next_within Block (next_code depth body) (λ exit. next_after exit (quiet_step Done))
    next_code depth (If test a b) =
        next_within (λ test. If test a b) (next depth test) (λ v. quiet_step (if v == 0 then b else a))
    next_code depth (While test body) = quiet_step (If test (Turn body (While test body)) Done)
    next_code depth (Do body test) = quiet_step (Turn body (If test (Do body test) Done))
    next_code depth (For test third body) = quiet_step (If test (Turn body (Then third (For test third body))) Done)
    next_code depth (Turn body again) =
        next_within (λ body. Turn body again) (next_code depth body) (λ exit. next_after_turn exit again (next_code depth again))
    next_code depth Break = Is Breaks
    next_code depth Continue = Is Continues
    next_code depth (Return e) = next_within Return (next depth e) (λ v. Is (Returns v))
    next_code depth (Spawn site low high block) =
        next_within (λ low. Spawn site low high block) (next depth low) (λ l.
        next_within (λ high. Spawn site (Value l) high block) (next depth high) (λ h.
        Asks (Spawning site l h block) (λ _. Join)))
    next_code depth Join = Asks Joining (λ _. Done)
    next_code depth (PrefixSum line v p) =
        next_within (λ v. PrefixSum line v p) (next_target depth v) (λ cell. Asks (Loading cell) (Add line cell p))
    next_code depth (Add line variable p increment) =
        next_within (λ p. Add line variable p increment) (next_target depth p) (λ cell.
        if may_add cell increment then Asks (Adding cell increment) (λ old. Set (At variable) (Value old)) else Traps PsIncrement line)
    next_code depth (Print text values) =
        next_within (Print text) (next_values depth values) (λ vs. Asks (Printing (piece text vs)) (λ _. Done))
