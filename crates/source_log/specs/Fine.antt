-- Code that keeps to the cells of its thread, as it is written.
use Rattle.std.specs.Prelude.{◌≡◌, ℕ, ◌<◌, Option, Some, None}
use Rattle.source_meaning.specs.declared.tree.Program.{Program}
use Rattle.source_meaning.specs.Term.{Target, At, Element, Term, Value, Dollar, Read, Assign, Update, Step, Postfix, Unary, Binary, Both, Either, Choose, Call, Entered, Terms, End, More, Code, Done, Then, Expression, Set, Block, If, While, Do, For, Turn, Break, Continue, Return, Spawn, Join, PrefixSum, Add, Print}
use Rattle.source_meaning.specs.Next.{Ask, Spawning, Ending}
use Rattle.source_meaning.specs.Code.{call_code}
use Rattle.source_log.specs.Threads.{MayWrite, MayRead, MayAsk}

-- The thread, which functions it may call, and which blocks it may spawn.
module _ (thread : ℕ) (MayCall : (function : ℕ) → Type 0) (MaySpawn : (block : ℕ → Code) → Type 0) where
  abbrev mutual
    pub FineRead : Target → Type 0
    FineRead (At cell) = MayRead thread cell
    FineRead (Element line base length index) = Fine index

    pub FineWrite : Target → Type 0
    FineWrite (At cell) = MayWrite thread cell
    FineWrite (Element line base length index) = Fine index

    pub Fine : Term → Type 0
    Fine (Value v) = Unit {0}
    Fine Dollar = Unit {0}
    Fine (Read p) = FineRead p
    Fine (Assign p e) = FineWrite p × Fine e
    Fine (Update line op p e) = FineWrite p × Fine e
    Fine (Step up after p) = FineWrite p
    Fine (Postfix cell old e) = MayWrite thread cell × Fine e
    Fine (Unary op e) = Fine e
    Fine (Binary line op a b) = Fine a × Fine b
    Fine (Both a b) = Fine a × Fine b
    Fine (Either a b) = Fine a × Fine b
    Fine (Choose test a b) = Fine test × Fine a × Fine b
    Fine (Call line function values) = MayCall function × FineTerms values
    Fine (Entered body) = FineCode body

    pub FineTerms : Terms → Type 0
    FineTerms End = Unit {0}
    FineTerms (More e rest) = Fine e × FineTerms rest

    pub FineCode : Code → Type 0
    FineCode Done = Unit {0}
    FineCode (Then a b) = FineCode a × FineCode b
    FineCode (Expression e) = Fine e
    FineCode (Set p e) = FineWrite p × Fine e
    FineCode (Block body) = FineCode body
    FineCode (If test a b) = Fine test × FineCode a × FineCode b
    FineCode (While test body) = Fine test × FineCode body
    FineCode (Do body test) = FineCode body × Fine test
    FineCode (For test third body) = Fine test × FineCode third × FineCode body
    FineCode (Turn body again) = FineCode body × FineCode again
    FineCode Break = Unit {0}
    FineCode Continue = Unit {0}
    FineCode (Return e) = Fine e
    FineCode (Spawn site low high block) = (thread ≡ 0) × Fine low × Fine high × MaySpawn block
    FineCode Join = thread ≡ 0
    FineCode (PrefixSum line variable place) = FineWrite variable × FineWrite place
    FineCode (Add line variable place increment) = MayWrite thread variable × FineWrite place
    FineCode (Print text values) = FineTerms values

  abbrev pub FineRest : Option Code → Type 0
  FineRest None = Unit {0}
  FineRest (Some code) = FineCode code

  -- what code may ask before its end
  abbrev pub FineAsk : Ask → Type 0
  FineAsk (Spawning site low high block) = (thread ≡ 0) × MaySpawn block
  FineAsk Ending = ⊥
  FineAsk ask = MayAsk thread ask

-- no function that is called there spawns
abbrev pub NoBlock : (ℕ → Code) → Type 0
NoBlock block = ⊥

-- a block whose threads are fine, where they may call these functions
abbrev pub FineBlock : (MayCall : ℕ → Type 0) → (ℕ → Code) → Type 0
FineBlock MayCall block = (thread : ℕ) → 0 < thread → FineCode thread MayCall NoBlock (block thread)

abbrev pub AnyFunction : (function : ℕ) → Type 0
AnyFunction function = Unit {0}

-- The code of each function is fine in the serial code, and that of the functions that blocks may call in every virtual thread.
pub record FineProgram (program : Program) (MayCall : ℕ → Type 0) : Type 0 where
  pub serial : (function depth : ℕ) (values : _) → FineCode 0 AnyFunction (FineBlock MayCall) (call_code program 0 function depth values)
  pub virtual : (thread function depth : ℕ) (values : _) → 0 < thread → MayCall function → FineCode thread MayCall NoBlock (call_code program thread function depth values)
