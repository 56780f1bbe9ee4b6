-- The code that the source stands for. The cell of each variable is written in, by the frame of the thread and the depth at which it runs.
use Rattle.std.specs.Prelude.{ℕ, zero, suc, ◌+◌, List, [], ◌∷◌, Option, Some, None, slice_get, sum_by}
use Rattle.source_meaning.specs.declared.tree.Expr.{Expr}
use Rattle.source_meaning.specs.declared.tree.ExprKind.{ExprKind, Row_of-Expr, end_of-Expr, more_of-Expr}
use Rattle.source_meaning.specs.declared.tree.ExprKind.TheVariants as expr
use Rattle.source_meaning.specs.declared.tree.Spot.{Spot}
use Rattle.source_meaning.specs.declared.tree.Spot.TheVariants as spot
use Rattle.source_meaning.specs.declared.tree.Stmt.{Stmt}
use Rattle.source_meaning.specs.declared.tree.StmtKind.{StmtKind, Row_of-Stmt, end_of-Stmt, more_of-Stmt, Held-StmtKind-If-2, None', Some'}
use Rattle.source_meaning.specs.declared.tree.StmtKind.TheVariants as stmt
use Rattle.source_meaning.specs.declared.tree.GlobalVar.{GlobalVar}
use Rattle.source_meaning.specs.declared.tree.Function.{Function}
use Rattle.source_meaning.specs.declared.tree.Program.{Program}
use Rattle.source_meaning.specs.Store.{Word, Register}
use Rattle.source_meaning.specs.Variables.{Frame, own_frame, block_frame}
use Rattle.source_meaning.specs.Term.{Target, At, Element, Term, Value, Dollar, Read, Assign, Update, Step, Unary, Binary, Both, Either, Choose, Call, Terms, End, More, Code, Done, Then, Expression, Set, Block, If, While, Do, For, Break, Continue, Return, Spawn, PrefixSum, Print}
use Rattle.source_meaning.specs.Layout.{first_word, words_of}

-- how many spawns stand in a statement
abbrev mutual
  pub spawns : StmtKind → ℕ
  spawns (stmt.Block' shape body) = all_spawns body
  spawns (stmt.If' test shape body other) = all_spawns body + else_spawns other
  spawns (stmt.While' test shape body) = all_spawns body
  spawns (stmt.Do' shape body test) = all_spawns body
  spawns (stmt.For' first_shape first test third shape body) = all_spawns first + all_spawns body
  spawns (stmt.Spawn' low high shape body) = 1 + all_spawns body
  spawns _ = 0

  pub all_spawns : {n : _} → Row_of-Stmt n → ℕ
  all_spawns end_of-Stmt = 0
  all_spawns (more_of-Stmt place kind rest) = spawns kind + all_spawns rest

  pub else_spawns : Held-StmtKind-If-2 → ℕ
  else_spawns None' = 0
  else_spawns (Some' shape body) = all_spawns body

-- The globals, and where a thread has the variables that its block declares.
module _ (globals : List GlobalVar) (own : (thread : ℕ) → Frame) where
  -- an expression, by the line on which it begins
  abbrev mutual
    pub target_of : Frame → (line : ℕ) → Spot → Target
    target_of frame line (spot.Global g) = At (Word (first_word globals g))
    target_of frame line (spot.Element' g shape index) = Element line (first_word globals g) (words_of globals g) (boxed_term frame index)
    target_of frame line (spot.Register r) = At (Register r)
    target_of frame line (spot.Local slot) = At (frame slot)

    pub term_of : Frame → (line : ℕ) → ExprKind → Term
    term_of frame line (expr.Number n) = Value n
    term_of frame line expr.Dollar = Dollar
    term_of frame line (expr.Read p) = Read (target_of frame line p)
    term_of frame line (expr.Assign' p shape e) = Assign (target_of frame line p) (boxed_term frame e)
    term_of frame line (expr.Update' op p shape e) = Update line op (target_of frame line p) (boxed_term frame e)
    term_of frame line (expr.Step p up after) = Step up after (target_of frame line p)
    term_of frame line (expr.Unary' op shape e) = Unary op (boxed_term frame e)
    term_of frame line (expr.Binary' op left a right b) = Binary line op (boxed_term frame a) (boxed_term frame b)
    term_of frame line (expr.Both' left a right b) = Both (boxed_term frame a) (boxed_term frame b)
    term_of frame line (expr.Either' left a right b) = Either (boxed_term frame a) (boxed_term frame b)
    term_of frame line (expr.Choose' first test left a right b) = Choose (boxed_term frame test) (boxed_term frame a) (boxed_term frame b)
    term_of frame line (expr.Call' function shape values) = Call line function (row_terms frame values)

    -- the one expression of a box, which is a row of one
    pub boxed_term : Frame → {n : _} → Row_of-Expr n → Term
    boxed_term frame end_of-Expr = Value 0
    boxed_term frame (more_of-Expr place kind rest) = term_of frame place.line kind

    pub row_terms : Frame → {n : _} → Row_of-Expr n → Terms
    row_terms frame end_of-Expr = End
    row_terms frame (more_of-Expr place kind rest) = More (term_of frame place.line kind) (row_terms frame rest)

  abbrev pub expression : Frame → Expr → Term
  expression frame e = term_of frame e.at.line e.kind

  abbrev pub expressions : Frame → List Expr → Terms
  expressions frame [] = End
  expressions frame (e ∷ rest) = More (expression frame e) (expressions frame rest)

  -- the expression, or this number where there is none
  abbrev pub expression_or : Frame → (default : ℕ) → Option Expr → Term
  expression_or frame default None = Value default
  expression_or frame default (Some e) = expression frame e

  -- the third part of a `for`
  abbrev pub third_part : Frame → Option Expr → Code
  third_part frame None = Done
  third_part frame (Some e) = Expression (expression frame e)

  -- a statement, by the number of spawns before it in the text and the line on which it begins
  abbrev mutual
    pub code_of : Frame → (site line : ℕ) → StmtKind → Code
    code_of frame site line stmt.Empty = Block Done
    code_of frame site line (stmt.Value e) = Expression (expression frame e)
    code_of frame site line (stmt.Declare slot value) = Set (At (frame slot)) (expression_or frame 0 value)
    code_of frame site line (stmt.Block' shape body) = Block (sequence frame site body)
    code_of frame site line (stmt.If' test shape body other) =
        If (expression frame test) (sequence frame site body) (else_code frame (site + all_spawns body) other)
    code_of frame site line (stmt.While' test shape body) = While (expression frame test) (sequence frame site body)
    code_of frame site line (stmt.Do' shape body test) = Do (sequence frame site body) (expression frame test)
    code_of frame site line (stmt.For' first_shape first test third shape body) =
        Then (sequence frame site first)
        (For (expression_or frame 1 test) (third_part frame third) (sequence frame (site + all_spawns first) body))
    code_of frame site line stmt.Break = Break
    code_of frame site line stmt.Continue = Continue
    code_of frame site line (stmt.Return value) = Return (expression_or frame 0 value)
    code_of frame site line (stmt.Spawn' low high shape block) =
        Spawn site (expression frame low) (expression frame high) (λ thread. sequence (block_frame (own thread) block frame) (1 + site) block)
    code_of frame site line (stmt.Ps v r) = PrefixSum line (target_of frame line v) (At (Register r))
    code_of frame site line (stmt.Psm v p) = PrefixSum line (target_of frame line v) (target_of frame line p)
    code_of frame site line (stmt.Print text values) = Print text (expressions frame values)

    -- statements one behind the other
    pub sequence : Frame → (site : ℕ) → {n : _} → Row_of-Stmt n → Code
    sequence frame site end_of-Stmt = Done
    sequence frame site (more_of-Stmt place kind rest) =
        Then (code_of frame site place.line kind) (sequence frame (site + spawns kind) rest)

    pub else_code : Frame → (site : ℕ) → Held-StmtKind-If-2 → Code
    else_code frame site None' = Done
    else_code frame site (Some' shape body) = sequence frame site body

  abbrev pub statements : Frame → (site : ℕ) → List Stmt → Code
  statements frame site [] = Done
  statements frame site (s ∷ rest) = Then (code_of frame site s.at.line s.kind) (statements frame (site + spawns s.kind) rest)

-- how many spawns stand in the functions before the one with this number
abbrev pub first_site : List Function → (function : ℕ) → ℕ
first_site [] f = 0
first_site (function ∷ functions) zero = 0
first_site (function ∷ functions) (suc f) = sum_by (λ s. spawns s.kind) function.body + first_site functions f

-- writes the parameters, in order, before the body
abbrev pub with_parameters : Frame → (slot : ℕ) → (values : List ℕ) → (body : Code) → Code
with_parameters frame slot [] body = body
with_parameters frame slot (v ∷ values) body = Then (Set (At (frame slot)) (Value v)) (with_parameters frame (suc slot) values body)

abbrev pub function_code : Program → (thread f depth : ℕ) → (values : List ℕ) → Option Function → Code
function_code program thread f depth values None = Done
function_code program thread f depth values (Some function) =
    with_parameters (own_frame function.body thread depth) 0 values
    (statements program.globals (λ child. own_frame function.body child 0) (own_frame function.body thread depth) (first_site program.functions f) function.body)

-- a call of a function that has begun, in a thread and at a depth: its parameters are written, and then its body runs
abbrev pub call_code : Program → (thread f depth : ℕ) → (values : List ℕ) → Code
call_code program thread f depth values = function_code program thread f depth values (slice_get program.functions f)
