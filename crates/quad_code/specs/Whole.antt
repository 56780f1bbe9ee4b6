-- The quads of a whole program, and what is asked of the program.
use Rattle.std.specs.Prelude.{◌≡◌, ℕ, ◌+◌, ◌*◌, ◌≤◌, nat_lt, Bool, true, false, List, [], ◌∷◌, ◌++◌, length, map, All, Some, slice_get}
use Rattle.xmt_base.specs.Action.{Action, Start, Main, Traces}
use Rattle.source_meaning.specs.declared.tree.Function.{Function}
use Rattle.source_meaning.specs.declared.tree.Program.{Program}
use Rattle.source_meaning.specs.declared.tree.StmtKind.{StmtKind, Row_of-Stmt, end_of-Stmt, more_of-Stmt, Held-StmtKind-If-2, None', Some'}
use Rattle.source_meaning.specs.declared.tree.StmtKind.TheVariants as stmt
use Rattle.source_meaning.specs.Layout.{first_word, words_of, symbols_from, opening_words, HasRoom}
use Rattle.source_meaning.specs.Variables.{is_shared}
use Rattle.source_meaning.specs.Trace.{traces_in}
use Rattle.source_log.specs.Bounded.{EndsThread}
use Rattle.xmt_quads.specs.declared.code.QuadProgram.{QuadProgram}
use Rattle.xmt_quads.specs.Traces.{traces_of}
use Rattle.quad_code.specs.Lined.{Lined}
use Rattle.quad_code.specs.Rows.{rows_of}
use Rattle.quad_code.specs.Statements.{Counts, behind_all}
use Rattle.quad_code.specs.Known.{Region, Serial, Inner, SequenceKnown}
use Rattle.quad_code.specs.Functions.{outer_of, function_code}

-- ---- the texts of prints, in order

abbrev mutual
  pub texts_in : StmtKind → List (List ℕ)
  texts_in (stmt.Block' shape body) = all_texts body
  texts_in (stmt.If' test shape body other) = all_texts body ++ else_texts other
  texts_in (stmt.While' test shape body) = all_texts body
  texts_in (stmt.Do' shape body test) = all_texts body
  texts_in (stmt.For' first_shape first test third shape body) = all_texts first ++ all_texts body
  texts_in (stmt.Spawn' low high shape body) = all_texts body
  texts_in (stmt.Print text values) = text ∷ []
  texts_in _ = []

  pub all_texts : {n : _} → Row_of-Stmt n → List (List ℕ)
  all_texts end_of-Stmt = []
  all_texts (more_of-Stmt place kind rest) = texts_in kind ++ all_texts rest

  pub else_texts : Held-StmtKind-If-2 → List (List ℕ)
  else_texts None' = []
  else_texts (Some' shape body) = all_texts body

abbrev pub texts_of : List Function → List (List ℕ)
texts_of [] = []
texts_of (function ∷ functions) = all_texts (rows_of function.body) ++ texts_of functions

-- ---- the code of all functions

-- what stands before each function in the text is known
abbrev pub codes_from : Program → Counts → List Function → List (List Lined)
codes_from program met [] = []
codes_from program met (function ∷ functions) =
    function_code (first_word program.globals) (words_of program.globals) met function ∷ codes_from program (behind_all met (rows_of function.body)) functions

abbrev pub codes_of : Program → List (List Lined)
codes_of program = codes_from program (record { spawned = 0; printed = 0 }) program.functions

-- The quads of a program: the code of each function, the texts, and the globals as they lie and open.
pub record IsCodeOf (program : Program) (quads : QuadProgram) : Type 0 where
  pub are_quads : map (λ f. f.quads) quads.functions ≡ map (λ code. map (λ l. l.quad) code) (codes_of program)
  pub are_lines : map (λ f. f.lines) quads.functions ≡ map (λ code. map (λ l. l.line) code) (codes_of program)
  pub main : quads.main ≡ program.main
  pub texts : quads.texts ≡ texts_of program.functions
  pub symbols : quads.symbols ≡ symbols_from 0 program.globals
  pub words : quads.words ≡ opening_words program.globals

-- ---- what is asked of the program

-- the program has this function, with so many parameters
pub record HasFunction (program : Program) (f params : ℕ) : Type 0 where
  pub function : Function
  pub found : slice_get program.functions f ≡ Some function
  pub counts : params ≡ function.params

-- which functions blocks may call
module _ (program : Program) (inner : (function : ℕ) → Bool) where
  abbrev pub MayCall : Region → (f values : ℕ) → Type 0
  MayCall Serial f values = HasFunction program f values
  MayCall _ f values = HasFunction program f values × (inner f ≡ true)

  abbrev pub BodyKnown : Region → Function → Type 0
  BodyKnown region function =
      SequenceKnown (length program.globals) MayCall function.variables (outer_of function.body) (λ x. nat_lt x function.params) false region (rows_of function.body)

  -- In each function all names are known; a function that blocks may call spawns and prints nothing, and calls such functions alone.
  pub record IsKnown : Type 0 where
    pub main : HasFunction program program.main 0
    pub few_params : (f : ℕ) (function : Function) → slice_get program.functions f ≡ Some function → function.params ≤ 16
    pub params : (f : ℕ) (function : Function) → slice_get program.functions f ≡ Some function → function.params ≤ function.variables
    pub serial : (f : ℕ) (function : Function) → slice_get program.functions f ≡ Some function → BodyKnown Serial function
    pub called : (f : ℕ) (function : Function) → slice_get program.functions f ≡ Some function → inner f ≡ true → BodyKnown Inner function
    pub unshared : (f : ℕ) (function : Function) → slice_get program.functions f ≡ Some function → inner f ≡ true → (slot : ℕ) → is_shared function.body slot ≡ false
    pub room : All HasRoom program.globals

-- ---- the law

-- the work is at most 64 for each step of the source and 40 more, and no more than that for each step once the thread has ended
pub record IsPaid (trace : List Action) (work steps : ℕ) : Type 0 where
  pub under_way : work ≤ 64 * steps + 40
  pub ended : EndsThread trace → work ≤ 64 * steps

-- Each trace of this code is one of the program, and its work is paid, for a thread of any number. Thread 0, the serial code, begins at `main` alone.
abbrev pub HasPaidTraces : Program → Traces → Type 0
HasPaidTraces program code =
    (thread : ℕ) (begin : Start) (replies : List ℕ) (trace : List Action) (work : ℕ) → (thread ≡ 0 → begin ≡ Main) →
    code begin replies trace work → (steps : ℕ) × traces_in program thread begin replies trace steps × IsPaid trace work steps

abbrev pub QuadsHavePaidTraces : Type 0
QuadsHavePaidTraces =
    (program : Program) (inner : (function : ℕ) → Bool) (quads : QuadProgram) → IsKnown program inner → IsCodeOf program quads → HasPaidTraces program (traces_of quads)
