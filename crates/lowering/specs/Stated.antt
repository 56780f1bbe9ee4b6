-- Statements as they are appended, with the texts of their prints.
use Rattle.std.specs.Prelude.{◌≡◌, ℕ, ◌+◌, List, [], ◌∷◌, ◌++◌, Option, Some, None, length, slice_set}
use Rattle.source_meaning.specs.declared.tree.Expr.{Expr}
use Rattle.source_meaning.specs.declared.tree.Spot.{Spot}
use Rattle.source_meaning.specs.declared.tree.Stmt.{Stmt}
use Rattle.source_meaning.specs.declared.tree.Function.{Function}
use Rattle.source_meaning.specs.declared.tree.StmtKind.{StmtKind}
use Rattle.source_meaning.specs.declared.tree.StmtKind.TheVariants as stmt
use Rattle.source_meaning.specs.declared.tree.GlobalVar.{GlobalVar}
use Rattle.source_meaning.specs.Layout.{first_word, words_of}
use Rattle.xmt_quads.specs.declared.code.Operand.{Operand}
use Rattle.xmt_quads.specs.declared.code.Operand.TheVariants.{Reg, Literal}
use Rattle.xmt_quads.specs.declared.code.Quad.{Quad}
use Rattle.xmt_quads.specs.declared.code.Quad.TheVariants as quad
use Rattle.quad_code.specs.Lined.{Lined, one, code_then}
use Rattle.quad_code.specs.Rows.{rows_of}
use Rattle.quad_code.specs.Functions.{outer_of, parameters_code}
use Rattle.quad_code.specs.declared.Access.{Access}
use Rattle.quad_code.specs.Expressions.{operand_of, access_of, adding, writing}
use Rattle.quad_code.specs.Statements.{Counts, option_at, print_at, sum_at, statement_at, sequence_at}
use Rattle.quad_code.specs.Whole.{texts_in, all_texts}
use Rattle.lowering.specs.declared.code.Placed.{Placed}
use Rattle.lowering.specs.declared.loops.Exits.{Exits}
use Rattle.lowering.specs.Emitted.{Appends, with_code, at_line, expression_code}

-- This code was appended, and these texts, whose prints are numbered from that of the next text on. How many spawns stand before it makes no difference.
pub record Emits (code : Counts → (at : ℕ) → List Lined) (texts : List (List ℕ)) (old new : List Placed) (before behind : List (List ℕ)) : Type 0 where
  pub appended : (spawned : ℕ) → Appends (code (record { spawned = spawned; printed = length before })) old new
  pub printed : behind ≡ before ++ texts

-- a statement that has no statement inside it, and prints nothing
abbrev pub IsPlain : StmtKind → Type 0
IsPlain (stmt.Block' shape body) = ⊥
IsPlain (stmt.If' test shape body other) = ⊥
IsPlain (stmt.While' test shape body) = ⊥
IsPlain (stmt.Do' shape body test) = ⊥
IsPlain (stmt.For' first_shape first test third shape body) = ⊥
IsPlain (stmt.Spawn' low high shape body) = ⊥
IsPlain (stmt.Print text values) = ⊥
IsPlain _ = Unit {0}

-- the kind of a statement
abbrev pub IsIf : StmtKind → Type 0
IsIf (stmt.If' test shape body other) = Unit {0}
IsIf _ = ⊥

abbrev pub IsWhile : StmtKind → Type 0
IsWhile (stmt.While' test shape body) = Unit {0}
IsWhile _ = ⊥

abbrev pub IsDo : StmtKind → Type 0
IsDo (stmt.Do' shape body test) = Unit {0}
IsDo _ = ⊥

abbrev pub IsFor : StmtKind → Type 0
IsFor (stmt.For' first_shape first test third shape body) = Unit {0}
IsFor _ = ⊥

abbrev pub IsSpawn : StmtKind → Type 0
IsSpawn (stmt.Spawn' low high shape body) = Unit {0}
IsSpawn _ = ⊥

-- the quad at the head of a loop that begins there: the test's jump, or, where the test comes behind the body, a jump to the body
abbrev pub loop_head : Option Operand → (start : ℕ) → Quad
loop_head None start = quad.Jump start
loop_head (Some o) start = quad.IfNot o start

-- the exits of a loop whose head stands behind this code
abbrev pub exits_behind : List Placed → Exits
exits_behind code = record { leave = length code + 1; again = length code + 1 + 1 }

-- the head of a loop, and its two jumps, which are written over later
abbrev pub loop_begun : List Placed → Option Operand → (line : ℕ) → List Placed
loop_begun code o line =
    code ++ at_line (loop_head o (length code + 1 + 1 + 1)) line ∷ at_line (quad.Jump 0) line ∷ at_line (quad.Jump 0) line ∷ []

-- the last quad of a loop, and its two jumps: out of it, and to the position behind its body
abbrev pub loop_ended : List Placed → Exits → (behind : ℕ) → (last : Quad) → (line : ℕ) → List Placed
loop_ended code exits behind last line =
    slice_set (slice_set (code ++ at_line last line ∷ []) exits.leave (at_line (quad.Jump (length code + 1)) line)) exits.again (at_line (quad.Jump behind) line)

-- ---- in a function with this body, and with so many variables, over these globals
module _ (globals : List GlobalVar) (body : List Stmt) (variables : ℕ) where
  abbrev pub option_code : Option Expr → (at : ℕ) → List Lined
  option_code e at = option_at (first_word globals) (words_of globals) (outer_of body) variables at e

  -- the bounds of a spawn, and the spawn
  abbrev pub bounds_code : (line : ℕ) → (low high : Expr) → List Placed → List Placed
  bounds_code line low high code =
      with_code (expression_code globals body (variables + 1) high) (with_code (expression_code globals body variables low) code) ++
      at_line (quad.Spawn (operand_of variables low.kind) (operand_of (variables + 1) high.kind)) line ∷ []

  -- what stands behind the index of a prefix-sum
  abbrev pub summed_code : (line old : ℕ) → (to : Access) → (variable : Spot) → List Lined
  summed_code line old to variable =
      adding line old to (Reg variables) ++ one line (writing (access_of (first_word globals) (words_of globals) (outer_of body) variables variable) (Reg old))

  abbrev pub sum_code : (line : ℕ) → (variable place : Spot) → (at : ℕ) → List Lined
  sum_code line variable place at = sum_at (first_word globals) (words_of globals) (outer_of body) variables at line variable place

  abbrev pub print_code : (line : ℕ) → (text : List ℕ) → List Expr → Counts → (at : ℕ) → List Lined
  print_code line text values n at = print_at (first_word globals) (words_of globals) (outer_of body) variables at line n.printed text values

  abbrev pub statement_code : Exits → (line : ℕ) → StmtKind → Counts → (at : ℕ) → List Lined
  statement_code exits line kind n at = statement_at (first_word globals) (words_of globals) (outer_of body) variables at exits.leave exits.again n line kind

  abbrev pub sequence_code : Exits → List Stmt → Counts → (at : ℕ) → List Lined
  sequence_code exits list n at = sequence_at (first_word globals) (words_of globals) (outer_of body) variables at exits.leave exits.again n (rows_of list)

  -- the code of a statement that neither spawns nor prints
  abbrev pub plain_code : Exits → (line : ℕ) → StmtKind → (at : ℕ) → List Lined
  plain_code exits line kind at = statement_code exits line kind (record { spawned = 0; printed = 0 }) at

  abbrev pub EmitsStatement : Exits → Stmt → (old new : List Placed) → (before behind : List (List ℕ)) → Type 0
  EmitsStatement exits s = Emits (statement_code exits s.at.line s.kind) (texts_in s.kind)

  abbrev pub EmitsSequence : Exits → List Stmt → (old new : List Placed) → (before behind : List (List ℕ)) → Type 0
  EmitsSequence exits list = Emits (sequence_code exits list) (all_texts (rows_of list))

  -- the statement behind an `else`, or nothing
  abbrev pub EmitsOther : Exits → Option Stmt → (old new : List Placed) → (before behind : List (List ℕ)) → Type 0
  EmitsOther exits None = EmitsSequence exits []
  EmitsOther exits (Some s) = EmitsSequence exits (s ∷ [])

-- the code of a function, wherever it is put
abbrev pub body_code : List GlobalVar → Function → Counts → (at : ℕ) → List Lined
body_code globals function n at =
    code_then at (parameters_code (outer_of function.body) function.variables 0 function.params) (λ at.
    sequence_code globals function.body function.variables (record { leave = 0; again = 0 }) function.body n at ++ one 0 (quad.Return (Literal 0)))
