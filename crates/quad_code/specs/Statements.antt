-- The quads that stand for a statement.
use Rattle.std.specs.Prelude.{ℕ, ◌+◌, List, [], ◌∷◌, ◌++◌, Option, Some, None}
use Rattle.source_meaning.specs.declared.tree.Expr.{Expr}
use Rattle.source_meaning.specs.declared.tree.StmtKind.{StmtKind, Row_of-Stmt, end_of-Stmt, more_of-Stmt, Held-StmtKind-If-2, None', Some'}
use Rattle.source_meaning.specs.declared.tree.StmtKind.TheVariants as stmt
use Rattle.source_meaning.specs.declared.tree.Spot.{Spot}
use Rattle.source_meaning.specs.declared.tree.Spot.TheVariants.{Register}
use Rattle.source_meaning.specs.Code.{spawns, all_spawns}
use Rattle.xmt_quads.specs.declared.code.Operand.{Operand}
use Rattle.xmt_quads.specs.declared.code.Operand.TheVariants.{Reg, Literal}
use Rattle.xmt_quads.specs.declared.code.Quad.TheVariants as quad
use Rattle.quad_code.specs.Lined.{Prints, Lined, lined, one, code_then, choice, loop_code, do_code, spawn_code}
use Rattle.quad_code.specs.Rows.{row_of}
use Rattle.quad_code.specs.Expressions.{operand_of, held, reading, writing, adding, access_of, access_of_slot, code_at, spot_at, values_at, arguments_of}

-- ---- spawns and prints by their numbers in the text

-- how many spawns and how many prints stand before a place in the text
pub record Counts : Type 0 where
  pub spawned : ℕ
  pub printed : ℕ

-- how many prints stand in a statement
abbrev mutual
  pub prints : StmtKind → ℕ
  prints (stmt.Block' shape body) = all_prints body
  prints (stmt.If' test shape body other) = all_prints body + else_prints other
  prints (stmt.While' test shape body) = all_prints body
  prints (stmt.Do' shape body test) = all_prints body
  prints (stmt.For' first_shape first test third shape body) = all_prints first + all_prints body
  prints (stmt.Spawn' low high shape body) = all_prints body
  prints (stmt.Print text values) = 1
  prints _ = 0

  pub all_prints : {n : _} → Row_of-Stmt n → ℕ
  all_prints end_of-Stmt = 0
  all_prints (more_of-Stmt place kind rest) = prints kind + all_prints rest

  pub else_prints : Held-StmtKind-If-2 → ℕ
  else_prints None' = 0
  else_prints (Some' shape body) = all_prints body

-- behind a statement, and behind several
abbrev pub behind : Counts → StmtKind → Counts
behind n kind = record { spawned = n.spawned + spawns kind; printed = n.printed + prints kind }

abbrev pub behind_all : Counts → {n : _} → Row_of-Stmt n → Counts
behind_all n row = record { spawned = n.spawned + all_spawns row; printed = n.printed + all_prints row }

-- behind the beginning of a spawn
abbrev pub in_spawn : Counts → Counts
in_spawn n = record { spawned = 1 + n.spawned; printed = n.printed }

-- ---- the code

-- the operand of an expression, or this number where there is none
abbrev pub option_operand : (register default : ℕ) → Option Expr → Operand
option_operand r default None = Literal default
option_operand r default (Some e) = operand_of r e.kind

-- The first word and the length of each global, the number of each shared variable, and how many variables the function has: the registers from that number on are free.
module _ (base_of size_of : (global : ℕ) → ℕ) (outer : (slot : ℕ) → Option ℕ) (variables : ℕ) where
  abbrev pub expression_at : (at : ℕ) → Expr → List Lined
  expression_at at e = code_at base_of size_of outer at variables e.at.line e.kind

  abbrev pub option_at : (at : ℕ) → Option Expr → List Lined
  option_at at None = []
  option_at at (Some e) = expression_at at e

  -- a print: its values, the argument list, and the text
  abbrev pub print_at : (at line number : ℕ) → (text : List ℕ) → List Expr → List Lined
  print_at at line number text values =
      code_then at (values_at base_of size_of outer at variables (row_of values)) (λ at.
      arguments_of base_of size_of outer line 0 variables (row_of values) ++ record { quad = quad.Print number; line = line; note = Prints text } ∷ [])

  -- a prefix-sum: the variable's value, which is added to the place; what the place held is then the variable's value
  abbrev pub sum_at : (at line : ℕ) → (variable place : Spot) → List Lined
  sum_at at line variable place =
      let old = variables + 1 + held place in
      lined line (reading variables (access_of base_of size_of outer variables variable)) ∷
      code_then (at + 1) (spot_at base_of size_of outer (at + 1) (variables + 1) line place) (λ at.
      adding line old (access_of base_of size_of outer (variables + 1) place) (Reg variables) ++
      one line (writing (access_of base_of size_of outer variables variable) (Reg old)))

  -- the bounds of a spawn, and its block
  abbrev pub spawn_at : (at line site : ℕ) → (low high : Expr) → (block : (at : ℕ) → List Lined) → List Lined
  spawn_at at line site low high block =
      code_then at (expression_at at low) (λ at.
      code_then at (code_at base_of size_of outer at (variables + 1) high.at.line high.kind) (λ at.
      spawn_code line at site (operand_of variables low.kind) (operand_of (variables + 1) high.kind) block))

  -- a statement put at this place, with the places to which a `break` and a `continue` go
  abbrev mutual
    pub statement_at : (at leave again : ℕ) → Counts → (line : ℕ) → StmtKind → List Lined
    statement_at at leave again n line stmt.Empty = []
    statement_at at leave again n line (stmt.Value e) = expression_at at e
    statement_at at leave again n line (stmt.Declare slot value) =
        code_then at (option_at at value) (λ at. one line (writing (access_of_slot slot (outer slot)) (option_operand variables 0 value)))
    statement_at at leave again n line (stmt.Block' shape body) = sequence_at at leave again n body
    statement_at at leave again n line (stmt.If' test shape body other) =
        code_then at (expression_at at test) (λ at.
        choice line at (quad.IfZero (operand_of variables test.kind)) (λ at. sequence_at at leave again n body) (λ at. else_at at leave again (behind_all n body) other))
    statement_at at leave again n line (stmt.While' test shape body) =
        loop_code line at (λ at. expression_at at test) (operand_of variables test.kind) (λ at leave again. sequence_at at leave again n body) (λ at. [])
    statement_at at leave again n line (stmt.Do' shape body test) =
        do_code line at (λ at. expression_at at test) (operand_of variables test.kind) (λ at leave again. sequence_at at leave again n body)
    statement_at at leave again n line (stmt.For' first_shape first test third shape body) =
        code_then at (sequence_at at leave again n first) (λ at.
        loop_code line at (λ at. option_at at test) (option_operand variables 1 test) (λ at leave again. sequence_at at leave again (behind_all n first) body) (λ at. option_at at third))
    statement_at at leave again n line stmt.Break = one line (quad.Jump leave)
    statement_at at leave again n line stmt.Continue = one line (quad.Jump again)
    statement_at at leave again n line (stmt.Return value) = code_then at (option_at at value) (λ at. one line (quad.Return (option_operand variables 0 value)))
    statement_at at leave again n line (stmt.Spawn' low high shape body) = spawn_at at line n.spawned low high (λ at. sequence_at at leave again (in_spawn n) body)
    statement_at at leave again n line (stmt.Ps v r) = sum_at at line v (Register r)
    statement_at at leave again n line (stmt.Psm v p) = sum_at at line v p
    statement_at at leave again n line (stmt.Print text values) = print_at at line n.printed text values

    pub sequence_at : (at leave again : ℕ) → Counts → {m : _} → Row_of-Stmt m → List Lined
    sequence_at at leave again n end_of-Stmt = []
    sequence_at at leave again n (more_of-Stmt place kind rest) =
        code_then at (statement_at at leave again n place.line kind) (λ at. sequence_at at leave again (behind n kind) rest)

    pub else_at : (at leave again : ℕ) → Counts → Held-StmtKind-If-2 → List Lined
    else_at at leave again n None' = []
    else_at at leave again n (Some' shape body) = sequence_at at leave again n body
