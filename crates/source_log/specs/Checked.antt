-- What is asked of a program for its threads to keep to their cells: which functions its blocks call, and which variables they declare.
use Rattle.std.specs.Prelude.{◌≡◌, ℕ, ◌==◌, Bool, true, false, List, [], ◌∷◌, Option, Some, slice_get}
use Rattle.std.specs.List.{list_any}
use mathlib.Core.Former.{Count}
use Rattle.source_meaning.specs.declared.tree.Expr.{Expr}
use Rattle.source_meaning.specs.declared.tree.ExprKind.{ExprKind, Row_of-Expr}
use Rattle.source_meaning.specs.declared.tree.ExprKind.TheVariants as expr
use Rattle.source_meaning.specs.declared.tree.Spot.{Spot}
use Rattle.source_meaning.specs.declared.tree.Stmt.{Stmt}
use Rattle.source_meaning.specs.declared.tree.StmtKind.{StmtKind, Row_of-Stmt, end_of-Stmt, more_of-Stmt, Held-StmtKind-If-2, None', Some'}
use Rattle.source_meaning.specs.declared.tree.StmtKind.TheVariants as stmt
use Rattle.source_meaning.specs.declared.tree.Function.{Function}
use Rattle.source_meaning.specs.declared.tree.Program.{Program}
use Rattle.source_meaning.specs.Variables.{is_shared, is_declaration, is_assignment, is_write, is_sharing}
use Rattle.source_meaning.specs.Inside.{some_expression, some_in_spot, some_in_row, some_option, some_of_statement, some_statement, some_in_body, some_in_other}

-- an expression is a call of the function with this number
abbrev pub is_call : (f : ℕ) → ExprKind → Bool
is_call f (expr.Call' function shape values) = f == function
is_call f _ = false

abbrev pub expression_calls : (f : ℕ) → ExprKind → Bool
expression_calls f kind = some_expression (is_call f) kind

abbrev pub index_calls : (f : ℕ) → Spot → Bool
index_calls f p = some_in_spot (is_call f) p

abbrev pub any_expression_calls : (f : ℕ) → {n : _} → Row_of-Expr n → Bool
any_expression_calls f row = some_in_row (is_call f) row

abbrev pub option_calls : (f : ℕ) → Option Expr → Bool
option_calls f e = some_option (is_call f) e

abbrev pub calls : (f : ℕ) → StmtKind → Bool
calls f kind = some_statement (some_of_statement (is_call f)) kind

abbrev pub any_calls : (f : ℕ) → {n : _} → Row_of-Stmt n → Bool
any_calls f body = some_in_body (some_of_statement (is_call f)) body

abbrev pub else_calls : (f : ℕ) → Held-StmtKind-If-2 → Bool
else_calls f other = some_in_other (some_of_statement (is_call f)) other

abbrev pub expression_writes : (slot : ℕ) → ExprKind → Bool
expression_writes slot kind = some_expression (is_assignment slot) kind

abbrev pub index_writes : (slot : ℕ) → Spot → Bool
index_writes slot p = some_in_spot (is_assignment slot) p

abbrev pub any_expression_writes : (slot : ℕ) → {n : _} → Row_of-Expr n → Bool
any_expression_writes slot row = some_in_row (is_assignment slot) row

abbrev pub option_writes : (slot : ℕ) → Option Expr → Bool
option_writes slot e = some_option (is_assignment slot) e

abbrev pub writes : (slot : ℕ) → StmtKind → Bool
writes slot kind = some_statement (is_write slot) kind

abbrev pub any_writes : (slot : ℕ) → {n : _} → Row_of-Stmt n → Bool
any_writes slot body = some_in_body (is_write slot) body

abbrev pub else_writes : (slot : ℕ) → Held-StmtKind-If-2 → Bool
else_writes slot other = some_in_other (is_write slot) other

abbrev pub declares : (slot : ℕ) → StmtKind → Bool
declares slot kind = some_statement (is_declaration slot) kind

abbrev pub any_declares : (slot : ℕ) → {n : _} → Row_of-Stmt n → Bool
any_declares slot body = some_in_body (is_declaration slot) body

abbrev pub else_declares : (slot : ℕ) → Held-StmtKind-If-2 → Bool
else_declares slot other = some_in_other (is_declaration slot) other

abbrev pub shares : (slot : ℕ) → StmtKind → Bool
shares slot kind = some_statement (is_sharing slot) kind

abbrev pub any_shares : (slot : ℕ) → {n : _} → Row_of-Stmt n → Bool
any_shares slot body = some_in_body (is_sharing slot) body

abbrev pub else_shares : (slot : ℕ) → Held-StmtKind-If-2 → Bool
else_shares slot other = some_in_other (is_sharing slot) other

-- what is asked of each outermost block in a statement
module _ (Block : (n : Count) → Row_of-Stmt n → Type 0) where
  abbrev mutual
    pub BlocksAre : StmtKind → Type 0
    BlocksAre (stmt.Block' shape body) = AllBlocksAre body
    BlocksAre (stmt.If' test shape body other) = AllBlocksAre body × ElseBlocksAre other
    BlocksAre (stmt.While' test shape body) = AllBlocksAre body
    BlocksAre (stmt.Do' shape body test) = AllBlocksAre body
    BlocksAre (stmt.For' first_shape first test third shape body) = AllBlocksAre first × AllBlocksAre body
    BlocksAre (stmt.Spawn' low high shape body) = Block _ body
    BlocksAre _ = Unit {0}

    pub AllBlocksAre : {n : _} → Row_of-Stmt n → Type 0
    AllBlocksAre end_of-Stmt = Unit {0}
    AllBlocksAre (more_of-Stmt place kind rest) = BlocksAre kind × AllBlocksAre rest

    pub ElseBlocksAre : Held-StmtKind-If-2 → Type 0
    ElseBlocksAre None' = Unit {0}
    ElseBlocksAre (Some' shape body) = AllBlocksAre body

  abbrev pub ListBlocksAre : List Stmt → Type 0
  ListBlocksAre [] = Unit {0}
  ListBlocksAre (s ∷ rest) = BlocksAre s.kind × ListBlocksAre rest

abbrev pub NoSpawn : (n : Count) → Row_of-Stmt n → Type 0
NoSpawn n block = ⊥

-- a block that spawns nothing itself, calls such functions alone, and declares no variable that another block of the function writes
abbrev pub IsPlainBlock : (MayCall : ℕ → Type 0) → (body : List Stmt) → (n : Count) → Row_of-Stmt n → Type 0
IsPlainBlock MayCall body n block =
    AllBlocksAre NoSpawn block ×
    ((f : ℕ) → any_calls f block ≡ true → MayCall f) ×
    ((slot : ℕ) → any_declares slot block ≡ true → is_shared body slot ≡ false)

-- The functions that blocks may call spawn nothing, and call such functions alone.
pub record IsPlain (program : Program) (MayCall : ℕ → Type 0) : Type 0 where
  pub blocks : (f : ℕ) (function : Function) → slice_get program.functions f ≡ Some function → ListBlocksAre (IsPlainBlock MayCall function.body) function.body
  pub called :
      (f : ℕ) (function : Function) → slice_get program.functions f ≡ Some function → MayCall f →
      ListBlocksAre NoSpawn function.body × ((g : ℕ) → list_any (λ s. calls g s.kind) function.body ≡ true → MayCall g)
