-- Which variables a statement declares, writes and shares, and the cell of each variable.
use Rattle.std.specs.Prelude.{ℕ, zero, suc, ◌==◌, Bool, false, not, ◌&&◌, ◌||◌, if◌then◌else◌, List}
use Rattle.source_meaning.specs.declared.tree.ExprKind.{ExprKind}
use Rattle.source_meaning.specs.declared.tree.ExprKind.TheVariants as expr
use Rattle.source_meaning.specs.declared.tree.Spot.{Spot}
use Rattle.source_meaning.specs.declared.tree.Spot.TheVariants as spot
use Rattle.source_meaning.specs.declared.tree.Stmt.{Stmt}
use Rattle.source_meaning.specs.declared.tree.StmtKind.{StmtKind, Row_of-Stmt}
use Rattle.source_meaning.specs.declared.tree.StmtKind.TheVariants as stmt
use Rattle.source_meaning.specs.Store.{Cell, Outer, Private}
use Rattle.source_meaning.specs.Inside.{some_of_statement, some_in_body, some_in_list}

abbrev pub is_local : (slot : ℕ) → Spot → Bool
is_local slot (spot.Local other) = slot == other
is_local slot _ = false

-- a statement is the declaration of the variable
abbrev pub is_declaration : (slot : ℕ) → StmtKind → Bool
is_declaration slot (stmt.Declare other value) = slot == other
is_declaration slot _ = false

-- an expression assigns to the variable
abbrev pub is_assignment : (slot : ℕ) → ExprKind → Bool
is_assignment slot (expr.Assign' p shape e) = is_local slot p
is_assignment slot (expr.Update' op p shape e) = is_local slot p
is_assignment slot (expr.Step p up after) = is_local slot p
is_assignment slot _ = false

-- a prefix-sum writes the variable
abbrev pub is_sum_on : (slot : ℕ) → StmtKind → Bool
is_sum_on slot (stmt.Ps v r) = is_local slot v
is_sum_on slot (stmt.Psm v p) = is_local slot v || is_local slot p
is_sum_on slot _ = false

-- a statement writes the variable by one of its own expressions or by a prefix-sum
abbrev pub is_write : (slot : ℕ) → StmtKind → Bool
is_write slot s = is_sum_on slot s || some_of_statement (is_assignment slot) s

-- whether these statements declare the variable, or one inside them does
abbrev pub is_declared_in : (slot : ℕ) → {n : _} → Row_of-Stmt n → Bool
is_declared_in slot body = some_in_body (is_declaration slot) body

-- whether they write it
abbrev pub is_written_in : (slot : ℕ) → {n : _} → Row_of-Stmt n → Bool
is_written_in slot body = some_in_body (is_write slot) body

-- a spawn's block writes the variable and does not declare it
abbrev pub is_sharing : (slot : ℕ) → StmtKind → Bool
is_sharing slot (stmt.Spawn' low high shape block) = is_written_in slot block && not (is_declared_in slot block)
is_sharing slot _ = false

-- whether a variable of the function with this body is shared: a block writes it that does not declare it
abbrev pub is_shared : (body : List Stmt) → (slot : ℕ) → Bool
is_shared body slot = some_in_list (is_sharing slot) body

-- how many of the function's variables below this one are shared
abbrev pub shared_below : (body : List Stmt) → (slot : ℕ) → ℕ
shared_below body zero = 0
shared_below body (suc slot) = if is_shared body slot then suc (shared_below body slot) else shared_below body slot

-- ---- the cells of variables

-- the cell of each variable, by its slot
abbrev pub Frame : Type 0
Frame = ℕ → Cell

-- the variables of the function with this body, in a thread and at a depth
abbrev pub own_frame : (body : List Stmt) → (thread depth : ℕ) → Frame
own_frame body thread depth slot =
    if is_shared body slot then Outer thread depth (shared_below body slot) else Private thread depth slot

-- a block's variables are the new thread's own, and the others those of its parent
abbrev pub block_frame : (own : Frame) → {n : _} → Row_of-Stmt n → Frame → Frame
block_frame own block frame = λ slot. if is_declared_in slot block then own slot else frame slot
