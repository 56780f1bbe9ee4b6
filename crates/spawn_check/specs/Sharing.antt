-- The variables that a block writes and that are declared outside it.
use Rattle.std.specs.Prelude.{ℕ, ◌≡◌, ◌+◌, List, [], ◌∷◌, ◌++◌, Option, Some, None, filter, length, slice_get}
use Rattle.std.specs.Prelude.{option_and_then}
use Rattle.std.specs.List.{range_with_len}
use Rattle.source_meaning.specs.declared.tree.Stmt.{Stmt}
use Rattle.source_meaning.specs.declared.tree.StmtKind.{StmtKind, Row_of-Stmt, end_of-Stmt, more_of-Stmt, Held-StmtKind-If-2, None', Some'}
use Rattle.source_meaning.specs.declared.tree.StmtKind.TheVariants as stmt
use Rattle.source_meaning.specs.declared.tree.Function.{Function}
use Rattle.source_meaning.specs.declared.tree.Program.{Program}
use Rattle.source_meaning.specs.Variables.{is_sharing}
use Rattle.spawn_check.specs.declared.written.Walk.{Walk}
use Rattle.spawn_check.specs.declared.written.Walk.TheVariants.{Found, Passed}

-- the spawns of a statement in the order of the text: one stands before those inside its block
abbrev mutual
  pub spawns_of : StmtKind → List StmtKind
  spawns_of (stmt.Block' shape body) = spawns_of_row body
  spawns_of (stmt.If' choice shape body other) = spawns_of_box body ++ spawns_of_other other
  spawns_of (stmt.While' choice shape body) = spawns_of_box body
  spawns_of (stmt.Do' shape body choice) = spawns_of_box body
  spawns_of (stmt.For' first_shape first choice third shape body) = spawns_of_row first ++ spawns_of_box body
  spawns_of (stmt.Spawn' low high shape block) = stmt.Spawn' low high shape block ∷ spawns_of_row block
  spawns_of _ = []

  pub spawns_of_box : {n : _} → Row_of-Stmt n → List StmtKind
  spawns_of_box end_of-Stmt = []
  spawns_of_box (more_of-Stmt place kind rest) = spawns_of kind

  pub spawns_of_row : {n : _} → Row_of-Stmt n → List StmtKind
  spawns_of_row end_of-Stmt = []
  spawns_of_row (more_of-Stmt place kind rest) = spawns_of kind ++ spawns_of_row rest

  pub spawns_of_other : Held-StmtKind-If-2 → List StmtKind
  spawns_of_other None' = []
  spawns_of_other (Some' shape body) = spawns_of_box body

abbrev pub spawns_of_option : Option Stmt → List StmtKind
spawns_of_option None = []
spawns_of_option (Some s) = spawns_of s.kind

abbrev pub spawns_in : List Stmt → List StmtKind
spawns_in [] = []
spawns_in (s ∷ rest) = spawns_of s.kind ++ spawns_in rest

-- the spawn with this number, in the order of the text, of the function with this number
abbrev pub spawn_at : Program → (function spawn : ℕ) → Option StmtKind
spawn_at program function spawn = option_and_then (λ (f : Function). slice_get (spawns_in f.body) spawn) (slice_get program.functions function)

abbrev pub variables_in : Option Function → ℕ
variables_in None = 0
variables_in (Some f) = f.variables

-- how many variables a function has
abbrev pub variables_of : Program → (function : ℕ) → ℕ
variables_of program function = variables_in (slice_get program.functions function)

-- of so many variables those that the block of a spawn writes and does not declare, rising
abbrev pub shared_with : (variables : ℕ) → StmtKind → List ℕ
shared_with variables s = filter (λ slot. is_sharing slot s) (range_with_len 0 variables)

-- what a walk over these spawns comes to, which looks for the one with this number: it is found, or so many are left to be passed
abbrev pub IsNth : Walk → List StmtKind → (number : ℕ) → Type 0
IsNth (Found s) spawns number = slice_get spawns number ≡ Some s.now.kind
IsNth (Passed left) spawns number = number ≡ left + length spawns
