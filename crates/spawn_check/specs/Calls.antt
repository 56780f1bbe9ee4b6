-- Which functions reach a `printf` or a `spawn` by calls.
use Rattle.std.specs.Prelude.{ℕ, ◌==◌, ◌≡◌, Bool, true, false, List, Some, IsTrue, slice_get}
use Rattle.source_meaning.specs.declared.tree.ExprKind.{ExprKind}
use Rattle.source_meaning.specs.declared.tree.ExprKind.TheVariants as expr
use Rattle.source_meaning.specs.declared.tree.Stmt.{Stmt}
use Rattle.source_meaning.specs.declared.tree.StmtKind.{StmtKind}
use Rattle.source_meaning.specs.declared.tree.StmtKind.TheVariants as stmt
use Rattle.source_meaning.specs.declared.tree.Function.{Function}
use Rattle.source_meaning.specs.Inside.{some_of_statement, some_in_list}
use Rattle.spawn_check.specs.declared.things.Sought.{Sought}
use Rattle.spawn_check.specs.declared.things.Sought.TheVariants as sought

abbrev pub is_sought : Sought → StmtKind → Bool
is_sought sought.Print (stmt.Print text values) = true
is_sought sought.Spawn (stmt.Spawn' low high shape block) = true
is_sought _ _ = false

abbrev pub is_call : (function : ℕ) → ExprKind → Bool
is_call f (expr.Call' g shape values) = f == g
is_call f _ = false

-- a `printf`, or a `spawn`, stands somewhere in the body
abbrev pub has : Sought → List Stmt → Bool
has what body = some_in_list (is_sought what) body

-- a call of the function stands somewhere in the body
abbrev pub calls : (function : ℕ) → List Stmt → Bool
calls f body = some_in_list (some_of_statement (is_call f)) body

-- a `printf`, or a `spawn`, is reached from a function by calls: it stands in the function itself, or in one to which a chain of calls leads. A
-- number that no function has reaches nothing
pub data Reaches (functions : List Function) (what : Sought) : (function : ℕ) → Type 0 where
  itself : {f : ℕ} (function : Function) → slice_get functions f ≡ Some function → IsTrue (has what function.body) → Reaches functions what f
  by_call : {f g : ℕ} (function : Function) → slice_get functions f ≡ Some function → IsTrue (calls g function.body) →
      Reaches functions what g → Reaches functions what f
