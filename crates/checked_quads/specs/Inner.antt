-- Which functions blocks may call.
use Rattle.std.specs.Prelude.{◌≡◌, ◌↔◌, ℕ, Bool, true, false, List, Some, slice_get}
use Rattle.source_meaning.specs.declared.tree.StmtKind.{StmtKind}
use Rattle.source_meaning.specs.declared.tree.StmtKind.TheVariants as stmt
use Rattle.source_meaning.specs.declared.tree.Function.{Function}
use Rattle.source_meaning.specs.declared.tree.Program.{Program}
use Rattle.source_meaning.specs.Inside.{some_in_list}
use Rattle.spawn_check.specs.Calls.{calls}

abbrev pub is_print : StmtKind → Bool
is_print (stmt.Print text values) = true
is_print _ = false

abbrev pub is_spawn : StmtKind → Bool
is_spawn (stmt.Spawn' low high shape block) = true
is_spawn _ = false

-- a statement that stands in serial code alone
abbrev pub is_serial : StmtKind → Bool
is_serial (stmt.Print text values) = true
is_serial (stmt.Spawn' low high shape block) = true
is_serial _ = false

-- a statement that passes the test is reached from a function by calls
pub data Reaches (functions : List Function) (test : StmtKind → Bool) : (function : ℕ) → Type 0 where
  itself : {f : ℕ} (function : Function) → slice_get functions f ≡ Some function → some_in_list test function.body ≡ true → Reaches functions test f
  by_call : {f g : ℕ} (function : Function) → slice_get functions f ≡ Some function → calls g function.body ≡ true → Reaches functions test g → Reaches functions test f

-- the functions that reach neither a print nor a spawn
abbrev pub AreInner : Program → (inner : (function : ℕ) → Bool) → Type 0
AreInner program inner = (f : ℕ) → (inner f ≡ true) ↔ (Reaches program.functions is_serial f → ⊥)
