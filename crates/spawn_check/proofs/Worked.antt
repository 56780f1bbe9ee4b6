-- The table of spawn blocks, and the variables that a block shares, on written programs.
use Rattle.std.proofs.Common.{ℕ, ◌≡◌, refl, arith, List, [], ◌∷◌}
use Rattle.std.specs.Prelude.{None, Some, codes}
use Rattle.xmt_base.specs.declared.Place.{Place}
use Rattle.source_meaning.specs.declared.tree.Expr.{Expr}
use Rattle.source_meaning.specs.declared.tree.ExprKind.{ExprKind}
use Rattle.source_meaning.specs.declared.tree.ExprKind.TheVariants as expr
use Rattle.source_meaning.specs.declared.tree.Spot.TheVariants as spot
use Rattle.source_meaning.specs.declared.tree.Stmt.{Stmt}
use Rattle.source_meaning.specs.declared.tree.StmtKind.{StmtKind}
use Rattle.source_meaning.specs.declared.tree.StmtKind.TheVariants as stmt
use Rattle.source_meaning.specs.declared.tree.Function.{Function}
use Rattle.source_meaning.specs.declared.tree.Program.{Program}
use Rattle.source_meaning.specs.Opened.{opened}
use Rattle.source_meaning.proofs.Written.{number, function, program_of}
use Rattle.xmt_base.specs.declared.operators.BinOp.TheVariants.{Eq}
use Rattle.spawn_check.specs.declared.refusal.SpawnKind.TheVariants.{DollarOutside, Nested, CallReachesSpawn}
use Rattle.spawn_check.specs.declared.things.Sought.TheVariants as sought
use Rattle.spawn_check.specs.Calls.{Reaches, itself, by_call}
use Rattle.spawn_check.specs.Table.{Meets, dollar_outside, nested, call_spawns}
use Rattle.spawn_check.specs.Sharing.{spawn_at, shared_with, variables_of}

-- all on line 1
abbrev at : (column : ℕ) → Place
at column = record { line = 1; column = column }

abbrev e : (column : ℕ) → ExprKind → Expr
e column kind = record { at = at column; kind = kind }

abbrev s : (column : ℕ) → StmtKind → Stmt
s column kind = record { at = at column; kind = kind }

-- `main() { int i; i = $; }`
abbrev dollar : Program
dollar = program_of [] [] (function (codes "main") 1 (s 10 (stmt.Declare 0 None) ∷ s 17 (stmt.Value (e 17 (expr.Assign (spot.Local 0) (e 21 expr.Dollar)))) ∷ []) ∷ [])

dollar_is_outside : Meets dollar DollarOutside (at 21)
unfolding opened
dollar_is_outside = dollar_outside (record { found = (0, omega arith, refl) })

-- `int g() { spawn(0, 1) { } return 0; } main() { spawn(0, 1) { int k = g(); } }`
abbrev g : Function
g = function (codes "g") 0 (s 11 (stmt.Spawn (number 0) (number 1) []) ∷ s 27 (stmt.Return (Some (number 0))) ∷ [])

abbrev calls_g : List Stmt
calls_g = s 48 (stmt.Spawn (number 0) (number 1) (s 62 (stmt.Declare 0 (Some (e 70 (expr.Call 0 [])))) ∷ [])) ∷ []

abbrev call : Program
call = record { globals = []; registers = []; functions = g ∷ function (codes "main") 1 calls_g ∷ []; main = 1 }

g_reaches_a_spawn : Reaches call.functions sought.Spawn 0
unfolding opened
g_reaches_a_spawn = itself g refl refl

call_reaches_a_spawn : Meets call CallReachesSpawn (at 70)
unfolding opened
call_reaches_a_spawn = call_spawns (record { found = (3, omega arith, refl) }) g_reaches_a_spawn

-- two functions that call each other: the second reaches the spawn of the first, and the first has it itself
abbrev cycle : List Function
cycle =
    function (codes "a") 0 (s 1 (stmt.Spawn (number 0) (number 1) []) ∷ s 1 (stmt.Value (e 1 (expr.Call 1 []))) ∷ []) ∷
    function (codes "b") 0 (s 1 (stmt.Value (e 1 (expr.Call 0 []))) ∷ []) ∷ []

cycle_reaches_a_spawn : Reaches cycle sought.Spawn 1
unfolding opened
cycle_reaches_a_spawn =
    by_call {g = 0} (function (codes "b") 0 (s 1 (stmt.Value (e 1 (expr.Call 0 []))) ∷ [])) refl refl
    (itself (function (codes "a") 0 (s 1 (stmt.Spawn (number 0) (number 1) []) ∷ s 1 (stmt.Value (e 1 (expr.Call 1 []))) ∷ [])) refl refl)

-- `main() { spawn(0, 1) { spawn(0, 1) { } } }`
abbrev twice : Program
twice = program_of [] [] (function (codes "main") 0 (s 10 (stmt.Spawn (number 0) (number 1) (s 24 (stmt.Spawn (number 0) (number 1) []) ∷ [])) ∷ []) ∷ [])

spawn_is_nested : Meets twice Nested (at 24)
unfolding opened
spawn_is_nested = nested (record { found = (1, omega arith, refl) })

-- `main() { int n = 10; int hit = 0; spawn(0, 4) { if ($ == 3) hit = n; } printf("%d\n", hit); }`: the block shares `hit` alone
abbrev block : List Stmt
block = s 49 (stmt.If (e 53 (expr.Binary Eq (e 53 expr.Dollar) (number 3))) (s 61 (stmt.Value (e 61 (expr.Assign (spot.Local 1) (e 67 (expr.Read (spot.Local 0))))))) None) ∷ []

abbrev hit : Program
hit = program_of [] []
    (function (codes "main") 2
    (s 10 (stmt.Declare 0 (Some (number 10))) ∷ s 22 (stmt.Declare 1 (Some (number 0))) ∷ s 35 (stmt.Spawn (number 0) (number 4) block) ∷
    s 73 (stmt.Print (codes "%d\n") (e 88 (expr.Read (spot.Local 1)) ∷ [])) ∷ []) ∷
    [])

spawn_of_hit : spawn_at hit 0 0 ≡ Some (stmt.Spawn (number 0) (number 4) block)
unfolding opened
spawn_of_hit = refl

hit_is_shared : shared_with (variables_of hit 0) (stmt.Spawn (number 0) (number 4) block) ≡ 1 ∷ []
unfolding opened
hit_is_shared = refl
