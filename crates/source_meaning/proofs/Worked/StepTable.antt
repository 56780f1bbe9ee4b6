-- How many steps each construct takes. `int x; int A[2]; psBaseReg r; int f(int k) { return k; } void g() { } main() { int v; STATEMENT }`, where the declaration and the end of `main` take one step each.
use Rattle.std.proofs.Common.{◌≡◌, refl, ℕ, [], ◌∷◌, true, false, Some, None}
use Rattle.std.specs.Prelude.{codes, length, map}
use Rattle.xmt_base.specs.declared.operators.BinOp.TheVariants as op
use Rattle.xmt_base.specs.declared.operators.UnOp.TheVariants as un
use Rattle.source_meaning.specs.declared.tree.Program.{Program}
use Rattle.source_meaning.specs.declared.tree.ExprKind.{ExprKind}
use Rattle.source_meaning.specs.declared.tree.Stmt.{Stmt}
use Rattle.source_meaning.specs.declared.tree.Spot.{Spot}
use Rattle.source_meaning.specs.declared.tree.ExprKind.TheVariants as expr
use Rattle.source_meaning.specs.declared.tree.Spot.TheVariants as spot
use Rattle.source_meaning.specs.declared.tree.StmtKind.TheVariants as stmt
use Rattle.source_meaning.specs.Run.{start, rising}
use Rattle.std.specs.Fmt.{digits}
use Rattle.source_meaning.specs.Opened.{opened}
use Rattle.source_meaning.proofs.Written.{e, s, number, read, array, scalar, function}

v : Spot
v = spot.Local 0

element : Spot
element = spot.Element 1 (number 1)

program : Stmt → Program
unfolding v
program statement = record {
  globals = scalar (codes "x") ∷ array (codes "A") 2 ∷ [];
  registers = record { name = codes "r"; opening = 0 } ∷ [];
  functions =
      record { name = codes "f"; value = true; params = 1; variables = 1; body = s (stmt.Return (Some (read v))) ∷ [] } ∷
      record { name = codes "g"; value = false; params = 0; variables = 0; body = [] } ∷
      function (codes "main") 1 (s (stmt.Declare 0 None) ∷ statement ∷ []) ∷ [];
  main = 2;
}

-- the steps of the statement, and two more
steps : Stmt → ℕ
unfolding program
steps statement = length (rising (program statement) (start (program statement) (0 ∷ 0 ∷ 0 ∷ [])) 100)

value : ExprKind → Stmt
value kind = s (stmt.Value (e kind))

empty : Stmt
empty = s stmt.Empty

-- `;`, `{ }`, `{ ; }`, `return;`, `int v;`
plain_statements : map steps (empty ∷ s (stmt.Block []) ∷ s (stmt.Block (empty ∷ [])) ∷ s (stmt.Return None) ∷ s (stmt.Declare 0 None) ∷ []) ≡ 3 ∷ 3 ∷ 4 ∷ 2 ∷ 3 ∷ []
unfolding opened digits program steps v element value empty
plain_statements = refl

-- `5;`, `v;`, `x;`, `r;`, `A[1];`, `-5;`, `1 + 2;`: the value is dropped in one step
expressions :
    map steps (value (expr.Number 5) ∷ value (expr.Read v) ∷ value (expr.Read (spot.Global 0)) ∷ value (expr.Read (spot.Register 0)) ∷
    value (expr.Read element) ∷ value (expr.Unary un.Neg (number 5)) ∷ value (expr.Binary op.Add (number 1) (number 2)) ∷ []) ≡ 3 ∷ 4 ∷ 4 ∷ 4 ∷ 5 ∷ 4 ∷ 4 ∷ []
unfolding opened digits program steps v element value empty
expressions = refl

-- `v = 5;`, `A[1] = 5;`, `v += 5;`, `A[1] += 5;`, `v++;`, `--A[1];`
assignments :
    map steps (value (expr.Assign v (number 5)) ∷ value (expr.Assign element (number 5)) ∷ value (expr.Update op.Add v (number 5)) ∷
    value (expr.Update op.Add element (number 5)) ∷ value (expr.Step v true true) ∷ value (expr.Step element false false) ∷ []) ≡ 4 ∷ 5 ∷ 6 ∷ 7 ∷ 6 ∷ 7 ∷ []
unfolding opened digits program steps v element value empty
assignments = refl

-- `0 && 5;`, `5 && 5;`, `5 || 5;`, `0 || 5;`, `1 ? 2 : 3;`
choices :
    map steps (value (expr.Both (number 0) (number 5)) ∷ value (expr.Both (number 5) (number 5)) ∷ value (expr.Either (number 5) (number 5)) ∷
    value (expr.Either (number 0) (number 5)) ∷ value (expr.Choose (number 1) (number 2) (number 3)) ∷ []) ≡ 4 ∷ 5 ∷ 4 ∷ 5 ∷ 4 ∷ []
unfolding opened digits program steps v element value empty
choices = refl

-- `f(5);`: the call, its parameter, the read, the return, the end of the statement. `g();`: the call, its end, the end of the statement
calls : map steps (value (expr.Call 0 (number 5 ∷ [])) ∷ value (expr.Call 1 []) ∷ []) ≡ 7 ∷ 5 ∷ []
unfolding opened digits program steps v element value empty
calls = refl

-- `if (1) ;`, `if (0) ;`, `if (0) ; else ;`
branches :
    map steps (s (stmt.If (number 1) empty None) ∷ s (stmt.If (number 0) empty None) ∷ s (stmt.If (number 0) empty (Some empty)) ∷ []) ≡ 4 ∷ 3 ∷ 4 ∷ []
unfolding opened digits program steps v element value empty
branches = refl

-- `while (0) ;`, `do ; while (0);`, `for (; 0; ) ;`, `for (5; 0; ) ;`, `for (;;) break;`, `while (1) break;`, `do continue; while (0);`
loops :
    map steps (s (stmt.While (number 0) empty) ∷ s (stmt.Do empty (number 0)) ∷ s (stmt.For [] (Some (number 0)) None empty) ∷
    s (stmt.For (value (expr.Number 5) ∷ []) (Some (number 0)) None empty) ∷ s (stmt.For [] None None (s stmt.Break)) ∷
    s (stmt.While (number 1) (s stmt.Break)) ∷ s (stmt.Do (s stmt.Continue) (number 0)) ∷ []) ≡ 4 ∷ 5 ∷ 4 ∷ 5 ∷ 5 ∷ 5 ∷ 5 ∷ []
unfolding opened digits program steps v element value empty
loops = refl

-- `ps(v, r);`, `psm(v, x);`, `psm(v, A[1]);`, `printf("a");`
shared_actions :
    map steps (s (stmt.Ps v 0) ∷ s (stmt.Psm v (spot.Global 0)) ∷ s (stmt.Psm v element) ∷ s (stmt.Print (codes "a") []) ∷ []) ≡ 5 ∷ 5 ∷ 6 ∷ 3 ∷ []
unfolding opened digits program steps v element value empty
shared_actions = refl

-- `spawn(1, 0) { }`: the spawn and the join. `spawn(0, 1) { }`: the ends of two threads beside. `spawn(0, 1) ;` has one step more in each thread
spawns :
    map steps (s (stmt.Spawn (number 1) (number 0) []) ∷ s (stmt.Spawn (number 0) (number 1) []) ∷ s (stmt.Spawn (number 0) (number 1) (empty ∷ [])) ∷ []) ≡ 4 ∷ 6 ∷ 8 ∷ []
unfolding opened digits program steps v element value empty
spawns = refl
