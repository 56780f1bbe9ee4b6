-- `break` and `continue` in each kind of loop. `main() { int i = 0; LOOP }`, where the body of each loop ends with `if (i == 2) continue; if (i == 5) break; printf("%d", i);`
use Rattle.std.proofs.Common.{◌≡◌, refl, ℕ, List, [], ◌∷◌, true, Some, None}
use Rattle.std.specs.Prelude.{codes}
use Rattle.xmt_base.specs.declared.operators.BinOp.TheVariants as op
use Rattle.source_meaning.specs.declared.tree.Program.{Program}
use Rattle.source_meaning.specs.declared.tree.Expr.{Expr}
use Rattle.source_meaning.specs.declared.tree.Stmt.{Stmt}
use Rattle.source_meaning.specs.declared.tree.ExprKind.TheVariants as expr
use Rattle.source_meaning.specs.declared.tree.Spot.TheVariants as spot
use Rattle.source_meaning.specs.declared.tree.StmtKind.TheVariants as stmt
use Rattle.source_meaning.specs.Run.{start, after, rising}
use Rattle.std.specs.Fmt.{digits}
use Rattle.source_meaning.specs.Opened.{opened}
use Rattle.source_meaning.proofs.Written.{e, s, number, read, binary, function, program_of}

i : Expr
i = read (spot.Local 0)

up : Expr
up = e (expr.Step (spot.Local 0) true true)

below : ℕ → Expr
unfolding i
below n = binary op.Lt i (number n)

is : ℕ → Expr
unfolding i
is n = binary op.Eq i (number n)

rest : List Stmt
unfolding i is
rest =
    s (stmt.If (is 2) (s stmt.Continue) None) ∷ s (stmt.If (is 5) (s stmt.Break) None) ∷
    s (stmt.Print (codes "%d") (i ∷ [])) ∷ []

-- the body `{ i++; .. }`
counting : Stmt
unfolding up rest
counting = s (stmt.Block (s (stmt.Value up) ∷ rest))

program : Stmt → Program
program loop = program_of [] [] (function (codes "main") 1 (s (stmt.Declare 0 (Some (number 0))) ∷ loop ∷ []) ∷ [])

printed : Stmt → List ℕ
unfolding program
printed loop = (after (program loop) (start (program loop) []) (rising (program loop) (start (program loop) []) 200)).output

-- `while (i < 10) { i++; .. }`
while_prints_134 : printed (s (stmt.While (below 10) counting)) ≡ codes "134"
unfolding opened digits program i up below is rest counting printed
while_prints_134 = refl

-- `do { i++; .. } while (i < 10);`
do_prints_134 : printed (s (stmt.Do counting (below 10))) ≡ codes "134"
unfolding opened digits program i up below is rest counting printed
do_prints_134 = refl

-- `for (; i < 10; i++) { .. }`: a `continue` goes to the third part
for_prints_0134 : printed (s (stmt.For [] (Some (below 10)) (Some up) (s (stmt.Block rest)))) ≡ codes "0134"
unfolding opened digits program i up below is rest counting printed
for_prints_0134 = refl

-- `do { i++; .. } while (i < 2);`: a `continue` goes to the test
do_prints_1 : printed (s (stmt.Do counting (below 2))) ≡ codes "1"
unfolding opened digits program i up below is rest counting printed
do_prints_1 = refl

-- `for (;;) { i++; .. }`: without a test it is left by the `break` alone
endless_prints_134 : printed (s (stmt.For [] None None counting)) ≡ codes "134"
unfolding opened digits program i up below is rest counting printed
endless_prints_134 = refl
