-- `int A[4]; int s; main() { spawn(0, 3) { A[$] = $ * $ + 1; } s = A[0] + A[1] + A[2] + A[3]; printf("%d\n", s); }`
use Rattle.std.proofs.Common.{◌≡◌, refl, [], ◌∷◌, true}
use Rattle.std.specs.Prelude.{codes}
use Rattle.xmt_base.specs.declared.operators.BinOp.TheVariants as op
use Rattle.source_meaning.specs.declared.tree.Program.{Program}
use Rattle.source_meaning.specs.declared.tree.Expr.{Expr}
use Rattle.source_meaning.specs.declared.tree.Spot.{Spot}
use Rattle.source_meaning.specs.declared.tree.Spot.TheVariants as spot
use Rattle.source_meaning.specs.declared.tree.StmtKind.TheVariants as stmt
use Rattle.source_meaning.specs.Run.{Configuration, start, after, is_over, rising}
use Rattle.std.specs.Fmt.{digits}
use Rattle.source_meaning.specs.Opened.{opened}
use Rattle.source_meaning.proofs.Written.{s, number, read, binary, assign, scalar, array, function, program_of, dollar}

A : Expr → Spot
A index = spot.Element 0 index

program : Program
unfolding A
program = program_of (array (codes "A") 4 ∷ scalar (codes "s") ∷ []) []
    (function (codes "main") 0
    (s (stmt.Spawn (number 0) (number 3) (assign (A dollar) (binary op.Add (binary op.Mul dollar dollar) (number 1)) ∷ [])) ∷
    assign (spot.Global 1) (binary op.Add (binary op.Add (binary op.Add (read (A (number 0))) (read (A (number 1)))) (read (A (number 2)))) (read (A (number 3)))) ∷
    s (stmt.Print (codes "%d\n") (read (spot.Global 1) ∷ [])) ∷ [])
    ∷ [])

opening : Configuration
unfolding program
opening = start program (0 ∷ 0 ∷ 0 ∷ 0 ∷ 0 ∷ [])

-- the rising schedule prints 18 and ends
prints_18 : (after program opening (rising program opening 200)).output ≡ codes "18\n"
unfolding opened digits program opening A
prints_18 = refl

ends : is_over (after program opening (rising program opening 200)) ≡ true
unfolding opened digits program opening A
ends = refl
