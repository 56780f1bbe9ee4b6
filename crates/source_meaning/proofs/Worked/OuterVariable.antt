-- `main() { int n = 10; int hit = 0; spawn(0, 4) { if ($ == 3) hit = n; } printf("%d\n", hit); }`
use Rattle.std.proofs.Common.{◌≡◌, refl, [], ◌∷◌, Some, None}
use Rattle.std.specs.Prelude.{codes}
use Rattle.xmt_base.specs.declared.operators.BinOp.TheVariants as op
use Rattle.source_meaning.specs.declared.tree.Program.{Program}
use Rattle.source_meaning.specs.declared.tree.Spot.TheVariants as spot
use Rattle.source_meaning.specs.declared.tree.StmtKind.TheVariants as stmt
use Rattle.source_meaning.specs.Run.{Configuration, start, after, rising}
use Rattle.std.specs.Fmt.{digits}
use Rattle.source_meaning.specs.Opened.{opened}
use Rattle.source_meaning.proofs.Written.{s, number, read, binary, assign, function, program_of, dollar}

program : Program
program = program_of [] []
    (function (codes "main") 2
    (s (stmt.Declare 0 (Some (number 10))) ∷ s (stmt.Declare 1 (Some (number 0))) ∷
    s (stmt.Spawn (number 0) (number 4)
    (s (stmt.If (binary op.Eq dollar (number 3)) (assign (spot.Local 1) (read (spot.Local 0))) None) ∷ [])) ∷
    s (stmt.Print (codes "%d\n") (read (spot.Local 1) ∷ [])) ∷ [])
    ∷ [])

opening : Configuration
unfolding program
opening = start program []

prints_10 : (after program opening (rising program opening 200)).output ≡ codes "10\n"
unfolding opened digits program opening
prints_10 = refl
