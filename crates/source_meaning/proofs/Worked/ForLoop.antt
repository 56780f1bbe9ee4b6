-- `main() { int i; int s = 0; for (i = 0; i < 10; i++) { if (i == 3) continue; if (i == 6) break; s += i; } printf("%d\n", s); }`
use Rattle.std.proofs.Common.{◌≡◌, refl, [], ◌∷◌, true, Some, None}
use Rattle.std.specs.Prelude.{codes}
use Rattle.xmt_base.specs.declared.operators.BinOp.TheVariants as op
use Rattle.source_meaning.specs.declared.tree.Program.{Program}
use Rattle.source_meaning.specs.declared.tree.Expr.{Expr}
use Rattle.source_meaning.specs.declared.tree.ExprKind.TheVariants as expr
use Rattle.source_meaning.specs.declared.tree.Spot.TheVariants as spot
use Rattle.source_meaning.specs.declared.tree.StmtKind.TheVariants as stmt
use Rattle.source_meaning.specs.Run.{Configuration, start, after, is_over, rising}
use Rattle.std.specs.Fmt.{digits}
use Rattle.source_meaning.specs.Opened.{opened}
use Rattle.source_meaning.proofs.Written.{e, s, number, read, binary, assign, function, program_of}

i : Expr
i = read (spot.Local 0)

program : Program
unfolding i
program = program_of [] []
    (function (codes "main") 2
    (s (stmt.Declare 0 None) ∷ s (stmt.Declare 1 (Some (number 0))) ∷
    s (stmt.For (assign (spot.Local 0) (number 0) ∷ []) (Some (binary op.Lt i (number 10)))
    (Some (e (expr.Step (spot.Local 0) true true)))
    (s (stmt.Block
    (s (stmt.If (binary op.Eq i (number 3)) (s stmt.Continue) None) ∷
    s (stmt.If (binary op.Eq i (number 6)) (s stmt.Break) None) ∷
    s (stmt.Value (e (expr.Update op.Add (spot.Local 1) i))) ∷ [])))) ∷
    s (stmt.Print (codes "%d\n") (read (spot.Local 1) ∷ [])) ∷ [])
    ∷ [])

opening : Configuration
unfolding program
opening = start program []

prints_12 : (after program opening (rising program opening 300)).output ≡ codes "12\n"
unfolding opened digits program opening i
prints_12 = refl

ends : is_over (after program opening (rising program opening 300)) ≡ true
unfolding opened digits program opening i
ends = refl
