-- `int A[6] = {5, 0, 7, 0, 0, 9}; int B[6]; psBaseReg x = 0; int main() { int i; int sum = 0; spawn(0, 5) { int e = 1; if (A[$] != 0) { ps(e, x); B[e] = A[$]; } } for (i = 0; i < x; i++) sum += B[i]; printf("%d %d\n", x, sum); return 0; }`
use Rattle.std.proofs.Common.{◌≡◌, refl, [], ◌∷◌, true, false, Some, None}
use Rattle.std.specs.Prelude.{codes}
use Rattle.xmt_base.specs.declared.operators.BinOp.TheVariants as op
use Rattle.source_meaning.specs.declared.tree.Program.{Program}
use Rattle.source_meaning.specs.declared.tree.Expr.{Expr}
use Rattle.source_meaning.specs.declared.tree.ExprKind.TheVariants as expr
use Rattle.source_meaning.specs.declared.tree.Spot.TheVariants as spot
use Rattle.source_meaning.specs.declared.tree.StmtKind.TheVariants as stmt
use Rattle.source_meaning.specs.Run.{Configuration, start, after, is_over, rising}
use Rattle.std.specs.Fmt.{digits}
use Rattle.source_meaning.specs.Opened.{opened}
use Rattle.source_meaning.proofs.Written.{e, s, number, read, binary, assign, array, function, program_of, dollar}

i : Expr
i = read (spot.Local 0)

program : Program
unfolding i
program = program_of
    (record { name = codes "A"; array = true; length = 6; constant = false; opening = 5 ∷ 0 ∷ 7 ∷ 0 ∷ 0 ∷ 9 ∷ [] } ∷ array (codes "B") 6 ∷ [])
    (record { name = codes "x"; opening = 0 } ∷ [])
    (function (codes "main") 3
    (s (stmt.Declare 0 None) ∷ s (stmt.Declare 1 (Some (number 0))) ∷
    s (stmt.Spawn (number 0) (number 5)
    (s (stmt.Declare 2 (Some (number 1))) ∷
    s (stmt.If (binary op.Ne (read (spot.Element 0 dollar)) (number 0))
    (s (stmt.Block
    (s (stmt.Ps (spot.Local 2) 0) ∷
    assign (spot.Element 1 (read (spot.Local 2))) (read (spot.Element 0 dollar)) ∷ []))) None) ∷ [])) ∷
    s (stmt.For (assign (spot.Local 0) (number 0) ∷ []) (Some (binary op.Lt i (read (spot.Register 0))))
    (Some (e (expr.Step (spot.Local 0) true true)))
    (s (stmt.Value (e (expr.Update op.Add (spot.Local 1) (read (spot.Element 1 i))))))) ∷
    s (stmt.Print (codes "%d %d\n") (read (spot.Register 0) ∷ read (spot.Local 1) ∷ [])) ∷
    s (stmt.Return (Some (number 0))) ∷ [])
    ∷ [])

opening : Configuration
unfolding program
opening = start program (5 ∷ 0 ∷ 7 ∷ 0 ∷ 0 ∷ 9 ∷ 0 ∷ 0 ∷ 0 ∷ 0 ∷ 0 ∷ 0 ∷ [])

prints_3_21 : (after program opening (rising program opening 400)).output ≡ codes "3 21\n"
unfolding opened digits program opening i
prints_3_21 = refl

ends : is_over (after program opening (rising program opening 400)) ≡ true
unfolding opened digits program opening i
ends = refl
