-- `int T; main() { spawn(2147483646, 2147483647) { int e = $ - 2147483646; psm(e, T); } printf("%d\n", T); }` and the same with `spawn(-2, 1) { int e = $; psm(e, T); }`
use Rattle.std.proofs.Common.{◌≡◌, refl, [], ◌∷◌, Some}
use Rattle.std.specs.Prelude.{codes}
use Rattle.xmt_base.specs.declared.operators.BinOp.TheVariants as op
use Rattle.xmt_base.specs.declared.operators.UnOp.TheVariants as un
use Rattle.source_meaning.specs.declared.tree.Program.{Program}
use Rattle.source_meaning.specs.declared.tree.Expr.{Expr}
use Rattle.source_meaning.specs.declared.tree.ExprKind.TheVariants as expr
use Rattle.source_meaning.specs.declared.tree.Spot.TheVariants as spot
use Rattle.source_meaning.specs.declared.tree.StmtKind.TheVariants as stmt
use Rattle.source_meaning.specs.Run.{start, after, rising}
use Rattle.std.specs.Fmt.{digits}
use Rattle.source_meaning.specs.Opened.{opened}
use Rattle.source_meaning.proofs.Written.{e, s, number, read, binary, scalar, function, program_of, dollar}

program : (low high start : Expr) → Program
program low high start = program_of (scalar (codes "T") ∷ []) []
    (function (codes "main") 1
    (s (stmt.Spawn low high (s (stmt.Declare 0 (Some start)) ∷ s (stmt.Psm (spot.Local 0) (spot.Global 0)) ∷ [])) ∷
    s (stmt.Print (codes "%d\n") (read (spot.Global 0) ∷ [])) ∷ [])
    ∷ [])

greatest : Program
unfolding program
greatest = program (number 2147483646) (number 2147483647) (binary op.Sub dollar (number 2147483646))

negative : Program
unfolding program
negative = program (e (expr.Unary un.Neg (number 2))) (number 1) dollar

prints_1 : (after greatest (start greatest (0 ∷ [])) (rising greatest (start greatest (0 ∷ [])) 200)).output ≡ codes "1\n"
unfolding opened digits program greatest
prints_1 = refl

prints_minus_2 : (after negative (start negative (0 ∷ [])) (rising negative (start negative (0 ∷ [])) 200)).output ≡ codes "-2\n"
unfolding opened digits program negative
prints_minus_2 = refl
