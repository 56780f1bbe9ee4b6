-- `int z; main() { spawn(0, 1) { } printf("%d\n", -2147483648 / -1); printf("%d\n", 1 / z); }`
use Rattle.std.proofs.Common.{◌≡◌, refl, [], ◌∷◌, None}
use Rattle.std.specs.Prelude.{codes}
use Rattle.xmt_base.specs.declared.operators.BinOp.TheVariants as op
use Rattle.xmt_base.specs.declared.operators.UnOp.TheVariants as un
use Rattle.xmt_base.specs.declared.values.TrapKind.TheVariants.{DivideByZero}
use Rattle.source_meaning.specs.declared.tree.Program.{Program}
use Rattle.source_meaning.specs.declared.tree.ExprKind.TheVariants as expr
use Rattle.source_meaning.specs.declared.tree.Spot.TheVariants as spot
use Rattle.source_meaning.specs.declared.tree.StmtKind.TheVariants as stmt
use Rattle.source_meaning.specs.Run.{Configuration, start, after, rising, traps}
use Rattle.std.specs.Fmt.{digits}
use Rattle.source_meaning.specs.Opened.{opened}
use Rattle.source_meaning.proofs.Written.{e, s, number, read, binary, scalar, function, program_of}

program : Program
program = program_of (scalar (codes "z") ∷ []) []
    (function (codes "main") 0
    (s (stmt.Spawn (number 0) (number 1) []) ∷
    s (stmt.Print (codes "%d\n") (binary op.Div (e (expr.Unary un.Neg (number 2147483648))) (e (expr.Unary un.Neg (number 1))) ∷ [])) ∷
    s (stmt.Print (codes "%d\n") (binary op.Div (number 1) (read (spot.Global 0)) ∷ [])) ∷ [])
    ∷ [])

opening : Configuration
unfolding program
opening = start program (0 ∷ [])

prints : (after program opening (rising program opening 300)).output ≡ codes "-2147483648\n"
unfolding opened digits program opening
prints = refl

stands : traps program (after program opening (rising program opening 300)) ≡ record { kind = DivideByZero; line = 1; thread = None } ∷ []
unfolding opened digits program opening
stands = refl
