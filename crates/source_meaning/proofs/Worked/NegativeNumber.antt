-- `main() { printf("%d\n", 3 - 5); }`
use Rattle.std.proofs.Common.{◌≡◌, refl, [], ◌∷◌, true}
use Rattle.std.specs.Prelude.{codes}
use Rattle.xmt_base.specs.declared.operators.BinOp.TheVariants as op
use Rattle.source_meaning.specs.declared.tree.Program.{Program}
use Rattle.source_meaning.specs.declared.tree.StmtKind.TheVariants as stmt
use Rattle.source_meaning.specs.Run.{Configuration, start, after, is_over, rising}
use Rattle.std.specs.Fmt.{digits}
use Rattle.source_meaning.specs.Opened.{opened}
use Rattle.source_meaning.proofs.Written.{s, number, binary, function, program_of}

program : Program
program = program_of [] [] (function (codes "main") 0 (s (stmt.Print (codes "%d\n") (binary op.Sub (number 3) (number 5) ∷ [])) ∷ []) ∷ [])

opening : Configuration
unfolding program
opening = start program []

prints_minus_2 : (after program opening (rising program opening 200)).output ≡ codes "-2\n"
unfolding opened digits program opening
prints_minus_2 = refl

ends : is_over (after program opening (rising program opening 200)) ≡ true
unfolding opened digits program opening
ends = refl
