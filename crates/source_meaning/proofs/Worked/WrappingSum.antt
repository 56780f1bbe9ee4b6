-- `int g = 2147483647; main() { int e = 1; psm(e, g); printf("%d %d\n", e, g); }`
use Rattle.std.proofs.Common.{◌≡◌, refl, [], ◌∷◌, Some}
use Rattle.std.specs.Prelude.{codes}
use Rattle.source_meaning.specs.declared.tree.Program.{Program}
use Rattle.source_meaning.specs.declared.tree.Spot.TheVariants as spot
use Rattle.source_meaning.specs.declared.tree.StmtKind.TheVariants as stmt
use Rattle.source_meaning.specs.Run.{Configuration, start, after, rising}
use Rattle.std.specs.Fmt.{digits}
use Rattle.source_meaning.specs.Opened.{opened}
use Rattle.source_meaning.proofs.Written.{s, number, read, scalar, function, program_of}

program : Program
program = program_of (scalar (codes "g") ∷ []) []
    (function (codes "main") 1
    (s (stmt.Declare 0 (Some (number 1))) ∷ s (stmt.Psm (spot.Local 0) (spot.Global 0)) ∷
    s (stmt.Print (codes "%d %d\n") (read (spot.Local 0) ∷ read (spot.Global 0) ∷ [])) ∷ [])
    ∷ [])

opening : Configuration
unfolding program
opening = start program (2147483647 ∷ [])

prints : (after program opening (rising program opening 300)).output ≡ codes "2147483647 -2147483648\n"
unfolding opened digits program opening
prints = refl
