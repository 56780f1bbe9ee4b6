-- `int T; main() { spawn(3, 2) { int e = 1; psm(e, T); } printf("%d\n", T); }`
use Rattle.std.proofs.Common.{◌≡◌, refl, [], ◌∷◌, true, Some}
use Rattle.std.specs.Prelude.{codes}
use Rattle.source_meaning.specs.declared.tree.Program.{Program}
use Rattle.source_meaning.specs.declared.tree.Spot.TheVariants as spot
use Rattle.source_meaning.specs.declared.tree.StmtKind.TheVariants as stmt
use Rattle.source_meaning.specs.Run.{Configuration, start, after, is_over, rising}
use Rattle.std.specs.Fmt.{digits}
use Rattle.source_meaning.specs.Opened.{opened}
use Rattle.source_meaning.proofs.Written.{s, number, read, scalar, function, program_of}

program : Program
program = program_of (scalar (codes "T") ∷ []) []
    (function (codes "main") 1
    (s (stmt.Spawn (number 3) (number 2) (s (stmt.Declare 0 (Some (number 1))) ∷ s (stmt.Psm (spot.Local 0) (spot.Global 0)) ∷ [])) ∷
    s (stmt.Print (codes "%d\n") (read (spot.Global 0) ∷ [])) ∷ [])
    ∷ [])

opening : Configuration
unfolding program
opening = start program (0 ∷ [])

prints_0 : (after program opening (rising program opening 200)).output ≡ codes "0\n"
unfolding opened digits program opening
prints_0 = refl

ends : is_over (after program opening (rising program opening 200)) ≡ true
unfolding opened digits program opening
ends = refl

-- the spawn, the join, the read, the print and the end
rises : rising program opening 200 ≡ 0 ∷ 0 ∷ 0 ∷ 0 ∷ 0 ∷ []
unfolding opened digits program opening
rises = refl
