-- `psBaseReg r; main() { int e = 2; ps(e, r); }`
use Rattle.std.proofs.Common.{◌≡◌, refl, [], ◌∷◌, Some, None}
use Rattle.std.specs.Prelude.{codes}
use Rattle.xmt_base.specs.declared.values.TrapKind.TheVariants.{PsIncrement}
use Rattle.source_meaning.specs.declared.tree.Program.{Program}
use Rattle.source_meaning.specs.declared.tree.Spot.TheVariants as spot
use Rattle.source_meaning.specs.declared.tree.StmtKind.TheVariants as stmt
use Rattle.source_meaning.specs.Run.{Configuration, start, after, rising, traps}
use Rattle.std.specs.Fmt.{digits}
use Rattle.source_meaning.specs.Opened.{opened}
use Rattle.source_meaning.proofs.Written.{s, number, function, program_of}

program : Program
program = program_of [] (record { name = codes "r"; opening = 0 } ∷ [])
    (function (codes "main") 1 (s (stmt.Declare 0 (Some (number 2))) ∷ s (stmt.Ps (spot.Local 0) 0) ∷ []) ∷ [])

opening : Configuration
unfolding program
opening = start program []

stands : traps program (after program opening (rising program opening 300)) ≡ record { kind = PsIncrement; line = 1; thread = None } ∷ []
unfolding opened digits program opening
stands = refl
