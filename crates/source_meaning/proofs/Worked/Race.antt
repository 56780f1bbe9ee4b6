-- `int x; main() { spawn(0, 1) { x = $; } printf("%d\n", x); }`
use Rattle.std.proofs.Common.{◌≡◌, refl, ℕ, List, [], ◌∷◌, true}
use Rattle.std.specs.Prelude.{codes}
use Rattle.source_meaning.specs.declared.tree.Program.{Program}
use Rattle.source_meaning.specs.declared.tree.Spot.TheVariants as spot
use Rattle.source_meaning.specs.declared.tree.StmtKind.TheVariants as stmt
use Rattle.source_meaning.specs.Run.{Configuration, start, after, is_over, rising, IsLegal}
use Rattle.std.specs.Fmt.{digits}
use Rattle.source_meaning.specs.Opened.{opened}
use Rattle.source_meaning.proofs.Written.{s, number, read, assign, scalar, function, program_of, dollar}

program : Program
program = program_of (scalar (codes "x") ∷ []) []
    (function (codes "main") 0
    (s (stmt.Spawn (number 0) (number 1) (assign (spot.Global 0) dollar ∷ [])) ∷
    s (stmt.Print (codes "%d\n") (read (spot.Global 0) ∷ [])) ∷ [])
    ∷ [])

opening : Configuration
unfolding program
opening = start program (0 ∷ [])

-- thread 1 writes first
first_to_last : List ℕ
first_to_last = 0 ∷ 1 ∷ 1 ∷ 1 ∷ 1 ∷ 2 ∷ 2 ∷ 2 ∷ 2 ∷ 0 ∷ 0 ∷ 0 ∷ 0 ∷ []

-- thread 2 writes first
last_to_first : List ℕ
last_to_first = 0 ∷ 2 ∷ 1 ∷ 2 ∷ 1 ∷ 1 ∷ 2 ∷ 2 ∷ 1 ∷ 0 ∷ 0 ∷ 0 ∷ 0 ∷ []

prints_1 : (after program opening first_to_last).output ≡ codes "1\n"
unfolding opened digits program opening first_to_last
prints_1 = refl

prints_0 : (after program opening last_to_first).output ≡ codes "0\n"
unfolding opened digits program opening last_to_first
prints_0 = refl

ends : is_over (after program opening last_to_first) ≡ true
unfolding opened digits program opening last_to_first
ends = refl

legal : IsLegal program opening last_to_first
unfolding opened digits program opening last_to_first
legal = (refl, (refl, (refl, (refl, (refl, (refl, (refl, (refl, (refl, (refl, (refl, (refl, (refl, tt)))))))))))))

rises : rising program opening 200 ≡ first_to_last
unfolding opened digits program opening first_to_last
rises = refl
