-- `int A[2]; main() { spawn(0, 2) { A[$] = 7; } }`
use Rattle.std.proofs.Common.{◌≡◌, refl, [], ◌∷◌, Some, arith}
use Rattle.std.specs.Prelude.{codes}
use Rattle.xmt_base.specs.declared.values.TrapKind.TheVariants.{Index}
use Rattle.source_meaning.specs.declared.tree.Program.{Program}
use Rattle.source_meaning.specs.declared.tree.Spot.TheVariants as spot
use Rattle.source_meaning.specs.declared.tree.StmtKind.TheVariants as stmt
use Rattle.source_meaning.specs.Run.{Configuration, start, after, rising, traps}
use Rattle.std.proofs.Common.{inl, inr}
use Rattle.xmt_base.specs.Action.{Word, Store, Spawn, Trap, Ended, Main, Block}
use Rattle.source_meaning.specs.Trace.{traces_of}
use Rattle.std.specs.Fmt.{digits}
use Rattle.source_meaning.specs.Opened.{opened}
use Rattle.source_meaning.proofs.Written.{s, number, assign, array, function, program_of, dollar}

program : Program
program = program_of (array (codes "A") 2 ∷ []) []
    (function (codes "main") 0 (s (stmt.Spawn (number 0) (number 2) (assign (spot.Element 0 dollar) (number 7) ∷ [])) ∷ []) ∷ [])

opening : Configuration
unfolding program
opening = start program (0 ∷ 0 ∷ [])

-- under the rising schedule thread 2 comes to stand at the trap, and nothing is printed
stands : traps program (after program opening (rising program opening 200)) ≡ record { kind = Index; line = 1; thread = Some 2 } ∷ []
unfolding opened digits program opening
stands = refl

prints_nothing : (after program opening (rising program opening 200)).output ≡ []
unfolding opened digits program opening
prints_nothing = refl

-- the serial code spawns its block at its first step
serial : traces_of program Main [] (Spawn 0 0 2 ∷ []) 1
unfolding opened digits program opening
serial = (Spawn 0 0 2 ∷ [], _, refl, inl refl)

-- thread 1 writes word 1 and ends: `$`, the test, the write, the end of the statement, the end of the thread
writes : traces_of program (Block (Spawn 0 0 2 ∷ []) [] 1) [] (Store (Word 1) 7 ∷ Ended ∷ []) 5
unfolding opened digits program opening
writes = (0, [], _, _, refl, refl, (1, omega arith, refl), refl, (Store (Word 1) 7 ∷ Ended ∷ [], _, refl, inl refl))

-- thread 2 stands at the trap after one step
traps_there : traces_of program (Block (Spawn 0 0 2 ∷ []) [] 2) [] (Trap Index 1 ∷ []) 1
unfolding opened digits program opening
traps_there = (0, [], _, _, refl, refl, (2, omega arith, refl), refl, ([], _, refl, inr refl))
