-- `int T; main() { spawn(0, 1) { spawn(5, 6) { int e = 1; psm(e, T); } } printf("%d\n", T); }`
use Rattle.std.proofs.Common.{◌≡◌, refl, ℕ, List, [], ◌∷◌, ◌++◌, true, false, Some, None, map}
use Rattle.std.specs.Prelude.{codes}
use Rattle.source_meaning.specs.declared.tree.Program.{Program}
use Rattle.source_meaning.specs.declared.tree.Spot.TheVariants as spot
use Rattle.source_meaning.specs.declared.tree.StmtKind.TheVariants as stmt
use Rattle.source_meaning.specs.Run.{Configuration, start, after, can_step, is_over, rising, rising_thread}
use Rattle.std.specs.Fmt.{digits}
use Rattle.source_meaning.specs.Opened.{opened}
use Rattle.source_meaning.proofs.Written.{s, number, read, scalar, function, program_of}

program : Program
program = program_of (scalar (codes "T") ∷ []) []
    (function (codes "main") 1
    (s (stmt.Spawn (number 0) (number 1)
    (s (stmt.Spawn (number 5) (number 6) (s (stmt.Declare 0 (Some (number 1))) ∷ s (stmt.Psm (spot.Local 0) (spot.Global 0)) ∷ [])) ∷ [])) ∷
    s (stmt.Print (codes "%d\n") (read (spot.Global 0) ∷ [])) ∷ [])
    ∷ [])

opening : Configuration
unfolding program
opening = start program (0 ∷ [])

prints_4 : (after program opening (rising program opening 200)).output ≡ codes "4\n"
unfolding opened digits program opening
prints_4 = refl

ends : is_over (after program opening (rising program opening 200)) ≡ true
unfolding opened digits program opening
ends = refl

-- the numbers of the threads in order of creation, and the outermost virtual thread of each
numbers : map (λ thread. thread.number) (after program opening (rising program opening 200)).threads ≡ 0 ∷ 0 ∷ 1 ∷ 5 ∷ 6 ∷ 5 ∷ 6 ∷ []
unfolding opened digits program opening
numbers = refl

outermost : map (λ thread. thread.outermost) (after program opening (rising program opening 200)).threads ≡ None ∷ Some 0 ∷ Some 1 ∷ Some 0 ∷ Some 0 ∷ Some 1 ∷ Some 1 ∷ []
unfolding opened digits program opening
outermost = refl

parents : map (λ thread. thread.parent) (after program opening (rising program opening 200)).threads ≡ None ∷ Some 0 ∷ Some 0 ∷ Some 1 ∷ Some 1 ∷ Some 2 ∷ Some 2 ∷ []
unfolding opened digits program opening
parents = refl

-- all three spawns, and then threads 3 and 4 up to their ends, but for the last step of thread 4
up_to_last : List ℕ
up_to_last = 0 ∷ 1 ∷ 2 ∷ 3 ∷ 3 ∷ 3 ∷ 3 ∷ 3 ∷ 4 ∷ 4 ∷ 4 ∷ 4 ∷ []

-- thread 1 waits for its own thread 4, which is the next by the rising schedule
waits : can_step program (after program opening up_to_last) 1 ≡ false
unfolding opened digits program opening up_to_last
waits = refl

turn : rising_thread program (after program opening up_to_last) ≡ 4
unfolding opened digits program opening up_to_last
turn = refl

-- and goes on once that has ended, while the threads 5 and 6 of thread 2 live
goes : can_step program (after program opening (up_to_last ++ (4 ∷ []))) 1 ≡ true
unfolding opened digits program opening up_to_last
goes = refl

other_waits : can_step program (after program opening (up_to_last ++ (4 ∷ []))) 2 ≡ false
unfolding opened digits program opening up_to_last
other_waits = refl

-- the serial code waits until both its threads have ended
serial_waits : can_step program (after program opening (up_to_last ++ (4 ∷ 1 ∷ 1 ∷ []))) 0 ≡ false
unfolding opened digits program opening up_to_last
serial_waits = refl

other_turn : rising_thread program (after program opening (up_to_last ++ (4 ∷ 1 ∷ 1 ∷ []))) ≡ 5
unfolding opened digits program opening up_to_last
other_turn = refl
