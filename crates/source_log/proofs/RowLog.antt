-- A worked log: `psBaseReg x = 0; int main() { spawn(0, 1) { int e = 1; ps(e, x); } printf("%d\n", x); }`, where the second thread comes first.
use Rattle.std.proofs.Common.{◌≡◌, refl, ℕ, suc, zero, ◌<◌, List, [], ◌∷◌, Bool, true, false, Some, inl, arith}
use Rattle.std.specs.Prelude.{codes}
use Rattle.xmt_base.specs.Action.{Action, Register, Load, Add, Print, Spawn, Ended, Main, Block}
use Rattle.source_meaning.specs.declared.tree.Program.{Program}
use Rattle.source_meaning.specs.declared.tree.Function.{Function}
use Rattle.source_meaning.specs.declared.tree.Spot.TheVariants as spot
use Rattle.source_meaning.specs.declared.tree.StmtKind.TheVariants as stmt
use Rattle.source_meaning.specs.Run.{start, after, is_over}
use Rattle.source_meaning.specs.Trace.{traces_in}
use Rattle.source_meaning.proofs.Written.{s, number, read, function, program_of}
use Rattle.std.specs.Fmt.{digits}
use Rattle.source_meaning.specs.Opened.{opened}
use Rattle.interleaving.specs.Actors.{Entry, part_of}
use Rattle.source_log.specs.Log.{Log, opening_world, IsLawful, after_log}
use Rattle.interleaving.specs.Parts.{actions_of, replies_of}

unfoldable pub main : Function
main =
    function (codes "main") 1
    (s (stmt.Spawn (number 0) (number 1) (s (stmt.Declare 0 (Some (number 1))) ∷ s (stmt.Ps (spot.Local 0) 0) ∷ [])) ∷
    s (stmt.Print (codes "%d\n") (read (spot.Register 0) ∷ [])) ∷ [])

unfoldable pub program : Program
unfolding main
program = program_of [] (record { name = codes "x"; opening = 0 } ∷ []) (main ∷ [])

unfoldable pub entry : (thread : ℕ) → Action → (reply : ℕ) → Entry Action
entry thread action reply = record { actor = thread; action = action; reply = reply }

unfoldable pub log : Log
unfolding entry
log =
    entry 0 (Spawn 0 0 1) 0 ∷
    entry 2 (Add (Register 0) 1) 0 ∷
    entry 1 (Add (Register 0) 1) 1 ∷
    entry 1 Ended 0 ∷
    entry 2 Ended 0 ∷
    entry 0 (Load (Register 0)) 2 ∷
    entry 0 (Print (codes "2\n")) 0 ∷
    entry 0 Ended 0 ∷ []

no_others : (threads : ℕ) (ended : ℕ → Bool) → threads ≡ 1 → (t : ℕ) → 0 < t → t < threads → ended t ≡ true
no_others threads ended one t positive less = absurd (grind (arith, one, positive, less))

pub two_others : (threads : ℕ) (ended : ℕ → Bool) → threads ≡ 3 → ended 1 ≡ true → ended 2 ≡ true → (t : ℕ) → 0 < t → t < threads → ended t ≡ true
two_others threads ended three first second zero positive less = absurd (grind (arith, positive))
two_others threads ended three first second (suc zero) positive less = first
two_others threads ended three first second (suc (suc zero)) positive less = second
two_others threads ended three first second (suc (suc (suc t))) positive less = absurd (grind (arith, three, less))

pub lawful : IsLawful (opening_world program []) log
unfolding log entry main program opened digits
lawful = (((omega arith, λ h. no_others _ _ refl), refl, refl), (((omega arith, λ h. absurd (grind (arith, h))), refl, tt), (((omega arith, λ h. absurd (grind (arith, h))), refl, tt), (((omega arith, λ h. absurd (grind (arith, h))), refl, tt), (((omega arith, λ h. absurd (grind (arith, h))), refl, tt), (((omega arith, λ h. two_others _ _ refl refl refl), refl, tt), (((omega arith, λ h. two_others _ _ refl refl refl), refl, tt), (((omega arith, λ h. two_others _ _ refl refl refl), refl, tt), tt))))))))

adds_up : (after_log (opening_world program []) log).cells (Register 0) ≡ 2
unfolding log entry main program opened digits
adds_up = refl

prints : (after_log (opening_world program []) log).printed ≡ codes "2\n"
unfolding log entry main program opened digits
prints = refl

-- each thread does its part by itself
serial : traces_in program 0 Main (replies_of (part_of 0 log)) (actions_of (part_of 0 log)) 5
unfolding log entry main program opened digits
serial = (_, _, refl, inl refl)

first : traces_in program 1 (Block (Spawn 0 0 1 ∷ []) [] 0) (replies_of (part_of 1 log)) (actions_of (part_of 1 log)) 5
unfolding log entry main program opened digits
first = (0, [], _, _, refl, refl, (0, omega arith, refl), refl, (_, _, refl, inl refl))

-- and the schedule in that order does what the log says: the spawn; then each thread up to its add, and to its end; then the join and the rest
schedule : List ℕ
schedule = 0 ∷ 2 ∷ 2 ∷ 2 ∷ 1 ∷ 1 ∷ 1 ∷ 1 ∷ 1 ∷ 2 ∷ 2 ∷ 0 ∷ 0 ∷ 0 ∷ 0 ∷ []

schedule_prints : (after program (start program []) schedule).output ≡ codes "2\n"
unfolding schedule main program opened digits
schedule_prints = refl

schedule_ends : is_over (after program (start program []) schedule) ≡ true
unfolding schedule main program opened digits
schedule_ends = refl

-- no log in which the serial code goes on before its threads have ended, and none with another reply
too_early : IsLawful (opening_world program []) (entry 0 (Spawn 0 0 1) 0 ∷ entry 0 (Load (Register 0)) 0 ∷ []) → ⊥
unfolding entry main program opened digits
too_early lawful = let never : false ≡ true = lawful.1.0.0.1 refl 1 (omega arith) (omega arith) in cc

wrong_reply : IsLawful (opening_world program []) (entry 0 (Spawn 0 0 1) 0 ∷ entry 2 (Add (Register 0) 1) 1 ∷ []) → ⊥
unfolding entry main program opened digits
wrong_reply lawful = let never : ◌≡◌ {A = ℕ} 1 0 = lawful.1.0.1 in cc

-- a spawn is told nothing
told : IsLawful (opening_world program []) (entry 0 (Spawn 0 0 1) 1 ∷ []) → ⊥
unfolding entry main program opened digits
told lawful = let never : ◌≡◌ {A = ℕ} 1 0 = lawful.0.1 in cc
