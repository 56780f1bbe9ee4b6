-- `main() { printf("hi\n"); }`
use Rattle.std.proofs.Common.{◌≡◌, refl, [], ◌∷◌, true, false}
use Rattle.std.specs.Prelude.{codes}
use Rattle.source_meaning.specs.declared.tree.Program.{Program}
use Rattle.source_meaning.specs.declared.tree.StmtKind.TheVariants as stmt
use Rattle.source_meaning.specs.Run.{Configuration, start, after, can_step, ready, is_over}
use Rattle.std.specs.Fmt.{digits}
use Rattle.source_meaning.specs.Opened.{opened}
use Rattle.source_meaning.proofs.Written.{s, function, program_of}

program : Program
program = program_of [] [] (function (codes "main") 0 (s (stmt.Print (codes "hi\n") []) ∷ []) ∷ [])

opening : Configuration
unfolding program
opening = start program []

prints_hi : (after program opening (0 ∷ [])).output ≡ codes "hi\n"
unfolding opened digits program opening
prints_hi = refl

ready_1 : ready program (after program opening (0 ∷ [])) ≡ 1
unfolding opened digits program opening
ready_1 = refl

not_over : is_over (after program opening (0 ∷ [])) ≡ false
unfolding opened digits program opening
not_over = refl

ends : is_over (after program opening (0 ∷ 0 ∷ [])) ≡ true
unfolding opened digits program opening
ends = refl

-- a third step cannot be
not_running : can_step program (after program opening (0 ∷ 0 ∷ [])) 0 ≡ false
unfolding opened digits program opening
not_running = refl
