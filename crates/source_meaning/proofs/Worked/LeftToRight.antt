-- `int A[2]; int f() { printf("f"); return 1; } int g() { printf("g"); return 7; } main() { A[f()] = g(); printf(" %d\n", A[1]); }`
use Rattle.std.proofs.Common.{◌≡◌, refl, [], ◌∷◌, true, Some}
use Rattle.std.specs.Prelude.{codes}
use Rattle.source_meaning.specs.declared.tree.Program.{Program}
use Rattle.source_meaning.specs.declared.tree.ExprKind.TheVariants as expr
use Rattle.source_meaning.specs.declared.tree.Spot.TheVariants as spot
use Rattle.source_meaning.specs.declared.tree.StmtKind.TheVariants as stmt
use Rattle.source_meaning.specs.Run.{Configuration, start, after, is_over, rising}
use Rattle.std.specs.Fmt.{digits}
use Rattle.source_meaning.specs.Opened.{opened}
use Rattle.source_meaning.proofs.Written.{e, s, number, read, assign, array, function}

program : Program
program = record {
  globals = array (codes "A") 2 ∷ [];
  registers = [];
  functions =
      function (codes "f") 0 (s (stmt.Print (codes "f") []) ∷ s (stmt.Return (Some (number 1))) ∷ []) ∷
      function (codes "g") 0 (s (stmt.Print (codes "g") []) ∷ s (stmt.Return (Some (number 7))) ∷ []) ∷
      function (codes "main") 0
      (assign (spot.Element 0 (e (expr.Call 0 []))) (e (expr.Call 1 [])) ∷
      s (stmt.Print (codes " %d\n") (read (spot.Element 0 (number 1)) ∷ [])) ∷ [])
      ∷ [];
  main = 2;
}

opening : Configuration
unfolding program
opening = start program (0 ∷ 0 ∷ [])

prints_fg_7 : (after program opening (rising program opening 200)).output ≡ codes "fg 7\n"
unfolding opened digits program opening
prints_fg_7 = refl

ends : is_over (after program opening (rising program opening 200)) ≡ true
unfolding opened digits program opening
ends = refl
