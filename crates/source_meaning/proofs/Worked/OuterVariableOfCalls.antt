-- `int f(int k) { int w = k; spawn(0, 1) { if ($ == 1) w = w + k; } if (k > 0) return w + f(k - 1); return w; } main() { printf("%d\n", f(3)); }`
use Rattle.std.proofs.Common.{◌≡◌, refl, [], ◌∷◌, true, Some, None}
use Rattle.std.specs.Prelude.{codes}
use Rattle.xmt_base.specs.declared.operators.BinOp.TheVariants as op
use Rattle.source_meaning.specs.declared.tree.Program.{Program}
use Rattle.source_meaning.specs.declared.tree.Expr.{Expr}
use Rattle.source_meaning.specs.declared.tree.ExprKind.TheVariants as expr
use Rattle.source_meaning.specs.declared.tree.Spot.TheVariants as spot
use Rattle.source_meaning.specs.declared.tree.StmtKind.TheVariants as stmt
use Rattle.source_meaning.specs.Run.{Configuration, start, after, is_over, rising}
use Rattle.std.specs.Fmt.{digits}
use Rattle.source_meaning.specs.Opened.{opened}
use Rattle.source_meaning.proofs.Written.{e, s, number, read, binary, assign, function, dollar}

k : Expr
k = read (spot.Local 0)

w : Expr
w = read (spot.Local 1)

program : Program
unfolding k w
program = record {
  globals = [];
  registers = [];
  functions =
      record {
        name = codes "f";
        value = true;
        params = 1;
        variables = 2;
        body =
            s (stmt.Declare 1 (Some k)) ∷
            s (stmt.Spawn (number 0) (number 1)
            (s (stmt.If (binary op.Eq dollar (number 1)) (assign (spot.Local 1) (binary op.Add w k)) None) ∷ [])) ∷
            s (stmt.If (binary op.Gt k (number 0))
            (s (stmt.Return (Some (binary op.Add w (e (expr.Call 0 (binary op.Sub k (number 1) ∷ []))))))) None) ∷
            s (stmt.Return (Some w)) ∷ [];
      } ∷
      function (codes "main") 0 (s (stmt.Print (codes "%d\n") (e (expr.Call 0 (number 3 ∷ [])) ∷ [])) ∷ [])
      ∷ [];
  main = 1;
}

opening : Configuration
unfolding program
opening = start program []

prints_12 : (after program opening (rising program opening 300)).output ≡ codes "12\n"
unfolding opened digits program opening k w
prints_12 = refl

ends : is_over (after program opening (rising program opening 300)) ≡ true
unfolding opened digits program opening k w
ends = refl
