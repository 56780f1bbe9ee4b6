-- Which trap a statement comes to, and on which line. `int x; int A[2]; psBaseReg r; main() { int v; STATEMENT }`, where v holds 0 and each part that is written `n: part` begins on line n.
use Rattle.std.proofs.Common.{◌≡◌, refl, ℕ, List, [], ◌∷◌, None}
use Rattle.std.specs.Prelude.{codes}
use Rattle.xmt_base.specs.declared.operators.BinOp.TheVariants as op
use Rattle.xmt_base.specs.declared.values.Trap.{Trap}
use Rattle.xmt_base.specs.declared.values.TrapKind.{TrapKind}
use Rattle.xmt_base.specs.declared.values.TrapKind.TheVariants.{DivideByZero, Index, PsIncrement}
use Rattle.source_meaning.specs.declared.tree.Program.{Program}
use Rattle.source_meaning.specs.declared.tree.Expr.{Expr}
use Rattle.source_meaning.specs.declared.tree.ExprKind.{ExprKind}
use Rattle.source_meaning.specs.declared.tree.Stmt.{Stmt}
use Rattle.source_meaning.specs.declared.tree.StmtKind.{StmtKind}
use Rattle.source_meaning.specs.declared.tree.Spot.{Spot}
use Rattle.source_meaning.specs.declared.tree.ExprKind.TheVariants as expr
use Rattle.source_meaning.specs.declared.tree.Spot.TheVariants as spot
use Rattle.source_meaning.specs.declared.tree.StmtKind.TheVariants as stmt
use Rattle.source_meaning.specs.Run.{start, after, rising, traps}
use Rattle.std.specs.Fmt.{digits}
use Rattle.source_meaning.specs.Opened.{opened}
use Rattle.source_meaning.proofs.Written.{s, number, array, scalar, function}

program : Stmt → Program
program statement = record {
  globals = scalar (codes "x") ∷ array (codes "A") 2 ∷ [];
  registers = record { name = codes "r"; opening = 0 } ∷ [];
  functions = function (codes "main") 1 (s (stmt.Declare 0 None) ∷ statement ∷ []) ∷ [];
  main = 0;
}

come_to : Stmt → List Trap
unfolding program
come_to statement =
    traps (program statement) (after (program statement) (start (program statement) (0 ∷ 0 ∷ 0 ∷ [])) (rising (program statement) (start (program statement) (0 ∷ 0 ∷ 0 ∷ [])) 100))

on : (line : ℕ) → ExprKind → Expr
on line kind = record { at = record { line = line; column = 1 }; kind = kind }

value : Expr → Stmt
value e = s (stmt.Value e)

v : Spot
v = spot.Local 0

element : ℕ → Spot
element n = spot.Element 1 (number n)

-- 1 / 0, on line 3
quotient : Expr
quotient = record { at = record { line = 3; column = 1 }; kind = expr.Binary op.Div (number 1) (number 0) }

serial : TrapKind → (line : ℕ) → List Trap
serial kind line = record { kind = kind; line = line; thread = None } ∷ []

-- `2: v = 3: 1 / 0;` and `2: v /= 0;`
divides : come_to (value (on 2 (expr.Assign v quotient))) ≡ serial DivideByZero 3
unfolding opened digits program come_to on value v element quotient serial
divides = refl

updates : come_to (value (on 2 (expr.Update op.Div v (number 0)))) ≡ serial DivideByZero 2
unfolding opened digits program come_to on value v element quotient serial
updates = refl

-- `2: A[2] = 3: 1 / 0;`: the test of the place comes before the value. `2: A[1] = 3: 1 / 0;`
tests_first : come_to (value (on 2 (expr.Assign (element 2) quotient))) ≡ serial Index 2
unfolding opened digits program come_to on value v element quotient serial
tests_first = refl

then_divides : come_to (value (on 2 (expr.Assign (element 1) quotient))) ≡ serial DivideByZero 3
unfolding opened digits program come_to on value v element quotient serial
then_divides = refl

-- `2: A[4294967295];`, the index being -1; and `2: A[4: A[2]];`, where the place inside is read on line 4
negative : come_to (value (on 2 (expr.Read (element 4294967295)))) ≡ serial Index 2
unfolding opened digits program come_to on value v element quotient serial
negative = refl

inner : come_to (value (on 2 (expr.Read (spot.Element 1 (on 4 (expr.Read (element 2))))))) ≡ serial Index 4
unfolding opened digits program come_to on value v element quotient serial
inner = refl

-- `0 && 3: 1 / 0;` comes to no trap, and `1 && 3: 1 / 0;` does
decided : come_to (value (on 2 (expr.Both (number 0) quotient))) ≡ []
unfolding opened digits program come_to on value v element quotient serial
decided = refl

undecided : come_to (value (on 2 (expr.Both (number 1) quotient))) ≡ serial DivideByZero 3
unfolding opened digits program come_to on value v element quotient serial
undecided = refl

-- a block `{ v = 2; 5: ps(v, r); }`; `psm` on x has no such trap, and 5: psm(v, A[2]) is outside the array
increment : (n : ℕ) → StmtKind → Stmt
unfolding v value on
increment n sum = s (stmt.Block (value (on 2 (expr.Assign v (number n))) ∷ record { at = record { line = 5; column = 1 }; kind = sum } ∷ []))

increments_by_2 : come_to (increment 2 (stmt.Ps v 0)) ≡ serial PsIncrement 5
unfolding opened digits program come_to on value v element quotient serial increment
increments_by_2 = refl

increments_by_minus_1 : come_to (increment 4294967295 (stmt.Ps v 0)) ≡ serial PsIncrement 5
unfolding opened digits program come_to on value v element quotient serial increment
increments_by_minus_1 = refl

adds_2 : come_to (increment 2 (stmt.Psm v (spot.Global 0))) ≡ []
unfolding opened digits program come_to on value v element quotient serial increment
adds_2 = refl

adds_outside : come_to (increment 2 (stmt.Psm v (element 2))) ≡ serial Index 5
unfolding opened digits program come_to on value v element quotient serial increment
adds_outside = refl
