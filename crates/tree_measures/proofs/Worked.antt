-- `int A[4]; main() { int i; i = A[i + 1] + 2; }`: its nodes are the array, the function, two statements and seven expressions.
use Rattle.std.proofs.Common.{◌≡◌, refl, [], ◌∷◌}
use Rattle.std.specs.Prelude.{None, codes}
use Rattle.xmt_base.specs.declared.operators.BinOp.TheVariants.{Add}
use Rattle.source_meaning.specs.declared.tree.Expr.{Expr}
use Rattle.source_meaning.specs.declared.tree.ExprKind.TheVariants as expr
use Rattle.source_meaning.specs.declared.tree.Spot.TheVariants as spot
use Rattle.source_meaning.specs.declared.tree.StmtKind.TheVariants as stmt
use Rattle.source_meaning.specs.declared.tree.Program.{Program}
use Rattle.source_meaning.specs.Opened.{opened}
use Rattle.source_meaning.proofs.Written.{s, e, number, read, binary, array, function, program_of}
use Rattle.tree_measures.specs.Nodes.{program_nodes}
use Rattle.tree_measures.specs.Nesting.{program_depth}
use Rattle.tree_measures.specs.Waiting.{waiting_in, waiting_in_statement}

abbrev sum : Expr
sum = binary Add (read (spot.Element 0 (binary Add (read (spot.Local 0)) (number 1)))) (number 2)

abbrev program : Program
program = program_of (array (codes "A") 4 ∷ []) [] (function (codes "main") 1 (s (stmt.Declare 0 None) ∷ s (stmt.Value (e (expr.Assign (spot.Local 0) sum))) ∷ []) ∷ [])

nodes : program_nodes program ≡ 11
unfolding opened
nodes = refl

-- the statement, the assignment, the sum, the element, its index and the variable in it
depth : program_depth program ≡ 6
unfolding opened
depth = refl

waiting : waiting_in sum.kind ≡ 2
unfolding opened
waiting = refl

-- `1 + (2 + 3)` holds the first number while the second one waits
waiting_right : waiting_in (expr.Binary Add (number 1) (binary Add (number 2) (number 3))) ≡ 3
unfolding opened
waiting_right = refl

-- `A[0] += 1`: the index, the element and the value
waiting_update : waiting_in (expr.Update Add (spot.Element 0 (number 0)) (number 1)) ≡ 3
unfolding opened
waiting_update = refl

-- `f(1, 2, 3)`, `f()` and `psm(v, A[1 + (2 + 3)])`
waiting_call : waiting_in (expr.Call 0 (number 1 ∷ number 2 ∷ number 3 ∷ [])) ≡ 3
unfolding opened
waiting_call = refl

waiting_empty_call : waiting_in (expr.Call 0 []) ≡ 1
unfolding opened
waiting_empty_call = refl

waiting_sum : waiting_in_statement (stmt.Psm (spot.Local 0) (spot.Element 0 (binary Add (number 1) (binary Add (number 2) (number 3))))) ≡ 4
unfolding opened
waiting_sum = refl
