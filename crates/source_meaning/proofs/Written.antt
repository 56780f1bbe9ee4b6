-- Trees written out. Everything stands on line 1, unless it says otherwise; columns do not matter to the meaning.
use Rattle.std.specs.Prelude.{ℕ, List, [], true, false}
use Rattle.xmt_base.specs.declared.operators.BinOp.{BinOp}
use Rattle.source_meaning.specs.declared.tree.GlobalVar.{GlobalVar}
use Rattle.source_meaning.specs.declared.tree.Register.{Register}
use Rattle.source_meaning.specs.declared.tree.Program.{Program}
use Rattle.source_meaning.specs.declared.tree.Function.{Function}
use Rattle.source_meaning.specs.declared.tree.Expr.{Expr}
use Rattle.source_meaning.specs.declared.tree.ExprKind.{ExprKind}
use Rattle.source_meaning.specs.declared.tree.ExprKind.TheVariants as expr
use Rattle.source_meaning.specs.declared.tree.Spot.{Spot}
use Rattle.source_meaning.specs.declared.tree.Stmt.{Stmt}
use Rattle.source_meaning.specs.declared.tree.StmtKind.{StmtKind}
use Rattle.source_meaning.specs.declared.tree.StmtKind.TheVariants as stmt

abbrev pub e : ExprKind → Expr
e kind = record { at = record { line = 1; column = 1 }; kind = kind }

abbrev pub s : StmtKind → Stmt
s kind = record { at = record { line = 1; column = 1 }; kind = kind }

abbrev pub number : ℕ → Expr
number n = e (expr.Number n)

abbrev pub read : Spot → Expr
read spot = e (expr.Read spot)

abbrev pub binary : BinOp → Expr → Expr → Expr
binary op a b = e (expr.Binary op a b)

-- an assignment as a statement
abbrev pub assign : Spot → Expr → Stmt
assign spot value = s (stmt.Value (e (expr.Assign spot value)))

abbrev pub scalar : List ℕ → GlobalVar
scalar name = record { name = name; array = false; length = 1; constant = false; opening = [] }

abbrev pub array : List ℕ → ℕ → GlobalVar
array name length = record { name = name; array = true; length = length; constant = false; opening = [] }

-- a function without parameters
abbrev pub function : List ℕ → (variables : ℕ) → List Stmt → Function
function name variables body = record { name = name; value = true; params = 0; variables = variables; body = body }

abbrev pub dollar : Expr
dollar = e expr.Dollar

-- a program whose function 0 is `main`
abbrev pub program_of : List GlobalVar → List Register → List Function → Program
program_of globals registers functions = record { globals = globals; registers = registers; functions = functions; main = 0 }
