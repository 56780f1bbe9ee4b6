-- The limits of programs.
use Rattle.std.specs.Prelude.{◌≡◌, ℕ, ◌≤◌, max, nat_lt, false, All, length, Option, Some, None}
use Rattle.source_meaning.specs.declared.tree.Expr.{Expr}
use Rattle.source_meaning.specs.declared.tree.StmtKind.{StmtKind}
use Rattle.source_meaning.specs.declared.tree.StmtKind.TheVariants as stmt
use Rattle.source_meaning.specs.declared.tree.Function.{Function}
use Rattle.source_meaning.specs.declared.tree.Program.{Program}
use Rattle.source_meaning.specs.Inside.{some_in_list}
use Rattle.tree_measures.specs.Nodes.{program_nodes}
use Rattle.tree_measures.specs.Waiting.{waiting_in, waiting_in_statement}

abbrev pub waiting_in_option : Option Expr → ℕ
waiting_in_option None = 0
waiting_in_option (Some e) = waiting_in e.kind

-- how many values wait at most in a statement, outside the statements inside it
abbrev pub most_waiting : StmtKind → ℕ
most_waiting (stmt.Value e) = waiting_in e.kind
most_waiting (stmt.Declare slot value) = waiting_in_option value
most_waiting (stmt.If' test shape body other) = waiting_in test.kind
most_waiting (stmt.While' test shape body) = waiting_in test.kind
most_waiting (stmt.Do' shape body test) = waiting_in test.kind
most_waiting (stmt.For' first_shape first test third shape body) = max (waiting_in_option test) (waiting_in_option third)
most_waiting (stmt.Return value) = waiting_in_option value
most_waiting s = waiting_in_statement s

pub record FunctionIsWithinLimits (function : Function) : Type 0 where
  pub variables : function.variables ≤ 200
  pub parameters : function.params ≤ 8
  -- in no statement more than 256 values wait
  pub waiting : some_in_list (λ s. nat_lt 256 (most_waiting s)) function.body ≡ false

-- a print has at most 16 values as its text has, and the nesting is that of the grammar
pub record IsWithinLimits (program : Program) : Type 0 where
  pub globals : length program.globals ≤ 4096
  pub registers : length program.registers ≤ 8
  pub functions : length program.functions ≤ 1000
  pub each_function : All FunctionIsWithinLimits program.functions

abbrev pub HasFewNodes : Program → Type 0
HasFewNodes program = program_nodes program ≤ 65536
