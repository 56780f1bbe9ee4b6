-- What may be asked of the statements of a body, at any depth.
use Rattle.std.specs.Prelude.{Bool, false, ◌||◌, List, slice_index_or}
use Rattle.source_meaning.specs.declared.tree.ExprKind.{ExprKind}
use Rattle.source_meaning.specs.declared.tree.ExprKind.TheVariants as expr
use Rattle.source_meaning.specs.declared.tree.StmtKind.{StmtKind}
use Rattle.source_meaning.specs.Inside.{some_of_statement}
use Rattle.source_meaning.specs.Variables.{is_declaration, is_assignment, is_sum_on}
use Rattle.spawn_check.specs.declared.questions.Question.{Question}
use Rattle.spawn_check.specs.declared.questions.Question.TheVariants.{Declares, Writes, LeadsTo}
use Rattle.spawn_check.specs.Calls.{is_sought}

-- a call of a function that is marked
abbrev pub is_marked_call : (marks : List Bool) → ExprKind → Bool
is_marked_call marks (expr.Call' f shape values) = slice_index_or marks f false
is_marked_call marks _ = false

abbrev pub no_expression : ExprKind → Bool
no_expression e = false

-- the test of an expression
abbrev pub expression_test : Question → (marks : List Bool) → ExprKind → Bool
expression_test (Declares slot) marks = no_expression
expression_test (Writes slot) marks = is_assignment slot
expression_test (LeadsTo what) marks = is_marked_call marks

-- the test of a statement without its expressions
abbrev pub own_test : Question → StmtKind → Bool
own_test (Declares slot) = is_declaration slot
own_test (Writes slot) = is_sum_on slot
own_test (LeadsTo what) = is_sought what

-- the test of a statement: its own, or that of one of its expressions
abbrev pub statement_test : Question → (marks : List Bool) → StmtKind → Bool
statement_test (Declares slot) marks s = is_declaration slot s
statement_test (Writes slot) marks s = is_sum_on slot s || some_of_statement (is_assignment slot) s
statement_test (LeadsTo what) marks s = is_sought what s || some_of_statement (is_marked_call marks) s
