use Rattle.std.proofs.Common.{◌≡◌, drop}
use Rattle.std.specs.List.{list_any}
use Rattle.source_meaning.specs.Inside.{some_expression}
use Rattle.spawn_check.specs.Questions.{expression_test}
use Rattle.spawn_check.proofs.questions.+expressions.Given as goal

-- what is asked of all is left to the rest
abbrev pub invariant-some_in_values-loop-value : goal.invariant-some_in_values-loop-value
invariant-some_in_values-loop-value l =
    list_any (λ e. some_expression (expression_test l.question l.marks) e.kind) (drop l.value-index l.values) ≡
    list_any (λ e. some_expression (expression_test l.question l.marks) e.kind) l.values
