use Rattle.std.proofs.Common.{◌≡◌, drop}
use Rattle.source_meaning.specs.Inside.{some_in_list}
use Rattle.spawn_check.specs.Questions.{statement_test}
use Rattle.spawn_check.proofs.questions.+statements.Given as goal

-- what is asked of all is left to the rest
abbrev pub invariant-some_in_body-loop-s : goal.invariant-some_in_body-loop-s
invariant-some_in_body-loop-s l =
    some_in_list (statement_test l.question l.marks) (drop l.s-index l.body) ≡ some_in_list (statement_test l.question l.marks) l.body
