use Rattle.std.proofs.Common.{◌∙◌, ap, sym}
use Rattle.std.specs.List.{list_any}
use Rattle.source_meaning.specs.Inside.{some_inside, some_expression}
use Rattle.spawn_check.specs.Questions.{expression_test}
use Rattle.spawn_check.proofs.Rows.{some_in_call}
use Rattle.spawn_check.proofs.questions.+expressions.Goals as goal

pub some_in_parts-returns-in-Call : goal.some_in_parts-returns-in-Call
some_in_parts-returns-in-Call t c =
    let test = expression_test c.args.question c.args.marks.now in
    c.some_in_values.ensures ∙
    ap (list_any (λ e. some_expression test e.kind)) c.as_slice.ensures ∙
    sym (ap (some_inside test) c.in-Call.is ∙ some_in_call test c.in-Call.field-0 c.in-Call.values)
