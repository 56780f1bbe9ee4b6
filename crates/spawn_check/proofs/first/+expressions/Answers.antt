use Rattle.std.proofs.Common.{◌∙◌, ap, sym}
use Rattle.spawn_check.specs.First.{first_in_expression, first_in_values}
use Rattle.spawn_check.proofs.Rows.{first_in_call}
use Rattle.spawn_check.proofs.first.+expressions.Goals as goal

pub after_expression-returns-in-Call : goal.after_expression-returns-in-Call
after_expression-returns-in-Call t c =
    let marks = c.args.marks.now in
    c.after_values.ensures ∙
    ap (λ values. first_in_values marks c.args.around values c.after_thing-first.result) c.as_slice.ensures ∙
    ap (first_in_values marks c.args.around c.in-Call.values) c.after_thing-first.ensures ∙
    sym
    (ap (λ kind. first_in_expression marks c.args.around c.args.e.now.at kind c.args.first) c.in-Call.is ∙
    first_in_call marks c.args.around c.args.e.now.at c.in-Call.function c.in-Call.values c.args.first)
