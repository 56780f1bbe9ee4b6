use Rattle.std.proofs.Common.{rules, ◌≡◌, ◌∙◌, ap, sym}
use Rattle.name_faults.proofs.Rows.{if_ok_then}
use Rattle.source_meaning.specs.declared.tree.ExprKind.TheVariants as e
use Rattle.typed_programs.specs.Expressions as spec
use Rattle.name_faults.specs.Expressions.{meaning}
use Rattle.typed_programs.proofs.Rows.{typed_call}
use Rattle.xmt_types.proofs.expressions.+typed.Goals as goal

pub expression-returns-in_ok-values-in-Call : goal.expression-returns-in_ok-values-in-Call
expression-returns-in_ok-values-in-Call t c =
    let is = ap (λ kind. spec.typed c.args.scope.now.declared c.args.e.now.at kind) c.in-Call.is
    ∙ typed_call c.args.scope.now.declared c.args.e.now.at c.in-Call.name c.in-Call.values in
    let function : c.function_number-function.result ≡ spec.function_number (meaning c.args.scope.now.declared c.in-Call.name) = search rules in
    let values : c.in_ok-values-in-Call.values ≡ spec.expressions c.args.scope.now.declared c.in-Call.values =
    c.in_ok-values-in-Call.ensures ∙ ap (spec.expressions c.args.scope.now.declared) c.as_slice.ensures in
    if_ok_then _ c.node-in-Call.ensures
    (ap (λ f. spec.node c.args.e.now.at (e.Call f c.in_ok-values-in-Call.values)) function
    ∙ ap (λ made. spec.node c.args.e.now.at (e.Call (spec.function_number (meaning c.args.scope.now.declared c.in-Call.name)) made)) values
    ∙ sym is)
