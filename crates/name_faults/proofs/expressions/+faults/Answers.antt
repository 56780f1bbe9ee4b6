use Rattle.std.proofs.Common.{rules, ◌≡◌, ◌∙◌, ap, refl, sym, length}
use Rattle.std.specs.Prelude.{true}
use Rattle.name_scopes.specs.Fault.{first, earlier}
use Rattle.name_faults.specs.Expressions as spec
use Rattle.name_faults.proofs.Rows.{faults_call, loop_turn}
use Rattle.name_faults.proofs.expressions.+faults.Goals as goal

pub faults-returns-in-Call : goal.faults-returns-in-Call
faults-returns-in-Call t c =
    let is = ap (λ kind. first (spec.faults c.args.scope.now.declared c.args.wanted kind)) c.in-Call.is
    ∙ ap first (faults_call c.args.scope.now.declared c.args.wanted c.in-Call.name c.in-Call.values) in
    let call : c.call_fault-call.result ≡ first (spec.call_fault c.args.wanted (length c.in-Call.values) c.in-Call.name (spec.meaning c.args.scope.now.declared c.in-Call.name)) = search rules in
    let values : c.faults_of_values-inside.result ≡ first (spec.faults_of_values c.args.scope.now.declared c.in-Call.values) = search rules in
    c.earlier-in-Call.ensures ∙ ap (λ x. earlier x c.faults_of_values-inside.result) call
    ∙ ap (λ y. earlier (first (spec.call_fault c.args.wanted (length c.in-Call.values) c.in-Call.name (spec.meaning c.args.scope.now.declared c.in-Call.name))) y) values
    ∙ sym is

pub faults_of_values-loop-e-preserved : goal.faults_of_values-loop-e-preserved
faults_of_values-loop-e-preserved t c =
    loop_turn (spec.faults_of_values c.args.scope.now.declared) (λ a. spec.faults c.args.scope.now.declared true a.kind) (λ a rest. refl)
    c.loop-e.found c.earlier-found.result _ c.loop-e.e-index c.args.values.now c.e-item.result c.loop-e-test.true c.e-item.is
    (c.earlier-found.ensures ∙ ap (λ x. earlier c.loop-e.found x) c.faults.ensures) c.loop-e.invariant
