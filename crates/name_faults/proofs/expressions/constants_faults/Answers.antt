use Rattle.std.proofs.Common.{◌∙◌, ap, refl}
use Rattle.name_scopes.specs.Fault.{earlier}
use Rattle.name_faults.specs.Expressions as spec
use Rattle.name_faults.proofs.Rows.{loop_turn}
use Rattle.name_faults.proofs.expressions.constants_faults.Goals as goal

pub loop-e-preserved : goal.loop-e-preserved
loop-e-preserved c =
    loop_turn (spec.constants_faults c.args.scope.now.declared) (spec.constant_faults c.args.scope.now.declared) (λ a rest. refl)
    c.loop-e.found c.earlier-found.result _ c.loop-e.e-index c.args.values.now c.e-item.result c.loop-e-test.true c.e-item.is
    (c.earlier-found.ensures ∙ ap (λ x. earlier c.loop-e.found x) c.constant_faults.ensures) c.loop-e.invariant
