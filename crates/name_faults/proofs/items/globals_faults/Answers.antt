use Rattle.std.proofs.Common.{◌∙◌, ap, refl}
use Rattle.name_scopes.specs.Fault.{earlier}
use Rattle.name_faults.specs.Items as spec
use Rattle.name_faults.proofs.Rows.{loop_turn}
use Rattle.name_faults.proofs.items.globals_faults.Goals as goal

pub loop-x-preserved : goal.loop-x-preserved
loop-x-preserved c =
    loop_turn (spec.globals_faults c.args.scope.now.declared) (spec.global_faults c.args.scope.now.declared) (λ a rest. refl)
    c.loop-x.found c.earlier-found.result _ c.loop-x.x-index c.args.all.now c.x-item.result c.loop-x-test.true c.x-item.is
    (c.earlier-found.ensures ∙ ap (λ x. earlier c.loop-x.found x) c.global_faults.ensures) c.loop-x.invariant
