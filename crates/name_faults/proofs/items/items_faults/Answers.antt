use Rattle.std.proofs.Common.{◌∙◌, ap, refl}
use Rattle.raw_tree.specs.declared.tree.RawItem.{RawItem}
use Rattle.name_scopes.specs.Fault.{first, earlier}
use Rattle.name_faults.specs.Items as spec
use Rattle.name_faults.proofs.Rows.{loop_turn}
use Rattle.name_faults.proofs.items.items_faults.Goals as goal

pub loop-x-preserved : goal.loop-x-preserved
loop-x-preserved c = record {
  table = c.in_ok-one.ensures.table;
  reach = c.in_ok-one.ensures.declared ∙ c.loop-x.invariant.reach;
  broken =
      loop_turn (spec.items_faults c.args.locals.now.scope.declared) (λ (a : RawItem). spec.item_faults c.args.locals.now.scope.declared a.kind) (λ a rest. refl)
      c.loop-x.found c.earlier-found.result _ c.loop-x.x-index c.args.items.now c.x-item.result c.loop-x-test.true c.x-item.is
      (c.earlier-found.ensures ∙ ap (λ x. earlier c.loop-x.found x) (c.in_ok-one.ensures.fault ∙ ap (λ ds. first (spec.item_faults ds c.x-item.result.kind)) c.loop-x.invariant.reach))
      c.loop-x.invariant.broken;
}
