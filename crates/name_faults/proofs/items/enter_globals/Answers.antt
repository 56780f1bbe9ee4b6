use Rattle.std.proofs.Common.{refl}
use Rattle.name_faults.specs.Items as spec
use Rattle.name_faults.proofs.Rows.{state_turn, found_turn}
use Rattle.name_faults.proofs.items.enter_globals.Goals as goal

pub loop-x-preserved : goal.loop-x-preserved
loop-x-preserved c = record {
  table = c.in_ok-one.ensures.table;
  reach =
      state_turn (spec.enter_globals c.args.constant) (spec.enter_global c.args.constant) (λ a rest e. refl)
      (spec.names c.loop-x.file) (spec.names c.enter_global.new.file) _ c.loop-x.x-index c.args.all.now c.x-item.result
      c.loop-x-test.true c.x-item.is c.in_ok-one.ensures.names c.loop-x.invariant.reach;
  broken =
      found_turn (spec.again_globals c.args.constant) (λ a (e : spec.Names). spec.again_fault (spec.name_of_global a) e.declared) (spec.enter_global c.args.constant) (λ a rest e. refl)
      (spec.names c.loop-x.file) (spec.names c.enter_global.new.file) c.loop-x.found c.in_ok-one.one c.earlier-found.result _ c.loop-x.x-index c.args.all.now c.x-item.result
      c.loop-x-test.true c.x-item.is c.in_ok-one.ensures.names c.in_ok-one.ensures.fault c.earlier-found.ensures c.loop-x.invariant.broken;
}
