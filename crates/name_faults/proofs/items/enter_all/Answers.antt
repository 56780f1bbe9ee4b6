use Rattle.std.proofs.Common.{refl}
use Rattle.raw_tree.specs.declared.tree.RawItem.{RawItem}
use Rattle.name_faults.specs.Items as spec
use Rattle.name_faults.proofs.Rows.{state_turn, found_turn}
use Rattle.name_faults.proofs.items.enter_all.Goals as goal

pub loop-x-preserved : goal.loop-x-preserved
loop-x-preserved c = record {
  table = c.in_ok-one.ensures.table;
  reach =
      state_turn spec.enter_all (λ (a : RawItem). spec.enter a.kind) (λ a rest e. refl)
      (spec.names c.loop-x.file) (spec.names c.enter.new.file) _ c.loop-x.x-index c.args.items.now c.x-item.result
      c.loop-x-test.true c.x-item.is c.in_ok-one.ensures.names c.loop-x.invariant.reach;
  broken =
      found_turn spec.again_all (λ (a : RawItem). spec.again a.kind) (λ (a : RawItem). spec.enter a.kind) (λ a rest e. refl)
      (spec.names c.loop-x.file) (spec.names c.enter.new.file) c.loop-x.found c.in_ok-one.one c.earlier-found.result _ c.loop-x.x-index c.args.items.now c.x-item.result
      c.loop-x-test.true c.x-item.is c.in_ok-one.ensures.names c.in_ok-one.ensures.fault c.earlier-found.ensures c.loop-x.invariant.broken;
}
