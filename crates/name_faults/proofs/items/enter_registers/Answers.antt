use Rattle.std.proofs.Common.{refl}
use Rattle.raw_tree.specs.declared.tree.RawRegister.{RawRegister}
use Rattle.name_faults.specs.Items as spec
use Rattle.name_faults.proofs.Rows.{state_turn, found_turn}
use Rattle.name_faults.proofs.items.enter_registers.Goals as goal

pub loop-x-preserved : goal.loop-x-preserved
loop-x-preserved c = record {
  table = c.in_ok-one.ensures.table;
  reach =
      state_turn spec.enter_registers spec.enter_register (λ a rest e. refl)
      (spec.names c.loop-x.file) (spec.names c.enter_register.new.file) _ c.loop-x.x-index c.args.all.now c.x-item.result
      c.loop-x-test.true c.x-item.is c.in_ok-one.ensures.names c.loop-x.invariant.reach;
  broken =
      found_turn spec.again_registers (λ (a : RawRegister) (e : spec.Names). spec.again_fault a.name e.declared) spec.enter_register (λ a rest e. refl)
      (spec.names c.loop-x.file) (spec.names c.enter_register.new.file) c.loop-x.found c.in_ok-one.one c.earlier-found.result _ c.loop-x.x-index c.args.all.now c.x-item.result
      c.loop-x-test.true c.x-item.is c.in_ok-one.ensures.names c.in_ok-one.ensures.fault c.earlier-found.ensures c.loop-x.invariant.broken;
}
