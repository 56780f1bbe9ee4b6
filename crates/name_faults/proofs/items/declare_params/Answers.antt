use Rattle.std.proofs.Common.{refl}
use Rattle.raw_tree.specs.declared.tree.RawParam.{RawParam}
use Rattle.name_scopes.specs.Locals.{Env, env}
use Rattle.name_faults.specs.Items as spec
use Rattle.name_faults.proofs.Rows.{state_turn, found_turn}
use Rattle.name_faults.proofs.items.declare_params.Goals as goal

pub loop-x-preserved : goal.loop-x-preserved
loop-x-preserved c = record {
  table = c.in_ok-one.ensures.table;
  reach =
      state_turn spec.declare_params spec.declare_param (λ a rest e. refl)
      (env c.loop-x.locals) (env c.declare_param.new.locals) _ c.loop-x.x-index c.args.all.now c.x-item.result
      c.loop-x-test.true c.x-item.is c.in_ok-one.ensures.env c.loop-x.invariant.reach;
  broken =
      found_turn (spec.params_faults c.args.start) (λ (a : RawParam) (e : Env). spec.double_named c.args.start a.name e.declared) spec.declare_param (λ a rest e. refl)
      (env c.loop-x.locals) (env c.declare_param.new.locals) c.loop-x.found c.in_ok-one.one c.earlier-found.result _ c.loop-x.x-index c.args.all.now c.x-item.result
      c.loop-x-test.true c.x-item.is c.in_ok-one.ensures.env c.in_ok-one.ensures.fault c.earlier-found.ensures c.loop-x.invariant.broken;
}
