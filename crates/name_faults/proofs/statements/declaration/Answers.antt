use Rattle.std.proofs.Common.{refl}
use Rattle.std.specs.Prelude.{true}
use Rattle.name_scopes.specs.Fault.{both}
use Rattle.name_scopes.specs.Locals.{Env, env, declare_local}
use Rattle.name_faults.specs.Expressions.{whole_option}
use Rattle.name_faults.specs.Statements as spec
use Rattle.name_faults.proofs.Rows.{state_turn, found_turn}
use Rattle.name_faults.proofs.statements.declaration.Goals as goal

pub loop-local-preserved : goal.loop-local-preserved
loop-local-preserved c = record {
  table = c.in_ok-one.ensures.table;
  reach =
      state_turn (spec.declare_all c.is_constant-constant.result) (λ l. declare_local c.is_constant-constant.result l.name) (λ a rest e. refl)
      (env c.loop-local.locals) (env c.declare_one.new.locals) _ c.loop-local.local-index c.as_slice-local-items.result.now c.local-item.result
      c.loop-local-test.true c.local-item.is c.in_ok-one.ensures.env c.loop-local.invariant.reach;
  broken =
      found_turn (spec.locals_faults c.args.start c.is_constant-constant.result)
      (λ l (e : Env). both (whole_option e.declared true l.value) (spec.double_fault c.args.start l.name e.declared))
      (λ l. declare_local c.is_constant-constant.result l.name) (λ a rest e. refl)
      (env c.loop-local.locals) (env c.declare_one.new.locals) c.loop-local.found c.in_ok-one.one c.earlier-found.result _ c.loop-local.local-index c.as_slice-local-items.result.now c.local-item.result
      c.loop-local-test.true c.local-item.is c.in_ok-one.ensures.env c.in_ok-one.ensures.fault c.earlier-found.ensures c.loop-local.invariant.broken;
}
