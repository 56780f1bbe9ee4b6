use Rattle.std.proofs.Common.{rules, ◌≡◌, ◌∙◌, ap, sym, refl, length}
use Rattle.name_scopes.specs.Fault.{first, earlier}
use Rattle.name_scopes.specs.Locals.{env, left}
use Rattle.name_faults.specs.Statements as spec
use Rattle.name_faults.proofs.Rows.{state_turn, found_turn, on_ok_then, if_ok_then}
use Rattle.name_faults.proofs.Bodies.{after_block, after_spawn, faults_block, faults_spawn}
use Rattle.name_faults.proofs.statements.+statements.Goals as goal

pub statement-returns-in-Block-clause-env : goal.statement-returns-in-Block-clause-env
statement-returns-in-Block-clause-env t c =
    let before = env c.args.locals.now in
    on_ok_then (env c.block.new.locals) _ c.block.ensures.env
    (ap (λ body. left (length before.declared) (spec.after_all body before)) c.as_slice.ensures
    ∙ sym (ap (λ kind. spec.after kind before) c.in-Block.is ∙ after_block c.in-Block.body before))

pub statement-returns-in-Block-clause-fault : goal.statement-returns-in-Block-clause-fault
statement-returns-in-Block-clause-fault t c =
    let before = env c.args.locals.now in
    if_ok_then _ c.block.ensures.fault
    (ap (λ body. first (spec.statements_faults c.args.value (length before.declared) body before)) c.as_slice.ensures
    ∙ sym (ap (λ kind. first (spec.statement_faults c.args.value c.args.start c.args.s.now.at kind before)) c.in-Block.is
    ∙ ap first (faults_block c.args.value c.args.start c.args.s.now.at c.in-Block.body before)))

pub statement-returns-in-Spawn-clause-env : goal.statement-returns-in-Spawn-clause-env
statement-returns-in-Spawn-clause-env t c =
    let before = env c.args.locals.now in
    on_ok_then (env c.spawn_block.new.locals) _ c.spawn_block.ensures.env
    (ap (λ body. left (length before.declared) (spec.after_all body before)) c.as_slice-in-Spawn.ensures
    ∙ sym (ap (λ kind. spec.after kind before) c.in-Spawn.is ∙ after_spawn c.in-Spawn.low c.in-Spawn.high c.in-Spawn.body before))

pub statement-returns-in-Spawn-clause-fault : goal.statement-returns-in-Spawn-clause-fault
statement-returns-in-Spawn-clause-fault t c =
    let before = env c.args.locals.now in
    let bounds : c.bounds_faults-bounds.result ≡ first (spec.bounds_faults c.args.s.now.at c.in-Spawn.low c.in-Spawn.high before.declared) = search rules in
    if_ok_then _ c.spawn_block.ensures.fault
    (ap (λ x. earlier x (first (spec.statements_faults c.args.value (length before.declared) c.as_slice-in-Spawn.result.now before))) bounds
    ∙ ap (λ body. earlier (first (spec.bounds_faults c.args.s.now.at c.in-Spawn.low c.in-Spawn.high before.declared)) (first (spec.statements_faults c.args.value (length before.declared) body before))) c.as_slice-in-Spawn.ensures
    ∙ sym (ap (λ kind. first (spec.statement_faults c.args.value c.args.start c.args.s.now.at kind before)) c.in-Spawn.is
    ∙ ap first (faults_spawn c.args.value c.args.start c.args.s.now.at c.in-Spawn.low c.in-Spawn.high c.in-Spawn.body before)))

pub statements-loop-s-preserved : goal.statements-loop-s-preserved
statements-loop-s-preserved t c = record {
  table = c.in_ok-one.ensures.table;
  reach =
      state_turn spec.after_all (λ x. spec.after x.kind) (λ a rest e. refl)
      (env c.loop-s.locals) (env c.statement.new.locals) _ c.loop-s.s-index c.args.body.now c.s-item.result
      c.loop-s-test.true c.s-item.is c.in_ok-one.ensures.env c.loop-s.invariant.reach;
  broken =
      found_turn (spec.statements_faults c.args.value c.args.start) (λ x e. spec.statement_faults c.args.value c.args.start x.at x.kind e) (λ x. spec.after x.kind) (λ a rest e. refl)
      (env c.loop-s.locals) (env c.statement.new.locals) c.loop-s.found c.in_ok-one.one c.earlier-found.result _ c.loop-s.s-index c.args.body.now c.s-item.result
      c.loop-s-test.true c.s-item.is c.in_ok-one.ensures.env c.in_ok-one.ensures.fault c.earlier-found.ensures c.loop-s.invariant.broken;
}
