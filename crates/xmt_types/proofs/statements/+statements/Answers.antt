use Rattle.std.proofs.Common.{refl, ◌∙◌, ap, sym, length}
use Rattle.source_meaning.specs.declared.tree.StmtKind.TheVariants as s
use Rattle.name_scopes.specs.Locals.{env, left}
use Rattle.name_faults.specs.Statements.{after, after_all}
use Rattle.name_faults.proofs.Bodies.{after_block, after_spawn}
use Rattle.typed_programs.proofs.Bodies.{typed_block, typed_spawn}
use Rattle.typed_programs.specs.Statements as spec
use Rattle.name_faults.proofs.Rows.{state_turn, on_ok_then, if_ok_then}
use Rattle.xmt_types.specs.Statements as form
use Rattle.xmt_types.proofs.Loops.{built_turn}
use Rattle.xmt_types.proofs.statements.+statements.Goals as goal

pub statement-returns-in-Block-clause-env : goal.statement-returns-in-Block-clause-env
statement-returns-in-Block-clause-env t c =
    let before = env c.args.locals.now in
    on_ok_then (env c.block_statement.new.locals) _ c.block_statement.ensures.env
    (ap (λ body. left (length before.declared) (after_all body before)) c.as_slice.ensures
    ∙ sym (ap (λ kind. after kind before) c.in-Block.is ∙ after_block c.in-Block.body before))

pub statement-returns-in-Block-clause-made : goal.statement-returns-in-Block-clause-made
statement-returns-in-Block-clause-made t c =
    let before = env c.args.locals.now in
    let at = c.args.s.now.at in
    if_ok_then _ c.block_statement.ensures.made
    (ap (λ body. spec.statement at (s.Block (spec.typed_all body before))) c.as_slice.ensures
    ∙ sym (ap (λ kind. spec.typed at kind before) c.in-Block.is ∙ typed_block at c.in-Block.body before))

pub statement-returns-in-Spawn-clause-env : goal.statement-returns-in-Spawn-clause-env
statement-returns-in-Spawn-clause-env t c =
    let before = env c.args.locals.now in
    on_ok_then (env c.spawn_block.new.locals) _ c.spawn_block.ensures.env
    (ap (λ body. left (length before.declared) (after_all body before)) c.as_slice-in-Spawn.ensures
    ∙ sym (ap (λ kind. after kind before) c.in-Spawn.is ∙ after_spawn c.in-Spawn.low c.in-Spawn.high c.in-Spawn.body before))

pub statement-returns-in-Spawn-clause-made : goal.statement-returns-in-Spawn-clause-made
statement-returns-in-Spawn-clause-made t c =
    let before = env c.args.locals.now in
    let at = c.args.s.now.at in
    let low = c.in-Spawn.low in
    let high = c.in-Spawn.high in
    if_ok_then _ c.spawn_block.ensures.made
    (ap (λ x. form.spawn_block at x c.get-in-Spawn-2.result.now c.as_slice-in-Spawn.result.now before) c.get-in-Spawn.ensures
    ∙ ap (λ x. form.spawn_block at low x c.as_slice-in-Spawn.result.now before) c.get-in-Spawn-2.ensures
    ∙ ap (λ x. form.spawn_block at low high x before) c.as_slice-in-Spawn.ensures
    ∙ sym (ap (λ kind. spec.typed at kind before) c.in-Spawn.is ∙ typed_spawn at low high c.in-Spawn.body before))

pub statements-loop-s-preserved : goal.statements-loop-s-preserved
statements-loop-s-preserved t c = record {
  table = c.in_ok-add.ensures.table;
  reach =
      state_turn after_all (λ x. after x.kind) (λ a rest e. refl)
      (env c.loop-s.locals) (env c.add.new.locals) _ c.loop-s.s-index c.args.body.now c.s-item.result
      c.loop-s-test.true c.s-item.is c.in_ok-add.ensures.env c.loop-s.invariant.reach;
  built =
      built_turn spec.typed_all (λ x e. spec.pieces x.at x.kind e) (λ x. after x.kind) (λ a rest e. refl)
      (env c.loop-s.locals) (env c.add.new.locals) c.loop-s.made c.add.new.made _ c.loop-s.s-index c.args.body.now c.s-item.result
      c.loop-s-test.true c.s-item.is c.in_ok-add.ensures.env c.in_ok-add.ensures.made c.loop-s.invariant.built;
}
