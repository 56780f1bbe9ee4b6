use Rattle.std.proofs.Common.{◌∙◌, ap, sym}
use Rattle.source_meaning.specs.declared.tree.Expr.{Expr}
use Rattle.source_meaning.specs.declared.tree.Stmt.{Stmt}
use Rattle.spawn_check.specs.declared.things.Around.{Around}
use Rattle.spawn_check.specs.Things.{in_block, in_loop}
use Rattle.spawn_check.specs.First.{first_in_expression, first_in_option, first_in_statement, first_in_statements}
use Rattle.spawn_check.proofs.Rows.{first_in_a_block, first_in_for, first_in_spawn}
use Rattle.spawn_check.proofs.first.+statements.Goals as goal

pub after_statement-returns-in-Block : goal.after_statement-returns-in-Block
after_statement-returns-in-Block t c =
    let marks = c.args.marks.now in
    c.after_statements.ensures ∙
    ap (λ body. first_in_statements marks c.args.around body c.args.first) c.as_slice.ensures ∙
    sym
    (ap (λ kind. first_in_statement marks c.args.around c.args.s.now.at kind c.args.first) c.in-Block.is ∙
    first_in_a_block marks c.args.around c.args.s.now.at c.in-Block.body c.args.first)

pub after_statement-returns-in-For : goal.after_statement-returns-in-For
after_statement-returns-in-For t c =
    let marks = c.args.marks.now in
    let around = c.args.around in
    c.after_statement-in-For.ensures ∙
    ap (λ (s : Stmt). first_in_statement marks c.with_loop-in-For.result s.at s.kind c.after_option-first-in-For.result) c.get-in-For.ensures ∙
    ap (λ (inner : Around). first_in_statement marks inner c.in-For.body.at c.in-For.body.kind c.after_option-first-in-For.result) c.with_loop-in-For.ensures ∙
    ap (first_in_statement marks (in_loop around) c.in-For.body.at c.in-For.body.kind)
    (c.after_option-first-in-For.ensures ∙
    ap (first_in_option marks around c.in-For.third)
    (c.after_option-first.ensures ∙
    ap (first_in_option marks around c.in-For.test)
    (c.after_statements-first.ensures ∙ ap (λ body. first_in_statements marks around body c.args.first) c.as_slice-in-For.ensures))) ∙
    sym
    (ap (λ kind. first_in_statement marks around c.args.s.now.at kind c.args.first) c.in-For.is ∙
    first_in_for marks around c.args.s.now.at c.in-For.start c.in-For.test c.in-For.third c.in-For.body c.args.first)

pub after_statement-returns-in-Spawn : goal.after_statement-returns-in-Spawn
after_statement-returns-in-Spawn t c =
    let marks = c.args.marks.now in
    let around = c.args.around in
    c.after_statements-in-Spawn.ensures ∙
    ap (λ (inner : Around). first_in_statements marks inner c.as_slice-in-Spawn.result.now c.after_expression-first-in-Spawn-2.result) c.block.ensures ∙
    ap (λ body. first_in_statements marks in_block body c.after_expression-first-in-Spawn-2.result) c.as_slice-in-Spawn.ensures ∙
    ap (first_in_statements marks in_block c.in-Spawn.block)
    (c.after_expression-first-in-Spawn-2.ensures ∙
    ap (λ (e : Expr). first_in_expression marks around e.at e.kind c.after_expression-first-in-Spawn.result) c.get-in-Spawn-2.ensures ∙
    ap (first_in_expression marks around c.in-Spawn.high.at c.in-Spawn.high.kind)
    (c.after_expression-first-in-Spawn.ensures ∙
    ap (λ (e : Expr). first_in_expression marks around e.at e.kind c.after_thing-first-in-Spawn.result) c.get-in-Spawn.ensures ∙
    ap (first_in_expression marks around c.in-Spawn.low.at c.in-Spawn.low.kind) c.after_thing-first-in-Spawn.ensures)) ∙
    sym
    (ap (λ kind. first_in_statement marks around c.args.s.now.at kind c.args.first) c.in-Spawn.is ∙
    first_in_spawn marks around c.args.s.now.at c.in-Spawn.low c.in-Spawn.high c.in-Spawn.block c.args.first)
