use Rattle.std.proofs.Common.{◌≡◌, ◌∙◌, ap, sym, true, false}
use Rattle.std.proofs.Math.Bool.{or-false}
use Rattle.std.specs.Prelude.{◌||◌}
use Rattle.source_meaning.specs.declared.tree.Stmt.{Stmt}
use Rattle.source_meaning.specs.Inside.{some_below, some_statement, some_in_list}
use Rattle.spawn_check.specs.Questions.{statement_test}
use Rattle.spawn_check.proofs.Rows.{some_in_block, some_in_spawn, some_in_for}
use Rattle.spawn_check.proofs.questions.+statements.Goals as goal

pub some_below_it-returns-in-Block : goal.some_below_it-returns-in-Block
some_below_it-returns-in-Block t c =
    let test = statement_test c.args.question c.args.marks.now in
    c.some_in_body.ensures ∙
    ap (some_in_list test) c.as_slice.ensures ∙
    sym (ap (some_below test) c.in-Block.is ∙ some_in_block test c.in-Block.body)

pub some_below_it-returns-then-some_in_body : goal.some_below_it-returns-then-some_in_body
some_below_it-returns-then-some_in_body t c =
    let test = statement_test c.args.question c.args.marks.now in
    let behind = some_statement test c.in-For.body.kind || false in
    let first : some_in_list test c.in-For.first ≡ true = sym (c.some_in_body-in-For.ensures ∙ ap (some_in_list test) c.as_slice-in-For.ensures) ∙ c.if-some_in_body.true in
    c.if-some_in_body.true ∙
    sym
    (ap (some_below test) c.in-For.is ∙
    some_in_for test c.in-For.first c.in-For.field-1 c.in-For.field-2 c.in-For.body ∙
    ap (λ found. found || behind) first)

pub some_below_it-returns-else-some_in_body : goal.some_below_it-returns-else-some_in_body
some_below_it-returns-else-some_in_body t c =
    let test = statement_test c.args.question c.args.marks.now in
    let behind = some_statement test c.in-For.body.kind || false in
    let first : some_in_list test c.in-For.first ≡ false = sym (c.some_in_body-in-For.ensures ∙ ap (some_in_list test) c.as_slice-in-For.ensures) ∙ c.if-some_in_body.false in
    c.some_in_statement-else-some_in_body.ensures ∙
    ap (λ (s : Stmt). some_statement test s.kind) c.get-else-some_in_body.ensures ∙
    sym
    (ap (some_below test) c.in-For.is ∙
    some_in_for test c.in-For.first c.in-For.field-1 c.in-For.field-2 c.in-For.body ∙
    ap (λ found. found || behind) first ∙
    or-false (some_statement test c.in-For.body.kind))

pub some_below_it-returns-in-Spawn : goal.some_below_it-returns-in-Spawn
some_below_it-returns-in-Spawn t c =
    let test = statement_test c.args.question c.args.marks.now in
    c.some_in_body-in-Spawn.ensures ∙
    ap (some_in_list test) c.as_slice-in-Spawn.ensures ∙
    sym (ap (some_below test) c.in-Spawn.is ∙ some_in_spawn test c.in-Spawn.field-0 c.in-Spawn.field-1 c.in-Spawn.block)
