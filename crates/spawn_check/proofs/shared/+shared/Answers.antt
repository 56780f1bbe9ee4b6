use Rattle.std.proofs.Common.{◌≡◌, ◌∙◌, ap, sym, true, false}
use Rattle.std.proofs.Math.Bool.{or-false}
use Rattle.std.specs.Prelude.{◌||◌}
use Rattle.source_meaning.specs.declared.tree.Stmt.{Stmt}
use Rattle.source_meaning.specs.Inside.{some_below, some_statement, some_in_list}
use Rattle.source_meaning.specs.Variables.{is_sharing}
use Rattle.spawn_check.proofs.Rows.{some_in_spawn, some_in_for}
use Rattle.spawn_check.proofs.shared.+shared.Goals as goal

pub shared_below_it-returns-in-Spawn : goal.shared_below_it-returns-in-Spawn
shared_below_it-returns-in-Spawn t c =
    let test = is_sharing c.args.slot in
    c.is_shared-in-Spawn.ensures ∙
    ap (some_in_list test) c.as_slice-in-Spawn.ensures ∙
    sym (ap (some_below test) c.in-Spawn.is ∙ some_in_spawn test c.in-Spawn.field-0 c.in-Spawn.field-1 c.in-Spawn.block)

pub shared_below_it-returns-then-is_shared : goal.shared_below_it-returns-then-is_shared
shared_below_it-returns-then-is_shared t c =
    let test = is_sharing c.args.slot in
    let behind = some_statement test c.in-For.body.kind || false in
    let first : some_in_list test c.in-For.first ≡ true = sym (c.is_shared-in-For.ensures ∙ ap (some_in_list test) c.as_slice-in-For.ensures) ∙ c.if-is_shared.true in
    c.if-is_shared.true ∙
    sym
    (ap (some_below test) c.in-For.is ∙
    some_in_for test c.in-For.first c.in-For.field-1 c.in-For.field-2 c.in-For.body ∙
    ap (λ found. found || behind) first)

pub shared_below_it-returns-else-is_shared : goal.shared_below_it-returns-else-is_shared
shared_below_it-returns-else-is_shared t c =
    let test = is_sharing c.args.slot in
    let behind = some_statement test c.in-For.body.kind || false in
    let first : some_in_list test c.in-For.first ≡ false = sym (c.is_shared-in-For.ensures ∙ ap (some_in_list test) c.as_slice-in-For.ensures) ∙ c.if-is_shared.false in
    c.shared_in_statement-else-is_shared.ensures ∙
    ap (λ (s : Stmt). some_statement test s.kind) c.get-else-is_shared.ensures ∙
    sym
    (ap (some_below test) c.in-For.is ∙
    some_in_for test c.in-For.first c.in-For.field-1 c.in-For.field-2 c.in-For.body ∙
    ap (λ found. found || behind) first ∙
    or-false (some_statement test c.in-For.body.kind))
