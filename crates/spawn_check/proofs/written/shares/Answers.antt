use Rattle.std.proofs.Common.{◌≡◌, ◌∙◌, ap, sym, true, false}
use Rattle.std.specs.Prelude.{◌&&◌, not}
use Rattle.source_meaning.specs.Inside.{some_in_list}
use Rattle.source_meaning.specs.Variables.{is_declaration, is_write, is_sharing}
use Rattle.spawn_check.proofs.Walks.{is_sharing_spawn}
use Rattle.spawn_check.proofs.written.shares.Goals as goal

pub returns-then-some_in_body : goal.returns-then-some_in_body
returns-then-some_in_body c =
    let slot = c.args.slot in
    let block = c.in-Spawn.block in
    let written : some_in_list (is_write slot) block ≡ true =
    sym (ap (some_in_list (is_write slot)) c.as_slice.ensures) ∙ sym c.some_in_body.ensures ∙ c.if-some_in_body.true
    in
    ap not (c.some_in_body-then-some_in_body.ensures ∙ ap (some_in_list (is_declaration slot)) c.as_slice-then-some_in_body.ensures) ∙
    sym
    (ap (is_sharing slot) c.in-Spawn.is ∙ is_sharing_spawn slot c.in-Spawn.field-0 c.in-Spawn.field-1 block ∙
    ap (λ w. w && not (some_in_list (is_declaration slot) block)) written)

pub returns-else-some_in_body : goal.returns-else-some_in_body
returns-else-some_in_body c =
    let slot = c.args.slot in
    let block = c.in-Spawn.block in
    let written : some_in_list (is_write slot) block ≡ false =
    sym (ap (some_in_list (is_write slot)) c.as_slice.ensures) ∙ sym c.some_in_body.ensures ∙ c.if-some_in_body.false
    in
    c.if-some_in_body.false ∙
    sym
    (ap (is_sharing slot) c.in-Spawn.is ∙ is_sharing_spawn slot c.in-Spawn.field-0 c.in-Spawn.field-1 block ∙
    ap (λ w. w && not (some_in_list (is_declaration slot) block)) written)
