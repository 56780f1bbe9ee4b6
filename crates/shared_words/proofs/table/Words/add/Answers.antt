use Rattle.std.proofs.Common.{◌∙◌, ◌<◌, ◌+◌, ◌%◌, ◌^◌, refl, sym, ap, subst}
use Rattle.atomic_table.specs.Table.{step}
use mathlib.Core.Option.{none}
use Rattle.shared_words.specs.declared.log.Action.TheVariants.{Add}
use Rattle.shared_words.specs.Passes.{IsEnrolled}
use Rattle.shared_words.proofs.Keeps.{accesses}
use Rattle.shared_words.proofs.table.Words.add.Goals as goal

pub fetch_add-requires : goal.fetch_add-requires
fetch_add-requires c =
    let own = ap (λ t. t.of) c.pass.view_is ∙ (c.requires.of ∙ sym c.self.view_is) in
    let table = c.self.inside.table.shared in
    let enrolled = subst IsEnrolled (sym (ap (λ t. t.known) c.pass.view_is)) c.requires.enrolled in
    let within : c.args.at < table.table_id.words = rw c.self.view_is c.requires.inside.1 in
    (own, within, accesses table.key.words.items table.table_id.slots c.pass.inside.seat.id c.args.at c.args.d c.pass.inside.seat.me Add (λ n. (n + c.args.d) % 2 ^ 64) c.pass.invariant.whole enrolled c.requires.inside.0 (λ ws. refl) (step table.table_id.slots c.args.at c.args.d 0 none) refl refl)
