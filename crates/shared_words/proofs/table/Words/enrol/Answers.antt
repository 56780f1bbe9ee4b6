use Rattle.std.proofs.Common.{◌∙◌, ◌<◌, sym, ap}
use Rattle.atomic_table.specs.Table.{step}
use mathlib.Core.Option.{none}
use Rattle.shared_words.proofs.Keeps.{enrols}
use Rattle.shared_words.proofs.table.Words.enrol.Goals as goal

pub fetch_add-requires : goal.fetch_add-requires
fetch_add-requires c =
    let own = ap (λ t. t.of) c.pass.view_is ∙ (c.requires.of ∙ sym c.self.view_is) in
    let table = c.self.inside.table.shared in
    let room : 0 < c.pass.inside.seat.me.0.known.room = rw (ap (λ t. t.known.room) c.pass.view_is) c.requires.room in
    let within : 0 < table.table_id.words = c.self.invariant.some_word in
    (own, within, enrols table.key.words.items table.table_id.slots c.pass.inside.seat.id c.pass.inside.seat.me c.pass.invariant.whole room (step table.table_id.slots 0 1 0 none))
