use Rattle.std.proofs.Common.{◌∙◌, ◌≤◌, ℕ, sym, ap}
use Rattle.shared_words.proofs.Keeps.{splits}
use Rattle.shared_words.proofs.table.Words.split_by.Goals as goal

pub split_seat-seat-requires : goal.split_seat-seat-requires
split_seat-seat-requires g c =
    let own = ap (λ t. t.of) c.pass.view_is ∙ (c.requires.of ∙ sym c.self.view_is) in
    let table = c.self.inside.table.shared in
    let seat = c.pass.inside.seat in
    let amount : ℕ = g.A.Amount.amount in
    let enough : amount ≤ seat.me.0.known.room = rw (ap (λ t. t.known.room) c.pass.view_is, ← c.requires.amount) c.requires.room in
    (own, c.self.invariant.some_word, splits table.key.words.items seat.id amount seat.me.0 c.pass.invariant.whole.live enough)
