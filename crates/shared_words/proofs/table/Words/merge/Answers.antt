use Rattle.std.proofs.Common.{◌≡◌, ◌∙◌, ℕ, sym, ap, subst, length}
use Rattle.atomic_table.specs.Table.{step, Me}
use mathlib.Core.Option.{none}
use Rattle.atomic_table.specs.Seated.{TableId}
use Rattle.shared_words.specs.declared.log.Known.{Known}
use Rattle.shared_words.specs.declared.rule.View.{View}
use Rattle.shared_words.specs.Passes.{Merges}
use Rattle.shared_words.specs.Rule.{IsWhole}
use Rattle.shared_words.specs.Steps.{taker, Looked}
use Rattle.shared_words.proofs.Keeps.{joins, looks, plain_view}
use Rattle.shared_words.proofs.table.Words.merge.Goals as goal

pub join_seat-requires : goal.join_seat-requires
join_seat-requires c =
    let into = c.into.inside.seat in
    let from = c.from.inside.seat in
    let own = ap (λ t. t.of) c.into.view_is ∙ (c.requires.of.0 ∙ sym c.self.view_is) in
    let own' = ap (λ t. t.of) c.from.view_is ∙ (c.requires.of.1 ∙ sym c.self.view_is) in (
      own,
      own',
      c.from.invariant.whole.no_slot,
      c.self.invariant.some_word,
      joins c.self.inside.table.shared.key.words.items into.id into.me.0 from.id from.me.0 c.into.invariant.whole.none_taken c.from.invariant.whole.none_taken c.from.invariant.whole.live,
    )

pub load-requires : goal.load-requires
load-requires c =
    let table = c.self.inside.table.shared in
    let own = ap (λ t. t.of) c.into.view_is ∙ (c.requires.of.0 ∙ sym c.self.view_is) in
    let me = c.join_seat.ensures.2 in (
      c.join_seat.ensures.0 ∙ own,
      c.self.invariant.some_word,
      looks table.key.words.items table.table_id.slots c.join_seat.new.seat.id c.join_seat.new.seat.me (ap (λ m. m.0.live) me ∙ c.into.invariant.whole.live) (ap (λ m. m.1) me ∙ c.into.invariant.whole.no_slot)
          (step table.table_id.slots 0 0 0 none),
    )

-- what the look told, of the two passes as they were
told : (m into from n : Me (Unit {0}) View) → IsWhole into → IsWhole from → m.0 ≡ taker into.0 from.0 → (r : ℕ) → Looked (step 0 0 0 0 none) m r n → IsWhole n × Merges into.0.known from.0.known n.0.known
told m into from n whole whole' is r looked = looked into.0.known from.0.known (is ∙ (λ i. taker (plain_view into whole i) (plain_view from whole' i))) whole.writes

pub invariant_of-into : goal.invariant_of-into
invariant_of-into c =
    let t = (told c.join_seat.new.seat.me c.into.inside.seat.me c.from.inside.seat.me c.load.new.seat.me c.into.invariant.whole c.from.invariant.whole (ap (λ m. m.0) c.join_seat.ensures.2) c.load.result c.load.ensures.2) in
    record { whole = t.0; opened = ap length t.1.begins.opened ∙ (c.into.invariant.opened ∙ ap (λ (z : TableId). z.words) (sym (c.load.ensures.0 ∙ c.join_seat.ensures.0))) }

pub returns-clause-merged : goal.returns-clause-merged
returns-clause-merged c =
    let merges = (told c.join_seat.new.seat.me c.into.inside.seat.me c.from.inside.seat.me c.load.new.seat.me c.into.invariant.whole c.from.invariant.whole (ap (λ m. m.0) c.join_seat.ensures.2) c.load.result c.load.ensures.2).1 in
    subst (λ (z : Known). Merges z c.args.from.known c.load.new.seat.me.0.known) (ap (λ t. t.known) c.into.view_is)
    (subst (λ (z : Known). Merges c.into.inside.seat.me.0.known z c.load.new.seat.me.0.known) (ap (λ t. t.known) c.from.view_is) merges)

pub returns-clause-of : goal.returns-clause-of
returns-clause-of c =
    let is = c.load.ensures.0 ∙ (c.join_seat.ensures.0 ∙ (ap (λ t. t.of) c.into.view_is ∙ c.requires.of.0)) in
    let held = invariant_of-into c in record { of = is; opened = held.opened ∙ ap (λ (z : TableId). z.words) is }
