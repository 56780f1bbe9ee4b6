use Rattle.std.proofs.Common.{◌≡◌, ◌∙◌, ap, arith, slice_get, Some}
use Rattle.std.specs.Option.{IfSome}
use Rattle.xmt_base.specs.Text.{piece}
use Rattle.xmt_isa.specs.Machine.{text_of}
use Rattle.tcu_engine.specs.declared.ask.Ask.TheVariants as ask
use Rattle.machine_turns.specs.declared.seats.Seat.{Seat}
use Rattle.machine_turns.specs.Kept.{MayGo}
use Rattle.machine_turns.proofs.Seen.{at_some}
use Rattle.machine_turns.proofs.Texts.{there_at, ok_more, prints_there}
use Rattle.machine_turns.proofs.seats.piece_in.Goals as goal

pub piece-requires-clause-text : goal.piece-requires-clause-text
piece-requires-clause-text c =
    let there : slice_get c.args.seats.now.items c.args.k ≡ Some c.index.result.now = there_at c.args.seats.now.items c.args.k c.index.result.now (omega arith) c.index.ensures in
    (prints_there c.args.image.now c.args.start.now c.args.budget c.args.text c.index.result.now c.requires.valid (at_some _ (MayGo c.args.image.now c.args.start.now c.args.budget) c.index.result.now there c.requires.may)
    (at_some _ (λ (s : Seat). s.ask ≡ ask.Print c.args.text) c.index.result.now there c.requires.prints)).0

pub piece-requires-clause-values : goal.piece-requires-clause-values
piece-requires-clause-values c =
    let there : slice_get c.args.seats.now.items c.args.k ≡ Some c.index.result.now = there_at c.args.seats.now.items c.args.k c.index.result.now (omega arith) c.index.ensures in
    let few = (prints_there c.args.image.now c.args.start.now c.args.budget c.args.text c.index.result.now c.requires.valid (at_some _ (MayGo c.args.image.now c.args.start.now c.args.budget) c.index.result.now there c.requires.may)
    (at_some _ (λ (s : Seat). s.ask ≡ ask.Print c.args.text) c.index.result.now there c.requires.prints)).1 in
    rw c.args-2.ensures few

pub returns : goal.returns
returns c =
    let there : slice_get c.args.seats.now.items c.args.k ≡ Some c.index.result.now = there_at c.args.seats.now.items c.args.k c.index.result.now (omega arith) c.index.ensures in
    ok_more c.piece.result (λ bytes. bytes.items ≡ piece (text_of c.args.image.now c.args.text) c.args-2.result.now)
    (λ bytes. IfSome (slice_get c.args.seats.now.items c.args.k) (λ (s : Seat). bytes.items ≡ piece (text_of c.args.image.now c.args.text) s.unit.list)) (λ bytes is. rw there (is ∙ ap (λ list. piece (text_of c.args.image.now c.args.text) list) c.args-2.ensures)) c.piece.ensures
