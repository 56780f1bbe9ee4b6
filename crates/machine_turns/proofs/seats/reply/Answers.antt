use Rattle.std.proofs.Common.{◌≡◌, ◌∙◌, ap}
use Rattle.unit_steps.specs.Steps.{begun, answered}
use Rattle.xmt_isa.specs.declared.unit.Unit.{Unit}
use Rattle.machine_turns.proofs.Asked.{Behind, behind_of, begun_same, not_new}
use Rattle.machine_turns.proofs.seats.reply.Goals as goal

pub returns : goal.returns
returns c =
    let u : Unit = c.args.seat.now.unit in
    let after : Behind u (answered c.args.image.now c.args.start.now u c.args.value) = behind_of c.args.image.now c.args.start.now c.args.budget u c.args.seat.now.ask c.args.value c.requires.asks c.requires.may.tells.means in
    let same : c.answer.new.unit ≡ answered c.args.image.now c.args.start.now u c.args.value = c.answer.ensures.unit in
    record {
      same = c.find_next.ensures.same ∙ ap (λ (w : Unit). begun c.args.image.now w) same ∙ begun_same c.args.image.now (answered c.args.image.now c.args.start.now u c.args.value) (not_new (answered c.args.image.now c.args.start.now u c.args.value) after.stepped.due);
      tells = c.find_next.ensures.tells;
    }
