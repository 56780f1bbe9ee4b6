use Rattle.std.proofs.Common.{◌≡◌, ap, ◌∙◌, sym, subst}
use Rattle.xmt_isa.specs.declared.unit.Unit.{Unit}
use Rattle.xmt_isa.specs.Machine.{ready}
use Rattle.xmt_isa.specs.Fits.{UnitFits}
use Rattle.unit_steps.specs.Steps.{begun}
use Rattle.machine_turns.proofs.Idle.{ready_fits, ready_begun}
use Rattle.machine_turns.proofs.sections.begin_one.Goals as goal

pub find_next-requires-clause-fits : goal.find_next-requires-clause-fits
find_next-requires-clause-fits c =
    let idle = c.requires.idle in
    let same : c.make_due.new.seat.unit ≡ ready c.args.seat.now.unit = c.make_due.ensures c.args.image.now c.args.budget idle in
    subst (λ (u : Unit). UnitFits c.args.image.now c.args.start.now u) (sym same) (ready_fits c.args.image.now c.args.start.now c.args.seat.now.unit (idle.fits c.args.start.now) idle.free)

pub returns : goal.returns
returns c =
    let idle = c.requires.idle in
    let same : c.make_due.new.seat.unit ≡ ready c.args.seat.now.unit = c.make_due.ensures c.args.image.now c.args.budget idle in
    record {
      same = c.find_next.ensures.same ∙ ap (λ (u : Unit). begun c.args.image.now u) same ∙ ready_begun c.args.image.now c.args.seat.now.unit idle.number;
      tells = c.find_next.ensures.tells;
    }
