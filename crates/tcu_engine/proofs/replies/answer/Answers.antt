use Rattle.std.proofs.Common.{◌≡◌, sym, subst, rules}
use Rattle.xmt_isa.specs.declared.unit.Unit.{Unit}
use Rattle.xmt_isa.specs.Fits.{UnitFits}
use Rattle.unit_steps.specs.Steps.{answered}
use Rattle.unit_steps.proofs.Keeps.{keeps_fit}
use Rattle.tcu_engine.proofs.replies.answer.Goals as goal

pub returns-in-Ask-clause-fits : goal.returns-in-Ask-clause-fits
returns-in-Ask-clause-fits c =
    let same : c.take_reply.new.unit ≡ answered c.args.image.now c.args.start.now c.args.unit.now c.args.reply = search rules in
    subst (λ (u : Unit). UnitFits c.args.image.now c.args.start.now u) (sym same) ((keeps_fit c.args.image.now c.image-image.ensures.valid).reply c.args.start.now c.args.unit.now c.args.reply c.requires.start c.requires.fits c.requires.waits)
