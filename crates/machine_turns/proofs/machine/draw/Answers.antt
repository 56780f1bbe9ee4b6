use Rattle.std.proofs.Common.{◌≡◌, ◌∙◌, sym, refl, true}
use Rattle.xmt_isa.specs.Step.{more}
use Rattle.tcu_engine.specs.Asks.{is_request}
use Rattle.tcu_engine.specs.declared.ask.Ask.TheVariants.{Draw}
use Rattle.machine_turns.proofs.Moved.{turning_may, turning_asks}
use Rattle.machine_turns.proofs.Blocks.{draw_on, draw_ends, master_may, master_asks}
use Rattle.machine_turns.proofs.machine.draw.Goals as goal

pub reply_in-requires-clause-may : goal.reply_in-requires-clause-may
reply_in-requires-clause-may c = turning_may c.args.image.now c.args.budget c.args.machine.now c.args.k Draw c.requires.kept c.requires.asks

pub reply_in-requires-clause-asks : goal.reply_in-requires-clause-asks
reply_in-requires-clause-asks c = turning_asks c.args.machine.now c.args.k Draw (λ a. is_request a ≡ true) c.requires.asks refl

pub returns-then-not-have_stopped-clause-goes : goal.returns-then-not-have_stopped-clause-goes
returns-then-not-have_stopped-clause-goes c =
    let drawn : c.saturating_add-machine.result ≡ more c.args.machine.now.drawn = c.saturating_add-machine.ensures in
    draw_on c.args.image.now c.args.budget c.args.machine.now c.args.k c.reply_in.new.seats.items c.requires.kept c.requires.asks c.reply_in.ensures.replaced _ refl refl drawn refl refl
    (λ master others are. sym (c.have_stopped.ensures master others are) ∙ c.if-not-have_stopped.true)

pub reply_in-requires-2-clause-may : goal.reply_in-requires-2-clause-may
reply_in-requires-2-clause-may c = master_may c.args.image.now c.args.budget c.args.machine.now c.args.k c.reply_in.new.seats.items c.requires.kept c.requires.asks c.reply_in.ensures.replaced

pub reply_in-requires-2-clause-asks : goal.reply_in-requires-2-clause-asks
reply_in-requires-2-clause-asks c = master_asks c.args.image.now c.args.budget c.args.machine.now c.args.k c.reply_in.new.seats.items c.requires.kept c.requires.asks c.reply_in.ensures.replaced

pub returns-clause-goes : goal.returns-clause-goes
returns-clause-goes c =
    let drawn : c.saturating_add-machine.result ≡ more c.args.machine.now.drawn = c.saturating_add-machine.ensures in
    draw_ends c.args.image.now c.args.budget c.args.machine.now c.args.k c.reply_in.new.seats.items c.requires.kept c.requires.asks c.reply_in.ensures.replaced _ c.reply_in-2.ensures.replaced refl drawn refl refl
    (λ master others are. sym (c.have_stopped.ensures master others are) ∙ c.if-not-have_stopped.false)

pub returns-clause-len : goal.returns-clause-len
returns-clause-len c = c.reply_in-2.ensures.len ∙ c.reply_in.ensures.len
