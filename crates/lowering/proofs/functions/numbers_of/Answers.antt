use Rattle.lowering.proofs.Laid.{numbers_turn, numbers_all}
use Rattle.lowering.proofs.functions.numbers_of.Goals as goal

pub loop-slot-preserved : goal.loop-slot-preserved
loop-slot-preserved c =
    numbers_turn c.args.body.now c.loop-slot.slot c.outer_number.result c.loop-slot.numbers c.push.new.self c.loop-slot.invariant c.outer_number.ensures c.in_ok-push.ensures.ok

pub returns : goal.returns
returns c = numbers_all c.args.body.now c.loop-slot.slot c.loop-slot.numbers c.loop-slot.invariant
