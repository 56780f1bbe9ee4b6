use Rattle.std.proofs.Common.{◌≡◌, refl, true, arith}
use Rattle.tcu_engine.specs.Asks.{is_request}
use Rattle.tcu_engine.specs.declared.ask.Ask.TheVariants.{Load}
use Rattle.machine_turns.proofs.Moved.{turning_may, turning_asks, turned_load}
use Rattle.machine_turns.proofs.machine.load.Goals as goal

pub reply_in-requires-clause-may : goal.reply_in-requires-clause-may
reply_in-requires-clause-may c = turning_may c.args.image.now c.args.budget c.args.machine.now c.args.k (Load c.args.at) c.requires.kept c.requires.asks

pub reply_in-requires-clause-asks : goal.reply_in-requires-clause-asks
reply_in-requires-clause-asks c = turning_asks c.args.machine.now c.args.k (Load c.args.at) (λ a. is_request a ≡ true) c.requires.asks refl

pub returns-clause-goes : goal.returns-clause-goes
returns-clause-goes c = turned_load c.args.image.now c.args.budget c.args.k c.args.machine.now _ c.args.at c.look_word-word.result c.requires.kept c.requires.asks c.reply_in.ensures.replaced c.look_word-word.ensures (omega arith) refl refl refl refl
