use Rattle.std.proofs.Common.{◌≡◌, refl, arith}
use Rattle.tcu_engine.specs.declared.ask.Ask.TheVariants.{Pause}
use Rattle.machine_turns.proofs.Moved.{turning_may, turning_asks}
use Rattle.machine_turns.proofs.On.{ran_on}
use Rattle.machine_turns.proofs.machine.run_more_alone.Goals as goal

pub run_more_in-requires-clause-may : goal.run_more_in-requires-clause-may
run_more_in-requires-clause-may c = turning_may c.args.image.now c.args.budget c.args.machine.now c.args.k Pause c.requires.kept c.requires.asks

pub run_more_in-requires-clause-pauses : goal.run_more_in-requires-clause-pauses
run_more_in-requires-clause-pauses c = turning_asks c.args.machine.now c.args.k Pause (λ a. a ≡ Pause) c.requires.asks refl

pub returns-clause-on : goal.returns-clause-on
returns-clause-on c = ran_on c.args.image.now c.args.budget c.args.k (omega arith) c.args.machine.now _ c.requires.kept c.requires.sole c.requires.asks c.run_more_in.ensures.ran refl refl refl refl
