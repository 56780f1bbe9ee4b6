use Rattle.std.proofs.Common.{◌≡◌, refl}
use Rattle.tcu_engine.specs.declared.ask.Ask.TheVariants.{Pause}
use Rattle.machine_turns.proofs.Moved.{turning_may, turning_asks, turned_alone}
use Rattle.machine_turns.proofs.machine.run_alone.Goals as goal

pub run_in-requires-clause-may : goal.run_in-requires-clause-may
run_in-requires-clause-may c = turning_may c.args.image.now c.args.budget c.args.machine.now c.args.k Pause c.requires.kept c.requires.asks

pub run_in-requires-clause-pauses : goal.run_in-requires-clause-pauses
run_in-requires-clause-pauses c = turning_asks c.args.machine.now c.args.k Pause (λ a. a ≡ Pause) c.requires.asks refl

pub returns-clause-goes : goal.returns-clause-goes
returns-clause-goes c = turned_alone c.args.image.now c.args.budget c.args.k c.args.machine.now _ c.requires.kept c.requires.asks c.run_in.ensures refl refl refl refl
