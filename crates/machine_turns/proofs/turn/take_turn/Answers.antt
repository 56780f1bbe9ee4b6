use Rattle.machine_turns.proofs.Turned.{goes_silently, turns_silent}
use Rattle.machine_turns.proofs.turn.take_turn.Goals as goal

pub take_silent-requires-clause-silent : goal.take_silent-requires-clause-silent
take_silent-requires-clause-silent g c = goes_silently c.args.image.now c.args.budget c.args.machine.now c.args.k c.ask_in-asked.result c.requires.kept c.ask_in-asked.ensures c.requires.goes c.in_default.not-Print

pub returns-in-Ok-clause-kept : goal.returns-in-Ok-clause-kept
returns-in-Ok-clause-kept g c = c.in-Ok.ensures.goes.kept

pub returns-in-Ok-clause-ok : goal.returns-in-Ok-clause-ok
returns-in-Ok-clause-ok g c = turns_silent c.args.image.now c.args.budget c.args.k c.args.machine.now c.take_silent.new.machine _ c.in-Ok.ensures.goes
