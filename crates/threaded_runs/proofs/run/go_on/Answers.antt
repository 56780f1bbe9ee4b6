use Rattle.std.proofs.Common.{arith}
use Rattle.threaded_runs.proofs.Ends.{section_goes_on, turn_goes_on}
use Rattle.threaded_runs.proofs.run.go_on.Goals as goal

pub returns-in-Ok-clause-on : goal.returns-in-Ok-clause-on
returns-in-Ok-clause-on g c =
    section_goes_on c.args.image.now c.args.budget c.args.machine.now c.run_section.new.machine (g.H.Host.told c.args.host.now).out c.in-Ok.end c.in-Ok.ensures.section

pub returns-in-Ok-take_turn-clause-on : goal.returns-in-Ok-take_turn-clause-on
returns-in-Ok-take_turn-clause-on g c =
    turn_goes_on c.args.image.now c.args.budget c.args.machine.now c.take_turn.new.machine c.master_ask.result (g.H.Host.told c.args.host.now).out (g.H.Host.told c.take_turn.new.host).out
    (omega arith) c.requires.kept c.in-Ok-take_turn.ensures.kept c.requires.serial c.requires.goes c.master_ask.ensures c.in_default.not-Spawn c.in-Ok-take_turn.ensures.ok
