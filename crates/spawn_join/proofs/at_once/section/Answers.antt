use Rattle.spawn_join.proofs.Ends.{section_gives}
use Rattle.spawn_join.proofs.at_once.section.Goals as goal

pub returns-in-Ok : goal.returns-in-Ok
returns-in-Ok g c =
    section_gives c.args.image.now c.args.start.now c.args.budget c.args.words.items c.args.workers.now c.run_at_once.new.workers c.in-Ok.words.items c.end_of-end.result
    c.run_at_once.auto.workers c.in-Ok.ensures.run c.in-Ok.ensures.finished c.end_of-end.ensures
