use Rattle.machine_turns.proofs.sections.begin_others.Goals as goal

pub begin_all-requires-clause-idle : goal.begin_all-requires-clause-idle
begin_all-requires-clause-idle c = c.requires.idle c.in-Some._master.now c.in-Some.others.now c.in-Some.ensures.cases.0
