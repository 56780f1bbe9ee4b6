use Rattle.std.proofs.Common.{◌∙◌, sym}
use Rattle.machine_turns.proofs.sections.begin_section.Goals as goal

pub begin_others-requires-clause-idle : goal.begin_others-requires-clause-idle
begin_others-requires-clause-idle c = λ master others are. c.requires.idle master others (sym c.deref_mut.ensures.value ∙ are)
