use Rattle.resolved_programs.proofs.Programs.{resolved_programs_are_checked, resolved_programs_keep_limits, resolved_programs_have_few_nodes}
use Rattle.resolved_programs.proofs.resolved_programs_are_sound.Goals as goal

pub returns : goal.returns
returns c = record { checked = resolved_programs_are_checked; limits = resolved_programs_keep_limits; nodes = resolved_programs_have_few_nodes }
