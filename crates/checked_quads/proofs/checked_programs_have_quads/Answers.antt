use Rattle.checked_quads.proofs.Programs.{checked_programs_are_known, checked_programs_have_words}
use Rattle.checked_quads.proofs.checked_programs_have_quads.Goals as goal

pub returns : goal.returns
returns c = record { known = checked_programs_are_known; words = checked_programs_have_words }
