use Rattle.machine_sections.proofs.Merges.{all_sections_merge}
use Rattle.machine_sections.proofs.sections_merge.Goals as goal

pub returns : goal.returns
returns c = all_sections_merge
