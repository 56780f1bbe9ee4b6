use Rattle.machine_histories.proofs.Histories.{all_histories_merge}
use Rattle.machine_histories.proofs.histories_merge.Goals as goal

pub returns : goal.returns
returns c = all_histories_merge
