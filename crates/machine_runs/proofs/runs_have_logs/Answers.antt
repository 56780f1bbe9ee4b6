use Rattle.machine_runs.proofs.Runs.{all_have_logs}
use Rattle.machine_runs.proofs.runs_have_logs.Goals as goal

pub returns : goal.returns
returns c = all_have_logs
