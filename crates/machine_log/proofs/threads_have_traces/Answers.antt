use Rattle.machine_log.proofs.Tracing.{all_have_traces}
use Rattle.machine_log.proofs.threads_have_traces.Goals as goal

pub returns : goal.returns
returns c = all_have_traces
