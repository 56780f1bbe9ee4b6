use Rattle.xmt_cli.proofs.Tasks.{reads, spelled}
use Rattle.xmt_cli.proofs.laws.jobs_are_spelled.Goals as goal

pub returns : goal.returns
returns c = λ words job. (reads words job, spelled words job)
