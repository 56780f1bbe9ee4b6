use Rattle.xmt_compile.proofs.Implements.{traces_implement}
use Rattle.xmt_compile.proofs.law.traces_implement.Goals as goal

pub returns : goal.returns
returns c = traces_implement
