use Rattle.std.proofs.Common.{refl}
use Rattle.threaded_runs.proofs.Ends.{prints_none, prints_ended}
use Rattle.threaded_runs.proofs.run.run_threaded.Goals as goal

-- there was no memory for the machine
pub returns-in-Err-clause-end : goal.returns-in-Err-clause-end
returns-in-Err-clause-end g c = prints_none c.args.image.now _ (g.H.Host.told c.args.host.now).out refl

-- there was no memory for the data words
pub returns-in-Ok-Done-clause-end : goal.returns-in-Ok-Done-clause-end
returns-in-Ok-Done-clause-end g c =
    prints_ended c.args.image.now c.args.options.now.budget _ _ _ _ _ (rw c.in-Ok.ensures.machine at c.in-Ok-Done.ensures.ended)
