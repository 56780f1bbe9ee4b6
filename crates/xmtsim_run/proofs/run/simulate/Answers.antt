use Rattle.xmtsim_run.proofs.Either.{picked_under, threaded_under}
use Rattle.xmtsim_run.proofs.run.simulate.Goals as goal

pub returns-in-Some-clause-end : goal.returns-in-Some-clause-end
returns-in-Some-clause-end g c =
    picked_under c.args.image.now c.args.memory.words c.args.options.now c.in-Some.seed c.in-Some.is (g.H.Host.told c.args.host.now).out (g.H.Host.told c.run_picked.new.host).out c.run_picked.result c.run_picked.ensures.end

pub returns-in-None-clause-end : goal.returns-in-None-clause-end
returns-in-None-clause-end g c =
    threaded_under c.args.image.now c.args.memory.words c.args.options.now c.in-None.is (g.H.Host.told c.args.host.now).out (g.H.Host.told c.run_threaded.new.host).out c.run_threaded.result c.run_threaded.ensures.end
