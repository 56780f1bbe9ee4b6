use Rattle.std.proofs.Common.{string_bytes}
use Rattle.std.specs.Option.{option_map}
use Rattle.xmt_jobs.proofs.Loaded.{has_simulated}
use Rattle.xmt_jobs.proofs.job.simulate_file.Goals as goal

pub returns-in-Ok-clause-ended : goal.returns-in-Ok-clause-ended
returns-in-Ok-clause-ended g c =
    has_simulated c.args.file.now c.args.options.now (option_map string_bytes c.args.map.now) (option_map string_bytes c.args.dump.now)
    (g.H.Host.told c.args.host.now)
    (g.H.Host.told c.load_file.new.host)
    (g.H.Host.told c.run_loaded.new.host) c.in-Ok.ensures.only.files c.in-Ok.ensures.only.out c.in-Ok.image
    c.in-Ok.ensures.ok c.run_loaded.result c.run_loaded.ensures.ended
