use Rattle.std.proofs.Common.{string_bytes, sym, subst}
use Rattle.std.specs.Option.{option_map}
use Rattle.xmt_isa.specs.declared.image.Image.{Image}
use Rattle.xmt_jobs.specs.Sources.{Implemented}
use Rattle.xmt_jobs.proofs.Programs.{has_ended_running}
use Rattle.xmt_jobs.proofs.job.run_file.Goals as goal

pub returns-in-Ok-admit-clause-ended : goal.returns-in-Ok-admit-clause-ended
returns-in-Ok-admit-clause-ended g c =
    has_ended_running c.args.file.now c.args.options.now c.requires.range (option_map string_bytes c.args.map.now) (option_map string_bytes c.args.dump.now)
    (g.H.Host.told c.args.host.now)
    (g.H.Host.told c.compile_file.new.host)
    (g.H.Host.told c.run_loaded.new.host) c.in-Ok.ensures.only.files c.in-Ok.ensures.only.out c.in-Ok-admit.image
    (subst (λ (image : Image). Implemented (g.H.Host.told c.args.host.now).files c.args.file.now image) (sym c.in-Ok-admit.ensures.same) c.in-Ok.ensures.ok) c.run_loaded.result c.run_loaded.ensures.ended
