use Rattle.std.proofs.Common.{ℕ, List, Err, subst}
use Rattle.xmt_compile.specs.Compiles.{Compiles}
use Rattle.xmt_jobs.proofs.Broken.{compiles_not}
use Rattle.xmt_jobs.proofs.source.compile_file.Goals as goal

pub returns-in-Err-clause-not : goal.returns-in-Err-clause-not
returns-in-Err-clause-not g c =
    compiles_not (g.H.Host.told c.args.host.now).files c.args.file.now c.in-Ok.source.items c.in-Err.refusal c.given_up.result c.in-Ok.ensures.whole
    (subst (λ (bytes : List ℕ). Compiles bytes (Err c.in-Err.refusal)) c.as_slice.ensures.value c.in-Err.ensures) c.given_up.ensures
