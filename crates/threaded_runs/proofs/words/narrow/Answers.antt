use Rattle.std.proofs.Common.{arith, refl}
use Rattle.threaded_runs.proofs.Widths.{narrows_first, narrows_put, narrows_end}
use Rattle.threaded_runs.proofs.words.narrow.Goals as goal

pub loop-place-init : goal.loop-place-init
loop-place-init c = narrows_first _ _

pub loop-place-preserved : goal.loop-place-preserved
loop-place-preserved c = narrows_put _ _ c.loop-place.words.items _ c.loop-place.place c.lower.result c.loop-place.invariant (omega arith) (omega arith) c.lower.ensures refl

pub returns-clause-narrows : goal.returns-clause-narrows
returns-clause-narrows c = narrows_end _ _ _ c.loop-place.place c.loop-place.invariant (omega arith) (omega arith)
