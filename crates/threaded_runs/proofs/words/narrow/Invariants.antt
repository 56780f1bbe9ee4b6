use Rattle.threaded_runs.proofs.Widths.{NarrowsTo}
use Rattle.threaded_runs.proofs.words.narrow.Given as goal

abbrev pub invariant-loop-place : goal.invariant-loop-place
invariant-loop-place l = NarrowsTo l.fn.words.items l.wide l.words.items l.place
