use Rattle.threaded_runs.proofs.Widths.{WidensTo}
use Rattle.threaded_runs.proofs.words.widen.Given as goal

abbrev pub invariant-loop-place : goal.invariant-loop-place
invariant-loop-place l = WidensTo l.words.items l.wide.items l.place
