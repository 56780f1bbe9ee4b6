use Rattle.std.proofs.Common.{◌≡◌, ◌≤◌}
use Rattle.source_meaning.specs.Variables.{shared_below}
use Rattle.lowering.proofs.tables.count_below.Given as goal

-- those below are counted
abbrev pub invariant-loop-below : goal.invariant-loop-below
invariant-loop-below l = (l.count ≡ shared_below l.body l.below) × (l.count ≤ l.below)
