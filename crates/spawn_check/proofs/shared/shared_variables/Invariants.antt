use Rattle.std.proofs.Common.{◌≡◌, ◌≤◌}
use Rattle.source_meaning.specs.Variables.{shared_below}
use Rattle.spawn_check.proofs.shared.shared_variables.Given as goal

-- those below the slot are counted
abbrev pub invariant-loop-slot : goal.invariant-loop-slot
invariant-loop-slot l = (l.count ≡ shared_below l.function.body l.slot) × (l.count ≤ l.slot)
