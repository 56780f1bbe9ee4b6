use Rattle.std.proofs.Common.{drop}
use Rattle.spawn_check.specs.declared.written.Walk.{Walk}
use Rattle.spawn_check.specs.Sharing.{spawns_in, IsNth}
use Rattle.spawn_check.proofs.written.+walk.Given as goal

-- what a walk over the rest comes to is what one over all comes to
abbrev pub invariant-walk_statements-loop-s : goal.invariant-walk_statements-loop-s
invariant-walk_statements-loop-s l = (w : Walk) → IsNth w (spawns_in (drop l.s-index l.body)) l.number → IsNth w (spawns_in l.body) l.fn.number
