use Rattle.std.proofs.Common.{◌≡◌, take, map, sum}
use Rattle.xmt_base.specs.Counters.{capped}
use Rattle.name_faults.specs.Nodes as spec
use Rattle.name_faults.proofs.nodes.nodes_of_globals.Given as goal

abbrev pub invariant-loop-one : goal.invariant-loop-one
invariant-loop-one l = l.total ≡ capped (sum (map spec.nodes_of_global (take l.one-index l.all)))
