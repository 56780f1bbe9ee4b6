use Rattle.std.proofs.Common.{◌≡◌, take, map, sum}
use Rattle.xmt_base.specs.Counters.{capped}
use Rattle.raw_tree.specs.declared.tree.RawStmt.{RawStmt}
use Rattle.name_faults.specs.Nodes as spec
use Rattle.name_faults.proofs.nodes.+nodes.Given as goal

abbrev pub invariant-nodes_of_body-loop-s : goal.invariant-nodes_of_body-loop-s
invariant-nodes_of_body-loop-s l = l.total ≡ capped (sum (map (λ (x : RawStmt). spec.statement_nodes x.kind) (take l.s-index l.body)))
