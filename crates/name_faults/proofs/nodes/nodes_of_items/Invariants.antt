use Rattle.std.proofs.Common.{◌≡◌, take, map, sum}
use Rattle.xmt_base.specs.Counters.{capped}
use Rattle.raw_tree.specs.declared.tree.RawItem.{RawItem}
use Rattle.name_faults.specs.Nodes as spec
use Rattle.name_faults.proofs.nodes.nodes_of_items.Given as goal

abbrev pub invariant-loop-one : goal.invariant-loop-one
invariant-loop-one l = l.total ≡ capped (sum (map (λ (x : RawItem). spec.nodes_of_item x.kind) (take l.one-index l.items)))
