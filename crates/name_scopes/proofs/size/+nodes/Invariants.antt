use Rattle.std.proofs.Common.{◌≡◌, take, map, sum}
use Rattle.xmt_base.specs.Counters.{capped}
use Rattle.name_scopes.specs.Size as spec
use Rattle.name_scopes.proofs.size.+nodes.Given as goal

abbrev pub invariant-nodes_of_all-loop-e : goal.invariant-nodes_of_all-loop-e
invariant-nodes_of_all-loop-e l = l.total ≡ capped (sum (map (λ e. spec.nodes e.kind) (take l.e-index l.values)))
