use Rattle.std.proofs.Common.{arith, ap, ◌∙◌, sum, map}
use Rattle.name_scopes.specs.Size as spec
use Rattle.name_scopes.proofs.Rows.{nodes_call}
use Rattle.name_scopes.proofs.size.+nodes.Goals as goal

pub nodes-returns-in-Call : goal.nodes-returns-in-Call
nodes-returns-in-Call t c =
    let is = ap spec.nodes c.in-Call.is ∙ nodes_call c.in-Call.field-0 c.in-Call.values in
    let same = ap (λ values. sum (map (λ e. spec.nodes e.kind) values)) c.as_slice.ensures in
    omega (arith, is, same, c.saturating_add-in-Call.ensures, c.nodes_of_all.ensures)
