use Rattle.std.proofs.Common.{arith, ap, ◌∙◌, sum, map}
use Rattle.raw_tree.specs.declared.tree.RawExpr.{RawExpr}
use Rattle.name_scopes.specs.Size.{nodes}
use Rattle.name_faults.specs.Nodes as spec
use Rattle.name_faults.proofs.Bodies.{nodes_block, nodes_spawn}
use Rattle.name_faults.proofs.nodes.+nodes.Goals as goal

pub statement_nodes-returns-in-Block : goal.statement_nodes-returns-in-Block
statement_nodes-returns-in-Block t c =
    let is = ap spec.statement_nodes c.in-Block.is ∙ nodes_block c.in-Block.body in
    let same = ap spec.nodes_of_body c.as_slice.ensures in
    omega (arith, is, same, c.saturating_add.ensures, c.nodes_of_body.ensures)

pub statement_nodes-returns-in-Spawn : goal.statement_nodes-returns-in-Spawn
statement_nodes-returns-in-Spawn t c =
    let is = ap spec.statement_nodes c.in-Spawn.is ∙ nodes_spawn c.in-Spawn.low c.in-Spawn.high c.in-Spawn.body in
    let low = ap (λ (e : RawExpr). nodes e.kind) c.get-in-Spawn.ensures in
    let high = ap (λ (e : RawExpr). nodes e.kind) c.get-in-Spawn-2.ensures in
    let body = ap spec.nodes_of_body c.as_slice-in-Spawn.ensures in
    omega (
      arith,
      is,
      low,
      high,
      body,
      c.nodes-in-Spawn.ensures,
      c.nodes-in-Spawn-2.ensures,
      c.saturating_add-bounds.ensures,
      c.nodes_of_body-in-Spawn.ensures,
      c.saturating_add-in-Spawn.ensures,
      c.saturating_add-in-Spawn-2.ensures,
    )

pub statement_nodes-returns-in-Print : goal.statement_nodes-returns-in-Print
statement_nodes-returns-in-Print t c =
    let is = ap spec.statement_nodes c.in-Print.is in
    let same = ap (λ values. sum (map (λ (a : RawExpr). nodes a.kind) values)) c.as_slice-in-Print.ensures in
    omega (arith, is, same, c.saturating_add-in-Print.ensures, c.nodes_of_all.ensures)
