-- How many nodes the typed tree of a raw one has.
use Rattle.std.specs.Prelude.{ℕ, suc, ◌+◌}
use Rattle.raw_tree.specs.declared.tree.RawExprKind.{RawExprKind, Row_of-RawExpr, end_of-RawExpr, more_of-RawExpr}
use Rattle.raw_tree.specs.declared.tree.RawExprKind.TheVariants as e
use Rattle.raw_tree.specs.declared.tree.RawSpot.{RawSpot}
use Rattle.raw_tree.specs.declared.tree.RawSpot.TheVariants as spot

abbrev mutual
  -- the nodes of an expression: itself, unless it is a pair of brackets, and those inside it
  pub nodes : RawExprKind → ℕ
  nodes (e.Assign' p m shape a) = suc (nodes_of_spot p + nodes_of_row a)
  nodes (e.Choose' first choice left a right b) = suc (nodes_of_row choice + nodes_of_row a + nodes_of_row b)
  nodes (e.Binary' m left a right b) = suc (nodes_of_row a + nodes_of_row b)
  nodes (e.Prefix' m shape a) = suc (nodes_of_row a)
  nodes (e.StepBefore m p) = suc (nodes_of_spot p)
  nodes (e.StepAfter p m) = suc (nodes_of_spot p)
  nodes (e.Read p) = suc (nodes_of_spot p)
  nodes (e.Call' name shape values) = suc (nodes_of_row values)
  nodes (e.Number v) = 1
  nodes e.Dollar = 1
  nodes (e.Brackets' shape a) = nodes_of_row a

  pub nodes_of_spot : RawSpot → ℕ
  nodes_of_spot (spot.Name name) = 0
  nodes_of_spot (spot.Element' name shape index) = nodes_of_row index

  pub nodes_of_row : {n : _} → Row_of-RawExpr n → ℕ
  nodes_of_row end_of-RawExpr = 0
  nodes_of_row (more_of-RawExpr place kind rest) = nodes kind + nodes_of_row rest
