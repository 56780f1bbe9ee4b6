-- Typed rows of trees, as lists.
use Rattle.std.proofs.Common.{◌≡◌, refl, ap, List, [], ◌∷◌}
use Rattle.xmt_base.specs.declared.values.Place.{Place}
use Rattle.raw_tree.specs.declared.tree.RawName.{RawName}
use Rattle.raw_tree.specs.declared.tree.RawExpr.{RawExpr}
use Rattle.raw_tree.specs.declared.tree.RawExprKind.TheVariants as raw
use Rattle.raw_tree.specs.declared.tree.RawExprKind.TheBlock.{hidden-the_row-RawExpr-1}
use Rattle.source_meaning.specs.declared.tree.ExprKind.TheVariants as e
use Rattle.name_scopes.specs.Opened.{opened}
use Rattle.name_scopes.specs.declared.scope.Declared.{Declared}
use Rattle.name_faults.specs.Expressions.{meaning}
use Rattle.typed_programs.specs.Expressions.{node, function_number, typed, typed_row, expression, expressions}

row_of_list : (ds : List Declared) (values : List RawExpr) → typed_row ds (hidden-the_row-RawExpr-1 values) ≡ expressions ds values
unfolding opened
row_of_list ds [] = refl
row_of_list ds (a ∷ rest) = ap (λ made. expression ds a ∷ made) (row_of_list ds rest)

pub typed_call : (ds : List Declared) (at : Place) (name : RawName) (values : List RawExpr) →
    typed ds at (raw.Call name values) ≡ node at (e.Call (function_number (meaning ds name)) (expressions ds values))
unfolding opened
typed_call ds at name values = ap (λ made. node at (e.Call (function_number (meaning ds name)) made)) (row_of_list ds values)
