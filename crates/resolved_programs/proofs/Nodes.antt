-- The typed expression has as many nodes as are counted in the raw one.
use Rattle.std.proofs.Common.{◌≡◌, refl, ap, arith, ℕ, ◌+◌, List, [], ◌∷◌, Option, Some, None}
use mathlib.Core.Former.{none_left, one_more}
use Rattle.xmt_base.specs.declared.values.Place.{Place}
use Rattle.xmt_lex.specs.declared.kinds.Mark.{Mark}
use Rattle.xmt_lex.specs.declared.kinds.Mark.TheVariants as m
use Rattle.raw_tree.specs.declared.tree.RawExprKind.{RawExprKind, Row_of-RawExpr, end_of-RawExpr, more_of-RawExpr}
use Rattle.raw_tree.specs.declared.tree.RawExprKind.TheVariants as raw
use Rattle.raw_tree.specs.declared.tree.RawSpot.{RawSpot}
use Rattle.raw_tree.specs.declared.tree.RawSpot.TheVariants as place
use Rattle.source_meaning.specs.declared.tree.Expr.{Expr}
use Rattle.source_meaning.specs.declared.tree.ExprKind.TheVariants as e
use Rattle.source_meaning.specs.declared.tree.ExprKind.TheBlock.{hidden-the_row-Expr-1}
use Rattle.source_meaning.specs.declared.tree.Spot.{Spot}
use Rattle.source_meaning.specs.Opened.{opened}
use Rattle.name_scopes.specs.declared.scope.Meaning.{Meaning}
use Rattle.name_scopes.specs.declared.scope.Meaning.TheVariants as means
use Rattle.name_scopes.specs.declared.scope.Declared.{Declared}
use Rattle.name_scopes.specs.Size.{nodes, nodes_of_spot, nodes_of_row}
use Rattle.name_faults.specs.Expressions.{meaning}
use Rattle.typed_programs.specs.Expressions.{assigned, joined, variable, function_number, typed, typed_spot, typed_box, typed_row}
use Rattle.tree_measures.specs.Nodes.{expression_nodes, spot_nodes, row_nodes, nodes_of_expressions}

pub variable_nodes : (what : Option Meaning) → spot_nodes (variable what) ≡ 0
variable_nodes None = refl
variable_nodes (Some (means.Scalar g constant)) = refl
variable_nodes (Some (means.Array g constant)) = refl
variable_nodes (Some (means.Register r)) = refl
variable_nodes (Some (means.Function f value params)) = refl
variable_nodes (Some (means.Local slot constant)) = refl

assigned_nodes : (mark : Mark) (s : Spot) (a : Expr) → expression_nodes (assigned mark s a) ≡ 1 + (spot_nodes s + (expression_nodes a.kind + 0))
unfolding opened
assigned_nodes m.Equal s a = refl
assigned_nodes mark s a = refl

joined_nodes : (mark : Mark) (a b : Expr) → expression_nodes (joined mark a b) ≡ 1 + ((expression_nodes a.kind + 0) + (expression_nodes b.kind + 0))
unfolding opened
joined_nodes m.AndAnd a b = refl
joined_nodes m.OrOr a b = refl
joined_nodes mark a b = refl

hidden_nodes : (values : List Expr) → row_nodes (hidden-the_row-Expr-1 values) ≡ nodes_of_expressions values
unfolding opened
hidden_nodes [] = refl
hidden_nodes (a ∷ rest) = ap (λ n. expression_nodes a.kind + n) (hidden_nodes rest)

call_nodes : (f : ℕ) (values : List Expr) → expression_nodes (e.Call f values) ≡ 1 + nodes_of_expressions values
unfolding opened
call_nodes f values = ap (λ n. 1 + n) (hidden_nodes values)

module _ (ds : List Declared) where
  mutual
    unfolding opened

    pub typed_nodes : (at : Place) (kind : RawExprKind) → expression_nodes (typed ds at kind).kind ≡ nodes kind
    typed_nodes at (raw.Assign' s mark shape a) = omega (arith, assigned_nodes mark (typed_spot ds s) (typed_box ds a), counted_spot s, box_nodes a)
    typed_nodes at (raw.Choose' first test left a right b) = omega (arith, box_nodes test, box_nodes a, box_nodes b)
    typed_nodes at (raw.Binary' mark left a right b) = omega (arith, joined_nodes mark (typed_box ds a) (typed_box ds b), box_nodes a, box_nodes b)
    typed_nodes at (raw.Prefix' mark shape a) = omega (arith, box_nodes a)
    typed_nodes at (raw.StepBefore mark s) = omega (arith, counted_spot s)
    typed_nodes at (raw.StepAfter s mark) = omega (arith, counted_spot s)
    typed_nodes at (raw.Read s) = omega (arith, counted_spot s)
    typed_nodes at (raw.Call' name shape values) = omega (arith, call_nodes (function_number (meaning ds name)) (typed_row ds values), counted_row values)
    typed_nodes at (raw.Number v) = refl
    typed_nodes at raw.Dollar = refl
    typed_nodes at (raw.Brackets' shape a) = box_nodes a

    pub counted_spot : (s : RawSpot) → spot_nodes (typed_spot ds s) ≡ nodes_of_spot s
    counted_spot (place.Name name) = variable_nodes (meaning ds name)
    counted_spot (place.Element' name shape index) = omega (arith, box_nodes index)

    box_nodes : (row : Row_of-RawExpr (one_more none_left)) → expression_nodes (typed_box ds row).kind ≡ nodes_of_row row
    box_nodes (more_of-RawExpr at kind end_of-RawExpr) = omega (arith, typed_nodes at kind)

    counted_row : {n : _} (row : Row_of-RawExpr n) → nodes_of_expressions (typed_row ds row) ≡ nodes_of_row row
    counted_row end_of-RawExpr = refl
    counted_row (more_of-RawExpr at kind rest) = omega (arith, typed_nodes at kind, counted_row rest)
