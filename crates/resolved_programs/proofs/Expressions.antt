-- The typed expression of one that breaks no rule names what is there.
use Rattle.std.proofs.Common.{◌≡◌, refl, sym, ap, subst, ℕ, suc, Bool, true, List, [], ◌∷◌, length}
use Rattle.xmt_base.specs.declared.values.Place.{Place}
use Rattle.xmt_lex.specs.declared.kinds.Mark.{Mark}
use Rattle.xmt_lex.specs.declared.kinds.Mark.TheVariants as m
use Rattle.raw_tree.specs.declared.tree.RawExpr.{RawExpr}
use Rattle.raw_tree.specs.declared.tree.RawExprKind.{RawExprKind, Row_of-RawExpr, end_of-RawExpr, more_of-RawExpr}
use Rattle.raw_tree.specs.declared.tree.RawExprKind.TheVariants as raw
use Rattle.raw_tree.specs.declared.tree.RawSpot.{RawSpot}
use Rattle.raw_tree.specs.declared.tree.RawSpot.TheVariants as place
use Rattle.source_meaning.specs.declared.tree.Expr.{Expr}
use Rattle.source_meaning.specs.declared.tree.ExprKind.TheVariants as e
use Rattle.source_meaning.specs.declared.tree.ExprKind.TheBlock.{hidden-the_row-Expr-1}
use Rattle.source_meaning.specs.declared.tree.Spot.{Spot}
use Rattle.source_meaning.specs.declared.tree.Program.{Program}
use Rattle.source_meaning.specs.Opened.{opened}
use Rattle.name_scopes.specs.declared.scope.Declared.{Declared}
use Rattle.name_faults.specs.Expressions as raws
use Rattle.name_faults.specs.Expressions.{meaning, faults, faults_of_spot, faults_of_box, faults_of_row, faults_of_values}
use Rattle.typed_programs.specs.Expressions.{assigned, joined, function_number, typed, typed_spot, typed_box, typed_row, expressions}
use Rattle.checked_programs.specs.Fits.{Known, HasFunction, ExpressionFits, SpotFits, RowFits, ValuesFit, row_length}
use Rattle.resolved_programs.proofs.NoFaults.{IsEmpty}
use Rattle.resolved_programs.proofs.Meanings.{NamesFit, meaning_fits, variable_fits, array_fits, call_fits}

module _ (p : Program) (known : Known) where
  -- ---- nodes of parts that fit

  assigned_fits : (mark : Mark) (s : Spot) (a : Expr) → SpotFits p known s → ExpressionFits p known a.kind → ExpressionFits p known (assigned mark s a)
  unfolding opened
  assigned_fits m.Equal s a left right = (left, (right, tt))
  assigned_fits mark s a left right = (left, (right, tt))

  joined_fits : (mark : Mark) (a b : Expr) → ExpressionFits p known a.kind → ExpressionFits p known b.kind → ExpressionFits p known (joined mark a b)
  unfolding opened
  joined_fits m.AndAnd a b left right = ((left, tt), (right, tt))
  joined_fits m.OrOr a b left right = ((left, tt), (right, tt))
  joined_fits mark a b left right = ((left, tt), (right, tt))

  values_fit : (values : List Expr) → ValuesFit p known values → RowFits p known (hidden-the_row-Expr-1 values)
  unfolding opened
  values_fit [] fit = tt
  values_fit (a ∷ rest) fit = (fit.0, values_fit rest fit.1)

  hidden_length : (values : List Expr) → row_length (hidden-the_row-Expr-1 values) ≡ length values
  unfolding opened
  hidden_length [] = refl
  hidden_length (a ∷ rest) = ap (λ n. suc n) (hidden_length rest)

  call_of : (f : ℕ) (values : List Expr) → HasFunction p f (length values) → ValuesFit p known values → ExpressionFits p known (e.Call f values)
  unfolding opened
  call_of f values has fit = (subst (λ n. HasFunction p f n) (sym (hidden_length values)) has, values_fit values fit)

  typed_length : (ds : List Declared) {n : _} (row : Row_of-RawExpr n) → raws.row_length row ≡ length (typed_row ds row)
  typed_length ds end_of-RawExpr = refl
  typed_length ds (more_of-RawExpr at kind rest) = ap (λ n. suc n) (typed_length ds rest)

  -- ---- the induction

  module _ (ds : List Declared) (names : NamesFit p known ds) where
    mutual
      unfolding opened

      pub typed_fits : (wanted : Bool) (at : Place) (kind : RawExprKind) → IsEmpty (faults ds wanted kind) → ExpressionFits p known (typed ds at kind).kind
      typed_fits wanted at (raw.Assign' s mark shape a) sound = assigned_fits mark (typed_spot ds s) (typed_box ds a) (spot_fits s sound.0.0) (box_fits true a sound.1)
      typed_fits wanted at (raw.Choose' first test left a right b) sound = ((box_fits true test sound.0, tt), (box_fits true a sound.1.0, tt), (box_fits true b sound.1.1, tt))
      typed_fits wanted at (raw.Binary' mark left a right b) sound = joined_fits mark (typed_box ds a) (typed_box ds b) (box_fits true a sound.0) (box_fits true b sound.1)
      typed_fits wanted at (raw.Prefix' mark shape a) sound = (box_fits true a sound, tt)
      typed_fits wanted at (raw.StepBefore mark s) sound = spot_fits s sound.0
      typed_fits wanted at (raw.StepAfter s mark) sound = spot_fits s sound.0
      typed_fits wanted at (raw.Read s) sound = spot_fits s sound
      typed_fits wanted at (raw.Call' name shape values) sound =
          call_of (function_number (meaning ds name)) (typed_row ds values)
          (subst (λ n. HasFunction p (function_number (meaning ds name)) n) (typed_length ds values)
          (call_fits p known wanted (raws.row_length values) name (meaning ds name) (meaning_fits p known ds name names) sound.0))
          (row_fits values sound.1)
      typed_fits wanted at (raw.Number v) sound = tt
      typed_fits wanted at raw.Dollar sound = tt
      typed_fits wanted at (raw.Brackets' shape a) sound = box_fits wanted a sound

      pub spot_fits : (s : RawSpot) → IsEmpty (faults_of_spot ds s) → SpotFits p known (typed_spot ds s)
      spot_fits (place.Name name) sound = variable_fits p known name (meaning ds name) (meaning_fits p known ds name names) sound
      spot_fits (place.Element' name shape index) sound =
          (array_fits p known name (meaning ds name) (meaning_fits p known ds name names) sound.0, (box_fits true index sound.1, tt))

      box_fits : (wanted : Bool) {n : _} (row : Row_of-RawExpr n) → IsEmpty (faults_of_box ds wanted row) → ExpressionFits p known (typed_box ds row).kind
      box_fits wanted end_of-RawExpr sound = tt
      box_fits wanted (more_of-RawExpr at kind rest) sound = typed_fits wanted at kind sound

      row_fits : {n : _} (row : Row_of-RawExpr n) → IsEmpty (faults_of_row ds row) → ValuesFit p known (typed_row ds row)
      row_fits end_of-RawExpr sound = tt
      row_fits (more_of-RawExpr at kind rest) sound = (typed_fits true at kind sound.0, row_fits rest sound.1)

    pub expressions_fit : (values : List RawExpr) → IsEmpty (faults_of_values ds values) → ValuesFit p known (expressions ds values)
    expressions_fit [] sound = tt
    expressions_fit (a ∷ rest) sound = (typed_fits true a.at a.kind sound.0, expressions_fit rest sound.1)
