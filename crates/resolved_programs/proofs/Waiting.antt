-- In the typed expression no more values wait than in the raw one.
use Rattle.std.proofs.Common.{◌≡◌, refl, ap, arith, ℕ, ◌+◌, ◌≤◌, List, [], ◌∷◌, Option, Some, None}
use Rattle.std.specs.Prelude.{max}
use mathlib.Core.Former.{none_left, one_more}
use Rattle.xmt_base.specs.declared.values.Place.{Place}
use Rattle.xmt_lex.specs.declared.kinds.Mark.{Mark}
use Rattle.xmt_lex.specs.declared.kinds.Mark.TheVariants as m
use Rattle.raw_tree.specs.declared.tree.RawExprKind.{RawExprKind, Row_of-RawExpr, end_of-RawExpr, more_of-RawExpr}
use Rattle.raw_tree.specs.declared.tree.RawExprKind.TheVariants as raw
use Rattle.raw_tree.specs.declared.tree.RawSpot.{RawSpot}
use Rattle.raw_tree.specs.declared.tree.RawSpot.TheVariants as place
use Rattle.source_meaning.specs.declared.tree.Expr.{Expr}
use Rattle.source_meaning.specs.declared.tree.ExprKind.TheVariants as e
use Rattle.source_meaning.specs.declared.tree.ExprKind.TheBlock.{hidden-the_row-Expr-1}
use Rattle.source_meaning.specs.declared.tree.Spot.{Spot}
use Rattle.source_meaning.specs.Opened.{opened}
use Rattle.name_scopes.specs.declared.scope.Meaning.{Meaning}
use Rattle.name_scopes.specs.declared.scope.Meaning.TheVariants as means
use Rattle.name_scopes.specs.declared.scope.Declared.{Declared}
use Rattle.name_scopes.specs.Waiting.{kept, waiting_of_both, waiting, waiting_of_write, waiting_of_read, waiting_of_step, waiting_of_box, waiting_of_row}
use Rattle.name_faults.specs.Expressions.{meaning}
use Rattle.typed_programs.specs.Expressions.{assigned, joined, variable, function_number, typed, typed_spot, typed_box, typed_row}
use Rattle.tree_measures.specs.Waiting.{waiting_in, waiting_at, waiting_behind, waiting_behind_list}

at_variable : (what : Option Meaning) (v n : ℕ) → waiting_at (variable what) v n ≡ v
at_variable None v n = refl
at_variable (Some (means.Scalar g constant)) v n = refl
at_variable (Some (means.Array g constant)) v n = refl
at_variable (Some (means.Register r)) v n = refl
at_variable (Some (means.Function f value params)) v n = refl
at_variable (Some (means.Local slot constant)) v n = refl

assigned_waits : (mark : Mark) (s : Spot) (a : Expr) → waiting_in (assigned mark s a) ≡ waiting_at s (kept mark + waiting_in a.kind) (1 + (kept mark + waiting_in a.kind))
unfolding opened
assigned_waits m.Equal s a = ap (λ n. waiting_at s n (1 + n)) (omega arith)
assigned_waits mark s a = ap (λ n. waiting_at s (1 + waiting_in a.kind) n) (omega arith)

joined_waits : (mark : Mark) (a b : Expr) → waiting_in (joined mark a b) ≡ waiting_of_both mark (waiting_in a.kind) (waiting_in b.kind)
unfolding opened
joined_waits m.AndAnd a b = refl
joined_waits m.OrOr a b = refl
joined_waits mark a b = refl

both_rise : (mark : Mark) (a b c d : ℕ) → a ≤ c → b ≤ d → waiting_of_both mark a b ≤ waiting_of_both mark c d
both_rise m.AndAnd a b c d left right = omega arith
both_rise m.OrOr a b c d left right = omega arith
both_rise mark a b c d left right = omega arith

hidden_waits : (before : ℕ) (values : List Expr) → waiting_behind before (hidden-the_row-Expr-1 values) ≡ waiting_behind_list before values
unfolding opened
hidden_waits before [] = refl
hidden_waits before (a ∷ rest) = ap (λ n. max (before + waiting_in a.kind) n) (hidden_waits (before + 1) rest)

call_waits : (f : ℕ) (values : List Expr) → waiting_in (e.Call f values) ≡ max 1 (waiting_behind_list 0 values)
unfolding opened
call_waits f values = ap (λ n. max 1 n) (hidden_waits 0 values)

module _ (ds : List Declared) where
  mutual
    unfolding opened

    pub typed_waits : (at : Place) (kind : RawExprKind) → waiting_in (typed ds at kind).kind ≤ waiting kind
    typed_waits at (raw.Assign' s mark shape a) =
        omega (arith, assigned_waits mark (typed_spot ds s) (typed_box ds a), write_waits s (kept mark + waiting_in (typed_box ds a).kind) (kept mark + waiting_of_box a) (omega (arith, box_waits a)))
    typed_waits at (raw.Choose' first test left a right b) = omega (arith, box_waits test, box_waits a, box_waits b)
    typed_waits at (raw.Binary' mark left a right b) =
        omega (
          arith,
          joined_waits mark (typed_box ds a) (typed_box ds b),
          both_rise mark (waiting_in (typed_box ds a).kind) (waiting_in (typed_box ds b).kind) (waiting_of_box a) (waiting_of_box b) (box_waits a) (box_waits b),
        )
    typed_waits at (raw.Prefix' mark shape a) = box_waits a
    typed_waits at (raw.StepBefore mark s) = step_waits s
    typed_waits at (raw.StepAfter s mark) = step_waits s
    typed_waits at (raw.Read s) = read_waits s
    typed_waits at (raw.Call' name shape values) = omega (arith, call_waits (function_number (meaning ds name)) (typed_row ds values), row_waits 0 values)
    typed_waits at (raw.Number v) = omega arith
    typed_waits at raw.Dollar = omega arith
    typed_waits at (raw.Brackets' shape a) = box_waits a

    write_waits : (s : RawSpot) (v w : ℕ) → v ≤ w → waiting_at (typed_spot ds s) v (1 + v) ≤ waiting_of_write s w
    write_waits (place.Name name) v w less = omega (arith, at_variable (meaning ds name) v (1 + v))
    write_waits (place.Element' name shape index) v w less = omega (arith, box_waits index)

    pub read_waits : (s : RawSpot) → waiting_at (typed_spot ds s) 1 0 ≤ waiting_of_read s
    read_waits (place.Name name) = omega (arith, at_variable (meaning ds name) 1 0)
    read_waits (place.Element' name shape index) = omega (arith, box_waits index)

    step_waits : (s : RawSpot) → waiting_at (typed_spot ds s) 2 3 ≤ waiting_of_step s
    step_waits (place.Name name) = omega (arith, at_variable (meaning ds name) 2 3)
    step_waits (place.Element' name shape index) = omega (arith, box_waits index)

    box_waits : (row : Row_of-RawExpr (one_more none_left)) → waiting_in (typed_box ds row).kind ≤ waiting_of_box row
    box_waits (more_of-RawExpr at kind end_of-RawExpr) = typed_waits at kind

    row_waits : (before : ℕ) {n : _} (row : Row_of-RawExpr n) → waiting_behind_list before (typed_row ds row) ≤ before + waiting_of_row row
    row_waits before end_of-RawExpr = omega arith
    row_waits before (more_of-RawExpr at kind rest) = omega (arith, typed_waits at kind, row_waits (before + 1) rest)
