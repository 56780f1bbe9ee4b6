-- The quads of every expression keep to the source, if those of calls do.
use Rattle.std.proofs.Common.{ℕ}
use Rattle.source_meaning.specs.declared.tree.ExprKind.{ExprKind, Row_of-Expr, end_of-Expr, more_of-Expr}
use Rattle.source_meaning.specs.declared.tree.ExprKind.TheVariants as expr
use Rattle.source_meaning.specs.declared.tree.Spot.{Spot}
use Rattle.source_meaning.specs.declared.tree.Spot.TheVariants as spot
use Rattle.source_meaning.specs.Next.{Next}
use Rattle.quad_code.proofs.Setting.{Setting}
use Rattle.quad_code.proofs.Kept.{Kept, KeptBox, KeptSpot, number_kept, empty_kept, dollar_kept, unary_kept}
use Rattle.quad_code.proofs.Writes.{binary_kept, global_kept, register_kept, local_kept, element_kept, read_kept, assign_kept}
use Rattle.quad_code.proofs.Updates.{update_kept, step_kept}
use Rattle.quad_code.proofs.Choices.{both_kept, either_kept, choose_kept}

module _ (s : Setting) {U S : Type 0} (whole : U → Next U S) where
  -- each of the values is kept
  abbrev pub AllKept : {n : _} → Row_of-Expr n → Type 0
  AllKept end_of-Expr = Unit {0}
  AllKept (more_of-Expr place kind rest) = Kept s whole place.line kind × AllKept rest

  module _ (call_kept : (line function : ℕ) (shape : _) (values : _) → AllKept values → Kept s whole line (expr.Call' function shape values)) where
    mutual
      pub kept : (line : ℕ) (k : ExprKind) → Kept s whole line k
      kept line (expr.Number n) = number_kept s whole line n
      kept line expr.Dollar = dollar_kept s whole line
      kept line (expr.Read p) = read_kept s whole line p (spot_kept line p)
      kept line (expr.Assign' p shape e) = assign_kept s whole line p shape e (spot_kept line p) (box_kept e)
      kept line (expr.Update' op p shape e) = update_kept s whole line op p shape e (spot_kept line p) (box_kept e)
      kept line (expr.Step p up after) = step_kept s whole line p up after (spot_kept line p)
      kept line (expr.Unary' op shape e) = unary_kept s whole line op shape e (box_kept e)
      kept line (expr.Binary' op left a right b) = binary_kept s whole line op left a right b (box_kept a) (box_kept b)
      kept line (expr.Both' left a right b) = both_kept s whole line left a right b (box_kept a) (box_kept b)
      kept line (expr.Either' left a right b) = either_kept s whole line left a right b (box_kept a) (box_kept b)
      kept line (expr.Choose' shape test left a right b) = choose_kept s whole line shape test left a right b (box_kept test) (box_kept a) (box_kept b)
      kept line (expr.Call' function shape values) = call_kept line function shape values (all_kept values)

      spot_kept : (line : ℕ) (p : Spot) → KeptSpot s whole line p
      spot_kept line (spot.Global g) = global_kept s whole line g
      spot_kept line (spot.Element' g shape index) = element_kept s whole line g shape index (box_kept index)
      spot_kept line (spot.Register x) = register_kept s whole line x
      spot_kept line (spot.Local slot) = local_kept s whole line slot

      box_kept : {n : _} (row : Row_of-Expr n) → KeptBox s whole row
      box_kept end_of-Expr r c n credit at p from rich stands below fits go = empty_kept s whole r c n credit at p from rich stands below fits go
      box_kept (more_of-Expr place kind rest) r c n credit at p from rich stands below fits go = kept place.line kind r c n credit at p from rich stands below.0 fits go

      all_kept : {n : _} (row : Row_of-Expr n) → AllKept row
      all_kept end_of-Expr = tt
      all_kept (more_of-Expr place kind rest) = (kept place.line kind, all_kept rest)
