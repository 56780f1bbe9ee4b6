-- What an expression of a checked program names is known to its quads.
use Rattle.std.proofs.Common.{◌≡◌, refl, sym, ◌∙◌, ap, arith, ℕ, zero, suc, ◌≤◌, ◌<◌, Bool, true, false, List, [], ◌∷◌, ◌++◌, length, Option, Some, None}
use Rattle.std.specs.Prelude.{◌||◌, slice_get}
use Rattle.std.specs.List.{list_any}
use Rattle.xmt_base.specs.declared.Place.{Place}
use Rattle.source_meaning.specs.declared.tree.Expr.{Expr}
use Rattle.source_meaning.specs.declared.tree.ExprKind.{ExprKind, Row_of-Expr, end_of-Expr, more_of-Expr}
use Rattle.source_meaning.specs.declared.tree.ExprKind.TheVariants as expr
use Rattle.source_meaning.specs.declared.tree.Spot.{Spot}
use Rattle.source_meaning.specs.declared.tree.Spot.TheVariants as spot
use Rattle.source_meaning.specs.declared.tree.Program.{Program}
use Rattle.source_meaning.specs.Inside.{some_inside, some_in_spot, some_in_row, some_expression, some_option}
use Rattle.spawn_check.specs.Table.{MeetsNone}
use Rattle.spawn_check.specs.Things.{occurrences}
use Rattle.checked_programs.specs.Fits as fits
use Rattle.checked_programs.specs.Fits.{Known, HasGlobal, ExpressionFits, SpotFits, RowFits, OptionFits, ValuesFit, SummedFits, PlaceFits}
use Rattle.quad_code.specs.Rows as rows
use Rattle.quad_code.specs.Rows.{row_of}
use Rattle.quad_code.specs.Known.{Region, NamesKnown, SpotKnown, AllKnown, OptionKnown, SummedKnown}
use Rattle.quad_code.specs.Whole.{HasFunction, MayCall}
use Rattle.checked_quads.specs.Inner.{AreInner}
use Rattle.checked_quads.proofs.Rules.{Around, Within, left_within, right_within, tail_within, around_at, in_expression, in_spot, in_row, in_values, in_option, outside_in, call_rule}

pub first_none : (a b : Bool) → (a || b) ≡ false → a ≡ false
first_none true b is = is
first_none false b is = refl

pub second_none : (a b : Bool) → (a || b) ≡ false → b ≡ false
second_none true b is = absurd (let clash : true ≡ false = is in cc)
second_none false b is = is

found_below : {X : Type 0} (xs : List X) (n : ℕ) (x : X) → slice_get xs n ≡ Some x → n < length xs
found_below [] n x is = absurd (let clash : None ≡ Some x = is in cc)
found_below (y ∷ xs) zero x is = omega arith
found_below (y ∷ xs) (suc n) x is = omega (arith, found_below xs n x is)

same_length : {n : _} (row : Row_of-Expr n) → fits.row_length row ≡ rows.row_length row
same_length end_of-Expr = refl
same_length (more_of-Expr place kind rest) = ap (λ n. suc n) (same_length rest)

as_known : (p : Program) (f : ℕ) {n : _} (row : Row_of-Expr n) → fits.HasFunction p f (fits.row_length row) → HasFunction p f (rows.row_length row)
as_known p f row has = record { function = has.function; found = has.found; counts = sym (same_length row) ∙ has.counts }

module _ (p : Program) (blocks : MeetsNone p) (few_registers : length p.registers ≤ 8) (inner : (function : ℕ) → Bool) (are_inner : AreInner p inner) (region : Region) (loop : Bool)
    (k l : Known) (same : (x : ℕ) → k x ≡ l x) where
  abbrev around : Around
  around = around_at region loop

  abbrev out : ExprKind → Bool
  out = outside_in inner region

  mutual
    known_expression : (place : Place) (kind : ExprKind) → Within (in_expression around place kind) (occurrences p) → out kind ≡ false → some_inside out kind ≡ false → ExpressionFits p k kind →
        NamesKnown (length p.globals) (MayCall p inner region) l kind
    known_expression place (expr.Number n) within own none fit = tt
    known_expression place expr.Dollar within own none fit = tt
    known_expression place (expr.Read s) within own none fit = known_spot s within none fit
    known_expression place (expr.Assign' s shape e) within own none fit = (
      known_spot s (left_within (in_spot around s) (in_row around e) within) (first_none (some_in_spot out s) (some_in_row out e) none) fit.0,
      known_row e (right_within (in_spot around s) (in_row around e) within) (second_none (some_in_spot out s) (some_in_row out e) none) fit.1,
    )
    known_expression place (expr.Update' op s shape e) within own none fit = (
      known_spot s (left_within (in_spot around s) (in_row around e) within) (first_none (some_in_spot out s) (some_in_row out e) none) fit.0,
      known_row e (right_within (in_spot around s) (in_row around e) within) (second_none (some_in_spot out s) (some_in_row out e) none) fit.1,
    )
    known_expression place (expr.Step s up after) within own none fit = known_spot s within none fit
    known_expression place (expr.Unary' op shape e) within own none fit = known_row e within none fit
    known_expression place (expr.Binary' op left a right b) within own none fit = (
      known_row a (left_within (in_row around a) (in_row around b) within) (first_none (some_in_row out a) (some_in_row out b) none) fit.0,
      known_row b (right_within (in_row around a) (in_row around b) within) (second_none (some_in_row out a) (some_in_row out b) none) fit.1,
    )
    known_expression place (expr.Both' left a right b) within own none fit = (
      known_row a (left_within (in_row around a) (in_row around b) within) (first_none (some_in_row out a) (some_in_row out b) none) fit.0,
      known_row b (right_within (in_row around a) (in_row around b) within) (second_none (some_in_row out a) (some_in_row out b) none) fit.1,
    )
    known_expression place (expr.Either' left a right b) within own none fit = (
      known_row a (left_within (in_row around a) (in_row around b) within) (first_none (some_in_row out a) (some_in_row out b) none) fit.0,
      known_row b (right_within (in_row around a) (in_row around b) within) (second_none (some_in_row out a) (some_in_row out b) none) fit.1,
    )
    known_expression place (expr.Choose' first test left a right b) within own none fit =
        let front = first_none (some_in_row out test || some_in_row out a) (some_in_row out b) none in
        let behind = right_within (in_row around test) (in_row around a ++ in_row around b) within in (
          known_row test (left_within (in_row around test) (in_row around a ++ in_row around b) within) (first_none (some_in_row out test) (some_in_row out a) front) fit.0,
          known_row a (left_within (in_row around a) (in_row around b) behind) (second_none (some_in_row out test) (some_in_row out a) front) fit.1,
          known_row b (right_within (in_row around a) (in_row around b) behind) (second_none (some_in_row out test || some_in_row out a) (some_in_row out b) none) fit.2,
        )
    known_expression place (expr.Call' f shape values) within own none fit = (
      call_rule p blocks inner are_inner region loop place f shape values within own (rows.row_length values) (as_known p f values fit.0),
      known_row values (tail_within _ (in_row around values) within) none fit.1,
    )

    known_spot : (s : Spot) → Within (in_spot around s) (occurrences p) → some_in_spot out s ≡ false → SpotFits p k s → SpotKnown (length p.globals) (MayCall p inner region) l s
    known_spot (spot.Global g) within none fit = found_below p.globals g fit.global fit.found
    known_spot (spot.Element' g shape index) within none fit = (found_below p.globals g fit.0.global fit.0.found, known_row index within none fit.1)
    known_spot (spot.Register r) within none fit = omega (arith, fit, few_registers)
    known_spot (spot.Local slot) within none fit = sym (same slot) ∙ fit

    known_row : {n : _} (row : Row_of-Expr n) → Within (in_row around row) (occurrences p) → some_in_row out row ≡ false → RowFits p k row → AllKnown (length p.globals) (MayCall p inner region) l row
    known_row end_of-Expr within none fit = tt
    known_row (more_of-Expr place kind rest) within none fit =
        let here = first_none (out kind || some_inside out kind) (some_in_row out rest) none in (
          known_expression place kind (left_within (in_expression around place kind) (in_row around rest) within) (first_none (out kind) (some_inside out kind) here)
              (second_none (out kind) (some_inside out kind) here) fit.0,
          known_row rest (right_within (in_expression around place kind) (in_row around rest) within) (second_none (out kind || some_inside out kind) (some_in_row out rest) none) fit.1,
        )

  pub known_whole : (e : Expr) → Within (in_expression around e.at e.kind) (occurrences p) → some_expression out e.kind ≡ false → ExpressionFits p k e.kind →
      NamesKnown (length p.globals) (MayCall p inner region) l e.kind
  known_whole e within none fit = known_expression e.at e.kind within (first_none (out e.kind) (some_inside out e.kind) none) (second_none (out e.kind) (some_inside out e.kind) none) fit

  pub known_option : (e : Option Expr) → Within (in_option around e) (occurrences p) → some_option out e ≡ false → OptionFits p k e → OptionKnown (length p.globals) (MayCall p inner region) l e
  known_option None within none fit = tt
  known_option (Some e) within none fit = known_whole e within none fit

  pub known_values : (values : List Expr) → Within (in_values around values) (occurrences p) → list_any (λ (e : Expr). some_expression out e.kind) values ≡ false → ValuesFit p k values →
      AllKnown (length p.globals) (MayCall p inner region) l (row_of values)
  known_values [] within none fit = tt
  known_values (e ∷ rest) within none fit = (
    known_whole e (left_within (in_expression around e.at e.kind) (in_values around rest) within)
        (first_none (some_expression out e.kind) (list_any (λ (x : Expr). some_expression out x.kind) rest) none) fit.0,
    known_values rest (right_within (in_expression around e.at e.kind) (in_values around rest) within)
        (second_none (some_expression out e.kind) (list_any (λ (x : Expr). some_expression out x.kind) rest) none) fit.1,
  )

  -- ---- prefix-sums

  -- the variable
  pub known_summed : (s : Spot) → SummedFits p k s → SummedKnown (length p.globals) l s
  known_summed (spot.Global g) fit = found_below p.globals g fit.global fit.found
  known_summed (spot.Local slot) fit = sym (same slot) ∙ fit
  known_summed (spot.Element' g shape index) fit = absurd fit
  known_summed (spot.Register r) fit = absurd fit

  -- the place of `psm`
  pub known_place : (s : Spot) → Within (in_spot around s) (occurrences p) → some_in_spot out s ≡ false → PlaceFits p k s → SpotKnown (length p.globals) (MayCall p inner region) l s
  known_place (spot.Global g) within none fit = known_spot (spot.Global g) within none fit
  known_place (spot.Element' g shape index) within none fit = known_spot (spot.Element' g shape index) within none fit
  known_place (spot.Register r) within none fit = absurd fit
  known_place (spot.Local slot) within none fit = known_spot (spot.Local slot) within none fit
