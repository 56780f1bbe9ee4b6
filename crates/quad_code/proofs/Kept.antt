-- What it says that the quads of an expression, or of a place, keep to the source; and the cases without a choice.
use Rattle.quad_code.specs.Known.{AllKnown, NamesKnown, SpotKnown}
use Rattle.std.proofs.Common.{◌≡◌, refl, sym, ◌∙◌, ap, arith, ℕ, ◌+◌, ◌≤◌, ◌<◌, List, ◌++◌, length, length-append, Option, Some, None}
use Rattle.std.specs.Prelude.{nat_lt}
use Rattle.xmt_base.specs.declared.operators.UnOp.{UnOp}
use Rattle.xmt_base.specs.Operators.{unary_value}
use Rattle.xmt_base.specs.Action as action
use Rattle.source_meaning.specs.declared.tree.ExprKind.{ExprKind, Row_of-Expr, end_of-Expr, more_of-Expr}
use Rattle.source_meaning.specs.declared.tree.ExprKind.TheVariants as expr
use Rattle.source_meaning.specs.declared.tree.Spot.{Spot}
use Rattle.source_meaning.specs.declared.tree.Spot.TheVariants as spot
use Rattle.source_meaning.specs.Store.{Cell}
use Rattle.source_meaning.specs.Term.{Target, At, Term, Value, Dollar, Unary}
use Rattle.source_meaning.specs.Next.{Next, quiet_step}
use Rattle.source_meaning.specs.Code.{target_of, term_of, boxed_term}
use Rattle.xmt_quads.specs.declared.code.Quad.TheVariants as quad
use Rattle.xmt_quads.specs.Meaning.{Registers, operand_value}
use Rattle.quad_code.specs.Lined.{Lined, one}
use Rattle.quad_code.specs.declared.Access.{Access}
use Rattle.quad_code.specs.Expressions.{access_of_slot, operand_of, boxed_operand, held, access_of, code_at, boxed_at, spot_at}
use Rattle.quad_code.proofs.Setting.{Setting, Point, thread_at, Stands, has_front, has_back, Fits, Reaches, reaches_on, reaches_here}
use Rattle.quad_code.proofs.Steps.{Context, TargetContext, operand_in, Meets, meets_at, keeps_fewer}
use Rattle.quad_code.proofs.Places.{IsPlace}
use Rattle.quad_code.proofs.Operators.{gives}

-- an operand goes by its register alone
pub operand_kept : (r : ℕ) (k : ExprKind) (before after : Registers) → after r ≡ before r → operand_value after (operand_of r k) ≡ operand_value before (operand_of r k)
operand_kept r (expr.Number n) before after h = refl
operand_kept r _ before after h = h

pub boxed_operand_kept : (r : ℕ) {n : _} (row : Row_of-Expr n) (before after : Registers) → after r ≡ before r → operand_value after (boxed_operand r row) ≡ operand_value before (boxed_operand r row)
boxed_operand_kept r end_of-Expr before after h = refl
boxed_operand_kept r (more_of-Expr place kind rest) before after h = operand_kept r kind before after h

module _ (s : Setting) where
  abbrev pub expression_code : (at r line : ℕ) → ExprKind → List Lined
  expression_code at r line k = code_at s.base_of s.size_of s.outer at r line k

  abbrev pub box_code : (at r : ℕ) → {n : _} → Row_of-Expr n → List Lined
  box_code at r row = boxed_at s.base_of s.size_of s.outer at r row

  abbrev pub spot_code : (at r line : ℕ) → Spot → List Lined
  spot_code at r line p = spot_at s.base_of s.size_of s.outer at r line p

  abbrev pub term : (line : ℕ) → ExprKind → Term
  term line k = term_of s.globals s.own s.frame line k

  abbrev pub box_term : {n : _} → Row_of-Expr n → Term
  box_term row = boxed_term s.globals s.own s.frame row

  abbrev pub target : (line : ℕ) → Spot → Target
  target line p = target_of s.globals s.own s.frame line p

  abbrev pub access : (r : ℕ) → Spot → Access
  access r p = access_of s.base_of s.size_of s.outer r p

  -- a place stays the same while its index waits
  place_of_slot_kept : (slot : ℕ) (o : Option ℕ) (cell : Cell) (before after : Registers) → IsPlace s before cell (access_of_slot slot o) → IsPlace s after cell (access_of_slot slot o)
  place_of_slot_kept slot None cell before after is = is
  place_of_slot_kept slot (Some n) cell before after is = is

  pub place_kept : (r : ℕ) (p : Spot) (cell : Cell) (before after : Registers) → s.variables ≤ r → ((x : ℕ) → s.variables ≤ x → x < r + held p → after x ≡ before x) → IsPlace s before cell (access r p) → IsPlace s after cell (access r p)
  place_kept r (spot.Global g) cell before after from waits is = is
  place_kept r (spot.Register x) cell before after from waits is = is
  place_kept r (spot.Local slot) cell before after from waits is = place_of_slot_kept slot (s.outer slot) cell before after is
  place_kept r (spot.Element' g shape index) cell before after from waits is =
      let same = boxed_operand_kept r index before after (waits r from (omega arith)) in
      (is.0 ∙ ap (λ v. Some (action.Word (s.base_of g + v))) (sym same), ap (λ v. nat_lt (s.base_of g + v) (length s.program.words)) same ∙ is.1)

module _ (s : Setting) {U S : Type 0} (whole : U → Next U S) where
  -- From matching points the quads keep to the source, if they do so behind the expression, with its value in its operand.
  -- The registers below the given number that are no variables' stay as they are.
  abbrev pub Kept : (line : ℕ) → ExprKind → Type 0
  Kept line k =
      (r : ℕ) (c : Context s whole) (n credit at : ℕ) (p : Point) → s.variables ≤ r → 40 ≤ credit →
      Stands s at (expression_code s at r line k) → NamesKnown (length s.globals) (s.MayCall s.region) s.known k → Fits s p →
      ((q : Point) → Reaches s r p q → Meets s whole (c.around (Value (operand_value q.registers (operand_of r k)))) n credit (at + length (expression_code s at r line k)) q) →
      Meets s whole (c.around (term s line k)) n credit at p

  abbrev pub KeptBox : {n : _} → Row_of-Expr n → Type 0
  KeptBox row =
      (r : ℕ) (c : Context s whole) (n credit at : ℕ) (p : Point) → s.variables ≤ r → 40 ≤ credit →
      Stands s at (box_code s at r row) → AllKnown (length s.globals) (s.MayCall s.region) s.known row → Fits s p →
      ((q : Point) → Reaches s r p q → Meets s whole (c.around (Value (operand_value q.registers (boxed_operand r row)))) n credit (at + length (box_code s at r row)) q) →
      Meets s whole (c.around (box_term s row)) n credit at p

  -- the same of a place
  abbrev pub KeptSpot : (line : ℕ) → Spot → Type 0
  KeptSpot line place =
      (r : ℕ) (c : TargetContext s whole) (n credit at : ℕ) (p : Point) → s.variables ≤ r → 40 ≤ credit →
      Stands s at (spot_code s at r line place) → SpotKnown (length s.globals) (s.MayCall s.region) s.known place → Fits s p →
      ((q : Point) (cell : Cell) → Reaches s r p q → IsPlace s q.registers cell (access s r place) → Meets s whole (c.around (At cell)) n credit (at + length (spot_code s at r line place)) q) →
      Meets s whole (c.around (target s line place)) n credit at p

  nothing_kept : (code : U) (n credit at : ℕ) (p : Point) → Meets s whole code n credit (at + 0) p → Meets s whole code n credit at p
  nothing_kept code n credit at p m = meets_at s whole code n credit (at + 0) at p (omega arith) m

  -- more credit than is asked for
  pub richer : (code : U) (n credit more at : ℕ) (p : Point) → credit ≤ more → Meets s whole code n credit at p → Meets s whole code n more at p
  richer code n credit more at p le m = λ few. keeps_fewer s whole n n credit more (thread_at s at p) code p.store (omega arith) le (m few)

  -- ---- numbers and the thread's number

  pub number_kept : (line n : ℕ) → Kept line (expr.Number n)
  number_kept line v r c n credit at p from rich stands below fits go = nothing_kept (c.around (Value v)) n credit at p (go p (reaches_here s r p fits))

  pub empty_kept : KeptBox end_of-Expr
  empty_kept r c n credit at p from rich stands below fits go = nothing_kept (c.around (Value 0)) n credit at p (go p (reaches_here s r p fits))

  pub dollar_kept : (line : ℕ) → Kept line expr.Dollar
  dollar_kept line r c n credit at p from rich stands below fits go =
      gives s whole c n credit at r s.number (quad.Dollar r) p Dollar refl refl stands.0 refl refl from fits
      (λ q reach. richer (c.around (Value (q.registers r))) n credit (credit + 60) (at + 1) q (omega arith) (go q reach))

  -- ---- operators

  pub unary_kept : (line : ℕ) (op : UnOp) (shape : _) (e : Row_of-Expr 1) → KeptBox e → Kept line (expr.Unary' op shape e)
  unary_kept line op shape e kept r c n credit at p from rich stands below fits go =
      let code = box_code s at r e in
      let o = boxed_operand r e in
      let last = one line (quad.Unary op r o) in
      let at1 = at + length code in
      let here = has_back s.program s.function at code last stands in
      kept r (operand_in s whole c (Unary op) (λ v. quiet_step (Value (unary_value op v))) (λ e. refl)) n credit at p from rich
      (has_front s.program s.function at code last stands) below fits
      (λ q reach.
      let v = operand_value q.registers o in
      gives s whole c n credit at1 r (unary_value op v) (quad.Unary op r o) q (Unary op (Value v)) refl refl here.0 refl refl from reach.fits
      (λ q2 reach2.
      richer (c.around (Value (q2.registers r))) n credit (credit + 60) (at1 + 1) q2 (omega arith)
      (meets_at s whole (c.around (Value (q2.registers r))) n credit (at + length (code ++ last)) (at1 + 1) q2 (omega (arith, length-append code last))
      (go q2 (reaches_on s r r p q q2 (omega arith) reach reach2)))))
