-- The quads of `op=`, `++` and their like keep to the source.
use Rattle.std.proofs.Common.{◌≡◌, refl, ◌∙◌, subst, arith, ℕ, ◌+◌, true, false, if◌then◌else◌, List, ◌∷◌, ◌++◌, length, length-append, None}
use Rattle.std.specs.Prelude.{Bool}
use Rattle.xmt_base.specs.declared.operators.BinOp.{BinOp}
use Rattle.xmt_base.specs.Operators.{binary_value}
use Rattle.source_meaning.specs.declared.tree.ExprKind.{Row_of-Expr}
use Rattle.source_meaning.specs.declared.tree.ExprKind.TheVariants as expr
use Rattle.source_meaning.specs.declared.tree.Spot.{Spot}
use Rattle.source_meaning.specs.Store.{Cell}
use Rattle.source_meaning.specs.Term.{At, Value, Assign, Update, Step, Postfix, Binary}
use Rattle.source_meaning.specs.Next.{Next, Asks, Loading, Storing, operator_step, step_rest}
use Rattle.xmt_quads.specs.declared.code.Operand.TheVariants.{Reg, Literal}
use Rattle.xmt_quads.specs.declared.code.Quad.TheVariants as quad
use Rattle.xmt_quads.specs.Meaning.{operand_value}
use Rattle.quad_code.specs.Lined.{Lined, lined, one}
use Rattle.quad_code.specs.Expressions.{reading, writing, boxed_operand, held, step_operator}
use Rattle.quad_code.proofs.Setting.{Setting, Point, Stands, has_front, has_back, Reaches, reaches_on}
use Rattle.quad_code.proofs.Steps.{Context, operand_in, target_in, Meets, meets_at}
use Rattle.quad_code.proofs.Places.{IsPlace, reads, writes}
use Rattle.quad_code.proofs.Operators.{copies, operates}
use Rattle.quad_code.proofs.Kept.{box_code, spot_code, box_term, access, place_kept, Kept, KeptBox, KeptSpot}

module _ (s : Setting) {U S : Type 0} (whole : U → Next U S) where
  -- an assignment once its place is known
  abbrev assigned : (c : Context s whole) (cell : Cell) → Context s whole
  assigned c cell = operand_in s whole c (Assign (At cell)) (λ v. Asks (Storing cell v) (λ _. Value v)) (λ e. refl)

  pub update_kept : (line : ℕ) (op : BinOp) (place : Spot) (shape : _) (e : Row_of-Expr 1) → KeptSpot s whole line place → KeptBox s whole e → Kept s whole line (expr.Update' op place shape e)
  update_kept line op place shape e kept second r c n credit at p from rich stands below fits go =
      let old = r + held place in
      let cp = spot_code s at r line place in
      let at1 = at + length cp in
      let ce = box_code s (at1 + 1) (old + 1) e in
      let at2 = at1 + 1 + length ce in
      let o = boxed_operand (old + 1) e in
      let last : List Lined = lined line (quad.Binary op old (Reg old) o) ∷ lined line (writing (access s r place) (Reg old)) ∷ one line (quad.Copy r (Reg old)) in
      let tail : List Lined = one line (reading old (access s r place)) ++ (ce ++ last) in
      let behind = has_back s.program s.function at cp tail stands in
      let here = has_back s.program s.function (at1 + 1) ce last behind.2 in
      kept r (target_in s whole c (λ p. Update line op p (box_term s e)) (λ cell. Asks (Loading cell) (λ old. Assign (At cell) (Binary line op (Value old) (box_term s e)))) (λ p. refl)) n credit at p from rich
      (has_front s.program s.function at cp tail stands) below.0 fits
      (λ q cell reach is.
      reads s whole n credit at1 old (access s r place) cell q (c.around (Update line op (At cell) (box_term s e))) (λ v. c.around (Assign (At cell) (Binary line op (Value v) (box_term s e)))) is (omega (arith, from)) reach.fits behind.0 (c.part (Update line op (At cell) (box_term s e)))
      (λ q2 reach2.
      let v = q2.registers old in
      second (old + 1) (operand_in s whole (assigned c cell) (Binary line op (Value v)) (λ y. operator_step line (binary_value op v y)) (λ e. refl)) n credit (at1 + 1) q2 (omega (arith, from)) rich
      (has_front s.program s.function (at1 + 1) ce last behind.2) below.1 reach2.fits
      (λ q3 reach3.
      let y = operand_value q3.registers o in
      operates s whole (assigned c cell) n credit at2 line line old op (Reg old) o v y q3 here.0 here.1 (reach3.waits old (omega (arith, from)) (omega arith)) refl (λ e. refl) (omega (arith, from)) reach3.fits
      (λ q4 reach4.
      let w = q4.registers old in
      let reach24 = reaches_on s old old q q3 q4 (omega arith) (reaches_on s old (old + 1) q q2 q3 (omega arith) reach2 reach3) reach4 in
      writes s whole n (credit + 60) (at2 + 1) r (access s r place) (Reg old) cell q4 (c.around (Assign (At cell) (Value w))) (λ _. c.around (Value w))
      (place_kept s r place cell q.registers q4.registers from reach24.waits is) reach4.fits here.2.0 (c.part (Assign (At cell) (Value w)))
      (λ q5 reach5 same.
      subst (λ v. Meets s whole (c.around (Value v)) n (credit + 60 + 60) (at2 + 1 + 1) q5) (same old (omega (arith, from)))
      (copies s whole c n (credit + 60 + 60) credit (at2 + 1 + 1) r (Reg old) q5 here.2.2.0 (omega arith) from reach5.fits
      (λ q6 reach6.
      meets_at s whole (c.around (Value (q6.registers r))) n credit (at + length (cp ++ tail)) (at2 + 1 + 1 + 1) q6 (omega (arith, length-append cp tail, length-append ce last))
      (go q6 (reaches_on s r r p q5 q6 (omega arith) (reaches_on s r r p q4 q5 (omega arith) (reaches_on s r old p q q4 (omega arith) reach reach24) reach5) reach6)))))))))

  -- 1 is added and taken away without a trap
  no_trap : (up : Bool) (v line : ℕ) → binary_value (step_operator up) v 1 ≡ None → 0 ≡ line
  no_trap true v line e = cc
  no_trap false v line e = cc

  pub step_kept : (line : ℕ) (place : Spot) (up after : Bool) → KeptSpot s whole line place → Kept s whole line (expr.Step place up after)
  step_kept line place up after kept r c n credit at p from rich stands below fits go =
      let old = r + held place in
      let cp = spot_code s at r line place in
      let at1 = at + length cp in
      let last : List Lined = lined line (writing (access s r place) (Reg (old + 1))) ∷ one line (quad.Copy r (Reg (if after then old else old + 1))) in
      let tail : List Lined = lined line (reading old (access s r place)) ∷ lined line (quad.Binary (step_operator up) (old + 1) (Reg old) (Literal 1)) ∷ last in
      let here = has_back s.program s.function at cp tail stands in
      kept r (target_in s whole c (Step up after) (λ cell. Asks (Loading cell) (step_rest up after cell)) (λ p. refl)) n credit at p from rich
      (has_front s.program s.function at cp tail stands) below fits
      (λ q cell reach is.
      reads s whole n credit at1 old (access s r place) cell q (c.around (Step up after (At cell))) (λ v. c.around (step_rest up after cell v)) is (omega (arith, from)) reach.fits here.0 (c.part (Step up after (At cell)))
      (λ q2 reach2.
      rest after cell q q2 reach reach2 is here.2
      (λ q3 reach3.
      meets_at s whole (c.around (Value (q3.registers r))) n credit (at + length (cp ++ tail)) (at1 + 1 + 1 + 1 + 1) q3 (omega (arith, length-append cp tail))
      (go q3 reach3))))
    where
      rest : (after : Bool) (cell : Cell) (q q2 : Point) → Reaches s r p q → Reaches s (r + held place) q q2 → IsPlace s q.registers cell (access s r place) → Stands s (at + length (spot_code s at r line place) + 1) (lined line (quad.Binary (step_operator up) (r + held place + 1) (Reg (r + held place)) (Literal 1)) ∷ lined line (writing (access s r place) (Reg (r + held place + 1))) ∷ one line (quad.Copy r (Reg (if after then r + held place else r + held place + 1)))) → ((q3 : Point) → Reaches s r p q3 → Meets s whole (c.around (Value (q3.registers r))) n credit (at + length (spot_code s at r line place) + 1 + 1 + 1 + 1) q3) → Meets s whole (c.around (step_rest up after cell (q2.registers (r + held place)))) n credit (at + length (spot_code s at r line place) + 1) q2
      rest false cell q q2 reach reach2 is here go =
          let old = r + held place in
          let at2 = at + length (spot_code s at r line place) + 1 in
          let v = q2.registers old in
          operates s whole (assigned c cell) n credit at2 line 0 (old + 1) (step_operator up) (Reg old) (Literal 1) v 1 q2 here.0 here.1 refl refl (no_trap up v line) (omega (arith, from)) reach2.fits
          (λ q3 reach3.
          let w = q3.registers (old + 1) in
          let reach13 = reaches_on s old (old + 1) q q2 q3 (omega arith) reach2 reach3 in
          writes s whole n (credit + 60) (at2 + 1) r (access s r place) (Reg (old + 1)) cell q3 (c.around (Assign (At cell) (Value w))) (λ _. c.around (Value w))
          (place_kept s r place cell q.registers q3.registers from reach13.waits is) reach3.fits here.2.0 (c.part (Assign (At cell) (Value w)))
          (λ q4 reach4 same.
          subst (λ v. Meets s whole (c.around (Value v)) n (credit + 60 + 60) (at2 + 1 + 1) q4) (same (old + 1) (omega (arith, from)))
          (copies s whole c n (credit + 60 + 60) credit (at2 + 1 + 1) r (Reg (old + 1)) q4 here.2.2.0 (omega arith) from reach4.fits
          (λ q5 reach5. go q5 (reaches_on s r r p q4 q5 (omega arith) (reaches_on s r r p q3 q4 (omega arith) (reaches_on s r old p q q3 (omega arith) reach reach13) reach4) reach5)))))
      rest true cell q q2 reach reach2 is here go =
          let old = r + held place in
          let at2 = at + length (spot_code s at r line place) + 1 in
          let v = q2.registers old in
          let put = operand_in s whole c (Postfix cell v) (λ w. Asks (Storing cell w) (λ _. Value v)) (λ e. refl) in
          operates s whole put n credit at2 line 0 (old + 1) (step_operator up) (Reg old) (Literal 1) v 1 q2 here.0 here.1 refl refl (no_trap up v line) (omega (arith, from)) reach2.fits
          (λ q3 reach3.
          let w = q3.registers (old + 1) in
          let reach13 = reaches_on s old (old + 1) q q2 q3 (omega arith) reach2 reach3 in
          writes s whole n (credit + 60) (at2 + 1) r (access s r place) (Reg (old + 1)) cell q3 (c.around (Postfix cell v (Value w))) (λ _. c.around (Value v))
          (place_kept s r place cell q.registers q3.registers from reach13.waits is) reach3.fits here.2.0 (c.part (Postfix cell v (Value w)))
          (λ q4 reach4 same.
          subst (λ v. Meets s whole (c.around (Value v)) n (credit + 60 + 60) (at2 + 1 + 1) q4) (same old (omega (arith, from)) ∙ reach3.waits old (omega (arith, from)) (omega arith))
          (copies s whole c n (credit + 60 + 60) credit (at2 + 1 + 1) r (Reg old) q4 here.2.2.0 (omega arith) from reach4.fits
          (λ q5 reach5. go q5 (reaches_on s r r p q4 q5 (omega arith) (reaches_on s r r p q3 q4 (omega arith) (reaches_on s r old p q q3 (omega arith) reach reach13) reach4) reach5)))))
