-- The quads of `&&`, `||` and `?:` keep to the source.
use Rattle.quad_code.specs.Known.{AllKnown}
use Rattle.std.proofs.Common.{◌≡◌, refl, arith, ℕ, ◌+◌, ◌≤◌, true, false, if◌then◌else◌, List, ◌∷◌, ◌++◌, length, length-append}
use Rattle.std.specs.Prelude.{◌==◌, Bool}
use Rattle.xmt_base.specs.declared.operators.BinOp.TheVariants.{Ne}
use Rattle.xmt_base.specs.Operators.{binary_value}
use Rattle.source_meaning.specs.declared.tree.ExprKind.{Row_of-Expr}
use Rattle.source_meaning.specs.declared.tree.ExprKind.TheVariants as expr
use Rattle.source_meaning.specs.Term.{Value, Binary, Both, Either, Choose}
use Rattle.source_meaning.specs.Next.{Next, Asks, Quietly, quiet_step, operator_step, nonzero_test}
use Rattle.xmt_quads.specs.declared.code.Operand.{Operand}
use Rattle.xmt_quads.specs.declared.code.Operand.TheVariants.{Literal}
use Rattle.xmt_quads.specs.declared.code.Quad.TheVariants as quad
use Rattle.xmt_quads.specs.Meaning.{operand_value}
use Rattle.quad_code.specs.Lined.{Lined, lined, choice, code_then, one}
use Rattle.quad_code.specs.Expressions.{boxed_operand}
use Rattle.quad_code.proofs.Setting.{Setting, Point, Stands, has_front, has_back, Fits, Reaches, reaches_on}
use Rattle.quad_code.proofs.Steps.{Context, operand_in, Meets, meets_at}
use Rattle.quad_code.proofs.Operators.{copies, jumps, operates, if_zero, if_not}
use Rattle.quad_code.proofs.Kept.{box_code, box_term, Kept, KeptBox, richer}

module _ (s : Setting) {U S : Type 0} (whole : U → Next U S) where
  -- where the second side of a choice begins
  abbrev pub middle_of : (at : ℕ) → List Lined → ℕ
  middle_of at a = at + 1 + length a + 1

  -- A choice with a jump where a value is 0. Either side is shown to lead to what is behind the choice.
  pub zero_choice : (n credit at line : ℕ) (o : Operand) (first second : ℕ → List Lined) (q : Point) (code : U) (chosen : Bool → U) →
      Stands s at (choice line at (quad.IfZero o) first second) → whole code ≡ Asks Quietly (λ _. chosen (operand_value q.registers o == 0)) →
      (Stands s (at + 1) (first (at + 1)) → ((code : U) (p : Point) → Meets s whole code n credit (at + length (choice line at (quad.IfZero o) first second)) p → Meets s whole code n (credit + 4) (at + 1 + length (first (at + 1))) p) → Meets s whole (chosen false) n (credit + 60) (at + 1) q) →
      (Stands s (middle_of at (first (at + 1))) (second (middle_of at (first (at + 1)))) → ((code : U) (p : Point) → Meets s whole code n credit (at + length (choice line at (quad.IfZero o) first second)) p → Meets s whole code n credit (middle_of at (first (at + 1)) + length (second (middle_of at (first (at + 1))))) p) → Meets s whole (chosen true) n (credit + 60) (middle_of at (first (at + 1))) q) →
      Meets s whole code n credit at q
  zero_choice n credit at line o first second q code chosen stands steps other_side zero_side =
      let a = first (at + 1) in
      let middle = middle_of at a in
      let b = second middle in
      let jump : Lined = lined line (quad.Jump (middle + length b)) in
      let tail = has_back s.program s.function (at + 1) a (jump ∷ b) stands.2 in
      let end : at + length (choice line at (quad.IfZero o) first second) ≡ middle + length b = omega (arith, length-append a (jump ∷ b)) in
      if_zero s whole n credit at middle o q code chosen stands.0 steps
      (λ e. zero_side tail.2 (λ code p m. meets_at s whole code n credit (at + length (choice line at (quad.IfZero o) first second)) (middle + length b) p end m))
      (λ e.
      other_side (has_front s.program s.function (at + 1) a (jump ∷ b) stands.2)
      (λ code p m.
      jumps s whole n (credit + 4) credit (at + 1 + length a) (middle + length b) p code tail.0 (omega arith)
      (meets_at s whole code n credit (at + length (choice line at (quad.IfZero o) first second)) (middle + length b) p end m)))

  -- the same with a jump where a value is not 0
  pub nonzero_choice : (n credit at line : ℕ) (o : Operand) (first second : ℕ → List Lined) (q : Point) (code : U) (chosen : Bool → U) →
      Stands s at (choice line at (quad.IfNot o) first second) → whole code ≡ Asks Quietly (λ _. chosen (operand_value q.registers o == 0)) →
      (Stands s (at + 1) (first (at + 1)) → ((code : U) (p : Point) → Meets s whole code n credit (at + length (choice line at (quad.IfNot o) first second)) p → Meets s whole code n (credit + 4) (at + 1 + length (first (at + 1))) p) → Meets s whole (chosen true) n (credit + 60) (at + 1) q) →
      (Stands s (middle_of at (first (at + 1))) (second (middle_of at (first (at + 1)))) → ((code : U) (p : Point) → Meets s whole code n credit (at + length (choice line at (quad.IfNot o) first second)) p → Meets s whole code n credit (middle_of at (first (at + 1)) + length (second (middle_of at (first (at + 1))))) p) → Meets s whole (chosen false) n (credit + 60) (middle_of at (first (at + 1))) q) →
      Meets s whole code n credit at q
  nonzero_choice n credit at line o first second q code chosen stands steps zero_side other_side =
      let a = first (at + 1) in
      let middle = middle_of at a in
      let b = second middle in
      let jump : Lined = lined line (quad.Jump (middle + length b)) in
      let tail = has_back s.program s.function (at + 1) a (jump ∷ b) stands.2 in
      let end : at + length (choice line at (quad.IfNot o) first second) ≡ middle + length b = omega (arith, length-append a (jump ∷ b)) in
      if_not s whole n credit at middle o q code chosen stands.0 steps
      (λ e.
      zero_side (has_front s.program s.function (at + 1) a (jump ∷ b) stands.2)
      (λ code p m.
      jumps s whole n (credit + 4) credit (at + 1 + length a) (middle + length b) p code tail.0 (omega arith)
      (meets_at s whole code n credit (at + length (choice line at (quad.IfNot o) first second)) (middle + length b) p end m)))
      (λ e. other_side tail.2 (λ code p m. meets_at s whole code n credit (at + length (choice line at (quad.IfNot o) first second)) (middle + length b) p end m))

  -- the right operand of `&&` and `||`, and its test
  abbrev pub test_code : (line r : ℕ) → Row_of-Expr 1 → (at : ℕ) → List Lined
  test_code line r b at = code_then at (box_code s at r b) (λ at. one line (quad.Binary Ne r (boxed_operand r b) (Literal 0)))

  nonzero_kept : (line r : ℕ) (b : Row_of-Expr 1) → KeptBox s whole b → (c : Context s whole) (n credit at end : ℕ) (q : Point) → s.variables ≤ r → 40 ≤ credit → Stands s at (test_code line r b at) → AllKnown (length s.globals) (s.MayCall s.region) s.known b → Fits s q → ((code : U) (p : Point) → Meets s whole code n credit end p → Meets s whole code n (credit + 4) (at + length (test_code line r b at)) p) → ((p : Point) → Reaches s r q p → Meets s whole (c.around (Value (p.registers r))) n credit end p) → Meets s whole (c.around (nonzero_test (box_term s b))) n (credit + 60) at q
  nonzero_kept line r b kept c n credit at end q from rich stands below fits out go =
      let cb = box_code s at r b in
      let ob = boxed_operand r b in
      let last = one line (quad.Binary Ne r ob (Literal 0)) in
      let here = has_back s.program s.function at cb last stands in
      richer s whole (c.around (nonzero_test (box_term s b))) n (credit + 4) (credit + 60) at q (omega arith)
      (kept r (operand_in s whole c (λ e. Binary 0 Ne e (Value 0)) (λ x. operator_step 0 (binary_value Ne x 0)) (λ e. refl)) n (credit + 4) at q from (omega (arith, rich))
      (has_front s.program s.function at cb last stands) below fits
      (λ q2 reach2.
      operates s whole c n (credit + 4) (at + length cb) line 0 r Ne ob (Literal 0) (operand_value q2.registers ob) 0 q2 here.0 here.1 refl refl (λ e. cc) from reach2.fits
      (λ q3 reach3.
      richer s whole (c.around (Value (q3.registers r))) n (credit + 4) (credit + 4 + 60) (at + length cb + 1) q3 (omega arith)
      (meets_at s whole (c.around (Value (q3.registers r))) n (credit + 4) (at + length (cb ++ last)) (at + length cb + 1) q3 (omega (arith, length-append cb last))
      (out (c.around (Value (q3.registers r))) q3 (go q3 (reaches_on s r r q q2 q3 (omega arith) reach2 reach3)))))))

  -- a side that is a number
  literal_kept : (line r v : ℕ) (c : Context s whole) (n credit at end : ℕ) (q : Point) → s.variables ≤ r → Stands s at (one line (quad.Copy r (Literal v))) → Fits s q → ((code : U) (p : Point) → Meets s whole code n credit end p → Meets s whole code n credit (at + 1) p) → ((p : Point) → Reaches s r q p → Meets s whole (c.around (Value (p.registers r))) n credit end p) → Meets s whole (c.around (Value v)) n (credit + 60) at q
  literal_kept line r v c n credit at end q from stands fits out go =
      copies s whole c n (credit + 60) credit at r (Literal v) q stands.0 (omega arith) from fits
      (λ q2 reach2. out (c.around (Value (q2.registers r))) q2 (go q2 reach2))

  pub both_kept : (line : ℕ) (left : _) (a : Row_of-Expr 1) (right : _) (b : Row_of-Expr 1) → KeptBox s whole a → KeptBox s whole b → Kept s whole line (expr.Both' left a right b)
  both_kept line left a right b first second r c n credit at p from rich stands below fits go =
      let ca = box_code s at r a in
      let at1 = at + length ca in
      let oa = boxed_operand r a in
      let rest = choice line at1 (quad.IfZero oa) (test_code line r b) (λ at. one line (quad.Copy r (Literal 0))) in
      let behind = has_back s.program s.function at ca rest stands in
      let end : at + length (ca ++ rest) ≡ at1 + length rest = omega (arith, length-append ca rest) in
      first r (operand_in s whole c (λ a. Both a (box_term s b)) (λ v. quiet_step (if v == 0 then Value 0 else nonzero_test (box_term s b))) (λ e. refl)) n credit at p from rich
      (has_front s.program s.function at ca rest stands) below.0 fits
      (λ q reach.
      let leads : (p2 : Point) → Reaches s r q p2 → Meets s whole (c.around (Value (p2.registers r))) n credit (at1 + length rest) p2 =
      λ p2 reach2. meets_at s whole (c.around (Value (p2.registers r))) n credit (at + length (ca ++ rest)) (at1 + length rest) p2 end (go p2 (reaches_on s r r p q p2 (omega arith) reach reach2)) in
      zero_choice n credit at1 line oa (test_code line r b) (λ at. one line (quad.Copy r (Literal 0))) q (c.around (Both (Value (operand_value q.registers oa)) (box_term s b)))
      (λ zero. c.around (if zero then Value 0 else nonzero_test (box_term s b))) behind (c.part (Both (Value (operand_value q.registers oa)) (box_term s b)))
      (λ there out. nonzero_kept line r b second c n credit (at1 + 1) (at1 + length rest) q from rich there below.1 reach.fits out leads)
      (λ there out. literal_kept line r 0 c n credit (middle_of at1 (test_code line r b (at1 + 1))) (at1 + length rest) q from there reach.fits out leads))

  pub either_kept : (line : ℕ) (left : _) (a : Row_of-Expr 1) (right : _) (b : Row_of-Expr 1) → KeptBox s whole a → KeptBox s whole b → Kept s whole line (expr.Either' left a right b)
  either_kept line left a right b first second r c n credit at p from rich stands below fits go =
      let ca = box_code s at r a in
      let at1 = at + length ca in
      let oa = boxed_operand r a in
      let rest = choice line at1 (quad.IfNot oa) (test_code line r b) (λ at. one line (quad.Copy r (Literal 1))) in
      let behind = has_back s.program s.function at ca rest stands in
      let end : at + length (ca ++ rest) ≡ at1 + length rest = omega (arith, length-append ca rest) in
      first r (operand_in s whole c (λ a. Either a (box_term s b)) (λ v. quiet_step (if v == 0 then nonzero_test (box_term s b) else Value 1)) (λ e. refl)) n credit at p from rich
      (has_front s.program s.function at ca rest stands) below.0 fits
      (λ q reach.
      let leads : (p2 : Point) → Reaches s r q p2 → Meets s whole (c.around (Value (p2.registers r))) n credit (at1 + length rest) p2 =
      λ p2 reach2. meets_at s whole (c.around (Value (p2.registers r))) n credit (at + length (ca ++ rest)) (at1 + length rest) p2 end (go p2 (reaches_on s r r p q p2 (omega arith) reach reach2)) in
      nonzero_choice n credit at1 line oa (test_code line r b) (λ at. one line (quad.Copy r (Literal 1))) q (c.around (Either (Value (operand_value q.registers oa)) (box_term s b)))
      (λ zero. c.around (if zero then nonzero_test (box_term s b) else Value 1)) behind (c.part (Either (Value (operand_value q.registers oa)) (box_term s b)))
      (λ there out. nonzero_kept line r b second c n credit (at1 + 1) (at1 + length rest) q from rich there below.1 reach.fits out leads)
      (λ there out. literal_kept line r 1 c n credit (middle_of at1 (test_code line r b (at1 + 1))) (at1 + length rest) q from there reach.fits out leads))

  -- a side of `?:`
  abbrev pub side_code : (line r : ℕ) → Row_of-Expr 1 → (at : ℕ) → List Lined
  side_code line r a at = code_then at (box_code s at r a) (λ at. one line (quad.Copy r (boxed_operand r a)))

  side_kept : (line r : ℕ) (a : Row_of-Expr 1) → KeptBox s whole a → (c : Context s whole) (n credit at end : ℕ) (q : Point) → s.variables ≤ r → 40 ≤ credit → Stands s at (side_code line r a at) → AllKnown (length s.globals) (s.MayCall s.region) s.known a → Fits s q → ((code : U) (p : Point) → Meets s whole code n credit end p → Meets s whole code n (credit + 4) (at + length (side_code line r a at)) p) → ((p : Point) → Reaches s r q p → Meets s whole (c.around (Value (p.registers r))) n credit end p) → Meets s whole (c.around (box_term s a)) n (credit + 60) at q
  side_kept line r a kept c n credit at end q from rich stands below fits out go =
      let ca = box_code s at r a in
      let oa = boxed_operand r a in
      let last = one line (quad.Copy r oa) in
      let here = has_back s.program s.function at ca last stands in
      kept r c n (credit + 60) at q from (omega (arith, rich)) (has_front s.program s.function at ca last stands) below fits
      (λ q2 reach2.
      copies s whole c n (credit + 60) (credit + 4) (at + length ca) r oa q2 here.0 (omega arith) from reach2.fits
      (λ q3 reach3.
      meets_at s whole (c.around (Value (q3.registers r))) n (credit + 4) (at + length (ca ++ last)) (at + length ca + 1) q3 (omega (arith, length-append ca last))
      (out (c.around (Value (q3.registers r))) q3 (go q3 (reaches_on s r r q q2 q3 (omega arith) reach2 reach3)))))

  pub choose_kept : (line : ℕ) (shape : _) (test : Row_of-Expr 1) (left : _) (a : Row_of-Expr 1) (right : _) (b : Row_of-Expr 1) → KeptBox s whole test → KeptBox s whole a → KeptBox s whole b → Kept s whole line (expr.Choose' shape test left a right b)
  choose_kept line shape test left a right b tested first second r c n credit at p from rich stands below fits go =
      let ct = box_code s at r test in
      let at1 = at + length ct in
      let ot = boxed_operand r test in
      let rest = choice line at1 (quad.IfZero ot) (side_code line r a) (side_code line r b) in
      let behind = has_back s.program s.function at ct rest stands in
      let end : at + length (ct ++ rest) ≡ at1 + length rest = omega (arith, length-append ct rest) in
      tested r (operand_in s whole c (λ t. Choose t (box_term s a) (box_term s b)) (λ v. quiet_step (if v == 0 then box_term s b else box_term s a)) (λ e. refl)) n credit at p from rich
      (has_front s.program s.function at ct rest stands) below.0 fits
      (λ q reach.
      let leads : (p2 : Point) → Reaches s r q p2 → Meets s whole (c.around (Value (p2.registers r))) n credit (at1 + length rest) p2 =
      λ p2 reach2. meets_at s whole (c.around (Value (p2.registers r))) n credit (at + length (ct ++ rest)) (at1 + length rest) p2 end (go p2 (reaches_on s r r p q p2 (omega arith) reach reach2)) in
      zero_choice n credit at1 line ot (side_code line r a) (side_code line r b) q (c.around (Choose (Value (operand_value q.registers ot)) (box_term s a) (box_term s b)))
      (λ zero. c.around (if zero then box_term s b else box_term s a)) behind (c.part (Choose (Value (operand_value q.registers ot)) (box_term s a) (box_term s b)))
      (λ there out. side_kept line r a first c n credit (at1 + 1) (at1 + length rest) q from rich there below.1 reach.fits out leads)
      (λ there out.
      side_kept line r b second c n credit (middle_of at1 (side_code line r a (at1 + 1))) (at1 + length rest) q from rich there below.2 reach.fits
      (λ code p2 m. richer s whole code n credit (credit + 4) (middle_of at1 (side_code line r a (at1 + 1)) + length (side_code line r b (middle_of at1 (side_code line r a (at1 + 1))))) p2 (omega arith) (out code p2 m)) leads))
