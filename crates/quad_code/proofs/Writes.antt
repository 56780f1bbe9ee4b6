-- The quads of operators, places and writes keep to the source.
use Rattle.std.proofs.Common.{◌≡◌, refl, sym, ◌∙◌, ap, subst, arith, ℕ, ◌+◌, true, false, if◌then◌else◌, List, ◌∷◌, ◌++◌, length, length-append, Option, Some, None}
use Rattle.std.specs.Prelude.{nat_lt, Bool}
use Rattle.xmt_base.specs.declared.values.TrapKind.TheVariants.{Index}
use Rattle.xmt_base.specs.declared.operators.BinOp.{BinOp}
use Rattle.xmt_base.specs.Operators.{binary_value}
use Rattle.xmt_base.specs.Action as action
use Rattle.source_meaning.specs.declared.tree.ExprKind.{Row_of-Expr}
use Rattle.source_meaning.specs.declared.tree.ExprKind.TheVariants as expr
use Rattle.source_meaning.specs.declared.tree.Spot.{Spot}
use Rattle.source_meaning.specs.declared.tree.Spot.TheVariants as spot
use Rattle.source_meaning.specs.Layout.{first_word, words_of}
use Rattle.source_meaning.specs.Store.{Word, Register}
use Rattle.source_meaning.specs.Term.{At, Element, Value, Read, Assign, Binary}
use Rattle.source_meaning.specs.Next.{Next, Asks, Traps, Loading, Storing, next_within, next, quiet_step, operator_step, test_step}
use Rattle.source_meaning.specs.Trace.{step_of}
use Rattle.xmt_quads.specs.declared.code.Quad.TheVariants as quad
use Rattle.xmt_quads.specs.Meaning.{Registers, operand_value, with_next, goes, Traps as Trapping}
use Rattle.quad_code.specs.Lined.{Lined, lined, one}
use Rattle.quad_code.specs.Expressions.{access_of_slot, reading, writing, boxed_operand, held}
use Rattle.quad_code.proofs.Setting.{Setting, Point, thread_at, has_front, has_back, Reaches, reaches_on, reaches_here}
use Rattle.quad_code.proofs.Steps.{operand_in, target_in, index_in, Meets, meets_at, both, trapped}
use Rattle.quad_code.proofs.Places.{IsPlace, reads, writes}
use Rattle.quad_code.proofs.Operators.{copies, operates}
use Rattle.quad_code.proofs.Kept.{box_code, spot_code, box_term, access, boxed_operand_kept, place_kept, Kept, KeptBox, KeptSpot, richer}

module _ (s : Setting) {U S : Type 0} (whole : U → Next U S) where
  pub binary_kept : (line : ℕ) (op : BinOp) (left : _) (a : Row_of-Expr 1) (right : _) (b : Row_of-Expr 1) → KeptBox s whole a → KeptBox s whole b → Kept s whole line (expr.Binary' op left a right b)
  binary_kept line op left a right b first second r c n credit at p from rich stands below fits go =
      let ca = box_code s at r a in
      let at1 = at + length ca in
      let cb = box_code s at1 (r + 1) b in
      let at2 = at1 + length cb in
      let oa = boxed_operand r a in
      let ob = boxed_operand (r + 1) b in
      let last = one line (quad.Binary op r oa ob) in
      let behind = has_back s.program s.function at ca (cb ++ last) stands in
      let here = has_back s.program s.function at1 cb last behind in
      first r (operand_in s whole c (λ a. Binary line op a (box_term s b)) (λ x. next_within (Binary line op (Value x)) (next s.number s.call_code s.depth (box_term s b)) (λ y. operator_step line (binary_value op x y))) (λ e. refl)) n credit at p from rich
      (has_front s.program s.function at ca (cb ++ last) stands) below.0 fits
      (λ q reach.
      let x = operand_value q.registers oa in
      second (r + 1) (operand_in s whole c (Binary line op (Value x)) (λ y. operator_step line (binary_value op x y)) (λ e. refl)) n credit at1 q (omega (arith, from)) rich
      (has_front s.program s.function at1 cb last behind) below.1 reach.fits
      (λ q2 reach2.
      operates s whole c n credit at2 line line r op oa ob x (operand_value q2.registers ob) q2 here.0 here.1
      (boxed_operand_kept r a q.registers q2.registers (reach2.waits r from (omega arith))) refl (λ e. refl) from reach2.fits
      (λ q3 reach3.
      richer s whole (c.around (Value (q3.registers r))) n credit (credit + 60) (at2 + 1) q3 (omega arith)
      (meets_at s whole (c.around (Value (q3.registers r))) n credit (at + length (ca ++ (cb ++ last))) (at2 + 1) q3 (omega (arith, length-append ca (cb ++ last), length-append cb last))
      (go q3 (reaches_on s r r p q q3 (omega arith) reach (reaches_on s r r q q2 q3 (omega arith) (reaches_on s r (r + 1) q q q2 (omega arith) (reaches_here s r q reach.fits) reach2) reach3)))))))

  -- ---- places

  still : (code : U) (n credit at : ℕ) (p : Point) → Meets s whole code n credit (at + 0) p → Meets s whole code n credit at p
  still code n credit at p m = meets_at s whole code n credit (at + 0) at p (omega arith) m

  pub global_kept : (line g : ℕ) → KeptSpot s whole line (spot.Global g)
  global_kept line g r c n credit at p from rich stands below fits go =
      let cell = Word (first_word s.globals g) in
      still (c.around (At cell)) n credit at p (go p cell (reaches_here s r p fits) (ap (λ w. Some (action.Word w)) (sym (s.bases g below)), refl))

  pub register_kept : (line x : ℕ) → KeptSpot s whole line (spot.Register x)
  register_kept line x r c n credit at p from rich stands below fits go =
      still (c.around (At (Register x))) n credit at p (go p (Register x) (reaches_here s r p fits) (refl, refl))

  pub local_place : (registers : Registers) (slot : ℕ) (o : Option ℕ) → s.known slot ≡ true → s.outer slot ≡ o → IsPlace s registers (s.frame slot) (access_of_slot slot o)
  local_place registers slot None low e = (refl, e, low)
  local_place registers slot (Some number) low e = (s.outer_is_shared slot number e, refl)

  pub local_kept : (line slot : ℕ) → KeptSpot s whole line (spot.Local slot)
  local_kept line slot r c n credit at p from rich stands below fits go =
      still (c.around (At (s.frame slot))) n credit at p (go p (s.frame slot) (reaches_here s r p fits) (local_place p.registers slot (s.outer slot) below refl))

  pub element_kept : (line g : ℕ) (shape : _) (index : Row_of-Expr 1) → KeptBox s whole index → KeptSpot s whole line (spot.Element' g shape index)
  element_kept line g shape index kept r c n credit at p from rich stands below fits go =
      let code = box_code s at r index in
      let o = boxed_operand r index in
      let base = first_word s.globals g in
      let size = words_of s.globals g in
      let last = one line (quad.Test o (s.size_of g)) in
      let at1 = at + length code in
      let here = has_back s.program s.function at code last stands in
      kept r (index_in s whole c (Element line base size) (test_step line base size) (λ e. refl)) n credit at p from rich
      (has_front s.program s.function at code last stands) below.1 fits
      (λ q reach. tested q reach (nat_lt (operand_value q.registers o) size) refl)
    where
      tested : (q : Point) → Reaches s r p q → (b : Bool) → nat_lt (operand_value q.registers (boxed_operand r index)) (words_of s.globals g) ≡ b → Meets s whole (c.around (Element line (first_word s.globals g) (words_of s.globals g) (Value (operand_value q.registers (boxed_operand r index))))) n credit (at + length (box_code s at r index)) q
      tested q reach true e =
          let code = box_code s at r index in
          let at1 = at + length code in
          let o = boxed_operand r index in
          let base = first_word s.globals g in
          let size = words_of s.globals g in
          let i = operand_value q.registers o in
          let last = one line (quad.Test o (s.size_of g)) in
          let here = has_back s.program s.function at code last stands in
          let cell = Word (base + i) in
          let inside : nat_lt (base + i) (length s.program.words) ≡ true = grind (arith, e, s.room g below.0) in
          both s whole n credit credit at1 (at1 + 1) (quad.Test o (s.size_of g)) q q (c.around (Element line base size (Value i))) (c.around (At cell)) here.0 refl
          (ap (λ b. if b then goes (with_next (thread_at s at1 q) q.registers) else Trapping Index) (ap (nat_lt i) (s.sizes g below.0) ∙ e))
          (λ replies. ap (step_of q.store replies) (c.part (Element line base size (Value i)) ∙ ap (λ b. next_within c.around (if b then quiet_step (At cell) else Traps Index line) c.go) e))
          (omega arith)
          (meets_at s whole (c.around (At cell)) n credit (at + length (code ++ last)) (at1 + 1) q (omega (arith, length-append code last))
          (go q cell reach (ap (λ w. Some (action.Word (w + i))) (sym (s.bases g below.0)), ap (λ w. nat_lt (w + i) (length s.program.words)) (s.bases g below.0) ∙ inside)))
      tested q reach false e =
          let code = box_code s at r index in
          let at1 = at + length code in
          let o = boxed_operand r index in
          let base = first_word s.globals g in
          let size = words_of s.globals g in
          let i = operand_value q.registers o in
          let last = one line (quad.Test o (s.size_of g)) in
          let here = has_back s.program s.function at code last stands in
          trapped s whole n credit at1 line Index (quad.Test o (s.size_of g)) q (c.around (Element line base size (Value i))) here.0 refl here.1
          (ap (λ b. if b then goes (with_next (thread_at s at1 q) q.registers) else Trapping Index) (ap (nat_lt i) (s.sizes g below.0) ∙ e))
          (c.part (Element line base size (Value i)) ∙ ap (λ b. next_within c.around (if b then quiet_step (At (Word (base + i))) else Traps Index line) c.go) e)

  -- ---- reads and writes

  pub read_kept : (line : ℕ) (place : Spot) → KeptSpot s whole line place → Kept s whole line (expr.Read place)
  read_kept line place kept r c n credit at p from rich stands below fits go =
      let code = spot_code s at r line place in
      let at1 = at + length code in
      let last = one line (reading r (access s r place)) in
      let here = has_back s.program s.function at code last stands in
      kept r (target_in s whole c Read (λ cell. Asks (Loading cell) Value) (λ p. refl)) n credit at p from rich
      (has_front s.program s.function at code last stands) below fits
      (λ q cell reach is.
      reads s whole n credit at1 r (access s r place) cell q (c.around (Read (At cell))) (λ v. c.around (Value v)) is from reach.fits here.0 (c.part (Read (At cell)))
      (λ q2 reach2.
      meets_at s whole (c.around (Value (q2.registers r))) n credit (at + length (code ++ last)) (at1 + 1) q2 (omega (arith, length-append code last))
      (go q2 (reaches_on s r r p q q2 (omega arith) reach reach2))))

  pub assign_kept : (line : ℕ) (place : Spot) (shape : _) (e : Row_of-Expr 1) → KeptSpot s whole line place → KeptBox s whole e → Kept s whole line (expr.Assign' place shape e)
  assign_kept line place shape e kept second r c n credit at p from rich stands below fits go =
      let value = r + held place in
      let cp = spot_code s at r line place in
      let at1 = at + length cp in
      let ce = box_code s at1 value e in
      let at2 = at1 + length ce in
      let o = boxed_operand value e in
      let last : List Lined = lined line (writing (access s r place) o) ∷ one line (quad.Copy r o) in
      let behind = has_back s.program s.function at cp (ce ++ last) stands in
      let here = has_back s.program s.function at1 ce last behind in
      kept r (target_in s whole c (λ p. Assign p (box_term s e)) (λ cell. next_within (Assign (At cell)) (next s.number s.call_code s.depth (box_term s e)) (λ v. Asks (Storing cell v) (λ _. Value v))) (λ p. refl)) n credit at p from rich
      (has_front s.program s.function at cp (ce ++ last) stands) below.0 fits
      (λ q cell reach is.
      second value (operand_in s whole c (Assign (At cell)) (λ v. Asks (Storing cell v) (λ _. Value v)) (λ e. refl)) n credit at1 q (omega (arith, from)) rich
      (has_front s.program s.function at1 ce last behind) below.1 reach.fits
      (λ q2 reach2.
      let v = operand_value q2.registers o in
      writes s whole n credit at2 r (access s r place) o cell q2 (c.around (Assign (At cell) (Value v))) (λ _. c.around (Value v))
      (place_kept s r place cell q.registers q2.registers from reach2.waits is) reach2.fits here.0 (c.part (Assign (At cell) (Value v)))
      (λ q3 reach3 same.
      subst (λ v. Meets s whole (c.around (Value v)) n (credit + 60) (at2 + 1) q3) (boxed_operand_kept value e q2.registers q3.registers (same value (omega (arith, from))))
      (copies s whole c n (credit + 60) credit (at2 + 1) r o q3 here.2.0 (omega arith) from reach3.fits
      (λ q4 reach4.
      meets_at s whole (c.around (Value (q4.registers r))) n credit (at + length (cp ++ (ce ++ last))) (at2 + 1 + 1) q4 (omega (arith, length-append cp (ce ++ last), length-append ce last))
      (go q4 (reaches_on s r r p q3 q4 (omega arith) (reaches_on s r r p q2 q3 (omega arith) (reaches_on s r value p q q2 (omega arith) reach reach2) reach3) reach4)))))))
