-- Quads that end an expression: an operator, a copy, a test; and jumps.
use Rattle.std.proofs.Common.{◌≡◌, refl, ◌∙◌, ap, subst, arith, ℕ, suc, ◌+◌, ◌≤◌, true, false, if◌then◌else◌, List, [], Option, Some, None}
use Rattle.std.specs.Prelude.{◌==◌, Bool}
use Rattle.xmt_base.specs.declared.values.TrapKind.TheVariants.{DivideByZero}
use Rattle.xmt_base.specs.declared.operators.BinOp.{BinOp}
use Rattle.xmt_base.specs.Operators.{binary_value}
use Rattle.source_meaning.specs.Term.{Term, Value, Binary}
use Rattle.source_meaning.specs.Next.{Next, Asks, Quietly, next_within, next, operator_step}
use Rattle.source_meaning.specs.Trace.{step_of}
use Rattle.xmt_quads.specs.declared.code.Operand.{Operand}
use Rattle.xmt_quads.specs.declared.code.Quad.{Quad}
use Rattle.xmt_quads.specs.declared.code.Quad.TheVariants as quad
use Rattle.xmt_quads.specs.Program.{quad_at, line_at, weight, is_spawn}
use Rattle.xmt_quads.specs.Meaning.{operand_value, next_at, goes, assigns_option}
use Rattle.quad_laws.proofs.Keeps.{keeps_zero}
use Rattle.quad_code.proofs.Setting.{Setting, Point, AtSpawn, StandsAs, IsOver, thread_at, moves, costs, lives, set_register, register_set, Fits, Reaches, reaches_set}
use Rattle.quad_code.proofs.Steps.{Context, Meets, stands_as, beside, both, alone, trapped}

module _ (s : Setting) {U S : Type 0} (whole : U → Next U S) where
  -- a quad that gives the value which one quiet step gives
  pub gives : (c : Context s whole) (n credit at r w : ℕ) (q : Quad) (p : Point) (e : Term) → weight q ≡ 4 → is_spawn q ≡ 0 → quad_at s.program s.function at ≡ Some q → next_at s.program (thread_at s at p) (Some q) ≡ goes (thread_at s (at + 1) (set_register s r w p)) → next s.number s.call_code s.depth e ≡ Asks Quietly (λ _. Value w) → s.variables ≤ r → Fits s p → ((q : Point) → Reaches s r p q → Meets s whole (c.around (Value (q.registers r))) n (credit + 60) (at + 1) q) → Meets s whole (c.around e) n credit at p
  gives c n credit at r w q p e light plain here does steps from fits go =
      both s whole n credit (credit + 60) at (at + 1) q p (set_register s r w p) (c.around e) (c.around (Value w)) here plain does
      (λ replies. ap (step_of p.store replies) (c.part e ∙ ap (λ n. next_within c.around n c.go) steps))
      (omega (arith, light))
      (subst (λ v. Meets s whole (c.around (Value v)) n (credit + 60) (at + 1) (set_register s r w p)) (register_set s p.registers r w)
      (go (set_register s r w p) (reaches_set s r r w p from (omega arith) fits)))

  -- a copy of a value that is known
  pub copies : (c : Context s whole) (n credit left at r : ℕ) (o : Operand) (p : Point) → quad_at s.program s.function at ≡ Some (quad.Copy r o) → left + 4 ≤ credit → s.variables ≤ r → Fits s p → ((q : Point) → Reaches s r p q → Meets s whole (c.around (Value (q.registers r))) n left (at + 1) q) → Meets s whole (c.around (Value (operand_value p.registers o))) n credit at p
  copies c n credit left at r o p here pays from fits go =
      let w = operand_value p.registers o in
      alone s whole n credit left at (at + 1) (quad.Copy r o) p (set_register s r w p) (c.around (Value w)) here refl refl refl pays
      (subst (λ v. Meets s whole (c.around (Value v)) n left (at + 1) (set_register s r w p)) (register_set s p.registers r w)
      (go (set_register s r w p) (reaches_set s r r w p from (omega arith) fits)))

  pub jumps : (n credit left at to : ℕ) (p : Point) (code : U) → quad_at s.program s.function at ≡ Some (quad.Jump to) → left + 4 ≤ credit → Meets s whole code n left to p → Meets s whole code n credit at p
  jumps n credit left at to p code here pays m =
      alone s whole n credit left at to (quad.Jump to) p p code here refl refl refl pays m

  -- an operator on two values; where it may trap, both name the same line
  pub operates : (c : Context s whole) (n credit at line told r : ℕ) (op : BinOp) (a b : Operand) (x y : ℕ) (p : Point) → quad_at s.program s.function at ≡ Some (quad.Binary op r a b) → line_at s.program s.function at ≡ line → operand_value p.registers a ≡ x → operand_value p.registers b ≡ y → (binary_value op x y ≡ None → told ≡ line) → s.variables ≤ r → Fits s p → ((q : Point) → Reaches s r p q → Meets s whole (c.around (Value (q.registers r))) n (credit + 60) (at + 1) q) → Meets s whole (c.around (Binary told op (Value x) (Value y))) n credit at p
  operates c n credit at line told r op a b x y p here lined left right same from fits go = by_value (binary_value op x y) refl
    where
      values : binary_value op (operand_value p.registers a) (operand_value p.registers b) ≡ binary_value op x y
      values = ap (λ v. binary_value op v (operand_value p.registers b)) left ∙ ap (binary_value op x) right

      by_value : (o : Option ℕ) → binary_value op x y ≡ o → Meets s whole (c.around (Binary told op (Value x) (Value y))) n credit at p
      by_value None e =
          trapped s whole n credit at line DivideByZero (quad.Binary op r a b) p (c.around (Binary told op (Value x) (Value y))) here refl lined
          (ap (assigns_option (thread_at s at p) r) (values ∙ e))
          (c.part (Binary told op (Value x) (Value y)) ∙ ap (λ o. next_within c.around (operator_step told o) c.go) e ∙
          ap (λ l. next_within c.around (operator_step l None) c.go) (same e))
      by_value (Some w) e =
          gives c n credit at r w (quad.Binary op r a b) p (Binary told op (Value x) (Value y)) refl refl here
          (ap (assigns_option (thread_at s at p) r) (values ∙ e))
          (ap (operator_step told) e) from fits go

  -- ---- jumps beside a choice of the source

  -- a quiet step that chooses by a test
  chosen_is : (code : U) (chosen : Bool → U) (t b : Bool) (p : Point) → whole code ≡ Asks Quietly (λ _. chosen t) → t ≡ b → (replies : List ℕ) → step_of p.store replies (whole code) ≡ Some ([], record { code = chosen b; store = p.store; replies = replies })
  chosen_is code chosen t b p steps e replies = ap (step_of p.store replies) (steps ∙ ap (λ b. Asks Quietly (λ _. chosen b)) e)

  -- a jump where a value is 0
  pub if_zero : (n credit at to : ℕ) (o : Operand) (p : Point) (code : U) (chosen : Bool → U) → quad_at s.program s.function at ≡ Some (quad.IfZero o to) → whole code ≡ Asks Quietly (λ _. chosen (operand_value p.registers o == 0)) → (operand_value p.registers o == 0 ≡ true → Meets s whole (chosen true) n (credit + 60) to p) → (operand_value p.registers o == 0 ≡ false → Meets s whole (chosen false) n (credit + 60) (at + 1) p) → Meets s whole code n credit at p
  if_zero n credit at to o p code chosen here steps zero_side other_side = by_test (operand_value p.registers o == 0) refl
    where
      by_test : (b : Bool) → operand_value p.registers o == 0 ≡ b → Meets s whole code n credit at p
      by_test true e =
          both s whole n credit (credit + 60) at to (quad.IfZero o to) p p code (chosen true) here refl
          (ap (λ b. goes (thread_at s (if b then to else at + 1) p)) e) (chosen_is code chosen (operand_value p.registers o == 0) true p steps e) (omega arith) (zero_side e)
      by_test false e =
          both s whole n credit (credit + 60) at (at + 1) (quad.IfZero o to) p p code (chosen false) here refl
          (ap (λ b. goes (thread_at s (if b then to else at + 1) p)) e) (chosen_is code chosen (operand_value p.registers o == 0) false p steps e) (omega arith) (other_side e)

  -- a jump where a value is not 0
  pub if_not : (n credit at to : ℕ) (o : Operand) (p : Point) (code : U) (chosen : Bool → U) → quad_at s.program s.function at ≡ Some (quad.IfNot o to) → whole code ≡ Asks Quietly (λ _. chosen (operand_value p.registers o == 0)) → (operand_value p.registers o == 0 ≡ true → Meets s whole (chosen true) n (credit + 60) (at + 1) p) → (operand_value p.registers o == 0 ≡ false → Meets s whole (chosen false) n (credit + 60) to p) → Meets s whole code n credit at p
  if_not n credit at to o p code chosen here steps zero_side other_side = by_test (operand_value p.registers o == 0) refl
    where
      by_test : (b : Bool) → operand_value p.registers o == 0 ≡ b → Meets s whole code n credit at p
      by_test true e =
          both s whole n credit (credit + 60) at (at + 1) (quad.IfNot o to) p p code (chosen true) here refl
          (ap (λ b. goes (thread_at s (if b then at + 1 else to) p)) e) (chosen_is code chosen (operand_value p.registers o == 0) true p steps e) (omega arith) (zero_side e)
      by_test false e =
          both s whole n credit (credit + 60) at to (quad.IfNot o to) p p code (chosen false) here refl
          (ap (λ b. goes (thread_at s (if b then at + 1 else to) p)) e) (chosen_is code chosen (operand_value p.registers o == 0) false p steps e) (omega arith) (other_side e)

  -- ---- the same for a loop, which goes on with fewer quads than it began with

  pub if_not_none : (credit at to : ℕ) (o : Operand) (p : Point) (code : U) → quad_at s.program s.function at ≡ Some (quad.IfNot o to) → Meets s whole code 0 credit at p
  if_not_none credit at to o p code here =
      λ few.
      keeps_zero (moves s) (costs s) IsOver (StandsAs (AtSpawn s) s.program) whole credit (thread_at s at p) code p.store (lives s at p)
      (stands_as s at (quad.IfNot o to) p (whole code) _ here refl refl)

  pub if_not_less : (m credit at to : ℕ) (o : Operand) (p : Point) (code : U) (chosen : Bool → U) → quad_at s.program s.function at ≡ Some (quad.IfNot o to) → whole code ≡ Asks Quietly (λ _. chosen (operand_value p.registers o == 0)) → (operand_value p.registers o == 0 ≡ true → Meets s whole (chosen true) m (credit + 60) (at + 1) p) → (operand_value p.registers o == 0 ≡ false → Meets s whole (chosen false) m (credit + 60) to p) → Meets s whole code (suc m) credit at p
  if_not_less m credit at to o p code chosen here steps zero_side other_side = by_test (operand_value p.registers o == 0) refl
    where
      by_test : (b : Bool) → operand_value p.registers o == 0 ≡ b → Meets s whole code (suc m) credit at p
      by_test true e =
          λ few.
          beside s whole m credit (credit + 60) at (quad.IfNot o to) p (thread_at s (at + 1) p) code (chosen true) p.store here refl
          (ap (λ b. goes (thread_at s (if b then at + 1 else to) p)) e) (chosen_is code chosen (operand_value p.registers o == 0) true p steps e) (omega arith) (zero_side e (omega (arith, few)))
      by_test false e =
          λ few.
          beside s whole m credit (credit + 60) at (quad.IfNot o to) p (thread_at s to p) code (chosen false) p.store here refl
          (ap (λ b. goes (thread_at s (if b then at + 1 else to) p)) e) (chosen_is code chosen (operand_value p.registers o == 0) false p steps e) (omega arith) (other_side e (omega (arith, few)))

  -- a jump beside a quiet step of the source
  pub jumps_beside : (n credit at to : ℕ) (p : Point) (code left : U) → quad_at s.program s.function at ≡ Some (quad.Jump to) → whole code ≡ Asks Quietly (λ _. left) → Meets s whole left n (credit + 60) to p → Meets s whole code n credit at p
  jumps_beside n credit at to p code left here steps m =
      both s whole n credit (credit + 60) at to (quad.Jump to) p p code left here refl refl (λ replies. ap (step_of p.store replies) steps) (omega arith) m
