-- Entering a call, and leaving it. What lies between is the body, in a setting one deeper.
use Rattle.std.proofs.Common.{◌≡◌, refl, ◌∙◌, ap, subst, arith, ℕ, zero, suc, ◌+◌, ◌≤◌, true, false, if◌then◌else◌, List, [], ◌∷◌, length, Some}
use Rattle.std.specs.Prelude.{Bool, nat_lt}
use Rattle.xmt_base.specs.declared.values.TrapKind.TheVariants.{CallDepth}
use Rattle.source_meaning.specs.Term.{Value, Call, Entered}
use Rattle.source_meaning.specs.Next.{Next, Is, Asks, Traps, Quietly, next_within, next_values, quiet_step}
use Rattle.source_meaning.specs.Trace.{step_of}
use Rattle.xmt_quads.specs.declared.code.Operand.{Operand}
use Rattle.xmt_quads.specs.declared.code.Quad.TheVariants as quad
use Rattle.xmt_quads.specs.Program.{quad_at, line_at}
use Rattle.xmt_quads.specs.Meaning.{Caller, QuadThread, operand_value, Traps as Trapping, goes, returns, enters as entering}
use Rattle.quad_laws.proofs.Keeps.{keeps_zero}
use Rattle.quad_code.proofs.Setting.{Setting, Point, AtSpawn, StandsAs, IsOver, thread_at, moves, costs, lives, set_register, register_set, Fits, Reaches, reaches_set}
use Rattle.quad_code.proofs.Steps.{Context, Meets, KeepsTo, one_less, stands_as, beside, alone, trapped}
use Rattle.quad_code.proofs.Values.{terms_of}

module _ (s : Setting) {U S : Type 0} (whole : U → Next U S) where
  pub values_known : (vs : List ℕ) → next_values s.number s.call_code s.depth (terms_of vs) ≡ Is vs
  values_known [] = refl
  values_known (v ∷ vs) = rw (values_known vs) refl

  -- A call with its values is entered, or both trap. The body's runs are shorter, and may be taken to keep to the source.
  pub enters : (n credit at line function : ℕ) (c : Context s whole) (vs : List ℕ) (p : Point) → quad_at s.program s.function at ≡ Some (quad.Call function) → line_at s.program s.function at ≡ line →
      ((m : ℕ) → n ≡ suc m → suc m ≤ s.most → KeepsTo s whole m (credit + 20) (entering (thread_at s at p) function) (c.around (Entered (s.call_code function (suc s.depth) vs))) p.store) → Meets s whole (c.around (Call line function (terms_of vs))) n credit at p
  enters n credit at line function c vs p here lined body = by_depth (nat_lt s.depth 256) refl n body
    where
      next_is : (b : Bool) → nat_lt s.depth 256 ≡ b → whole (c.around (Call line function (terms_of vs))) ≡ next_within c.around (if b then quiet_step (Entered (s.call_code function (suc s.depth) vs)) else Traps CallDepth line) c.go
      next_is b e =
          c.part (Call line function (terms_of vs)) ∙
          ap (λ m. next_within c.around (next_within (Call line function) m (λ vs. if nat_lt s.depth 256 then quiet_step (Entered (s.call_code function (suc s.depth) vs)) else Traps CallDepth line)) c.go) (values_known vs) ∙
          ap (λ b. next_within c.around (if b then quiet_step (Entered (s.call_code function (suc s.depth) vs)) else Traps CallDepth line) c.go) e

      deep : (b : Bool) → nat_lt s.depth 256 ≡ b → nat_lt (length s.callers) 256 ≡ b
      deep b e = ap (λ d. nat_lt d 256) s.deep ∙ e

      by_depth : (b : Bool) → nat_lt s.depth 256 ≡ b → (n : ℕ) → ((m : ℕ) → n ≡ suc m → suc m ≤ s.most → KeepsTo s whole m (credit + 20) (entering (thread_at s at p) function) (c.around (Entered (s.call_code function (suc s.depth) vs))) p.store) → Meets s whole (c.around (Call line function (terms_of vs))) n credit at p
      by_depth false e n body =
          trapped s whole n credit at line CallDepth (quad.Call function) p (c.around (Call line function (terms_of vs))) here refl lined
          (ap (λ b. if b then goes (entering (thread_at s at p) function) else Trapping CallDepth) (deep false e)) (next_is false e)
      by_depth true e zero body =
          λ few.
          keeps_zero (moves s) (costs s) IsOver (StandsAs (AtSpawn s) s.program) whole credit (thread_at s at p) (c.around (Call line function (terms_of vs))) p.store (lives s at p)
          (stands_as s at (quad.Call function) p (whole (c.around (Call line function (terms_of vs)))) _ here refl (ap (λ b. if b then goes (entering (thread_at s at p) function) else Trapping CallDepth) (deep true e)))
      by_depth true e (suc m) body =
          λ few.
          beside s whole m credit (credit + 20) at (quad.Call function) p (entering (thread_at s at p) function) (c.around (Call line function (terms_of vs))) (c.around (Entered (s.call_code function (suc s.depth) vs))) p.store here refl
          (ap (λ b. if b then goes (entering (thread_at s at p) function) else Trapping CallDepth) (deep true e))
          (λ replies. ap (step_of p.store replies) (next_is true e)) (omega arith) (body m refl few)

  -- what is there behind a return to this caller
  abbrev pub returned : Caller → (rest : List Caller) → (value : ℕ) → Point → QuadThread
  returned caller rest value p =
      record (thread_at s caller.at p) { function = caller.function; registers = caller.registers; callers = rest; result = value }

  -- The end of a call, in the setting of its body: a `return` beside the step that makes the exit the call's value.
  pub leaves : (n credit at : ℕ) (o : Operand) (caller : Caller) (rest : List Caller) (p : Point) (x y : U) → s.callers ≡ caller ∷ rest → quad_at s.program s.function at ≡ Some (quad.Return o) → whole x ≡ Asks Quietly (λ _. y) →
      (n ≤ s.most → KeepsTo s whole n (credit + 60) (returned caller rest (operand_value p.registers o) p) y p.store) → Meets s whole x n credit at p
  leaves n credit at o caller rest p x y called here steps k =
      λ few.
      one_less s whole n credit at p x
      (beside s whole n credit (credit + 60) at (quad.Return o) p (returned caller rest (operand_value p.registers o) p) x y p.store here refl
      (ap (returns (thread_at s at p) (operand_value p.registers o)) called)
      (λ replies. ap (step_of p.store replies) steps) (omega arith) (k few))

  -- the call's value comes into its register
  pub results : (c : Context s whole) (n credit left at r : ℕ) (p : Point) → quad_at s.program s.function at ≡ Some (quad.Result r) → left + 4 ≤ credit → s.variables ≤ r → Fits s p → ((q : Point) → Reaches s r p q → Meets s whole (c.around (Value (q.registers r))) n left (at + 1) q) → Meets s whole (c.around (Value p.result)) n credit at p
  results c n credit left at r p here pays from fits go =
      let w = p.result in
      alone s whole n credit left at (at + 1) (quad.Result r) p (set_register s r w p) (c.around (Value w)) here refl refl refl pays
      (subst (λ v. Meets s whole (c.around (Value v)) n left (at + 1) (set_register s r w p)) (register_set s p.registers r w)
      (go (set_register s r w p) (reaches_set s r r w p from (omega arith) fits)))
