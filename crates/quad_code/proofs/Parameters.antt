-- The parameters of a call come from the argument list to their variables.
use Rattle.std.proofs.Common.{◌≡◌, refl, sym, ◌∙◌, ap, arith, ℕ, zero, suc, ◌+◌, ◌-◌, ◌*◌, ◌≤◌, ◌<◌, true, false, List, [], ◌∷◌, ◌++◌, length, length-append, Option, Some, None}
use Rattle.std.specs.Prelude.{◌==◌, nat_lt, ◌&&◌, ◌||◌, Bool, slice_get}
use Rattle.source_meaning.specs.declared.tree.StmtKind.TheVariants as stmt
use Rattle.source_meaning.specs.Term.{At, Value, Code, Done, Then, Set}
use Rattle.source_meaning.specs.Next.{Next, Asks, Storing, next_within, next_code}
use Rattle.source_meaning.specs.Code.{with_parameters}
use Rattle.xmt_quads.specs.declared.code.Operand.TheVariants.{Reg}
use Rattle.xmt_quads.specs.declared.code.Quad.TheVariants as quad
use Rattle.xmt_quads.specs.Meaning.{with_register, operand_value, goes}
use Rattle.quad_code.specs.Functions.{parameter_code, parameters_code}
use Rattle.quad_code.proofs.Setting.{Setting, Point, Stands, has_front, has_back, Fits, Reaches, reaches_here, reaches_set, set_register, register_set, thread_at}
use Rattle.quad_code.proofs.Steps.{Meets, meets_at, alone}
use Rattle.quad_code.proofs.Kept.{richer}
use Rattle.quad_code.proofs.KeptCode.{after, knowing, reaches_to, CodeContext, same}
use Rattle.quad_code.proofs.Plain.{own_declared, shared_declared, declares_own, declares_shared}

-- the variables that are known once so many more are declared, from one on
abbrev pub known_from : (variables : ℕ) (known : ℕ → Bool) (slot count : ℕ) → (ℕ → Bool)
known_from v known slot zero = known
known_from v known slot (suc count) = known_from v (λ x. known x || ((x == slot) && nat_lt x v)) (suc slot) count

abbrev pub from_low : (t : Setting) (slot count : ℕ) (x : ℕ) → known_from t.variables t.known slot count x ≡ true → x < t.variables
from_low t slot zero x h = t.known_low x h
from_low t slot (suc count) x h = from_low (after t (stmt.Declare slot None)) (suc slot) count x h

-- those that were known stay so, and the declared ones are known
or_left : (a b : Bool) → a ≡ true → (a || b) ≡ true
or_left true b h = refl
or_left false b h = cc

or_right : (a b : Bool) → b ≡ true → (a || b) ≡ true
or_right true b h = refl
or_right false b h = h

stay_known : (v : ℕ) (known : ℕ → Bool) (slot count x : ℕ) → known x ≡ true → known_from v known slot count x ≡ true
stay_known v known slot zero x h = h
stay_known v known slot (suc count) x h = stay_known v (λ x. known x || ((x == slot) && nat_lt x v)) (suc slot) count x (or_left (known x) ((x == slot) && nat_lt x v) h)

pub are_known : (v : ℕ) (known : ℕ → Bool) (slot count x : ℕ) → slot + count ≤ v → slot ≤ x → x < slot + count → known_from v known slot count x ≡ true
are_known v known slot zero x le from below = absurd (omega (arith, from, below))
are_known v known slot (suc count) x le from below = by (x == slot) refl (λ from. are_known v (λ x. known x || ((x == slot) && nat_lt x v)) (suc slot) count x (omega (arith, le)) from (omega (arith, below)))
  where
    by : (b : Bool) → (x == slot) ≡ b → (suc slot ≤ x → known_from v known slot (suc count) x ≡ true) → known_from v known slot (suc count) x ≡ true
    by true e further =
        let same : x ≡ slot = grind (arith, e) in
        let low : nat_lt x v ≡ true = grind (arith, le, same) in
        let here : ((x == slot) && nat_lt x v) ≡ true = rw (e, low) refl in
        stay_known v (λ x. known x || ((x == slot) && nat_lt x v)) (suc slot) count x (or_right (known x) ((x == slot) && nat_lt x v) here)
    by false e further = let more : suc slot ≤ x = grind (arith, e, from) in further more

module _ {U S : Type 0} (whole : U → Next U S) where
  -- the step of the source that writes a parameter
  writes_parameter : (t : Setting) (c : CodeContext t whole) (slot v : ℕ) (rest : Code) → whole (c.around (Then (Set (At (t.frame slot)) (Value v)) rest)) ≡ Asks (Storing (t.frame slot) v) (λ _. c.around (Then Done rest))
  writes_parameter t c slot v rest = c.part (Then (Set (At (t.frame slot)) (Value v)) rest)

  parameter_kept : (o : Option ℕ) (slot v n credit at : ℕ) (t : Setting) (c : CodeContext t whole) (p : Point) (rest : Code) → t.outer slot ≡ o → 4 ≤ credit → slot < t.variables → Fits t p → p.list slot ≡ v → Stands t at (parameter_code t.variables slot o) →
      ((q : Point) → Reaches (after t (stmt.Declare slot None)) t.variables p q → q.list ≡ p.list → Meets t whole (c.around (Then Done rest)) n (credit + 56) (at + length (parameter_code t.variables slot o)) q) →
      Meets t whole (c.around (Then (Set (At (t.frame slot)) (Value v)) rest)) n credit at p
  parameter_kept None slot v n credit at t c p rest own rich below fits held stands go =
      let there = own_declared t whole slot v p in
      let left = c.around (Then Done rest) in
      declares_own t whole n credit at slot v (quad.Parameter slot slot) p (c.around (Then (Set (At (t.frame slot)) (Value v)) rest)) left refl refl below own fits stands.0
      (ap (λ w. goes (thread_at t (at + 1) (record p { registers = with_register p.registers slot w }))) held) (writes_parameter t c slot v rest)
      (λ reach. richer t whole left n (credit + 56) (credit + 60) (at + 1) there (omega arith) (go there reach refl))
  parameter_kept (Some number) slot v n credit at t c p rest shared rich below fits held stands go =
      let free = t.variables in
      let code = c.around (Then (Set (At (t.frame slot)) (Value v)) rest) in
      let left = c.around (Then Done rest) in
      let p2 = set_register t free (p.list slot) p in
      let reach2 = reaches_set t free free (p.list slot) p (omega arith) (omega arith) fits in
      let holds : v ≡ operand_value p2.registers (Reg free) = sym held ∙ sym (register_set t p.registers free (p.list slot)) in
      let there = shared_declared t whole slot (operand_value p2.registers (Reg free)) p2 in
      alone t whole n credit (credit - 4) at (at + 1) (quad.Parameter free slot) p p2 code stands.0 refl refl refl (omega (arith, rich))
      (declares_shared t whole n (credit - 4) (at + 1) slot number (Reg free) p2 code left shared reach2.fits stands.2.0
      (writes_parameter t c slot v rest ∙ ap (λ w. Asks (Storing (t.frame slot) w) (λ _. left)) holds)
      (λ reach.
      richer t whole left n (credit + 56) (credit - 4 + 60) (at + 1 + 1) there (omega (arith, rich))
      (meets_at t whole left n (credit + 56) (at + 2) (at + 1 + 1) there (omega arith)
      (go there (reaches_to t (after t (stmt.Declare slot None)).known (after t (stmt.Declare slot None)).known_low free p p2 there reach2 reach) refl))))

  pub parameters_kept : (vs : List ℕ) (slot n credit at : ℕ) (t : Setting) (c : CodeContext t whole) (p : Point) (body : Code) (x : U) → 4 ≤ credit → slot + length vs ≤ t.variables → Fits t p → ((i v : ℕ) → slice_get vs i ≡ Some v → p.list (slot + i) ≡ v) →
      Stands t at (parameters_code t.outer t.variables slot (length vs)) → whole x ≡ next_within c.around (next_code t.number t.call_code t.depth (with_parameters t.frame slot vs body)) c.go →
      ((q : Point) (y : U) → whole y ≡ next_within c.around (next_code t.number t.call_code t.depth body) c.go → Reaches (knowing t (known_from t.variables t.known slot (length vs)) (from_low t slot (length vs))) t.variables p q →
      Meets t whole y n (credit + 56 * length vs) (at + length (parameters_code t.outer t.variables slot (length vs))) q) → Meets t whole x n credit at p
  parameters_kept [] slot n credit at t c p body x rich below fits holds stands e go =
      richer t whole x n (credit + 56 * 0) credit at p (omega arith) (meets_at t whole x n (credit + 56 * 0) (at + 0) at p (omega arith) (go p x e (reaches_here t t.variables p fits)))
  parameters_kept (v ∷ vs) slot n credit at t c p body x rich below fits holds stands e go =
      let d = after t (stmt.Declare slot None) in
      let first = parameter_code t.variables slot (t.outer slot) in
      let others = parameters_code t.outer t.variables (suc slot) (length vs) in
      let rest = with_parameters t.frame (suc slot) vs body in
      let at1 = at + length first in
      let here : slot ≡ slot + 0 = omega arith in
      let end : at + length (first ++ others) ≡ at1 + length others = omega (arith, length-append first others) in
      same t whole n credit at x (c.around (Then (Set (At (t.frame slot)) (Value v)) rest)) p (e ∙ sym (c.part (Then (Set (At (t.frame slot)) (Value v)) rest)))
      (parameter_kept (t.outer slot) slot v n credit at t c p rest refl rich (omega (arith, below)) fits (ap p.list here ∙ holds 0 v refl) (has_front t.program t.function at first others stands)
      (λ p1 reach kept.
      parameters_kept vs (suc slot) n (credit + 56) at1 d c p1 body (c.around (Then Done rest)) (omega arith) (omega (arith, below)) reach.fits
      (λ i w is. let next : suc slot + i ≡ slot + suc i = omega arith in ap p1.list next ∙ ap (λ (list : ℕ → ℕ). list (slot + suc i)) kept ∙ holds (suc i) w is) (has_back t.program t.function at first others stands) (c.part (Then Done rest))
      (λ q y ey further.
      richer t whole y n (credit + 56 * length (v ∷ vs)) (credit + 56 + 56 * length vs) (at1 + length others) q (omega arith)
      (meets_at t whole y n (credit + 56 * length (v ∷ vs)) (at + length (first ++ others)) (at1 + length others) q end
      (go q y ey (reaches_to d (known_from t.variables d.known (suc slot) (length vs)) (from_low d (suc slot) (length vs)) t.variables p p1 q reach further))))))
