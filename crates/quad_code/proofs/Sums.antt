-- The quads of prefix-sums keep to the source.
use Rattle.quad_code.specs.Known.{SpotKnown, SummedKnown}
use Rattle.std.proofs.Common.{◌≡◌, refl, sym, ◌∙◌, ap, subst, arith, ℕ, ◌+◌, ◌-◌, ◌%◌, ◌^◌, ◌≤◌, ◌<◌, true, false, if◌then◌else◌, List, [], ◌∷◌, ◌++◌, length, length-append, Some, None}
use Rattle.std.specs.Prelude.{Bool}
use Rattle.xmt_base.specs.declared.values.TrapKind.TheVariants.{PsIncrement}
use Rattle.xmt_base.specs.declared.operators.BinOp.TheVariants as operator
use Rattle.xmt_base.specs.Action as action
use Rattle.source_meaning.specs.declared.tree.Spot.{Spot}
use Rattle.source_meaning.specs.declared.tree.Spot.TheVariants as spot
use Rattle.source_meaning.specs.declared.tree.StmtKind.TheVariants as stmt
use Rattle.source_meaning.specs.Layout.{first_word}
use Rattle.source_meaning.specs.Store.{Cell, Word, Register, Outer, Private, Store, store_with}
use Rattle.source_meaning.specs.Term.{At, Value, Done, Set, PrefixSum, Add}
use Rattle.source_meaning.specs.Next.{Next, Asks, Traps, Adding, may_add, next_within, next_target}
use Rattle.source_meaning.specs.Trace.{shared_of, action_at, cell_reply, step_of}
use Rattle.xmt_quads.specs.declared.code.Operand.TheVariants.{Reg}
use Rattle.xmt_quads.specs.declared.code.Where.{Where}
use Rattle.xmt_quads.specs.declared.code.Where.TheVariants as reached
use Rattle.xmt_quads.specs.declared.code.Quad.TheVariants as quad
use Rattle.xmt_quads.specs.Meaning.{Registers, with_register, place_of, may_increment, reached_depth}
use Rattle.quad_code.specs.declared.Access.{Access}
use Rattle.quad_code.specs.declared.Access.TheVariants.{Own, Common}
use Rattle.quad_code.specs.Lined.{Lined, one}
use Rattle.quad_code.specs.Expressions.{held, writing, adding}
use Rattle.quad_code.specs.Statements.{sum_at}
use Rattle.quad_code.proofs.Setting.{Setting, Point, own_is_private, Stands, has_front, has_back, set_register, register_set, register_other, register_above, Fits, Reaches, reaches_on, reaches_set}
use Rattle.quad_code.proofs.Steps.{TargetContext, within_within, Meets, meets_at, both, alone, trapped, asked}
use Rattle.quad_code.proofs.Places.{IsPlace, write_own, write_common, reads, writes}
use Rattle.quad_code.proofs.Kept.{spot_code, target, access, KeptSpot, richer}
use Rattle.quad_code.proofs.Writes.{local_place, register_kept}
use Rattle.quad_code.proofs.KeptCode.{CodeContext, nexts, KeptCode, same}

-- ---- what the source does

private_add : {T : Type 0} (R : Type 0) (store : Store) (replies : List ℕ) (cell : Cell) (v : ℕ) (left : ℕ → T) → shared_of cell ≡ None → step_of {R = R} store replies (Asks (Adding cell v) left) ≡ Some ([], record { code = left (store cell); store = store_with store cell ((store cell + v) % 2 ^ 32); replies = replies })
private_add R store replies cell v left h =
    rw h (ap (λ o. Some (action_at o (λ place. action.Add place v), record { code = left (store cell); store = store_with store cell ((store cell + v) % 2 ^ 32); replies = replies })) h)

-- a private cell takes any increment
private_may_add : (cell : Cell) (v : ℕ) → shared_of cell ≡ None → may_add cell v ≡ true
private_may_add (Private t d n) v is = refl
private_may_add (Word a) v is = refl
private_may_add (Outer t d n) v is = refl
private_may_add (Register a) v is = cc

-- a shared one takes those that the place of the quads takes
shared_may_add : (cell : Cell) (place : Where) (depth : ℕ) (registers : Registers) (v : ℕ) → shared_of cell ≡ Some (place_of depth registers place) → may_add cell v ≡ may_increment place v
shared_may_add (Private t d n) place depth registers v is = cc
shared_may_add (Register a) (reached.PsReg r) depth registers v is = refl
shared_may_add (Register a) (reached.Word w) depth registers v is = cc
shared_may_add (Register a) (reached.Element base index) depth registers v is = cc
shared_may_add (Register a) (reached.Outer n) depth registers v is = cc
shared_may_add (Word a) (reached.PsReg r) depth registers v is = cc
shared_may_add (Word a) _ depth registers v is = refl
shared_may_add (Outer t d n) (reached.PsReg r) depth registers v is = cc
shared_may_add (Outer t d n) _ depth registers v is = refl

module _ (s : Setting) {U S : Type 0} (whole : U → Next U S) where
  -- ---- the variable

  -- the variable of a prefix-sum is a cell that the quads reach whatever the registers hold
  record SummedAt (line : ℕ) (v : Spot) : Type 0 where
    cell : Cell
    is_target : target s line v ≡ At cell
    is_place : (registers : Registers) → IsPlace s registers cell (access s s.variables v)

  summed_at : (line : ℕ) (v : Spot) → SummedKnown (length s.globals) s.known v → SummedAt line v
  summed_at line (spot.Global g) known =
      record { cell = Word (first_word s.globals g); is_target = refl; is_place = λ registers. (ap (λ w. Some (action.Word w)) (sym (s.bases g known)), refl) }
  summed_at line (spot.Local slot) known =
      record { cell = s.frame slot; is_target = refl; is_place = λ registers. local_place s whole registers slot (s.outer slot) known refl }
  summed_at line (spot.Element' g shape index) known = absurd known
  summed_at line (spot.Register x) known = absurd known

  -- ---- the place

  -- what stands around the place, once the variable is read
  abbrev place_in : (c : CodeContext s whole) (line : ℕ) (variable : Cell) (increment : ℕ) → TargetContext s whole
  place_in c line variable increment =
      record {
        around = λ p. c.around (Add line variable p increment);
        go = λ cell. next_within c.around (if may_add cell increment then Asks (Adding cell increment) (λ old. Set (At variable) (Value old)) else Traps PsIncrement line) c.go;
        part =
            λ p.
            c.part (Add line variable p increment) ∙
            within_within (λ p. Add line variable p increment) c.around (next_target s.number s.call_code s.depth p)
            (λ cell. if may_add cell increment then Asks (Adding cell increment) (λ old. Set (At variable) (Value old)) else Traps PsIncrement line) c.go;
      }

  -- the next step once the place is known, where this is whether it takes the increment
  add_is : (c : CodeContext s whole) (line : ℕ) (variable cell : Cell) (increment : ℕ) (b : Bool) → may_add cell increment ≡ b →
      whole (c.around (Add line variable (At cell) increment)) ≡ next_within c.around (if b then Asks (Adding cell increment) (λ old. Set (At variable) (Value old)) else Traps PsIncrement line) c.go
  add_is c line variable cell increment b e =
      c.part (Add line variable (At cell) increment) ∙
      ap (λ b. next_within c.around (if b then Asks (Adding cell increment) (λ old. Set (At variable) (Value old)) else Traps PsIncrement line) c.go) e

  -- The value of a register is added to a place, and what the place held comes into another register behind it. A register of a variable takes two quads for the one step, for which the credit lends.
  adds : (c : CodeContext s whole) (variable : Cell) (n credit at line old r : ℕ) (access : Access) (cell : Cell) (p : Point) → IsPlace s p.registers cell access → s.variables ≤ r → r < old → Fits s p → 4 ≤ credit → Stands s at (adding line old access (Reg r)) →
      ((q : Point) → Reaches s old p q → Meets s whole (c.around (Set (At variable) (Value (q.registers old)))) n credit (at + length (adding line old access (Reg r))) q) →
      Meets s whole (c.around (Add line variable (At cell) (p.registers r))) n credit at p
  adds c variable n credit at line old r (Own x) cell p (same, own, low) from less fits rich stands go =
      let held = p.registers x in
      let i = p.registers r in
      let code = c.around (Add line variable (At cell) i) in
      let left : ℕ → U = λ old. c.around (Set (At variable) (Value old)) in
      let p1 = set_register s old held p in
      let reach1 = reaches_set s old old held p (omega (arith, from, less)) (omega arith) fits in
      let below : x < old = omega (arith, s.known_low x low, from, less) in
      let held1 = p1.registers x in
      let i1 = p1.registers r in
      let same_held : held1 ≡ held = register_other s p.registers old held x below in
      let same_i : i1 ≡ i = register_other s p.registers old held r less in
      let sum = (held1 + i1) % 2 ^ 32 in
      let p2 : Point = record p1 { registers = with_register p1.registers x sum; store = store_with p1.store (s.frame x) sum } in
      let reach2 = write_own s old x sum p1 own low reach1.fits in
      let private : shared_of cell ≡ None = ap shared_of same ∙ own_is_private s x own in
      let in_store : p.store cell ≡ held1 = ap p.store same ∙ sym (fits x low own) ∙ sym same_held in
      let in_register : held1 ≡ p2.registers old = same_held ∙ sym (register_above s p1.registers x sum old below ∙ register_set s p.registers old held) in
      alone s whole n credit (credit - 4) at (at + 1) (quad.Copy old (Reg x)) p p1 code stands.0 refl refl refl (omega (arith, rich))
      (both s whole n (credit - 4) credit (at + 1) (at + 1 + 1) (quad.Binary operator.Add x (Reg x) (Reg r)) p1 p2 code (left held1) stands.2.0 refl refl
      (λ replies.
      ap (step_of p.store replies) (add_is c line variable cell i true (private_may_add cell i private)) ∙
      private_add S p.store replies cell i left private ∙
      ap (λ v. Some ([], record { code = left v; store = store_with p.store cell ((v + i) % 2 ^ 32); replies = replies })) in_store ∙
      ap (λ i. Some ([], record { code = left held1; store = store_with p.store cell ((held1 + i) % 2 ^ 32); replies = replies })) (sym same_i) ∙
      ap (λ cell. Some ([], record { code = left held1; store = store_with p.store cell sum; replies = replies })) same)
      (omega (arith, rich))
      (subst (λ v. Meets s whole (left v) n credit (at + 1 + 1) p2) (sym in_register)
      (meets_at s whole (left (p2.registers old)) n credit (at + length (adding line old (Own x) (Reg r))) (at + 1 + 1) p2 (omega arith)
      (go p2 (reaches_on s old old p p1 p2 (omega arith) reach1 reach2)))))
  adds c variable n credit at line old r (Common place) cell p (shared, inside) from less fits rich stands go = by_increment (may_increment place (p.registers r)) refl
    where
      by_increment : (b : Bool) → may_increment place (p.registers r) ≡ b → Meets s whole (c.around (Add line variable (At cell) (p.registers r))) n credit at p
      by_increment false e =
          let i = p.registers r in
          let depth = reached_depth s.parent s.callers in
          trapped s whole n credit at line PsIncrement (quad.Add old place (Reg r)) p (c.around (Add line variable (At cell) i)) stands.0 refl stands.1
          (rw (inside, e) refl)
          (add_is c line variable cell i false (shared_may_add cell place depth p.registers i shared ∙ e))
      by_increment true e =
          let i = p.registers r in
          let depth = reached_depth s.parent s.callers in
          let there = place_of depth p.registers place in
          let sum = (p.store cell + i) % 2 ^ 32 in
          let left : ℕ → U = λ old. c.around (Set (At variable) (Value old)) in
          let got : ℕ → Point = λ reply. record p { registers = with_register p.registers old reply; store = store_with p.store cell sum } in
          asked s whole n credit credit at (at + 1) (quad.Add old place (Reg r)) (action.Add there i) p got (c.around (Add line variable (At cell) i)) (Adding cell i) left stands.0 refl
          (rw (inside, e) refl)
          (add_is c line variable cell i true (shared_may_add cell place depth p.registers i shared ∙ e))
          (ap (λ o. action_at o (λ place. action.Add place i)) shared) refl (λ reply replies. ap (λ o. cell_reply o (p.store cell) (reply ∷ replies)) shared)
          (omega arith) (λ reply. refl)
          (λ reply.
          let p1 = set_register s old reply p in
          let reach1 = reaches_set s old old reply p (omega (arith, from, less)) (omega arith) fits in
          subst (λ v. Meets s whole (left v) n credit (at + 1) (got reply)) (register_set s p.registers old reply)
          (go (got reply) (reaches_on s old old p p1 (got reply) (omega arith) reach1 (write_common s old sum cell there p1 shared reach1.fits))))

  -- ---- both statements

  sum_kept : (line : ℕ) (v place : Spot) → KeptSpot s whole line place → (c : CodeContext s whole) (n credit at : ℕ) (p : Point) (x : U) → 40 ≤ credit →
      Stands s at (sum_at s.base_of s.size_of s.outer s.variables at line v place) → SummedKnown (length s.globals) s.known v → SpotKnown (length s.globals) (s.MayCall s.region) s.known place → Fits s p →
      whole x ≡ next_within c.around (nexts s whole (PrefixSum line (target s line v) (target s line place))) c.go →
      ((q : Point) → Reaches s s.variables p q → Meets s whole (c.around Done) n credit (at + length (sum_at s.base_of s.size_of s.outer s.variables at line v place)) q) → Meets s whole x n credit at p
  sum_kept line v place kept c n credit at p x rich stands known below fits ex go =
      let r = s.variables in
      let found = summed_at line v known in
      let variable = found.cell in
      let own = access s r v in
      let old = r + 1 + held place in
      let cp = spot_code s (at + 1) (r + 1) line place in
      let at1 = at + 1 + length cp in
      let ca = adding line old (access s (r + 1) place) (Reg r) in
      let at2 = at1 + length ca in
      let last : List Lined = one line (writing own (Reg old)) in
      let behind = has_back s.program s.function (at + 1) cp (ca ++ last) stands.2 in
      let here = has_back s.program s.function at1 ca last behind in
      let pt = target s line place in
      let first = PrefixSum line (At variable) pt in
      same s whole n credit at x (c.around first) p (ex ∙ ap (λ t. next_within c.around (nexts s whole (PrefixSum line t pt)) c.go) found.is_target ∙ sym (c.part first))
      (reads s whole n credit at r own variable p (c.around first) (λ v. c.around (Add line variable pt v)) (found.is_place p.registers) (omega arith) fits stands.0 (c.part first)
      (λ q reach.
      kept (r + 1) (place_in c line variable (q.registers r)) n credit (at + 1) q (omega arith) rich (has_front s.program s.function (at + 1) cp (ca ++ last) stands.2) below reach.fits
      (λ q2 cell reach2 is.
      subst (λ i. Meets s whole (c.around (Add line variable (At cell) i)) n credit at1 q2) (reach2.waits r (omega arith) (omega arith))
      (adds c variable n credit at1 line old r (access s (r + 1) place) cell q2 is (omega arith) (omega arith) reach2.fits (omega (arith, rich)) (has_front s.program s.function at1 ca last behind)
      (λ q3 reach3.
      let w = q3.registers old in
      let set = Set (At variable) (Value w) in
      writes s whole n credit at2 r own (Reg old) variable q3 (c.around set) (λ _. c.around Done) (found.is_place q3.registers) reach3.fits here.0 (c.part set)
      (λ q4 reach4 others.
      richer s whole (c.around Done) n credit (credit + 60) (at2 + 1) q4 (omega arith)
      (meets_at s whole (c.around Done) n credit (at + length (sum_at s.base_of s.size_of s.outer s.variables at line v place)) (at2 + 1) q4 (omega (arith, length-append cp (ca ++ last), length-append ca last))
      (go q4 (reaches_on s r r p q3 q4 (omega arith) (reaches_on s r old p q2 q3 (omega arith) (reaches_on s r (r + 1) p q q2 (omega arith) reach reach2) reach3) reach4)))))))))

  pub ps_kept : (line : ℕ) (v : Spot) (r : ℕ) → KeptCode s whole line (stmt.Ps v r)
  ps_kept line v r c n credit low at leave again met loop p x rich spare stands below fits e leads =
      sum_kept line v (spot.Register r) (register_kept s whole line r) c n credit at p x rich stands below.0 below.1 fits e (λ q reach. leads.ends q (c.around Done) (c.part Done) reach)

  pub psm_kept : (line : ℕ) (v place : Spot) → KeptSpot s whole line place → KeptCode s whole line (stmt.Psm v place)
  psm_kept line v place kept c n credit low at leave again met loop p x rich spare stands below fits e leads =
      sum_kept line v place kept c n credit at p x rich stands below.0 below.1 fits e (λ q reach. leads.ends q (c.around Done) (c.part Done) reach)
