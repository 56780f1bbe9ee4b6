-- Reading and writing a place: a register and a private cell, or the same shared place.
use Rattle.std.proofs.Common.{◌≡◌, refl, sym, ◌∙◌, ap, subst, arith, ℕ, ◌+◌, ◌≤◌, true, false, List, [], ◌∷◌, length, Some, None}
use Rattle.std.specs.Prelude.{◌==◌, Bool}
use Rattle.xmt_base.specs.Action.{Action, Shared}
use Rattle.xmt_base.specs.Action as action
use Rattle.source_meaning.specs.Store.{Cell, Word, Register, Outer, Private, Store, same_cell, store_with}
use Rattle.source_meaning.specs.Next.{Next, Asks, Loading, Storing}
use Rattle.source_meaning.specs.Trace.{shared_of, action_at, cell_reply, step_of, reply_to, action_of}
use Rattle.source_meaning.proofs.Commute.{same_cell-refl}
use Rattle.xmt_quads.specs.declared.code.Operand.{Operand}
use Rattle.xmt_quads.specs.declared.code.Operand.TheVariants.{Reg}
use Rattle.xmt_quads.specs.declared.code.Quad.TheVariants as quad
use Rattle.xmt_quads.specs.Program.{quad_at}
use Rattle.xmt_quads.specs.Meaning.{Registers, with_register, operand_value, place_of, is_inside, reached_depth}
use Rattle.quad_code.specs.declared.Access.{Access}
use Rattle.quad_code.specs.declared.Access.TheVariants.{Own, Common}
use Rattle.quad_code.specs.Expressions.{reading, writing}
use Rattle.quad_code.proofs.Setting.{Setting, Point, thread_at, own_is_private, spared_is_private, set_register, register_set, Fits, Reaches, reaches_set}
use Rattle.quad_code.proofs.Steps.{Meets, both, asked, tells}

-- ---- what the source does

private_load : {T : Type 0} (R : Type 0) (store : Store) (replies : List ℕ) (cell : Cell) (left : ℕ → T) → shared_of cell ≡ None → step_of {R = R} store replies (Asks (Loading cell) left) ≡ Some ([], record { code = left (store cell); store = store; replies = replies })
private_load R store replies cell left h = rw h (ap (λ o. Some (action_at o action.Load, record { code = left (store cell); store = store; replies = replies })) h)

pub private_store : {T : Type 0} (R : Type 0) (store : Store) (replies : List ℕ) (cell : Cell) (v : ℕ) (left : ℕ → T) → shared_of cell ≡ None → step_of {R = R} store replies (Asks (Storing cell v) left) ≡ Some ([], record { code = left 0; store = store_with store cell v; replies = replies })
private_store R store replies cell v left h = rw h refl

pub shared_reply : (store : Store) (reply : ℕ) (replies : List ℕ) (cell : Cell) (place : Shared) → shared_of cell ≡ Some place → reply_to store (reply ∷ replies) (Loading cell) ≡ Some (reply, replies)
shared_reply store reply replies cell place h = ap (λ o. cell_reply o (store cell) (reply ∷ replies)) h

pub seen_load : (cell : Cell) (place : Shared) → shared_of cell ≡ Some place → action_of (Loading cell) ≡ action.Load place ∷ []
seen_load cell place h = ap (λ o. action_at o action.Load) h

pub seen_store : (cell : Cell) (place : Shared) (v : ℕ) → shared_of cell ≡ Some place → action_of (Storing cell v) ≡ action.Store place v ∷ []
seen_store cell place v h = ap (λ o. action_at o (λ place. action.Store place v)) h

-- a shared cell is no private one
shared_apart : (x y : Cell) (place : Shared) → shared_of x ≡ Some place → shared_of y ≡ None → same_cell x y ≡ false
shared_apart (Private t d n) y place is not = cc
shared_apart x (Word b) place is not = cc
shared_apart x (Register b) place is not = cc
shared_apart x (Outer u e m) place is not = cc
shared_apart (Word a) (Private u e m) place is not = refl
shared_apart (Register a) (Private u e m) place is not = refl
shared_apart (Outer t d n) (Private u e m) place is not = refl

module _ (s : Setting) where
  -- the cell that a quad reaches so
  abbrev pub IsPlace : Registers → Cell → Access → Type 0
  IsPlace registers cell (Own x) = (cell ≡ s.frame x) × (s.outer x ≡ None) × s.known x ≡ true
  IsPlace registers cell (Common place) =
      (shared_of cell ≡ Some (place_of (reached_depth s.parent s.callers) registers place)) × (is_inside (length s.program.words) registers place ≡ true)

  -- ---- what a write changes

  pub write_own : (r slot v : ℕ) (p : Point) → s.outer slot ≡ None → s.known slot ≡ true → Fits s p → Reaches s r p (record p { registers = with_register p.registers slot v; store = store_with p.store (s.frame slot) v })
  write_own r slot v p own low fits =
      record {
        waits = λ x from below. grind (arith, from, s.known_low slot low);
        spares = λ cell is. rw (s.spared_apart slot own cell is) refl;
        fits = λ other below mine. by_slot other below mine (slot == other) refl;
      }
    where
      by_slot : (other : ℕ) → s.known other ≡ true → s.outer other ≡ None → (b : Bool) → (slot == other) ≡ b → with_register p.registers slot v other ≡ store_with p.store (s.frame slot) v (s.frame other)
      by_slot other below mine true e =
          let same : slot ≡ other = grind (arith, e) in
          let found : same_cell (s.frame slot) (s.frame other) ≡ true = subst (λ o. same_cell (s.frame slot) (s.frame o) ≡ true) same (same_cell-refl (s.frame slot)) in
          rw (e, found) refl
      by_slot other below mine false e = rw (e, s.apart slot other own mine e) (fits other below mine)

  pub write_common : (r v : ℕ) (cell : Cell) (place : Shared) (p : Point) → shared_of cell ≡ Some place → Fits s p → Reaches s r p (record p { store = store_with p.store cell v })
  write_common r v cell place p is fits =
      record {
        waits = λ x from below. refl;
        spares = λ other spared. rw (shared_apart cell other place is (spared_is_private s other spared)) refl;
        fits = λ slot low own. rw (shared_apart cell (s.frame slot) place is (own_is_private s slot own)) (fits slot low own);
      }

-- ---- a quad that reads or writes, beside the step of the source

module _ (s : Setting) {U S : Type 0} (whole : U → Next U S) where
  pub reads : (n credit at x : ℕ) (access : Access) (cell : Cell) (p : Point) (code : U) (left : ℕ → U) → IsPlace s p.registers cell access → s.variables ≤ x → Fits s p → quad_at s.program s.function at ≡ Some (reading x access) → whole code ≡ Asks (Loading cell) left → ((q : Point) → Reaches s x p q → Meets s whole (left (q.registers x)) n credit (at + 1) q) → Meets s whole code n credit at p
  reads n credit at x (Own y) cell p code left (same, own, low) from fits here asks go =
      let v = p.registers y in
      let held : p.store cell ≡ v = ap p.store same ∙ sym (fits y low own) in
      both s whole n credit credit at (at + 1) (quad.Copy x (Reg y)) p (set_register s x v p) code (left v) here refl refl
      (λ replies.
      ap (step_of p.store replies) asks ∙
      private_load S p.store replies cell left (ap shared_of same ∙ own_is_private s y own) ∙
      ap (λ v. Some ([], record { code = left v; store = p.store; replies = replies })) held)
      (omega arith)
      (subst (λ v'. Meets s whole (left v') n credit (at + 1) (set_register s x v p)) (register_set s p.registers x v)
      (go (set_register s x v p) (reaches_set s x x v p from (omega arith) fits)))
  reads n credit at x (Common place) cell p code left (shared, inside) from fits here asks go =
      let d = reached_depth s.parent s.callers in
      asked s whole n credit credit at (at + 1) (quad.Load x place) (action.Load (place_of d p.registers place)) p (λ reply. set_register s x reply p) code (Loading cell) left here refl
      (rw inside refl) asks (seen_load cell (place_of d p.registers place) shared) refl (λ reply replies. shared_reply p.store reply replies cell (place_of d p.registers place) shared)
      (omega arith) (λ reply. refl)
      (λ reply.
      subst (λ v. Meets s whole (left v) n credit (at + 1) (set_register s x reply p)) (register_set s p.registers x reply)
      (go (set_register s x reply p) (reaches_set s x x reply p from (omega arith) fits)))

  -- a store of both
  pub stores : (n credit at : ℕ) (place : _) (o : Operand) (cell : Cell) (p : Point) (code : U) (left : ℕ → U) → shared_of cell ≡ Some (place_of (reached_depth s.parent s.callers) p.registers place) → is_inside (length s.program.words) p.registers place ≡ true → quad_at s.program s.function at ≡ Some (quad.Store place o) →
      whole code ≡ Asks (Storing cell (operand_value p.registers o)) left → Meets s whole (left 0) n (credit + 60) (at + 1) (record p { store = store_with p.store cell (operand_value p.registers o) }) → Meets s whole code n credit at p
  stores n credit at place o cell p code left shared inside here asks m =
      let d = reached_depth s.parent s.callers in
      let v = operand_value p.registers o in
      tells s whole n credit (credit + 60) at (quad.Store place o) (action.Store (place_of d p.registers place) v) p (λ reply. thread_at s (at + 1) p) code (Storing cell v) left here refl
      (rw inside refl) asks (seen_store cell (place_of d p.registers place) v shared) refl (λ replies. refl) (omega arith) (λ reply. m)

  pub writes : (n credit at r : ℕ) (access : Access) (o : Operand) (cell : Cell) (p : Point) (code : U) (left : ℕ → U) → IsPlace s p.registers cell access → Fits s p → quad_at s.program s.function at ≡ Some (writing access o) → whole code ≡ Asks (Storing cell (operand_value p.registers o)) left → ((q : Point) → Reaches s r p q → ((x : ℕ) → s.variables ≤ x → q.registers x ≡ p.registers x) → Meets s whole (left 0) n (credit + 60) (at + 1) q) → Meets s whole code n credit at p
  writes n credit at r (Own y) o cell p code left (same, own, low) fits here asks go =
      let v = operand_value p.registers o in
      let q : Point = record p { registers = with_register p.registers y v; store = store_with p.store cell v } in
      let reach = write_own s r y v p own low fits in
      let there : Point = record p { registers = with_register p.registers y v; store = store_with p.store (s.frame y) v } in
      let e : there ≡ q = ap (λ c. record p { registers = with_register p.registers y v; store = store_with p.store c v }) (sym same) in
      both s whole n credit (credit + 60) at (at + 1) (quad.Copy y o) p q code (left 0) here refl refl
      (λ replies. ap (step_of p.store replies) asks ∙ private_store S p.store replies cell v left (ap shared_of same ∙ own_is_private s y own))
      (omega arith)
      (go q (subst (Reaches s r p) e reach) (λ x from. grind (arith, from, s.known_low y low)))
  writes n credit at r (Common place) o cell p code left (shared, inside) fits here asks go =
      let v = operand_value p.registers o in
      stores n credit at place o cell p code left shared inside here asks
      (go (record p { store = store_with p.store cell v }) (write_common s r v cell (place_of (reached_depth s.parent s.callers) p.registers place) p shared fits) (λ x from. refl))
