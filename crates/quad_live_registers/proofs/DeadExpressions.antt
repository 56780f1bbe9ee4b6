-- The code of an expression reads known variables that are not shared, and what it wrote itself.
use Rattle.std.proofs.Common.{◌≡◌, refl, sym, ◌∙◌, ap, arith, ℕ, ◌+◌, List, length, Option, Some, None, true, false}
use Rattle.std.specs.Prelude.{◌==◌, Bool, if◌then◌else◌, slice_get}
use Rattle.xmt_base.specs.declared.operators.BinOp.TheVariants.{Ne}
use Rattle.source_meaning.specs.declared.tree.ExprKind.{ExprKind, Row_of-Expr, end_of-Expr, more_of-Expr}
use Rattle.source_meaning.specs.declared.tree.ExprKind.TheVariants as expr
use Rattle.source_meaning.specs.declared.tree.Spot.{Spot}
use Rattle.source_meaning.specs.declared.tree.Spot.TheVariants as spot
use Rattle.xmt_quads.specs.declared.code.Operand.{Operand}
use Rattle.xmt_quads.specs.declared.code.Operand.TheVariants.{Reg, Literal}
use Rattle.xmt_quads.specs.declared.code.Quad.{Quad}
use Rattle.xmt_quads.specs.declared.code.Quad.TheVariants as quad
use Rattle.xmt_quads.specs.Live.{is_register, is_index, writes}
use Rattle.quad_code.specs.Lined.{Lined, one, code_then, choice}
use Rattle.quad_code.specs.declared.Access.{Access}
use Rattle.quad_code.specs.declared.Access.TheVariants.{Own, Common}
use Rattle.quad_code.specs.Known.{NamesKnown, SpotKnown, AllKnown}
use Rattle.quad_code.specs.Expressions.{access_of_slot, reading, writing, operand_of, boxed_operand, held, access_of, code_at, boxed_at, spot_at, values_at, arguments_of}
use Rattle.quad_live_registers.proofs.Dead.{neither, Stands, length_is, split, Dead, on, jump, if_zero, if_not, moved}

-- a reading of the place reads the register, and so does a writing but for what is written
abbrev pub access_reads : (x : ℕ) → Access → Bool
access_reads x (Own slot) = x == slot
access_reads x (Common place) = is_index x place

abbrev pub index_reads : (x : ℕ) → Access → Bool
index_reads x (Own slot) = false
index_reads x (Common place) = is_index x place

pub index_unread : (x : ℕ) (a : Access) → access_reads x a ≡ false → index_reads x a ≡ false
index_unread x (Own slot) h = refl
index_unread x (Common place) h = h

module _ (quads : List Quad) (x n : ℕ) where
  pub reading_dead : (at r : ℕ) (a : Access) → slice_get quads at ≡ Some (reading r a) → access_reads x a ≡ false → ((x == r) ≡ false → Dead quads x n (at + 1)) → Dead quads x n at
  reading_dead at r (Own slot) here u go = on quads x n at (quad.Copy r (Reg slot)) here refl u go
  reading_dead at r (Common place) here u go = on quads x n at (quad.Load r place) here refl u go

  pub writing_dead : (at : ℕ) (a : Access) (o : Operand) → slice_get quads at ≡ Some (writing a o) → index_reads x a ≡ false → is_register x o ≡ false → (writes x (writing a o) ≡ false → Dead quads x n (at + 1)) → Dead quads x n at
  writing_dead at (Own slot) o here u r go = on quads x n at (quad.Copy slot o) here refl r go
  writing_dead at (Common place) o here u r go = on quads x n at (quad.Store place o) here refl (neither (is_index x place) (is_register x o) u r) go

  either_one : (after : Bool) (a b : ℕ) → (x == a) ≡ false → (x == b) ≡ false → (x == (if after then a else b)) ≡ false
  either_one true a b h g = h
  either_one false a b h g = g

  -- A choice: behind its first side it goes on behind the second.
  pub choice_dead : (line at end : ℕ) (skip : ℕ → Quad) (first second : ℕ → List Lined) →
      ((p to : ℕ) → slice_get quads p ≡ Some (skip to) → Dead quads x n to → Dead quads x n (p + 1) → Dead quads x n p) → (C : Type 0) → Stands quads at (choice line at skip first second) end →
      ((p m : ℕ) → Stands quads p (first p) m → (C → Dead quads x n m) → Dead quads x n p) → ((p : ℕ) → Stands quads p (second p) end → Dead quads x n p) → (C → Dead quads x n end) → Dead quads x n at
  choice_dead line at end skip first second rule C s one_side other d =
      let t = split quads (at + 1) end _ _ s.1 in
      let m = at + 1 + length (first (at + 1)) in
      let to = m + 1 + length (second (m + 1)) in
      rule at (m + 1) s.0 (other (m + 1) t.1.1) (one_side (at + 1) m t.0 (λ c. jump quads x n m to t.1.0 (moved quads x n to end (sym (length_is quads (m + 1) end _ t.1.1)) (d c))))

  -- none of these values is in the register
  abbrev mutual
    pub RowUnread : (r : ℕ) → {m : _} → Row_of-Expr m → Type 0
    RowUnread r end_of-Expr = Unit {0}
    RowUnread r (more_of-Expr place kind rest) = (is_register x (operand_of r kind) ≡ false) × RowUnread (r + 1) rest

  -- Of a function whose known variables these are. The register is none of them, or a shared one.
  module _ (base_of size_of : (global : ℕ) → ℕ) (outer : (slot : ℕ) → Option ℕ) (globals : ℕ) (MayCall : (function values : ℕ) → Type 0) (k : ℕ → Bool) (unused : k x ≡ true → outer x ≡ None → ⊥) where
    pub own_unread : (slot : ℕ) (o : Option ℕ) → k slot ≡ true → outer slot ≡ o → access_reads x (access_of_slot slot o) ≡ false
    own_unread slot (Some number) is e = refl
    own_unread slot None is e = by (x == slot) refl
      where
        by : (b : Bool) → (x == slot) ≡ b → b ≡ false
        by false h = refl
        by true h = let same : x ≡ slot = grind (arith, h) in absurd (unused (ap k same ∙ is) (ap outer same ∙ e))

    pub arguments_dead : (at r i line end : ℕ) {m : _} (row : Row_of-Expr m) → RowUnread r row → Stands quads at (arguments_of base_of size_of outer line i r row) end → Dead quads x n end → Dead quads x n at
    arguments_dead at r i line end end_of-Expr u s d = moved quads x n at end s d
    arguments_dead at r i line end (more_of-Expr place kind rest) u s d =
        on quads x n at (quad.Argument i (operand_of r kind)) s.0 refl u.0 (λ w. arguments_dead (at + 1) (r + 1) (i + 1) line end rest u.1 s.1 d)

    mutual
      pub code_dead : (at r line end : ℕ) (e : ExprKind) → NamesKnown globals MayCall k e → Stands quads at (code_at base_of size_of outer at r line e) end → (is_register x (operand_of r e) ≡ false → Dead quads x n end) → Dead quads x n at
      code_dead at r line end (expr.Number i) is s d = moved quads x n at end s (d refl)
      code_dead at r line end expr.Dollar is s d = on quads x n at (quad.Dollar r) s.0 refl refl (λ w. moved quads x n (at + 1) end s.1 (d w))
      code_dead at r line end (expr.Read p) is s d =
          let t = split quads at end _ _ s in
          spot_dead at r line _ p is t.0 (λ u. reading_dead _ r _ t.1.0 u (λ w. moved quads x n _ end t.1.1 (d w)))
      code_dead at r line end (expr.Binary' op left a right b) is s d =
          let t = split quads at end _ _ s in
          let v = split quads _ end _ _ t.1 in
          boxed_dead at r _ a is.0 t.0 (λ ua.
          boxed_dead _ (r + 1) _ b is.1 v.0 (λ ub.
          on quads x n _ _ v.1.0 refl (neither _ _ ua ub) (λ w. moved quads x n _ end v.1.1 (d w))))
      code_dead at r line end (expr.Assign' p shape e) is s d =
          let a = access_of base_of size_of outer r p in
          let t = split quads at end _ _ s in
          let v = split quads _ end _ _ t.1 in
          spot_dead at r line _ p is.0 t.0 (λ u.
          boxed_dead _ (r + held p) _ e is.1 v.0 (λ ue.
          writing_dead _ a _ v.1.0 (index_unread x a u) ue (λ w.
          on quads x n _ _ v.1.1.0 refl ue (λ w2. moved quads x n _ end v.1.1.1 (d w2)))))
      code_dead at r line end (expr.Update' op p shape e) is s d =
          let a = access_of base_of size_of outer r p in
          let old = r + held p in
          let t = split quads at end _ _ s in
          let v = split quads _ end _ _ t.1.1 in
          spot_dead at r line _ p is.0 t.0 (λ u.
          reading_dead _ old a t.1.0 u (λ w.
          boxed_dead _ (old + 1) _ e is.1 (v.0) (λ ue.
          on quads x n _ _ v.1.0 refl (neither _ _ w ue) (λ w2.
          writing_dead _ a (Reg old) v.1.1.0 (index_unread x a u) w (λ w3.
          on quads x n _ _ v.1.1.1.0 refl w (λ w4. moved quads x n _ end v.1.1.1.1 (d w4)))))))
      code_dead at r line end (expr.Step p up after) is s d =
          let a = access_of base_of size_of outer r p in
          let old = r + held p in
          let t = split quads at end _ _ s in
          spot_dead at r line _ p is t.0 (λ u.
          reading_dead _ old a t.1.0 u (λ w.
          on quads x n _ _ t.1.1.0 refl (neither (x == old) false w refl) (λ w2.
          writing_dead _ a (Reg (old + 1)) t.1.1.1.0 (index_unread x a u) w2 (λ w3.
          on quads x n _ _ t.1.1.1.1.0 refl (either_one after old (old + 1) w w2) (λ w4. moved quads x n _ end t.1.1.1.1.1 (d w4))))))
      code_dead at r line end (expr.Unary' op shape e) is s d =
          let t = split quads at end _ _ s in
          boxed_dead at r _ e is t.0 (λ ue. on quads x n _ _ t.1.0 refl ue (λ w. moved quads x n _ end t.1.1 (d w)))
      code_dead at r line end (expr.Both' left a right b) is s d =
          let t = split quads at end _ _ s in
          boxed_dead at r _ a is.0 t.0 (λ ua.
          choice_dead line _ end (quad.IfZero (boxed_operand r a))
          (λ (at : ℕ). code_then at (boxed_at base_of size_of outer at r b) (λ at. one line (quad.Binary Ne r (boxed_operand r b) (Literal 0))))
          (λ (at : ℕ). one line (quad.Copy r (Literal 0)))
          (λ p to here. if_zero quads x n p to (boxed_operand r a) here ua) (is_register x (Reg r) ≡ false) t.1
          (λ p m there behind. let v = split quads p m _ _ there in boxed_dead p r _ b is.1 v.0 (λ ub. on quads x n _ _ v.1.0 refl (neither _ false ub refl) (λ w. moved quads x n _ m v.1.1 (behind w))))
          (λ p there. on quads x n _ _ there.0 refl refl (λ w. moved quads x n _ end there.1 (d w))) d)
      code_dead at r line end (expr.Either' left a right b) is s d =
          let t = split quads at end _ _ s in
          boxed_dead at r _ a is.0 t.0 (λ ua.
          choice_dead line _ end (quad.IfNot (boxed_operand r a))
          (λ (at : ℕ). code_then at (boxed_at base_of size_of outer at r b) (λ at. one line (quad.Binary Ne r (boxed_operand r b) (Literal 0))))
          (λ (at : ℕ). one line (quad.Copy r (Literal 1)))
          (λ p to here. if_not quads x n p to (boxed_operand r a) here ua) (is_register x (Reg r) ≡ false) t.1
          (λ p m there behind. let v = split quads p m _ _ there in boxed_dead p r _ b is.1 v.0 (λ ub. on quads x n _ _ v.1.0 refl (neither _ false ub refl) (λ w. moved quads x n _ m v.1.1 (behind w))))
          (λ p there. on quads x n _ _ there.0 refl refl (λ w. moved quads x n _ end there.1 (d w))) d)
      code_dead at r line end (expr.Choose' first test left a right b) is s d =
          let t = split quads at end _ _ s in
          boxed_dead at r _ test is.0 t.0 (λ ut.
          choice_dead line _ end (quad.IfZero (boxed_operand r test))
          (λ (at : ℕ). code_then at (boxed_at base_of size_of outer at r a) (λ at. one line (quad.Copy r (boxed_operand r a))))
          (λ (at : ℕ). code_then at (boxed_at base_of size_of outer at r b) (λ at. one line (quad.Copy r (boxed_operand r b))))
          (λ p to here. if_zero quads x n p to (boxed_operand r test) here ut) (is_register x (Reg r) ≡ false) t.1
          (λ p m there behind. let v = split quads p m _ _ there in boxed_dead p r _ a is.1 v.0 (λ ua. on quads x n _ _ v.1.0 refl ua (λ w. moved quads x n _ m v.1.1 (behind w))))
          (λ p there. let v = split quads p end _ _ there in boxed_dead p r _ b is.2 v.0 (λ ub. on quads x n _ _ v.1.0 refl ub (λ w. moved quads x n _ end v.1.1 (d w)))) d)
      code_dead at r line end (expr.Call' function shape values) is s d =
          let t = split quads at end _ _ s in
          let v = split quads _ end _ _ t.1 in
          values_dead at r _ values is.1 t.0 (λ u.
          arguments_dead _ r 0 line _ values u v.0
          (on quads x n _ _ v.1.0 refl refl (λ w. on quads x n _ _ v.1.1.0 refl refl (λ w2. moved quads x n _ end v.1.1.1 (d w2)))))

      pub values_dead : (at r end : ℕ) {m : _} (row : Row_of-Expr m) → AllKnown globals MayCall k row → Stands quads at (values_at base_of size_of outer at r row) end → (RowUnread r row → Dead quads x n end) → Dead quads x n at
      values_dead at r end end_of-Expr is s d = moved quads x n at end s (d tt)
      values_dead at r end (more_of-Expr place kind rest) is s d =
          let t = split quads at end _ _ s in
          code_dead at r place.line _ kind is.0 t.0 (λ u. values_dead _ (r + 1) end rest is.1 t.1 (λ us. d (u, us)))

      pub boxed_dead : (at r end : ℕ) {m : _} (row : Row_of-Expr m) → AllKnown globals MayCall k row → Stands quads at (boxed_at base_of size_of outer at r row) end → (is_register x (boxed_operand r row) ≡ false → Dead quads x n end) → Dead quads x n at
      boxed_dead at r end end_of-Expr is s d = moved quads x n at end s (d refl)
      boxed_dead at r end (more_of-Expr place kind rest) is s d = code_dead at r place.line end kind is.0 s d

      pub spot_dead : (at r line end : ℕ) (p : Spot) → SpotKnown globals MayCall k p → Stands quads at (spot_at base_of size_of outer at r line p) end → (access_reads x (access_of base_of size_of outer r p) ≡ false → Dead quads x n end) → Dead quads x n at
      spot_dead at r line end (spot.Global g) is s d = moved quads x n at end s (d refl)
      spot_dead at r line end (spot.Register g) is s d = moved quads x n at end s (d refl)
      spot_dead at r line end (spot.Local slot) is s d = moved quads x n at end s (d (own_unread slot (outer slot) is refl))
      spot_dead at r line end (spot.Element' g shape index) is s d =
          let t = split quads at end _ _ s in
          boxed_dead at r _ index is.1 t.0 (λ u. on quads x n _ _ t.1.0 refl u (λ w. moved quads x n _ end t.1.1 (d u)))
