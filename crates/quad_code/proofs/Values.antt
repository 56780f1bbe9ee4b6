-- The values of a call come into registers of their own, from left to right.
use Rattle.quad_code.specs.Known.{AllKnown}
use Rattle.std.proofs.Common.{◌≡◌, refl, ◌∙◌, ap, arith, ℕ, zero, suc, ◌+◌, ◌*◌, ◌≤◌, ◌<◌, List, [], ◌∷◌, ◌++◌, length, length-append, Some}
use Rattle.std.specs.Prelude.{slice_get}
use Rattle.source_meaning.specs.declared.tree.ExprKind.{ExprKind, Row_of-Expr, end_of-Expr, more_of-Expr}
use Rattle.source_meaning.specs.Term.{Terms, Value, End, More}
use Rattle.source_meaning.specs.Next.{Next, Is, next_within, next, next_values}
use Rattle.source_meaning.specs.Code.{row_terms}
use Rattle.xmt_base.specs.declared.values.Place.{Place}
use Rattle.xmt_quads.specs.Meaning.{Registers, with_register, operand_value}
use Rattle.xmt_quads.specs.declared.code.Quad.TheVariants as quad
use Rattle.quad_code.specs.Lined.{Lined}
use Rattle.quad_code.specs.Expressions.{operand_of, values_at, arguments_of}
use Rattle.quad_code.proofs.Setting.{register_set, register_other, Setting, Point, Stands, has_front, has_back, Fits, Reaches, reaches_on, reaches_here}
use Rattle.quad_code.proofs.Steps.{Context, within_within, Meets, meets_at, alone}
use Rattle.quad_code.proofs.Kept.{Kept, expression_code, operand_kept, richer}
use Rattle.quad_code.proofs.Simulation.{AllKept}

-- values that are known
abbrev pub terms_of : List ℕ → Terms
terms_of [] = End
terms_of (v ∷ vs) = More (Value v) (terms_of vs)

-- the operands of the values hold these numbers
abbrev pub HasValues : Registers → (r : ℕ) → {n : _} → Row_of-Expr n → List ℕ → Type 0
HasValues registers r end_of-Expr [] = Unit {0}
HasValues registers r (more_of-Expr place kind rest) (v ∷ vs) = (operand_value registers (operand_of r kind) ≡ v) × HasValues registers (r + 1) rest vs
HasValues registers r _ _ = ⊥

module _ (s : Setting) {U S : Type 0} (whole : U → Next U S) where
  -- what stands around the values of a call or a print
  pub record ValuesContext : Type 0 where
    pub around : Terms → U
    pub go : List ℕ → Next U S
    pub part : (values : Terms) → whole (around values) ≡ next_within around (next_values s.number s.call_code s.depth values) go

  abbrev pub values_code : (at r : ℕ) → {n : _} → Row_of-Expr n → List Lined
  values_code at r row = values_at s.base_of s.size_of s.outer at r row

  abbrev pub row_term : {n : _} → Row_of-Expr n → Terms
  row_term row = row_terms s.globals s.own s.frame row

  abbrev pub KeptValues : {n : _} → Row_of-Expr n → Type 0
  KeptValues row =
      (r : ℕ) (c : ValuesContext) (n credit at : ℕ) (p : Point) → s.variables ≤ r → 40 ≤ credit →
      Stands s at (values_code at r row) → AllKnown (length s.globals) (s.MayCall s.region) s.known row → Fits s p →
      ((q : Point) (vs : List ℕ) → Reaches s r p q → HasValues q.registers r row vs → Meets s whole (c.around (terms_of vs)) n credit (at + length (values_code at r row)) q) →
      Meets s whole (c.around (row_term row)) n credit at p

  no_values_kept : KeptValues end_of-Expr
  no_values_kept r c n credit at p from rich stands known fits go =
      meets_at s whole (c.around End) n credit (at + 0) at p (omega arith) (go p [] (reaches_here s r p fits) tt)

  more_values_kept : (place : Place) (kind : ExprKind) {m : _} (rest : Row_of-Expr m) → Kept s whole place.line kind → KeptValues rest → KeptValues (more_of-Expr place kind rest)
  more_values_kept place kind rest first others r c n credit at p from rich stands known fits go =
      let line = place.line in
      let ca = expression_code s at r line kind in
      let at1 = at + length ca in
      let cb = values_code at1 (r + 1) rest in
      let ts = row_term rest in
      let nexts = next_values s.number s.call_code s.depth in
      let value_context : Context s whole =
      record {
        around = λ e. c.around (More e ts);
        go = λ v. next_within c.around (next_within (More (Value v)) (nexts ts) (λ vs. Is (v ∷ vs))) c.go;
        part = λ e. c.part (More e ts) ∙ within_within (λ e. More e ts) c.around (next s.number s.call_code s.depth e) (λ v. next_within (More (Value v)) (nexts ts) (λ vs. Is (v ∷ vs))) c.go;
      } in
      first r value_context n credit at p from rich (has_front s.program s.function at ca cb stands) known.0 fits
      (λ q reach.
      let v = operand_value q.registers (operand_of r kind) in
      let rest_context : ValuesContext =
      record {
        around = λ ts. c.around (More (Value v) ts);
        go = λ vs. c.go (v ∷ vs);
        part = λ ts. c.part (More (Value v) ts) ∙ within_within (More (Value v)) c.around (nexts ts) (λ vs. Is (v ∷ vs)) c.go;
      } in
      others (r + 1) rest_context n credit at1 q (omega (arith, from)) rich (has_back s.program s.function at ca cb stands) known.1 reach.fits
      (λ q2 vs reach2 has.
      meets_at s whole (c.around (terms_of (v ∷ vs))) n credit (at + length (ca ++ cb)) (at1 + length cb) q2 (omega (arith, length-append ca cb))
      (go q2 (v ∷ vs) (reaches_on s r (r + 1) p q q2 (omega arith) reach reach2)
      (operand_kept r kind q.registers q2.registers (reach2.waits r from (omega arith)), has))))

  pub values_kept : {m : _} (row : Row_of-Expr m) → AllKept s whole row → KeptValues row
  values_kept end_of-Expr all = no_values_kept
  values_kept (more_of-Expr place kind rest) all = more_values_kept place kind rest all.0 (values_kept rest all.1)

  -- The values go into the argument list, and the credit pays for that: at most 32, for 16 values.
  pub arguments_kept : {m : _} (row : Row_of-Expr m) (vs : List ℕ) (line k r n credit left at : ℕ) (p : Point) (code : U) → Stands s at (arguments_of s.base_of s.size_of s.outer line k r row) → HasValues p.registers r row vs → left + 2 * length vs ≤ credit → ((list : ℕ → ℕ) → ((i : ℕ) → i < k → list i ≡ p.list i) → ((i v : ℕ) → slice_get vs i ≡ Some v → list (k + i) ≡ v) → Meets s whole code n left (at + length (arguments_of s.base_of s.size_of s.outer line k r row)) (record p { list = list })) → Meets s whole code n credit at p
  arguments_kept end_of-Expr [] line k r n credit left at p code stands has pays go =
      richer s whole code n left credit at p (omega (arith, pays))
      (meets_at s whole code n left (at + 0) at p (omega arith) (go p.list (λ i below. refl) (λ i v is. cc)))
  arguments_kept end_of-Expr (v ∷ vs) line k r n credit left at p code stands has pays go = absurd has
  arguments_kept (more_of-Expr place kind rest) [] line k r n credit left at p code stands has pays go = absurd has
  arguments_kept (more_of-Expr place kind rest) (v ∷ vs) line k r n credit left at p code stands has pays go =
      let o = operand_of r kind in
      let w = operand_value p.registers o in
      let p2 : Point = record p { list = with_register p.list k w } in
      alone s whole n credit (left + 2 * length vs) at (at + 1) (quad.Argument k o) p p2 code stands.0 refl refl refl (omega (arith, pays))
      (arguments_kept rest vs line (k + 1) (r + 1) n (left + 2 * length vs) left (at + 1) p2 code stands.2 has.1 (omega arith)
      (λ list keeps holds.
      meets_at s whole code n left (at + length (arguments_of s.base_of s.size_of s.outer line k r (more_of-Expr place kind rest))) (at + 1 + length (arguments_of s.base_of s.size_of s.outer line (k + 1) (r + 1) rest)) (record p { list = list }) (omega arith)
      (go list
      (λ i below. keeps i (omega (arith, below)) ∙ register_other s p.list k w i below)
      (by_place list keeps holds))))
    where
      by_place : (list : ℕ → ℕ) → ((i : ℕ) → i < k + 1 → list i ≡ with_register p.list k (operand_value p.registers (operand_of r kind)) i) → ((i v : ℕ) → slice_get vs i ≡ Some v → list (k + 1 + i) ≡ v) → (i x : ℕ) → slice_get (v ∷ vs) i ≡ Some x → list (k + i) ≡ x
      by_place list keeps holds zero x is =
          let at : k + 0 ≡ k = omega arith in
          let same : v ≡ x = grind (arith, is) in
          ap list at ∙ keeps k (omega arith) ∙ register_set s p.list k (operand_value p.registers (operand_of r kind)) ∙ has.0 ∙ same
      by_place list keeps holds (suc i) x is =
          let at : k + suc i ≡ k + 1 + i = omega arith in
          ap list at ∙ holds i x (grind (arith, is))
