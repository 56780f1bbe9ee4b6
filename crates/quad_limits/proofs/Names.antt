-- What the quads of an expression name is there, and their jumps stay in the function.
use Rattle.std.proofs.Common.{◌≡◌, refl, arith, ℕ, ◌+◌, ◌^◌, ◌≤◌, ◌<◌, if◌then◌else◌, List, [], ◌∷◌, ◌++◌, length, length-append, Option, Some, None}
use Rattle.source_meaning.specs.declared.tree.ExprKind.{ExprKind, Row_of-Expr, end_of-Expr, more_of-Expr}
use Rattle.source_meaning.specs.declared.tree.ExprKind.TheVariants as expr
use Rattle.source_meaning.specs.declared.tree.Spot.{Spot}
use Rattle.source_meaning.specs.declared.tree.Spot.TheVariants as spot
use Rattle.std.specs.Prelude.{Bool}
use Rattle.xmt_base.specs.declared.operators.BinOp.TheVariants.{Ne}
use Rattle.xmt_quads.specs.declared.code.Operand.{Operand}
use Rattle.xmt_quads.specs.declared.code.Operand.TheVariants.{Reg, Literal}
use Rattle.xmt_quads.specs.declared.code.Quad.{Quad}
use Rattle.xmt_quads.specs.declared.code.Quad.TheVariants as quad
use Rattle.xmt_quads.specs.declared.code.QuadFunction.{QuadFunction}
use Rattle.xmt_quads.specs.declared.code.QuadProgram.{QuadProgram}
use Rattle.xmt_quads.specs.WellFormed.{PlaceExists, NamesExist}
use Rattle.quad_code.specs.declared.Access.{Access}
use Rattle.quad_code.specs.declared.Access.TheVariants.{Own, Common}
use Rattle.quad_code.specs.Lined.{Lined, lined, one, code_then, choice}
use Rattle.quad_code.specs.Rows.{row_length}
use Rattle.quad_code.specs.Known.{NamesKnown, SpotKnown, AllKnown}
use Rattle.quad_code.specs.Expressions.{boxed_operand, held, step_operator, reading, writing, access_of, access_of_slot, code_at, boxed_at, spot_at, values_at, arguments_of}

-- the tables of a program hold what a function names
pub record Tables (program : QuadProgram) (base_of size_of : ℕ → ℕ) (outer : ℕ → Option ℕ) (globals : ℕ) : Type 0 where
  pub words : (g : ℕ) → g < globals → base_of g < length program.words
  pub sizes : (g : ℕ) → g < globals → (1 ≤ size_of g) × (size_of g ≤ 2 ^ 20)
  pub outers : (slot number : ℕ) → outer slot ≡ Some number → number < program.outer

module _ (program : QuadProgram) (f : QuadFunction) where
  abbrev pub CodeExists : List Lined → Type 0
  CodeExists [] = Unit {0}
  CodeExists (l ∷ rest) = NamesExist program f l.quad × CodeExists rest

  pub exists-append : (a b : List Lined) → CodeExists a → CodeExists b → CodeExists (a ++ b)
  exists-append [] b h k = k
  exists-append (l ∷ a) b h k = (h.0, exists-append a b h.1 k)

  -- code that ends before the end of the function
  abbrev pub Ends : (at : ℕ) → List Lined → Type 0
  Ends at code = at + length code < length f.quads

  pub front_ends : (at : ℕ) (a b : List Lined) → Ends at (a ++ b) → Ends at a
  front_ends at a b h = omega (arith, h, length-append a b)

  pub back_ends : (at : ℕ) (a b : List Lined) → Ends at (a ++ b) → Ends (at + length a) b
  back_ends at a b h = omega (arith, h, length-append a b)

  abbrev pub AccessExists : Access → Type 0
  AccessExists (Own x) = Unit {0}
  AccessExists (Common place) = PlaceExists program place

  pub reading_exists : (r : ℕ) (a : Access) → AccessExists a → NamesExist program f (reading r a)
  reading_exists r (Own x) h = tt
  reading_exists r (Common place) h = h

  pub writing_exists : (a : Access) (o : Operand) → AccessExists a → NamesExist program f (writing a o)
  writing_exists (Own x) o h = tt
  writing_exists (Common place) o h = h

  -- a choice, whose jumps lead to its second side and behind it
  pub choice_exists : (line at : ℕ) (skip : ℕ → Quad) (first second : ℕ → List Lined) → ((to : ℕ) → to < length f.quads → NamesExist program f (skip to)) → Ends at (choice line at skip first second) →
      ((at : ℕ) → Ends at (first at) → CodeExists (first at)) → ((at : ℕ) → Ends at (second at) → CodeExists (second at)) → CodeExists (choice line at skip first second)
  choice_exists line at skip first second hs ends ha hb =
      let a = first (at + 1) in
      let middle = at + 1 + length a + 1 in
      let b = second middle in
      let jump = lined line (quad.Jump (middle + length b)) in
      let to_middle : middle < length f.quads = omega (arith, ends, length-append a (jump ∷ b)) in
      let first_ends : Ends (at + 1) a = omega (arith, ends, length-append a (jump ∷ b)) in
      let second_ends : Ends middle b = omega (arith, ends, length-append a (jump ∷ b)) in
      (hs middle to_middle, exists-append a (jump ∷ b) (ha (at + 1) first_ends) (second_ends, hb middle second_ends))

module _ (program : QuadProgram) (f : QuadFunction) (base_of size_of : ℕ → ℕ) (outer : ℕ → Option ℕ) (globals : ℕ) (tables : Tables program base_of size_of outer globals)
    (MayCall : (function values : ℕ) → Type 0) (calls : (function values : ℕ) → MayCall function values → (function < length program.functions) × (values ≤ 16)) (known : ℕ → Bool) where
  pub slot_exists : (slot : ℕ) (o : Option ℕ) → outer slot ≡ o → AccessExists program f (access_of_slot slot o)
  slot_exists slot None e = tt
  slot_exists slot (Some number) e = tables.outers slot number e

  pub access_exists : (r : ℕ) (p : Spot) → SpotKnown globals MayCall known p → AccessExists program f (access_of base_of size_of outer r p)
  access_exists r (spot.Global g) is = tables.words g is
  access_exists r (spot.Element' g shape index) is = tt
  access_exists r (spot.Register x) is = is
  access_exists r (spot.Local slot) is = slot_exists slot (outer slot) refl

  pub arguments_exist : {m : _} (row : Row_of-Expr m) (line k r : ℕ) → k + row_length row ≤ 16 → CodeExists program f (arguments_of base_of size_of outer line k r row)
  arguments_exist end_of-Expr line k r h = tt
  arguments_exist (more_of-Expr place kind rest) line k r h = (omega (arith, h), arguments_exist rest line (k + 1) (r + 1) (omega (arith, h)))

  abbrev box : (at r : ℕ) → {m : _} → Row_of-Expr m → List Lined
  box at r row = boxed_at base_of size_of outer at r row

  -- a box, and one quad behind it
  abbrev boxed_then : (line r : ℕ) → {m : _} → Row_of-Expr m → Quad → (at : ℕ) → List Lined
  boxed_then line r row q at = code_then at (box at r row) (λ at. one line q)

  pub both : (at : ℕ) (a b : List Lined) → Ends program f at (a ++ b) → (Ends program f at a → CodeExists program f a) → (Ends program f (at + length a) b → CodeExists program f b) → CodeExists program f (a ++ b)
  both at a b ends ha hb = exists-append program f a b (ha (front_ends program f at a b ends)) (hb (back_ends program f at a b ends))

  abbrev place_code : (at r line : ℕ) → Spot → List Lined
  place_code at r line p = spot_at base_of size_of outer at r line p

  abbrev access : (r : ℕ) → Spot → Access
  access r p = access_of base_of size_of outer r p

  mutual
    pub expression_exists : (k : ExprKind) (at r line : ℕ) → NamesKnown globals MayCall known k → Ends program f at (code_at base_of size_of outer at r line k) → CodeExists program f (code_at base_of size_of outer at r line k)
    expression_exists (expr.Number v) at r line is ends = tt
    expression_exists expr.Dollar at r line is ends = (tt, tt)
    expression_exists (expr.Read p) at r line is ends =
        both at (place_code at r line p) (one line (reading r (access r p))) ends (λ e. spot_exists p at r line is e) (λ e. (reading_exists program f r (access r p) (access_exists r p is), tt))
    expression_exists (expr.Assign' p shape e) at r line is ends =
        let v = r + held p in
        let cp = place_code at r line p in
        let ce = box (at + length cp) v e in
        let o = boxed_operand v e in
        let last : List Lined = lined line (writing (access r p) o) ∷ one line (quad.Copy r o) in
        both at cp (ce ++ last) ends (λ h. spot_exists p at r line is.0 h)
        (λ h. both (at + length cp) ce last h (λ h. box_exists e (at + length cp) v is.1 h) (λ h. (writing_exists program f (access r p) o (access_exists r p is.0), (tt, tt))))
    expression_exists (expr.Update' op p shape e) at r line is ends =
        let old = r + held p in
        let a = access_exists r p is.0 in
        let cp = place_code at r line p in
        let at1 = at + length cp in
        let first = one line (reading old (access r p)) in
        let ce = box (at1 + 1) (old + 1) e in
        let last : List Lined = lined line (quad.Binary op old (Reg old) (boxed_operand (old + 1) e)) ∷ lined line (writing (access r p) (Reg old)) ∷ one line (quad.Copy r (Reg old)) in
        both at cp (first ++ (ce ++ last)) ends (λ h. spot_exists p at r line is.0 h)
        (λ h.
        both at1 first (ce ++ last) h (λ h. (reading_exists program f old (access r p) a, tt))
        (λ h. both (at1 + 1) ce last h (λ h. box_exists e (at1 + 1) (old + 1) is.1 h) (λ h. (tt, (writing_exists program f (access r p) (Reg old) a, (tt, tt))))))
    expression_exists (expr.Step p up after) at r line is ends =
        let old = r + held p in
        let a = access_exists r p is in
        let cp = place_code at r line p in
        let last : List Lined = lined line (reading old (access r p)) ∷ lined line (quad.Binary (step_operator up) (old + 1) (Reg old) (Literal 1)) ∷ lined line (writing (access r p) (Reg (old + 1))) ∷ one line (quad.Copy r (Reg (if after then old else old + 1))) in
        both at cp last ends (λ h. spot_exists p at r line is h) (λ h. (reading_exists program f old (access r p) a, (tt, (writing_exists program f (access r p) (Reg (old + 1)) a, (tt, tt)))))
    expression_exists (expr.Unary' op shape e) at r line is ends = both at (box at r e) (one line (quad.Unary op r (boxed_operand r e))) ends (λ h. box_exists e at r is h) (λ h. (tt, tt))
    expression_exists (expr.Binary' op left a right b) at r line is ends =
        let ca = box at r a in
        let cb = box (at + length ca) (r + 1) b in
        let last = one line (quad.Binary op r (boxed_operand r a) (boxed_operand (r + 1) b)) in
        both at ca (cb ++ last) ends (λ h. box_exists a at r is.0 h) (λ h. both (at + length ca) cb last h (λ h. box_exists b (at + length ca) (r + 1) is.1 h) (λ h. (tt, tt)))
    expression_exists (expr.Both' left a right b) at r line is ends =
        let ca = box at r a in
        let first = boxed_then line r b (quad.Binary Ne r (boxed_operand r b) (Literal 0)) in
        let second : ℕ → List Lined = λ at. one line (quad.Copy r (Literal 0)) in
        both at ca (choice line (at + length ca) (quad.IfZero (boxed_operand r a)) first second) ends (λ h. box_exists a at r is.0 h)
        (λ h.
        choice_exists program f line (at + length ca) (quad.IfZero (boxed_operand r a)) first second (λ to below. below) h
        (λ at h. both at (box at r b) (one line (quad.Binary Ne r (boxed_operand r b) (Literal 0))) h (λ h. box_exists b at r is.1 h) (λ h. (tt, tt))) (λ at h. (tt, tt)))
    expression_exists (expr.Either' left a right b) at r line is ends =
        let ca = box at r a in
        let first = boxed_then line r b (quad.Binary Ne r (boxed_operand r b) (Literal 0)) in
        let second : ℕ → List Lined = λ at. one line (quad.Copy r (Literal 1)) in
        both at ca (choice line (at + length ca) (quad.IfNot (boxed_operand r a)) first second) ends (λ h. box_exists a at r is.0 h)
        (λ h.
        choice_exists program f line (at + length ca) (quad.IfNot (boxed_operand r a)) first second (λ to below. below) h
        (λ at h. both at (box at r b) (one line (quad.Binary Ne r (boxed_operand r b) (Literal 0))) h (λ h. box_exists b at r is.1 h) (λ h. (tt, tt))) (λ at h. (tt, tt)))
    expression_exists (expr.Choose' shape test left a right b) at r line is ends =
        let ct = box at r test in
        let first = boxed_then line r a (quad.Copy r (boxed_operand r a)) in
        let second = boxed_then line r b (quad.Copy r (boxed_operand r b)) in
        both at ct (choice line (at + length ct) (quad.IfZero (boxed_operand r test)) first second) ends (λ h. box_exists test at r is.0 h)
        (λ h.
        choice_exists program f line (at + length ct) (quad.IfZero (boxed_operand r test)) first second (λ to below. below) h
        (λ at h. both at (box at r a) (one line (quad.Copy r (boxed_operand r a))) h (λ h. box_exists a at r is.1 h) (λ h. (tt, tt)))
        (λ at h. both at (box at r b) (one line (quad.Copy r (boxed_operand r b))) h (λ h. box_exists b at r is.2 h) (λ h. (tt, tt))))
    expression_exists (expr.Call' function shape values) at r line is ends =
        let there = calls function (row_length values) is.0 in
        let cv = values_at base_of size_of outer at r values in
        let ca = arguments_of base_of size_of outer line 0 r values in
        let last : List Lined = lined line (quad.Call function) ∷ one line (quad.Result r) in
        both at cv (ca ++ last) ends (λ h. values_exist values at r is.1 h) (λ h. exists-append program f ca last (arguments_exist values line 0 r (omega (arith, there.1))) (there.0, (tt, tt)))

    pub spot_exists : (p : Spot) (at r line : ℕ) → SpotKnown globals MayCall known p → Ends program f at (spot_at base_of size_of outer at r line p) → CodeExists program f (spot_at base_of size_of outer at r line p)
    spot_exists (spot.Element' g shape index) at r line is ends = both at (box at r index) (one line (quad.Test (boxed_operand r index) (size_of g))) ends (λ h. box_exists index at r is.1 h) (λ h. (tables.sizes g is.0, tt))
    spot_exists (spot.Global g) at r line is ends = tt
    spot_exists (spot.Register x) at r line is ends = tt
    spot_exists (spot.Local slot) at r line is ends = tt

    box_exists : {m : _} (row : Row_of-Expr m) (at r : ℕ) → AllKnown globals MayCall known row → Ends program f at (boxed_at base_of size_of outer at r row) → CodeExists program f (boxed_at base_of size_of outer at r row)
    box_exists end_of-Expr at r is ends = tt
    box_exists (more_of-Expr place kind rest) at r is ends = expression_exists kind at r place.line is.0 ends

    pub values_exist : {m : _} (row : Row_of-Expr m) (at r : ℕ) → AllKnown globals MayCall known row → Ends program f at (values_at base_of size_of outer at r row) → CodeExists program f (values_at base_of size_of outer at r row)
    values_exist end_of-Expr at r is ends = tt
    values_exist (more_of-Expr place kind rest) at r is ends =
        let first = code_at base_of size_of outer at r place.line kind in
        both at first (values_at base_of size_of outer (at + length first) (r + 1) rest) ends (λ h. expression_exists kind at r place.line is.0 h) (λ h. values_exist rest (at + length first) (r + 1) is.1 h)
