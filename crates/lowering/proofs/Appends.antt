-- Code that is appended piece by piece, and jumps that are written once their targets are known.
use Rattle.std.proofs.Common.{◌≡◌, sym, ◌∙◌, ap, subst, refl, arith, ℕ, suc, ◌+◌, ◌<◌, drop, drop-cons, get_or, Bool, true, false, if◌then◌else◌, List, [], ◌∷◌, ◌++◌, length, append-nil, append_assoc, length-append}
use Rattle.std.specs.Prelude.{slice_set}
use Rattle.std.proofs.Math.Seq.{set-append_seam}
use Rattle.std.proofs.lemmas.List.{length-map, map-append}
use Rattle.xmt_base.specs.declared.operators.UnOp.{UnOp}
use Rattle.xmt_base.specs.declared.operators.BinOp.{BinOp}
use Rattle.xmt_base.specs.declared.operators.BinOp.TheVariants.{Ne}
use Rattle.source_meaning.specs.declared.tree.Expr.{Expr}
use Rattle.source_meaning.specs.declared.tree.ExprKind.{ExprKind}
use Rattle.source_meaning.specs.declared.tree.ExprKind.TheVariants as expr
use Rattle.source_meaning.specs.declared.tree.Spot.{Spot}
use Rattle.source_meaning.specs.declared.tree.Spot.TheVariants as spot
use Rattle.source_meaning.specs.declared.tree.Stmt.{Stmt}
use Rattle.source_meaning.specs.declared.tree.GlobalVar.{GlobalVar}
use Rattle.source_meaning.specs.Layout.{first_word, words_of}
use Rattle.source_meaning.specs.Opened.{opened}
use Rattle.xmt_quads.specs.declared.code.Operand.{Operand}
use Rattle.xmt_quads.specs.declared.code.Operand.TheVariants.{Reg, Literal}
use Rattle.xmt_quads.specs.declared.code.Quad.{Quad}
use Rattle.xmt_quads.specs.declared.code.Quad.TheVariants as quad
use Rattle.quad_code.specs.declared.Access.{Access}
use Rattle.quad_code.specs.Lined.{Lined, lined, one, code_then, choice}
use Rattle.quad_code.specs.Functions.{outer_of}
use Rattle.quad_code.specs.Expressions.{operand_of, held, reading, writing, access_of, step_operator, values_at, arguments_of}
use Rattle.lowering.specs.declared.code.Placed.{Placed}
use Rattle.source_meaning.specs.declared.tree.ExprKind.TheBlock.{hidden-the_row-Expr-1}
use Rattle.lowering.specs.Emitted.{placed, at_line, jump_unless, choice_closed, Appends, place_of, read_code, assigned_code, updated_code, stepped_code, call_code, kind_code, expression_code, spot_code, tested_code, side_code, values_code, arguments_code}

pub placed-append : (a b : List Lined) → placed (a ++ b) ≡ placed a ++ placed b
placed-append a b = map-append (λ (l : Lined). at_line l.quad l.line) a b

pub placed-length : (a : List Lined) → length (placed a) ≡ length a
placed-length a = length-map a (λ (l : Lined). at_line l.quad l.line)

pub nothing : (c : List Placed) → Appends (λ at. []) c c
nothing c = sym (append-nil c)

-- one piece behind another
pub in_turn : (first rest : ℕ → List Lined) (c0 c1 c2 : List Placed) → Appends first c0 c1 → Appends rest c1 c2 → Appends (λ at. code_then at (first at) rest) c0 c2
in_turn first rest c0 c1 c2 h1 h2 =
    let n = length c0 in
    let a = first n in
    let long : length c1 ≡ n + length a = ap length h1 ∙ length-append c0 (placed a) ∙ ap (λ m. n + m) (placed-length a) in
    let b = rest (n + length a) in
    h2 ∙ ap (λ m. c1 ++ placed (rest m)) long ∙ ap (λ c. c ++ placed b) h1 ∙ append_assoc c0 (placed a) (placed b) ∙ ap (λ c. c0 ++ c) (sym (placed-append a b))

-- quads one behind the other
pub two : (c0 c1 c2 : List Placed) (x y : Placed) → c1 ≡ c0 ++ x ∷ [] → c2 ≡ c1 ++ y ∷ [] → c2 ≡ c0 ++ x ∷ y ∷ []
two c0 c1 c2 x y h1 h2 = h2 ∙ ap (λ c. c ++ y ∷ []) h1 ∙ append_assoc c0 (x ∷ []) (y ∷ [])

pub three : (c0 c1 c2 c3 : List Placed) (x y z : Placed) → c1 ≡ c0 ++ x ∷ [] → c2 ≡ c1 ++ y ∷ [] → c3 ≡ c2 ++ z ∷ [] → c3 ≡ c0 ++ x ∷ y ∷ z ∷ []
three c0 c1 c2 c3 x y z h1 h2 h3 = h3 ∙ ap (λ c. c ++ z ∷ []) (two c0 c1 c2 x y h1 h2) ∙ append_assoc c0 (x ∷ y ∷ []) (z ∷ [])

four : (c0 c1 c2 c3 c4 : List Placed) (x y z w : Placed) → c1 ≡ c0 ++ x ∷ [] → c2 ≡ c1 ++ y ∷ [] → c3 ≡ c2 ++ z ∷ [] → c4 ≡ c3 ++ w ∷ [] → c4 ≡ c0 ++ x ∷ y ∷ z ∷ w ∷ []
four c0 c1 c2 c3 c4 x y z w h1 h2 h3 h4 = h4 ∙ ap (λ c. c ++ w ∷ []) (three c0 c1 c2 c3 x y z h1 h2 h3) ∙ append_assoc c0 (x ∷ y ∷ z ∷ []) (w ∷ [])

pub two_writes : (c a b : List Placed) (x y i j : Placed) → slice_set (slice_set (c ++ x ∷ (a ++ y ∷ b)) (length c) i) (length (c ++ i ∷ a)) j ≡ c ++ i ∷ (a ++ j ∷ b)
two_writes c a b x y i j =
    ap (λ l. slice_set l (length (c ++ i ∷ a)) j) (set-append_seam c x (a ++ y ∷ b) i ∙ sym (append_assoc c (i ∷ a) (y ∷ b))) ∙
    set-append_seam (c ++ i ∷ a) y b j ∙
    append_assoc c (i ∷ a) (j ∷ b)

-- the two jumps of a choice, written once both sides stand
pub closed : (line : ℕ) (skip : ℕ → Quad) (first second : ℕ → List Lined) (c1 c2 c3 c4 c5 c6 : List Placed) (x y : Placed) (n1 n2 : ℕ) → n1 ≡ length c1 → c2 ≡ c1 ++ x ∷ [] → Appends first c2 c3 →
    n2 ≡ length c3 → c4 ≡ c3 ++ y ∷ [] → Appends second c4 c5 →
    c6 ≡ slice_set (slice_set c5 n1 (at_line (skip (n2 + 1)) line)) n2 (at_line (quad.Jump (length c5)) line) → Appends (λ at. choice line at skip first second) c1 c6
closed line skip first second c1 c2 c3 c4 c5 c6 x y n1 n2 m1 e2 e3 m2 e4 e5 e6 =
    let at = length c1 in
    let l2 : length c2 ≡ at + 1 = ap length e2 ∙ length-append c1 (x ∷ []) in
    let a = placed (first (at + 1)) in
    let la : length a ≡ length (first (at + 1)) = placed-length (first (at + 1)) in
    let e3' : c3 ≡ c2 ++ a = e3 ∙ ap (λ n. c2 ++ placed (first n)) l2 in
    let l3 : length c3 ≡ length c2 + length a = ap length e3' ∙ length-append c2 a in
    let l4 : length c4 ≡ length c3 + 1 = ap length e4 ∙ length-append c3 (y ∷ []) in
    let middle = at + 1 + length (first (at + 1)) + 1 in
    let l4' : length c4 ≡ middle = omega (arith, l2, l3, l4, la) in
    let b = placed (second middle) in
    let lb : length b ≡ length (second middle) = placed-length (second middle) in
    let e5' : c5 ≡ c4 ++ b = e5 ∙ ap (λ n. c4 ++ placed (second n)) l4' in
    let l5 : length c5 ≡ length c4 + length b = ap length e5' ∙ length-append c4 b in
    let i : Placed = at_line (skip (n2 + 1)) line in
    let j : Placed = at_line (quad.Jump (length c5)) line in
    let d1 : n2 + 1 ≡ middle = omega (arith, m2, l2, l3, la) in
    let d2 : length c5 ≡ middle + length (second middle) = omega (arith, l5, l4', lb) in
    let at2 : n2 ≡ length (c1 ++ i ∷ a) = omega (arith, m2, l2, l3, length-append c1 (i ∷ a)) in
    let all : c5 ≡ (((c1 ++ x ∷ []) ++ a) ++ y ∷ []) ++ b = e5' ∙ ap (λ c. c ++ b) (e4 ∙ ap (λ c. c ++ y ∷ []) (e3' ∙ ap (λ c. c ++ a) e2)) in
    let flat : (((c1 ++ x ∷ []) ++ a) ++ y ∷ []) ++ b ≡ c1 ++ x ∷ (a ++ y ∷ b) = simp append_assoc in
    let parts : placed (first (at + 1) ++ lined line (quad.Jump (middle + length (second middle))) ∷ second middle) ≡ a ++ at_line (quad.Jump (middle + length (second middle))) line ∷ b =
    placed-append (first (at + 1)) (lined line (quad.Jump (middle + length (second middle))) ∷ second middle)
    in
    e6 ∙
    ap (λ l. slice_set (slice_set l n1 i) n2 j) (all ∙ flat) ∙
    ap (λ n. slice_set (slice_set (c1 ++ x ∷ (a ++ y ∷ b)) n i) n2 j) m1 ∙
    ap (λ n. slice_set (slice_set (c1 ++ x ∷ (a ++ y ∷ b)) (length c1) i) n j) at2 ∙
    two_writes c1 a b x y i j ∙
    ap (λ n. c1 ++ at_line (skip n) line ∷ (a ++ j ∷ b)) d1 ∙
    ap (λ n. c1 ++ at_line (skip middle) line ∷ (a ++ at_line (quad.Jump n) line ∷ b)) d2 ∙
    ap (λ l. c1 ++ at_line (skip middle) line ∷ l) (sym parts)

-- ---- each kind of expression

module _ (globals : List GlobalVar) (body : List Stmt) where
  -- one expression by two names
  pub renamed : (r : ℕ) (d e : Expr) (c0 c1 : List Placed) → d ≡ e → Appends (expression_code globals body r d) c0 c1 → Appends (expression_code globals body r e) c0 c1
  renamed r d e c0 c1 same h = subst (λ (e : Expr). Appends (expression_code globals body r e) c0 c1) same h

  pub of_kind : (r line : ℕ) (j k : ExprKind) (c0 c1 : List Placed) → k ≡ j → Appends (kind_code globals body r line j) c0 c1 → Appends (kind_code globals body r line k) c0 c1
  of_kind r line j k c0 c1 is h = subst (λ (k : ExprKind). Appends (kind_code globals body r line k) c0 c1) (sym is) h

  pub read : (r line : ℕ) (p : Spot) (a : Access) (q : Quad) (c0 c1 c2 : List Placed) → Appends (spot_code globals body r line p) c0 c1 →
      a ≡ access_of (first_word globals) (words_of globals) (outer_of body) r p → q ≡ reading r a → c2 ≡ c1 ++ at_line q line ∷ [] → Appends (kind_code globals body r line (expr.Read p)) c0 c2
  unfolding opened
  read r line p a q c0 c1 c2 h1 ea eq h2 =
      in_turn (spot_code globals body r line p) (λ at. one line (reading r (access_of (first_word globals) (words_of globals) (outer_of body) r p))) c0 c1 c2 h1
      (h2 ∙ ap (λ q. c1 ++ at_line q line ∷ []) (eq ∙ ap (reading r) ea))

  pub binary : (r second line : ℕ) (op : BinOp) (a b : Expr) (oa ob : Operand) (c0 c1 c2 c3 : List Placed) → second ≡ r + 1 → Appends (expression_code globals body r a) c0 c1 → Appends (expression_code globals body second b) c1 c2 →
      oa ≡ operand_of r a.kind → ob ≡ operand_of second b.kind → c3 ≡ c2 ++ at_line (quad.Binary op r oa ob) line ∷ [] → Appends (kind_code globals body r line (expr.Binary op a b)) c0 c3
  unfolding opened
  binary r second line op a b oa ob c0 c1 c2 c3 e h1 h2 ea eb h3 =
      let h2' : Appends (expression_code globals body (r + 1) b) c1 c2 = subst (λ n. Appends (expression_code globals body n b) c1 c2) e h2 in
      let last : List Lined = one line (quad.Binary op r (operand_of r a.kind) (operand_of (r + 1) b.kind)) in
      let h3' : Appends (λ at. last) c2 c3 = h3 ∙ ap (λ o. c2 ++ at_line (quad.Binary op r o ob) line ∷ []) ea ∙ ap (λ o. c2 ++ at_line (quad.Binary op r (operand_of r a.kind) o) line ∷ []) (eb ∙ ap (λ n. operand_of n b.kind) e) in
      in_turn (expression_code globals body r a) (λ at. code_then at (expression_code globals body (r + 1) b at) (λ at. last)) c0 c1 c3 h1
      (in_turn (expression_code globals body (r + 1) b) (λ at. last) c1 c2 c3 h2' h3')

  pub unary : (r line : ℕ) (op : UnOp) (a : Expr) (o : Operand) (c0 c1 c2 : List Placed) → Appends (expression_code globals body r a) c0 c1 → o ≡ operand_of r a.kind →
      c2 ≡ c1 ++ at_line (quad.Unary op r o) line ∷ [] → Appends (kind_code globals body r line (expr.Unary op a)) c0 c2
  unfolding opened
  unary r line op a o c0 c1 c2 h1 eo h2 =
      in_turn (expression_code globals body r a) (λ at. one line (quad.Unary op r (operand_of r a.kind))) c0 c1 c2 h1 (h2 ∙ ap (λ o. c1 ++ at_line (quad.Unary op r o) line ∷ []) eo)

  pub assign : (r value line : ℕ) (p : Spot) (e : Expr) (o : Operand) (c0 c1 c2 c3 : List Placed) → value ≡ r + held p →
      Appends (spot_code globals body r line p) c0 c1 → Appends (expression_code globals body value e) c1 c2 → o ≡ operand_of value e.kind →
      Appends (λ at. assigned_code globals body r line p o) c2 c3 → Appends (kind_code globals body r line (expr.Assign p e)) c0 c3
  unfolding opened
  assign r value line p e o c0 c1 c2 c3 ev h1 h2 ho h3 =
      let last : Operand → List Lined = assigned_code globals body r line p in
      let inner : Appends (λ at. code_then at (spot_code globals body r line p at) (λ at. code_then at (expression_code globals body value e at) (λ at. last (operand_of value e.kind)))) c0 c3 =
      in_turn (spot_code globals body r line p) (λ at. code_then at (expression_code globals body value e at) (λ at. last (operand_of value e.kind))) c0 c1 c3 h1
      (in_turn (expression_code globals body value e) (λ at. last (operand_of value e.kind)) c1 c2 c3 h2 (subst (λ o. Appends (λ at. last o) c2 c3) ho h3))
      in
      subst (λ v. Appends (λ at. code_then at (spot_code globals body r line p at) (λ at. code_then at (expression_code globals body v e at) (λ at. last (operand_of v e.kind)))) c0 c3) ev inner

  pub update : (r old value line : ℕ) (op : BinOp) (p : Spot) (e : Expr) (o : Operand) (c0 c1 c2 c3 c4 : List Placed) → old ≡ r + held p → value ≡ old + 1 →
      Appends (spot_code globals body r line p) c0 c1 → Appends (λ at. read_code globals body r line p) c1 c2 →
      Appends (expression_code globals body value e) c2 c3 → o ≡ operand_of value e.kind → Appends (λ at. updated_code globals body r old line op p o) c3 c4 →
      Appends (kind_code globals body r line (expr.Update op p e)) c0 c4
  unfolding opened
  update r old value line op p e o c0 c1 c2 c3 c4 eold ev h1 h2 h3 ho h4 =
      let held_in : ℕ = r + held p in
      let ev' : value ≡ held_in + 1 = ev ∙ ap (λ n. n + 1) eold in
      let last : List Lined = updated_code globals body r held_in line op p (operand_of (held_in + 1) e.kind) in
      let tail : ℕ → List Lined = λ at. code_then at (expression_code globals body (held_in + 1) e at) (λ at. last) in
      in_turn (spot_code globals body r line p) (λ at. code_then at (read_code globals body r line p) tail) c0 c1 c4 h1
      (in_turn (λ at. read_code globals body r line p) tail c1 c2 c4 h2
      (in_turn (expression_code globals body (held_in + 1) e) (λ at. last) c2 c3 c4 (subst (λ v. Appends (expression_code globals body v e) c2 c3) ev' h3)
      (subst (λ o. Appends (λ at. updated_code globals body r held_in line op p o) c3 c4) (ho ∙ ap (λ v. operand_of v e.kind) ev')
      (subst (λ old. Appends (λ at. updated_code globals body r old line op p o) c3 c4) eold h4))))

  pub step : (r line : ℕ) (p : Spot) (up after : Bool) (c0 c1 c2 : List Placed) → Appends (spot_code globals body r line p) c0 c1 → Appends (λ at. stepped_code globals body r line p up after) c1 c2 →
      Appends (kind_code globals body r line (expr.Step p up after)) c0 c2
  unfolding opened
  step r line p up after c0 c1 c2 h1 h2 = in_turn (spot_code globals body r line p) (λ at. stepped_code globals body r line p up after) c0 c1 c2 h1 h2

  -- what stands behind the index of a step
  pub stepped : (r old new value line : ℕ) (p : Spot) (up after : Bool) (op : BinOp) (a b : Access) (q w : Quad) (c1 c2 c3 c4 c5 : List Placed) → old ≡ r + held p → new ≡ old + 1 →
      a ≡ place_of globals body r p → q ≡ reading old a → c2 ≡ c1 ++ at_line q line ∷ [] → op ≡ step_operator up → c3 ≡ c2 ++ at_line (quad.Binary op new (Reg old) (Literal 1)) line ∷ [] →
      b ≡ place_of globals body r p → w ≡ writing b (Reg new) → c4 ≡ c3 ++ at_line w line ∷ [] → value ≡ (if after then old else new) → c5 ≡ c4 ++ at_line (quad.Copy r (Reg value)) line ∷ [] →
      Appends (λ at. stepped_code globals body r line p up after) c1 c5
  stepped r old new value line p up after op a b q w c1 c2 c3 c4 c5 eold enew ha hq h2 hop h3 hb hw h4 hv h5 =
      let to : Access = place_of globals body r p in
      let code : (old : ℕ) → List Placed = λ old.
      at_line (reading old to) line ∷ at_line (quad.Binary (step_operator up) (old + 1) (Reg old) (Literal 1)) line ∷ at_line (writing to (Reg (old + 1))) line ∷ at_line (quad.Copy r (Reg (if after then old else old + 1))) line ∷ []
      in
      let inner : c5 ≡ c1 ++ code old =
      four c1 c2 c3 c4 c5 (at_line (reading old to) line) (at_line (quad.Binary (step_operator up) (old + 1) (Reg old) (Literal 1)) line) (at_line (writing to (Reg (old + 1))) line) (at_line (quad.Copy r (Reg (if after then old else old + 1))) line)
      (h2 ∙ ap (λ q. c1 ++ at_line q line ∷ []) (hq ∙ ap (reading old) ha))
      (h3 ∙ ap (λ op. c2 ++ at_line (quad.Binary op new (Reg old) (Literal 1)) line ∷ []) hop ∙ ap (λ new. c2 ++ at_line (quad.Binary (step_operator up) new (Reg old) (Literal 1)) line ∷ []) enew)
      (h4 ∙ ap (λ w. c3 ++ at_line w line ∷ []) (hw ∙ ap (λ b. writing b (Reg new)) hb ∙ ap (λ new. writing to (Reg new)) enew))
      (h5 ∙ ap (λ v. c4 ++ at_line (quad.Copy r (Reg v)) line ∷ []) (hv ∙ ap (λ new. if after then old else new) enew))
      in
      inner ∙ ap (λ old. c1 ++ code old) eold

  -- a choice behind its test
  pub choice_behind : (make : Operand → ℕ → Quad) (r line : ℕ) (a : Expr) (o : Operand) (first second : ℕ → List Lined) (c0 c1 c2 c3 c4 c5 c6 : List Placed) (x y : Placed) (n1 n2 : ℕ) →
      Appends (expression_code globals body r a) c0 c1 → n1 ≡ length c1 → c2 ≡ c1 ++ x ∷ [] → Appends first c2 c3 → n2 ≡ length c3 → c4 ≡ c3 ++ y ∷ [] → Appends second c4 c5 → o ≡ operand_of r a.kind →
      c6 ≡ choice_closed c5 n1 (make o) n2 line →
      Appends (λ at. code_then at (expression_code globals body r a at) (λ at. choice line at (make (operand_of r a.kind)) first second)) c0 c6
  choice_behind make r line a o first second c0 c1 c2 c3 c4 c5 c6 x y n1 n2 h1 m1 e2 h3 m2 e4 h5 ho e6 =
      in_turn (expression_code globals body r a) (λ at. choice line at (make (operand_of r a.kind)) first second) c0 c1 c6 h1
      (closed line (make (operand_of r a.kind)) first second c1 c2 c3 c4 c5 c6 x y n1 n2 m1 e2 h3 m2 e4 h5
      (e6 ∙ ap (λ o. choice_closed c5 n1 (make o) n2 line) ho))

  pub both : (r line : ℕ) (a b : Expr) (o : Operand) (c0 c1 c2 c3 c4 c5 c6 : List Placed) (x y : Placed) (n1 n2 : ℕ) →
      Appends (expression_code globals body r a) c0 c1 → n1 ≡ length c1 → c2 ≡ c1 ++ x ∷ [] → Appends (tested_code globals body r line b) c2 c3 → n2 ≡ length c3 → c4 ≡ c3 ++ y ∷ [] →
      c5 ≡ c4 ++ at_line (quad.Copy r (Literal 0)) line ∷ [] → o ≡ operand_of r a.kind →
      c6 ≡ choice_closed c5 n1 (jump_unless true o) n2 line → Appends (kind_code globals body r line (expr.Both a b)) c0 c6
  unfolding opened
  both r line a b o c0 c1 c2 c3 c4 c5 c6 x y n1 n2 h1 m1 e2 h3 m2 e4 h5 ho e6 =
      choice_behind (jump_unless true) r line a o (tested_code globals body r line b) (λ at. one line (quad.Copy r (Literal 0))) c0 c1 c2 c3 c4 c5 c6 x y n1 n2 h1 m1 e2 h3 m2 e4 h5 ho e6

  pub either : (r line : ℕ) (a b : Expr) (o : Operand) (c0 c1 c2 c3 c4 c5 c6 : List Placed) (x y : Placed) (n1 n2 : ℕ) →
      Appends (expression_code globals body r a) c0 c1 → n1 ≡ length c1 → c2 ≡ c1 ++ x ∷ [] → Appends (tested_code globals body r line b) c2 c3 → n2 ≡ length c3 → c4 ≡ c3 ++ y ∷ [] →
      c5 ≡ c4 ++ at_line (quad.Copy r (Literal 1)) line ∷ [] → o ≡ operand_of r a.kind →
      c6 ≡ choice_closed c5 n1 (jump_unless false o) n2 line → Appends (kind_code globals body r line (expr.Either a b)) c0 c6
  unfolding opened
  either r line a b o c0 c1 c2 c3 c4 c5 c6 x y n1 n2 h1 m1 e2 h3 m2 e4 h5 ho e6 =
      choice_behind (jump_unless false) r line a o (tested_code globals body r line b) (λ at. one line (quad.Copy r (Literal 1))) c0 c1 c2 c3 c4 c5 c6 x y n1 n2 h1 m1 e2 h3 m2 e4 h5 ho e6

  pub choose : (r line : ℕ) (t a b : Expr) (o : Operand) (c0 c1 c2 c3 c4 c5 c6 : List Placed) (x y : Placed) (n1 n2 : ℕ) →
      Appends (expression_code globals body r t) c0 c1 → n1 ≡ length c1 → c2 ≡ c1 ++ x ∷ [] → Appends (side_code globals body r line a) c2 c3 → n2 ≡ length c3 → c4 ≡ c3 ++ y ∷ [] →
      Appends (side_code globals body r line b) c4 c5 → o ≡ operand_of r t.kind →
      c6 ≡ choice_closed c5 n1 (jump_unless true o) n2 line → Appends (kind_code globals body r line (expr.Choose t a b)) c0 c6
  unfolding opened
  choose r line t a b o c0 c1 c2 c3 c4 c5 c6 x y n1 n2 h1 m1 e2 h3 m2 e4 h5 ho e6 =
      choice_behind (jump_unless true) r line t o (side_code globals body r line a) (side_code globals body r line b) c0 c1 c2 c3 c4 c5 c6 x y n1 n2 h1 m1 e2 h3 m2 e4 h5 ho e6

  pub tested : (r line : ℕ) (e : Expr) (o : Operand) (c0 c1 c2 : List Placed) → Appends (expression_code globals body r e) c0 c1 → o ≡ operand_of r e.kind →
      c2 ≡ c1 ++ at_line (quad.Binary Ne r o (Literal 0)) line ∷ [] → Appends (tested_code globals body r line e) c0 c2
  tested r line e o c0 c1 c2 h1 ho h2 =
      in_turn (expression_code globals body r e) (λ at. one line (quad.Binary Ne r (operand_of r e.kind) (Literal 0))) c0 c1 c2 h1 (h2 ∙ ap (λ o. c1 ++ at_line (quad.Binary Ne r o (Literal 0)) line ∷ []) ho)

  pub side : (r line : ℕ) (e : Expr) (o : Operand) (c0 c1 c2 : List Placed) → Appends (expression_code globals body r e) c0 c1 → o ≡ operand_of r e.kind →
      c2 ≡ c1 ++ at_line (quad.Copy r o) line ∷ [] → Appends (side_code globals body r line e) c0 c2
  side r line e o c0 c1 c2 h1 ho h2 =
      in_turn (expression_code globals body r e) (λ at. one line (quad.Copy r (operand_of r e.kind))) c0 c1 c2 h1 (h2 ∙ ap (λ o. c1 ++ at_line (quad.Copy r o) line ∷ []) ho)

  pub element : (r line g n : ℕ) (index : Expr) (o : Operand) (c0 c1 c2 : List Placed) → Appends (expression_code globals body r index) c0 c1 → o ≡ operand_of r index.kind → n ≡ words_of globals g →
      c2 ≡ c1 ++ at_line (quad.Test o n) line ∷ [] → Appends (spot_code globals body r line (spot.Element g index)) c0 c2
  unfolding opened
  element r line g n index o c0 c1 c2 h1 ho hn h2 =
      in_turn (expression_code globals body r index) (λ at. one line (quad.Test (operand_of r index.kind) (words_of globals g))) c0 c1 c2 h1
      (h2 ∙ ap (λ o. c1 ++ at_line (quad.Test o n) line ∷ []) ho ∙ ap (λ n. c1 ++ at_line (quad.Test (operand_of r index.kind) n) line ∷ []) hn)

  -- ---- values of a call

  values_row : (values : List Expr) (at r : ℕ) →
      values_at (first_word globals) (words_of globals) (outer_of body) at r (hidden-the_row-Expr-1 values) ≡ values_code globals body r values at
  unfolding opened
  values_row [] at r = refl
  values_row (e ∷ values) at r =
      let here : List Lined = expression_code globals body r e at in
      ap (λ c. here ++ c) (values_row values (at + length here) (r + 1))

  arguments_row : (values : List Expr) (line k r : ℕ) →
      arguments_of (first_word globals) (words_of globals) (outer_of body) line k r (hidden-the_row-Expr-1 values) ≡ arguments_code line k r values 0
  unfolding opened
  arguments_row [] line k r = refl
  arguments_row (e ∷ values) line k r = ap (λ c. lined line (quad.Argument k (operand_of r e.kind)) ∷ c) (arguments_row values line (k + 1) (r + 1))

  pub call : (r line f : ℕ) (values : List Expr) (c0 c1 c2 : List Placed) → Appends (values_code globals body r values) c0 c1 → Appends (call_code line r f values) c1 c2 →
      Appends (kind_code globals body r line (expr.Call f values)) c0 c2
  unfolding opened
  call r line f values c0 c1 c2 h1 h2 =
      let last : List Lined = lined line (quad.Call f) ∷ one line (quad.Result r) in
      in_turn (values_code globals body r values) (λ at. code_then at (arguments_code line 0 r values 0) (λ at. last)) c0 c1 c2 h1 h2 ∙
      ap (λ (a : List Lined). c0 ++ placed (code_then (length c0) a (λ at. code_then at (arguments_code line 0 r values 0) (λ at. last)))) (sym (values_row values (length c0) r)) ∙
      ap (λ (b : List Lined). c0 ++ placed (code_then (length c0) (values_at (first_word globals) (words_of globals) (outer_of body) (length c0) r (hidden-the_row-Expr-1 values)) (λ at. code_then at b (λ at. last)))) (sym (arguments_row values line 0 r))

  pub values_more : (r second : ℕ) (e : Expr) (rest : List Expr) (c0 c1 c2 : List Placed) → second ≡ r + 1 → Appends (expression_code globals body r e) c0 c1 → Appends (values_code globals body second rest) c1 c2 →
      Appends (values_code globals body r (e ∷ rest)) c0 c2
  values_more r second e rest c0 c1 c2 es h1 h2 =
      in_turn (expression_code globals body r e) (values_code globals body (r + 1) rest) c0 c1 c2 h1 (subst (λ n. Appends (values_code globals body n rest) c1 c2) es h2)

pub arguments_more : (line k r m s : ℕ) (e : Expr) (o : Operand) (rest : List Expr) (c0 c1 c2 : List Placed) → o ≡ operand_of r e.kind → c1 ≡ c0 ++ at_line (quad.Argument k o) line ∷ [] → m ≡ k + 1 → s ≡ r + 1 →
    Appends (arguments_code line m s rest) c1 c2 → Appends (arguments_code line k r (e ∷ rest)) c0 c2
arguments_more line k r m s e o rest c0 c1 c2 ho h1 em es h2 =
    let h2' : Appends (arguments_code line (k + 1) (r + 1) rest) c1 c2 = subst (λ s. Appends (arguments_code line (k + 1) s rest) c1 c2) es (subst (λ m. Appends (arguments_code line m s rest) c1 c2) em h2) in
    in_turn (λ at. one line (quad.Argument k (operand_of r e.kind))) (arguments_code line (k + 1) (r + 1) rest) c0 c1 c2 (h1 ∙ ap (λ o. c0 ++ at_line (quad.Argument k o) line ∷ []) ho) h2'

-- what stands behind the values of a call
pub called : (r line f : ℕ) (values : List Expr) (c0 c1 c2 c3 : List Placed) → Appends (arguments_code line 0 r values) c0 c1 → c2 ≡ c1 ++ at_line (quad.Call f) line ∷ [] →
    c3 ≡ c2 ++ at_line (quad.Result r) line ∷ [] → Appends (call_code line r f values) c0 c3
called r line f values c0 c1 c2 c3 h1 h2 h3 =
    in_turn (arguments_code line 0 r values) (λ at. lined line (quad.Call f) ∷ one line (quad.Result r)) c0 c1 c3 h1 (two c1 c2 c3 (at_line (quad.Call f) line) (at_line (quad.Result r) line) h2 h3)

-- ---- loops

front_of : (values : List Expr) (i : ℕ) (e : Expr) → i < length values → e ≡ get_or values i e → drop i values ≡ e ∷ drop (i + 1) values
front_of values i e within is =
    let front : drop i values ≡ get_or values i e ∷ drop (suc i) values = drop-cons values i e within in
    let next : suc i ≡ i + 1 = omega arith in
    front ∙ ap (λ (x : Expr). x ∷ drop (suc i) values) (sym is) ∙ ap (λ n. e ∷ drop n values) next

-- what is there and the code of the rest is the whole, also behind one more argument
pub arguments_turn : (line k r m s i : ℕ) (values : List Expr) (e : Expr) (o : Operand) (c0 c1 all : List Placed) → i < length values → e ≡ get_or values i e → o ≡ operand_of r e.kind →
    c1 ≡ c0 ++ at_line (quad.Argument k o) line ∷ [] → m ≡ k + 1 → s ≡ r + 1 → c0 ++ placed (arguments_code line k r (drop i values) (length c0)) ≡ all →
    c1 ++ placed (arguments_code line m s (drop (i + 1) values) (length c1)) ≡ all
arguments_turn line k r m s i values e o c0 c1 all within is ho h1 em es given =
    arguments_more line k r m s e o (drop (i + 1) values) c0 c1 (c1 ++ placed (arguments_code line m s (drop (i + 1) values) (length c1))) ho h1 em es refl ∙
    ap (λ vs. c0 ++ placed (arguments_code line k r vs (length c0))) (sym (front_of values i e within is)) ∙
    given

-- and behind one more value
pub values_turn : (globals : List GlobalVar) (body : List Stmt) (r second i : ℕ) (values : List Expr) (e : Expr) (c0 c1 all : List Placed) → i < length values → e ≡ get_or values i e → second ≡ r + 1 →
    Appends (expression_code globals body r e) c0 c1 → c0 ++ placed (values_code globals body r (drop i values) (length c0)) ≡ all →
    c1 ++ placed (values_code globals body second (drop (i + 1) values) (length c1)) ≡ all
values_turn globals body r second i values e c0 c1 all within is es h1 given =
    values_more globals body r second e (drop (i + 1) values) c0 c1 (c1 ++ placed (values_code globals body second (drop (i + 1) values) (length c1))) es h1 refl ∙
    ap (λ vs. c0 ++ placed (values_code globals body r vs (length c0))) (sym (front_of values i e within is)) ∙
    given
