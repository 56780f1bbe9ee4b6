-- The weights of an expression's quads add up to at most 64 a node.
use Rattle.std.proofs.Common.{◌≡◌, refl, arith, ℕ, ◌+◌, ◌*◌, ◌≤◌, List, [], ◌∷◌, ◌++◌, length, Option}
use Rattle.source_meaning.specs.declared.tree.ExprKind.{ExprKind, Row_of-Expr, end_of-Expr, more_of-Expr}
use Rattle.source_meaning.specs.declared.tree.ExprKind.TheVariants as expr
use Rattle.source_meaning.specs.declared.tree.Spot.{Spot}
use Rattle.source_meaning.specs.declared.tree.Spot.TheVariants as spot
use Rattle.tree_measures.specs.Nodes.{expression_nodes, spot_nodes, row_nodes}
use Rattle.xmt_base.specs.declared.operators.BinOp.TheVariants.{Ne}
use Rattle.xmt_quads.specs.Program.{weight}
use Rattle.quad_code.specs.Lined.{Lined, lined, choice, code_then, one}
use Rattle.quad_code.specs.declared.Access.{Access}
use Rattle.quad_code.specs.declared.Access.TheVariants.{Own, Common}
use Rattle.quad_code.specs.Expressions.{boxed_operand, held, reading, writing, access_of, code_at, boxed_at, spot_at, values_at, arguments_of}
use Rattle.xmt_quads.specs.declared.code.Operand.{Operand}
use Rattle.xmt_quads.specs.declared.code.Operand.TheVariants.{Reg, Literal}
use Rattle.xmt_quads.specs.declared.code.Quad.{Quad}
use Rattle.xmt_quads.specs.declared.code.Quad.TheVariants as quad

abbrev pub code_weight : List Lined → ℕ
code_weight [] = 0
code_weight (l ∷ rest) = weight l.quad + code_weight rest

pub weight_append : (a b : List Lined) → code_weight (a ++ b) ≡ code_weight a + code_weight b
weight_append [] b = omega arith
weight_append (l ∷ a) b = let rest = weight_append a b in omega (arith, rest)

pub reading_weight : (r : ℕ) (a : Access) → weight (reading r a) ≡ 4
reading_weight r (Own x) = refl
reading_weight r (Common place) = refl

pub writing_weight : (a : Access) (o : Operand) → weight (writing a o) ≡ 4
writing_weight (Own x) o = refl
writing_weight (Common place) o = refl

pub weigh : (a b : List Lined) (m n total : ℕ) → code_weight a ≤ m → code_weight b ≤ n → m + n ≤ total → code_weight (a ++ b) ≤ total
weigh a b m n total ha hb le = omega (arith, weight_append a b, ha, hb, le)

-- so much, and two more
more : (a : List Lined) (m total : ℕ) → code_weight a ≤ m → m + 2 ≤ total → code_weight a + 2 ≤ total
more a m total h le = omega (arith, h, le)

-- a choice, by its two sides
pub choice_weight : (line at m n total : ℕ) (skip : ℕ → Quad) (first second : ℕ → List Lined) → ((to : ℕ) → weight (skip to) ≡ 4) → ((at : ℕ) → code_weight (first at) ≤ m) → ((at : ℕ) → code_weight (second at) ≤ n) → m + n + 8 ≤ total → code_weight (choice line at skip first second) ≤ total
choice_weight line at m n total skip first second light ha hb le =
    let a = first (at + 1) in
    let middle = at + 1 + length a + 1 in
    let b = second middle in
    let jump : Lined = lined line (quad.Jump (middle + length b)) in
    omega (arith, weight_append a (jump ∷ b), light middle, ha (at + 1), hb middle, le)

module _ (base_of size_of : ℕ → ℕ) (outer : ℕ → Option ℕ) where
  mutual
    -- two less than that, which an argument takes
    pub expression_weight : (k : ExprKind) (at r line : ℕ) → code_weight (code_at base_of size_of outer at r line k) + 2 ≤ 64 * expression_nodes k
    expression_weight (expr.Number v) at r line = omega arith
    expression_weight expr.Dollar at r line = omega arith
    expression_weight (expr.Read p) at r line =
        let a = reading_weight r (access_of base_of size_of outer r p) in
        let n = 64 * spot_nodes p in
        more _ (n + 8) _ (weigh _ _ (n + 4) 4 _ (spot_weight p at r line) (omega (arith, a)) (omega arith)) (omega arith)
    expression_weight (expr.Assign' p shape e) at r line =
        let value = r + held p in
        let a = writing_weight (access_of base_of size_of outer r p) (boxed_operand value e) in
        let n = 64 * spot_nodes p in
        let m = 64 * row_nodes e in
        more _ (n + m + 12) _
        (weigh _ _ (n + 4) (m + 8) _ (spot_weight p at r line)
        (weigh _ _ m 8 _ (box_weight e _ value) (omega (arith, a)) (omega arith)) (omega arith)) (omega arith)
    expression_weight (expr.Update' op p shape e) at r line =
        let old = r + held p in
        let a = reading_weight old (access_of base_of size_of outer r p) in
        let b = writing_weight (access_of base_of size_of outer r p) (Reg old) in
        let n = 64 * spot_nodes p in
        let m = 64 * row_nodes e in
        more _ (n + m + 20) _
        (weigh _ _ (n + 4) (m + 16) _ (spot_weight p at r line)
        (weigh (one line (reading old (access_of base_of size_of outer r p))) _ 4 (m + 12) _ (omega (arith, a))
        (weigh _ _ m 12 _ (box_weight e _ (old + 1)) (omega (arith, b)) (omega arith)) (omega arith)) (omega arith)) (omega arith)
    expression_weight (expr.Step p up after) at r line =
        let old = r + held p in
        let a = reading_weight old (access_of base_of size_of outer r p) in
        let b = writing_weight (access_of base_of size_of outer r p) (Reg (old + 1)) in
        let n = 64 * spot_nodes p in
        more _ (n + 20) _ (weigh _ _ (n + 4) 16 _ (spot_weight p at r line) (omega (arith, a, b)) (omega arith)) (omega arith)
    expression_weight (expr.Unary' op shape e) at r line =
        let m = 64 * row_nodes e in
        more _ (m + 4) _ (weigh _ _ m 4 _ (box_weight e at r) (omega arith) (omega arith)) (omega arith)
    expression_weight (expr.Binary' op left a right b) at r line =
        let m = 64 * row_nodes a in
        let n = 64 * row_nodes b in
        more _ (m + n + 4) _
        (weigh _ _ m (n + 4) _ (box_weight a at r) (weigh _ _ n 4 _ (box_weight b _ (r + 1)) (omega arith) (omega arith)) (omega arith)) (omega arith)
    expression_weight (expr.Both' left a right b) at r line =
        let m = 64 * row_nodes a in
        let n = 64 * row_nodes b in
        more _ (m + (n + 16)) _
        (weigh _ _ m (n + 16) _ (box_weight a at r)
        (choice_weight line _ (n + 4) 4 (n + 16) (quad.IfZero (boxed_operand r a)) (λ at. code_then at (boxed_at base_of size_of outer at r b) (λ at. one line (quad.Binary Ne r (boxed_operand r b) (Literal 0)))) (λ at. one line (quad.Copy r (Literal 0))) (λ to. refl)
        (λ at. weigh _ _ n 4 _ (box_weight b at r) (omega arith) (omega arith)) (λ at. omega arith) (omega arith)) (omega arith)) (omega arith)
    expression_weight (expr.Either' left a right b) at r line =
        let m = 64 * row_nodes a in
        let n = 64 * row_nodes b in
        more _ (m + (n + 16)) _
        (weigh _ _ m (n + 16) _ (box_weight a at r)
        (choice_weight line _ (n + 4) 4 (n + 16) (quad.IfNot (boxed_operand r a)) (λ at. code_then at (boxed_at base_of size_of outer at r b) (λ at. one line (quad.Binary Ne r (boxed_operand r b) (Literal 0)))) (λ at. one line (quad.Copy r (Literal 1))) (λ to. refl)
        (λ at. weigh _ _ n 4 _ (box_weight b at r) (omega arith) (omega arith)) (λ at. omega arith) (omega arith)) (omega arith)) (omega arith)
    expression_weight (expr.Choose' shape test left a right b) at r line =
        let l = 64 * row_nodes test in
        let m = 64 * row_nodes a in
        let n = 64 * row_nodes b in
        more _ (l + (m + n + 16)) _
        (weigh _ _ l (m + n + 16) _ (box_weight test at r)
        (choice_weight line _ (m + 4) (n + 4) (m + n + 16) (quad.IfZero (boxed_operand r test)) (λ at. code_then at (boxed_at base_of size_of outer at r a) (λ at. one line (quad.Copy r (boxed_operand r a)))) (λ at. code_then at (boxed_at base_of size_of outer at r b) (λ at. one line (quad.Copy r (boxed_operand r b)))) (λ to. refl)
        (λ at. weigh _ _ m 4 _ (box_weight a at r) (omega arith) (omega arith)) (λ at. weigh _ _ n 4 _ (box_weight b at r) (omega arith) (omega arith)) (omega arith)) (omega arith)) (omega arith)
    expression_weight (expr.Call' function shape values) at r line =
        let vs = values_at base_of size_of outer at r values in
        let args = arguments_of base_of size_of outer line 0 r values in
        let last : List Lined = lined line (quad.Call function) ∷ one line (quad.Result r) in
        omega (arith, weight_append vs (args ++ last), weight_append args last, values_weight values at line 0 r)

    pub spot_weight : (p : Spot) (at r line : ℕ) → code_weight (spot_at base_of size_of outer at r line p) ≤ 64 * spot_nodes p + 4
    spot_weight (spot.Element' g shape index) at r line = weigh _ _ (64 * row_nodes index) 4 _ (box_weight index at r) (omega arith) (omega arith)
    spot_weight (spot.Global g) at r line = omega arith
    spot_weight (spot.Register x) at r line = omega arith
    spot_weight (spot.Local slot) at r line = omega arith

    box_weight : {n : _} (row : Row_of-Expr n) (at r : ℕ) → code_weight (boxed_at base_of size_of outer at r row) ≤ 64 * row_nodes row
    box_weight end_of-Expr at r = omega arith
    box_weight (more_of-Expr place kind rest) at r = omega (arith, expression_weight kind at r place.line)

    pub values_weight : {n : _} (row : Row_of-Expr n) (at line k r : ℕ) → code_weight (values_at base_of size_of outer at r row) + code_weight (arguments_of base_of size_of outer line k r row) ≤ 64 * row_nodes row
    values_weight end_of-Expr at line k r = omega arith
    values_weight (more_of-Expr place kind rest) at line k r =
        let ca = code_at base_of size_of outer at r place.line kind in
        let cb = values_at base_of size_of outer (at + length ca) (r + 1) rest in
        omega (arith, weight_append ca cb, expression_weight kind at r place.line, values_weight rest (at + length ca) line (k + 1) (r + 1))
