-- The quads of an expression name registers of variables, and those from the given number on, as many as values wait.
use Rattle.quad_code.specs.Known.{AllKnown, NamesKnown, SpotKnown}
use Rattle.std.proofs.Common.{◌≡◌, refl, ◌⊎◌, inl, inr, arith, ℕ, ◌+◌, ◌≤◌, ◌<◌, true, false, if◌then◌else◌, List, [], ◌∷◌, ◌++◌, Option, Some, None}
use Rattle.std.specs.Prelude.{Bool, ◌==◌, ◌||◌}
use Rattle.source_meaning.specs.declared.tree.ExprKind.{ExprKind, Row_of-Expr, end_of-Expr, more_of-Expr}
use Rattle.source_meaning.specs.declared.tree.ExprKind.TheVariants as expr
use Rattle.source_meaning.specs.declared.tree.Spot.{Spot}
use Rattle.source_meaning.specs.declared.tree.Spot.TheVariants as spot
use Rattle.tree_measures.specs.Waiting.{waiting_in, waiting_at, waiting_boxed, waiting_behind}
use Rattle.xmt_quads.specs.declared.code.Operand.{Operand}
use Rattle.xmt_quads.specs.declared.code.Operand.TheVariants.{Reg, Literal}
use Rattle.xmt_quads.specs.declared.code.Where.{Where}
use Rattle.xmt_quads.specs.declared.code.Where.TheVariants.{Word, Element, Outer, PsReg}
use Rattle.xmt_quads.specs.declared.code.Quad.{Quad}
use Rattle.xmt_quads.specs.declared.code.Quad.TheVariants as quad
use Rattle.xmt_quads.specs.Live.{is_register, is_index, reads, writes}
use Rattle.xmt_quads.specs.WellFormed.{AreBelow}
use Rattle.quad_code.specs.Lined.{Lined}
use Rattle.quad_code.specs.declared.Access.{Access}
use Rattle.quad_code.specs.declared.Access.TheVariants.{Own, Common}
use Rattle.quad_code.specs.Expressions.{operand_of, boxed_operand, held, reading, writing, access_of, access_of_slot, code_at, boxed_at, spot_at, values_at, arguments_of}

abbrev pub OperandBelow : (registers : ℕ) → Operand → Type 0
OperandBelow n (Reg r) = r < n
OperandBelow n (Literal v) = Unit {0}

abbrev pub PlaceBelow : (registers : ℕ) → Where → Type 0
PlaceBelow n (Element base index) = OperandBelow n index
PlaceBelow n _ = Unit {0}

-- each register that a quad names is below this number
abbrev pub RegistersBelow : (registers : ℕ) → Quad → Type 0
RegistersBelow n (quad.Copy r o) = (r < n) × OperandBelow n o
RegistersBelow n (quad.Unary op r o) = (r < n) × OperandBelow n o
RegistersBelow n (quad.Binary op r a b) = (r < n) × OperandBelow n a × OperandBelow n b
RegistersBelow n (quad.Dollar r) = r < n
RegistersBelow n (quad.Test o size) = OperandBelow n o
RegistersBelow n (quad.Load r place) = (r < n) × PlaceBelow n place
RegistersBelow n (quad.Store place o) = PlaceBelow n place × OperandBelow n o
RegistersBelow n (quad.Add r place o) = (r < n) × PlaceBelow n place × OperandBelow n o
RegistersBelow n (quad.IfZero o at) = OperandBelow n o
RegistersBelow n (quad.IfNot o at) = OperandBelow n o
RegistersBelow n (quad.Argument k o) = OperandBelow n o
RegistersBelow n (quad.Parameter r k) = r < n
RegistersBelow n (quad.Result r) = r < n
RegistersBelow n (quad.Return o) = OperandBelow n o
RegistersBelow n (quad.Spawn low high) = OperandBelow n low × OperandBelow n high
RegistersBelow n _ = Unit {0}

is_below : (n r : ℕ) (o : Operand) → OperandBelow n o → is_register r o ≡ true → r < n
is_below n r (Reg x) h e = let same : r ≡ x = grind (arith, e) in omega (arith, h, same)
is_below n r (Literal v) h e = cc

index_below : (n r : ℕ) (place : Where) → PlaceBelow n place → is_index r place ≡ true → r < n
index_below n r (Element base index) h e = is_below n r index h e
index_below n r (Word w) h e = cc
index_below n r (Outer w) h e = cc
index_below n r (PsReg w) h e = cc

or_cases : (a b : Bool) → (a || b) ≡ true → (a ≡ true) ⊎ (b ≡ true)
or_cases true b h = inl refl
or_cases false b h = inr h

either_below : (n r : ℕ) (a b : Bool) → (a ≡ true → r < n) → (b ≡ true → r < n) → (a || b) ≡ true → r < n
either_below n r a b first second h = elim (or_cases a b h) [ inl e ↦ first e | inr e ↦ second e ]

written_below : (n r x : ℕ) → x < n → (r == x) ≡ true → r < n
written_below n r x h e = let same : r ≡ x = grind (arith, e) in omega (arith, h, same)

-- each register that the quad reads or writes is below the number
pub reads_below : (n r : ℕ) (q : Quad) → RegistersBelow n q → reads r q ≡ true → r < n
reads_below n r (quad.Copy x o) h e = is_below n r o h.1 e
reads_below n r (quad.Unary op x o) h e = is_below n r o h.1 e
reads_below n r (quad.Binary op x a b) h e = either_below n r (is_register r a) (is_register r b) (is_below n r a h.1) (is_below n r b h.2) e
reads_below n r (quad.Dollar x) h e = cc
reads_below n r (quad.Test o size) h e = is_below n r o h e
reads_below n r (quad.Load x place) h e = index_below n r place h.1 e
reads_below n r (quad.Store place o) h e = either_below n r (is_index r place) (is_register r o) (index_below n r place h.0) (is_below n r o h.1) e
reads_below n r (quad.Add x place o) h e = either_below n r (is_index r place) (is_register r o) (index_below n r place h.1) (is_below n r o h.2) e
reads_below n r (quad.Jump to) h e = cc
reads_below n r (quad.IfZero o to) h e = is_below n r o h e
reads_below n r (quad.IfNot o to) h e = is_below n r o h e
reads_below n r (quad.Argument k o) h e = is_below n r o h e
reads_below n r (quad.Parameter x k) h e = cc
reads_below n r (quad.Call f) h e = cc
reads_below n r (quad.Result x) h e = cc
reads_below n r (quad.Return o) h e = is_below n r o h e
reads_below n r (quad.Print text) h e = cc
reads_below n r (quad.Spawn low high) h e = either_below n r (is_register r low) (is_register r high) (is_below n r low h.0) (is_below n r high h.1) e
reads_below n r quad.Join h e = cc

pub writes_below : (n r : ℕ) (q : Quad) → RegistersBelow n q → writes r q ≡ true → r < n
writes_below n r (quad.Copy x o) h e = written_below n r x h.0 e
writes_below n r (quad.Unary op x o) h e = written_below n r x h.0 e
writes_below n r (quad.Binary op x a b) h e = written_below n r x h.0 e
writes_below n r (quad.Dollar x) h e = written_below n r x h e
writes_below n r (quad.Load x place) h e = written_below n r x h.0 e
writes_below n r (quad.Add x place o) h e = written_below n r x h.0 e
writes_below n r (quad.Parameter x k) h e = written_below n r x h e
writes_below n r (quad.Result x) h e = written_below n r x h e
writes_below n r (quad.Test o size) h e = cc
writes_below n r (quad.Store place o) h e = cc
writes_below n r (quad.Jump to) h e = cc
writes_below n r (quad.IfZero o to) h e = cc
writes_below n r (quad.IfNot o to) h e = cc
writes_below n r (quad.Argument k o) h e = cc
writes_below n r (quad.Call f) h e = cc
writes_below n r (quad.Return o) h e = cc
writes_below n r (quad.Print text) h e = cc
writes_below n r (quad.Spawn low high) h e = cc
writes_below n r quad.Join h e = cc

pub are_below : (n : ℕ) (q : Quad) → RegistersBelow n q → AreBelow n q
are_below n q h r is = elim is [ inl e ↦ reads_below n r q h e | inr e ↦ writes_below n r q h e ]

abbrev pub CodeBelow : (registers : ℕ) → List Lined → Type 0
CodeBelow n [] = Unit {0}
CodeBelow n (l ∷ rest) = RegistersBelow n l.quad × CodeBelow n rest

pub below_append : (n : ℕ) (a b : List Lined) → CodeBelow n a → CodeBelow n b → CodeBelow n (a ++ b)
below_append n [] b first second = second
below_append n (l ∷ a) b first second = (first.0, below_append n a b first.1 second)

pub operand_below : (n r : ℕ) (k : ExprKind) → r < n → OperandBelow n (operand_of r k)
operand_below n r (expr.Number v) h = tt
operand_below n r _ h = h

boxed_below : (n r : ℕ) {m : _} (row : Row_of-Expr m) → r < n → OperandBelow n (boxed_operand r row)
boxed_below n r end_of-Expr h = tt
boxed_below n r (more_of-Expr place kind rest) h = operand_below n r kind h

abbrev pub AccessBelow : ℕ → Access → Type 0
AccessBelow n (Own x) = x < n
AccessBelow n (Common place) = PlaceBelow n place

-- a value waits for each expression
mutual
  pub waiting_one : (k : ExprKind) → 1 ≤ waiting_in k
  waiting_one (expr.Number n) = omega arith
  waiting_one expr.Dollar = omega arith
  waiting_one (expr.Read p) = at_one p 1 0 (omega arith)
  waiting_one (expr.Assign' p shape e) = at_one p (waiting_boxed e) (1 + waiting_boxed e) (box_one e)
  waiting_one (expr.Update' op p shape e) = at_one p (1 + waiting_boxed e) (2 + waiting_boxed e) (omega arith)
  waiting_one (expr.Step p up after) = at_one p 2 3 (omega arith)
  waiting_one (expr.Unary' op shape e) = box_one e
  waiting_one (expr.Binary' op left a right b) = grind (arith, box_one a)
  waiting_one (expr.Both' left a right b) = grind (arith, box_one a)
  waiting_one (expr.Either' left a right b) = grind (arith, box_one a)
  waiting_one (expr.Choose' first test left a right b) = grind (arith, box_one test)
  waiting_one (expr.Call' function shape values) = grind arith

  at_one : (p : Spot) (variable element : ℕ) → 1 ≤ variable → 1 ≤ waiting_at p variable element
  at_one (spot.Element' g shape index) v e hv = grind (arith, box_one index)
  at_one (spot.Global g) v e hv = hv
  at_one (spot.Register x) v e hv = hv
  at_one (spot.Local x) v e hv = hv

  box_one : (row : Row_of-Expr 1) → 1 ≤ waiting_boxed row
  box_one (more_of-Expr place kind rest) = waiting_one kind

room_at : (p : Spot) (v e : ℕ) → 1 + v ≤ e → held p + v ≤ waiting_at p v e
room_at (spot.Element' g shape index) v e h = grind (arith, h)
room_at (spot.Global g) v e h = omega arith
room_at (spot.Register x) v e h = omega arith
room_at (spot.Local x) v e h = omega arith

spot_room : (p : Spot) (v e : ℕ) → waiting_at p 0 0 ≤ waiting_at p v e
spot_room (spot.Element' g shape index) v e = grind arith
spot_room (spot.Global g) v e = omega arith
spot_room (spot.Register x) v e = omega arith
spot_room (spot.Local x) v e = omega arith

pub reading_below : (n r : ℕ) (a : Access) → r < n → AccessBelow n a → RegistersBelow n (reading r a)
reading_below n r (Own x) h is = (h, is)
reading_below n r (Common place) h is = (h, is)

pub writing_below : (n : ℕ) (a : Access) (o : Operand) → AccessBelow n a → OperandBelow n o → RegistersBelow n (writing a o)
writing_below n (Own x) o is h = (is, h)
writing_below n (Common place) o is h = (is, h)

module _ (base_of size_of : ℕ → ℕ) (outer : ℕ → Option ℕ) (globals : ℕ) (MayCall : (function values : ℕ) → Type 0) (known : ℕ → Bool) (n : ℕ) (low : (x : ℕ) → known x ≡ true → x < n) where
  pub slot_below : (slot : ℕ) (o : Option ℕ) → known slot ≡ true → AccessBelow n (access_of_slot slot o)
  slot_below slot None h = low slot h
  slot_below slot (Some number) h = tt

  pub access_below : (r : ℕ) (p : Spot) → SpotKnown globals MayCall known p → r < n → AccessBelow n (access_of base_of size_of outer r p)
  access_below r (spot.Global g) is h = tt
  access_below r (spot.Element' g shape index) is h = boxed_below n r index h
  access_below r (spot.Register x) is h = tt
  access_below r (spot.Local slot) is h = slot_below slot (outer slot) is

  mutual
    -- below the number of variables, or below the first free register and the values that wait
    pub expression_below : (k : ExprKind) (at r line : ℕ) → NamesKnown globals MayCall known k → r + waiting_in k ≤ n → CodeBelow n (code_at base_of size_of outer at r line k)
    expression_below (expr.Number v) at r line is h = tt
    expression_below expr.Dollar at r line is h = (omega (arith, h), tt)
    expression_below (expr.Read p) at r line is h =
        let fits : r < n = omega (arith, h, waiting_one (expr.Read p)) in
        below_append n _ _ (spot_below p at r line is (omega (arith, h, spot_room p 1 0))) (reading_below n r _ fits (access_below r p is fits), tt)
    expression_below (expr.Assign' p shape e) at r line is h =
        let w = waiting_boxed e in
        let room : r + held p + w ≤ n = omega (arith, h, room_at p w (1 + w) (omega arith)) in
        let fits : r < n = omega (arith, room, box_one e) in
        let o = boxed_below n (r + held p) e (omega (arith, room, box_one e)) in
        below_append n _ _ (spot_below p at r line is.0 (omega (arith, h, spot_room p w (1 + w))))
        (below_append n _ _ (box_below e _ (r + held p) is.1 room) (writing_below n _ _ (access_below r p is.0 fits) o, ((fits, o), tt)))
    expression_below (expr.Update' op p shape e) at r line is h =
        let w = waiting_boxed e in
        let room : r + held p + (1 + w) ≤ n = omega (arith, h, room_at p (1 + w) (2 + w) (omega arith)) in
        let fits : r < n = omega (arith, room) in
        let old : r + held p < n = omega (arith, room) in
        let o = boxed_below n (r + held p + 1) e (omega (arith, room, box_one e)) in
        let a = access_below r p is.0 fits in
        below_append n _ _ (spot_below p at r line is.0 (omega (arith, h, spot_room p (1 + w) (2 + w))))
        (reading_below n (r + held p) _ old a, below_append n _ _ (box_below e _ (r + held p + 1) is.1 (omega (arith, room))) ((old, old, o), (writing_below n _ _ a old, ((fits, old), tt))))
    expression_below (expr.Step p up after) at r line is h =
        let room : r + held p + 2 ≤ n = omega (arith, h, room_at p 2 3 (omega arith)) in
        let fits : r < n = omega (arith, room) in
        let old : r + held p < n = omega (arith, room) in
        let new : r + held p + 1 < n = omega (arith, room) in
        let a = access_below r p is fits in
        below_append n _ _ (spot_below p at r line is (omega (arith, h, spot_room p 2 3)))
        (reading_below n (r + held p) _ old a, ((new, old, tt), (writing_below n _ _ a new, ((fits, last_below after old new), tt))))
      where
        last_below : (b : Bool) → r + held p < n → r + held p + 1 < n → (if b then r + held p else r + held p + 1) < n
        last_below true x y = x
        last_below false x y = y
    expression_below (expr.Unary' op shape e) at r line is h =
        let fits : r < n = omega (arith, h, box_one e) in
        below_append n _ _ (box_below e at r is h) ((fits, boxed_below n r e fits), tt)
    expression_below (expr.Binary' op left a right b) at r line is h =
        let ha : r + waiting_boxed a ≤ n = grind (arith, h) in
        let hb : r + 1 + waiting_boxed b ≤ n = grind (arith, h) in
        let fits : r < n = omega (arith, ha, box_one a) in
        below_append n _ _ (box_below a at r is.0 ha)
        (below_append n _ _ (box_below b _ (r + 1) is.1 hb) ((fits, boxed_below n r a fits, boxed_below n (r + 1) b (omega (arith, hb, box_one b))), tt))
    expression_below (expr.Both' left a right b) at r line is h =
        let ha : r + waiting_boxed a ≤ n = grind (arith, h) in
        let hb : r + waiting_boxed b ≤ n = grind (arith, h) in
        let fits : r < n = omega (arith, ha, box_one a) in
        below_append n _ _ (box_below a at r is.0 ha)
        (boxed_below n r a fits, below_append n _ _ (below_append n _ _ (box_below b _ r is.1 hb) ((fits, boxed_below n r b fits, tt), tt)) (tt, ((fits, tt), tt)))
    expression_below (expr.Either' left a right b) at r line is h =
        let ha : r + waiting_boxed a ≤ n = grind (arith, h) in
        let hb : r + waiting_boxed b ≤ n = grind (arith, h) in
        let fits : r < n = omega (arith, ha, box_one a) in
        below_append n _ _ (box_below a at r is.0 ha)
        (boxed_below n r a fits, below_append n _ _ (below_append n _ _ (box_below b _ r is.1 hb) ((fits, boxed_below n r b fits, tt), tt)) (tt, ((fits, tt), tt)))
    expression_below (expr.Choose' shape test left a right b) at r line is h =
        let ht : r + waiting_boxed test ≤ n = grind (arith, h) in
        let ha : r + waiting_boxed a ≤ n = grind (arith, h) in
        let hb : r + waiting_boxed b ≤ n = grind (arith, h) in
        let fits : r < n = omega (arith, ha, box_one a) in
        below_append n _ _ (box_below test at r is.0 ht)
        (boxed_below n r test fits, below_append n _ _ (below_append n _ _ (box_below a _ r is.1 ha) ((fits, boxed_below n r a fits), tt)) (tt, below_append n _ _ (box_below b _ r is.2 hb) ((fits, boxed_below n r b fits), tt)))
    expression_below (expr.Call' function shape values) at r line is h =
        let fits : r < n = grind (arith, h) in
        let room : r + waiting_behind 0 values ≤ n = grind (arith, h) in
        let here : r ≡ r + 0 = omega arith in
        below_append n _ _ (values_below values at r 0 r here is.1 room) (below_append n _ _ (arguments_below values line 0 r 0 r here room) (tt, (fits, tt)))

    pub spot_below : (p : Spot) (at r line : ℕ) → SpotKnown globals MayCall known p → r + waiting_at p 0 0 ≤ n → CodeBelow n (spot_at base_of size_of outer at r line p)
    spot_below (spot.Element' g shape index) at r line is h =
        let hi : r + waiting_boxed index ≤ n = grind (arith, h) in
        let fits : r < n = omega (arith, hi, box_one index) in
        below_append n _ _ (box_below index at r is.1 hi) (boxed_below n r index fits, tt)
    spot_below (spot.Global g) at r line is h = tt
    spot_below (spot.Register x) at r line is h = tt
    spot_below (spot.Local slot) at r line is h = tt

    box_below : (row : Row_of-Expr 1) (at r : ℕ) → AllKnown globals MayCall known row → r + waiting_boxed row ≤ n → CodeBelow n (boxed_at base_of size_of outer at r row)
    box_below (more_of-Expr place kind rest) at r is h = expression_below kind at r place.line is.0 h

    -- so many values wait before
    pub values_below : {m : _} (row : Row_of-Expr m) (at first before r : ℕ) → r ≡ first + before → AllKnown globals MayCall known row → first + waiting_behind before row ≤ n → CodeBelow n (values_at base_of size_of outer at r row)
    values_below end_of-Expr at first before r e is h = tt
    values_below (more_of-Expr place kind rest) at first before r e is h =
        let here : r + waiting_in kind ≤ n = grind (arith, h, e) in
        let later : first + waiting_behind (before + 1) rest ≤ n = grind (arith, h) in
        let next : r + 1 ≡ first + (before + 1) = omega (arith, e) in
        below_append n _ _ (expression_below kind at r place.line is.0 here) (values_below rest _ first (before + 1) (r + 1) next is.1 later)

    pub arguments_below : {m : _} (row : Row_of-Expr m) (line k first before r : ℕ) → r ≡ first + before → first + waiting_behind before row ≤ n → CodeBelow n (arguments_of base_of size_of outer line k r row)
    arguments_below end_of-Expr line k first before r e h = tt
    arguments_below (more_of-Expr place kind rest) line k first before r e h =
        let here : r + waiting_in kind ≤ n = grind (arith, h, e) in
        let later : first + waiting_behind (before + 1) rest ≤ n = grind (arith, h) in
        let next : r + 1 ≡ first + (before + 1) = omega (arith, e) in
        (operand_below n r kind (omega (arith, here, waiting_one kind)), arguments_below rest line (k + 1) first (before + 1) (r + 1) next later)
