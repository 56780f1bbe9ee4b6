-- The quads that stand for an expression.
-- They are put at a place of their function. They may use the registers from one number on, and leave the value in the first of these, if it is no number that the text gives.
use Rattle.std.specs.Prelude.{ℕ, ◌+◌, Bool, if◌then◌else◌, List, [], ◌∷◌, Option, Some, None}
use Rattle.xmt_base.specs.declared.operators.BinOp.{BinOp}
use Rattle.xmt_base.specs.declared.operators.BinOp.TheVariants.{Add, Sub, Ne}
use Rattle.source_meaning.specs.declared.tree.Expr.{Expr}
use Rattle.source_meaning.specs.declared.tree.ExprKind.{ExprKind, Row_of-Expr, end_of-Expr, more_of-Expr}
use Rattle.source_meaning.specs.declared.tree.ExprKind.TheVariants as expr
use Rattle.source_meaning.specs.declared.tree.Spot.{Spot}
use Rattle.source_meaning.specs.declared.tree.Spot.TheVariants as spot
use Rattle.quad_code.specs.Lined.{Lined, lined, one, code_then, choice}
use Rattle.quad_code.specs.declared.Access.{Access}
use Rattle.quad_code.specs.declared.Access.TheVariants.{Own, Common}
use Rattle.xmt_quads.specs.declared.code.Operand.{Operand}
use Rattle.xmt_quads.specs.declared.code.Operand.TheVariants.{Reg, Literal}
use Rattle.xmt_quads.specs.declared.code.Where.TheVariants.{Word, Element, Outer, PsReg}
use Rattle.xmt_quads.specs.declared.code.Quad.{Quad}
use Rattle.xmt_quads.specs.declared.code.Quad.TheVariants as quad

abbrev pub access_of_slot : (slot : ℕ) → Option ℕ → Access
access_of_slot slot None = Own slot
access_of_slot slot (Some number) = Common (Outer number)

abbrev pub reading : (register : ℕ) → Access → Quad
reading r (Own x) = quad.Copy r (Reg x)
reading r (Common place) = quad.Load r place

abbrev pub writing : Access → Operand → Quad
writing (Own x) o = quad.Copy x o
writing (Common place) o = quad.Store place o

-- the value of an operand is added to a place, and what the place held is left in a register
abbrev pub adding : (line old : ℕ) → Access → Operand → List Lined
adding line old (Own x) o = lined line (quad.Copy old (Reg x)) ∷ one line (quad.Binary Add x (Reg x) o)
adding line old (Common place) o = one line (quad.Add old place o)

-- where an expression's value is found
abbrev pub operand_of : (register : ℕ) → ExprKind → Operand
operand_of r (expr.Number n) = Literal n
operand_of r _ = Reg r

abbrev pub boxed_operand : (register : ℕ) → {n : _} → Row_of-Expr n → Operand
boxed_operand r end_of-Expr = Literal 0
boxed_operand r (more_of-Expr place kind rest) = operand_of r kind

-- how many registers wait while a place is in use: that of the index of an element
abbrev pub held : Spot → ℕ
held (spot.Element' g shape index) = 1
held _ = 0

-- the operator of `++` and `--`
abbrev pub step_operator : (up : Bool) → BinOp
step_operator up = if up then Add else Sub

-- The first word and the length of each global, and the number of each variable that a block writes, among those of its function.
module _ (base_of size_of : (global : ℕ) → ℕ) (outer : (slot : ℕ) → Option ℕ) where
  -- a place, once its index is in this register
  abbrev pub access_of : (register : ℕ) → Spot → Access
  access_of r (spot.Global g) = Common (Word (base_of g))
  access_of r (spot.Element' g shape index) = Common (Element (base_of g) (boxed_operand r index))
  access_of r (spot.Register x) = Common (PsReg x)
  access_of r (spot.Local slot) = access_of_slot slot (outer slot)

  abbrev mutual
    pub code_at : (at r line : ℕ) → ExprKind → List Lined
    code_at at r line (expr.Number n) = []
    code_at at r line expr.Dollar = one line (quad.Dollar r)
    code_at at r line (expr.Read p) = code_then at (spot_at at r line p) (λ at. one line (reading r (access_of r p)))
    code_at at r line (expr.Assign' p shape e) =
        let value = r + held p in
        code_then at (spot_at at r line p) (λ at.
        code_then at (boxed_at at value e) (λ at.
        lined line (writing (access_of r p) (boxed_operand value e)) ∷ one line (quad.Copy r (boxed_operand value e))))
    code_at at r line (expr.Update' op p shape e) =
        let old = r + held p in
        code_then at (spot_at at r line p) (λ at.
        code_then at (one line (reading old (access_of r p))) (λ at.
        code_then at (boxed_at at (old + 1) e) (λ at.
        lined line (quad.Binary op old (Reg old) (boxed_operand (old + 1) e)) ∷
        lined line (writing (access_of r p) (Reg old)) ∷ one line (quad.Copy r (Reg old)))))
    code_at at r line (expr.Step p up after) =
        let old = r + held p in
        code_then at (spot_at at r line p) (λ at.
        lined line (reading old (access_of r p)) ∷
        lined line (quad.Binary (step_operator up) (old + 1) (Reg old) (Literal 1)) ∷
        lined line (writing (access_of r p) (Reg (old + 1))) ∷
        one line (quad.Copy r (Reg (if after then old else old + 1))))
    code_at at r line (expr.Unary' op shape e) =
        code_then at (boxed_at at r e) (λ at. one line (quad.Unary op r (boxed_operand r e)))
    code_at at r line (expr.Binary' op left a right b) =
        code_then at (boxed_at at r a) (λ at.
        code_then at (boxed_at at (r + 1) b) (λ at.
        one line (quad.Binary op r (boxed_operand r a) (boxed_operand (r + 1) b))))
    code_at at r line (expr.Both' left a right b) =
        code_then at (boxed_at at r a) (λ at.
        choice line at (quad.IfZero (boxed_operand r a))
        (λ at. code_then at (boxed_at at r b) (λ at. one line (quad.Binary Ne r (boxed_operand r b) (Literal 0))))
        (λ at. one line (quad.Copy r (Literal 0))))
    code_at at r line (expr.Either' left a right b) =
        code_then at (boxed_at at r a) (λ at.
        choice line at (quad.IfNot (boxed_operand r a))
        (λ at. code_then at (boxed_at at r b) (λ at. one line (quad.Binary Ne r (boxed_operand r b) (Literal 0))))
        (λ at. one line (quad.Copy r (Literal 1))))
    code_at at r line (expr.Choose' first test left a right b) =
        code_then at (boxed_at at r test) (λ at.
        choice line at (quad.IfZero (boxed_operand r test))
        (λ at. code_then at (boxed_at at r a) (λ at. one line (quad.Copy r (boxed_operand r a))))
        (λ at. code_then at (boxed_at at r b) (λ at. one line (quad.Copy r (boxed_operand r b)))))
    code_at at r line (expr.Call' function shape values) =
        code_then at (values_at at r values) (λ at.
        code_then at (arguments_of line 0 r values) (λ at.
        lined line (quad.Call function) ∷ one line (quad.Result r)))

    -- the one expression of a box, which is a row of one
    pub boxed_at : (at r : ℕ) → {n : _} → Row_of-Expr n → List Lined
    boxed_at at r end_of-Expr = []
    boxed_at at r (more_of-Expr place kind rest) = code_at at r place.line kind

    -- a place: an element's index, and its test
    pub spot_at : (at r line : ℕ) → Spot → List Lined
    spot_at at r line (spot.Element' g shape index) =
        code_then at (boxed_at at r index) (λ at. one line (quad.Test (boxed_operand r index) (size_of g)))
    spot_at at r line _ = []

    -- values from left to right, each in a register of its own
    pub values_at : (at r : ℕ) → {n : _} → Row_of-Expr n → List Lined
    values_at at r end_of-Expr = []
    values_at at r (more_of-Expr place kind rest) =
        code_then at (code_at at r place.line kind) (λ at. values_at at (r + 1) rest)

    -- those values as arguments, from this place of the list on
    pub arguments_of : (line k r : ℕ) → {n : _} → Row_of-Expr n → List Lined
    arguments_of line k r end_of-Expr = []
    arguments_of line k r (more_of-Expr place kind rest) =
        lined line (quad.Argument k (operand_of r kind)) ∷ arguments_of line (k + 1) (r + 1) rest

  -- an expression, and whether its value is other than 0
  abbrev pub tested_at : (at r line : ℕ) → Expr → List Lined
  tested_at at r line e = code_then at (code_at at r e.at.line e.kind) (λ at. one line (quad.Binary Ne r (operand_of r e.kind) (Literal 0)))

  -- an expression whose value is left in the register, also where it is a number
  abbrev pub side_at : (at r line : ℕ) → Expr → List Lined
  side_at at r line e = code_then at (code_at at r e.at.line e.kind) (λ at. one line (quad.Copy r (operand_of r e.kind)))
