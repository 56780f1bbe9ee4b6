-- What a quad reads, as two operands. A number stands where it reads none.
use Rattle.std.specs.Prelude.{ℕ, ◌+◌, ◌<◌, ◌≡◌, true, max, List, Some, slice_get}
use Rattle.xmt_quads.specs.declared.code.Operand.{Operand}
use Rattle.xmt_quads.specs.declared.code.Operand.TheVariants.{Reg, Literal}
use Rattle.xmt_quads.specs.declared.code.Where.{Where}
use Rattle.xmt_quads.specs.declared.code.Where.TheVariants.{Element}
use Rattle.xmt_quads.specs.declared.code.Quad.{Quad}
use Rattle.xmt_quads.specs.declared.code.Quad.TheVariants as quad
use Rattle.xmt_quads.specs.Live.{reads}

abbrev pub index_of : Where → Operand
index_of (Element base index) = index
index_of _ = Literal 0

abbrev pub first_of : Quad → Operand
first_of (quad.Binary op to left right) = left
first_of (quad.Store place o) = index_of place
first_of (quad.Add to place o) = index_of place
first_of (quad.Spawn low high) = low
first_of _ = Literal 0

abbrev pub second_of : Quad → Operand
second_of (quad.Copy to o) = o
second_of (quad.Unary op to o) = o
second_of (quad.Binary op to left right) = right
second_of (quad.Test o length) = o
second_of (quad.Load to place) = index_of place
second_of (quad.Store place o) = o
second_of (quad.Add to place o) = o
second_of (quad.IfZero o to) = o
second_of (quad.IfNot o to) = o
second_of (quad.Argument place o) = o
second_of (quad.Return o) = o
second_of (quad.Spawn low high) = high
second_of _ = Literal 0

-- the number behind that of a register
abbrev pub above : Operand → ℕ
above (Reg r) = r + 1
above (Literal n) = 0

abbrev pub above_all : Quad → ℕ
above_all q = max (above (first_of q)) (above (second_of q))

-- each register that a quad reads is below this number
pub record AreReadBelow (quads : List Quad) (bound : ℕ) : Type 0 where
  pub below : (at r : ℕ) (q : Quad) → slice_get quads at ≡ Some q → reads r q ≡ true → r < bound
