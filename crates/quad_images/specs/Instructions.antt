-- The instructions that a quad becomes. Registers 3 and 4 hold what is at hand; register 1 is `$`, and register 2 holds what a call returned.
use Rattle.std.specs.Prelude.{ℕ, if◌then◌else◌, Bool, true, List, [], ◌∷◌, ◌++◌, length}
use Rattle.xmt_base.specs.declared.operators.UnOp.{UnOp}
use Rattle.xmt_base.specs.declared.operators.UnOp.TheVariants as unary
use Rattle.xmt_base.specs.declared.operators.BinOp.{BinOp}
use Rattle.xmt_base.specs.declared.operators.BinOp.TheVariants as binary
use Rattle.xmt_isa.specs.declared.image.Instr.{Instr}
use Rattle.xmt_quads.specs.declared.code.Operand.{Operand}
use Rattle.xmt_quads.specs.declared.code.Operand.TheVariants.{Reg, Literal}
use Rattle.xmt_quads.specs.declared.code.Where.{Where}
use Rattle.xmt_quads.specs.declared.code.Where.TheVariants.{Word, Element, Outer, PsReg}
use Rattle.xmt_quads.specs.declared.code.Quad.{Quad}
use Rattle.xmt_quads.specs.declared.code.Quad.TheVariants as quad

abbrev pub instr : (op a b c imm : ℕ) → Instr
instr op a b c imm = record { op = op; a = a; b = b; c = c; imm = imm }

-- ---- operators on registers 3 and 4, to register 3

abbrev pub unary_code : UnOp → Instr
unary_code unary.Plus = instr 2 3 3 0 0
unary_code unary.Neg = instr 17 3 3 0 0
unary_code unary.Flip = instr 18 3 3 0 0
unary_code unary.Not = instr 19 3 3 0 0

-- the two that have no instruction are others with their operands exchanged
abbrev pub binary_code : BinOp → Instr
binary_code binary.Add = instr 3 3 3 4 0
binary_code binary.Sub = instr 4 3 3 4 0
binary_code binary.Mul = instr 5 3 3 4 0
binary_code binary.Div = instr 6 3 3 4 0
binary_code binary.Rem = instr 7 3 3 4 0
binary_code binary.Shl = instr 8 3 3 4 0
binary_code binary.Shr = instr 9 3 3 4 0
binary_code binary.BitAnd = instr 10 3 3 4 0
binary_code binary.BitOr = instr 11 3 3 4 0
binary_code binary.BitXor = instr 12 3 3 4 0
binary_code binary.Lt = instr 13 3 3 4 0
binary_code binary.Le = instr 14 3 3 4 0
binary_code binary.Gt = instr 13 3 4 3 0
binary_code binary.Ge = instr 14 3 4 3 0
binary_code binary.Eq = instr 15 3 3 4 0
binary_code binary.Ne = instr 16 3 3 4 0

-- ---- shared places, with register 3; the index of an element is in register 4

abbrev pub load_code : Where → Instr
load_code (Word w) = instr 31 3 0 0 w
load_code (Element base index) = instr 34 3 4 0 base
load_code (Outer n) = instr 37 3 0 0 n
load_code (PsReg r) = instr 40 3 0 0 r

abbrev pub store_code : Where → Instr
store_code (Word w) = instr 32 0 3 0 w
store_code (Element base index) = instr 35 3 4 0 base
store_code (Outer n) = instr 38 0 3 0 n
store_code (PsReg r) = instr 41 0 3 0 r

abbrev pub add_code : Where → Instr
add_code (Word w) = instr 33 3 0 0 w
add_code (Element base index) = instr 36 3 4 0 base
add_code (Outer n) = instr 39 3 0 0 n
add_code (PsReg r) = instr 42 3 0 0 r

-- The slot of each virtual register; where each quad of the function begins; and which virtual registers live in the thread's own frame, the others being those of the master's frame at the spawn.
module _ (slot : (register : ℕ) → ℕ) (begins : (position : ℕ) → ℕ) (own : (register : ℕ) → Bool) where
  -- sets a register to the value of an operand
  abbrev pub fetch : (to : ℕ) → Operand → Instr
  fetch to (Reg r) = if own r then instr 25 to 0 0 (slot r) else instr 29 to 0 0 (slot r)
  fetch to (Literal n) = instr 1 to 0 0 n

  -- sets a virtual register to what a register holds
  abbrev pub keep : (from register : ℕ) → Instr
  keep from r = instr 26 0 from 0 (slot r)

  abbrev pub index_code : Where → List Instr
  index_code (Element base index) = fetch 4 index ∷ []
  index_code _ = []

  abbrev pub quad_code : Quad → List Instr
  quad_code (quad.Copy r o) = fetch 3 o ∷ keep 3 r ∷ []
  quad_code (quad.Unary op r o) = fetch 3 o ∷ unary_code op ∷ keep 3 r ∷ []
  quad_code (quad.Binary op r a b) = fetch 3 a ∷ fetch 4 b ∷ binary_code op ∷ keep 3 r ∷ []
  quad_code (quad.Dollar r) = keep 1 r ∷ []
  quad_code (quad.Test o size) = fetch 3 o ∷ instr 30 0 3 0 size ∷ []
  quad_code (quad.Load r place) = index_code place ++ (load_code place ∷ keep 3 r ∷ [])
  quad_code (quad.Store place o) = fetch 3 o ∷ (index_code place ++ (store_code place ∷ []))
  quad_code (quad.Add r place o) = fetch 3 o ∷ (index_code place ++ (add_code place ∷ keep 3 r ∷ []))
  quad_code (quad.Jump to) = instr 20 0 0 0 (begins to) ∷ []
  quad_code (quad.IfZero o to) = fetch 3 o ∷ instr 21 0 3 0 (begins to) ∷ []
  quad_code (quad.IfNot o to) = fetch 3 o ∷ instr 22 0 3 0 (begins to) ∷ []
  quad_code (quad.Argument k o) = fetch 3 o ∷ instr 27 0 3 0 k ∷ []
  quad_code (quad.Parameter r k) = instr 28 3 0 0 k ∷ keep 3 r ∷ []
  quad_code (quad.Call function) = instr 23 0 0 0 function ∷ []
  quad_code (quad.Result r) = keep 2 r ∷ []
  quad_code (quad.Return o) = fetch 2 o ∷ instr 24 0 0 0 0 ∷ []
  quad_code (quad.Print text) = instr 43 0 0 0 text ∷ []
  quad_code (quad.Spawn low high) = fetch 3 low ∷ fetch 4 high ∷ instr 44 3 4 0 0 ∷ []
  quad_code quad.Join = instr 45 0 0 0 0 ∷ []

-- how many instructions a quad becomes, wherever it stands
abbrev pub size : Quad → ℕ
size q = length (quad_code (λ register. 0) (λ position. 0) (λ register. true) q)
