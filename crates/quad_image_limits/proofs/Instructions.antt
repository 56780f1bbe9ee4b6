-- Each instruction of a quad has a number of the table, registers in range, and a target that is there.
use Rattle.std.proofs.Common.{◌≡◌, refl, arith, ℕ, ◌<◌, ◌≤◌, List, [], ◌∷◌, ◌++◌, length, true, false}
use Rattle.std.specs.Prelude.{Bool, if◌then◌else◌, IfSome, ⊤}
use Rattle.xmt_base.specs.declared.operators.UnOp.{UnOp}
use Rattle.xmt_base.specs.declared.operators.UnOp.TheVariants as unary
use Rattle.xmt_base.specs.declared.operators.BinOp.{BinOp}
use Rattle.xmt_base.specs.declared.operators.BinOp.TheVariants as binary
use Rattle.xmt_isa.specs.declared.image.Image.{Image}
use Rattle.xmt_isa.specs.declared.image.Instr.{Instr}
use Rattle.xmt_isa.specs.Operation.{operation_of}
use Rattle.xmt_isa.specs.Registers.{RegistersFit}
use Rattle.xmt_isa.specs.Targets.{TargetFits}
use Rattle.xmt_quads.specs.declared.code.Operand.{Operand}
use Rattle.xmt_quads.specs.declared.code.Operand.TheVariants.{Reg, Literal}
use Rattle.xmt_quads.specs.declared.code.Where.TheVariants.{Word, Element, Outer, PsReg}
use Rattle.xmt_quads.specs.declared.code.Quad.{Quad}
use Rattle.xmt_quads.specs.declared.code.Quad.TheVariants as quad
use Rattle.xmt_quads.specs.declared.code.QuadFunction.{QuadFunction}
use Rattle.xmt_quads.specs.declared.code.QuadProgram.{QuadProgram}
use Rattle.xmt_quads.specs.WellFormed.{NamesExist}
use Rattle.quad_images.specs.Instructions.{instr, unary_code, binary_code, fetch, keep, quad_code}

module _ (program : QuadProgram) (image : Image) (functions : length image.functions ≡ length program.functions) (texts : length image.texts ≡ length program.texts) (words : length image.words ≡ length program.words) (outer : image.outer ≡ program.outer) where
  pub record IsGood (i : Instr) : Type 0 where
    pub low : 1 ≤ i.op
    pub high : i.op ≤ 45
    pub registers : IfSome (operation_of i) (RegistersFit i)
    pub target : IfSome (operation_of i) (TargetFits image i.imm)

  abbrev pub AreGood : List Instr → Type 0
  AreGood [] = ⊤
  AreGood (i ∷ code) = IsGood i × AreGood code

  pub both_good : (front back : List Instr) → AreGood front → AreGood back → AreGood (front ++ back)
  both_good [] back first second = second
  both_good (i ∷ front) back first second = (first.0, both_good front back first.1 second)

  module _ (slot begins : ℕ → ℕ) (own : ℕ → Bool) where
    writable : (x : ℕ) → 1 < x → x < 5 → (0 < x) × (x < 32)
    writable x low high = (omega (arith, low), omega (arith, high))

    fetch_good : (to : ℕ) → 1 < to → to < 5 → (o : Operand) → IsGood (fetch slot begins own to o)
    fetch_good to first second (Literal n) = record { low = omega arith; high = omega arith; registers = (writable to first second, refl, refl); target = tt }
    fetch_good to first second (Reg r) = by (own r)
      where
        by : (b : Bool) → IsGood (if b then instr 25 to 0 0 (slot r) else instr 29 to 0 0 (slot r))
        by true = record { low = omega arith; high = omega arith; registers = (writable to first second, refl, refl); target = tt }
        by false = record { low = omega arith; high = omega arith; registers = (writable to first second, refl, refl); target = tt }

    fetch_3 : (o : Operand) → IsGood (fetch slot begins own 3 o)
    fetch_3 o = fetch_good 3 (omega arith) (omega arith) o

    fetch_4 : (o : Operand) → IsGood (fetch slot begins own 4 o)
    fetch_4 o = fetch_good 4 (omega arith) (omega arith) o

    keep_good : (from r : ℕ) → from < 32 → IsGood (keep slot begins own from r)
    keep_good from r below = record { low = omega arith; high = omega arith; registers = (refl, below, refl); target = tt }

    keep_3 : (r : ℕ) → IsGood (keep slot begins own 3 r)
    keep_3 r = keep_good 3 r (omega arith)

    unary_good : (op : UnOp) → IsGood (unary_code op)
    unary_good unary.Plus = record { low = omega arith; high = omega arith; registers = ((omega arith, omega arith), omega arith, refl); target = refl }
    unary_good unary.Neg = record { low = omega arith; high = omega arith; registers = ((omega arith, omega arith), omega arith, refl); target = refl }
    unary_good unary.Flip = record { low = omega arith; high = omega arith; registers = ((omega arith, omega arith), omega arith, refl); target = refl }
    unary_good unary.Not = record { low = omega arith; high = omega arith; registers = ((omega arith, omega arith), omega arith, refl); target = refl }

    binary_good : (op : BinOp) → IsGood (binary_code op)
    binary_good binary.Add = record { low = omega arith; high = omega arith; registers = ((omega arith, omega arith), omega arith, omega arith); target = refl }
    binary_good binary.Sub = record { low = omega arith; high = omega arith; registers = ((omega arith, omega arith), omega arith, omega arith); target = refl }
    binary_good binary.Mul = record { low = omega arith; high = omega arith; registers = ((omega arith, omega arith), omega arith, omega arith); target = refl }
    binary_good binary.Div = record { low = omega arith; high = omega arith; registers = ((omega arith, omega arith), omega arith, omega arith); target = refl }
    binary_good binary.Rem = record { low = omega arith; high = omega arith; registers = ((omega arith, omega arith), omega arith, omega arith); target = refl }
    binary_good binary.Shl = record { low = omega arith; high = omega arith; registers = ((omega arith, omega arith), omega arith, omega arith); target = refl }
    binary_good binary.Shr = record { low = omega arith; high = omega arith; registers = ((omega arith, omega arith), omega arith, omega arith); target = refl }
    binary_good binary.BitAnd = record { low = omega arith; high = omega arith; registers = ((omega arith, omega arith), omega arith, omega arith); target = refl }
    binary_good binary.BitOr = record { low = omega arith; high = omega arith; registers = ((omega arith, omega arith), omega arith, omega arith); target = refl }
    binary_good binary.BitXor = record { low = omega arith; high = omega arith; registers = ((omega arith, omega arith), omega arith, omega arith); target = refl }
    binary_good binary.Lt = record { low = omega arith; high = omega arith; registers = ((omega arith, omega arith), omega arith, omega arith); target = refl }
    binary_good binary.Le = record { low = omega arith; high = omega arith; registers = ((omega arith, omega arith), omega arith, omega arith); target = refl }
    binary_good binary.Gt = record { low = omega arith; high = omega arith; registers = ((omega arith, omega arith), omega arith, omega arith); target = refl }
    binary_good binary.Ge = record { low = omega arith; high = omega arith; registers = ((omega arith, omega arith), omega arith, omega arith); target = refl }
    binary_good binary.Eq = record { low = omega arith; high = omega arith; registers = ((omega arith, omega arith), omega arith, omega arith); target = refl }
    binary_good binary.Ne = record { low = omega arith; high = omega arith; registers = ((omega arith, omega arith), omega arith, omega arith); target = refl }

    below_32 : 3 < 32
    below_32 = omega arith

    writes_3 : (0 < 3) × (3 < 32)
    writes_3 = (omega arith, omega arith)

    below_4 : 4 < 32
    below_4 = omega arith

    pub quad_good : (f : QuadFunction) (q : Quad) → NamesExist program f q → AreGood (quad_code slot begins own q)
    quad_good f (quad.Copy r o) n = (fetch_3 o, (keep_3 r, tt))
    quad_good f (quad.Unary op r o) n = (fetch_3 o, (unary_good op, (keep_3 r, tt)))
    quad_good f (quad.Binary op r a b) n = (fetch_3 a, (fetch_4 b, (binary_good op, (keep_3 r, tt))))
    quad_good f (quad.Dollar r) n = (keep_good 1 r (omega arith), tt)
    quad_good f (quad.Test o size) n = (fetch_3 o, (record { low = omega arith; high = omega arith; registers = (refl, below_32, refl); target = n }, tt))
    quad_good f (quad.Load r (Word w)) n = (record { low = omega arith; high = omega arith; registers = (writes_3, refl, refl); target = omega (arith, n, words) }, (keep_3 r, tt))
    quad_good f (quad.Load r (Element base o)) n = (fetch_4 o, (record { low = omega arith; high = omega arith; registers = (writes_3, below_4, refl); target = tt }, (keep_3 r, tt)))
    quad_good f (quad.Load r (Outer i)) n = (record { low = omega arith; high = omega arith; registers = (writes_3, refl, refl); target = omega (arith, n, outer) }, (keep_3 r, tt))
    quad_good f (quad.Load r (PsReg i)) n = (record { low = omega arith; high = omega arith; registers = (writes_3, refl, refl); target = n }, (keep_3 r, tt))
    quad_good f (quad.Store (Word w) o) n = (fetch_3 o, (record { low = omega arith; high = omega arith; registers = (refl, below_32, refl); target = omega (arith, n, words) }, tt))
    quad_good f (quad.Store (Element base i) o) n = (fetch_3 o, (fetch_4 i, (record { low = omega arith; high = omega arith; registers = (below_32, below_4, refl); target = tt }, tt)))
    quad_good f (quad.Store (Outer i) o) n = (fetch_3 o, (record { low = omega arith; high = omega arith; registers = (refl, below_32, refl); target = omega (arith, n, outer) }, tt))
    quad_good f (quad.Store (PsReg i) o) n = (fetch_3 o, (record { low = omega arith; high = omega arith; registers = (refl, below_32, refl); target = n }, tt))
    quad_good f (quad.Add r (Word w) o) n = (fetch_3 o, (record { low = omega arith; high = omega arith; registers = (writes_3, refl, refl); target = omega (arith, n, words) }, (keep_3 r, tt)))
    quad_good f (quad.Add r (Element base i) o) n = (fetch_3 o, (fetch_4 i, (record { low = omega arith; high = omega arith; registers = (writes_3, below_4, refl); target = tt }, (keep_3 r, tt))))
    quad_good f (quad.Add r (Outer i) o) n = (fetch_3 o, (record { low = omega arith; high = omega arith; registers = (writes_3, refl, refl); target = omega (arith, n, outer) }, (keep_3 r, tt)))
    quad_good f (quad.Add r (PsReg i) o) n = (fetch_3 o, (record { low = omega arith; high = omega arith; registers = (writes_3, refl, refl); target = n }, (keep_3 r, tt)))
    quad_good f (quad.Jump to) n = (record { low = omega arith; high = omega arith; registers = (refl, refl, refl); target = tt }, tt)
    quad_good f (quad.IfZero o to) n = (fetch_3 o, (record { low = omega arith; high = omega arith; registers = (refl, below_32, refl); target = tt }, tt))
    quad_good f (quad.IfNot o to) n = (fetch_3 o, (record { low = omega arith; high = omega arith; registers = (refl, below_32, refl); target = tt }, tt))
    quad_good f (quad.Argument k o) n = (fetch_3 o, (record { low = omega arith; high = omega arith; registers = (refl, below_32, refl); target = n }, tt))
    quad_good f (quad.Parameter r k) n = (record { low = omega arith; high = omega arith; registers = (writes_3, refl, refl); target = n }, (keep_3 r, tt))
    quad_good f (quad.Call g) n = (record { low = omega arith; high = omega arith; registers = (refl, refl, refl); target = omega (arith, n, functions) }, tt)
    quad_good f (quad.Result r) n = (keep_good 2 r (omega arith), tt)
    quad_good f (quad.Return o) n = (fetch_good 2 (omega arith) (omega arith) o, (record { low = omega arith; high = omega arith; registers = (refl, refl, refl); target = refl }, tt))
    quad_good f (quad.Print text) n = (record { low = omega arith; high = omega arith; registers = (refl, refl, refl); target = omega (arith, n, texts) }, tt)
    quad_good f (quad.Spawn low high) n = (fetch_3 low, (fetch_4 high, (record { low = omega arith; high = omega arith; registers = (below_32, below_4, refl); target = refl }, tt)))
    quad_good f quad.Join n = (record { low = omega arith; high = omega arith; registers = (refl, refl, refl); target = refl }, tt)
