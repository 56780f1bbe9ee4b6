-- Which instructions of a quad jump, call, return, print, spawn or join, or read the master's frame.
use Rattle.std.proofs.Common.{◌≡◌, refl, sym, ◌∙◌, ap, subst, arith, ℕ, zero, suc, ◌+◌, List, [], ◌∷◌, Some, true, false}
use Rattle.std.specs.Prelude.{◌==◌, ◌||◌, ◌&&◌, nat_lt, Bool, if◌then◌else◌, ⊤, slice_get}
use Rattle.xmt_base.specs.declared.operators.UnOp.{UnOp}
use Rattle.xmt_base.specs.declared.operators.UnOp.TheVariants as unary
use Rattle.xmt_base.specs.declared.operators.BinOp.{BinOp}
use Rattle.xmt_base.specs.declared.operators.BinOp.TheVariants as binary
use Rattle.xmt_isa.specs.declared.image.Instr.{Instr}
use Rattle.xmt_quads.specs.declared.code.Operand.{Operand}
use Rattle.xmt_quads.specs.declared.code.Operand.TheVariants.{Reg, Literal}
use Rattle.xmt_quads.specs.declared.code.Where.TheVariants.{Word, Element, Outer, PsReg}
use Rattle.xmt_quads.specs.declared.code.Quad.{Quad}
use Rattle.xmt_quads.specs.declared.code.Quad.TheVariants as quad
use Rattle.quad_images.specs.Instructions.{instr, unary_code, binary_code, fetch, quad_code, size}

-- it jumps, calls or returns, reads the master's frame, prints, spawns or joins
abbrev pub is_special : (op : ℕ) → Bool
is_special op = (nat_lt 19 op && nat_lt op 25) || ((op == 29) || (nat_lt 42 op && nat_lt op 46))

module _ (slot begins : ℕ → ℕ) (own : ℕ → Bool) where
  -- the last instruction of a quad that leads elsewhere, and its number; of any other 0
  abbrev pub control_of : Quad → Instr
  control_of (quad.Jump to) = instr 20 0 0 0 (begins to)
  control_of (quad.IfZero o to) = instr 21 0 3 0 (begins to)
  control_of (quad.IfNot o to) = instr 22 0 3 0 (begins to)
  control_of (quad.Call g) = instr 23 0 0 0 g
  control_of (quad.Return o) = instr 24 0 0 0 0
  control_of (quad.Print text) = instr 43 0 0 0 text
  control_of (quad.Spawn low high) = instr 44 3 4 0 0
  control_of quad.Join = instr 45 0 0 0 0
  control_of q = instr 0 0 0 0 0

  pub data Kind (q : Quad) (offset : ℕ) (i : Instr) : Type 0 where
    is_plain : is_special i.op ≡ false → Kind q offset i
    -- a slot of the master's frame
    is_master : (r : ℕ) → i.op ≡ 29 → own r ≡ false → Kind q offset i
    is_control : i ≡ control_of q → offset + 1 ≡ size q → Kind q offset i

  abbrev pub Kinds : (q : Quad) → (offset : ℕ) → List Instr → Type 0
  Kinds q offset [] = ⊤
  Kinds q offset (i ∷ code) = Kind q offset i × Kinds q (suc offset) code

  fetch_kind : (q : Quad) (offset to : ℕ) (o : Operand) → Kind q offset (fetch slot begins own to o)
  fetch_kind q offset to (Literal n) = is_plain refl
  fetch_kind q offset to (Reg r) = by (own r) refl
    where
      by : (b : Bool) → own r ≡ b → Kind q offset (if b then instr 25 to 0 0 (slot r) else instr 29 to 0 0 (slot r))
      by true e = is_plain refl
      by false e = is_master r refl e

  unary_kind : (q : Quad) (offset : ℕ) (op : UnOp) → Kind q offset (unary_code op)
  unary_kind q offset unary.Plus = is_plain refl
  unary_kind q offset unary.Neg = is_plain refl
  unary_kind q offset unary.Flip = is_plain refl
  unary_kind q offset unary.Not = is_plain refl

  binary_kind : (q : Quad) (offset : ℕ) (op : BinOp) → Kind q offset (binary_code op)
  binary_kind q offset binary.Add = is_plain refl
  binary_kind q offset binary.Sub = is_plain refl
  binary_kind q offset binary.Mul = is_plain refl
  binary_kind q offset binary.Div = is_plain refl
  binary_kind q offset binary.Rem = is_plain refl
  binary_kind q offset binary.Shl = is_plain refl
  binary_kind q offset binary.Shr = is_plain refl
  binary_kind q offset binary.BitAnd = is_plain refl
  binary_kind q offset binary.BitOr = is_plain refl
  binary_kind q offset binary.BitXor = is_plain refl
  binary_kind q offset binary.Lt = is_plain refl
  binary_kind q offset binary.Le = is_plain refl
  binary_kind q offset binary.Gt = is_plain refl
  binary_kind q offset binary.Ge = is_plain refl
  binary_kind q offset binary.Eq = is_plain refl
  binary_kind q offset binary.Ne = is_plain refl

  kinds : (q : Quad) → Kinds q 0 (quad_code slot begins own q)
  kinds (quad.Copy r o) = (fetch_kind (quad.Copy r o) 0 3 o, (is_plain refl, tt))
  kinds (quad.Unary op r o) = (fetch_kind (quad.Unary op r o) 0 3 o, (unary_kind (quad.Unary op r o) 1 op, (is_plain refl, tt)))
  kinds (quad.Binary op r a b) = let q = quad.Binary op r a b in (fetch_kind q 0 3 a, (fetch_kind q 1 4 b, (binary_kind q 2 op, (is_plain refl, tt))))
  kinds (quad.Dollar r) = (is_plain refl, tt)
  kinds (quad.Test o n) = (fetch_kind (quad.Test o n) 0 3 o, (is_plain refl, tt))
  kinds (quad.Load r (Word w)) = (is_plain refl, (is_plain refl, tt))
  kinds (quad.Load r (Element base index)) = (fetch_kind (quad.Load r (Element base index)) 0 4 index, (is_plain refl, (is_plain refl, tt)))
  kinds (quad.Load r (Outer n)) = (is_plain refl, (is_plain refl, tt))
  kinds (quad.Load r (PsReg n)) = (is_plain refl, (is_plain refl, tt))
  kinds (quad.Store (Word w) o) = (fetch_kind (quad.Store (Word w) o) 0 3 o, (is_plain refl, tt))
  kinds (quad.Store (Element base index) o) = let q = quad.Store (Element base index) o in (fetch_kind q 0 3 o, (fetch_kind q 1 4 index, (is_plain refl, tt)))
  kinds (quad.Store (Outer n) o) = (fetch_kind (quad.Store (Outer n) o) 0 3 o, (is_plain refl, tt))
  kinds (quad.Store (PsReg n) o) = (fetch_kind (quad.Store (PsReg n) o) 0 3 o, (is_plain refl, tt))
  kinds (quad.Add r (Word w) o) = (fetch_kind (quad.Add r (Word w) o) 0 3 o, (is_plain refl, (is_plain refl, tt)))
  kinds (quad.Add r (Element base index) o) = let q = quad.Add r (Element base index) o in (fetch_kind q 0 3 o, (fetch_kind q 1 4 index, (is_plain refl, (is_plain refl, tt))))
  kinds (quad.Add r (Outer n) o) = (fetch_kind (quad.Add r (Outer n) o) 0 3 o, (is_plain refl, (is_plain refl, tt)))
  kinds (quad.Add r (PsReg n) o) = (fetch_kind (quad.Add r (PsReg n) o) 0 3 o, (is_plain refl, (is_plain refl, tt)))
  kinds (quad.Jump to) = (is_control refl refl, tt)
  kinds (quad.IfZero o to) = (fetch_kind (quad.IfZero o to) 0 3 o, (is_control refl refl, tt))
  kinds (quad.IfNot o to) = (fetch_kind (quad.IfNot o to) 0 3 o, (is_control refl refl, tt))
  kinds (quad.Argument k o) = (fetch_kind (quad.Argument k o) 0 3 o, (is_plain refl, tt))
  kinds (quad.Parameter r k) = (is_plain refl, (is_plain refl, tt))
  kinds (quad.Call f) = (is_control refl refl, tt)
  kinds (quad.Result r) = (is_plain refl, tt)
  kinds (quad.Return o) = (fetch_kind (quad.Return o) 0 2 o, (is_control refl refl, tt))
  kinds (quad.Print text) = (is_control refl refl, tt)
  kinds (quad.Spawn low high) = let q = quad.Spawn low high in (fetch_kind q 0 3 low, (fetch_kind q 1 4 high, (is_control refl refl, tt)))
  kinds quad.Join = (is_control refl refl, tt)

  -- the kind of each instruction
  pub kind_of : (q : Quad) (offset : ℕ) (i : Instr) → slice_get (quad_code slot begins own q) offset ≡ Some i → Kind q offset i
  kind_of q offset i here = (let e : 0 + offset ≡ offset = omega arith in subst (λ n. Kind q n i) e (by (quad_code slot begins own q) 0 offset (kinds q) here))
    where
      by : (code : List Instr) (from offset : ℕ) → Kinds q from code → slice_get code offset ≡ Some i → Kind q (from + offset) i
      by [] from offset all here = cc
      by (x ∷ code) from zero all here = (let e : from ≡ from + 0 = omega arith in subst (λ n. Kind q n i) e (let same : x ≡ i = cc in subst (Kind q from) same all.0))
      by (x ∷ code) from (suc offset) all here = (let e : suc from + offset ≡ from + suc offset = omega arith in subst (λ n. Kind q n i) e (by code (suc from) offset all.1 here))

  -- ---- a special instruction that is no read of the master's frame is the control of its quad
  pub control : (n : ℕ) → is_special n ≡ true → (n ≡ 29 → ⊥) → (q : Quad) (offset : ℕ) (i : Instr) → i.op ≡ n → Kind q offset i → (i ≡ control_of q) × (offset + 1 ≡ size q)
  control n special other q offset i is (is_plain plain) = absurd (let e : is_special n ≡ false = ap is_special (sym is) ∙ plain in cc)
  control n special other q offset i is (is_master r op own) = absurd (other (sym is ∙ op))
  control n special other q offset i is (is_control same last) = (same, last)

-- ---- quads by the number of their last instruction

abbrev pub op_of : Quad → ℕ
op_of q = (control_of (λ r. 0) (λ p. 0) (λ r. true) q).op

pub op_is : (slot begins : ℕ → ℕ) (own : ℕ → Bool) (q : Quad) → (control_of slot begins own q).op ≡ op_of q
op_is slot begins own (quad.Jump to) = refl
op_is slot begins own (quad.IfZero o to) = refl
op_is slot begins own (quad.IfNot o to) = refl
op_is slot begins own (quad.Call g) = refl
op_is slot begins own (quad.Return o) = refl
op_is slot begins own (quad.Print text) = refl
op_is slot begins own (quad.Spawn low high) = refl
op_is slot begins own quad.Join = refl
op_is slot begins own _ = refl

-- the kinds of quads that the numbers mean
abbrev pub Means : (n : ℕ) → Quad → Type 0
Means n (quad.Jump to) = n ≡ 20
Means n (quad.IfZero o to) = n ≡ 21
Means n (quad.IfNot o to) = n ≡ 22
Means n (quad.Call g) = n ≡ 23
Means n (quad.Return o) = n ≡ 24
Means n (quad.Print text) = n ≡ 43
Means n (quad.Spawn low high) = n ≡ 44
Means n quad.Join = n ≡ 45
Means n q = n ≡ 0

pub means : (n : ℕ) (q : Quad) → n ≡ op_of q → Means n q
means n (quad.Jump to) e = e
means n (quad.IfZero o to) e = e
means n (quad.IfNot o to) e = e
means n (quad.Call g) e = e
means n (quad.Return o) e = e
means n (quad.Print text) e = e
means n (quad.Spawn low high) e = e
means n quad.Join e = e
means n _ e = e
