-- What the code of a quad holds: as many instructions as its size, and a spawn or a join only where it is one.
use Rattle.std.proofs.Common.{◌≡◌, refl, ◌∙◌, ap, arith, ℕ, ◌+◌, List, [], ◌∷◌, ◌++◌, length, true, false}
use Rattle.std.specs.Prelude.{Bool, ◌==◌, not, cond, if◌then◌else◌, count_by, ⊤}
use Rattle.std.specs.List.{prefix_len}
use Rattle.std.proofs.lemmas.List.Sums.{sum_by-cons}
use Rattle.xmt_base.specs.declared.operators.UnOp.{UnOp}
use Rattle.xmt_base.specs.declared.operators.UnOp.TheVariants as unary
use Rattle.xmt_base.specs.declared.operators.BinOp.{BinOp}
use Rattle.xmt_base.specs.declared.operators.BinOp.TheVariants as binary
use Rattle.xmt_isa.specs.declared.image.Instr.{Instr}
use Rattle.xmt_quads.specs.declared.code.Operand.{Operand}
use Rattle.xmt_quads.specs.declared.code.Operand.TheVariants.{Reg, Literal}
use Rattle.xmt_quads.specs.declared.code.Where.TheVariants.{Word, Element, Outer, PsReg}
use Rattle.xmt_quads.specs.declared.code.Quad.{Quad}
use Rattle.xmt_quads.specs.declared.code.Quad.TheVariants as quad
use Rattle.xmt_quads.specs.Program.{is_spawn}
use Rattle.quad_images.specs.Instructions.{instr, unary_code, binary_code, fetch, quad_code, size}
use Rattle.quad_image_places.proofs.Own.{IsPlain}

-- the instruction of a spawn
abbrev pub spawns_here : Instr → Bool
spawns_here i = i.op == 44

-- neither a spawn nor a join
pub record IsQuiet (i : Instr) : Type 0 where
  pub spawn : (i.op == 44) ≡ false
  pub join : (i.op == 45) ≡ false

abbrev pub AreQuiet : List Instr → Type 0
AreQuiet [] = ⊤
AreQuiet (i ∷ code) = IsQuiet i × AreQuiet code

pub quiet_count : (code : List Instr) → AreQuiet code → count_by spawns_here code ≡ 0
quiet_count [] quiet = refl
quiet_count (i ∷ code) quiet =
    let rest = quiet_count code quiet.1 in
    let m : Instr → ℕ = λ i. cond (i.op == 44) 1 0 in
    let first : m i ≡ 0 = ap (λ b. cond b 1 0) quiet.0.spawn in
    sum_by-cons m i code ∙ omega (arith, first, rest)

pub quiet_prefix : (code rest : List Instr) → AreQuiet code → prefix_len (λ i. not (i.op == 45)) (code ++ rest) ≡ length code + prefix_len (λ i. not (i.op == 45)) rest
quiet_prefix [] rest quiet = omega arith
quiet_prefix (i ∷ code) rest quiet =
    let more = quiet_prefix code rest quiet.1 in
    ap (λ b. cond (not b) (1 + prefix_len (λ i. not (i.op == 45)) (code ++ rest)) 0) quiet.0.join ∙ omega (arith, more)

quiet : (op a b c imm : ℕ) → (op == 44) ≡ false → (op == 45) ≡ false → IsQuiet (instr op a b c imm)
quiet op a b c imm first second = record { spawn = first; join = second }

module _ (slot begins : ℕ → ℕ) (own : ℕ → Bool) where
  fetch_quiet : (to : ℕ) (o : Operand) → IsQuiet (fetch slot begins own to o)
  fetch_quiet to (Literal n) = quiet 1 to 0 0 n refl refl
  fetch_quiet to (Reg r) = by (own r)
    where
      by : (b : Bool) → IsQuiet (if b then instr 25 to 0 0 (slot r) else instr 29 to 0 0 (slot r))
      by true = quiet 25 to 0 0 (slot r) refl refl
      by false = quiet 29 to 0 0 (slot r) refl refl

  unary_quiet : (op : UnOp) → IsQuiet (unary_code op)
  unary_quiet unary.Plus = record { spawn = refl; join = refl }
  unary_quiet unary.Neg = record { spawn = refl; join = refl }
  unary_quiet unary.Flip = record { spawn = refl; join = refl }
  unary_quiet unary.Not = record { spawn = refl; join = refl }

  binary_quiet : (op : BinOp) → IsQuiet (binary_code op)
  binary_quiet binary.Add = record { spawn = refl; join = refl }
  binary_quiet binary.Sub = record { spawn = refl; join = refl }
  binary_quiet binary.Mul = record { spawn = refl; join = refl }
  binary_quiet binary.Div = record { spawn = refl; join = refl }
  binary_quiet binary.Rem = record { spawn = refl; join = refl }
  binary_quiet binary.Shl = record { spawn = refl; join = refl }
  binary_quiet binary.Shr = record { spawn = refl; join = refl }
  binary_quiet binary.BitAnd = record { spawn = refl; join = refl }
  binary_quiet binary.BitOr = record { spawn = refl; join = refl }
  binary_quiet binary.BitXor = record { spawn = refl; join = refl }
  binary_quiet binary.Lt = record { spawn = refl; join = refl }
  binary_quiet binary.Le = record { spawn = refl; join = refl }
  binary_quiet binary.Gt = record { spawn = refl; join = refl }
  binary_quiet binary.Ge = record { spawn = refl; join = refl }
  binary_quiet binary.Eq = record { spawn = refl; join = refl }
  binary_quiet binary.Ne = record { spawn = refl; join = refl }

  -- a quad that is neither a spawn nor a join
  pub quiet_code : (q : Quad) → IsPlain q → AreQuiet (quad_code slot begins own q)
  quiet_code (quad.Copy r o) p = (fetch_quiet 3 o, (quiet 26 0 3 0 (slot r) refl refl, tt))
  quiet_code (quad.Unary op r o) p = (fetch_quiet 3 o, (unary_quiet op, (quiet 26 0 3 0 (slot r) refl refl, tt)))
  quiet_code (quad.Binary op r a b) p = (fetch_quiet 3 a, (fetch_quiet 4 b, (binary_quiet op, (quiet 26 0 3 0 (slot r) refl refl, tt))))
  quiet_code (quad.Dollar r) p = (quiet 26 0 1 0 (slot r) refl refl, tt)
  quiet_code (quad.Test o n) p = (fetch_quiet 3 o, (quiet 30 0 3 0 n refl refl, tt))
  quiet_code (quad.Load r (Word w)) p = (quiet 31 3 0 0 w refl refl, (quiet 26 0 3 0 (slot r) refl refl, tt))
  quiet_code (quad.Load r (Element base index)) p = (fetch_quiet 4 index, (quiet 34 3 4 0 base refl refl, (quiet 26 0 3 0 (slot r) refl refl, tt)))
  quiet_code (quad.Load r (Outer n)) p = (quiet 37 3 0 0 n refl refl, (quiet 26 0 3 0 (slot r) refl refl, tt))
  quiet_code (quad.Load r (PsReg n)) p = (quiet 40 3 0 0 n refl refl, (quiet 26 0 3 0 (slot r) refl refl, tt))
  quiet_code (quad.Store (Word w) o) p = (fetch_quiet 3 o, (quiet 32 0 3 0 w refl refl, tt))
  quiet_code (quad.Store (Element base index) o) p = (fetch_quiet 3 o, (fetch_quiet 4 index, (quiet 35 3 4 0 base refl refl, tt)))
  quiet_code (quad.Store (Outer n) o) p = (fetch_quiet 3 o, (quiet 38 0 3 0 n refl refl, tt))
  quiet_code (quad.Store (PsReg n) o) p = (fetch_quiet 3 o, (quiet 41 0 3 0 n refl refl, tt))
  quiet_code (quad.Add r (Word w) o) p = (fetch_quiet 3 o, (quiet 33 3 0 0 w refl refl, (quiet 26 0 3 0 (slot r) refl refl, tt)))
  quiet_code (quad.Add r (Element base index) o) p = (fetch_quiet 3 o, (fetch_quiet 4 index, (quiet 36 3 4 0 base refl refl, (quiet 26 0 3 0 (slot r) refl refl, tt))))
  quiet_code (quad.Add r (Outer n) o) p = (fetch_quiet 3 o, (quiet 39 3 0 0 n refl refl, (quiet 26 0 3 0 (slot r) refl refl, tt)))
  quiet_code (quad.Add r (PsReg n) o) p = (fetch_quiet 3 o, (quiet 42 3 0 0 n refl refl, (quiet 26 0 3 0 (slot r) refl refl, tt)))
  quiet_code (quad.Jump to) p = (quiet 20 0 0 0 (begins to) refl refl, tt)
  quiet_code (quad.IfZero o to) p = (fetch_quiet 3 o, (quiet 21 0 3 0 (begins to) refl refl, tt))
  quiet_code (quad.IfNot o to) p = (fetch_quiet 3 o, (quiet 22 0 3 0 (begins to) refl refl, tt))
  quiet_code (quad.Argument k o) p = (fetch_quiet 3 o, (quiet 27 0 3 0 k refl refl, tt))
  quiet_code (quad.Parameter r k) p = (quiet 28 3 0 0 k refl refl, (quiet 26 0 3 0 (slot r) refl refl, tt))
  quiet_code (quad.Call f) p = (quiet 23 0 0 0 f refl refl, tt)
  quiet_code (quad.Result r) p = (quiet 26 0 2 0 (slot r) refl refl, tt)
  quiet_code (quad.Return o) p = (fetch_quiet 2 o, (quiet 24 0 0 0 0 refl refl, tt))
  quiet_code (quad.Print text) p = (quiet 43 0 0 0 text refl refl, tt)
  quiet_code (quad.Spawn low high) p = absurd p
  quiet_code quad.Join p = absurd p

  -- the operands of a spawn
  pub bounds_quiet : (low high : Operand) → AreQuiet (fetch slot begins own 3 low ∷ fetch slot begins own 4 high ∷ [])
  bounds_quiet low high = (fetch_quiet 3 low, (fetch_quiet 4 high, tt))

  -- as many spawns as the quad is
  pub spawns_of : (q : Quad) → count_by spawns_here (quad_code slot begins own q) ≡ is_spawn q
  spawns_of (quad.Spawn low high) =
      let f = fetch slot begins own 3 low in
      let g = fetch slot begins own 4 high in
      let m : Instr → ℕ = λ i. cond (i.op == 44) 1 0 in
      let a : m f ≡ 0 = ap (λ b. cond b 1 0) (fetch_quiet 3 low).spawn in
      let b : m g ≡ 0 = ap (λ b. cond b 1 0) (fetch_quiet 4 high).spawn in
      let whole : count_by spawns_here (f ∷ g ∷ instr 44 3 4 0 0 ∷ []) ≡ m f + (m g + 1) = sum_by-cons m f (g ∷ instr 44 3 4 0 0 ∷ []) ∙ ap (λ n. m f + n) (sum_by-cons m g (instr 44 3 4 0 0 ∷ [])) in
      whole ∙ omega (arith, a, b)
  spawns_of quad.Join = refl
  spawns_of (quad.Copy r o) = quiet_count (quad_code slot begins own (quad.Copy r o)) (quiet_code (quad.Copy r o) tt)
  spawns_of (quad.Unary op r o) = quiet_count (quad_code slot begins own (quad.Unary op r o)) (quiet_code (quad.Unary op r o) tt)
  spawns_of (quad.Binary op r a b) = quiet_count (quad_code slot begins own (quad.Binary op r a b)) (quiet_code (quad.Binary op r a b) tt)
  spawns_of (quad.Dollar r) = quiet_count (quad_code slot begins own (quad.Dollar r)) (quiet_code (quad.Dollar r) tt)
  spawns_of (quad.Test o n) = quiet_count (quad_code slot begins own (quad.Test o n)) (quiet_code (quad.Test o n) tt)
  spawns_of (quad.Load r place) = quiet_count (quad_code slot begins own (quad.Load r place)) (quiet_code (quad.Load r place) tt)
  spawns_of (quad.Store place o) = quiet_count (quad_code slot begins own (quad.Store place o)) (quiet_code (quad.Store place o) tt)
  spawns_of (quad.Add r place o) = quiet_count (quad_code slot begins own (quad.Add r place o)) (quiet_code (quad.Add r place o) tt)
  spawns_of (quad.Jump to) = quiet_count (quad_code slot begins own (quad.Jump to)) (quiet_code (quad.Jump to) tt)
  spawns_of (quad.IfZero o to) = quiet_count (quad_code slot begins own (quad.IfZero o to)) (quiet_code (quad.IfZero o to) tt)
  spawns_of (quad.IfNot o to) = quiet_count (quad_code slot begins own (quad.IfNot o to)) (quiet_code (quad.IfNot o to) tt)
  spawns_of (quad.Argument k o) = quiet_count (quad_code slot begins own (quad.Argument k o)) (quiet_code (quad.Argument k o) tt)
  spawns_of (quad.Parameter r k) = quiet_count (quad_code slot begins own (quad.Parameter r k)) (quiet_code (quad.Parameter r k) tt)
  spawns_of (quad.Call f) = quiet_count (quad_code slot begins own (quad.Call f)) (quiet_code (quad.Call f) tt)
  spawns_of (quad.Result r) = quiet_count (quad_code slot begins own (quad.Result r)) (quiet_code (quad.Result r) tt)
  spawns_of (quad.Return o) = quiet_count (quad_code slot begins own (quad.Return o)) (quiet_code (quad.Return o) tt)
  spawns_of (quad.Print text) = quiet_count (quad_code slot begins own (quad.Print text)) (quiet_code (quad.Print text) tt)

  -- as long as the quad's size
  pub length_of : (q : Quad) → length (quad_code slot begins own q) ≡ size q
  length_of (quad.Load r (Word w)) = refl
  length_of (quad.Load r (Element base index)) = refl
  length_of (quad.Load r (Outer n)) = refl
  length_of (quad.Load r (PsReg n)) = refl
  length_of (quad.Store (Word w) o) = refl
  length_of (quad.Store (Element base index) o) = refl
  length_of (quad.Store (Outer n) o) = refl
  length_of (quad.Store (PsReg n) o) = refl
  length_of (quad.Add r (Word w) o) = refl
  length_of (quad.Add r (Element base index) o) = refl
  length_of (quad.Add r (Outer n) o) = refl
  length_of (quad.Add r (PsReg n) o) = refl
  length_of _ = refl
