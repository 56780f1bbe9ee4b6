-- Jumps of the image stay in their functions, and slots are there.
use Rattle.std.proofs.Common.{◌≡◌, refl, sym, ◌∙◌, ap, subst, arith, ℕ, zero, suc, ◌+◌, ◌<◌, List, [], ◌∷◌, length, Option, Some, None, true, false, inl, inr}
use Rattle.std.specs.Prelude.{◌||◌, Bool, if◌then◌else◌, IfSome, IsSomeAnd, All, ⊤, slice_get}
use Rattle.std.specs.Option.{option_and_then}
use Rattle.std.proofs.lemmas.Option.{get_or_from_slice_get, slice_get_within}
use Rattle.xmt_base.specs.declared.operators.UnOp.{UnOp}
use Rattle.xmt_base.specs.declared.operators.UnOp.TheVariants as unary
use Rattle.xmt_base.specs.declared.operators.BinOp.{BinOp}
use Rattle.xmt_base.specs.declared.operators.BinOp.TheVariants as binary
use Rattle.xmt_isa.specs.declared.image.FunctionEntry.{FunctionEntry}
use Rattle.xmt_isa.specs.declared.image.Image.{Image}
use Rattle.xmt_isa.specs.declared.image.Instr.{Instr}
use Rattle.xmt_isa.specs.Operation.{operation_of}
use Rattle.xmt_isa.specs.Image.{operation_at, IsIn}
use Rattle.xmt_isa.specs.Targets.{IsSameFunction, IsSlot, FunctionTargetFits}
use Rattle.xmt_quads.specs.declared.code.Operand.{Operand}
use Rattle.xmt_quads.specs.declared.code.Operand.TheVariants.{Reg, Literal}
use Rattle.xmt_quads.specs.declared.code.Where.TheVariants.{Word, Element, Outer, PsReg}
use Rattle.xmt_quads.specs.declared.code.Quad.{Quad}
use Rattle.xmt_quads.specs.declared.code.Quad.TheVariants as quad
use Rattle.xmt_quads.specs.declared.code.QuadProgram.{QuadProgram}
use Rattle.xmt_quads.specs.Program.{quads_in}
use Rattle.xmt_quads.specs.Live.{is_register}
use Rattle.xmt_quads.specs.WellFormed.{AreBelow, NamesExist, IsWellFormed}
use Rattle.quad_images.specs.Instructions.{instr, unary_code, binary_code, fetch, keep, quad_code}
use Rattle.quad_images.specs.Image.{entries_from}
use Rattle.quad_image_places.proofs.Own.{element, element_inside, some_is}
use Rattle.quad_image_places.proofs.Quiet.{length_of}
use Rattle.quad_image_places.proofs.Tails.{sizes_of}
use Rattle.quad_image_places.proofs.Laid.{Laid, Known, known, registers_below, names_exist, place, own_in}
use Rattle.quad_image_limits.proofs.Located.{Located, located, instruction_there, is_in, place_same}
use Rattle.quad_image_limits.proofs.Nesting.{some_size, all_entries}

or_left : (a b : Bool) → a ≡ true → (a || b) ≡ true
or_left true b h = refl
or_left false b h = cc

or_right : (a b : Bool) → b ≡ true → (a || b) ≡ true
or_right true b h = refl
or_right false b h = h

same_register : (r : ℕ) → is_register r (Reg r) ≡ true
same_register r = grind arith

module _ (program : QuadProgram) (slot : ℕ → ℕ → ℕ) (image : Image) (laid : Laid program slot image) (long : length image.code ≡ sizes_of program.functions) (entries : image.functions ≡ entries_from 0 program.functions) (well : IsWellFormed program) where
  all_slots : All (λ e. e.slots ≡ 512) image.functions
  all_slots = subst (λ (entries : List FunctionEntry). All (λ e. e.slots ≡ 512) entries) (sym entries) (all_entries (λ e. e.slots ≡ 512) (λ start g. refl) 0 program.functions)

  slot_there : (at s : ℕ) → s < 512 → IsSlot image at s
  slot_there at s low g inside =
      let e = element image.functions g inside.0 in
      let full : e.0.slots ≡ 512 = subst (λ (e : FunctionEntry). e.slots ≡ 512) (get_or_from_slice_get image.functions g e.0 e.0 e.1) (all_slots g e.0 inside.0) in
      subst (λ o. IsSomeAnd o (λ e. s < e.slots)) (sym e.1) (omega (arith, full, low))

  module _ (at : ℕ) (l : Located program slot image laid long entries at) where
    k : Known program l.f
    k = known program well l.f l.position (element_inside (quads_in program l.f) l.position l.q l.here)

    same_function : (to : ℕ) → to < length (quads_in program l.f) → IsSameFunction image at (place program l.f to)
    same_function to below g inside =
        let q = element (quads_in program l.f) to below in
        let some = some_size q.0 in
        let e : place program l.f to + 0 ≡ place program l.f to = omega arith in
        subst (λ g. IsIn image g (place program l.f to)) (sym (place_same program slot image laid long entries at l g inside)) (subst (IsIn image l.f) e (is_in program slot image laid long entries l.f to 0 q.0 q.1 (omega (arith, some))))

    abbrev Fits : Instr → Type 0
    Fits i = IfSome (operation_of i) (FunctionTargetFits image at)

    abbrev AllFit : List Instr → Type 0
    AllFit [] = ⊤
    AllFit (i ∷ code) = Fits i × AllFit code

    low_slot : (r : ℕ) → r < k.function.registers → slot l.f r < 512
    low_slot r below = (laid.slots l.f k.function k.found).low r below

    module _ (own : ℕ → Bool) where
      fetch_fits : (to : ℕ) (o : Operand) → ((r : ℕ) → is_register r o ≡ true → r < k.function.registers) → Fits (fetch (slot l.f) (place program l.f) own to o)
      fetch_fits to (Literal n) low = tt
      fetch_fits to (Reg r) low = by (own r)
        where
          by : (b : Bool) → Fits (if b then instr 25 to 0 0 (slot l.f r) else instr 29 to 0 0 (slot l.f r))
          by true = slot_there at (slot l.f r) (low_slot r (low r (same_register r)))
          by false = slot_there at (slot l.f r) (low_slot r (low r (same_register r)))

      keep_fits : (from r : ℕ) → r < k.function.registers → Fits (keep (slot l.f) (place program l.f) own from r)
      keep_fits from r below = slot_there at (slot l.f r) (low_slot r below)

      unary_fits : (op : UnOp) → Fits (unary_code op)
      unary_fits unary.Plus = tt
      unary_fits unary.Neg = tt
      unary_fits unary.Flip = tt
      unary_fits unary.Not = tt

      binary_fits : (op : BinOp) → Fits (binary_code op)
      binary_fits binary.Add = tt
      binary_fits binary.Sub = tt
      binary_fits binary.Mul = tt
      binary_fits binary.Div = tt
      binary_fits binary.Rem = tt
      binary_fits binary.Shl = tt
      binary_fits binary.Shr = tt
      binary_fits binary.BitAnd = tt
      binary_fits binary.BitOr = tt
      binary_fits binary.BitXor = tt
      binary_fits binary.Lt = tt
      binary_fits binary.Le = tt
      binary_fits binary.Gt = tt
      binary_fits binary.Ge = tt
      binary_fits binary.Eq = tt
      binary_fits binary.Ne = tt

      quad_fits : (q : Quad) → AreBelow k.function.registers q → NamesExist program (record k.function { quads = quads_in program l.f }) q → AllFit (quad_code (slot l.f) (place program l.f) own q)
      quad_fits (quad.Copy r o) b n = (fetch_fits 3 o (λ x is. b x (inl is)), (keep_fits 3 r (b r (inr (same_register r))), tt))
      quad_fits (quad.Unary op r o) b n = (fetch_fits 3 o (λ x is. b x (inl is)), (unary_fits op, (keep_fits 3 r (b r (inr (same_register r))), tt)))
      quad_fits (quad.Binary op r x y) b n = (
        fetch_fits 3 x (λ z is. b z (inl (or_left (is_register z x) (is_register z y) is))),
        (fetch_fits 4 y (λ z is. b z (inl (or_right (is_register z x) (is_register z y) is))), (binary_fits op, (keep_fits 3 r (b r (inr (same_register r))), tt))),
      )
      quad_fits (quad.Dollar r) b n = (keep_fits 1 r (b r (inr (same_register r))), tt)
      quad_fits (quad.Test o m) b n = (fetch_fits 3 o (λ x is. b x (inl is)), (tt, tt))
      quad_fits (quad.Load r (Word w)) b n = (tt, (keep_fits 3 r (b r (inr (same_register r))), tt))
      quad_fits (quad.Load r (Element base i)) b n = (fetch_fits 4 i (λ x is. b x (inl is)), (tt, (keep_fits 3 r (b r (inr (same_register r))), tt)))
      quad_fits (quad.Load r (Outer m)) b n = (tt, (keep_fits 3 r (b r (inr (same_register r))), tt))
      quad_fits (quad.Load r (PsReg m)) b n = (tt, (keep_fits 3 r (b r (inr (same_register r))), tt))
      quad_fits (quad.Store (Word w) o) b n = (fetch_fits 3 o (λ x is. b x (inl (or_right false (is_register x o) is))), (tt, tt))
      quad_fits (quad.Store (Element base i) o) b n = (fetch_fits 3 o (λ x is. b x (inl (or_right (is_register x i) (is_register x o) is))), (fetch_fits 4 i (λ x is. b x (inl (or_left (is_register x i) (is_register x o) is))), (tt, tt)))
      quad_fits (quad.Store (Outer m) o) b n = (fetch_fits 3 o (λ x is. b x (inl (or_right false (is_register x o) is))), (tt, tt))
      quad_fits (quad.Store (PsReg m) o) b n = (fetch_fits 3 o (λ x is. b x (inl (or_right false (is_register x o) is))), (tt, tt))
      quad_fits (quad.Add r (Word w) o) b n = (fetch_fits 3 o (λ x is. b x (inl (or_right false (is_register x o) is))), (tt, (keep_fits 3 r (b r (inr (same_register r))), tt)))
      quad_fits (quad.Add r (Element base i) o) b n = (
        fetch_fits 3 o (λ x is. b x (inl (or_right (is_register x i) (is_register x o) is))),
        (fetch_fits 4 i (λ x is. b x (inl (or_left (is_register x i) (is_register x o) is))), (tt, (keep_fits 3 r (b r (inr (same_register r))), tt))),
      )
      quad_fits (quad.Add r (Outer m) o) b n = (fetch_fits 3 o (λ x is. b x (inl (or_right false (is_register x o) is))), (tt, (keep_fits 3 r (b r (inr (same_register r))), tt)))
      quad_fits (quad.Add r (PsReg m) o) b n = (fetch_fits 3 o (λ x is. b x (inl (or_right false (is_register x o) is))), (tt, (keep_fits 3 r (b r (inr (same_register r))), tt)))
      quad_fits (quad.Jump to) b n = (same_function to n, tt)
      quad_fits (quad.IfZero o to) b n = (fetch_fits 3 o (λ x is. b x (inl is)), (same_function to n, tt))
      quad_fits (quad.IfNot o to) b n = (fetch_fits 3 o (λ x is. b x (inl is)), (same_function to n, tt))
      quad_fits (quad.Argument m o) b n = (fetch_fits 3 o (λ x is. b x (inl is)), (tt, tt))
      quad_fits (quad.Parameter r m) b n = (tt, (keep_fits 3 r (b r (inr (same_register r))), tt))
      quad_fits (quad.Call g) b n = (tt, tt)
      quad_fits (quad.Result r) b n = (keep_fits 2 r (b r (inr (same_register r))), tt)
      quad_fits (quad.Return o) b n = (fetch_fits 2 o (λ x is. b x (inl is)), (tt, tt))
      quad_fits (quad.Print text) b n = (tt, tt)
      quad_fits (quad.Spawn x y) b n = (fetch_fits 3 x (λ z is. b z (inl (or_left (is_register z x) (is_register z y) is))), (fetch_fits 4 y (λ z is. b z (inl (or_right (is_register z x) (is_register z y) is))), (tt, tt)))
      quad_fits quad.Join b n = (tt, tt)

    fits_at : (code : List Instr) (offset : ℕ) (i : Instr) → AllFit code → slice_get code offset ≡ Some i → Fits i
    fits_at [] offset i all here = cc
    fits_at (x ∷ code) zero i all here = subst Fits (some_is x i here) all.0
    fits_at (x ∷ code) (suc offset) i all here = fits_at code offset i all.1 here

    there_fits : (i : Instr) → slice_get image.code at ≡ Some i → Fits i
    there_fits i there =
        let code = quad_code (slot l.f) (place program l.f) (own_in program l.f l.position) l.q in
        let size_is = length_of (slot l.f) (place program l.f) (own_in program l.f l.position) l.q in
        let within = l.within in
        let x = element code l.offset (omega (arith, within, size_is)) in
        let stands = instruction_there program slot image laid long entries l.f l.position l.offset l.q x.0 l.here x.1 in
        let same : x.0 ≡ i = some_is x.0 i (sym stands ∙ ap (slice_get image.code) (sym l.is) ∙ there) in
        fits_at code l.offset i (quad_fits (own_in program l.f l.position) l.q (registers_below program k l.position l.q l.here) (names_exist program k l.position l.q l.here)) (x.1 ∙ ap Some same)

  pub in_functions : (at : ℕ) → IfSome (operation_at image at) (FunctionTargetFits image at)
  in_functions at = by (slice_get image.code at) refl
    where
      by : (o : Option Instr) → slice_get image.code at ≡ o → IfSome (option_and_then operation_of o) (FunctionTargetFits image at)
      by None e = tt
      by (Some i) e = there_fits at (located program slot image laid long entries at (slice_get_within image.code at i e)) i e
