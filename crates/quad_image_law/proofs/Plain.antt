-- The code of quads that touch the thread alone and go on to the next quad.
use Rattle.std.proofs.Common.{◌≡◌, ◌≢◌, refl, sym, ◌∙◌, ap, subst, arith, ℕ, suc, ◌+◌, ◌<◌, ◌≤◌, length, set, Option, Some, None, true, false, inl}
use Rattle.std.specs.Prelude.{◌==◌, ◌||◌, if◌then◌else◌, nat_lt, Bool, slice_get, slice_index}
use Rattle.std.specs.Option.{unwrap_or}
use Rattle.std.proofs.lemmas.List.{get_or-set_same, get_or-set_other}
use Rattle.xmt_base.specs.declared.values.TrapKind.TheVariants.{DivideByZero, Index}
use Rattle.xmt_base.specs.declared.operators.UnOp.{UnOp}
use Rattle.xmt_base.specs.declared.operators.UnOp.TheVariants as unary
use Rattle.xmt_base.specs.declared.operators.BinOp.{BinOp}
use Rattle.xmt_base.specs.declared.operators.BinOp.TheVariants as binary
use Rattle.xmt_base.specs.Operators.{unary_value, binary_value}
use Rattle.interleaving.specs.Actors.{Alone}
use Rattle.xmt_isa.specs.declared.image.Image.{Image}
use Rattle.xmt_isa.specs.declared.operation.Operation.{Operation}
use Rattle.xmt_isa.specs.declared.operation.Operation.TheVariants as does
use Rattle.xmt_isa.specs.declared.unit.Start.{Start}
use Rattle.xmt_isa.specs.declared.unit.Unit.{Unit as MachineUnit}
use Rattle.xmt_isa.specs.declared.unit.Next.TheVariants as does_next
use Rattle.xmt_isa.specs.Operation.{operation_of}
use Rattle.xmt_isa.specs.Image.{operation_at}
use Rattle.xmt_isa.specs.Step.{next_here, reg, sets, goes_on, divides}
use Rattle.xmt_quads.specs.declared.code.Operand.{Operand}
use Rattle.xmt_quads.specs.declared.code.Quad.{Quad}
use Rattle.xmt_quads.specs.declared.code.Quad.TheVariants as quad
use Rattle.xmt_quads.specs.declared.code.QuadProgram.{QuadProgram}
use Rattle.xmt_quads.specs.Program.{quad_at}
use Rattle.xmt_quads.specs.Meaning.{QuadThread, Traps, operand_value, with_register, with_next, goes, assigns_option, line_of}
use Rattle.xmt_quads.specs.Live.{is_register, reads}
use Rattle.quad_images.specs.Instructions.{instr, fetch, unary_code, binary_code, quad_code, size}
use Rattle.quad_image_law.proofs.Keeps.{with_found}
use Rattle.quad_image_law.proofs.Units.{running, actor_at, moved_by, acted, operation_is}
use Rattle.quad_image_places.proofs.Laid.{HasCode, HasSlots, Known, Laid, place, own_in, registers_below, names_exist}
use Rattle.quad_image_law.proofs.Frames.{leads_next}
use Rattle.quad_image_law.proofs.Fits.{memory_of, Fits, fits_set, fits_moved, fits_argument, quad_is}
use Rattle.quad_image_law.proofs.Steps.{KeepsTo, AllKeep, keep_at, alone, beside, trapped, place_next, fetches, keep_beside}

pub equal_to_itself : (r : ℕ) → (r == r) ≡ true
equal_to_itself r = grind arith

pub or_left : (a b : Bool) → a ≡ true → (a || b) ≡ true
or_left true b h = refl
or_left false b h = cc

pub or_right : (a b : Bool) → b ≡ true → (a || b) ≡ true
or_right true b h = refl
or_right false b h = h

unary_is : (op : UnOp) → operation_of (unary_code op) ≡ Some (does.Unary op 3 3)
unary_is unary.Plus = refl
unary_is unary.Neg = refl
unary_is unary.Flip = refl
unary_is unary.Not = refl

-- the operation of a binary operator, and its value
record BinaryCode (op : BinOp) : Type 0 where
  done : BinOp
  x : ℕ
  y : ℕ
  is : operation_of (binary_code op) ≡ Some (does.Binary done 3 x y)
  value : (f : ℕ → ℕ) → binary_value done (f x) (f y) ≡ binary_value op (f 3) (f 4)

binary_is : (op : BinOp) → BinaryCode op
binary_is binary.Gt = record { done = binary.Lt; x = 4; y = 3; is = refl; value = λ f. refl }
binary_is binary.Ge = record { done = binary.Le; x = 4; y = 3; is = refl; value = λ f. refl }
binary_is binary.Add = record { done = binary.Add; x = 3; y = 4; is = refl; value = λ f. refl }
binary_is binary.Sub = record { done = binary.Sub; x = 3; y = 4; is = refl; value = λ f. refl }
binary_is binary.Mul = record { done = binary.Mul; x = 3; y = 4; is = refl; value = λ f. refl }
binary_is binary.Div = record { done = binary.Div; x = 3; y = 4; is = refl; value = λ f. refl }
binary_is binary.Rem = record { done = binary.Rem; x = 3; y = 4; is = refl; value = λ f. refl }
binary_is binary.Shl = record { done = binary.Shl; x = 3; y = 4; is = refl; value = λ f. refl }
binary_is binary.Shr = record { done = binary.Shr; x = 3; y = 4; is = refl; value = λ f. refl }
binary_is binary.BitAnd = record { done = binary.BitAnd; x = 3; y = 4; is = refl; value = λ f. refl }
binary_is binary.BitOr = record { done = binary.BitOr; x = 3; y = 4; is = refl; value = λ f. refl }
binary_is binary.BitXor = record { done = binary.BitXor; x = 3; y = 4; is = refl; value = λ f. refl }
binary_is binary.Lt = record { done = binary.Lt; x = 3; y = 4; is = refl; value = λ f. refl }
binary_is binary.Le = record { done = binary.Le; x = 3; y = 4; is = refl; value = λ f. refl }
binary_is binary.Eq = record { done = binary.Eq; x = 3; y = 4; is = refl; value = λ f. refl }
binary_is binary.Ne = record { done = binary.Ne; x = 3; y = 4; is = refl; value = λ f. refl }

module _ (program : QuadProgram) (slot : ℕ → ℕ → ℕ) (image : Image) (laid : Laid program slot image) (slots : (f : ℕ) (k : Known program f) → HasSlots (slot f) k.function.registers) (n : ℕ) (all : AllKeep program slot image slots n) (start : Start) (t : QuadThread) where
  -- behind an instruction that sets a scratch register
  pub record SetTo (u u' : MachineUnit) (to v : ℕ) : Type 0 where
    pub fits : Fits program slot start (memory_of u') t
    pub is : reg u' to ≡ v
    pub others : (x : ℕ) → x ≢ to → reg u' x ≡ reg u x

  pub set_to : (u : MachineUnit) (at to v : ℕ) → 3 ≤ to → to < 32 → Fits program slot start (memory_of u) t → SetTo u (sets (running u at) to v) to v
  set_to u at to v scratch low fits =
      let long = fits.regs in
      record {
        fits = fits_set program slot start (memory_of u) t to v scratch fits;
        is = get_or-set_same u.regs to v 0 (omega (arith, low, long));
        others = λ x other. get_or-set_other u.regs to x v 0 other;
      }

  -- a scratch register is set by the unit alone
  pub scratches : (u : MachineUnit) (at to v : ℕ) → 3 ≤ to → to < 32 → Fits program slot start (memory_of u) t → (operation : Operation) → operation_at image at ≡ Some operation → next_here image start (running u at) (Some operation) ≡ does_next.Local →
      acted image (actor_at start u at) (Some operation) ≡ Alone (actor_at start (sets (running u at) to v) (at + 1)) → (m credit left : ℕ) → left + 1 ≤ credit →
      ((u' : MachineUnit) → SetTo u u' to v → KeepsTo program slot image m left (actor_at start u' (at + 1)) t) → KeepsTo program slot image m credit (actor_at start u at) t
  scratches u at to v scratch low fits operation is local goes m credit left pays k =
      alone program slot image start u t at operation is m credit left (at + 1) (sets (running u at) to v) local goes pays (k (sets (running u at) to v) (set_to u at to v scratch low fits))

  -- an operand that the thread's quad reads is fetched
  pub fetched : (q : Quad) (o : Operand) → quad_at program t.function t.at ≡ Some q → ((r : ℕ) → is_register r o ≡ true → reads r q ≡ true) →
      (u : MachineUnit) (at to : ℕ) → 3 ≤ to → to < 32 → Fits program slot start (memory_of u) t → slice_get image.code at ≡ Some (fetch (slot t.function) (place program t.function) (own_in program t.function t.at) to o) → (m credit left : ℕ) → left + 1 ≤ credit →
      ((u' : MachineUnit) → SetTo u u' to (operand_value t.registers o) → KeepsTo program slot image m left (actor_at start u' (at + 1)) t) → KeepsTo program slot image m credit (actor_at start u at) t
  fetched q o here read u at to scratch low fits code m credit left pays k =
      fetches program slot image start u t at to o fits (λ r is known. registers_below program known t.at q here r (inl (read r is))) code m credit left pays
      (k (sets (running u at) to (operand_value t.registers o)) (set_to u at to (operand_value t.registers o) scratch low fits))

  -- ---- one lemma for each quad

  abbrev pub P : ℕ
  P = place program t.function t.at

  abbrev pub Here : Quad → Type 0
  Here q = quad_at program t.function t.at ≡ Some q

  abbrev pub CodeOf : Quad → Type 0
  CodeOf q = HasCode image (line_of program t) P (quad_code (slot t.function) (place program t.function) (own_in program t.function t.at) q)

  pub code_of : (q : Quad) → Here q → CodeOf q
  code_of q here = laid.code t.function t.at q here

  pub behind : (q : Quad) → Here q → place program t.function (t.at + 1) ≡ P + size q
  behind q here = place_next program slot image t.function t.at q here

  abbrev pub Kept : MachineUnit → Type 0
  Kept u = KeepsTo program slot image (suc n) 24 (actor_at start u P) t

  module _ (u : MachineUnit) (fits : Fits program slot start (memory_of u) t) where
    pub copies : (r : ℕ) (o : Operand) → Here (quad.Copy r o) → Kept u
    copies r o here =
        let q = quad.Copy r o in
        let code = code_of q here in
        fetched q o here (λ x is. is) u P 3 (omega arith) (omega arith) fits code.0 (suc n) 24 23 (omega arith)
        (λ u1 s.
        keep_beside program slot image slots n all start u1 t (P + 1) q r (operand_value t.registers o) 3 s.fits here tt (equal_to_itself r) code.2.0 s.is (behind q here ∙ omega arith) 23 (λ found. refl) (omega arith))

    pub unaries : (op : UnOp) (r : ℕ) (o : Operand) → Here (quad.Unary op r o) → Kept u
    unaries op r o here =
        let q = quad.Unary op r o in
        let code = code_of q here in
        fetched q o here (λ x is. is) u P 3 (omega arith) (omega arith) fits code.0 (suc n) 24 23 (omega arith)
        (λ u1 s.
        scratches u1 (P + 1) 3 (unary_value op (reg u1 3)) (omega arith) (omega arith) s.fits (does.Unary op 3 3) (operation_is image (P + 1) (unary_code op) code.2.0 ∙ unary_is op) refl refl (suc n) 23 22 (omega arith)
        (λ u2 s2.
        keep_beside program slot image slots n all start u2 t (P + 1 + 1) q r (unary_value op (operand_value t.registers o)) 3 s2.fits here tt (equal_to_itself r) code.2.2.0 (s2.is ∙ ap (unary_value op) s.is) (behind q here ∙ omega arith) 22 (λ found. refl) (omega arith)))

    pub binaries : (op : BinOp) (r : ℕ) (a b : Operand) → Here (quad.Binary op r a b) → Kept u
    binaries op r a b here =
        let q = quad.Binary op r a b in
        let code = code_of q here in
        fetched q a here (λ x is. or_left (is_register x a) (is_register x b) is) u P 3 (omega arith) (omega arith) fits code.0 (suc n) 24 23 (omega arith)
        (λ u1 s.
        fetched q b here (λ x is. or_right (is_register x a) (is_register x b) is) u1 (P + 1) 4 (omega arith) (omega arith) s.fits code.2.0 (suc n) 23 22 (omega arith)
        (λ u2 s2.
        let first : reg u2 3 ≡ operand_value t.registers a = s2.others 3 (λ e. omega (arith, e)) ∙ s.is in
        by u2 s2.fits code.2.2.0 code.2.2.1 code.2.2.2.0 (binary_value op (operand_value t.registers a) (operand_value t.registers b)) refl
        ((binary_is op).value (reg u2) ∙ ap (λ x. binary_value op x (reg u2 4)) first ∙ ap (binary_value op (operand_value t.registers a)) s2.is)))
      where
        by : (u2 : MachineUnit) → Fits program slot start (memory_of u2) t → slice_get image.code (P + 1 + 1) ≡ Some (binary_code op) → slice_index image.lines (P + 1 + 1) ≡ line_of program t → slice_get image.code (P + 1 + 1 + 1) ≡ Some (instr 26 0 3 0 (slot t.function r)) →
            (o : Option ℕ) → binary_value op (operand_value t.registers a) (operand_value t.registers b) ≡ o →
            binary_value (binary_is op).done (reg u2 (binary_is op).x) (reg u2 (binary_is op).y) ≡ binary_value op (operand_value t.registers a) (operand_value t.registers b) →
            KeepsTo program slot image (suc n) 22 (actor_at start u2 (P + 1 + 1)) t
        by u2 fits2 code line last None none same =
            let q = quad.Binary op r a b in
            let c = binary_is op in
            trapped program slot image start u2 t (P + 1 + 1) (does.Binary c.done 3 c.x c.y) (operation_is image (P + 1 + 1) (binary_code op) code ∙ c.is) q (quad_is program slot start (memory_of u) t q fits here)
            (suc n) 22 DivideByZero (ap divides (same ∙ none)) line (ap (assigns_option t r) none)
        by u2 fits2 code line last (Some v) some same =
            let q = quad.Binary op r a b in
            let c = binary_is op in
            let value : binary_value c.done (reg u2 c.x) (reg u2 c.y) ≡ Some v = same ∙ some in
            scratches u2 (P + 1 + 1) 3 v (omega arith) (omega arith) fits2 (does.Binary c.done 3 c.x c.y) (operation_is image (P + 1 + 1) (binary_code op) code ∙ c.is) (ap divides value) (moves u2 v value) (suc n) 22 21 (omega arith)
            (λ u3 s3.
            keep_beside program slot image slots n all start u3 t (P + 1 + 1 + 1) q r v 3 s3.fits here tt (equal_to_itself r) last s3.is (behind q here ∙ omega arith) 21 (λ found. ap (assigns_option (with_found t found) r) some) (omega arith))
          where
            moves : (u2 : MachineUnit) (v : ℕ) → binary_value (binary_is op).done (reg u2 (binary_is op).x) (reg u2 (binary_is op).y) ≡ Some v →
                acted image (actor_at start u2 (P + 1 + 1)) (Some (does.Binary (binary_is op).done 3 (binary_is op).x (binary_is op).y)) ≡ Alone (actor_at start (sets (running u2 (P + 1 + 1)) 3 v) (P + 1 + 1 + 1))
            moves u2 v value =
                let c = binary_is op in
                ap (moved_by image (actor_at start u2 (P + 1 + 1)) (Some (does.Binary c.done 3 c.x c.y))) (ap divides value) ∙
                ap (λ o. Alone (actor_at start (sets (running u2 (P + 1 + 1)) 3 (unwrap_or o 0)) (P + 1 + 1 + 1))) value

    pub dollars : (r : ℕ) → Here (quad.Dollar r) → Kept u
    dollars r here =
        let q = quad.Dollar r in
        let code = code_of q here in
        keep_beside program slot image slots n all start u t P q r t.number 1 fits here tt (equal_to_itself r) code.0 fits.dollar (behind q here) 24 (λ found. refl) (omega arith)

    pub results : (r : ℕ) → Here (quad.Result r) → Kept u
    results r here =
        let q = quad.Result r in
        let code = code_of q here in
        keep_beside program slot image slots n all start u t P q r t.result 2 fits here tt (equal_to_itself r) code.0 fits.result (behind q here) 24 (λ found. refl) (omega arith)

    pub parameters : (r k : ℕ) → Here (quad.Parameter r k) → Kept u
    parameters r k here =
        let q = quad.Parameter r k in
        let code = code_of q here in
        let low = names_exist program fits.here.known t.at q here in
        scratches u P 3 (slice_index u.list k) (omega arith) (omega arith) fits (does.ReadArgument 3 k) (operation_is image P (instr 28 3 0 0 k) code.0) refl refl (suc n) 24 23 (omega arith)
        (λ u1 s.
        keep_beside program slot image slots n all start u1 t (P + 1) q r (t.list k) 3 s.fits here tt (equal_to_itself r) code.2.0 (s.is ∙ sym (fits.list k low)) (behind q here ∙ omega arith) 23 (λ found. refl) (omega arith))

    pub tests : (o : Operand) (size : ℕ) → Here (quad.Test o size) → Kept u
    tests o size here =
        let q = quad.Test o size in
        let code = code_of q here in
        fetched q o here (λ x is. is) u P 3 (omega arith) (omega arith) fits code.0 (suc n) 24 23 (omega arith)
        (λ u1 s. by u1 s.fits s.is code.2.0 code.2.1 (nat_lt (operand_value t.registers o) size) refl)
      where
        by : (u1 : MachineUnit) → Fits program slot start (memory_of u1) t → reg u1 3 ≡ operand_value t.registers o → slice_get image.code (P + 1) ≡ Some (instr 30 0 3 0 size) → slice_index image.lines (P + 1) ≡ line_of program t →
            (b : Bool) → nat_lt (operand_value t.registers o) size ≡ b → KeepsTo program slot image (suc n) 23 (actor_at start u1 (P + 1)) t
        by u1 fits1 value code line true is =
            let q = quad.Test o size in
            let passes : nat_lt (reg u1 3) size ≡ true = ap (λ v. nat_lt v size) value ∙ is in
            let u2 = goes_on (running u1 (P + 1)) in
            let leads = leads_next program fits.here.known t.parent (length t.callers) t.at q here tt fits.here.placed in
            beside program slot image start u1 t (P + 1) (does.Check 3 size) (operation_is image (P + 1) (instr 30 0 3 0 size) code) q (quad_is program slot start (memory_of u) t q fits here)
            n 23 (P + 1 + 1) u2 (with_next t t.registers) (λ found. found) (ap (λ b. if b then does_next.Local else does_next.Trap Index) passes) (rw passes refl)
            (λ found. ap (λ b. if b then goes (with_next (with_found t found) t.registers) else Traps Index) is) (omega arith)
            (keep_at program slot image slots n all start u2 (with_next t t.registers) (P + 1 + 1) (fits_moved program slot start (memory_of u1) t (t.at + 1) fits1 leads) (behind q here ∙ omega arith))
        by u1 fits1 value code line false is =
            let q = quad.Test o size in
            let fails : nat_lt (reg u1 3) size ≡ false = ap (λ v. nat_lt v size) value ∙ is in
            trapped program slot image start u1 t (P + 1) (does.Check 3 size) (operation_is image (P + 1) (instr 30 0 3 0 size) code) q (quad_is program slot start (memory_of u) t q fits here)
            (suc n) 23 Index (ap (λ b. if b then does_next.Local else does_next.Trap Index) fails) line (ap (λ b. if b then goes (with_next t t.registers) else Traps Index) is)

    pub arguments : (k : ℕ) (o : Operand) → Here (quad.Argument k o) → Kept u
    arguments k o here =
        let q = quad.Argument k o in
        let code = code_of q here in
        let low = names_exist program fits.here.known t.at q here in
        let v = operand_value t.registers o in
        let leads = leads_next program fits.here.known t.parent (length t.callers) t.at q here tt fits.here.placed in
        fetched q o here (λ x is. is) u P 3 (omega arith) (omega arith) fits code.0 (suc n) 24 23 (omega arith)
        (λ u1 s.
        let u2 : MachineUnit = record (goes_on (running u1 (P + 1))) { list = set u1.list k (reg u1 3) } in
        let t2 : QuadThread = record t { at = t.at + 1; list = with_register t.list k v } in
        let fits2 : Fits program slot start (memory_of u2) t2 =
        subst (λ v. Fits program slot start (memory_of u2) (record t { at = t.at + 1; list = with_register t.list k v })) s.is
        (fits_argument program slot start (memory_of u1) (record t { at = t.at + 1 }) k (reg u1 3) low (fits_moved program slot start (memory_of u1) t (t.at + 1) s.fits leads)) in
        beside program slot image start u1 t (P + 1) (does.WriteArgument 3 k) (operation_is image (P + 1) (instr 27 0 3 0 k) code.2.0) q (quad_is program slot start (memory_of u) t q fits here)
        n 23 (P + 1 + 1) u2 t2 (λ found. found) refl refl (λ found. refl) (omega arith)
        (keep_at program slot image slots n all start u2 t2 (P + 1 + 1) fits2 (behind q here ∙ omega arith)))
