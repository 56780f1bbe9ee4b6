-- An instruction of a valid image keeps the number of registers, and register 0.
use Rattle.std.proofs.Common.{◌≡◌, refl, sym, ◌∙◌, ap, subst, ℕ, ◌-◌, ◌<◌, ◌==◌, Bool, true, false, if◌then◌else◌, length, map, replicate, get_or, slice_index, slice_set, Option, Some, None, inl, inr, arith}
use Rattle.std.specs.Prelude.{slice_get}
use Rattle.std.proofs.lemmas.Bool.Decides.{eqb_tells}
use Rattle.std.proofs.lemmas.List.{length-set, get_or-map, get_or-replicate}
use Rattle.std.proofs.lemmas.Option.{slice_get_within, get_or_from_slice_get}
use Rattle.xmt_isa.specs.declared.image.Image.{Image}
use Rattle.xmt_isa.specs.declared.image.Instr.{Instr}
use Rattle.xmt_isa.specs.declared.operation.Operation.{Operation}
use Rattle.xmt_isa.specs.declared.operation.Operation.TheVariants.{Set, Unary, Binary, Jump, IfZero, IfNot, Call, Return, ReadSlot, WriteSlot, WriteArgument, ReadArgument, ReadMaster, Check, Load, Store, Add, Print, Join}
use Rattle.xmt_isa.specs.declared.operation.Location.TheVariants.{Word, Indexed, Outer, Register}
use Rattle.xmt_isa.specs.declared.unit.Unit.{Unit}
use Rattle.xmt_isa.specs.declared.unit.UnitState.TheVariants.{Runs, Halted}
use Rattle.xmt_isa.specs.declared.unit.Start.{Start}
use Rattle.xmt_isa.specs.declared.unit.Request.{Request}
use Rattle.xmt_isa.specs.declared.unit.Request.TheVariants as request
use Rattle.xmt_isa.specs.declared.unit.Next.TheVariants as next
use Rattle.xmt_isa.specs.Operation.{operations, operation_of}
use Rattle.xmt_isa.specs.Image.{operation_at}
use Rattle.xmt_isa.specs.Registers.{RegistersFit}
use Rattle.xmt_isa.specs.Step.{goes, next_at, next_here, next_of, local_at, local_here, local_of, answer_at, answer_here, answer_of}
use Rattle.xmt_isa.specs.Valid.{IsValid}
use Rattle.unit_steps.proofs.Instructions.{sound_instr}
use Rattle.machine_places.proofs.Units.{is_plain, next_of-runs, answer_of-runs}
use Rattle.unit_steps.proofs.Positions.{set_other}

-- ---- which register is written

-- the register that an operation writes, or this one where it writes none
abbrev written : ℕ → Operation → ℕ
written d (Set a n) = a
written d (Unary op a b) = a
written d (Binary op a b c) = a
written d (ReadSlot a i) = a
written d (ReadArgument a i) = a
written d (ReadMaster a i) = a
written d (Load a place) = a
written d (Add a place) = a
written d operation = d

-- of each instruction of the table it is the first field, or none
written_each : (i : Instr) → map (written i.a) (operations i) ≡ replicate 45 i.a
written_each i = refl

-- so it is of an instruction with this meaning
written_is : (i : Instr) (o : Operation) → operation_of i ≡ Some o → written i.a o ≡ i.a
written_is i o is =
    elim (eqb_tells i.op 0) [
      | inl so ↦ (let none = rw so.0 at is in absurd cc)
      | inr other ↦
          (let there : slice_get (operations i) (i.op - 1) ≡ Some o = rw other.0 at is in
          let within : i.op - 1 < 45 = slice_get_within (operations i) (i.op - 1) o there in
          let here : get_or (operations i) (i.op - 1) o ≡ o = get_or_from_slice_get (operations i) (i.op - 1) o o there in
          let mapped : get_or (map (written i.a) (operations i)) (i.op - 1) 0 ≡ written i.a (get_or (operations i) (i.op - 1) o) = get_or-map (written i.a) (operations i) (i.op - 1) o 0 within in
          let same : get_or (map (written i.a) (operations i)) (i.op - 1) 0 ≡ i.a = ap (λ xs. get_or xs (i.op - 1) 0) (written_each i) ∙ get_or-replicate 45 (i.op - 1) i.a 0 within in
          ap (written i.a) (sym here) ∙ sym mapped ∙ same)
    ]

above : (a x : ℕ) → a ≡ x → 0 < x → 0 < a
above a x same some = omega (arith, same, some)

-- and never register 0
written_above : (i : Instr) (o : Operation) → written i.a o ≡ i.a → RegistersFit i o → 0 < written 1 o
written_above i (Set a n) is fits = above a i.a is fits.0.0
written_above i (Unary op a b) is fits = above a i.a is fits.0.0
written_above i (Binary op a b c) is fits = above a i.a is fits.0.0
written_above i (ReadSlot a s) is fits = above a i.a is fits.0.0
written_above i (ReadArgument a s) is fits = above a i.a is fits.0.0
written_above i (ReadMaster a s) is fits = above a i.a is fits.0.0
written_above i (Load a (Indexed b w)) is fits = above a i.a is fits.0.0
written_above i (Load a (Word w)) is fits = above a i.a is fits.0.0
written_above i (Load a (Outer w)) is fits = above a i.a is fits.0.0
written_above i (Load a (Register w)) is fits = above a i.a is fits.0.0
written_above i (Add a (Indexed b w)) is fits = above a i.a is fits.0.0
written_above i (Add a (Word w)) is fits = above a i.a is fits.0.0
written_above i (Add a (Outer w)) is fits = above a i.a is fits.0.0
written_above i (Add a (Register w)) is fits = above a i.a is fits.0.0
written_above i o is fits = omega arith

-- an operation of a valid image writes no register 0
pub writes_above : (image : Image) → IsValid image → (at : ℕ) (o : Operation) → operation_at image at ≡ Some o → 0 < written 1 o
writes_above image valid at o is =
    let r = sound_instr image valid at o is in
    written_above r.0 o (written_is r.0 o r.1) r.2.registers

-- ---- and what that leaves

pub record SameRegisters (u v : Unit) : Type 0 where
  pub registers : length v.regs ≡ length u.regs
  pub zero : slice_index v.regs 0 ≡ slice_index u.regs 0

-- where a register other than 0 is written, and where none is
same_sets : (u v : Unit) (a value : ℕ) → v.regs ≡ slice_set u.regs a value → 0 < a → SameRegisters u v
same_sets u v a value is some = record {
  registers = ap length is ∙ length-set u.regs a value;
  zero = ap (λ xs. slice_index xs 0) is ∙ set_other u.regs a value 0 (λ e. omega (arith, e, some));
}

same_leaves : (u v : Unit) → v.regs ≡ u.regs → SameRegisters u v
same_leaves u v is = record { registers = ap length is; zero = ap (λ xs. slice_index xs 0) is }

same_either : (u v w : Unit) (b : Bool) → SameRegisters u v → SameRegisters u w → SameRegisters u (if b then v else w)
same_either u v w true first second = first
same_either u v w false first second = second

-- an instruction of the unit's own, and the reply to an access or a print
local_at-registers : (image : Image) (start : Start) (u : Unit) (o : Operation) → 0 < written 1 o → SameRegisters u (local_at image start u o)
local_at-registers image start u (Set a value) some = same_sets u _ a value refl some
local_at-registers image start u (Unary op a b) some = same_sets u _ a _ refl some
local_at-registers image start u (Binary op a b c) some = same_sets u _ a _ refl some
local_at-registers image start u (ReadSlot a i) some = same_sets u _ a _ refl some
local_at-registers image start u (ReadArgument a i) some = same_sets u _ a _ refl some
local_at-registers image start u (ReadMaster a i) some = same_sets u _ a _ refl some
local_at-registers image start u (Jump to) some = same_leaves u _ refl
local_at-registers image start u (IfZero b to) some = same_leaves u _ refl
local_at-registers image start u (IfNot b to) some = same_leaves u _ refl
local_at-registers image start u (Call f) some = same_leaves u _ refl
local_at-registers image start u Return some = same_either u (record (goes u u.at) { state = Halted }) (record (goes u (slice_index u.back (u.depth - 1))) { depth = u.depth - 1 }) (u.depth == 0) (same_leaves u _ refl) (same_leaves u _ refl)
local_at-registers image start u (WriteSlot b i) some = same_leaves u _ refl
local_at-registers image start u (WriteArgument b i) some = same_leaves u _ refl
local_at-registers image start u (Check b n) some = same_leaves u _ refl
local_at-registers image start u o some = same_leaves u _ refl

answer_at-registers : (image : Image) (start : Start) (u : Unit) (o : Operation) (ask : Request) (reply : ℕ) → 0 < written 1 o → next_at image start u o ≡ next.Ask ask → is_plain ask ≡ true → SameRegisters u (answer_at start u o reply)
answer_at-registers image start u (Load a place) ask reply some asks plain = same_sets u _ a reply refl some
answer_at-registers image start u (Add a place) ask reply some asks plain = same_sets u _ a reply refl some
answer_at-registers image start u (Store a place) ask reply some asks plain = same_leaves u _ refl
answer_at-registers image start u (Print text) ask reply some asks plain = same_leaves u _ refl
answer_at-registers image start u Join ask reply some asks plain = let same : request.Draw ≡ ask = cc in let never : is_plain request.Draw ≡ true = ap is_plain same ∙ plain in cc
answer_at-registers image start u o ask reply some asks plain = same_leaves u _ refl

module _ (image : Image) (valid : IsValid image) (start : Start) (u : Unit) where
  pub local_of-registers : SameRegisters u (local_of image start u)
  local_of-registers = by_operation (operation_at image u.at) refl
    where
      by_operation : (o : Option Operation) → operation_at image u.at ≡ o → SameRegisters u (local_here image start u o)
      by_operation None is = same_leaves u u refl
      by_operation (Some o) is = local_at-registers image start u o (writes_above image valid u.at o is)

  pub answer_of-registers : (ask : Request) (reply : ℕ) → u.state ≡ Runs → next_of image start u ≡ next.Ask ask → is_plain ask ≡ true → SameRegisters u (answer_of image start u reply)
  answer_of-registers ask reply runs asks plain = subst (SameRegisters u) (sym (answer_of-runs image start u reply runs)) (by_operation (operation_at image u.at) refl (sym (next_of-runs image start u runs) ∙ asks))
    where
      by_operation : (o : Option Operation) → operation_at image u.at ≡ o → next_here image start u o ≡ next.Ask ask → SameRegisters u (answer_here start u o reply)
      by_operation None is here = same_leaves u u refl
      by_operation (Some o) is here = answer_at-registers image start u o ask reply (writes_above image valid u.at o is) here plain
