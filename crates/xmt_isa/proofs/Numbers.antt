-- The number of each operation.
use Rattle.std.proofs.Common.{◌≡◌, ℕ, ◌+◌, ◌-◌, ◌≤◌, ◌<◌, get_or, map, Some, refl, sym, ap, ◌∙◌, inl, inr, arith}
use Rattle.std.specs.Prelude.{slice_get}
use Rattle.std.specs.List.{range_with_len}
use Rattle.std.proofs.lemmas.Bool.Decides.{eqb_tells}
use Rattle.std.proofs.lemmas.List.{get_or-map}
use Rattle.std.proofs.lemmas.List.FromFn.{get_or-range_with_len}
use Rattle.std.proofs.lemmas.Option.{slice_get_within, get_or_from_slice_get, slice_get-get_or}
use Rattle.xmt_base.specs.declared.operators.UnOp.TheVariants as unary
use Rattle.xmt_base.specs.declared.operators.BinOp.TheVariants as binary
use Rattle.xmt_isa.specs.declared.image.Instr.{Instr}
use Rattle.xmt_isa.specs.declared.operation.Operation.{Operation}
use Rattle.xmt_isa.specs.declared.operation.Operation.TheVariants.{Set, Unary, Binary, Jump, IfZero, IfNot, Call, Return, ReadSlot, WriteSlot, WriteArgument, ReadArgument, ReadMaster, Check, Load, Store, Add, Print, Spawn, Join}
use Rattle.xmt_isa.specs.declared.operation.Location.TheVariants.{Word, Indexed, Outer, Register}
use Rattle.xmt_isa.specs.Operation.{operations, operation_of}

unfoldable pub number_of : Operation → ℕ
number_of (Set a n) = 1
number_of (Unary unary.Plus a b) = 2
number_of (Unary unary.Neg a b) = 17
number_of (Unary unary.Flip a b) = 18
number_of (Unary unary.Not a b) = 19
number_of (Binary binary.Add a b c) = 3
number_of (Binary binary.Sub a b c) = 4
number_of (Binary binary.Mul a b c) = 5
number_of (Binary binary.Div a b c) = 6
number_of (Binary binary.Rem a b c) = 7
number_of (Binary binary.Shl a b c) = 8
number_of (Binary binary.Shr a b c) = 9
number_of (Binary binary.BitAnd a b c) = 10
number_of (Binary binary.BitOr a b c) = 11
number_of (Binary binary.BitXor a b c) = 12
number_of (Binary binary.Lt a b c) = 13
number_of (Binary binary.Le a b c) = 14
number_of (Binary binary.Eq a b c) = 15
number_of (Binary binary.Ne a b c) = 16
number_of (Binary op a b c) = 0
number_of (Jump to) = 20
number_of (IfZero b to) = 21
number_of (IfNot b to) = 22
number_of (Call function) = 23
number_of Return = 24
number_of (ReadSlot a slot) = 25
number_of (WriteSlot b slot) = 26
number_of (WriteArgument b place) = 27
number_of (ReadArgument a place) = 28
number_of (ReadMaster a slot) = 29
number_of (Check b n) = 30
number_of (Load a (Word word)) = 31
number_of (Load a (Indexed b word)) = 34
number_of (Load a (Outer word)) = 37
number_of (Load a (Register register)) = 40
number_of (Store a (Word word)) = 32
number_of (Store a (Indexed b word)) = 35
number_of (Store a (Outer word)) = 38
number_of (Store a (Register register)) = 41
number_of (Add a (Word word)) = 33
number_of (Add a (Indexed b word)) = 36
number_of (Add a (Outer word)) = 39
number_of (Add a (Register register)) = 42
number_of (Print text) = 43
number_of (Spawn a b mask) = 44
number_of Join = 45

numbers : (i : Instr) → map number_of (operations i) ≡ range_with_len 1 45
unfolding number_of
numbers i = refl

-- an instruction with a number of the table has a meaning
pub operation_there : (i : Instr) → 1 ≤ i.op → i.op ≤ 45 → (operation : Operation) × (operation_of i ≡ Some operation)
operation_there i low high =
    elim (eqb_tells i.op 0) [
      | inl so ↦ absurd (omega (arith, so.1, low))
      | inr other ↦ (get_or (operations i) (i.op - 1) Join, rw other.0 (slice_get-get_or (operations i) (i.op - 1) Join (omega (arith, high, low))))
    ]

-- and its number is that of the meaning
pub number_is : (i : Instr) (operation : Operation) → operation_of i ≡ Some operation → i.op ≡ number_of operation
number_is i operation is =
    elim (eqb_tells i.op 0) [
      | inl so ↦ (let none = rw so.0 at is in absurd cc)
      | inr other ↦
          (let there : slice_get (operations i) (i.op - 1) ≡ Some operation = rw other.0 at is in
          let within : i.op - 1 < 45 = slice_get_within (operations i) (i.op - 1) operation there in
          let here : get_or (operations i) (i.op - 1) operation ≡ operation = get_or_from_slice_get (operations i) (i.op - 1) operation operation there in
          let mapped : get_or (map number_of (operations i)) (i.op - 1) 0 ≡ number_of (get_or (operations i) (i.op - 1) operation) = get_or-map number_of (operations i) (i.op - 1) operation 0 within in
          let counted : get_or (map number_of (operations i)) (i.op - 1) 0 ≡ 1 + (i.op - 1) = rw numbers (get_or-range_with_len 1 45 (i.op - 1) 0 within) in
          let back : 1 + (i.op - 1) ≡ i.op = omega (arith, other.1) in
          sym (sym (mapped ∙ ap number_of here) ∙ counted ∙ back))
    ]

-- ---- and back, for those that lead elsewhere

pub jump_of : (i : Instr) → i.op ≡ 20 → operation_of i ≡ Some (Jump i.imm)
jump_of i e = rw e refl

pub if_zero_of : (i : Instr) → i.op ≡ 21 → operation_of i ≡ Some (IfZero i.b i.imm)
if_zero_of i e = rw e refl

pub if_not_of : (i : Instr) → i.op ≡ 22 → operation_of i ≡ Some (IfNot i.b i.imm)
if_not_of i e = rw e refl

pub return_of : (i : Instr) → i.op ≡ 24 → operation_of i ≡ Some Return
return_of i e = rw e refl

pub spawn_of : (i : Instr) → i.op ≡ 44 → operation_of i ≡ Some (Spawn i.a i.b i.imm)
spawn_of i e = rw e refl

pub join_of : (i : Instr) → i.op ≡ 45 → operation_of i ≡ Some Join
join_of i e = rw e refl
