-- What each instruction does.
use Rattle.std.specs.Prelude.{◌-◌, ◌==◌, if◌then◌else◌, List, [], ◌∷◌, slice_get}
use Rattle.std.specs.declared.option.Option.{Option}
use Rattle.std.specs.declared.option.Option.TheVariants.{None}
use Rattle.xmt_base.specs.declared.operators.UnOp.TheVariants as unary
use Rattle.xmt_base.specs.declared.operators.BinOp.{BinOp}
use Rattle.xmt_base.specs.declared.operators.BinOp.TheVariants as binary
use Rattle.xmt_isa.specs.declared.image.Instr.{Instr}
use Rattle.xmt_isa.specs.declared.operation.Operation.{Operation}
use Rattle.xmt_isa.specs.declared.operation.Operation.TheVariants.{Set, Unary, Binary, Jump, IfZero, IfNot, Call, Return, ReadSlot, WriteSlot, WriteArgument, ReadArgument, ReadMaster, Check, Load, Store, Add, Print, Spawn, Join}
use Rattle.xmt_isa.specs.declared.operation.Location.TheVariants.{Word, Indexed, Outer, Register}

-- the operations in order of their numbers, from 1
abbrev pub operations : Instr → List Operation
operations i =
    Set i.a i.imm
    ∷ Unary unary.Plus i.a i.b
    ∷ Binary binary.Add i.a i.b i.c
    ∷ Binary binary.Sub i.a i.b i.c
    ∷ Binary binary.Mul i.a i.b i.c
    ∷ Binary binary.Div i.a i.b i.c
    ∷ Binary binary.Rem i.a i.b i.c
    ∷ Binary binary.Shl i.a i.b i.c
    ∷ Binary binary.Shr i.a i.b i.c
    ∷ Binary binary.BitAnd i.a i.b i.c
    ∷ Binary binary.BitOr i.a i.b i.c
    ∷ Binary binary.BitXor i.a i.b i.c
    ∷ Binary binary.Lt i.a i.b i.c
    ∷ Binary binary.Le i.a i.b i.c
    ∷ Binary binary.Eq i.a i.b i.c
    ∷ Binary binary.Ne i.a i.b i.c
    ∷ Unary unary.Neg i.a i.b
    ∷ Unary unary.Flip i.a i.b
    ∷ Unary unary.Not i.a i.b
    ∷ Jump i.imm
    ∷ IfZero i.b i.imm
    ∷ IfNot i.b i.imm
    ∷ Call i.imm
    ∷ Return
    ∷ ReadSlot i.a i.imm
    ∷ WriteSlot i.b i.imm
    ∷ WriteArgument i.b i.imm
    ∷ ReadArgument i.a i.imm
    ∷ ReadMaster i.a i.imm
    ∷ Check i.b i.imm
    ∷ Load i.a (Word i.imm)
    ∷ Store i.b (Word i.imm)
    ∷ Add i.a (Word i.imm)
    ∷ Load i.a (Indexed i.b i.imm)
    ∷ Store i.a (Indexed i.b i.imm)
    ∷ Add i.a (Indexed i.b i.imm)
    ∷ Load i.a (Outer i.imm)
    ∷ Store i.b (Outer i.imm)
    ∷ Add i.a (Outer i.imm)
    ∷ Load i.a (Register i.imm)
    ∷ Store i.b (Register i.imm)
    ∷ Add i.a (Register i.imm)
    ∷ Print i.imm
    ∷ Spawn i.a i.b i.imm
    ∷ Join
    ∷ []

-- what an instruction does, where its number is in the table
abbrev pub operation_of : Instr → Option Operation
operation_of i = if i.op == 0 then None else slice_get (operations i) (i.op - 1)

-- a binary operator has an instruction of its own, but for two, which are others with their operands exchanged
abbrev pub HasNumber : BinOp → Type 0
HasNumber binary.Gt = ⊥
HasNumber binary.Ge = ⊥
HasNumber op = Unit {0}

-- an instruction does it
abbrev pub IsEncodable : Operation → Type 0
IsEncodable (Binary op a b c) = HasNumber op
IsEncodable operation = Unit {0}
