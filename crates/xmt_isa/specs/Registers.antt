-- The register fields of instructions: a field that is used is below 32, one that isn't used is 0, and register 0 isn't written.
use Rattle.std.specs.Prelude.{◌≡◌, ℕ, ◌<◌, All, IfSome}
use Rattle.xmt_isa.specs.declared.image.Image.{Image}
use Rattle.xmt_isa.specs.declared.image.Instr.{Instr}
use Rattle.xmt_isa.specs.declared.operation.Operation.{Operation}
use Rattle.xmt_isa.specs.declared.operation.Operation.TheVariants.{Set, Unary, Binary, Jump, IfZero, IfNot, Call, Return, ReadSlot, WriteSlot, WriteArgument, ReadArgument, ReadMaster, Check, Load, Store, Add, Print, Spawn, Join}
use Rattle.xmt_isa.specs.declared.operation.Location.TheVariants.{Indexed}
use Rattle.xmt_isa.specs.Operation.{operation_of}

abbrev pub IsRegister : ℕ → Type 0
IsRegister x = x < 32

abbrev pub IsWritable : ℕ → Type 0
IsWritable x = (0 < x) × (x < 32)

abbrev pub UsesNone : Instr → Type 0
UsesNone i = (i.a ≡ 0) × (i.b ≡ 0) × (i.c ≡ 0)

abbrev pub ReadsB : Instr → Type 0
ReadsB i = (i.a ≡ 0) × IsRegister i.b × (i.c ≡ 0)

abbrev pub ReadsAB : Instr → Type 0
ReadsAB i = IsRegister i.a × IsRegister i.b × (i.c ≡ 0)

abbrev pub WritesA : Instr → Type 0
WritesA i = IsWritable i.a × (i.b ≡ 0) × (i.c ≡ 0)

abbrev pub WritesAReadsB : Instr → Type 0
WritesAReadsB i = IsWritable i.a × IsRegister i.b × (i.c ≡ 0)

abbrev pub WritesAReadsBC : Instr → Type 0
WritesAReadsBC i = IsWritable i.a × IsRegister i.b × IsRegister i.c

-- the fields of an instruction that does this
abbrev pub RegistersFit : (i : Instr) → Operation → Type 0
RegistersFit i (Set a n) = WritesA i
RegistersFit i (Unary op a b) = WritesAReadsB i
RegistersFit i (Binary op a b c) = WritesAReadsBC i
RegistersFit i (Jump to) = UsesNone i
RegistersFit i (IfZero b to) = ReadsB i
RegistersFit i (IfNot b to) = ReadsB i
RegistersFit i (Call function) = UsesNone i
RegistersFit i Return = UsesNone i
RegistersFit i (ReadSlot a slot) = WritesA i
RegistersFit i (WriteSlot b slot) = ReadsB i
RegistersFit i (WriteArgument b place) = ReadsB i
RegistersFit i (ReadArgument a place) = WritesA i
RegistersFit i (ReadMaster a slot) = WritesA i
RegistersFit i (Check b n) = ReadsB i
RegistersFit i (Load a (Indexed b word)) = WritesAReadsB i
RegistersFit i (Load a location) = WritesA i
RegistersFit i (Store a (Indexed b word)) = ReadsAB i
RegistersFit i (Store b location) = ReadsB i
RegistersFit i (Add a (Indexed b word)) = WritesAReadsB i
RegistersFit i (Add a location) = WritesA i
RegistersFit i (Print text) = UsesNone i
RegistersFit i (Spawn a b mask) = ReadsAB i
RegistersFit i Join = UsesNone i

pub record HasRegisters (image : Image) : Type 0 where
  pub each : All (λ i. IfSome (operation_of i) (RegistersFit i)) image.code
