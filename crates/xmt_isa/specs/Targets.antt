-- What the number of an instruction may be.
use Rattle.std.specs.Prelude.{◌≡◌, ℕ, ◌%◌, ◌^◌, ◌<◌, ◌≤◌, length, All, slice_get, IfSome, IsSomeAnd}
use Rattle.xmt_isa.specs.declared.image.Image.{Image}
use Rattle.xmt_isa.specs.declared.operation.Operation.{Operation}
use Rattle.xmt_isa.specs.declared.operation.Operation.TheVariants.{Unary, Binary, Jump, IfZero, IfNot, Call, Return, ReadSlot, WriteSlot, WriteArgument, ReadArgument, ReadMaster, Check, Load, Store, Add, Print, Spawn, Join}
use Rattle.xmt_isa.specs.declared.operation.Location.{Location}
use Rattle.xmt_isa.specs.declared.operation.Location.TheVariants.{Word, Indexed, Outer, Register}
use Rattle.xmt_isa.specs.Operation.{operation_of}
use Rattle.xmt_isa.specs.Image.{operation_at, IsIn, HasStarts}

abbrev pub LocationFits : Image → Location → Type 0
LocationFits image (Word word) = word < length image.words
LocationFits image (Outer word) = word < image.outer
LocationFits image (Register register) = register < 8
-- the machine itself tests where an indexed access goes
LocationFits image (Indexed b word) = Unit {0}

-- what needs no functions; number is that of the instruction, which is 0 where it isn't used
abbrev pub TargetFits : Image → (number : ℕ) → Operation → Type 0
TargetFits image number (Call function) = function < length image.functions
TargetFits image number (WriteArgument b place) = place < 16
TargetFits image number (ReadArgument a place) = place < 16
TargetFits image number (Check b n) = (1 ≤ n) × (n ≤ 2 ^ 20)
TargetFits image number (Load a location) = LocationFits image location
TargetFits image number (Store b location) = LocationFits image location
TargetFits image number (Add a location) = LocationFits image location
TargetFits image number (Print text) = text < length image.texts
-- registers 0 and 1 aren't in a mask
TargetFits image number (Spawn a b mask) = mask % 4 ≡ 0
TargetFits image number (Unary op a b) = number ≡ 0
TargetFits image number (Binary op a b c) = number ≡ 0
TargetFits image number Return = number ≡ 0
TargetFits image number Join = number ≡ 0
TargetFits image number operation = Unit {0}

-- each function that holds the one instruction holds the other
abbrev pub IsSameFunction : Image → (at to : ℕ) → Type 0
IsSameFunction image at to = (function : ℕ) → IsIn image function at → IsIn image function to

-- it is a slot of each function that holds the instruction
abbrev pub IsSlot : Image → (at slot : ℕ) → Type 0
IsSlot image at slot = (function : ℕ) → IsIn image function at → IsSomeAnd (slice_get image.functions function) (λ entry. slot < entry.slots)

-- what a jump and a slot may be in the function that holds the instruction
abbrev pub FunctionTargetFits : Image → (at : ℕ) → Operation → Type 0
FunctionTargetFits image at (Jump to) = IsSameFunction image at to
FunctionTargetFits image at (IfZero b to) = IsSameFunction image at to
FunctionTargetFits image at (IfNot b to) = IsSameFunction image at to
FunctionTargetFits image at (ReadSlot a slot) = IsSlot image at slot
FunctionTargetFits image at (WriteSlot b slot) = IsSlot image at slot
FunctionTargetFits image at (ReadMaster a slot) = IsSlot image at slot
FunctionTargetFits image at operation = Unit {0}

-- jumps and slots are tested only where the functions' starts are in order
pub record HasTargets (image : Image) : Type 0 where
  pub each : All (λ i. IfSome (operation_of i) (TargetFits image i.imm)) image.code
  pub in_function : HasStarts image → (at : ℕ) → IfSome (operation_at image at) (FunctionTargetFits image at)
