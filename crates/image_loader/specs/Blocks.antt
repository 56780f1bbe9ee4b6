-- Which spawn is open before an instruction, read from left to right.
use Rattle.std.specs.Prelude.{◌≡◌, ◌≢◌, ◌⊎◌, ℕ, zero, suc, ◌+◌, ◌-◌, ◌<◌, ◌≤◌, ◌==◌, if◌then◌else◌, List, length, slice_get, All, IfSome, IsSomeAnd}
use Rattle.std.specs.declared.option.Option.{Option}
use Rattle.std.specs.declared.option.Option.TheVariants.{Some, None}
use Rattle.std.specs.Option.{option_map_or}
use Rattle.xmt_isa.specs.declared.image.Image.{Image}
use Rattle.xmt_isa.specs.declared.image.Instr.{Instr}
use Rattle.xmt_isa.specs.declared.operation.Operation.TheVariants.{Call}
use Rattle.xmt_isa.specs.declared.operation.Operation.{Operation}
use Rattle.xmt_isa.specs.Operation.{operation_of}
use Rattle.xmt_isa.specs.Image.{start_of, operation_at, HasStarts, end_of}
use Rattle.xmt_isa.specs.Regions.{HasOp, Jumps, IsInInner}

-- the number of the operation at a place, 0 behind the code
abbrev pub op_at : List Instr → ℕ → ℕ
op_at code at = option_map_or (λ i. i.op) (slice_get code at) 0

-- the spawn that is open once the instruction is read, where this one was before
abbrev pub open_after : List Instr → ℕ → Option ℕ → Option ℕ
open_after code at before = if op_at code at == 44 then Some at else if op_at code at == 45 then None else before

abbrev pub open_at : List Instr → ℕ → Option ℕ
open_at code zero = None
open_at code (suc at) = open_after code at (open_at code at)

-- no spawn stands in a block, no join outside one, and none is open where a function starts or the code ends
pub record AreClosed (image : Image) : Type 0 where
  pub spawns : (at : ℕ) → op_at image.code at ≡ 44 → open_at image.code at ≡ None
  pub joins : (at : ℕ) → op_at image.code at ≡ 45 → (spawn : ℕ) × (open_at image.code at ≡ Some spawn)
  pub starts : (f : ℕ) → f < length image.functions → open_at image.code (start_of image f) ≡ None
  pub ends : open_at image.code (length image.code) ≡ None

-- the same test as HasRegions, each part about one instruction or one function
pub record HasOpenRegions (image : Image) : Type 0 where
  pub starts : HasStarts image
  pub inner : All (λ f. f.inner ≤ 1) image.functions
  pub ends : (f : ℕ) → f < length image.functions → HasOp image (end_of image f - 1) 20 ⊎ HasOp image (end_of image f - 1) 24
  pub closed : AreClosed image
  pub jumps : (at to : ℕ) → Jumps image at to → open_at image.code at ≡ open_at image.code to
  pub in_block : (at s : ℕ) → open_at image.code at ≡ Some s → ¬ (HasOp image at 24 ⊎ HasOp image at 44 ⊎ HasOp image at 43)
  pub master_slots : (at : ℕ) → HasOp image at 29 → (s : ℕ) × (open_at image.code at ≡ Some s)
  pub in_inner : (at : ℕ) → IsInInner image at → ¬ (HasOp image at 44 ⊎ HasOp image at 43)
  pub block_calls : (at s f : ℕ) → open_at image.code at ≡ Some s → operation_at image at ≡ Some (Call f) → IsSomeAnd (slice_get image.functions f) (λ entry. entry.inner ≡ 1)
  pub inner_calls : (at f : ℕ) → IsInInner image at → operation_at image at ≡ Some (Call f) → IsSomeAnd (slice_get image.functions f) (λ entry. entry.inner ≡ 1)

-- the spawns that are open before the first instruction, and behind each
pub record IsTable (code : List Instr) (table : List (Option ℕ)) : Type 0 where
  pub long : length table ≡ length code + 1
  pub each : (at : ℕ) → at ≤ length code → slice_get table at ≡ Some (open_at code at)

-- what an operation calls, if it calls, is an inner function
abbrev pub CallsInner : Image → Option Operation → Type 0
CallsInner image (Some (Call f)) = IsSomeAnd (slice_get image.functions f) (λ entry. entry.inner ≡ 1)
CallsInner image operation = Unit {0}

-- what is tested of an instruction, by the spawn that is open before it
abbrev pub OpenFits : Image → Option ℕ → Instr → Type 0
OpenFits image (Some s) i = (i.op ≢ 24) × (i.op ≢ 44) × (i.op ≢ 43) × CallsInner image (operation_of i)
OpenFits image None i = (i.op ≢ 45) × (i.op ≢ 29)

-- a jump leads to where the same spawn is open
abbrev pub JumpFits : List Instr → ℕ → Instr → Type 0
JumpFits code at i = (i.op ≡ 20) ⊎ (i.op ≡ 21) ⊎ (i.op ≡ 22) → open_at code at ≡ open_at code i.imm

abbrev pub inner_of : Image → ℕ → ℕ
inner_of image f = option_map_or (λ entry. entry.inner) (slice_get image.functions f) 0

abbrev pub PlaceHolds : Image → ℕ → Instr → Type 0
PlaceHolds image at i = OpenFits image (open_at image.code at) i × JumpFits image.code at i

-- what is tested of the instructions of an inner function
abbrev pub InnerHolds : Image → Instr → Type 0
InnerHolds image i = (i.op ≢ 44) × (i.op ≢ 43) × CallsInner image (operation_of i)

abbrev pub BodyHolds : Image → ℕ → ℕ → Type 0
BodyHolds image start end = (at : ℕ) → start ≤ at → at < end → IfSome (slice_get image.code at) (InnerHolds image)

pub record FunctionHolds (image : Image) (f : ℕ) : Type 0 where
  pub inner : inner_of image f ≤ 1
  pub ends : (op_at image.code (end_of image f - 1) ≡ 20) ⊎ (op_at image.code (end_of image f - 1) ≡ 24)
  pub closed : open_at image.code (start_of image f) ≡ None
  pub body : inner_of image f ≡ 1 → BodyHolds image (start_of image f) (end_of image f)

-- the test of regions, as it is made
pub record RegionParts (image : Image) : Type 0 where
  pub starts : HasStarts image
  pub each : (at : ℕ) → IfSome (slice_get image.code at) (PlaceHolds image at)
  pub functions : (f : ℕ) → f < length image.functions → FunctionHolds image f
  pub ends : open_at image.code (length image.code) ≡ None
