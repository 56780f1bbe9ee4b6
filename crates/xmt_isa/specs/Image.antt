-- Where the instructions and the functions of an image stand.
use Rattle.std.specs.Prelude.{◌≡◌, ℕ, ◌+◌, ◌<◌, ◌≤◌, length, map, All, slice_get}
use Rattle.std.specs.declared.option.Option.{Option}
use Rattle.std.specs.List.Sorted.{IsStrictlyIncreasing}
use Rattle.std.specs.Option.{option_and_then, option_map_or}
use Rattle.xmt_isa.specs.declared.image.Image.{Image}
use Rattle.xmt_isa.specs.declared.operation.Operation.{Operation}
use Rattle.xmt_isa.specs.Operation.{operation_of}

-- what the instruction at a place does
abbrev pub operation_at : (image : Image) → (at : ℕ) → Option Operation
operation_at image at = option_and_then operation_of (slice_get image.code at)

-- the first instruction of a function
abbrev pub start_of : (image : Image) → (function : ℕ) → ℕ
start_of image function = option_map_or (λ entry. entry.start) (slice_get image.functions function) 0

-- where a function ends: at the next one's start, the last one with the code
abbrev pub end_of : (image : Image) → (function : ℕ) → ℕ
end_of image function = option_map_or (λ next. next.start) (slice_get image.functions (function + 1)) (length image.code)

-- the instruction stands in the function
abbrev pub IsIn : (image : Image) → (function at : ℕ) → Type 0
IsIn image function at = (function < length image.functions) × (start_of image function ≤ at) × (at < end_of image function)

-- the functions' starts rise strictly from 0 and are below the number of instructions
pub record HasStarts (image : Image) : Type 0 where
  pub first : start_of image 0 ≡ 0
  pub rising : IsStrictlyIncreasing (map (λ f. f.start) image.functions)
  pub inside : All (λ f. f.start < length image.code) image.functions
