-- What is tested of the instructions of one function.
use Rattle.std.specs.Prelude.{ℕ, ◌<◌, ◌≤◌, List, slice_get, IfSome}
use Rattle.std.specs.declared.option.Option.{Option}
use Rattle.std.specs.Option.{option_and_then, option_map_or}
use Rattle.xmt_isa.specs.declared.image.Image.{Image}
use Rattle.xmt_isa.specs.declared.image.Instr.{Instr}
use Rattle.xmt_isa.specs.declared.operation.Operation.{Operation}
use Rattle.xmt_isa.specs.declared.operation.Operation.TheVariants.{Jump, IfZero, IfNot, ReadSlot, WriteSlot, ReadMaster}
use Rattle.xmt_isa.specs.Operation.{operation_of}
use Rattle.xmt_isa.specs.Image.{start_of, end_of}

abbrev pub code_operation : List Instr → ℕ → Option Operation
code_operation code at = option_and_then operation_of (slice_get code at)

-- the jump stays between the places, the slot is one of these
abbrev pub RangeFits : ℕ → ℕ → ℕ → Operation → Type 0
RangeFits start end slots (Jump to) = (start ≤ to) × (to < end)
RangeFits start end slots (IfZero b to) = (start ≤ to) × (to < end)
RangeFits start end slots (IfNot b to) = (start ≤ to) × (to < end)
RangeFits start end slots (ReadSlot a i) = i < slots
RangeFits start end slots (WriteSlot b i) = i < slots
RangeFits start end slots (ReadMaster a i) = i < slots
RangeFits start end slots operation = Unit {0}

abbrev pub slots_of : Image → ℕ → ℕ
slots_of image f = option_map_or (λ entry. entry.slots) (slice_get image.functions f) 0

-- the same of each instruction of a function
abbrev pub RangesFit : Image → ℕ → Type 0
RangesFit image f = (at : ℕ) → start_of image f ≤ at → at < end_of image f → IfSome (code_operation image.code at) (RangeFits (start_of image f) (end_of image f) (slots_of image f))
