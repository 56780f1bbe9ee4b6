-- Where the virtual registers of a quad program live.
use Rattle.std.specs.Prelude.{◌≡◌, ℕ, ◌<◌, ◌≤◌, List, length, All, map, Some, slice_get}
use Rattle.xmt_quads.specs.declared.homes.Home.{Home}
use Rattle.xmt_quads.specs.declared.homes.Home.TheVariants.{Reg, Slot}
use Rattle.xmt_quads.specs.declared.code.QuadProgram.{QuadProgram}

-- a machine register from 8 to 27, or a slot below 456
abbrev pub IsHome : Home → Type 0
IsHome (Reg r) = (8 ≤ r) × (r ≤ 27)
IsHome (Slot slot) = slot < 456

-- the homes are one list for each function, and in it one home for each virtual register
pub record IsAllocationOf (program : QuadProgram) (homes : List (List Home)) : Type 0 where
  pub one_for_each : map (λ of_function. length of_function) homes ≡ map (λ f. f.registers) program.functions
  pub are_homes : All (All IsHome) homes

-- each register lives in a slot, and no other register in the same one
pub record HasOwnSlots (homes : List Home) : Type 0 where
  pub slots : (r : ℕ) → r < length homes → (slot : ℕ) × (slice_get homes r ≡ Some (Slot slot))
  pub own : (r other : ℕ) → r < length homes → slice_get homes r ≡ slice_get homes other → r ≡ other
