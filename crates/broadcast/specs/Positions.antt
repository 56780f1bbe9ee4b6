-- The masks of positions on their way.
use Rattle.std.specs.Prelude.{ℕ, ◌≡◌, ◌≢◌, ◌⊎◌, ◌↔◌, ◌+◌, ◌<◌, Bool, true, false, List, length, Some, slice_get, slice_index, slice_index_or, take}
use Rattle.std.specs.Int.{bit_at}
use Rattle.xmt_quads.specs.declared.homes.Home.{Home}
use Rattle.xmt_quads.specs.declared.homes.Home.TheVariants.{Reg}
use Rattle.xmt_quads.specs.declared.code.Quad.{Quad}
use Rattle.xmt_quads.specs.Program.{spawns_in}
use Rattle.xmt_quads.specs.Regions.{IsSpawn}
use Rattle.xmt_quads.specs.Live.{IsLive}

-- a mask with this machine register, if what it holds is live
pub record IsWith (live : Bool) (register mask new : ℕ) : Type 0 where
  pub here : live ≡ true → bit_at new register ≡ 1
  pub others : (other : ℕ) → (live ≡ false) ⊎ (other ≢ register) → bit_at new other ≡ bit_at mask other

-- the same for the masks of all positions
pub record AreWith (register : ℕ) (marks : List Bool) (masks new : List ℕ) : Type 0 where
  pub each : (at : ℕ) → at < length masks → IsWith (slice_index_or marks at false) register (slice_index masks at) (slice_index new at)

-- a virtual register below this number lives in this machine register and is live at the position
abbrev pub IsHeldBelow : List Quad → List Home → (bound at register : ℕ) → Type 0
IsHeldBelow quads homes bound at register = (v : ℕ) × (v < bound) × (slice_get homes v ≡ Some (Reg register)) × IsLive quads v at

-- the masks of the function's positions, as far as the virtual registers below this number say
pub record AreMasksBelow (quads : List Quad) (homes : List Home) (bound : ℕ) (masks : List ℕ) : Type 0 where
  pub bits : (at register : ℕ) → at < length quads → (bit_at (slice_index masks at) register ≡ 1) ↔ IsHeldBelow quads homes bound at register

-- the mask of the position behind each spawn has been added behind the others
pub record AreAdded (quads : List Quad) (positions masks new : List ℕ) : Type 0 where
  pub count : length new ≡ length masks + spawns_in quads
  pub kept : (k : ℕ) → k < length masks → slice_index new k ≡ slice_index masks k
  pub added : (at : ℕ) → IsSpawn quads at → slice_index new (length masks + spawns_in (take at quads)) ≡ slice_index positions (at + 1)
