-- The masks of spawns: which machine registers hold what is live where the block of a spawn begins.
use Rattle.std.specs.Prelude.{ℕ, ◌≡◌, ◌↔◌, ◌+◌, ◌<◌, List, [], length, Option, Some, None, slice_get, slice_index, sum_by, take}
use Rattle.std.specs.Int.{bit_at}
use Rattle.xmt_quads.specs.declared.homes.Home.{Home}
use Rattle.xmt_quads.specs.declared.homes.Home.TheVariants.{Reg}
use Rattle.xmt_quads.specs.declared.code.Quad.{Quad}
use Rattle.xmt_quads.specs.declared.code.QuadProgram.{QuadProgram}
use Rattle.xmt_quads.specs.Program.{quads_in, spawns_in, site_at}
use Rattle.xmt_quads.specs.Regions.{IsSpawn}
use Rattle.xmt_quads.specs.Live.{IsLive}

-- a virtual register that lives in this machine register is live at the position
abbrev pub IsHeld : List Quad → List Home → (at register : ℕ) → Type 0
IsHeld quads homes at register = (v : ℕ) × (slice_get homes v ≡ Some (Reg register)) × IsLive quads v at

-- the bits of a mask are the machine registers that hold a live virtual one
pub record IsMask (quads : List Quad) (homes : List Home) (at mask : ℕ) : Type 0 where
  pub bits : (register : ℕ) → (bit_at mask register ≡ 1) ↔ IsHeld quads homes at register

-- the masks of all positions
pub record ArePositionMasks (quads : List Quad) (homes : List Home) (masks : List ℕ) : Type 0 where
  pub each : (at : ℕ) → IsMask quads homes at (slice_index masks at)

-- the masks of the function's spawns have been added behind the others
pub record AreFunctionMasks (quads : List Quad) (homes : List Home) (masks new : List ℕ) : Type 0 where
  pub count : length new ≡ length masks + spawns_in quads
  pub kept : (k : ℕ) → k < length masks → slice_index new k ≡ slice_index masks k
  pub added : (at : ℕ) → IsSpawn quads at → IsMask quads homes (at + 1) (slice_index new (length masks + spawns_in (take at quads)))

abbrev pub homes_of : Option (List Home) → List Home
homes_of None = []
homes_of (Some homes) = homes

-- One mask for each spawn, in the order of the program: it says what is live behind the spawn, at the first position of its block.
pub record AreMasks (program : QuadProgram) (homes : List (List Home)) (masks : List ℕ) : Type 0 where
  pub one_for_each : length masks ≡ sum_by (λ f. spawns_in f.quads) program.functions
  pub each : (function at : ℕ) → IsSpawn (quads_in program function) at →
      IsMask (quads_in program function) (homes_of (slice_get homes function)) (at + 1) (slice_index masks (site_at program function at))
