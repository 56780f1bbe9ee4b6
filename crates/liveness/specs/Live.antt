-- Which registers are live at a position, and at which positions a register is live.
use Rattle.std.specs.Prelude.{ℕ, ◌≡◌, ◌↔◌, Bool, true, false, List, Contains, slice_index_or}
use Rattle.std.specs.List.Sorted.{IsStrictlyIncreasing}
use Rattle.xmt_quads.specs.declared.code.Quad.{Quad}
use Rattle.xmt_quads.specs.Live.{IsLive}

-- just the registers that are live at the position, rising
pub record AreLive (quads : List Quad) (at : ℕ) (registers : List ℕ) : Type 0 where
  pub rising : IsStrictlyIncreasing registers
  pub exactly : (r : ℕ) → Contains registers r ↔ IsLive quads r at

-- just the positions where the register is live are marked
pub record AreLivePositions (quads : List Quad) (r : ℕ) (marks : List Bool) : Type 0 where
  pub exactly : (at : ℕ) → (slice_index_or marks at false ≡ true) ↔ IsLive quads r at
