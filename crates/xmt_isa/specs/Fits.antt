-- What holds of the units of a valid image, and of what its spawns broadcast, at every moment of a run.
use Rattle.std.specs.Prelude.{◌≡◌, ◌≢◌, ◌⊎◌, ℕ, suc, ◌+◌, ◌^◌, ◌<◌, ◌≤◌, true, List, [], ◌∷◌, ◌++◌, length, All, take, slice_index}
use Rattle.std.specs.declared.option.Option.TheVariants.{Some}
use Rattle.xmt_isa.specs.declared.image.Image.{Image}
use Rattle.xmt_isa.specs.declared.operation.Operation.TheVariants.{Call}
use Rattle.xmt_isa.specs.declared.unit.Unit.{Unit}
use Rattle.xmt_isa.specs.declared.unit.UnitState.TheVariants.{Draws, Runs, Stopped, Halted}
use Rattle.xmt_isa.specs.declared.unit.Start.{Start}
use Rattle.xmt_isa.specs.declared.unit.Request.{Request}
use Rattle.xmt_isa.specs.declared.unit.Next.TheVariants.{Ask}
use Rattle.xmt_isa.specs.Image.{operation_at, IsIn}
use Rattle.xmt_isa.specs.Regions.{IsSpawn, IsBlock, IsInside, IsInBlock}
use Rattle.xmt_isa.specs.Step.{next_of}
use Rattle.xmt_isa.specs.Threads.{HasRoom}

-- what a spawn of the image broadcasts
pub record StartFits (image : Image) (start : Start) : Type 0 where
  -- the block begins behind a spawn
  pub spawn : ℕ
  pub is_spawn : IsSpawn image spawn
  pub behind : start.at ≡ spawn + 1
  pub count : start.count ≤ 2 ^ 32
  pub depth : start.depth ≤ 256
  pub frame : length start.frame ≡ 512
  pub registers : length start.regs ≡ 32
  pub zero : slice_index start.regs 0 ≡ 0

-- the return positions of a unit, from the outermost call on, and then the next instruction
abbrev pub positions : Unit → List ℕ
positions u = take u.depth u.back ++ (u.at ∷ [])

-- the outermost position: in the main function, or in the block
abbrev pub first_position : Unit → ℕ
first_position u = slice_index (positions u) 0

-- a call of the function in which a position stands goes on here when it returns
pub record IsBehindCall (image : Image) (back inside : ℕ) : Type 0 where
  pub call : ℕ
  pub behind : back ≡ call + 1
  pub function : ℕ
  pub calls : operation_at image call ≡ Some (Call function)
  pub within : IsIn image function inside

-- the position stands in the block that was broadcast, its join included
pub record IsInBlockOf (image : Image) (start : Start) (at : ℕ) : Type 0 where
  pub spawn : ℕ
  pub join : ℕ
  pub is_block : IsBlock image spawn join
  pub begins : start.at ≡ spawn + 1
  pub inside : IsInside spawn join at

-- where a unit that runs may stand: the serial code in the main function and what it calls, outside all blocks; a virtual thread in its
-- block and what that calls
pub record IsPlaced (image : Image) (start : Start) (u : Unit) : Type 0 where
  pub inside : All (λ p. p < length image.code) (positions u)
  pub returns : (i : ℕ) → i < u.depth → IsBehindCall image (slice_index (positions u) i) (slice_index (positions u) (suc i))
  pub serial : u.number ≡ 0 → IsIn image image.entry (first_position u) × All (λ p. ¬ IsInBlock image p) (positions u)
  pub virtual : u.number ≢ 0 → IsInBlockOf image start (first_position u)

-- the unit's next instruction asks for something
abbrev pub Asks : Image → Start → Unit → Type 0
Asks image start u = (request : Request) × (next_of image start u ≡ Ask request)

-- a unit of the image, where this was broadcast last
pub record UnitFits (image : Image) (start : Start) (u : Unit) : Type 0 where
  pub room : HasRoom u
  pub registers : length u.regs ≡ 32
  pub zero : slice_index u.regs 0 ≡ 0
  pub depth : u.depth ≤ 256
  -- only a control unit stops, and only the master halts
  pub stops : u.state ≡ Stopped → u.number ≢ 0
  pub halts : u.state ≡ Halted → u.number ≡ 0
  -- a unit that waits runs, at an instruction that asks, or is due to draw; the master waits only while it runs
  pub waits : u.waits ≡ true → (u.state ≡ Runs) ⊎ (u.state ≡ Draws)
  pub master_waits : u.waits ≡ true → u.number ≡ 0 → u.state ≡ Runs
  pub asks : u.waits ≡ true → u.state ≡ Runs → Asks image start u
  pub placed : u.state ≡ Runs → IsPlaced image start u
