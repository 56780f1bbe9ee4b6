-- How functions, blocks and jumps nest. A block reaches from behind its spawn to its join.
use Rattle.std.specs.Prelude.{◌≡◌, ◌⊎◌, ◌↔◌, ℕ, ◌-◌, ◌<◌, ◌≤◌, length, All, slice_get, IsSomeAnd}
use Rattle.std.specs.declared.option.Option.TheVariants.{Some}
use Rattle.xmt_isa.specs.declared.image.Image.{Image}
use Rattle.xmt_isa.specs.declared.operation.Operation.TheVariants.{Call}
use Rattle.xmt_isa.specs.Image.{operation_at, end_of, IsIn, HasStarts}
use Rattle.xmt_isa.specs.Targets.{IsSameFunction}

-- the instruction at a place has this number in the table
abbrev pub HasOp : Image → (at op : ℕ) → Type 0
HasOp image at op = IsSomeAnd (slice_get image.code at) (λ i. i.op ≡ op)

abbrev pub IsJump : Image → (at : ℕ) → Type 0
IsJump image at = HasOp image at 20

abbrev pub IsReturn : Image → (at : ℕ) → Type 0
IsReturn image at = HasOp image at 24

abbrev pub IsReadMaster : Image → (at : ℕ) → Type 0
IsReadMaster image at = HasOp image at 29

abbrev pub IsPrint : Image → (at : ℕ) → Type 0
IsPrint image at = HasOp image at 43

abbrev pub IsSpawn : Image → (at : ℕ) → Type 0
IsSpawn image at = HasOp image at 44

abbrev pub IsJoin : Image → (at : ℕ) → Type 0
IsJoin image at = HasOp image at 45

-- the instruction jumps there, always or by a test
abbrev pub Jumps : Image → (at to : ℕ) → Type 0
Jumps image at to = IsSomeAnd (slice_get image.code at) (λ i. ((i.op ≡ 20) ⊎ (i.op ≡ 21) ⊎ (i.op ≡ 22)) × (i.imm ≡ to))

-- a spawn and its join, in one function and with neither between them
pub record IsBlock (image : Image) (spawn join : ℕ) : Type 0 where
  pub spawns : IsSpawn image spawn
  pub joins : IsJoin image join
  pub order : spawn < join
  pub function : IsSameFunction image spawn join
  pub between : (at : ℕ) → spawn < at → at < join → ¬ (IsSpawn image at ⊎ IsJoin image at)

-- behind the spawn, up to the join
abbrev pub IsInside : (spawn join at : ℕ) → Type 0
IsInside spawn join at = (spawn < at) × (at ≤ join)

abbrev pub IsInBlock : Image → (at : ℕ) → Type 0
IsInBlock image at = (spawn : ℕ) × (join : ℕ) × IsBlock image spawn join × IsInside spawn join at

-- the function may be called in blocks
abbrev pub IsInner : Image → (function : ℕ) → Type 0
IsInner image function = IsSomeAnd (slice_get image.functions function) (λ entry. entry.inner ≡ 1)

abbrev pub IsInInner : Image → (at : ℕ) → Type 0
IsInInner image at = (function : ℕ) × IsIn image function at × IsInner image function

pub record HasRegions (image : Image) : Type 0 where
  pub starts : HasStarts image
  pub inner : All (λ f. f.inner ≤ 1) image.functions
  -- a function ends with a jump or a return
  pub ends : (function : ℕ) → function < length image.functions → IsJump image (end_of image function - 1) ⊎ IsReturn image (end_of image function - 1)
  pub spawn_joins : (spawn : ℕ) → IsSpawn image spawn → (join : ℕ) × IsBlock image spawn join
  pub join_spawned : (join : ℕ) → IsJoin image join → (spawn : ℕ) × IsBlock image spawn join
  -- a jump leads into a block exactly from inside it
  pub jumps : (spawn join at to : ℕ) → IsBlock image spawn join → Jumps image at to → IsInside spawn join at ↔ IsInside spawn join to
  -- no return, spawn or print stands in a block
  pub in_block : (at : ℕ) → IsInBlock image at → ¬ (IsReturn image at ⊎ IsSpawn image at ⊎ IsPrint image at)
  -- the master's slots are read only in a block
  pub master_slots : (at : ℕ) → IsReadMaster image at → IsInBlock image at
  -- no spawn or print stands in an inner function
  pub in_inner : (at : ℕ) → IsInInner image at → ¬ (IsSpawn image at ⊎ IsPrint image at)
  -- what a block or an inner function calls is an inner function
  pub calls : (at function : ℕ) → IsInBlock image at ⊎ IsInInner image at → operation_at image at ≡ Some (Call function) → IsInner image function
