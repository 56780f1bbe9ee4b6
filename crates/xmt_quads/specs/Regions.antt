-- How blocks and jumps nest in the functions of a quad program. A block reaches from behind its spawn to its join.
use Rattle.std.specs.Prelude.{◌≡◌, ◌⊎◌, ◌↔◌, ℕ, ◌+◌, ◌<◌, ◌≤◌, true, List, length, Some, slice_get, IsSomeAnd}
use Rattle.xmt_quads.specs.declared.code.Operand.{Operand}
use Rattle.xmt_quads.specs.declared.code.Quad.{Quad}
use Rattle.xmt_quads.specs.declared.code.Quad.TheVariants as quad
use Rattle.xmt_quads.specs.declared.code.QuadFunction.{QuadFunction}
use Rattle.xmt_quads.specs.declared.code.QuadProgram.{QuadProgram}

-- in these quads
module _ (quads : List Quad) where
  abbrev pub IsSpawn : (at : ℕ) → Type 0
  IsSpawn at = (low high : Operand) × (slice_get quads at ≡ Some (quad.Spawn low high))

  abbrev pub IsJoin : (at : ℕ) → Type 0
  IsJoin at = slice_get quads at ≡ Some quad.Join

  abbrev pub IsReturn : (at : ℕ) → Type 0
  IsReturn at = (o : Operand) × (slice_get quads at ≡ Some (quad.Return o))

  abbrev pub IsPrint : (at : ℕ) → Type 0
  IsPrint at = (text : ℕ) × (slice_get quads at ≡ Some (quad.Print text))

  -- it jumps there, always or by a test
  abbrev pub Jumps : (at to : ℕ) → Type 0
  Jumps at to =
      (slice_get quads at ≡ Some (quad.Jump to)) ⊎
      (((o : Operand) × (slice_get quads at ≡ Some (quad.IfZero o to))) ⊎ ((o : Operand) × (slice_get quads at ≡ Some (quad.IfNot o to))))

  -- a spawn and its join, with neither between them
  pub record IsBlock (spawn join : ℕ) : Type 0 where
    pub spawns : IsSpawn spawn
    pub joins : IsJoin join
    pub order : spawn < join
    pub between : (at : ℕ) → spawn < at → at < join → ¬ (IsSpawn at ⊎ IsJoin at)

  -- behind the spawn, up to the join
  abbrev pub IsInside : (spawn join at : ℕ) → Type 0
  IsInside spawn join at = (spawn < at) × (at ≤ join)

  abbrev pub IsInBlock : (at : ℕ) → Type 0
  IsInBlock at = (spawn join : ℕ) × IsBlock spawn join × IsInside spawn join at

-- the function may be called in blocks
abbrev pub IsInner : QuadProgram → (function : ℕ) → Type 0
IsInner program function = IsSomeAnd (slice_get program.functions function) (λ f. f.inner ≡ true)

pub record HasRegions (program : QuadProgram) (f : QuadFunction) : Type 0 where
  -- a function ends with a jump or a return
  pub ends : (last : ℕ) × (last + 1 ≡ length f.quads) × (((to : ℕ) × (slice_get f.quads last ≡ Some (quad.Jump to))) ⊎ IsReturn f.quads last)
  pub spawn_joins : (spawn : ℕ) → IsSpawn f.quads spawn → (join : ℕ) × IsBlock f.quads spawn join
  pub join_spawned : (join : ℕ) → IsJoin f.quads join → (spawn : ℕ) × IsBlock f.quads spawn join
  -- a jump leads into a block exactly from inside it
  pub jumps : (spawn join at to : ℕ) → IsBlock f.quads spawn join → Jumps f.quads at to → IsInside f.quads spawn join at ↔ IsInside f.quads spawn join to
  -- no return, spawn or print stands in a block
  pub in_block : (at : ℕ) → IsInBlock f.quads at → ¬ (IsReturn f.quads at ⊎ IsSpawn f.quads at ⊎ IsPrint f.quads at)
  -- no spawn or print stands in a function that blocks may call
  pub in_inner : f.inner ≡ true → (at : ℕ) → ¬ (IsSpawn f.quads at ⊎ IsPrint f.quads at)
  -- and what a block or such a function calls is one
  pub calls : (at function : ℕ) → (f.inner ≡ true) ⊎ IsInBlock f.quads at → slice_get f.quads at ≡ Some (quad.Call function) → IsInner program function
