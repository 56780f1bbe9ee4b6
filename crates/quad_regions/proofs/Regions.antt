-- Where each quad of a function fits the block around its position, and the function ends with a return outside of blocks, blocks and jumps nest.
use Rattle.std.proofs.Common.{◌≡◌, sym, ◌∙◌, ap, subst, arith, ℕ, zero, suc, ◌+◌, ◌-◌, ◌<◌, ◌≤◌, Bool, true, false, length, Option, Some, None, inl, inr}
use Rattle.std.specs.Prelude.{◌⊎◌, ◌↔◌, slice_get}
use Rattle.std.proofs.lemmas.Option.{slice_get_within}
use Rattle.xmt_quads.specs.declared.code.Operand.{Operand}
use Rattle.xmt_quads.specs.declared.code.Quad.{Quad}
use Rattle.xmt_quads.specs.declared.code.Quad.TheVariants as quad
use Rattle.xmt_quads.specs.declared.code.QuadFunction.{QuadFunction}
use Rattle.xmt_quads.specs.declared.code.QuadProgram.{QuadProgram}
use Rattle.xmt_quads.specs.Regions.{IsSpawn, IsJoin, IsReturn, IsPrint, Jumps, IsBlock, IsInside, IsInBlock, IsInner, HasRegions}
use Rattle.quad_code.specs.Known.{Serial, Inner, InBlock}
use Rattle.quad_regions.proofs.Keeps.{Setting, region_of, Fits, MayBeCalled}
use Rattle.quad_regions.proofs.Blocks.{around_in, Role, spawns, joins, stays, role, behind_spawn, reaches, inside_is, is_inside}

-- what is known of a function's blocks: each quad fits, and a return outside of blocks stands last
abbrev pub setting : QuadProgram → QuadFunction → Setting
setting program f = record { inner = f.inner; Callable = IsInner program; around = around_in f.quads }

pub record IsNested (program : QuadProgram) (f : QuadFunction) : Type 0 where
  pub fits : (at : ℕ) (q : Quad) → slice_get f.quads at ≡ Some q → Fits (setting program f) (around_in f.quads at) q
  pub last : ℕ
  pub is_last : last + 1 ≡ length f.quads
  pub value : Operand
  pub returns : slice_get f.quads last ≡ Some (quad.Return value)
  pub outside : around_in f.quads last ≡ None

not_serial : InBlock ≡ Serial → ⊥
not_serial e = cc

inner_is_not_serial : Inner ≡ Serial → ⊥
inner_is_not_serial e = cc

module _ (program : QuadProgram) (f : QuadFunction) (n : IsNested program f) where
  -- what fits in a block
  fits_inside : (at spawn : ℕ) (q : Quad) → slice_get f.quads at ≡ Some q → around_in f.quads at ≡ Some spawn → Fits (setting program f) (Some spawn) q
  fits_inside at spawn q here e = subst (λ s. Fits (setting program f) s q) e (n.fits at q here)

  -- ---- spawns and joins

  -- the join of the block around a position, where so many positions are left
  pub record Joined (spawn at : ℕ) : Type 0 where
    pub join : ℕ
    pub from : at ≤ join
    pub joins : IsJoin f.quads join
    pub around : around_in f.quads join ≡ Some spawn

  earlier : (spawn at : ℕ) → Joined spawn (suc at) → Joined spawn at
  earlier spawn at j = let from = j.from in record { join = j.join; from = omega arith; joins = j.joins; around = j.around }

  join_behind : (left at spawn : ℕ) → at + left ≡ n.last → around_in f.quads at ≡ Some spawn → Joined spawn at
  join_behind zero at spawn count e =
      let same : at ≡ n.last = omega arith in
      let f : None ≡ Some spawn = sym n.outside ∙ ap (around_in f.quads) (sym same) ∙ e in cc
  join_behind (suc left) at spawn count e = go (role f.quads at) (λ rest. earlier spawn at (join_behind left (suc at) spawn (omega arith) rest))
    where
      go : Role f.quads at → (around_in f.quads (suc at) ≡ Some spawn → Joined spawn at) → Joined spawn at
      go (spawns low high here) rest = absurd (not_serial (fits_inside at spawn (quad.Spawn low high) here e))
      go (joins here) rest = record { join = at; from = omega arith; joins = here; around = e }
      go (stays other same) rest = rest (same ∙ e)

  block_of : (spawn join : ℕ) → IsJoin f.quads join → around_in f.quads join ≡ Some spawn → IsBlock f.quads spawn join
  block_of spawn join here e = let r = reaches f.quads join spawn e in record { spawns = r.spawned; joins = here; order = r.order; between = r.quiet }

  within : (at : ℕ) (q : Quad) → slice_get f.quads at ≡ Some q → at < length f.quads
  within at q here = slice_get_within f.quads at q here

  spawn_joins : (spawn : ℕ) → IsSpawn f.quads spawn → (join : ℕ) × IsBlock f.quads spawn join
  spawn_joins spawn here =
      let below = within spawn (quad.Spawn here.0 here.1) here.2 in
      let last_is = n.is_last in
      let other : spawn ≡ n.last → ⊥ = λ same. let e : Some (quad.Spawn here.0 here.1) ≡ Some (quad.Return n.value) = sym here.2 ∙ ap (slice_get f.quads) same ∙ n.returns in cc in
      let left : (k : ℕ) × (suc spawn + k ≡ n.last) = rest spawn n.last (omega arith) other in
      let j = join_behind left.0 (suc spawn) spawn left.1 (behind_spawn f.quads spawn here.0 here.1 here.2) in
      (j.join, block_of spawn j.join j.joins j.around)
    where
      rest : (a b : ℕ) → a < suc b → (a ≡ b → ⊥) → (k : ℕ) × (suc a + k ≡ b)
      rest a b below other = (b - suc a, omega arith)

  join_spawned : (join : ℕ) → IsJoin f.quads join → (spawn : ℕ) × IsBlock f.quads spawn join
  join_spawned join here = let s = n.fits join quad.Join here in (s.0, block_of s.0 join here s.1)

  -- ---- jumps

  same_block : (at to : ℕ) → Jumps f.quads at to → around_in f.quads to ≡ around_in f.quads at
  same_block at to (inl here) = n.fits at (quad.Jump to) here
  same_block at to (inr (inl (o, here))) = n.fits at (quad.IfZero o to) here
  same_block at to (inr (inr (o, here))) = n.fits at (quad.IfNot o to) here

  jumps_nest : (spawn join at to : ℕ) → IsBlock f.quads spawn join → Jumps f.quads at to → IsInside f.quads spawn join at ↔ IsInside f.quads spawn join to
  jumps_nest spawn join at to block jump =
      let same = same_block at to jump in
      (λ inside. is_inside f.quads spawn join to block (same ∙ inside_is f.quads spawn join at block inside), λ inside. is_inside f.quads spawn join at block (sym same ∙ inside_is f.quads spawn join to block inside))

  -- ---- what stands in blocks, and in functions that blocks may call

  none_inside : (at spawn : ℕ) → around_in f.quads at ≡ Some spawn → ¬ (IsReturn f.quads at ⊎ IsSpawn f.quads at ⊎ IsPrint f.quads at)
  none_inside at spawn e (inl (o, here)) = fits_inside at spawn (quad.Return o) here e
  none_inside at spawn e (inr (inl (low, high, here))) = not_serial (fits_inside at spawn (quad.Spawn low high) here e)
  none_inside at spawn e (inr (inr (text, here))) = not_serial (fits_inside at spawn (quad.Print text) here e)

  in_block : (at : ℕ) → IsInBlock f.quads at → ¬ (IsReturn f.quads at ⊎ IsSpawn f.quads at ⊎ IsPrint f.quads at)
  in_block at (spawn, join, block, inside) = none_inside at spawn (inside_is f.quads spawn join at block inside)

  none_inner : (inner : Bool) (s : Option ℕ) → inner ≡ true → region_of inner s ≡ Serial → ⊥
  none_inner true None is e = inner_is_not_serial e
  none_inner false None is e = cc
  none_inner inner (Some spawn) is e = not_serial e

  in_inner : f.inner ≡ true → (at : ℕ) → ¬ (IsSpawn f.quads at ⊎ IsPrint f.quads at)
  in_inner is at (inl (low, high, here)) = none_inner f.inner (around_in f.quads at) is (n.fits at (quad.Spawn low high) here)
  in_inner is at (inr (text, here)) = none_inner f.inner (around_in f.quads at) is (n.fits at (quad.Print text) here)

  called_inner : (inner : Bool) (s : Option ℕ) (function : ℕ) → inner ≡ true → MayBeCalled (IsInner program) (region_of inner s) function → IsInner program function
  called_inner true None function is h = h
  called_inner false None function is h = absurd (let e : false ≡ true = is in differ e)
    where
      differ : false ≡ true → ⊥
      differ e = cc
  called_inner inner (Some spawn) function is h = h

  calls : (at function : ℕ) → (f.inner ≡ true) ⊎ IsInBlock f.quads at → slice_get f.quads at ≡ Some (quad.Call function) → IsInner program function
  calls at function (inl is) here = called_inner f.inner (around_in f.quads at) function is (n.fits at (quad.Call function) here)
  calls at function (inr (spawn, join, block, inside)) here = fits_inside at spawn (quad.Call function) here (inside_is f.quads spawn join at block inside)

  pub has_regions : HasRegions program f
  has_regions =
      record {
        ends = (n.last, n.is_last, inr (n.value, n.returns));
        spawn_joins = spawn_joins;
        join_spawned = join_spawned;
        jumps = jumps_nest;
        in_block = in_block;
        in_inner = in_inner;
        calls = calls;
      }
