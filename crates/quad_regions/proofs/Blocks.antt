-- How blocks nest in the quads of a function, by the block around each position.
use Rattle.std.proofs.Common.{◌≡◌, refl, sym, ◌∙◌, ap, subst, arith, ℕ, zero, suc, ◌<◌, ◌≤◌, List, Option, Some, None, inl, inr}
use Rattle.std.specs.Prelude.{◌⊎◌, slice_get}
use Rattle.xmt_quads.specs.declared.code.Operand.{Operand}
use Rattle.xmt_quads.specs.declared.code.Quad.{Quad}
use Rattle.xmt_quads.specs.declared.code.Quad.TheVariants as quad
use Rattle.xmt_quads.specs.Regions.{IsSpawn, IsJoin, IsBlock, IsInside}
use Rattle.quad_regions.proofs.Keeps.{changed, IsStill, still}

-- ---- the block around each position

-- behind what stands at a position
abbrev pub changed_by : (at : ℕ) → (block : Option ℕ) → Option Quad → Option ℕ
changed_by at s None = s
changed_by at s (Some q) = changed at s q

abbrev pub around_in : List Quad → (at : ℕ) → Option ℕ
around_in quads zero = None
around_in quads (suc at) = changed_by at (around_in quads at) (slice_get quads at)

-- what is at a position: nothing, or a spawn, a join or another quad
pub data Role (quads : List Quad) (at : ℕ) : Type 0 where
  spawns : (low high : Operand) → slice_get quads at ≡ Some (quad.Spawn low high) → Role quads at
  joins : slice_get quads at ≡ Some quad.Join → Role quads at
  stays : ¬ (IsSpawn quads at ⊎ IsJoin quads at) → around_in quads (suc at) ≡ around_in quads at → Role quads at

not_still : (quads : List Quad) (at : ℕ) (q : Quad) → slice_get quads at ≡ Some q → IsStill q → ¬ (IsSpawn quads at ⊎ IsJoin quads at)
not_still quads at q here stands (inl (low, high, spawn)) = let e : q ≡ quad.Spawn low high = cc in subst IsStill e stands
not_still quads at q here stands (inr join) = let e : q ≡ quad.Join = cc in subst IsStill e stands

role_still : (quads : List Quad) (at : ℕ) (q : Quad) → slice_get quads at ≡ Some q → IsStill q → Role quads at
role_still quads at q here stands = stays (not_still quads at q here stands) (ap (changed_by at (around_in quads at)) here ∙ still at (around_in quads at) q stands)

role_of : (quads : List Quad) (at : ℕ) (q : Quad) → slice_get quads at ≡ Some q → Role quads at
role_of quads at (quad.Spawn low high) here = spawns low high here
role_of quads at quad.Join here = joins here
role_of quads at q here = role_still quads at q here tt

pub role : (quads : List Quad) (at : ℕ) → Role quads at
role quads at = go (slice_get quads at) refl
  where
    go : (o : Option Quad) → slice_get quads at ≡ o → Role quads at
    go None e = stays (λ here. elim here [ inl s ↦ cc | inr j ↦ cc ]) (ap (changed_by at (around_in quads at)) e)
    go (Some q) e = role_of quads at q e

-- the last spawn before a position, with no join behind it
pub record Reaches (quads : List Quad) (spawn at : ℕ) : Type 0 where
  pub spawned : IsSpawn quads spawn
  pub order : spawn < at
  pub quiet : (p : ℕ) → spawn < p → p < at → ¬ (IsSpawn quads p ⊎ IsJoin quads p)

module _ (quads : List Quad) where
  pub behind_spawn : (at : ℕ) (low high : Operand) → slice_get quads at ≡ Some (quad.Spawn low high) → around_in quads (suc at) ≡ Some at
  behind_spawn at low high here = ap (changed_by at (around_in quads at)) here

  behind_join : (at : ℕ) → IsJoin quads at → around_in quads (suc at) ≡ None
  behind_join at here = ap (changed_by at (around_in quads at)) here

  same_or_less : (p at : ℕ) → p < suc at → (p ≡ at) ⊎ (p < at)
  same_or_less p at below = grind arith

  further : (spawn at : ℕ) → Reaches quads spawn at → ¬ (IsSpawn quads at ⊎ IsJoin quads at) → Reaches quads spawn (suc at)
  further spawn at r other =
      let order = r.order in
      record {
        spawned = r.spawned;
        order = omega arith;
        quiet = λ p above below. elim (same_or_less p at below) [ inl e ↦ subst (λ n. ¬ (IsSpawn quads n ⊎ IsJoin quads n)) (sym e) other | inr less ↦ r.quiet p above less ];
      }

  pub reaches : (at spawn : ℕ) → around_in quads at ≡ Some spawn → Reaches quads spawn at
  reaches zero spawn e = cc
  reaches (suc at) spawn e = go (role quads at) (reaches at spawn)
    where
      go : Role quads at → (around_in quads at ≡ Some spawn → Reaches quads spawn at) → Reaches quads spawn (suc at)
      go (spawns low high here) before =
          let same : at ≡ spawn = let f : Some at ≡ Some spawn = sym (behind_spawn at low high here) ∙ e in cc in
          subst (λ n. Reaches quads n (suc at)) same (record { spawned = (low, high, here); order = omega arith; quiet = λ p above below. absurd (omega arith) })
      go (joins here) before = let f : None ≡ Some spawn = sym (behind_join at here) ∙ e in cc
      go (stays other same) before = further spawn at (before (sym same ∙ e)) other

  pub around_is : (at spawn : ℕ) → Reaches quads spawn at → around_in quads at ≡ Some spawn
  around_is zero spawn r = let order = r.order in absurd (omega arith)
  around_is (suc at) spawn r = go (same_or_less spawn at r.order) (around_is at spawn)
    where
      go : (spawn ≡ at) ⊎ (spawn < at) → (Reaches quads spawn at → around_in quads at ≡ Some spawn) → around_in quads (suc at) ≡ Some spawn
      go (inl same) before = let s = r.spawned in behind_spawn at s.0 s.1 (ap (slice_get quads) (sym same) ∙ s.2) ∙ ap Some (sym same)
      go (inr less) before =
          let known = before (record { spawned = r.spawned; order = less; quiet = λ p above below. r.quiet p above (omega arith) }) in
          elim (role quads at) [
            | spawns low high here ↦ absurd (r.quiet at less (omega arith) (inl (low, high, here)))
            | joins here ↦ absurd (r.quiet at less (omega arith) (inr here))
            | stays other same ↦ same ∙ known
          ]

  -- inside a block that block stands around
  pub inside_is : (spawn join at : ℕ) → IsBlock quads spawn join → IsInside quads spawn join at → around_in quads at ≡ Some spawn
  inside_is spawn join at block inside =
      let high = inside.1 in
      around_is at spawn (record { spawned = block.spawns; order = inside.0; quiet = λ p above below. block.between p above (omega arith) })

  below_or_behind : (at join : ℕ) → (at ≤ join) ⊎ (join < at)
  below_or_behind at join = grind arith

  -- and only there
  pub is_inside : (spawn join at : ℕ) → IsBlock quads spawn join → around_in quads at ≡ Some spawn → IsInside quads spawn join at
  is_inside spawn join at block e =
      let r = reaches at spawn e in
      (r.order, elim (below_or_behind at join) [ inl below ↦ below | inr behind ↦ absurd (r.quiet join block.order behind (inr block.joins)) ])
