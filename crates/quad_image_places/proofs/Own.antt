-- Which virtual registers live in a thread's own frame at a position, and which positions stand in a block.
use Rattle.std.proofs.Common.{◌≡◌, refl, sym, ◌∙◌, ap, subst, arith, ℕ, suc, zero, ◌+◌, ◌-◌, ◌<◌, ◌≤◌, List, [], ◌∷◌, length, drop, Some, true, false, inl, inr}
use Rattle.std.specs.Prelude.{◌⊎◌, ◌||◌, Bool, nat_eq, nat_le, slice_get}
use Rattle.std.proofs.lemmas.Bool.Decides.{eqb_tells, leb_tells}
use Rattle.xmt_quads.specs.declared.code.Quad.{Quad}
use Rattle.xmt_quads.specs.declared.code.Quad.TheVariants as quad
use Rattle.xmt_quads.specs.Live.{writes}
use Rattle.xmt_quads.specs.Program.{quads_to_join, behind_join}
use Rattle.xmt_quads.specs.Regions.{IsSpawn, IsJoin, IsBlock, IsInside, IsInBlock}
use Rattle.quad_images.specs.Image.{written_in, all_own, own_behind}

-- ---- elements of lists

pub some_is : {X : Type 0} (x y : X) → Some x ≡ Some y → x ≡ y
some_is x y e = cc

pub element : {X : Type 0} (xs : List X) (at : ℕ) → at < length xs → (x : X) × (slice_get xs at ≡ Some x)
element [] at below = absurd (omega (arith, below))
element (x ∷ xs) zero below = (x, refl)
element (x ∷ xs) (suc at) below = element xs at (omega (arith, below))

pub element_inside : {X : Type 0} (xs : List X) (at : ℕ) (x : X) → slice_get xs at ≡ Some x → at < length xs
element_inside [] at x e = cc
element_inside (y ∷ xs) zero x e = omega arith
element_inside (y ∷ xs) (suc at) x e = let less = element_inside xs at x e in omega (arith, less)

pub element_of_rest : {X : Type 0} (xs : List X) (n k : ℕ) → slice_get (drop n xs) k ≡ slice_get xs (n + k)
element_of_rest xs zero k = ap (slice_get xs) (omega arith)
element_of_rest [] (suc n) k = refl
element_of_rest (x ∷ xs) (suc n) k = let e : suc n + k ≡ suc (n + k) = omega arith in element_of_rest xs n k ∙ ap (slice_get (x ∷ xs)) (sym e)

-- ---- the registers of the thread's own frame

-- those at a position, where these are its own at the first one
abbrev pub own_at : (own : ℕ → Bool) → List Quad → (position : ℕ) → ℕ → Bool
own_at own quads zero = own
own_at own [] (suc position) = own
own_at own (q ∷ quads) (suc position) = own_at (own_behind own q quads) quads position

pub own_next : (own : ℕ → Bool) (quads : List Quad) (at : ℕ) (q : Quad) → slice_get quads at ≡ Some q → own_at own quads (suc at) ≡ own_behind (own_at own quads at) q (drop (suc at) quads)
own_next own [] at q here = cc
own_next own (p ∷ quads) zero q here = ap (λ q. own_behind own q quads) (some_is p q here)
own_next own (p ∷ quads) (suc at) q here = own_next (own_behind own p quads) quads at q here

-- neither a spawn nor a join
abbrev pub IsPlain : Quad → Type 0
IsPlain (quad.Spawn low high) = ⊥
IsPlain quad.Join = ⊥
IsPlain q = Unit {0}

pub own_plain : (own : ℕ → Bool) (q : Quad) (behind : List Quad) → IsPlain q → own_behind own q behind ≡ own
own_plain own (quad.Spawn low high) behind plain = absurd plain
own_plain own quad.Join behind plain = absurd plain
own_plain own _ behind plain = refl

-- ---- positions in blocks

module _ (quads : List Quad) where
  pub plain_between : (at : ℕ) (q : Quad) → slice_get quads at ≡ Some q → ¬ (IsSpawn quads at ⊎ IsJoin quads at) → IsPlain q
  plain_between at (quad.Spawn low high) here bars = absurd (bars (inl (low, high, here)))
  plain_between at quad.Join here bars = absurd (bars (inr here))
  plain_between at _ here bars = tt

  pub plain_no_spawn : (at : ℕ) (q : Quad) → slice_get quads at ≡ Some q → IsPlain q → IsSpawn quads at → ⊥
  plain_no_spawn at q here plain spawn = subst IsPlain (some_is q (quad.Spawn spawn.0 spawn.1) (sym here ∙ spawn.2)) plain

  pub plain_no_join : (at : ℕ) (q : Quad) → slice_get quads at ≡ Some q → IsPlain q → IsJoin quads at → ⊥
  plain_no_join at q here plain join = subst IsPlain (some_is q quad.Join (sym here ∙ join)) plain

  -- inside a block those are its own that the block writes
  pub own_inside : (own : ℕ → Bool) (spawn join at : ℕ) → IsBlock quads spawn join → spawn < at → at ≤ join → own_at own quads at ≡ written_in (drop (suc spawn) quads)
  own_inside own spawn join zero block above below = absurd (omega (arith, above))
  own_inside own spawn join (suc at) block above below = by (eqb_tells spawn at) (λ less. own_inside own spawn join at block less (omega (arith, below)))
    where
      here : (q : Quad) × (slice_get quads at ≡ Some q)
      here = let inside = element_inside quads join quad.Join block.joins in element quads at (omega (arith, inside, below))

      by_spawn : spawn ≡ at → own_at own quads (suc at) ≡ written_in (drop (suc spawn) quads)
      by_spawn same =
          let spawns : slice_get quads at ≡ Some (quad.Spawn block.spawns.0 block.spawns.1) = subst (λ at. slice_get quads at ≡ Some (quad.Spawn block.spawns.0 block.spawns.1)) same block.spawns.2 in
          own_next own quads at (quad.Spawn block.spawns.0 block.spawns.1) spawns ∙ ap (λ at. written_in (drop (suc at) quads)) (sym same)

      by_other : spawn < at → own_at own quads at ≡ written_in (drop (suc spawn) quads) → own_at own quads (suc at) ≡ written_in (drop (suc spawn) quads)
      by_other less before =
          let plain : IsPlain here.0 = plain_between at here.0 here.1 (block.between at less (omega (arith, below))) in
          own_next own quads at here.0 here.1 ∙ own_plain (own_at own quads at) here.0 (drop (suc at) quads) plain ∙ before

      by : ((nat_eq spawn at ≡ true) × (spawn ≡ at)) ⊎ ((nat_eq spawn at ≡ false) × (¬ (spawn ≡ at))) → (spawn < at → own_at own quads at ≡ written_in (drop (suc spawn) quads)) → own_at own quads (suc at) ≡ written_in (drop (suc spawn) quads)
      by (inl same) before = by_spawn same.1
      by (inr other) before = let less : spawn < at = omega (arith, above, other.1) in by_other less (before less)

  -- outside all blocks every register is
  pub own_outside : ((spawn : ℕ) → IsSpawn quads spawn → (join : ℕ) × IsBlock quads spawn join) → (at : ℕ) → at < length quads → ¬ (IsInBlock quads at) → own_at all_own quads at ≡ all_own
  own_outside joins zero below outside = refl
  own_outside joins (suc at) below outside = by (element quads at (omega (arith, below))).0 (element quads at (omega (arith, below))).1 (λ less bars. own_outside joins at less bars)
    where
      before : (q : Quad) → slice_get quads at ≡ Some q → IsPlain q → ¬ (IsInBlock quads at)
      before q here plain (spawn, join, block, (above, most)) = by_end (eqb_tells at join)
        where
          by_end : ((nat_eq at join ≡ true) × (at ≡ join)) ⊎ ((nat_eq at join ≡ false) × (¬ (at ≡ join))) → ⊥
          by_end (inl same) = plain_no_join at q here plain (subst (IsJoin quads) (sym same.1) block.joins)
          by_end (inr other) = outside (spawn, join, block, (omega (arith, above), omega (arith, most, other.1)))

      by_plain : (q : Quad) → slice_get quads at ≡ Some q → IsPlain q → (at < length quads → ¬ (IsInBlock quads at) → own_at all_own quads at ≡ all_own) → own_at all_own quads (suc at) ≡ all_own
      by_plain q here plain less = own_next all_own quads at q here ∙ own_plain (own_at all_own quads at) q (drop (suc at) quads) plain ∙ less (omega (arith, below)) (before q here plain)

      by : (q : Quad) → slice_get quads at ≡ Some q → (at < length quads → ¬ (IsInBlock quads at) → own_at all_own quads at ≡ all_own) → own_at all_own quads (suc at) ≡ all_own
      by (quad.Spawn low high) here less = let block = joins at (low, high, here) in absurd (outside (at, block.0, block.1, (omega arith, let order = block.1.order in omega (arith, order))))
      by quad.Join here less = own_next all_own quads at quad.Join here
      by q here less = by_plain q here tt less

  -- ---- going on

  pub outside_next : (at : ℕ) (q : Quad) → slice_get quads at ≡ Some q → IsPlain q → ¬ (IsInBlock quads at) → ¬ (IsInBlock quads (at + 1))
  outside_next at q here plain outside (spawn, join, block, (above, most)) = by (eqb_tells spawn at)
    where
      by : ((nat_eq spawn at ≡ true) × (spawn ≡ at)) ⊎ ((nat_eq spawn at ≡ false) × (¬ (spawn ≡ at))) → ⊥
      by (inl same) = plain_no_spawn at q here plain (subst (IsSpawn quads) same.1 block.spawns)
      by (inr other) = outside (spawn, join, block, (omega (arith, above, other.1), omega (arith, most)))

  pub inside_next : (spawn join at : ℕ) (q : Quad) → slice_get quads at ≡ Some q → IsPlain q → IsBlock quads spawn join → IsInside quads spawn join at → IsInside quads spawn join (at + 1)
  inside_next spawn join at q here plain block inside = by (eqb_tells at join)
    where
      by : ((nat_eq at join ≡ true) × (at ≡ join)) ⊎ ((nat_eq at join ≡ false) × (¬ (at ≡ join))) → IsInside quads spawn join (at + 1)
      by (inl same) = absurd (plain_no_join at q here plain (subst (IsJoin quads) (sym same.1) block.joins))
      by (inr other) = let a = inside.0 in let b = inside.1 in (omega (arith, a), omega (arith, b, other.1))

  -- behind a block is outside
  pub outside_behind : (spawn join : ℕ) → IsBlock quads spawn join → ¬ (IsInBlock quads (join + 1))
  outside_behind spawn join block (first, last, other, (above, most)) = by (leb_tells first spawn)
    where
      by_first : first < join → ⊥
      by_first less = other.between join less (omega (arith, most)) (inr block.joins)

      by_join : ((nat_eq first join ≡ true) × (first ≡ join)) ⊎ ((nat_eq first join ≡ false) × (¬ (first ≡ join))) → ⊥
      by_join (inl same) = never block.joins (subst (IsSpawn quads) same.1 other.spawns)
        where
          never : IsJoin quads join → IsSpawn quads join → ⊥
          never is spawn = let bars : quad.Join ≡ quad.Spawn spawn.0 spawn.1 = some_is quad.Join (quad.Spawn spawn.0 spawn.1) (sym is ∙ spawn.2) in cc
      by_join (inr apart) = by_first (omega (arith, above, apart.1))

      by : ((nat_le first spawn ≡ true) × (first ≤ spawn)) ⊎ ((nat_le first spawn ≡ false) × (spawn < first)) → ⊥
      by (inl low) = let order = block.order in by_first (omega (arith, low.1, order))
      by (inr high) = by_join (eqb_tells first join)

  -- ---- what a block writes

  pub written_here : (r k : ℕ) (q : Quad) → slice_get quads k ≡ Some q → writes r q ≡ true → ((j : ℕ) → j ≤ k → slice_get quads j ≡ Some quad.Join → ⊥) → written_in quads r ≡ true
  written_here r k q here writes_it none = by quads k here none
    where
      in_front : (p : Quad) (rest : List Quad) → (p ≡ quad.Join → ⊥) → written_in (p ∷ rest) r ≡ (writes r p || written_in rest r)
      in_front quad.Join rest bars = absurd (bars refl)
      in_front _ rest bars = refl

      or_right : (a b : Bool) → b ≡ true → (a || b) ≡ true
      or_right true b h = refl
      or_right false b h = h

      or_left : (a b : Bool) → a ≡ true → (a || b) ≡ true
      or_left true b h = refl
      or_left false b h = cc

      by : (quads : List Quad) (k : ℕ) → slice_get quads k ≡ Some q → ((j : ℕ) → j ≤ k → slice_get quads j ≡ Some quad.Join → ⊥) → written_in quads r ≡ true
      by [] k here none = cc
      by (p ∷ quads) zero here none =
          let same : p ≡ q = some_is p q here in
          in_front p quads (λ is. none 0 (omega arith) (ap Some is)) ∙ or_left (writes r p) (written_in quads r) (ap (writes r) same ∙ writes_it)
      by (p ∷ quads) (suc k) here none =
          in_front p quads (λ is. none 0 (omega arith) (ap Some is)) ∙ or_right (writes r p) (written_in quads r) (by quads k here (λ j less is. none (suc j) (omega (arith, less)) is))

-- a quad before the next join writes the register
pub record Written (quads : List Quad) (r : ℕ) : Type 0 where
  pub at : ℕ
  pub q : Quad
  pub here : slice_get quads at ≡ Some q
  pub is_written : writes r q ≡ true
  pub none : (j : ℕ) → j ≤ at → slice_get quads j ≡ Some quad.Join → ⊥

pub written_back : (quads : List Quad) (r : ℕ) → written_in quads r ≡ true → Written quads r
written_back [] r h = absurd (let bars : false ≡ true = h in cc)
written_back (q ∷ quads) r h = by q h (λ behind. written_back quads r behind)
  where
    none_first : (p : Quad) (w : Written quads r) → (p ≡ quad.Join → ⊥) → (j : ℕ) → j ≤ suc w.at → slice_get (p ∷ quads) j ≡ Some quad.Join → ⊥
    none_first p w bars zero less is = bars (some_is p quad.Join is)
    none_first p w bars (suc j) less is = w.none j (omega (arith, less)) is

    later : (p : Quad) → (p ≡ quad.Join → ⊥) → Written quads r → Written (p ∷ quads) r
    later p bars w = record { at = suc w.at; q = w.q; here = w.here; is_written = w.is_written; none = none_first p w bars }

    first : (p : Quad) → (p ≡ quad.Join → ⊥) → writes r p ≡ true → Written (p ∷ quads) r
    first p bars is = record { at = 0; q = p; here = refl; is_written = is; none = none_zero }
      where
        none_zero : (j : ℕ) → j ≤ 0 → slice_get (p ∷ quads) j ≡ Some quad.Join → ⊥
        none_zero zero less is = bars (some_is p quad.Join is)
        none_zero (suc j) less is = omega (arith, less)

    choose : (p : Quad) → (p ≡ quad.Join → ⊥) → (b : Bool) → writes r p ≡ b → (b || written_in quads r) ≡ true → (written_in quads r ≡ true → Written quads r) → Written (p ∷ quads) r
    choose p bars true e h behind = first p bars e
    choose p bars false e h behind = later p bars (behind h)

    by : (p : Quad) → written_in (p ∷ quads) r ≡ true → (written_in quads r ≡ true → Written quads r) → Written (p ∷ quads) r
    by quad.Join h behind = absurd (let bars : false ≡ true = h in cc)
    by (quad.Copy a b) h behind = choose (quad.Copy a b) (λ e. cc) (writes r (quad.Copy a b)) refl h behind
    by (quad.Unary a b c) h behind = choose (quad.Unary a b c) (λ e. cc) (writes r (quad.Unary a b c)) refl h behind
    by (quad.Binary a b c d) h behind = choose (quad.Binary a b c d) (λ e. cc) (writes r (quad.Binary a b c d)) refl h behind
    by (quad.Dollar a) h behind = choose (quad.Dollar a) (λ e. cc) (writes r (quad.Dollar a)) refl h behind
    by (quad.Test a b) h behind = choose (quad.Test a b) (λ e. cc) (writes r (quad.Test a b)) refl h behind
    by (quad.Load a b) h behind = choose (quad.Load a b) (λ e. cc) (writes r (quad.Load a b)) refl h behind
    by (quad.Store a b) h behind = choose (quad.Store a b) (λ e. cc) (writes r (quad.Store a b)) refl h behind
    by (quad.Add a b c) h behind = choose (quad.Add a b c) (λ e. cc) (writes r (quad.Add a b c)) refl h behind
    by (quad.Jump a) h behind = choose (quad.Jump a) (λ e. cc) (writes r (quad.Jump a)) refl h behind
    by (quad.IfZero a b) h behind = choose (quad.IfZero a b) (λ e. cc) (writes r (quad.IfZero a b)) refl h behind
    by (quad.IfNot a b) h behind = choose (quad.IfNot a b) (λ e. cc) (writes r (quad.IfNot a b)) refl h behind
    by (quad.Argument a b) h behind = choose (quad.Argument a b) (λ e. cc) (writes r (quad.Argument a b)) refl h behind
    by (quad.Parameter a b) h behind = choose (quad.Parameter a b) (λ e. cc) (writes r (quad.Parameter a b)) refl h behind
    by (quad.Call a) h behind = choose (quad.Call a) (λ e. cc) (writes r (quad.Call a)) refl h behind
    by (quad.Result a) h behind = choose (quad.Result a) (λ e. cc) (writes r (quad.Result a)) refl h behind
    by (quad.Return a) h behind = choose (quad.Return a) (λ e. cc) (writes r (quad.Return a)) refl h behind
    by (quad.Print a) h behind = choose (quad.Print a) (λ e. cc) (writes r (quad.Print a)) refl h behind
    by (quad.Spawn a b) h behind = choose (quad.Spawn a b) (λ e. cc) (writes r (quad.Spawn a b)) refl h behind

-- ---- the position behind a join

pub to_join : (quads : List Quad) (k : ℕ) → slice_get quads k ≡ Some quad.Join → ((j : ℕ) → j < k → slice_get quads j ≡ Some quad.Join → ⊥) → quads_to_join quads ≡ k
to_join [] k here none = cc
to_join (q ∷ quads) zero here none = ap (λ q. quads_to_join (q ∷ quads)) (some_is q quad.Join here)
to_join (q ∷ quads) (suc k) here none = later q (λ is. none 0 (omega arith) (ap Some is)) ∙ ap suc (to_join quads k here (λ j less is. none (suc j) (omega (arith, less)) is))
  where
    later : (q : Quad) → (q ≡ quad.Join → ⊥) → quads_to_join (q ∷ quads) ≡ suc (quads_to_join quads)
    later quad.Join bars = absurd (bars refl)
    later _ bars = refl

pub behind_join_is : (quads : List Quad) (spawn join : ℕ) → IsBlock quads spawn join → behind_join quads spawn ≡ join + 1
behind_join_is quads spawn join block =
    let order = block.order in
    let gap = join - spawn in
    let whole : spawn + gap ≡ join = omega (arith, order) in
    let here : slice_get (drop spawn quads) gap ≡ Some quad.Join = element_of_rest quads spawn gap ∙ ap (slice_get quads) whole ∙ block.joins in
    let far : quads_to_join (drop spawn quads) ≡ gap = to_join (drop spawn quads) gap here (λ j less is. none j less (sym (element_of_rest quads spawn j) ∙ is)) in
    ap (λ n. spawn + n + 1) far ∙ ap (λ n. n + 1) whole
  where
    never : IsSpawn quads spawn → slice_get quads spawn ≡ Some quad.Join → ⊥
    never spawns is = let bars : quad.Join ≡ quad.Spawn spawns.0 spawns.1 = some_is quad.Join (quad.Spawn spawns.0 spawns.1) (sym is ∙ spawns.2) in cc

    none : (j : ℕ) → j < join - spawn → slice_get quads (spawn + j) ≡ Some quad.Join → ⊥
    none zero less is = let e : spawn + 0 ≡ spawn = omega arith in never block.spawns (ap (slice_get quads) (sym e) ∙ is)
    none (suc j) less is = block.between (spawn + suc j) (omega arith) (omega (arith, less)) (inr is)
