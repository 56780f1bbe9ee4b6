-- Where control units and the master stand: a control unit in its block or in functions that may be called there.
use Rattle.std.proofs.Common.{◌≡◌, ◌≢◌, refl, subst, ℕ, suc, zero, ◌+◌, ◌<◌, ◌≤◌, length, ◌⊎◌, inl, inr, arith}
use Rattle.std.specs.declared.option.Option.TheVariants.{Some}
use Rattle.xmt_isa.specs.declared.image.Image.{Image}
use Rattle.xmt_isa.specs.declared.operation.Operation.TheVariants.{Call}
use Rattle.xmt_isa.specs.declared.unit.Unit.{Unit}
use Rattle.xmt_isa.specs.declared.unit.Start.{Start}
use Rattle.xmt_isa.specs.Image.{operation_at, IsIn}
use Rattle.xmt_isa.specs.Regions.{IsSpawn, IsJoin, IsReturn, IsPrint, IsInBlock, IsInInner}
use Rattle.xmt_isa.specs.Valid.{IsValid}
use Rattle.xmt_isa.specs.Fits.{IsBehindCall, IsInBlockOf, IsPlaced}
use Rattle.image_loader.proofs.Nesting.{valid_nests}
use Rattle.machine_places.proofs.Places.{Outside, sound_at}
use Rattle.unit_steps.proofs.Positions.{line, line-top}
use Rattle.unit_steps.proofs.Functions.{one_function}
use Rattle.unit_steps.proofs.Placed.{Places, placed_places}

module _ (image : Image) (valid : IsValid image) where
  -- the instruction of a call in an inner function stands in it as well
  call_inner : (call f : ℕ) → call < length image.code → operation_at image call ≡ Some (Call f) → IsInInner image (call + 1) → IsInInner image call
  call_inner call f inside is inner =
      let holds = (valid_nests image valid).holds call inside in
      let there : IsIn image holds.0 (call + 1) = (sound_at image valid call (Call f) is).1.same_function (call + 1) refl holds.0 holds.1 in
      let same : holds.0 ≡ inner.0 = one_function image valid.regions.starts holds.0 inner.0 (call + 1) there inner.1 in
      (inner.0, subst (λ g. IsIn image g call) same holds.1, inner.2)

  -- what is called from there is an inner function
  behind_inner : (start : Start) (back inside : ℕ) → back < length image.code → IsBehindCall image back inside → IsInBlockOf image start back ⊎ IsInInner image back → IsInInner image inside
  behind_inner start back inside within b where_from =
      let behind : back ≡ b.call + 1 = b.behind in
      let around : IsInBlock image b.call ⊎ IsInInner image b.call = elim where_from [
        | inl block ↦ inl (block.spawn, block.join, block.is_block, ((sound_at image valid b.call (Call b.function) b.calls).1.same_block (b.call + 1) refl block.spawn block.join block.is_block).1 (subst (λ n. (block.spawn < n) × (n ≤ block.join)) behind block.inside))
        | inr inner ↦ inr (call_inner b.call b.function (omega (arith, within, behind)) b.calls (subst (IsInInner image) behind inner))
      ] in
      (b.function, b.within, valid.regions.calls b.call b.function around b.calls)

  module _ (start : Start) (number : ℕ) (other : number ≢ 0) (place : ℕ → ℕ) where
    -- each position of a control unit
    each_place : (depth : ℕ) → Places image start number depth place → (i : ℕ) → i ≤ depth → ((i ≡ 0) × IsInBlockOf image start (place i)) ⊎ ((0 < i) × IsInInner image (place i))
    each_place depth p zero less = inl (refl, p.virtual other)
    each_place depth p (suc i) less =
        inr (
          omega arith,
          behind_inner start (place i) (place (suc i)) (p.inside i (omega (arith, less))) (p.returns i (omega (arith, less)))
              (elim (each_place depth p i (omega (arith, less))) [ inl h ↦ inl h.1 | inr h ↦ inr h.1 ]),
        )

  module _ (start : Start) (u : Unit) (room : u.depth ≤ length u.back) (placed : IsPlaced image start u) where
    top : line u.depth u.back u.at u.depth ≡ u.at
    top = line-top u.depth u.back u.at room

    pub at_inside : u.at < length image.code
    at_inside = subst (λ n. n < length image.code) top ((placed_places image start u room placed).inside u.depth (omega arith))

    -- the next instruction of a control unit
    pub at_virtual : u.number ≢ 0 → ((u.depth ≡ 0) × IsInBlock image u.at) ⊎ ((0 < u.depth) × IsInInner image u.at)
    at_virtual other = elim (each_place start u.number other (line u.depth u.back u.at) u.depth (placed_places image start u room placed) u.depth (omega arith)) [
      | inl h ↦ inl (h.0, subst (IsInBlock image) top (h.1.spawn, h.1.join, h.1.is_block, h.1.inside))
      | inr h ↦ inr (h.0, subst (IsInInner image) top h.1)
    ]

    -- a control unit neither spawns nor prints, nor returns from its block
    pub spawns_not : u.number ≢ 0 → IsSpawn image u.at → ⊥
    spawns_not other has = elim (at_virtual other) [ inl h ↦ valid.regions.in_block u.at h.1 (inr (inl has)) | inr h ↦ valid.regions.in_inner u.at h.1 (inl has) ]

    pub prints_not : u.number ≢ 0 → IsPrint image u.at → ⊥
    prints_not other has = elim (at_virtual other) [ inl h ↦ valid.regions.in_block u.at h.1 (inr (inr has)) | inr h ↦ valid.regions.in_inner u.at h.1 (inr has) ]

    pub returns_not : u.number ≢ 0 → IsReturn image u.at → u.depth ≡ 0 → ⊥
    returns_not other has none = elim (at_virtual other) [ inl h ↦ valid.regions.in_block u.at h.1 (inl has) | inr h ↦ (let later : 0 < u.depth = h.0 in omega (arith, none, later)) ]

    -- the master stands in no block, so at no join
    pub at_serial : u.number ≡ 0 → Outside image u.at
    at_serial is = subst (Outside image) top ((placed_places image start u room placed).outside is u.depth (omega arith))

    pub joins_not : u.number ≡ 0 → IsJoin image u.at → ⊥
    joins_not is has =
        let block = valid.regions.join_spawned u.at has in
        let order : block.0 < u.at = block.1.order in
        at_serial is (block.0, u.at, block.1, (order, omega arith))
