-- The blocks of the image are those of the quads.
use Rattle.std.proofs.Common.{◌≡◌, refl, sym, ◌∙◌, ap, subst, arith, ℕ, suc, ◌+◌, ◌<◌, ◌≤◌, length, Option, Some, None, true, false, inl, inr}
use Rattle.std.specs.Prelude.{◌⊎◌, nat_le, IsSomeAnd, slice_get}
use Rattle.std.proofs.lemmas.Bool.Decides.{leb_tells}
use Rattle.std.proofs.lemmas.List.Sums.{sum_by-take-le}
use Rattle.std.proofs.lemmas.Option.{slice_get_within}
use Rattle.xmt_isa.specs.declared.image.Image.{Image}
use Rattle.xmt_isa.specs.declared.image.Instr.{Instr}
use Rattle.xmt_isa.specs.Image.{IsIn}
use Rattle.xmt_isa.specs.Regions.{HasOp, IsSpawn, IsJoin, IsBlock}
use Rattle.xmt_quads.specs.declared.code.Operand.{Operand}
use Rattle.xmt_quads.specs.declared.code.Quad.{Quad}
use Rattle.xmt_quads.specs.declared.code.Quad.TheVariants as quad
use Rattle.xmt_quads.specs.declared.code.QuadFunction.{QuadFunction}
use Rattle.xmt_quads.specs.declared.code.QuadProgram.{QuadProgram}
use Rattle.xmt_quads.specs.Program.{quads_in, quad_at}
use Rattle.xmt_quads.specs.Regions as quads
use Rattle.quad_images.specs.Instructions.{instr, quad_code, size}
use Rattle.quad_images.specs.Image.{size_of, entries_from}
use Rattle.quad_image_places.proofs.Own.{element, some_is}
use Rattle.quad_image_places.proofs.Quiet.{length_of}
use Rattle.quad_image_places.proofs.Tails.{sizes_of}
use Rattle.quad_image_places.proofs.Laid.{Laid, place, own_in}
use Rattle.quad_image_limits.proofs.Located.{located, instruction_there, count_is, end_is, is_in, place_same, place_behind, place_not_before}
use Rattle.quad_image_limits.proofs.Controls.{is_special, control_of, Kind, kind_of, control, op_of, op_is, Means, means}

some_of : {X : Type 0} (P : X → Type 0) (o : Option X) → IsSomeAnd o P → (x : X) × (o ≡ Some x) × P x
some_of P None h = absurd h
some_of P (Some x) h = (x, refl, h)

pub spawn_quad : (q : Quad) → Means 44 q → (low high : Operand) × (q ≡ quad.Spawn low high)
spawn_quad (quad.Spawn low high) m = (low, high, refl)
spawn_quad _ m = absurd (omega (arith, m))

pub join_quad : (q : Quad) → Means 45 q → q ≡ quad.Join
join_quad quad.Join m = refl
join_quad _ m = absurd (omega (arith, m))

module _ (program : QuadProgram) (slot : ℕ → ℕ → ℕ) (image : Image) (laid : Laid program slot image) (long : length image.code ≡ sizes_of program.functions) (entries : image.functions ≡ entries_from 0 program.functions) where
  -- the quad of a function to which an instruction belongs
  pub record LocatedIn (f at : ℕ) : Type 0 where
    pub position : ℕ
    pub q : Quad
    pub here : quad_at program f position ≡ Some q
    pub offset : ℕ
    pub within : offset < size q
    pub is : at ≡ place program f position + offset

  pub of_function : (at : ℕ) → at < length image.code → (f : ℕ) × LocatedIn f at
  of_function at below =
      let l = located program slot image laid long entries at below in
      (l.f, record { position = l.position; q = l.q; here = l.here; offset = l.offset; within = l.within; is = l.is })

  code_below : (f at : ℕ) → IsIn image f at → at < length image.code
  code_below f at inside =
      let count = count_is program slot image laid long entries in
      let low = inside.0 in
      let last = inside.2 in
      let end = end_is program slot image laid long entries f (omega (arith, low, count)) in
      let most = sum_by-take-le (λ (f : QuadFunction). size_of f.quads) program.functions (suc f) in
      omega (arith, last, end, most, long)

  pub located_in : (f at : ℕ) → IsIn image f at → LocatedIn f at
  located_in f at inside =
      let l = located program slot image laid long entries at (code_below f at inside) in
      subst (λ g. LocatedIn g at) (sym (place_same program slot image laid long entries at l f inside))
      (record { position = l.position; q = l.q; here = l.here; offset = l.offset; within = l.within; is = l.is })

  pub in_function : (f at : ℕ) → LocatedIn f at → IsIn image f at
  in_function f at l = subst (IsIn image f) (sym l.is) (is_in program slot image laid long entries f l.position l.offset l.q l.here l.within)

  -- ---- kinds

  pub kind_in : (f at : ℕ) (l : LocatedIn f at) (i : Instr) → slice_get image.code at ≡ Some i → Kind (slot f) (place program f) (own_in program f l.position) l.q l.offset i
  kind_in f at l i there =
      let code = quad_code (slot f) (place program f) (own_in program f l.position) l.q in
      let size_is = length_of (slot f) (place program f) (own_in program f l.position) l.q in
      let within = l.within in
      let x = element code l.offset (omega (arith, within, size_is)) in
      let stands = instruction_there program slot image laid long entries f l.position l.offset l.q x.0 l.here x.1 in
      let same : x.0 ≡ i = some_is x.0 i (sym stands ∙ ap (slice_get image.code) (sym l.is) ∙ there) in
      kind_of (slot f) (place program f) (own_in program f l.position) l.q l.offset i (x.1 ∙ ap Some same)

  -- what a number tells of the quad
  pub record ControlIn (n f at : ℕ) (l : LocatedIn f at) : Type 0 where
    pub i : Instr
    pub there : slice_get image.code at ≡ Some i
    pub same : i ≡ control_of (slot f) (place program f) (own_in program f l.position) l.q
    pub means : Means n l.q
    pub last : l.offset + 1 ≡ size l.q

  pub control_in : (n : ℕ) → is_special n ≡ true → (n ≡ 29 → ⊥) → (f at : ℕ) (l : LocatedIn f at) → HasOp image at n → ControlIn n f at l
  control_in n special other f at l has =
      let x = some_of (λ (i : Instr). i.op ≡ n) (slice_get image.code at) has in
      let k = kind_in f at l x.0 x.1 in
      let c = control (slot f) (place program f) (own_in program f l.position) n special other l.q l.offset x.0 x.2 k in
      let number : n ≡ op_of l.q = sym x.2 ∙ ap (λ (i : Instr). i.op) c.0 ∙ op_is (slot f) (place program f) (own_in program f l.position) l.q in
      record { i = x.0; there = x.1; same = c.0; means = means n l.q number; last = c.1 }

  pub has_below : (n at : ℕ) → HasOp image at n → at < length image.code
  has_below n at has = let x = some_of (λ (i : Instr). i.op ≡ n) (slice_get image.code at) has in slice_get_within image.code at x.0 x.1

  -- ---- spawns and joins

  pub record SpawnIn (f at : ℕ) : Type 0 where
    pub position : ℕ
    pub low : Operand
    pub high : Operand
    pub here : quad_at program f position ≡ Some (quad.Spawn low high)
    pub is : at ≡ place program f position + 2

  pub spawn_in : (f at : ℕ) (l : LocatedIn f at) → IsSpawn image at → SpawnIn f at
  spawn_in f at l spawn =
      let c = control_in 44 refl (λ e. omega (arith, e)) f at l spawn in
      let q = spawn_quad l.q c.means in
      let sizes : size l.q ≡ 3 = ap size q.2 in
      let last = c.last in
      let is = l.is in
      record { position = l.position; low = q.0; high = q.1; here = l.here ∙ ap Some q.2; is = omega (arith, sizes, last, is) }

  pub record JoinIn (f at : ℕ) : Type 0 where
    pub position : ℕ
    pub here : quad_at program f position ≡ Some quad.Join
    pub is : at ≡ place program f position

  pub join_in : (f at : ℕ) (l : LocatedIn f at) → IsJoin image at → JoinIn f at
  join_in f at l join =
      let c = control_in 45 refl (λ e. omega (arith, e)) f at l join in
      let q = join_quad l.q c.means in
      let sizes : size l.q ≡ 1 = ap size q in
      let last = c.last in
      let is = l.is in
      record { position = l.position; here = l.here ∙ ap Some q; is = omega (arith, sizes, last, is) }

  pub spawn_there : (f position : ℕ) (low high : Operand) → quad_at program f position ≡ Some (quad.Spawn low high) → IsSpawn image (place program f position + 2)
  spawn_there f position low high here =
      subst (λ o. IsSomeAnd o (λ i. i.op ≡ 44)) (sym (instruction_there program slot image laid long entries f position 2 (quad.Spawn low high) (instr 44 3 4 0 0) here refl)) refl

  pub join_there : (f position : ℕ) → quad_at program f position ≡ Some quad.Join → IsJoin image (place program f position)
  join_there f position here =
      let e : place program f position + 0 ≡ place program f position = omega arith in
      subst (λ o. IsSomeAnd o (λ i. i.op ≡ 45)) (sym (ap (slice_get image.code) (sym e) ∙ instruction_there program slot image laid long entries f position 0 quad.Join (instr 45 0 0 0 0) here refl)) refl

  -- ---- blocks

  -- what stands from one quad of a function to another is in the function
  in_between : (f first last at : ℕ) (q r : Quad) → quad_at program f first ≡ Some q → quad_at program f last ≡ Some r → 1 ≤ size q → 1 ≤ size r → place program f first ≤ at → at ≤ place program f last → IsIn image f at
  in_between f first last at q r here there some other above below =
      let a = is_in program slot image laid long entries f first 0 q here (omega (arith, some)) in
      let b = is_in program slot image laid long entries f last 0 r there (omega (arith, other)) in
      let low = a.1 in
      let high = b.2 in
      (a.0, omega (arith, low, above), omega (arith, high, below))

  -- inside a block, by places and by positions
  pub record PlacedIn (f spawn join at : ℕ) : Type 0 where
    pub l : LocatedIn f at
    pub above : spawn < l.position
    pub below : l.position ≤ join

  pub placed_in : (f spawn join at : ℕ) → quads.IsBlock (quads_in program f) spawn join → place program f spawn + 2 < at → at ≤ place program f join → PlacedIn f spawn join at
  placed_in f spawn join at block above below =
      let low = block.spawns.0 in
      let high = block.spawns.1 in
      let inside = in_between f spawn join at (quad.Spawn low high) quad.Join block.spawns.2 block.joins (omega arith) (omega arith) (omega (arith, above)) below in
      let l = located_in f at inside in
      record { l = l; above = behind l (leb_tells l.position spawn); below = before l (leb_tells l.position join) }
    where
      behind : (l : LocatedIn f at) → ((nat_le l.position spawn ≡ true) × (l.position ≤ spawn)) ⊎ ((nat_le l.position spawn ≡ false) × (spawn < l.position)) → spawn < l.position
      behind l (inr more) = more.1
      behind l (inl low) = by_order (leb_tells spawn l.position)
        where
          by_order : ((nat_le spawn l.position ≡ true) × (spawn ≤ l.position)) ⊎ ((nat_le spawn l.position ≡ false) × (l.position < spawn)) → spawn < l.position
          by_order (inl same) =
              let most = low.1 in
              let least = same.1 in
              let e : l.position ≡ spawn = omega (arith, most, least) in
              let q : l.q ≡ quad.Spawn block.spawns.0 block.spawns.1 = some_is l.q (quad.Spawn block.spawns.0 block.spawns.1) (sym l.here ∙ ap (quad_at program f) e ∙ block.spawns.2) in
              let sizes : size l.q ≡ 3 = ap size q in
              let within = l.within in
              let is : at ≡ place program f spawn + l.offset = l.is ∙ ap (λ p. place program f p + l.offset) e in
              absurd (omega (arith, sizes, within, is, above))
          by_order (inr less) =
              let far = place_behind program slot image laid long entries f l.position spawn l.q l.here less.1 in
              let within = l.within in
              let is = l.is in
              absurd (omega (arith, far, within, is, above))

      before : (l : LocatedIn f at) → ((nat_le l.position join ≡ true) × (l.position ≤ join)) ⊎ ((nat_le l.position join ≡ false) × (join < l.position)) → l.position ≤ join
      before l (inl low) = low.1
      before l (inr past) =
          let far = place_behind program slot image laid long entries f join l.position quad.Join block.joins past.1 in
          let is = l.is in
          absurd (omega (arith, far, is, below))

  -- a block of the quads is one of the image
  pub block_there : (f spawn join : ℕ) → quads.IsBlock (quads_in program f) spawn join → IsBlock image (place program f spawn + 2) (place program f join)
  block_there f spawn join block =
      let low = block.spawns.0 in
      let high = block.spawns.1 in
      let far = place_behind program slot image laid long entries f spawn join (quad.Spawn low high) block.spawns.2 block.order in
      record {
        spawns = spawn_there f spawn low high block.spawns.2;
        joins = join_there f join block.joins;
        order = omega (arith, far);
        function = same_function;
        between = nothing_between;
      }
    where
      same_function : (g : ℕ) → IsIn image g (place program f spawn + 2) → IsIn image g (place program f join)
      same_function g inside =
          let q = quad.Spawn block.spawns.0 block.spawns.1 in
          let two : 2 < size q = omega arith in
          let one : 0 < size quad.Join = omega arith in
          let same : g ≡ f = place_same program slot image laid long entries (place program f spawn + 2) (record { f = f; position = spawn; q = q; here = block.spawns.2; offset = 2; within = two; is = refl }) g inside in
          let e : place program f join + 0 ≡ place program f join = omega arith in
          subst (λ g. IsIn image g (place program f join)) (sym same) (subst (IsIn image f) e (is_in program slot image laid long entries f join 0 quad.Join block.joins one))

      nothing_between : (at : ℕ) → place program f spawn + 2 < at → at < place program f join → ¬ (IsSpawn image at ⊎ IsJoin image at)
      nothing_between at above below some =
          let p = placed_in f spawn join at block above (omega (arith, below)) in
          block.between p.l.position p.above (order p (leb_tells join p.l.position)) (by p some)
        where
          order : (p : PlacedIn f spawn join at) → ((nat_le join p.l.position ≡ true) × (join ≤ p.l.position)) ⊎ ((nat_le join p.l.position ≡ false) × (p.l.position < join)) → p.l.position < join
          order p (inr less) = less.1
          order p (inl past) =
              let far = place_not_before program slot image laid long entries f join p.l.position past.1 in
              let is = p.l.is in
              absurd (omega (arith, far, is, below))

          by : (p : PlacedIn f spawn join at) → IsSpawn image at ⊎ IsJoin image at → quads.IsSpawn (quads_in program f) p.l.position ⊎ quads.IsJoin (quads_in program f) p.l.position
          by p (inl spawns) =
              let c = control_in 44 refl (λ e. omega (arith, e)) f at p.l spawns in
              let q = spawn_quad p.l.q c.means in
              inl (q.0, q.1, p.l.here ∙ ap Some q.2)
          by p (inr joins) =
              let c = control_in 45 refl (λ e. omega (arith, e)) f at p.l joins in
              inr (p.l.here ∙ ap Some (join_quad p.l.q c.means))

  -- and a block of the image is one of the quads
  pub record QuadBlock (spawn join : ℕ) : Type 0 where
    pub f : ℕ
    pub first : ℕ
    pub last : ℕ
    pub block : quads.IsBlock (quads_in program f) first last
    pub spawn_is : spawn ≡ place program f first + 2
    pub join_is : join ≡ place program f last

  pub block_of : (spawn join : ℕ) → IsBlock image spawn join → QuadBlock spawn join
  block_of spawn join b =
      let there = of_function spawn (has_below 44 spawn b.spawns) in
      let f = there.0 in
      let s = spawn_in f spawn there.1 b.spawns in
      let j = join_in f join (located_in f join (b.function f (in_function f spawn there.1))) b.joins in
      let spawn_is = s.is in
      let join_is = j.is in
      record {
        f = f;
        first = s.position;
        last = j.position;
        block =
            record {
              spawns = (s.low, s.high, s.here);
              joins = j.here;
              order = in_order f s.position j.position spawn_is join_is (leb_tells j.position s.position);
              between = λ p above below some. nothing_between f s.position j.position s.low s.high s.here spawn_is join_is p above below some;
            };
        spawn_is = spawn_is;
        join_is = join_is;
      }
    where
      in_order : (f first last : ℕ) → spawn ≡ place program f first + 2 → join ≡ place program f last → ((nat_le last first ≡ true) × (last ≤ first)) ⊎ ((nat_le last first ≡ false) × (first < last)) → first < last
      in_order f first last spawn_is join_is (inr less) = less.1
      in_order f first last spawn_is join_is (inl past) =
          let far = place_not_before program slot image laid long entries f last first past.1 in
          let order = b.order in
          absurd (omega (arith, far, spawn_is, join_is, order))

      nothing_between : (f first last : ℕ) (low high : Operand) → quad_at program f first ≡ Some (quad.Spawn low high) → spawn ≡ place program f first + 2 → join ≡ place program f last →
          (p : ℕ) → first < p → p < last → quads.IsSpawn (quads_in program f) p ⊎ quads.IsJoin (quads_in program f) p → ⊥
      nothing_between f first last low high here spawn_is join_is p above below (inl spawns) =
          let near = place_behind program slot image laid long entries f first p (quad.Spawn low high) here above in
          let far = place_behind program slot image laid long entries f p last (quad.Spawn spawns.0 spawns.1) spawns.2 below in
          b.between (place program f p + 2) (omega (arith, near, spawn_is)) (omega (arith, far, join_is)) (inl (spawn_there f p spawns.0 spawns.1 spawns.2))
      nothing_between f first last low high here spawn_is join_is p above below (inr joins) =
          let near = place_behind program slot image laid long entries f first p (quad.Spawn low high) here above in
          let far = place_behind program slot image laid long entries f p last quad.Join joins below in
          b.between (place program f p) (omega (arith, near, spawn_is)) (omega (arith, far, join_is)) (inr (join_there f p joins))
