-- Functions, blocks and jumps of the image nest as they are tested.
use Rattle.std.proofs.Common.{◌≡◌, refl, sym, ◌∙◌, ap, subst, arith, ℕ, zero, suc, ◌+◌, ◌-◌, ◌<◌, ◌≤◌, List, [], ◌∷◌, length, take, get_or, map, Option, Some, None, true, false, inl, inr}
use Rattle.std.specs.Prelude.{◌⊎◌, ◌↔◌, ◌==◌, Bool, if◌then◌else◌, nat_le, IsSomeAnd, All, slice_get, slice_index}
use Rattle.std.specs.Option.{option_map_or, option_and_then}
use Rattle.std.proofs.lemmas.Bool.Decides.{leb_tells, eqb_tells}
use Rattle.std.proofs.lemmas.List.Elements.{All-nil, All-cons}
use Rattle.std.proofs.lemmas.List.{take_all, length-map}
use Rattle.std.proofs.lemmas.List.Sums.{sum_by-take-le}
use Rattle.std.proofs.lemmas.Option.{slice_get_within}
use Rattle.xmt_isa.specs.declared.image.FunctionEntry.{FunctionEntry}
use Rattle.xmt_isa.specs.declared.image.Image.{Image}
use Rattle.xmt_isa.specs.declared.image.Instr.{Instr}
use Rattle.xmt_isa.specs.declared.operation.Operation.TheVariants as does
use Rattle.xmt_isa.specs.Operation.{operation_of}
use Rattle.xmt_isa.specs.Image.{operation_at, end_of, HasStarts}
use Rattle.xmt_isa.specs.Regions.{IsJump, IsReturn, IsReadMaster, IsPrint, IsSpawn, IsJoin, Jumps, IsBlock, IsInside, IsInBlock, IsInner, IsInInner, HasRegions}
use Rattle.xmt_isa.proofs.Numbers.{number_of, number_is}
use Rattle.xmt_quads.specs.declared.code.Operand.{Operand}
use Rattle.xmt_quads.specs.declared.code.Where.TheVariants.{Word, Element, Outer, PsReg}
use Rattle.xmt_quads.specs.declared.code.Quad.{Quad}
use Rattle.xmt_quads.specs.declared.code.Quad.TheVariants as quad
use Rattle.xmt_quads.specs.declared.code.QuadFunction.{QuadFunction}
use Rattle.xmt_quads.specs.declared.code.QuadProgram.{QuadProgram}
use Rattle.xmt_quads.specs.Program.{quads_of, quads_in, quad_at}
use Rattle.xmt_quads.specs.Regions as quads
use Rattle.xmt_quads.specs.WellFormed.{IsWellFormed}
use Rattle.quad_images.specs.Instructions.{instr, size}
use Rattle.quad_images.specs.Image.{size_of, all_own, entries_from}
use Rattle.quad_image_places.proofs.Own.{IsPlain, own_at, own_next, own_plain, element, element_inside, some_is, plain_no_join}
use Rattle.quad_image_places.proofs.Tails.{sizes_of, sum_next, entry_is}
use Rattle.quad_image_places.proofs.Laid.{Laid, Known, known, known_function, some_quads, names_exist, place, own_in}
use Rattle.quad_image_limits.proofs.Located.{instruction_there, count_is, start_is, end_is, place_same, place_behind, place_not_before}
use Rattle.quad_image_limits.proofs.Controls.{is_special, control_of, Kind, is_plain, is_master, is_control, op_is, Means, means}
use Rattle.quad_image_limits.proofs.Blocks.{LocatedIn, of_function, located_in, in_function, kind_in, control_in, has_below, spawn_quad, spawn_in, join_in, PlacedIn, placed_in, block_there, QuadBlock, block_of}

some_of : {X : Type 0} (P : X → Type 0) (o : Option X) → IsSomeAnd o P → (x : X) × (o ≡ Some x) × P x
some_of P None h = absurd h
some_of P (Some x) h = (x, refl, h)

there_is : {X : Type 0} (P : X → Type 0) (o : Option X) (x : X) → o ≡ Some x → P x → IsSomeAnd o P
there_is P o x is h = subst (λ o. IsSomeAnd o P) (sym is) h

-- ---- quads by what their last instruction does

jump_quad : (q : Quad) → Means 20 q → (to : ℕ) × (q ≡ quad.Jump to)
jump_quad (quad.Jump to) m = (to, refl)
jump_quad _ m = absurd (omega (arith, m))

if_zero_quad : (q : Quad) → Means 21 q → (o : Operand) × (to : ℕ) × (q ≡ quad.IfZero o to)
if_zero_quad (quad.IfZero o to) m = (o, to, refl)
if_zero_quad _ m = absurd (omega (arith, m))

if_not_quad : (q : Quad) → Means 22 q → (o : Operand) × (to : ℕ) × (q ≡ quad.IfNot o to)
if_not_quad (quad.IfNot o to) m = (o, to, refl)
if_not_quad _ m = absurd (omega (arith, m))

call_quad : (q : Quad) → Means 23 q → (g : ℕ) × (q ≡ quad.Call g)
call_quad (quad.Call g) m = (g, refl)
call_quad _ m = absurd (omega (arith, m))

return_quad : (q : Quad) → Means 24 q → (o : Operand) × (q ≡ quad.Return o)
return_quad (quad.Return o) m = (o, refl)
return_quad _ m = absurd (omega (arith, m))

print_quad : (q : Quad) → Means 43 q → (text : ℕ) × (q ≡ quad.Print text)
print_quad (quad.Print text) m = (text, refl)
print_quad _ m = absurd (omega (arith, m))

no_master : (q : Quad) → Means 29 q → ⊥
no_master (quad.Jump to) m = omega (arith, m)
no_master (quad.IfZero o to) m = omega (arith, m)
no_master (quad.IfNot o to) m = omega (arith, m)
no_master (quad.Call g) m = omega (arith, m)
no_master (quad.Return o) m = omega (arith, m)
no_master (quad.Print text) m = omega (arith, m)
no_master (quad.Spawn low high) m = omega (arith, m)
no_master quad.Join m = omega (arith, m)
no_master _ m = omega (arith, m)

-- each quad has some instruction
pub some_size : (q : Quad) → 1 ≤ size q
some_size (quad.Load r (Word w)) = omega arith
some_size (quad.Load r (Element base o)) = omega arith
some_size (quad.Load r (Outer n)) = omega arith
some_size (quad.Load r (PsReg n)) = omega arith
some_size (quad.Store (Word w) o) = omega arith
some_size (quad.Store (Element base i) o) = omega arith
some_size (quad.Store (Outer n) o) = omega arith
some_size (quad.Store (PsReg n) o) = omega arith
some_size (quad.Add r (Word w) o) = omega arith
some_size (quad.Add r (Element base i) o) = omega arith
some_size (quad.Add r (Outer n) o) = omega arith
some_size (quad.Add r (PsReg n) o) = omega arith
some_size _ = omega arith

-- a register that lives elsewhere does so in a block
block_from_own : (qs : List Quad) → ((spawn : ℕ) → quads.IsSpawn qs spawn → (join : ℕ) × quads.IsBlock qs spawn join) → (r at : ℕ) → at < length qs → own_at all_own qs at r ≡ false → quads.IsInBlock qs at
block_from_own qs joins r zero below other = absurd (let e : true ≡ false = other in cc)
block_from_own qs joins r (suc at) below other = by (element qs at (omega (arith, below))).0 (element qs at (omega (arith, below))).1 (λ own. block_from_own qs joins r at (omega (arith, below)) own)
  where
    on : (q : Quad) → slice_get qs at ≡ Some q → IsPlain q → quads.IsInBlock qs at → quads.IsInBlock qs (suc at)
    on q here plain (spawn, join, block, (above, most)) = by_end (eqb_tells at join)
      where
        by_end : (((at == join) ≡ true) × (at ≡ join)) ⊎ (((at == join) ≡ false) × (¬ (at ≡ join))) → quads.IsInBlock qs (suc at)
        by_end (inl same) = absurd (plain_no_join qs at q here plain (subst (quads.IsJoin qs) (sym same.1) block.joins))
        by_end (inr apart) = (spawn, join, block, (omega (arith, above), omega (arith, most, apart.1)))

    by_plain : (q : Quad) → slice_get qs at ≡ Some q → IsPlain q → (own_at all_own qs at r ≡ false → quads.IsInBlock qs at) → quads.IsInBlock qs (suc at)
    by_plain q here plain before = on q here plain (before (sym (ap (λ own. own r) (own_next all_own qs at q here ∙ own_plain (own_at all_own qs at) q _ plain)) ∙ other))

    by : (q : Quad) → slice_get qs at ≡ Some q → (own_at all_own qs at r ≡ false → quads.IsInBlock qs at) → quads.IsInBlock qs (suc at)
    by (quad.Spawn low high) here before = let b = joins at (low, high, here) in let order = b.1.order in (at, b.0, b.1, (omega arith, omega (arith, order)))
    by quad.Join here before = absurd (let e : true ≡ false = sym (ap (λ own. own r) (own_next all_own qs at quad.Join here)) ∙ other in cc)
    by q here before = by_plain q here tt before

-- ---- entries

abbrev number_of_inner : Bool → ℕ
number_of_inner b = if b then 1 else 0

pub all_entries : (P : FunctionEntry → Type 0) → ((start : ℕ) (g : QuadFunction) → P (record { start = start; slots = 512; inner = if g.inner then 1 else 0 })) → (start : ℕ) (functions : List QuadFunction) → All P (entries_from start functions)
all_entries P each start [] = All-nil P
all_entries P each start (g ∷ functions) =
    All-cons P (record { start = start; slots = 512; inner = if g.inner then 1 else 0 }) (entries_from (start + size_of g.quads) functions) (each start g) (all_entries P each (start + size_of g.quads) functions)

start_in : (entries : List FunctionEntry) (k : ℕ) → get_or (map (λ e. e.start) entries) k 0 ≡ option_map_or (λ (e : FunctionEntry). e.start) (slice_get entries k) 0
start_in [] k = refl
start_in (e ∷ entries) zero = refl
start_in (e ∷ entries) (suc k) = start_in entries k

start_at : (entries : List FunctionEntry) (k : ℕ) (d : FunctionEntry) → k < length entries → (get_or entries k d).start ≡ option_map_or (λ (e : FunctionEntry). e.start) (slice_get entries k) 0
start_at [] k d below = absurd (omega (arith, below))
start_at (e ∷ entries) zero d below = refl
start_at (e ∷ entries) (suc k) d below = start_at entries k d (omega (arith, below))

module _ (program : QuadProgram) (slot : ℕ → ℕ → ℕ) (image : Image) (laid : Laid program slot image) (long : length image.code ≡ sizes_of program.functions) (entries : image.functions ≡ entries_from 0 program.functions) (well : IsWellFormed program) where
  -- a function has some code
  pub some_code : (f : ℕ) → f < length program.functions → sizes_of (take f program.functions) + 1 ≤ sizes_of (take (suc f) program.functions)
  some_code f below =
      let g = element program.functions f below in
      let k = known_function program well f g.0 g.1 in
      let q = element (quads_in program f) 0 (some_quads program k) in
      let same : quads_in program f ≡ g.0.quads = ap quads_of g.1 in
      let next = sum_next (λ (f : QuadFunction). size_of f.quads) program.functions f g.0 g.1 in
      let first = sum_next size (quads_in program f) 0 q.0 q.1 in
      let most = sum_by-take-le size (quads_in program f) 1 in
      let some = some_size q.0 in
      let sizes : size_of (quads_in program f) ≡ size_of g.0.quads = ap size_of same in
      omega (arith, next, first, most, some, sizes)

  pub has_starts : HasStarts image
  has_starts =
      let count = count_is program slot image laid long entries in
      let some = well.some_functions in
      record {
        first = start_is program slot image laid long entries 0 (omega (arith, some));
        rising = λ k below. by k (let counted = length-map image.functions (λ (e : FunctionEntry). e.start) in omega (arith, below, counted, count));
        inside = λ k d below. inside k d below (omega (arith, below, count));
      }
    where
      by : (k : ℕ) → k + 1 < length program.functions → slice_index (map (λ e. e.start) image.functions) k < slice_index (map (λ e. e.start) image.functions) (k + 1)
      by k below =
          let a = start_in image.functions k ∙ start_is program slot image laid long entries k (omega (arith, below)) in
          let b = start_in image.functions (k + 1) ∙ start_is program slot image laid long entries (k + 1) below in
          let grows = some_code k (omega (arith, below)) in
          let e : k + 1 ≡ suc k = omega arith in
          let same : sizes_of (take (k + 1) program.functions) ≡ sizes_of (take (suc k) program.functions) = ap (λ n. sizes_of (take n program.functions)) e in
          omega (arith, a, b, grows, same)

      inside : (k : ℕ) (d : FunctionEntry) → k < length image.functions → k < length program.functions → (get_or image.functions k d).start < length image.code
      inside k d below low =
          let a = start_at image.functions k d below ∙ start_is program slot image laid long entries k low in
          let grows = some_code k low in
          let most = sum_by-take-le (λ (f : QuadFunction). size_of f.quads) program.functions (suc k) in
          omega (arith, a, grows, most, long)

  -- ---- the ends of functions

  ends_there : (f : ℕ) → f < length image.functions → IsJump image (end_of image f - 1) ⊎ IsReturn image (end_of image f - 1)
  ends_there f below =
      let count = count_is program slot image laid long entries in
      let low : f < length program.functions = omega (arith, below, count) in
      let g = element program.functions f low in
      let k = known_function program well f g.0 g.1 in
      let ends = k.well.regions.ends in
      let same : quads_in program f ≡ g.0.quads = ap quads_of g.1 in
      let sizes : size_of (quads_in program f) ≡ size_of g.0.quads = ap size_of same in
      let next = sum_next (λ (f : QuadFunction). size_of f.quads) program.functions f g.0 g.1 in
      let end = end_is program slot image laid long entries f low in
      by ends.0 ends.1 ends.2 (omega (arith, end, next, sizes))
    where
      whole : (last : ℕ) → last + 1 ≡ length (quads_in program f) → take (suc last) (quads_in program f) ≡ quads_in program f
      whole last is = take_all (suc last) (quads_in program f) (omega (arith, is))

      by : (last : ℕ) → last + 1 ≡ length (quads_in program f) → ((to : ℕ) × (slice_get (quads_in program f) last ≡ Some (quad.Jump to))) ⊎ quads.IsReturn (quads_in program f) last → end_of image f ≡ sizes_of (take f program.functions) + size_of (quads_in program f) →
          IsJump image (end_of image f - 1) ⊎ IsReturn image (end_of image f - 1)
      by last is (inl (to, here)) end =
          let sum = sum_next size (quads_in program f) last (quad.Jump to) here in
          let all = ap size_of (whole last is) in
          let e : place program f last + 0 ≡ end_of image f - 1 = omega (arith, sum, all, end) in
          inl (there_is (λ (i : Instr). i.op ≡ 20) (slice_get image.code (end_of image f - 1)) (instr 20 0 0 0 (place program f to)) (ap (slice_get image.code) (sym e) ∙ instruction_there program slot image laid long entries f last 0 (quad.Jump to) (instr 20 0 0 0 (place program f to)) here refl) refl)
      by last is (inr (o, here)) end =
          let sum = sum_next size (quads_in program f) last (quad.Return o) here in
          let all = ap size_of (whole last is) in
          let e : place program f last + 1 ≡ end_of image f - 1 = omega (arith, sum, all, end) in
          inr (there_is (λ (i : Instr). i.op ≡ 24) (slice_get image.code (end_of image f - 1)) (instr 24 0 0 0 0) (ap (slice_get image.code) (sym e) ∙ instruction_there program slot image laid long entries f last 1 (quad.Return o) (instr 24 0 0 0 0) here refl) refl)

  -- ---- what is known of a function

  of_position : (f position : ℕ) (q : Quad) → quad_at program f position ≡ Some q → Known program f
  of_position f position q here = known program well f position (element_inside (quads_in program f) position q here)

  inner_there : (f : ℕ) → quads.IsInner program f → IsInner image f
  inner_there f inner =
      let g = some_of (λ (g : QuadFunction). g.inner ≡ true) (slice_get program.functions f) inner in
      there_is (λ (e : FunctionEntry). e.inner ≡ 1) (slice_get image.functions f) (record { start = 0 + sizes_of (take f program.functions); slots = 512; inner = if g.0.inner then 1 else 0 })
      (ap (λ (entries : List FunctionEntry). slice_get entries f) entries ∙ entry_is program.functions f 0 g.0 g.1) (ap number_of_inner g.2)

  inner_of : (f : ℕ) → f < length program.functions → IsInner image f → quads.IsInner program f
  inner_of f below inner =
      let g = element program.functions f below in
      let e : FunctionEntry = record { start = 0 + sizes_of (take f program.functions); slots = 512; inner = if g.0.inner then 1 else 0 } in
      let is : IsSomeAnd (Some e) (λ (e : FunctionEntry). e.inner ≡ 1) = subst (λ o. IsSomeAnd o (λ (e : FunctionEntry). e.inner ≡ 1)) (ap (λ (entries : List FunctionEntry). slice_get entries f) entries ∙ entry_is program.functions f 0 g.0 g.1) inner in
      there_is (λ (g : QuadFunction). g.inner ≡ true) (slice_get program.functions f) g.0 g.1 (by g.0.inner is)
    where
      by : (b : Bool) → number_of_inner b ≡ 1 → b ≡ true
      by true is = refl
      by false is = absurd (omega (arith, is))

  -- ---- inside blocks

  -- what stands inside a block of quads stands inside that of the image
  inside_there : (f spawn join at : ℕ) → quads.IsBlock (quads_in program f) spawn join → (l : LocatedIn program slot image laid long entries f at) → spawn < l.position → l.position ≤ join → IsInside (place program f spawn + 2) (place program f join) at
  inside_there f spawn join at block l above below =
      let first = place_behind program slot image laid long entries f spawn l.position (quad.Spawn block.spawns.0 block.spawns.1) block.spawns.2 above in
      let is = l.is in
      (omega (arith, first, is), by (eqb_tells l.position join))
    where
      by : (((l.position == join) ≡ true) × (l.position ≡ join)) ⊎ (((l.position == join) ≡ false) × (¬ (l.position ≡ join))) → at ≤ place program f join
      by (inl same) =
          let q : l.q ≡ quad.Join = some_is l.q quad.Join (sym l.here ∙ ap (quad_at program f) same.1 ∙ block.joins) in
          let sizes : size l.q ≡ 1 = ap size q in
          let within = l.within in
          let is : at ≡ place program f join + l.offset = l.is ∙ ap (λ p. place program f p + l.offset) same.1 in
          omega (arith, sizes, within, is)
      by (inr other) =
          let less : l.position < join = omega (arith, below, other.1) in
          let far = place_behind program slot image laid long entries f l.position join l.q l.here less in
          let within = l.within in
          let is = l.is in
          omega (arith, far, within, is)

  placed : (f first last spawn join at : ℕ) → quads.IsBlock (quads_in program f) first last → spawn ≡ place program f first + 2 → join ≡ place program f last → IsInside spawn join at → PlacedIn program slot image laid long entries f first last at
  placed f first last spawn join at block spawn_is join_is inside = placed_in program slot image laid long entries f first last at block (let a = inside.0 in omega (arith, a, spawn_is)) (let b = inside.1 in omega (arith, b, join_is))

  -- a return, a spawn or a print of the image is one of the quads
  quad_of : (f at : ℕ) (l : LocatedIn program slot image laid long entries f at) → IsReturn image at ⊎ IsSpawn image at ⊎ IsPrint image at →
      quads.IsReturn (quads_in program f) l.position ⊎ quads.IsSpawn (quads_in program f) l.position ⊎ quads.IsPrint (quads_in program f) l.position
  quad_of f at l (inl returns) =
      let c = control_in program slot image laid long entries 24 refl (λ e. omega (arith, e)) f at l returns in
      let q = return_quad l.q c.means in
      inl (q.0, l.here ∙ ap Some q.1)
  quad_of f at l (inr (inl spawns)) =
      let c = control_in program slot image laid long entries 44 refl (λ e. omega (arith, e)) f at l spawns in
      let q = spawn_quad l.q c.means in
      inr (inl (q.0, q.1, l.here ∙ ap Some q.2))
  quad_of f at l (inr (inr prints)) =
      let c = control_in program slot image laid long entries 43 refl (λ e. omega (arith, e)) f at l prints in
      let q = print_quad l.q c.means in
      inr (inr (q.0, l.here ∙ ap Some q.1))

  in_block : (at : ℕ) → IsInBlock image at → ¬ (IsReturn image at ⊎ IsSpawn image at ⊎ IsPrint image at)
  in_block at (spawn, join, block, inside) some =
      let b = block_of program slot image laid long entries spawn join block in
      let p = placed b.f b.first b.last spawn join at b.block b.spawn_is b.join_is inside in
      let k = of_position b.f p.l.position p.l.q p.l.here in
      k.well.regions.in_block p.l.position (b.first, b.last, b.block, (p.above, p.below)) (quad_of b.f at p.l some)

  in_inner : (at : ℕ) → IsInInner image at → ¬ (IsSpawn image at ⊎ IsPrint image at)
  in_inner at (f, inside, inner) some =
      let l = located_in program slot image laid long entries f at inside in
      let count = count_is program slot image laid long entries in
      let low = inside.0 in
      let k = of_position f l.position l.q l.here in
      let is = some_of (λ (g : QuadFunction). g.inner ≡ true) (slice_get program.functions f) (inner_of f (omega (arith, low, count)) inner) in
      let same : is.0 ≡ k.function = some_is is.0 k.function (sym is.1 ∙ k.found) in
      k.well.regions.in_inner (sym (ap (λ (g : QuadFunction). g.inner) same) ∙ is.2) l.position (by l some)
    where
      by : (l : LocatedIn program slot image laid long entries f at) → IsSpawn image at ⊎ IsPrint image at → quads.IsSpawn (quads_in program f) l.position ⊎ quads.IsPrint (quads_in program f) l.position
      by l (inl spawns) =
          let c = control_in program slot image laid long entries 44 refl (λ e. omega (arith, e)) f at l spawns in
          let q = spawn_quad l.q c.means in
          inl (q.0, q.1, l.here ∙ ap Some q.2)
      by l (inr prints) =
          let c = control_in program slot image laid long entries 43 refl (λ e. omega (arith, e)) f at l prints in
          let q = print_quad l.q c.means in
          inr (q.0, l.here ∙ ap Some q.1)

  master_slots : (at : ℕ) → IsReadMaster image at → IsInBlock image at
  master_slots at master =
      let x = some_of (λ (i : Instr). i.op ≡ 29) (slice_get image.code at) master in
      let there = of_function program slot image laid long entries at (has_below program slot image laid long entries 29 at master) in
      let f = there.0 in
      let l = there.1 in
      by f l x.0 x.2 (kind_in program slot image laid long entries f at l x.0 x.1)
    where
      by : (f : ℕ) (l : LocatedIn program slot image laid long entries f at) (i : Instr) → i.op ≡ 29 → Kind (slot f) (place program f) (own_in program f l.position) l.q l.offset i → IsInBlock image at
      by f l i is (is_plain plain) = absurd (let e : is_special 29 ≡ false = ap is_special (sym is) ∙ plain in let no_more : true ≡ false = e in cc)
      by f l i is (is_control same last) = absurd (no_master l.q (means 29 l.q (sym is ∙ ap (λ (i : Instr). i.op) same ∙ op_is (slot f) (place program f) (own_in program f l.position) l.q)))
      by f l i is (is_master r op other) =
          let k = of_position f l.position l.q l.here in
          let b = block_from_own (quads_in program f) k.well.regions.spawn_joins r l.position (element_inside (quads_in program f) l.position l.q l.here) other in
          (place program f b.0 + 2, place program f b.1, block_there program slot image laid long entries f b.0 b.1 b.2, inside_there f b.0 b.1 at b.2 l b.3.0 b.3.1)

  -- ---- calls

  called : (g : ℕ) → number_of (does.Call g) ≡ 23
  unfolding number_of
  called g = refl

  record Called (at g : ℕ) : Type 0 where
    i : Instr
    there : slice_get image.code at ≡ Some i
    calls : operation_of i ≡ Some (does.Call g)

  called_at : (at g : ℕ) → operation_at image at ≡ Some (does.Call g) → Called at g
  called_at at g h = by (slice_get image.code at) refl h
    where
      by : (o : Option Instr) → slice_get image.code at ≡ o → option_and_then operation_of o ≡ Some (does.Call g) → Called at g
      by None e h = absurd (let none : None ≡ Some (does.Call g) = h in cc)
      by (Some i) e h = record { i = i; there = e; calls = h }

  call_in : (f at g : ℕ) (l : LocatedIn program slot image laid long entries f at) → operation_at image at ≡ Some (does.Call g) → quad_at program f l.position ≡ Some (quad.Call g)
  call_in f at g l h =
      let x = called_at at g h in
      let number : x.i.op ≡ 23 = number_is x.i (does.Call g) x.calls ∙ called g in
      let c = control_in program slot image laid long entries 23 refl (λ e. omega (arith, e)) f at l (there_is (λ (i : Instr). i.op ≡ 23) (slice_get image.code at) x.i x.there number) in
      let q = call_quad l.q c.means in
      let one : x.i ≡ c.i = some_is x.i c.i (sym x.there ∙ c.there) in
      let is : x.i ≡ instr 23 0 0 0 q.0 = one ∙ c.same ∙ ap (control_of (slot f) (place program f) (own_in program f l.position)) q.1 in
      let same : Some (does.Call q.0) ≡ Some (does.Call g) = sym (ap operation_of is) ∙ x.calls in
      l.here ∙ ap Some q.1 ∙ ap (λ g. Some (quad.Call g)) (number_same q.0 g same)
    where
      number_same : (x y : ℕ) → Some (does.Call x) ≡ Some (does.Call y) → x ≡ y
      number_same x y e = cc

  calls_there : (at g : ℕ) → IsInBlock image at ⊎ IsInInner image at → operation_at image at ≡ Some (does.Call g) → IsInner image g
  calls_there at g (inl (spawn, join, block, inside)) h =
      let b = block_of program slot image laid long entries spawn join block in
      let p = placed b.f b.first b.last spawn join at b.block b.spawn_is b.join_is inside in
      let k = of_position b.f p.l.position p.l.q p.l.here in
      inner_there g (k.well.regions.calls p.l.position g (inr (b.first, b.last, b.block, (p.above, p.below))) (call_in b.f at g p.l h))
  calls_there at g (inr (f, inside, inner)) h =
      let l = located_in program slot image laid long entries f at inside in
      let count = count_is program slot image laid long entries in
      let low = inside.0 in
      let k = of_position f l.position l.q l.here in
      let is = some_of (λ (g : QuadFunction). g.inner ≡ true) (slice_get program.functions f) (inner_of f (omega (arith, low, count)) inner) in
      let same : is.0 ≡ k.function = some_is is.0 k.function (sym is.1 ∙ k.found) in
      inner_there g (k.well.regions.calls l.position g (inl (sym (ap (λ (g : QuadFunction). g.inner) same) ∙ is.2)) (call_in f at g l h))

  -- ---- jumps

  record JumpIn (f at to : ℕ) (l : LocatedIn program slot image laid long entries f at) : Type 0 where
    target : ℕ
    jumps : quads.Jumps (quads_in program f) l.position target
    is : to ≡ place program f target
    exists : target < length (quads_in program f)

  jump_in : (f at to : ℕ) (l : LocatedIn program slot image laid long entries f at) → Jumps image at to → JumpIn f at to l
  jump_in f at to l h =
      let x = some_of (λ (i : Instr). ((i.op ≡ 20) ⊎ (i.op ≡ 21) ⊎ (i.op ≡ 22)) × (i.imm ≡ to)) (slice_get image.code at) h in
      by x.0 x.1 x.2.0 x.2.1
    where
      k : Known program f
      k = of_position f l.position l.q l.here

      imm_of : (i : Instr) (c : Instr) (q : Quad) → slice_get image.code at ≡ Some i → slice_get image.code at ≡ Some c → c ≡ control_of (slot f) (place program f) (own_in program f l.position) l.q → l.q ≡ q → i.imm ≡ (control_of (slot f) (place program f) (own_in program f l.position) q).imm
      imm_of i c q there same is quad_is = ap (λ (i : Instr). i.imm) (some_is i c (sym there ∙ same) ∙ is ∙ ap (control_of (slot f) (place program f) (own_in program f l.position)) quad_is)

      by : (i : Instr) → slice_get image.code at ≡ Some i → (i.op ≡ 20) ⊎ (i.op ≡ 21) ⊎ (i.op ≡ 22) → i.imm ≡ to → JumpIn f at to l
      by i there (inl op) imm =
          let c = control_in program slot image laid long entries 20 refl (λ e. omega (arith, e)) f at l (there_is (λ (i : Instr). i.op ≡ 20) (slice_get image.code at) i there op) in
          let q = jump_quad l.q c.means in
          let here = l.here ∙ ap Some q.1 in
          record { target = q.0; jumps = inl here; is = sym imm ∙ imm_of i c.i (quad.Jump q.0) there c.there c.same q.1; exists = names_exist program k l.position (quad.Jump q.0) here }
      by i there (inr (inl op)) imm =
          let c = control_in program slot image laid long entries 21 refl (λ e. omega (arith, e)) f at l (there_is (λ (i : Instr). i.op ≡ 21) (slice_get image.code at) i there op) in
          let q = if_zero_quad l.q c.means in
          let here = l.here ∙ ap Some q.2 in
          record { target = q.1; jumps = inr (inl (q.0, here)); is = sym imm ∙ imm_of i c.i (quad.IfZero q.0 q.1) there c.there c.same q.2; exists = names_exist program k l.position (quad.IfZero q.0 q.1) here }
      by i there (inr (inr op)) imm =
          let c = control_in program slot image laid long entries 22 refl (λ e. omega (arith, e)) f at l (there_is (λ (i : Instr). i.op ≡ 22) (slice_get image.code at) i there op) in
          let q = if_not_quad l.q c.means in
          let here = l.here ∙ ap Some q.2 in
          record { target = q.1; jumps = inr (inr (q.0, here)); is = sym imm ∙ imm_of i c.i (quad.IfNot q.0 q.1) there c.there c.same q.2; exists = names_exist program k l.position (quad.IfNot q.0 q.1) here }

  -- positions inside a block, by their places
  inside_places : (f first last position : ℕ) → quads.IsBlock (quads_in program f) first last → quads.IsInside (quads_in program f) first last position → IsInside (place program f first + 2) (place program f last) (place program f position)
  inside_places f first last position block inside =
      let near = place_behind program slot image laid long entries f first position (quad.Spawn block.spawns.0 block.spawns.1) block.spawns.2 inside.0 in
      let far = place_not_before program slot image laid long entries f position last inside.1 in
      (omega (arith, near), far)

  inside_positions : (f first last position : ℕ) → quads.IsBlock (quads_in program f) first last → IsInside (place program f first + 2) (place program f last) (place program f position) → quads.IsInside (quads_in program f) first last position
  inside_positions f first last position block inside = (by_first (leb_tells position first), by_last (leb_tells position last))
    where
      by_first : ((nat_le position first ≡ true) × (position ≤ first)) ⊎ ((nat_le position first ≡ false) × (first < position)) → first < position
      by_first (inr less) = less.1
      by_first (inl low) = let near = place_not_before program slot image laid long entries f position first low.1 in let above = inside.0 in absurd (omega (arith, near, above))

      by_last : ((nat_le position last ≡ true) × (position ≤ last)) ⊎ ((nat_le position last ≡ false) × (last < position)) → position ≤ last
      by_last (inl low) = low.1
      by_last (inr past) = let far = place_behind program slot image laid long entries f last position quad.Join block.joins past.1 in let below = inside.1 in absurd (omega (arith, far, below))

  jumps_there : (spawn join at to : ℕ) → IsBlock image spawn join → Jumps image at to → IsInside spawn join at ↔ IsInside spawn join to
  jumps_there spawn join at to block jumps = (forth, back)
    where
      b : QuadBlock program slot image laid long entries spawn join
      b = block_of program slot image laid long entries spawn join block

      as_image : (x : ℕ) → IsInside (place program b.f b.first + 2) (place program b.f b.last) x → IsInside spawn join x
      as_image x inside = let a = inside.0 in let c = inside.1 in let s = b.spawn_is in let j = b.join_is in (omega (arith, a, s), omega (arith, c, j))

      as_places : (x : ℕ) → IsInside spawn join x → IsInside (place program b.f b.first + 2) (place program b.f b.last) x
      as_places x inside = let a = inside.0 in let c = inside.1 in let s = b.spawn_is in let j = b.join_is in (omega (arith, a, s), omega (arith, c, j))

      forth : IsInside spawn join at → IsInside spawn join to
      forth inside =
          let p = placed b.f b.first b.last spawn join at b.block b.spawn_is b.join_is inside in
          let j = jump_in b.f at to p.l jumps in
          let k = of_position b.f p.l.position p.l.q p.l.here in
          let there = (k.well.regions.jumps b.first b.last p.l.position j.target b.block j.jumps).0 (p.above, p.below) in
          subst (IsInside spawn join) (sym j.is) (as_image (place program b.f j.target) (inside_places b.f b.first b.last j.target b.block there))

      from : (g : ℕ) → g ≡ b.f → (l : LocatedIn program slot image laid long entries g at) → IsInside spawn join to → IsInside spawn join at
      from g same l inside =
          let l' : LocatedIn program slot image laid long entries b.f at = subst (λ g. LocatedIn program slot image laid long entries g at) same l in
          let j = jump_in b.f at to l' jumps in
          let k = of_position b.f l'.position l'.q l'.here in
          let there = inside_positions b.f b.first b.last j.target b.block (as_places (place program b.f j.target) (subst (IsInside spawn join) j.is inside)) in
          let here = (k.well.regions.jumps b.first b.last l'.position j.target b.block j.jumps).1 there in
          as_image at (inside_there b.f b.first b.last at b.block l' here.0 here.1)

      back : IsInside spawn join to → IsInside spawn join at
      back inside =
          let x = some_of (λ (i : Instr). ((i.op ≡ 20) ⊎ (i.op ≡ 21) ⊎ (i.op ≡ 22)) × (i.imm ≡ to)) (slice_get image.code at) jumps in
          let there = of_function program slot image laid long entries at (slice_get_within image.code at x.0 x.1) in
          let g = there.0 in
          let l = there.1 in
          let j = jump_in g at to l jumps in
          let q = element (quads_in program g) j.target j.exists in
          let p = placed b.f b.first b.last spawn join to b.block b.spawn_is b.join_is inside in
          let here = in_function program slot image laid long entries b.f to p.l in
          let zero_more : place program g j.target + 0 ≡ to = (let is = j.is in omega (arith, is)) in
          let same : b.f ≡ g = place_same program slot image laid long entries to (record { f = g; position = j.target; q = q.0; here = q.1; offset = 0; within = (let some = some_size q.0 in omega (arith, some)); is = sym zero_more }) b.f here in
          from g (sym same) l inside

  -- ---- all of it

  pub has_regions : HasRegions image
  has_regions =
      record {
        starts = has_starts;
        inner = subst (λ (entries : List FunctionEntry). All (λ e. e.inner ≤ 1) entries) (sym entries) (all_entries (λ e. e.inner ≤ 1) (λ start g. low g.inner) 0 program.functions);
        ends = ends_there;
        spawn_joins = spawn_joins;
        join_spawned = join_spawned;
        jumps = jumps_there;
        in_block = in_block;
        master_slots = master_slots;
        in_inner = in_inner;
        calls = calls_there;
      }
    where
      low : (b : Bool) → number_of_inner b ≤ 1
      low true = omega arith
      low false = omega arith

      spawn_joins : (spawn : ℕ) → IsSpawn image spawn → (join : ℕ) × IsBlock image spawn join
      spawn_joins spawn spawns =
          let there = of_function program slot image laid long entries spawn (has_below program slot image laid long entries 44 spawn spawns) in
          let f = there.0 in
          let s = spawn_in program slot image laid long entries f spawn there.1 spawns in
          let k = of_position f s.position (quad.Spawn s.low s.high) s.here in
          let b = k.well.regions.spawn_joins s.position (s.low, s.high, s.here) in
          (place program f b.0, subst (λ spawn. IsBlock image spawn (place program f b.0)) (sym s.is) (block_there program slot image laid long entries f s.position b.0 b.1))

      join_spawned : (join : ℕ) → IsJoin image join → (spawn : ℕ) × IsBlock image spawn join
      join_spawned join joins =
          let there = of_function program slot image laid long entries join (has_below program slot image laid long entries 45 join joins) in
          let f = there.0 in
          let j = join_in program slot image laid long entries f join there.1 joins in
          let k = of_position f j.position quad.Join j.here in
          let b = k.well.regions.join_spawned j.position j.here in
          (place program f b.0 + 2, subst (λ join. IsBlock image (place program f b.0 + 2) join) (sym j.is) (block_there program slot image laid long entries f b.0 j.position b.1))
