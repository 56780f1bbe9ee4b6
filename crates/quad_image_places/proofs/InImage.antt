-- The image of a well-formed program is known as the threads need it.
use Rattle.std.proofs.Common.{◌≡◌, refl, sym, ◌∙◌, ap, subst, arith, ℕ, zero, suc, ◌+◌, ◌-◌, ◌<◌, ◌≤◌, List, [], ◌∷◌, ◌++◌, length, length-append, append_assoc, take, drop, Option, Some, None, true}
use Rattle.std.specs.Prelude.{◌==◌, cond, nat_lt, not, position, count_by, All, slice_get, slice_index, unwrap_or}
use Rattle.std.specs.List.{prefix_len}
use Rattle.std.specs.Option.{option_map, option_map_or, option_and_then}
use Rattle.std.proofs.lemmas.List.Sums.{sum_by-take-le}
use Rattle.std.proofs.lemmas.Option.{get_or_from_slice_get, slice_get_within, slice_get-map}
use Rattle.xmt_isa.specs.declared.image.FunctionEntry.{FunctionEntry}
use Rattle.xmt_isa.specs.declared.image.Image.{Image}
use Rattle.xmt_isa.specs.declared.image.Instr.{Instr}
use Rattle.xmt_isa.specs.Image.{start_of}
use Rattle.xmt_isa.specs.Machine.{is_join}
use Rattle.xmt_isa.specs.Machine as isa
use Rattle.xmt_isa.specs.Threads.{site_of}
use Rattle.xmt_quads.specs.declared.code.Operand.{Operand}
use Rattle.xmt_quads.specs.declared.code.Quad.{Quad}
use Rattle.xmt_quads.specs.declared.code.Quad.TheVariants as quad
use Rattle.xmt_quads.specs.declared.code.QuadFunction.{QuadFunction}
use Rattle.xmt_quads.specs.declared.code.QuadProgram.{QuadProgram}
use Rattle.xmt_quads.specs.declared.homes.Home.{Home}
use Rattle.xmt_quads.specs.declared.homes.Home.TheVariants.{Slot}
use Rattle.xmt_quads.specs.Program.{quads_of, lines_of, quads_in, quad_at, line_at, text_of, site_at}
use Rattle.xmt_quads.specs.Allocation.{IsHome, IsAllocationOf, HasOwnSlots}
use Rattle.xmt_quads.specs.Regions.{IsBlock}
use Rattle.xmt_quads.specs.WellFormed.{IsWellFormed}
use Rattle.quad_images.specs.Instructions.{fetch, instr, quad_code, size}
use Rattle.quad_images.specs.Image.{all_own, own_behind, size_of, code_from, codes_from, slot_of, slot_in, IsImageOf}
use Rattle.quad_image_places.proofs.Own.{IsPlain, element, element_inside, element_of_rest, plain_between}
use Rattle.quad_image_places.proofs.Quiet.{bounds_quiet, quiet_count, length_of}
use Rattle.quad_image_places.proofs.Tails.{sum_next, sum_past, Tail, tail_more, tail_is, first_of_tail, spawns_before, rest_is, tail_at, join_position, length_code, sizes_of, sites_of, FunctionTail, function_tail, entry_is, line_in, line_of_function}
use Rattle.quad_image_places.proofs.Laid.{HasCode, HasSlots, Laid, Known, known, place, own_in}

-- what stands from an element on
rest_from : {X : Type 0} (xs : List X) (at : ℕ) (x : X) → slice_get xs at ≡ Some x → drop at xs ≡ x ∷ drop (suc at) xs
rest_from [] at x here = cc
rest_from (y ∷ xs) zero x here = let same : y ≡ x = cc in ap (λ y. y ∷ xs) same
rest_from (y ∷ xs) (suc at) x here = rest_from xs at x here

-- code that stands there, with its line
has_code : (image : Image) (line : ℕ) (part rest : List Instr) (at sites : ℕ) → Tail image.code at sites (part ++ rest) → ((k : ℕ) → k < length part → slice_index image.lines (at + k) ≡ line) → HasCode image line at part
has_code image line [] rest at sites t lines = tt
has_code image line (i ∷ part) rest at sites t lines =
    let zero_more : at + 0 ≡ at = omega arith in
    let behind = tail_more image.code at sites 1 (count_by (λ (i : Instr). i.op == 44) (i ∷ [])) (i ∷ []) (part ++ rest) t refl refl in (
      first_of_tail image.code at sites i (part ++ rest) t,
      ap (slice_index image.lines) (sym zero_more) ∙ lines 0 (omega arith),
      has_code image line part rest (at + 1) (sites + count_by (λ (i : Instr). i.op == 44) (i ∷ [])) behind
          (λ k below. (let e : at + 1 + k ≡ at + suc k = omega arith in ap (slice_index image.lines) e) ∙ lines (suc k) (omega (arith, below))),
    )

-- a join that is the first one
position_at : (code : List Instr) (n : ℕ) → prefix_len (λ i. not (i.op == 45)) code ≡ n → n < length code → position is_join code ≡ Some n
position_at code n is below =
    let test : nat_lt n (length code) ≡ true = grind (arith, below) in
    ap (λ k. cond (nat_lt k (length code)) (Some k) None) is ∙ ap (λ b. cond b (Some n) None) test

module _ (program : QuadProgram) (homes : List (List Home)) (image : Image) (well : IsWellFormed program) (allocation : IsAllocationOf program homes) (own_slots : All HasOwnSlots homes) (is : IsImageOf program homes image) where
  abbrev slot : ℕ → ℕ → ℕ
  slot = slot_in homes

  -- from the code of a quad on
  record QuadTail (f at : ℕ) : Type 0 where
    rest : List Instr
    tail : Tail image.code (place program f at) (site_at program f at) (code_from (slot f) (place program f) (own_in program f at) (drop at (quads_in program f)) ++ rest)

  quad_tail : (f at : ℕ) → Known program f → at ≤ length (quads_in program f) → QuadTail f at
  quad_tail f at k most =
      let t : Tail image.code 0 0 (codes_from slot 0 0 program.functions) = record { front = []; is = is.code; long = refl; spawned = refl } in
      let there = function_tail slot image.code program.functions f 0 0 0 k.function k.found t in
      let a : 0 + sizes_of (take f program.functions) ≡ sizes_of (take f program.functions) = omega arith in
      let b : 0 + sites_of (take f program.functions) ≡ sites_of (take f program.functions) = omega arith in
      let c : 0 + f ≡ f = omega arith in
      let d : k.function.quads ≡ quads_in program f = sym (ap quads_of k.found) in
      let whole : FunctionTail slot image.code (sizes_of (take f program.functions)) (sites_of (take f program.functions)) f (quads_in program f) =
      subst (λ n. FunctionTail slot image.code n (sites_of (take f program.functions)) f (quads_in program f)) a
      (subst (λ n. FunctionTail slot image.code (0 + sizes_of (take f program.functions)) n f (quads_in program f)) b
      (subst (λ n. FunctionTail slot image.code (0 + sizes_of (take f program.functions)) (0 + sites_of (take f program.functions)) n (quads_in program f)) c
      (subst (λ quads. FunctionTail slot image.code (0 + sizes_of (take f program.functions)) (0 + sites_of (take f program.functions)) (0 + f) quads) d there))) in
      record {
        rest = whole.rest;
        tail = tail_at (slot f) (place program f) image.code (quads_in program f) at (sizes_of (take f program.functions)) (sites_of (take f program.functions)) all_own whole.rest most whole.tail;
      }

  -- the code of the quad itself
  part_tail : (f at : ℕ) (q : Quad) → Known program f → quad_at program f at ≡ Some q →
      (rest : List Instr) × Tail image.code (place program f at) (site_at program f at) (quad_code (slot f) (place program f) (own_in program f at) q ++ rest)
  part_tail f at q k here =
      let quads = quads_in program f in
      let inside = element_inside quads at q here in
      let t = quad_tail f at k (omega (arith, inside)) in
      let part = quad_code (slot f) (place program f) (own_in program f at) q in
      let more = code_from (slot f) (place program f) (own_behind (own_in program f at) q (drop (suc at) quads)) (drop (suc at) quads) in (
        more ++ t.rest,
        tail_is image.code (place program f at) (site_at program f at) (code_from (slot f) (place program f) (own_in program f at) (drop at quads) ++ t.rest) (part ++ (more ++ t.rest))
            (ap (λ quads. code_from (slot f) (place program f) (own_in program f at) quads ++ t.rest) (rest_from quads at q here) ∙ append_assoc part more t.rest) t.tail,
      )

  line_is : (f at k : ℕ) (q : Quad) → Known program f → quad_at program f at ≡ Some q → k < size q → slice_index image.lines (place program f at + k) ≡ line_at program f at
  line_is f at k q known_f here below =
      let g = known_f.function in
      let same : quads_in program f ≡ g.quads = ap quads_of known_f.found in
      let here_g : slice_get g.quads at ≡ Some q = ap (λ quads. slice_get quads at) (sym same) ∙ here in
      let lines_long : (f : ℕ) (g : QuadFunction) → slice_get program.functions f ≡ Some g → length g.lines ≡ length g.quads =
      λ f g found. (subst (λ (x : QuadFunction). length x.lines ≡ length x.quads) (get_or_from_slice_get program.functions f g g found) (well.functions f g (slice_get_within program.functions f g found)).lines) in
      let front = size_of (take at g.quads) in
      let next = sum_next size g.quads at q here_g in
      let fits = sum_by-take-le size g.quads (suc at) in
      let inside : front + k < size_of g.quads = omega (arith, next, fits, below) in
      let e : place program f at + k ≡ sizes_of (take f program.functions) + (front + k) = (let moved : place program f at ≡ sizes_of (take f program.functions) + front = ap (λ quads. sizes_of (take f program.functions) + size_of (take at quads)) same in omega (arith, moved)) in
      ap (slice_index image.lines) e ∙ ap (λ lines. slice_index lines (sizes_of (take f program.functions) + (front + k))) is.lines ∙
      line_of_function program.functions f (front + k) g lines_long known_f.found inside ∙ line_in g.quads g.lines at k q (lines_long f g known_f.found) here_g below ∙
      sym (ap (λ o. slice_index (lines_of o) at) known_f.found)

  code_there : (f at : ℕ) (q : Quad) → quad_at program f at ≡ Some q → HasCode image (line_at program f at) (place program f at) (quad_code (slot f) (place program f) (own_in program f at) q)
  code_there f at q here =
      let k = known program well f at (element_inside (quads_in program f) at q here) in
      let t = part_tail f at q k here in
      let part = quad_code (slot f) (place program f) (own_in program f at) q in
      let long = length_of (slot f) (place program f) (own_in program f at) q in
      has_code image (line_at program f at) part t.0 (place program f at) (site_at program f at) t.1 (λ j below. line_is f at j q k here (omega (arith, below, long)))

  starts_there : (f : ℕ) → f < length program.functions → start_of image f ≡ place program f 0
  starts_there f below =
      let g = element program.functions f below in
      let e : 0 + sizes_of (take f program.functions) ≡ place program f 0 = omega arith in
      ap (λ (entries : List FunctionEntry). option_map_or (λ entry. entry.start) (slice_get entries f) 0) is.functions ∙ ap (λ (o : Option FunctionEntry). option_map_or (λ entry. entry.start) o 0) (entry_is program.functions f 0 g.0 g.1) ∙ e

  site_there : (f at : ℕ) (low high : Operand) → quad_at program f at ≡ Some (quad.Spawn low high) → site_of image (place program f at + 1 + 1) ≡ site_at program f at
  site_there f at low high here =
      let q = quad.Spawn low high in
      let k = known program well f at (element_inside (quads_in program f) at q here) in
      let t = part_tail f at q k here in
      let own = own_in program f at in
      let bounds = fetch (slot f) (place program f) own 3 low ∷ fetch (slot f) (place program f) own 4 high ∷ [] in
      let none = quiet_count bounds (bounds_quiet (slot f) (place program f) own low high) in
      let behind = tail_more image.code (place program f at) (site_at program f at) 2 0 bounds (instr 44 3 4 0 0 ∷ t.0) t.1 refl none in
      let a : place program f at + 1 + 1 ≡ place program f at + 2 = omega arith in
      let b : site_at program f at + 0 ≡ site_at program f at = omega arith in
      ap (site_of image) a ∙ spawns_before image.code (place program f at + 2) (site_at program f at + 0) (instr 44 3 4 0 0 ∷ t.0) behind ∙ b

  joins_there : (f spawn join : ℕ) → IsBlock (quads_in program f) spawn join → isa.behind_join image (place program f (spawn + 1)) ≡ place program f (join + 1)
  joins_there f spawn join block =
      let quads = quads_in program f in
      let order = block.order in
      let inside = element_inside quads join quad.Join block.joins in
      let k = known program well f join inside in
      let t = quad_tail f (spawn + 1) k (omega (arith, order, inside)) in
      let gap = join - (spawn + 1) in
      let rest = drop (spawn + 1) quads in
      let whole : spawn + 1 + gap ≡ join = omega (arith, order) in
      let here : slice_get rest gap ≡ Some quad.Join = element_of_rest quads (spawn + 1) gap ∙ ap (slice_get quads) whole ∙ block.joins in
      let own = own_in program f (spawn + 1) in
      let code = code_from (slot f) (place program f) own rest ++ t.rest in
      let stands = join_position (slot f) (place program f) rest gap own t.rest here (λ j q less at_j. plain j q less (sym (element_of_rest quads (spawn + 1) j) ∙ at_j)) in
      let long = length_code (slot f) (place program f) rest own in
      let more = length-append (code_from (slot f) (place program f) own rest) t.rest in
      let next = sum_next size rest gap quad.Join here in
      let fits = sum_by-take-le size rest (suc gap) in
      let found = position_at code (size_of (take gap rest)) stands (omega (arith, long, more, next, fits)) in
      let past = sum_past size quads (spawn + 1) (suc gap) in
      let end : spawn + 1 + suc gap ≡ join + 1 = omega (arith, whole) in
      let sums : size_of (take (join + 1) quads) ≡ size_of (take (spawn + 1) quads) + size_of (take (suc gap) rest) = ap (λ n. size_of (take n quads)) (sym end) ∙ past in
      let after : isa.behind_join image (place program f (spawn + 1)) ≡ place program f (spawn + 1) + (size_of (take gap rest) + 1) =
      ap (λ code. place program f (spawn + 1) + option_map_or (λ k. k + 1) (position is_join code) 0) (rest_is image.code (place program f (spawn + 1)) (site_at program f (spawn + 1)) code t.tail) ∙
      ap (λ o. place program f (spawn + 1) + option_map_or (λ k. k + 1) o 0) found in
      after ∙ omega (arith, next, sums)
    where
      plain : (j : ℕ) (q : Quad) → j < join - (spawn + 1) → slice_get (quads_in program f) (spawn + 1 + j) ≡ Some q → IsPlain q
      plain j q less at_j = plain_between (quads_in program f) (spawn + 1 + j) q at_j (block.between (spawn + 1 + j) (omega arith) (omega (arith, less)))

  -- ---- slots

  home_of : (f : ℕ) (g : QuadFunction) → slice_get program.functions f ≡ Some g → (h : List Home) × (slice_get homes f ≡ Some h) × (length h ≡ g.registers)
  home_of f g found = by (slice_get homes f) refl
    where
      counted : option_map (λ (h : List Home). length h) (slice_get homes f) ≡ Some g.registers
      counted =
          sym (slice_get-map (λ (h : List Home). length h) homes f) ∙ ap (λ counts. slice_get counts f) allocation.one_for_each ∙ slice_get-map (λ (g : QuadFunction). g.registers) program.functions f ∙
          ap (option_map (λ (g : QuadFunction). g.registers)) found

      by : (o : Option (List Home)) → slice_get homes f ≡ o → (h : List Home) × (slice_get homes f ≡ Some h) × (length h ≡ g.registers)
      by None e = absurd (let none : None ≡ Some g.registers = ap (option_map (λ (h : List Home). length h)) (sym e) ∙ counted in cc)
      by (Some h) e = (h, e, let same : Some (length h) ≡ Some g.registers = ap (option_map (λ (h : List Home). length h)) (sym e) ∙ counted in cc)

  slots_there : (f : ℕ) (g : QuadFunction) → slice_get program.functions f ≡ Some g → HasSlots (slot f) g.registers
  slots_there f g found =
      let h = home_of f g found in
      let own : HasOwnSlots h.0 = subst HasOwnSlots (get_or_from_slice_get homes f h.0 h.0 h.1) (own_slots f h.0 (slice_get_within homes f h.0 h.1)) in
      let are : All IsHome h.0 = subst (λ (x : List Home). All IsHome x) (get_or_from_slice_get homes f h.0 h.0 h.1) (allocation.are_homes f h.0 (slice_get_within homes f h.0 h.1)) in
      let slot_is : (r : ℕ) → slot f r ≡ slot_of (slice_get h.0 r) = λ r. ap (λ o. slot_of (option_and_then (λ of_function. slice_get of_function r) o)) h.1 in
      let long = h.2 in
      let there : (r : ℕ) → r < g.registers → slice_get h.0 r ≡ Some (Slot (slot f r)) =
      λ r below.
      let s = own.slots r (omega (arith, below, long)) in
      s.1 ∙ ap (λ s. Some (Slot s)) (sym (slot_is r ∙ ap slot_of s.1)) in
      record {
        low = λ r below.
            let home : IsHome (Slot (slot f r)) = subst IsHome (get_or_from_slice_get h.0 r (Slot (slot f r)) (Slot (slot f r)) (there r below)) (are r (Slot (slot f r)) (omega (arith, below, long))) in
            let low : slot f r < 456 = home in
            omega (arith, low);
        apart = λ r other below below' same. own.own r other (omega (arith, below, long)) (there r below ∙ ap (λ s. Some (Slot s)) same ∙ sym (there other below'));
      }

  text_is : (o : Option (List ℕ)) → unwrap_or o [] ≡ text_of o
  text_is None = refl
  text_is (Some text) = refl

  pub laid : Laid program slot image
  laid =
      record {
        code = code_there;
        starts = starts_there;
        sites = site_there;
        joins = joins_there;
        words = ap (λ (xs : List ℕ). length xs) is.words;
        outer = is.outer;
        texts = λ text. ap (λ texts. unwrap_or (slice_get texts text) []) is.texts ∙ text_is (slice_get program.texts text);
        slots = slots_there;
      }
