-- Each instruction of the image belongs to a quad.
use Rattle.std.proofs.Common.{◌≡◌, refl, sym, ◌∙◌, ap, subst, arith, ℕ, zero, suc, ◌+◌, ◌-◌, ◌<◌, ◌≤◌, List, [], ◌∷◌, length, length-append, take, Some, None, true, false, inl, inr}
use Rattle.std.specs.Prelude.{◌⊎◌, nat_le, sum_by, slice_get}
use Rattle.std.specs.Option.{option_map_or}
use Rattle.std.proofs.lemmas.Bool.Decides.{leb_tells}
use Rattle.std.proofs.lemmas.List.{take_all}
use Rattle.std.proofs.lemmas.List.Sums.{sum_by-cons, sum_by-take-le}
use Rattle.std.proofs.lemmas.Option.{slice_get_past}
use Rattle.xmt_isa.specs.declared.image.FunctionEntry.{FunctionEntry}
use Rattle.xmt_isa.specs.declared.image.Image.{Image}
use Rattle.xmt_isa.specs.declared.image.Instr.{Instr}
use Rattle.xmt_isa.specs.Image.{start_of, end_of, IsIn}
use Rattle.xmt_quads.specs.declared.code.Quad.{Quad}
use Rattle.xmt_quads.specs.declared.code.QuadFunction.{QuadFunction}
use Rattle.xmt_quads.specs.declared.code.QuadProgram.{QuadProgram}
use Rattle.xmt_quads.specs.Program.{quads_of, quads_in, quad_at, line_at}
use Rattle.quad_images.specs.Instructions.{quad_code, size}
use Rattle.quad_images.specs.Image.{size_of, all_own, begins_in, function_code, codes_from, entries_from}
use Rattle.quad_image_places.proofs.Own.{element}
use Rattle.quad_image_places.proofs.Tails.{sizes_of, sum_next, sum_past, length_code, entry_is}
use Rattle.quad_image_places.proofs.Laid.{HasCode, Laid, place, own_in}

-- ---- sums along a list

-- the element that a place within the sum belongs to
record Part {X : Type 0} (f : X → ℕ) (xs : List X) (at : ℕ) : Type 0 where
  index : ℕ
  x : X
  here : slice_get xs index ≡ Some x
  offset : ℕ
  within : offset < f x
  is : at ≡ sum_by f (take index xs) + offset

part_at : {X : Type 0} (f : X → ℕ) (xs : List X) (at : ℕ) → at < sum_by f xs → Part f xs at
part_at f [] at below = absurd (omega (arith, below))
part_at f (x ∷ xs) at below = by (leb_tells (f x) at) (λ rest. part_at f xs (at - f x) rest)
  where
    sum : sum_by f (x ∷ xs) ≡ f x + sum_by f xs
    sum = sum_by-cons f x xs

    by : ((nat_le (f x) at ≡ true) × (f x ≤ at)) ⊎ ((nat_le (f x) at ≡ false) × (at < f x)) → (at - f x < sum_by f xs → Part f xs (at - f x)) → Part f (x ∷ xs) at
    by (inr low) rest = let less = low.1 in record { index = 0; x = x; here = refl; offset = at; within = less; is = omega arith }
    by (inl high) rest =
        let more = high.1 in
        let p = rest (omega (arith, more, below, sum)) in
        let there = p.is in
        let front = sum_by-cons f x (take p.index xs) in
        record { index = suc p.index; x = p.x; here = p.here; offset = p.offset; within = p.within; is = omega (arith, there, front, more) }

pub sum_grows : {X : Type 0} (f : X → ℕ) (xs : List X) (m n : ℕ) → m ≤ n → sum_by f (take m xs) ≤ sum_by f (take n xs)
sum_grows f xs m n less =
    let gap = n - m in
    let whole : m + gap ≡ n = omega (arith, less) in
    let sum = sum_past f xs m gap in
    let end : sum_by f (take (m + gap) xs) ≡ sum_by f (take n xs) = ap (λ k. sum_by f (take k xs)) whole in
    omega (arith, sum, end)

-- ---- lengths

pub length_codes : (slot : ℕ → ℕ → ℕ) (start number : ℕ) (functions : List QuadFunction) → length (codes_from slot start number functions) ≡ sizes_of functions
length_codes slot start number [] = refl
length_codes slot start number (f ∷ functions) =
    omega (
      arith,
      length-append (function_code (slot number) start f.quads) (codes_from slot (start + size_of f.quads) (number + 1) functions),
      length_code (slot number) (begins_in start f.quads) f.quads all_own,
      length_codes slot (start + size_of f.quads) (number + 1) functions,
      sum_by-cons (λ (f : QuadFunction). size_of f.quads) f functions,
    )

pub length_entries : (start : ℕ) (functions : List QuadFunction) → length (entries_from start functions) ≡ length functions
length_entries start [] = refl
length_entries start (f ∷ functions) = ap suc (length_entries (start + size_of f.quads) functions)

-- ---- in the image

module _ (program : QuadProgram) (slot : ℕ → ℕ → ℕ) (image : Image) (laid : Laid program slot image) (long : length image.code ≡ sizes_of program.functions) (entries : image.functions ≡ entries_from 0 program.functions) where
  -- the quad to which an instruction belongs, and the how manieth of its instructions it is
  pub record Located (at : ℕ) : Type 0 where
    pub f : ℕ
    pub position : ℕ
    pub q : Quad
    pub here : quad_at program f position ≡ Some q
    pub offset : ℕ
    pub within : offset < size q
    pub is : at ≡ place program f position + offset

  pub located : (at : ℕ) → at < length image.code → Located at
  located at below =
      let g = part_at (λ (f : QuadFunction). size_of f.quads) program.functions at (omega (arith, below, long)) in
      let q = part_at size g.x.quads g.offset g.within in
      let same : g.x.quads ≡ quads_in program g.index = sym (ap quads_of g.here) in
      let first = g.is in
      let second = q.is in
      let moved : place program g.index q.index ≡ sizes_of (take g.index program.functions) + size_of (take q.index g.x.quads) = ap (λ quads. sizes_of (take g.index program.functions) + size_of (take q.index quads)) (sym same) in
      record {
        f = g.index;
        position = q.index;
        q = q.x;
        here = ap (λ quads. slice_get quads q.index) (sym same) ∙ q.here;
        offset = q.offset;
        within = q.within;
        is = omega (arith, first, second, moved);
      }

  -- what stands there is the instruction of the quad
  pub instruction_there : (f position offset : ℕ) (q : Quad) (i : Instr) → quad_at program f position ≡ Some q → slice_get (quad_code (slot f) (place program f) (own_in program f position) q) offset ≡ Some i → slice_get image.code (place program f position + offset) ≡ Some i
  instruction_there f position offset q i here is = by (quad_code (slot f) (place program f) (own_in program f position) q) (place program f position) offset (laid.code f position q here) is
    where
      by : (part : List Instr) (at offset : ℕ) → HasCode image (line_at program f position) at part → slice_get part offset ≡ Some i → slice_get image.code (at + offset) ≡ Some i
      by [] at offset code is = cc
      by (x ∷ part) at zero code is = (let e : at + 0 ≡ at = omega arith in ap (slice_get image.code) e) ∙ code.0 ∙ is
      by (x ∷ part) at (suc offset) code is = (let e : at + suc offset ≡ at + 1 + offset = omega arith in ap (slice_get image.code) e) ∙ by part (at + 1) offset code.2 is

  -- ---- functions

  pub count_is : length image.functions ≡ length program.functions
  count_is = ap (λ (es : List FunctionEntry). length es) entries ∙ length_entries 0 program.functions

  pub start_is : (f : ℕ) → f < length program.functions → start_of image f ≡ sizes_of (take f program.functions)
  start_is f below = let e : place program f 0 ≡ sizes_of (take f program.functions) = omega arith in laid.starts f below ∙ e

  pub end_is : (f : ℕ) → f < length program.functions → end_of image f ≡ sizes_of (take (suc f) program.functions)
  end_is f below = by (leb_tells (length program.functions) (f + 1))
    where
      next : f + 1 ≡ suc f
      next = omega arith

      by : ((nat_le (length program.functions) (f + 1) ≡ true) × (length program.functions ≤ f + 1)) ⊎ ((nat_le (length program.functions) (f + 1) ≡ false) × (f + 1 < length program.functions)) → end_of image f ≡ sizes_of (take (suc f) program.functions)
      by (inl last) =
          let most = last.1 in
          ap (λ o. option_map_or (λ (e : FunctionEntry). e.start) o (length image.code)) (slice_get_past image.functions (f + 1) (omega (arith, most, count_is))) ∙ long ∙
          ap sizes_of (sym (take_all (suc f) program.functions (omega (arith, most))))
      by (inr more) =
          let g = element program.functions (f + 1) more.1 in
          let e : 0 + sizes_of (take (f + 1) program.functions) ≡ sizes_of (take (f + 1) program.functions) = omega arith in
          ap (λ entries. option_map_or (λ (e : FunctionEntry). e.start) (slice_get entries (f + 1)) (length image.code)) entries ∙
          ap (λ o. option_map_or (λ (e : FunctionEntry). e.start) o (length image.code)) (entry_is program.functions (f + 1) 0 g.0 g.1) ∙ e ∙
          ap (λ n. sizes_of (take n program.functions)) next

  -- ---- the function of an instruction

  function_below : (f position : ℕ) (q : Quad) → quad_at program f position ≡ Some q → f < length program.functions
  function_below f position q here = by (leb_tells (length program.functions) f)
    where
      by : ((nat_le (length program.functions) f ≡ true) × (length program.functions ≤ f)) ⊎ ((nat_le (length program.functions) f ≡ false) × (f < length program.functions)) → f < length program.functions
      by (inr below) = below.1
      by (inl past) = absurd (never (sym (ap (λ o. slice_get (quads_of o) position) (slice_get_past program.functions f past.1)) ∙ here))
        where
          never : slice_get [] position ≡ Some q → ⊥
          never e = let none : None ≡ Some q = e in cc

  -- from its start on and before its end
  range_of : (f position offset : ℕ) (q : Quad) → quad_at program f position ≡ Some q → offset < size q →
      (sizes_of (take f program.functions) ≤ place program f position + offset) × (place program f position + offset < sizes_of (take (suc f) program.functions))
  range_of f position offset q here within =
      let g = element program.functions f (function_below f position q here) in
      let same : quads_in program f ≡ g.0.quads = ap quads_of g.1 in
      let next = sum_next (λ (f : QuadFunction). size_of f.quads) program.functions f g.0 g.1 in
      let part = sum_next size (quads_in program f) position q here in
      let most = sum_by-take-le size (quads_in program f) (suc position) in
      let sizes : size_of (quads_in program f) ≡ size_of g.0.quads = ap size_of same in
      (omega arith, omega (arith, within, next, part, most, sizes))

  pub is_in : (f position offset : ℕ) (q : Quad) → quad_at program f position ≡ Some q → offset < size q → IsIn image f (place program f position + offset)
  is_in f position offset q here within =
      let below = function_below f position q here in
      let range = range_of f position offset q here within in
      let start = start_is f below in
      let end = end_is f below in
      let first = range.0 in
      let last = range.1 in
      (omega (arith, below, count_is), omega (arith, start, first), omega (arith, end, last))

  -- it is in no other function
  pub in_same : (g f position offset : ℕ) (q : Quad) → quad_at program f position ≡ Some q → offset < size q → IsIn image g (place program f position + offset) → g ≡ f
  in_same g f position offset q here within inside = by (leb_tells (suc g) f) (leb_tells (suc f) g)
    where
      low : g < length program.functions
      low = let b = inside.0 in omega (arith, b, count_is)

      sums : (m n : ℕ) → m ≤ n → sizes_of (take m program.functions) ≤ sizes_of (take n program.functions)
      sums m n less = sum_grows (λ (f : QuadFunction). size_of f.quads) program.functions m n less

      by : ((nat_le (suc g) f ≡ true) × (suc g ≤ f)) ⊎ ((nat_le (suc g) f ≡ false) × (f < suc g)) → ((nat_le (suc f) g ≡ true) × (suc f ≤ g)) ⊎ ((nat_le (suc f) g ≡ false) × (g < suc f)) → g ≡ f
      by (inl before) other =
          let grows = sums (suc g) f before.1 in
          let end = end_is g low in
          let last = inside.2 in
          let first = (range_of f position offset q here within).0 in
          absurd (omega (arith, grows, end, last, first))
      by (inr after) (inl behind) =
          let grows = sums (suc f) g behind.1 in
          let start = start_is g low in
          let first = inside.1 in
          let last = (range_of f position offset q here within).1 in
          absurd (omega (arith, grows, start, last, first))
      by (inr after) (inr before) = let a = after.1 in let b = before.1 in omega (arith, a, b)

  pub place_same : (at : ℕ) (l : Located at) (g : ℕ) → IsIn image g at → g ≡ l.f
  place_same at l g inside = in_same g l.f l.position l.offset l.q l.here l.within (subst (IsIn image g) l.is inside)

  -- ---- positions and places

  -- a later quad begins behind an earlier one
  pub place_behind : (f position later : ℕ) (q : Quad) → quad_at program f position ≡ Some q → position < later → place program f position + size q ≤ place program f later
  place_behind f position later q here less =
      let next = sum_next size (quads_in program f) position q here in
      let grows = sum_grows size (quads_in program f) (suc position) later less in
      omega (arith, next, grows)

  pub place_not_before : (f position later : ℕ) → position ≤ later → place program f position ≤ place program f later
  place_not_before f position later less = let grows = sum_grows size (quads_in program f) position later less in omega (arith, grows)
