-- How the frames of a unit hold the registers of a thread of quads, and where a thread may stand.
use Rattle.std.proofs.Common.{◌≡◌, ◌≢◌, refl, sym, ◌∙◌, ap, subst, arith, ℕ, zero, suc, ◌+◌, ◌-◌, ◌*◌, ◌<◌, ◌≤◌, List, length, drop, set, Option, Some, None, true, false, inl, inr}
use Rattle.std.specs.Prelude.{◌⊎◌, ◌==◌, if◌then◌else◌, Bool, IsSomeAnd, slice_get, slice_index}
use Rattle.std.proofs.lemmas.List.{get_or-set_same, get_or-set_other}
use Rattle.std.proofs.lemmas.Bool.Decides.{eqb_tells}
use Rattle.xmt_isa.specs.declared.unit.Start.{Start}
use Rattle.xmt_quads.specs.declared.code.Quad.{Quad}
use Rattle.xmt_quads.specs.declared.code.Quad.TheVariants as quad
use Rattle.xmt_quads.specs.declared.code.QuadProgram.{QuadProgram}
use Rattle.xmt_quads.specs.Program.{quads_in, quad_at}
use Rattle.xmt_quads.specs.Meaning.{Registers, with_register}
use Rattle.xmt_quads.specs.Live.{writes}
use Rattle.xmt_quads.specs.Regions.{IsReturn, IsInBlock, IsInner, Jumps}
use Rattle.quad_images.specs.Image.{all_own}
use Rattle.quad_image_places.proofs.Own.{IsPlain, own_next, own_plain, own_inside, own_outside, outside_next, inside_next, some_is, element_inside, element_of_rest, written_here, plain_no_join}
use Rattle.quad_image_places.proofs.Laid.{HasSlots, Known, own_in}

-- ---- where a thread goes on

-- with these quads a function may end
abbrev pub MayEnd : Quad → Type 0
MayEnd (quad.Jump to) = Unit {0}
MayEnd (quad.Return o) = Unit {0}
MayEnd q = ⊥

-- it goes on to the next quad, and no block begins or ends
abbrev pub IsStep : Quad → Type 0
IsStep (quad.Jump to) = ⊥
IsStep (quad.Return o) = ⊥
IsStep (quad.Spawn low high) = ⊥
IsStep quad.Join = ⊥
IsStep q = Unit {0}

pub step_plain : (q : Quad) → IsStep q → IsPlain q
step_plain (quad.Spawn low high) step = step
step_plain quad.Join step = step
step_plain _ step = tt

step_goes_on : (q : Quad) → IsStep q → MayEnd q → ⊥
step_goes_on (quad.Jump to) step end = step
step_goes_on (quad.Return o) step end = step
step_goes_on _ step end = end

module _ (program : QuadProgram) where
  -- Where a call at a depth stands: in serial code outside all blocks; in a virtual thread inside a block, and what that calls in functions that blocks may call.
  abbrev pub IsPlaced : (parent : Option ℕ) → (depth f at : ℕ) → Type 0
  IsPlaced None depth f at = ¬ (IsInBlock (quads_in program f) at)
  IsPlaced (Some d) zero f at = IsInBlock (quads_in program f) at
  IsPlaced (Some d) (suc depth) f at = IsInner program f

  -- from one position to another, with the same registers in the thread's own frame
  pub record Leads (parent : Option ℕ) (depth f at to : ℕ) : Type 0 where
    pub inside : to < length (quads_in program f)
    pub placed : IsPlaced parent depth f to
    pub own : own_in program f to ≡ own_in program f at

  module _ {f : ℕ} (k : Known program f) where
    -- a function ends with a jump or a return
    pub not_last : (at : ℕ) (q : Quad) → quad_at program f at ≡ Some q → (MayEnd q → ⊥) → at + 1 < length (quads_in program f)
    not_last at q here goes_on =
        let ends = k.well.regions.ends in
        let inside = element_inside (quads_in program f) at q here in
        by ends.0 ends.1 ends.2 inside (eqb_tells ends.0 at)
      where
        never : (last : ℕ) → last ≡ at → ((to : ℕ) × (slice_get (quads_in program f) last ≡ Some (quad.Jump to))) ⊎ IsReturn (quads_in program f) last → ⊥
        never last same (inl (to, is)) = goes_on (subst MayEnd (some_is (quad.Jump to) q (sym is ∙ ap (slice_get (quads_in program f)) same ∙ here)) tt)
        never last same (inr (o, is)) = goes_on (subst MayEnd (some_is (quad.Return o) q (sym is ∙ ap (slice_get (quads_in program f)) same ∙ here)) tt)

        by : (last : ℕ) → last + 1 ≡ length (quads_in program f) → ((to : ℕ) × (slice_get (quads_in program f) last ≡ Some (quad.Jump to))) ⊎ IsReturn (quads_in program f) last → at < length (quads_in program f) →
            (((last == at) ≡ true) × (last ≡ at)) ⊎ (((last == at) ≡ false) × (¬ (last ≡ at))) → at + 1 < length (quads_in program f)
        by last long ends inside (inl same) = absurd (never last same.1 ends)
        by last long ends inside (inr other) = omega (arith, long, inside, other.1)

    -- no block stands in a function that blocks may call
    inner_outside : (at : ℕ) → IsInner program f → ¬ (IsInBlock (quads_in program f) at)
    inner_outside at inner (spawn, join, block, inside) =
        let is : k.function.inner ≡ true = subst (λ o. IsSomeAnd o (λ f. f.inner ≡ true)) k.found inner in
        k.well.regions.in_inner is spawn (inl block.spawns)

    own_outer : (at : ℕ) → at < length (quads_in program f) → ¬ (IsInBlock (quads_in program f) at) → own_in program f at ≡ all_own
    own_outer at inside outside = own_outside (quads_in program f) k.well.regions.spawn_joins at inside outside

    -- outside a block all registers are the thread's own
    pub own_serial : (depth at : ℕ) → at < length (quads_in program f) → IsPlaced None depth f at → own_in program f at ≡ all_own
    own_serial depth at inside placed = own_outer at inside placed

    next_own : (at : ℕ) (q : Quad) → quad_at program f at ≡ Some q → IsPlain q → own_in program f (at + 1) ≡ own_in program f at
    next_own at q here plain =
        let e : at + 1 ≡ suc at = omega arith in
        ap (own_in program f) e ∙ own_next all_own (quads_in program f) at q here ∙ own_plain (own_in program f at) q _ plain

    next_placed : (parent : Option ℕ) (depth at : ℕ) (q : Quad) → quad_at program f at ≡ Some q → IsPlain q → IsPlaced parent depth f at → IsPlaced parent depth f (at + 1)
    next_placed None depth at q here plain placed = outside_next (quads_in program f) at q here plain placed
    next_placed (Some d) zero at q here plain (spawn, join, block, inside) = (spawn, join, block, inside_next (quads_in program f) spawn join at q here plain block inside)
    next_placed (Some d) (suc depth) at q here plain placed = placed

    -- to the next quad
    pub leads_next : (parent : Option ℕ) (depth at : ℕ) (q : Quad) → quad_at program f at ≡ Some q → IsStep q → IsPlaced parent depth f at → Leads parent depth f at (at + 1)
    leads_next parent depth at q here step placed =
        record {
          inside = not_last at q here (step_goes_on q step);
          placed = next_placed parent depth at q here (step_plain q step) placed;
          own = next_own at q here (step_plain q step);
        }

    -- and where a jump leads
    pub leads_jump : (parent : Option ℕ) (depth at to : ℕ) → at < length (quads_in program f) → to < length (quads_in program f) → Jumps (quads_in program f) at to → IsPlaced parent depth f at → Leads parent depth f at to
    leads_jump None depth at to below inside jumps placed =
        let outside : ¬ (IsInBlock (quads_in program f) to) = λ b. placed (b.0, b.1, b.2, (k.well.regions.jumps b.0 b.1 at to b.2 jumps).1 b.3) in
        record { inside = inside; placed = outside; own = own_outer to inside outside ∙ sym (own_outer at below placed) }
    leads_jump (Some d) zero at to below inside jumps (spawn, join, block, within) =
        let there = (k.well.regions.jumps spawn join at to block jumps).0 within in
        record {
          inside = inside;
          placed = (spawn, join, block, there);
          own = own_inside (quads_in program f) all_own spawn join to block there.0 there.1 ∙ sym (own_inside (quads_in program f) all_own spawn join at block within.0 within.1);
        }
    leads_jump (Some d) (suc depth) at to below inside jumps placed =
        record { inside = inside; placed = placed; own = own_outer to inside (inner_outside to placed) ∙ sym (own_outer at below (inner_outside at placed)) }

    -- a register that is written is the thread's own
    pub own_written : (parent : Option ℕ) (depth at r : ℕ) (q : Quad) → quad_at program f at ≡ Some q → IsPlain q → IsPlaced parent depth f at → writes r q ≡ true → own_in program f at r ≡ true
    own_written None depth at r q here plain placed is = ap (λ own. own r) (own_outer at (element_inside (quads_in program f) at q here) placed)
    own_written (Some d) (suc depth) at r q here plain placed is = ap (λ own. own r) (own_outer at (element_inside (quads_in program f) at q here) (inner_outside at placed))
    own_written (Some d) zero at r q here plain (spawn, join, block, within) is =
        let quads = quads_in program f in
        let above = within.0 in
        let gap = at - suc spawn in
        let whole : suc spawn + gap ≡ at = omega (arith, above) in
        let there : slice_get (drop (suc spawn) quads) gap ≡ Some q = element_of_rest quads (suc spawn) gap ∙ ap (slice_get quads) whole ∙ here in
        ap (λ own. own r) (own_inside quads all_own spawn join at block within.0 within.1) ∙
        written_here (drop (suc spawn) quads) r gap q there is (λ j less joined. by_place j less (eqb_tells (suc spawn + j) at) (sym (element_of_rest quads (suc spawn) j) ∙ joined))
      where
        by_place : (j : ℕ) → j ≤ at - suc spawn → (((suc spawn + j == at) ≡ true) × (suc spawn + j ≡ at)) ⊎ (((suc spawn + j == at) ≡ false) × (¬ (suc spawn + j ≡ at))) → slice_get (quads_in program f) (suc spawn + j) ≡ Some quad.Join → ⊥
        by_place j less (inl same) joined = plain_no_join (quads_in program f) at q here plain (ap (slice_get (quads_in program f)) (sym same.1) ∙ joined)
        by_place j less (inr other) joined =
            let above = within.0 in
            let most = within.1 in
            block.between (suc spawn + j) (omega arith) (omega (arith, less, other.1, above, most)) (inr joined)

-- ---- the frames

-- what a register holds: in a slot of a frame, or of the master's frame at the spawn
abbrev pub home_value : Start → (frames : List ℕ) → (depth : ℕ) → (own : Bool) → (slot : ℕ) → ℕ
home_value start frames depth own slot = if own then slice_index frames (512 * depth + slot) else slice_index start.frame slot

module _ (program : QuadProgram) (slot : ℕ → ℕ → ℕ) where
  -- the call at this depth stands there, and its registers are in its frame
  pub record Frame (start : Start) (frames : List ℕ) (parent : Option ℕ) (depth f at : ℕ) (registers : Registers) : Type 0 where
    pub known : Known program f
    pub inside : at < length (quads_in program f)
    pub placed : IsPlaced program parent depth f at
    pub holds : (r : ℕ) → r < known.function.registers → registers r ≡ home_value start frames depth (own_in program f at r) (slot f r)

  pub frame_moved : (start : Start) (frames : List ℕ) (parent : Option ℕ) (depth f at to : ℕ) (registers : Registers) → Frame start frames parent depth f at registers → Leads program parent depth f at to → Frame start frames parent depth f to registers
  frame_moved start frames parent depth f at to registers h leads =
      record {
        known = h.known;
        inside = leads.inside;
        placed = leads.placed;
        holds = λ r low. h.holds r low ∙ ap (λ own. home_value start frames depth (own r) (slot f r)) (sym leads.own);
      }

  module _ (slots : (f : ℕ) (k : Known program f) → HasSlots (slot f) k.function.registers) where
    -- a deeper frame is written
    pub frame_below : (start : Start) (frames : List ℕ) (parent : Option ℕ) (depth deeper f at s v : ℕ) (registers : Registers) → depth < deeper → Frame start frames parent depth f at registers → Frame start (set frames (512 * deeper + s) v) parent depth f at registers
    frame_below start frames parent depth deeper f at s v registers less h =
        record { known = h.known; inside = h.inside; placed = h.placed; holds = λ r low. h.holds r low ∙ by (own_in program f at r) (slot f r) ((slots f h.known).low r low) }
      where
        by : (own : Bool) (i : ℕ) → i < 512 → home_value start frames depth own i ≡ home_value start (set frames (512 * deeper + s) v) depth own i
        by true i low =
            let apart : 512 * depth + i ≢ 512 * deeper + s = λ e. omega (arith, e, less, low) in
            sym (get_or-set_other frames (512 * deeper + s) (512 * depth + i) v 0 apart)
        by false i low = refl

    -- the frame itself is written
    pub frame_written : (start : Start) (frames : List ℕ) (parent : Option ℕ) (depth f at to r v : ℕ) (registers : Registers) (h : Frame start frames parent depth f at registers) → Leads program parent depth f at to → r < h.known.function.registers → own_in program f at r ≡ true →
        512 * depth + 512 ≤ length frames → Frame start (set frames (512 * depth + slot f r) v) parent depth f to (with_register registers r v)
    frame_written start frames parent depth f at to r v registers h leads below own room =
        record {
          known = h.known;
          inside = leads.inside;
          placed = leads.placed;
          holds = λ x low. by x low (eqb_tells r x) ∙ ap (λ own. home_value start (set frames (512 * depth + slot f r) v) depth (own x) (slot f x)) (sym leads.own);
        }
      where
        here : home_value start (set frames (512 * depth + slot f r) v) depth (own_in program f at r) (slot f r) ≡ v
        here =
            let low = (slots f h.known).low r below in
            ap (λ own. home_value start (set frames (512 * depth + slot f r) v) depth own (slot f r)) own ∙ get_or-set_same frames (512 * depth + slot f r) v 0 (omega (arith, low, room))

        there : (x : ℕ) (own : Bool) → slot f x ≢ slot f r → home_value start frames depth own (slot f x) ≡ home_value start (set frames (512 * depth + slot f r) v) depth own (slot f x)
        there x true apart = sym (get_or-set_other frames (512 * depth + slot f r) (512 * depth + slot f x) v 0 (λ e. apart (omega (arith, e))))
        there x false apart = refl

        by : (x : ℕ) → x < h.known.function.registers → (((r == x) ≡ true) × (r ≡ x)) ⊎ (((r == x) ≡ false) × (¬ (r ≡ x))) → with_register registers r v x ≡ home_value start (set frames (512 * depth + slot f r) v) depth (own_in program f at x) (slot f x)
        by x low (inl same) = ap (λ b. if b then v else registers x) same.0 ∙ sym here ∙ ap (λ x. home_value start (set frames (512 * depth + slot f r) v) depth (own_in program f at x) (slot f x)) same.1
        by x low (inr other) =
            ap (λ b. if b then v else registers x) other.0 ∙ h.holds x low ∙
            there x (own_in program f at x) (λ e. other.1 ((slots f h.known).apart r x below low (sym e)))
