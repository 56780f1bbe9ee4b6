-- How a unit of the image stands to a thread of quads, and what keeps it so.
use Rattle.std.proofs.Common.{◌≡◌, ◌≢◌, refl, sym, ◌∙◌, ap, subst, arith, ℕ, suc, ◌+◌, ◌*◌, ◌<◌, ◌≤◌, List, [], ◌∷◌, length, set, Option, Some, None, true, false, inl, inr}
use Rattle.std.specs.Prelude.{◌⊎◌, ◌==◌, if◌then◌else◌, ⊤, slice_index}
use Rattle.std.proofs.lemmas.List.{length-set, get_or-set_same, get_or-set_other}
use Rattle.std.proofs.lemmas.Bool.Decides.{eqb_tells}
use Rattle.xmt_isa.specs.declared.unit.Start.{Start}
use Rattle.xmt_isa.specs.declared.unit.Unit.{Unit as MachineUnit}
use Rattle.xmt_quads.specs.declared.code.Quad.{Quad}
use Rattle.xmt_quads.specs.declared.code.QuadProgram.{QuadProgram}
use Rattle.xmt_quads.specs.Program.{quad_at}
use Rattle.xmt_quads.specs.Meaning.{Registers, Caller, QuadThread, with_register, with_next, places_from, reached_depth, quad_of}
use Rattle.xmt_quads.specs.Live.{writes}
use Rattle.quad_image_places.proofs.Laid.{HasSlots, Known, place, registers_below}
use Rattle.quad_image_law.proofs.Frames.{IsStep, step_plain, Leads, home_value, Frame, frame_moved, frame_below, frame_written, leads_next, own_serial, own_written}

-- what of a unit its thread goes by
pub record Memory : Type 0 where
  pub number : ℕ
  pub depth : ℕ
  pub back : List ℕ
  pub regs : List ℕ
  pub frames : List ℕ
  pub list : List ℕ

abbrev pub memory_of : MachineUnit → Memory
memory_of u = record { number = u.number; depth = u.depth; back = u.back; regs = u.regs; frames = u.frames; list = u.list }

-- the master for serial code, and a control unit for a thread of a block, under the depth of the spawn
abbrev pub IsThread : Start → (number : ℕ) → (parent : Option ℕ) → Type 0
IsThread start number None = number ≡ 0
IsThread start number (Some depth) = (start.depth ≡ depth) × (number ≡ 0 → ⊥)

module _ (program : QuadProgram) (slot : ℕ → ℕ → ℕ) where
  -- calls that wait have their places to go back to, and their registers in their frames
  abbrev pub CallersFit : Start → (back frames : List ℕ) → (parent : Option ℕ) → List Caller → Type 0
  CallersFit start back frames parent [] = ⊤
  CallersFit start back frames parent (c ∷ callers) =
      (slice_index back (length callers) ≡ place program c.function c.at) × Frame program slot start frames parent (length callers) c.function c.at c.registers × CallersFit start back frames parent callers

  pub record Fits (start : Start) (m : Memory) (t : QuadThread) : Type 0 where
    pub goes_on : t.ended ≡ false
    pub depth : m.depth ≡ length t.callers
    pub deep : length t.callers ≤ 256
    pub regs : length m.regs ≡ 32
    pub dollar : slice_index m.regs 1 ≡ t.number
    pub result : slice_index m.regs 2 ≡ t.result
    pub places : length m.list ≡ 16
    pub list : (k : ℕ) → k < 16 → t.list k ≡ slice_index m.list k
    pub frames : length m.frames ≡ 131584
    pub back : length m.back ≡ 256
    pub thread : IsThread start m.number t.parent
    pub here : Frame program slot start m.frames t.parent (length t.callers) t.function t.at t.registers
    pub callers : CallersFit start m.back m.frames t.parent t.callers

  -- ---- what is read off

  pub quad_is : (start : Start) (m : Memory) (t : QuadThread) (q : Quad) → Fits start m t → quad_at program t.function t.at ≡ Some q → quad_of program t ≡ Some q
  quad_is start m t q h here = ap (λ ended. if ended then None else quad_at program t.function t.at) h.goes_on ∙ here

  -- the argument list
  pub list_is : (start : Start) (m : Memory) (t : QuadThread) → Fits start m t → places_from t.list 0 16 ≡ m.list
  list_is start m t h = ap (places_from t.list 0) (sym h.places) ∙ all m.list 0 (λ k below. h.list (0 + k) (let long = h.places in omega (arith, below, long)) ∙ ap (slice_index m.list) (omega arith))
    where
      all : (xs : List ℕ) (first : ℕ) → ((k : ℕ) → k < length xs → t.list (first + k) ≡ slice_index xs k) → places_from t.list first (length xs) ≡ xs
      all [] first same = refl
      all (x ∷ xs) first same =
          let e : first + 0 ≡ first = omega arith in
          let head : t.list first ≡ x = ap t.list (sym e) ∙ same 0 (omega arith) in
          ap (λ y. y ∷ places_from t.list (suc first) (length xs)) head ∙
          ap (λ ys. x ∷ ys) (all xs (suc first) (λ k below. (let e : suc first + k ≡ first + suc k = omega arith in ap t.list e) ∙ same (suc k) (omega (arith, below))))

  -- the depth whose outer words the thread reaches
  pub depth_is : (start : Start) (m : Memory) (t : QuadThread) → Fits start m t → (if m.number == 0 then m.depth else start.depth) ≡ reached_depth t.parent t.callers
  depth_is start m t h = by t.parent h.thread
    where
      by : (parent : Option ℕ) → IsThread start m.number parent → (if m.number == 0 then m.depth else start.depth) ≡ reached_depth parent t.callers
      by None master = let is : (m.number == 0) ≡ true = grind (arith, master) in ap (λ b. if b then m.depth else start.depth) is ∙ h.depth
      by (Some d) (same, other) = let is : (m.number == 0) ≡ false = grind (arith, other) in ap (λ b. if b then m.depth else start.depth) is ∙ same

  -- ---- what keeps it

  -- a scratch register is set
  pub fits_set : (start : Start) (m : Memory) (t : QuadThread) (x v : ℕ) → 3 ≤ x → Fits start m t → Fits start (record m { regs = set m.regs x v }) t
  fits_set start m t x v scratch h =
      let first : 1 ≢ x = λ e. omega (arith, e, scratch) in
      let second : 2 ≢ x = λ e. omega (arith, e, scratch) in
      record {
        goes_on = h.goes_on;
        depth = h.depth;
        deep = h.deep;
        regs = length-set m.regs x v ∙ h.regs;
        dollar = get_or-set_other m.regs x 1 v 0 first ∙ h.dollar;
        result = get_or-set_other m.regs x 2 v 0 second ∙ h.result;
        places = h.places;
        list = h.list;
        frames = h.frames;
        back = h.back;
        thread = h.thread;
        here = h.here;
        callers = h.callers;
      }

  -- register 2 is set to what the thread is to return
  pub fits_result : (start : Start) (m : Memory) (t : QuadThread) (v : ℕ) → Fits start m t → Fits start (record m { regs = set m.regs 2 v }) (record t { result = v })
  fits_result start m t v h =
      let long = h.regs in
      record {
        goes_on = h.goes_on;
        depth = h.depth;
        deep = h.deep;
        regs = length-set m.regs 2 v ∙ h.regs;
        dollar = get_or-set_other m.regs 2 1 v 0 (λ e. omega (arith, e)) ∙ h.dollar;
        result = get_or-set_same m.regs 2 v 0 (omega (arith, long));
        places = h.places;
        list = h.list;
        frames = h.frames;
        back = h.back;
        thread = h.thread;
        here = h.here;
        callers = h.callers;
      }

  -- to another position
  pub fits_moved : (start : Start) (m : Memory) (t : QuadThread) (to : ℕ) → Fits start m t → Leads program t.parent (length t.callers) t.function t.at to → Fits start m (record t { at = to })
  fits_moved start m t to h leads =
      record {
        goes_on = h.goes_on;
        depth = h.depth;
        deep = h.deep;
        regs = h.regs;
        dollar = h.dollar;
        result = h.result;
        places = h.places;
        list = h.list;
        frames = h.frames;
        back = h.back;
        thread = h.thread;
        here = frame_moved program slot start m.frames t.parent (length t.callers) t.function t.at to t.registers h.here leads;
        callers = h.callers;
      }

  -- a place of the argument list is written
  pub fits_argument : (start : Start) (m : Memory) (t : QuadThread) (k v : ℕ) → k < 16 → Fits start m t → Fits start (record m { list = set m.list k v }) (record t { list = with_register t.list k v })
  fits_argument start m t k v low h =
      record {
        goes_on = h.goes_on;
        depth = h.depth;
        deep = h.deep;
        regs = h.regs;
        dollar = h.dollar;
        result = h.result;
        places = length-set m.list k v ∙ h.places;
        list = λ j below. by j below (eqb_tells k j);
        frames = h.frames;
        back = h.back;
        thread = h.thread;
        here = h.here;
        callers = h.callers;
      }
    where
      by : (j : ℕ) → j < 16 → (((k == j) ≡ true) × (k ≡ j)) ⊎ (((k == j) ≡ false) × (¬ (k ≡ j))) → with_register t.list k v j ≡ slice_index (set m.list k v) j
      by j below (inl same) =
          let long = h.places in
          ap (λ b. if b then v else t.list j) same.0 ∙ sym (get_or-set_same m.list k v 0 (omega (arith, low, long))) ∙ ap (slice_index (set m.list k v)) same.1
      by j below (inr other) = ap (λ b. if b then v else t.list j) other.0 ∙ h.list j below ∙ sym (get_or-set_other m.list k j v 0 (λ e. other.1 (sym e)))

  module _ (slots : (f : ℕ) (k : Known program f) → HasSlots (slot f) k.function.registers) where
    callers_below : (start : Start) (back frames : List ℕ) (parent : Option ℕ) (callers : List Caller) (deeper s v : ℕ) → length callers ≤ deeper → CallersFit start back frames parent callers → CallersFit start back (set frames (512 * deeper + s) v) parent callers
    callers_below start back frames parent [] deeper s v less h = tt
    callers_below start back frames parent (c ∷ callers) deeper s v less h = (
      h.0,
      frame_below program slot slots start frames parent (length callers) deeper c.function c.at s v c.registers (omega (arith, less)) h.1,
      callers_below start back frames parent callers deeper s v (omega (arith, less)) h.2,
    )

    -- a register is written, and the thread is at the next quad
    pub fits_written : (start : Start) (m : Memory) (t : QuadThread) (q : Quad) (r v : ℕ) → quad_at program t.function t.at ≡ Some q → IsStep q → writes r q ≡ true → Fits start m t →
        Fits start (record m { frames = set m.frames (512 * m.depth + slot t.function r) v }) (with_next t (with_register t.registers r v))
    fits_written start m t q r v here step is h =
        let leads = leads_next program h.here.known t.parent (length t.callers) t.at q here step h.here.placed in
        let below = registers_below program h.here.known t.at q here r (inr is) in
        let own = own_written program h.here.known t.parent (length t.callers) t.at r q here (step_plain q step) h.here.placed is in
        let deep = h.deep in
        let long = h.frames in
        let place = 512 * m.depth + slot t.function r in
        let same : 512 * length t.callers + slot t.function r ≡ place = ap (λ d. 512 * d + slot t.function r) (sym h.depth) in
        record {
          goes_on = h.goes_on;
          depth = h.depth;
          deep = h.deep;
          regs = h.regs;
          dollar = h.dollar;
          result = h.result;
          places = h.places;
          list = h.list;
          frames = length-set m.frames place v ∙ h.frames;
          back = h.back;
          thread = h.thread;
          here =
              subst (λ i. Frame program slot start (set m.frames i v) t.parent (length t.callers) t.function (t.at + 1) (with_register t.registers r v)) same
              (frame_written program slot slots start m.frames t.parent (length t.callers) t.function t.at (t.at + 1) r v t.registers h.here leads below own (omega (arith, deep, long)));
          callers =
              subst (λ i. CallersFit start m.back (set m.frames i v) t.parent t.callers) same
              (callers_below start m.back m.frames t.parent t.callers (length t.callers) (slot t.function r) v (omega arith) h.callers);
        }

  -- ---- another spawn

  -- in serial code no frame depends on what was broadcast
  frame_restarted : (start other : Start) (frames : List ℕ) (depth f at : ℕ) (registers : Registers) → Frame program slot start frames None depth f at registers → Frame program slot other frames None depth f at registers
  frame_restarted start other frames depth f at registers h =
      let own = own_serial program h.known depth at h.inside h.placed in
      record {
        known = h.known;
        inside = h.inside;
        placed = h.placed;
        holds = λ r low.
            h.holds r low ∙ ap (λ own. home_value start frames depth (own r) (slot f r)) own ∙ ap (λ own. home_value other frames depth (own r) (slot f r)) (sym own);
      }

  pub callers_restarted : (start other : Start) (back frames : List ℕ) (callers : List Caller) → CallersFit start back frames None callers → CallersFit other back frames None callers
  callers_restarted start other back frames [] h = tt
  callers_restarted start other back frames (c ∷ callers) h = (h.0, frame_restarted start other frames (length callers) c.function c.at c.registers h.1, callers_restarted start other back frames callers h.2)

  pub fits_restarted : (start other : Start) (m : Memory) (t : QuadThread) → t.parent ≡ None → Fits start m t → Fits other m t
  fits_restarted start other m t serial h =
      record {
        goes_on = h.goes_on;
        depth = h.depth;
        deep = h.deep;
        regs = h.regs;
        dollar = h.dollar;
        result = h.result;
        places = h.places;
        list = h.list;
        frames = h.frames;
        back = h.back;
        thread = subst (IsThread other m.number) (sym serial) (subst (IsThread start m.number) serial h.thread);
        here = by t.parent serial h.here;
        callers = by_callers t.parent serial h.callers;
      }
    where
      by : (parent : Option ℕ) → parent ≡ None → Frame program slot start m.frames parent (length t.callers) t.function t.at t.registers → Frame program slot other m.frames parent (length t.callers) t.function t.at t.registers
      by None is frame = frame_restarted start other m.frames (length t.callers) t.function t.at t.registers frame
      by (Some d) is frame = cc

      by_callers : (parent : Option ℕ) → parent ≡ None → CallersFit start m.back m.frames parent t.callers → CallersFit other m.back m.frames parent t.callers
      by_callers None is fit = callers_restarted start other m.back m.frames t.callers fit
      by_callers (Some d) is fit = cc
