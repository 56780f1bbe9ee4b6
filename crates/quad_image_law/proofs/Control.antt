-- The code of quads that lead elsewhere: jumps, calls, returns, prints, spawns and joins.
use Rattle.std.proofs.Common.{◌≡◌, ◌≢◌, refl, sym, ◌∙◌, ap, subst, arith, ℕ, zero, suc, ◌+◌, ◌*◌, ◌<◌, ◌≤◌, List, [], ◌∷◌, length, set, Option, Some, None, true, false, inl, inr}
use Rattle.std.specs.Prelude.{◌==◌, if◌then◌else◌, nat_lt, Bool, IsSomeAnd, slice_get, slice_index}
use Rattle.std.proofs.lemmas.List.{length-set, get_or-set_same, get_or-set_other}
use Rattle.xmt_base.specs.declared.values.TrapKind.TheVariants.{CallDepth}
use Rattle.xmt_base.specs.Action.{Action}
use Rattle.xmt_base.specs.Action as action
use Rattle.xmt_base.specs.Text.{piece}
use Rattle.interleaving.specs.Actors.{Alone}
use Rattle.xmt_isa.specs.declared.image.Image.{Image}
use Rattle.xmt_isa.specs.declared.operation.Operation.TheVariants as does
use Rattle.xmt_isa.specs.declared.unit.Start.{Start}
use Rattle.xmt_isa.specs.declared.unit.Unit.{Unit as MachineUnit}
use Rattle.xmt_isa.specs.declared.unit.Request.TheVariants as request
use Rattle.xmt_isa.specs.declared.unit.Next.TheVariants as does_next
use Rattle.xmt_isa.specs.Image.{start_of}
use Rattle.xmt_isa.specs.Step.{reg, goes, goes_on, calls}
use Rattle.xmt_isa.specs.Machine.{text_of}
use Rattle.xmt_isa.specs.Threads.{stops}
use Rattle.xmt_quads.specs.declared.code.Operand.{Operand}
use Rattle.xmt_quads.specs.declared.code.Quad.{Quad}
use Rattle.xmt_quads.specs.declared.code.Quad.TheVariants as quad
use Rattle.xmt_quads.specs.declared.code.QuadProgram.{QuadProgram}
use Rattle.xmt_quads.specs.Program.{quads_in, text_at}
use Rattle.xmt_quads.specs.Meaning.{Registers, Caller, QuadThread, Traps, operand_value, with_next, places_from, acts, enters, next_at, move_of}
use Rattle.xmt_quads.specs.Meaning as quads
use Rattle.xmt_quads.specs.Regions.{Jumps}
use Rattle.xmt_quads.specs.WellFormed.{IsWellFormed}
use Rattle.quad_images.specs.Instructions.{instr}
use Rattle.quad_image_law.proofs.Keeps.{with_found}
use Rattle.quad_image_law.proofs.Units.{running, actor_at, moved_by, operation_is}
use Rattle.quad_image_places.proofs.Own.{element}
use Rattle.quad_image_places.proofs.Laid.{HasSlots, Known, Laid, known_function, some_quads, place, names_exist}
use Rattle.quad_image_law.proofs.Frames.{IsPlaced, Leads, frame_moved, leads_next, leads_jump}
use Rattle.quad_image_law.proofs.Fits.{memory_of, CallersFit, Fits, fits_moved, list_is, quad_is}
use Rattle.quad_image_law.proofs.Steps.{KeepsTo, over, AllKeep, keep_at, common_act, beside, trapped}
use Rattle.quad_image_law.proofs.Plain.{fetched, P, Here, code_of, behind, Kept}

-- what the next call finds, and what the others find
abbrev pub first_then : Registers → (ℕ → Registers) → ℕ → Registers
first_then first found zero = first
first_then first found (suc call) = found call

module _ (program : QuadProgram) (slot : ℕ → ℕ → ℕ) (image : Image) (laid : Laid program slot image) (slots : (f : ℕ) (k : Known program f) → HasSlots (slot f) k.function.registers) (n : ℕ) (all : AllKeep program slot image slots n) (start : Start) (t : QuadThread) where
  abbrev At : ℕ
  At = P program slot image laid slots n all start t

  abbrev Is : Quad → Type 0
  Is q = Here program slot image laid slots n all start t q

  module _ (u : MachineUnit) (fits : Fits program slot start (memory_of u) t) where
    abbrev Goes : Type 0
    Goes = Kept program slot image laid slots n all start t u

    -- ---- jumps

    leads_to : (to : ℕ) → to < length (quads_in program t.function) → Jumps (quads_in program t.function) t.at to → Leads program t.parent (length t.callers) t.function t.at to
    leads_to to inside jumps = leads_jump program fits.here.known t.parent (length t.callers) t.at to fits.here.inside inside jumps fits.here.placed

    pub jumps : (to : ℕ) → Is (quad.Jump to) → Goes
    jumps to here =
        let q = quad.Jump to in
        let there = place program t.function to in
        let leads = leads_to to (names_exist program fits.here.known t.at q here) (inl here) in
        beside program slot image start u t At (does.Jump there) (operation_is image At (instr 20 0 0 0 there) (code_of program slot image laid slots n all start t q here).0) q (quad_is program slot start (memory_of u) t q fits here)
        n 24 there (goes (running u At) there) (record t { at = to }) (λ found. found) refl refl (λ found. refl) (omega arith)
        (all start (goes (running u At) there) (record t { at = to }) (fits_moved program slot start (memory_of u) t to fits leads))

    pub if_zeros : (o : Operand) (to : ℕ) → Is (quad.IfZero o to) → Goes
    if_zeros o to here =
        let q = quad.IfZero o to in
        let code = code_of program slot image laid slots n all start t q here in
        fetched program slot image laid slots n all start t q o here (λ x is. is) u At 3 (omega arith) (omega arith) fits code.0 (suc n) 24 23 (omega arith)
        (λ u1 s. by u1 s.fits s.is code.2.0 (operand_value t.registers o == 0) refl)
      where
        by : (u1 : MachineUnit) → Fits program slot start (memory_of u1) t → reg u1 3 ≡ operand_value t.registers o → slice_get image.code (At + 1) ≡ Some (instr 21 0 3 0 (place program t.function to)) →
            (b : Bool) → (operand_value t.registers o == 0) ≡ b → KeepsTo program slot image (suc n) 23 (actor_at start u1 (At + 1)) t
        by u1 fits1 value code true is =
            let q = quad.IfZero o to in
            let there = place program t.function to in
            let test : (reg u1 3 == 0) ≡ true = ap (λ v. v == 0) value ∙ is in
            let leads = leads_to to (names_exist program fits.here.known t.at q here) (inr (inl (o, here))) in
            beside program slot image start u1 t (At + 1) (does.IfZero 3 there) (operation_is image (At + 1) (instr 21 0 3 0 there) code) q (quad_is program slot start (memory_of u) t q fits here)
            n 23 there (goes (running u1 (At + 1)) there) (record t { at = to }) (λ found. found) refl (ap (λ b. Alone (record { start = start; unit = goes (running u1 (At + 1)) (if b then there else At + 1 + 1) })) test)
            (λ found. ap (λ b. quads.jumps (with_found t found) (if b then to else t.at + 1)) is) (omega arith)
            (all start (goes (running u1 (At + 1)) there) (record t { at = to }) (fits_moved program slot start (memory_of u1) t to fits1 leads))
        by u1 fits1 value code false is =
            let q = quad.IfZero o to in
            let there = place program t.function to in
            let test : (reg u1 3 == 0) ≡ false = ap (λ v. v == 0) value ∙ is in
            let leads = leads_next program fits.here.known t.parent (length t.callers) t.at q here tt fits.here.placed in
            beside program slot image start u1 t (At + 1) (does.IfZero 3 there) (operation_is image (At + 1) (instr 21 0 3 0 there) code) q (quad_is program slot start (memory_of u) t q fits here)
            n 23 (At + 1 + 1) (goes_on (running u1 (At + 1))) (record t { at = t.at + 1 }) (λ found. found) refl (ap (λ b. Alone (record { start = start; unit = goes (running u1 (At + 1)) (if b then there else At + 1 + 1) })) test)
            (λ found. ap (λ b. quads.jumps (with_found t found) (if b then to else t.at + 1)) is) (omega arith)
            (keep_at program slot image slots n all start (goes_on (running u1 (At + 1))) (record t { at = t.at + 1 }) (At + 1 + 1) (fits_moved program slot start (memory_of u1) t (t.at + 1) fits1 leads) (behind program slot image laid slots n all start t q here ∙ omega arith))

    pub if_nots : (o : Operand) (to : ℕ) → Is (quad.IfNot o to) → Goes
    if_nots o to here =
        let q = quad.IfNot o to in
        let code = code_of program slot image laid slots n all start t q here in
        fetched program slot image laid slots n all start t q o here (λ x is. is) u At 3 (omega arith) (omega arith) fits code.0 (suc n) 24 23 (omega arith)
        (λ u1 s. by u1 s.fits s.is code.2.0 (operand_value t.registers o == 0) refl)
      where
        by : (u1 : MachineUnit) → Fits program slot start (memory_of u1) t → reg u1 3 ≡ operand_value t.registers o → slice_get image.code (At + 1) ≡ Some (instr 22 0 3 0 (place program t.function to)) →
            (b : Bool) → (operand_value t.registers o == 0) ≡ b → KeepsTo program slot image (suc n) 23 (actor_at start u1 (At + 1)) t
        by u1 fits1 value code false is =
            let q = quad.IfNot o to in
            let there = place program t.function to in
            let test : (reg u1 3 == 0) ≡ false = ap (λ v. v == 0) value ∙ is in
            let leads = leads_to to (names_exist program fits.here.known t.at q here) (inr (inr (o, here))) in
            beside program slot image start u1 t (At + 1) (does.IfNot 3 there) (operation_is image (At + 1) (instr 22 0 3 0 there) code) q (quad_is program slot start (memory_of u) t q fits here)
            n 23 there (goes (running u1 (At + 1)) there) (record t { at = to }) (λ found. found) refl (ap (λ b. Alone (record { start = start; unit = goes (running u1 (At + 1)) (if b then At + 1 + 1 else there) })) test)
            (λ found. ap (λ b. quads.jumps (with_found t found) (if b then t.at + 1 else to)) is) (omega arith)
            (all start (goes (running u1 (At + 1)) there) (record t { at = to }) (fits_moved program slot start (memory_of u1) t to fits1 leads))
        by u1 fits1 value code true is =
            let q = quad.IfNot o to in
            let there = place program t.function to in
            let test : (reg u1 3 == 0) ≡ true = ap (λ v. v == 0) value ∙ is in
            let leads = leads_next program fits.here.known t.parent (length t.callers) t.at q here tt fits.here.placed in
            beside program slot image start u1 t (At + 1) (does.IfNot 3 there) (operation_is image (At + 1) (instr 22 0 3 0 there) code) q (quad_is program slot start (memory_of u) t q fits here)
            n 23 (At + 1 + 1) (goes_on (running u1 (At + 1))) (record t { at = t.at + 1 }) (λ found. found) refl (ap (λ b. Alone (record { start = start; unit = goes (running u1 (At + 1)) (if b then At + 1 + 1 else there) })) test)
            (λ found. ap (λ b. quads.jumps (with_found t found) (if b then t.at + 1 else to)) is) (omega arith)
            (keep_at program slot image slots n all start (goes_on (running u1 (At + 1))) (record t { at = t.at + 1 }) (At + 1 + 1) (fits_moved program slot start (memory_of u1) t (t.at + 1) fits1 leads) (behind program slot image laid slots n all start t q here ∙ omega arith))

    -- ---- prints and joins

    pub prints : (text : ℕ) → Is (quad.Print text) → Goes
    prints text here =
        let q = quad.Print text in
        let code = code_of program slot image laid slots n all start t q here in
        let leads = leads_next program fits.here.known t.parent (length t.callers) t.at q here tt fits.here.placed in
        let same : piece (text_of image text) u.list ≡ piece (text_at program text) (places_from t.list 0 16) = ap (λ bytes. piece bytes u.list) (laid.texts text) ∙ ap (piece (text_at program text)) (sym (list_is program slot start (memory_of u) t fits)) in
        common_act program slot image start u t At (does.Print text) (operation_is image At (instr 43 0 0 0 text) code.0) q (quad_is program slot start (memory_of u) t q fits here)
        n 24 24 (request.Print text) (action.Print (piece (text_at program text) (places_from t.list 0 16))) (λ reply. with_next t t.registers) tt refl (ap action.Print same) (λ found. refl) (omega arith)
        (λ reply.
        keep_at program slot image slots n all start (goes_on (running u At)) (with_next t t.registers) (At + 1) (fits_moved program slot start (memory_of u) t (t.at + 1) fits leads) (behind program slot image laid slots n all start t q here))

    pub joins : Is quad.Join → Goes
    joins here =
        let q = quad.Join in
        let code = code_of program slot image laid slots n all start t q here in
        common_act program slot image start u t At does.Join (operation_is image At (instr 45 0 0 0 0) code.0) q (quad_is program slot start (memory_of u) t q fits here)
        n 24 24 request.Draw action.Ended (λ reply. record t { ended = true }) tt refl refl (λ found. refl) (omega arith)
        (λ reply. over program slot image n (record { start = start; unit = stops (running u At) }) (record t { ended = true }) refl)

    -- ---- calls

    -- the places of the calls below stay
    callers_kept : (back frames : List ℕ) (parent : Option ℕ) (callers : List Caller) (deeper v : ℕ) → length callers ≤ deeper → CallersFit program slot start back frames parent callers → CallersFit program slot start (set back deeper v) frames parent callers
    callers_kept back frames parent [] deeper v less h = tt
    callers_kept back frames parent (c ∷ callers) deeper v less h =
        let other : length callers ≢ deeper = λ e. omega (arith, e, less) in (
          get_or-set_other back deeper (length callers) v 0 other ∙ h.0,
          h.1,
          callers_kept back frames parent callers deeper v (omega (arith, less)) h.2,
        )

    -- what is called may be called
    placed_in_call : (g : ℕ) → Is (quad.Call g) → (parent : Option ℕ) (depth : ℕ) → IsPlaced program parent depth t.function t.at → IsPlaced program parent (suc depth) g 0
    placed_in_call g here None depth placed = λ b. let above = b.3.0 in omega (arith, above)
    placed_in_call g here (Some d) zero placed = fits.here.known.well.regions.calls t.at g (inr placed) here
    placed_in_call g here (Some d) (suc depth) placed =
        fits.here.known.well.regions.calls t.at g (inl (subst (λ o. IsSomeAnd o (λ f. f.inner ≡ true)) fits.here.known.found placed)) here

    module _ (well : IsWellFormed program) where
      pub enters_it : (g : ℕ) → Is (quad.Call g) → Goes
      enters_it g here = by (nat_lt (length t.callers) 256) refl
        where
          entered : nat_lt (length t.callers) 256 ≡ true → (k : Known program g) → g < length program.functions → Goes
          entered is k below =
              let code = code_of program slot image laid slots n all start t (quad.Call g) here in
              let quad_here = quad_is program slot start (memory_of u) t (quad.Call g) fits here in
              let deep = fits.deep in
              let depth = fits.depth in
              let long = fits.back in
              let less : length t.callers < 256 = grind (arith, is) in
              let test : nat_lt u.depth 256 ≡ true = ap (λ d. nat_lt d 256) fits.depth ∙ is in
              let u2 = calls image (running u At) g in
              let regs : Registers = λ r. slice_index u.frames (512 * suc (length t.callers) + slot g r) in
              let caller : Caller = record { function = t.function; at = t.at + 1; registers = t.registers } in
              let t2 : QuadThread = record t { function = g; at = 0; registers = regs; callers = caller ∷ t.callers } in
              let leads = leads_next program fits.here.known t.parent (length t.callers) t.at (quad.Call g) here tt fits.here.placed in
              let next : place program t.function (t.at + 1) ≡ At + 1 = behind program slot image laid slots n all start t (quad.Call g) here in
              let stored : slice_index (set u.back u.depth (At + 1)) (length t.callers) ≡ place program t.function (t.at + 1) =
              ap (λ d. slice_index (set u.back u.depth (At + 1)) d) (sym fits.depth) ∙ get_or-set_same u.back u.depth (At + 1) 0 (omega (arith, less, depth, long)) ∙ sym next in
              let fits2 : Fits program slot start (memory_of u2) t2 =
              record {
                goes_on = fits.goes_on;
                depth = omega (arith, depth);
                deep = omega (arith, less);
                regs = fits.regs;
                dollar = fits.dollar;
                result = fits.result;
                places = fits.places;
                list = fits.list;
                frames = fits.frames;
                back = length-set u.back u.depth (At + 1) ∙ fits.back;
                thread = fits.thread;
                here = record { known = k; inside = some_quads program k; placed = placed_in_call g here t.parent (length t.callers) fits.here.placed; holds = λ r low. refl };
                callers = (
                  stored,
                  frame_moved program slot start u.frames t.parent (length t.callers) t.function t.at (t.at + 1) t.registers fits.here leads,
                  callers_kept u.back u.frames t.parent t.callers u.depth (At + 1) (omega (arith, depth)) fits.callers,
                );
              } in
              beside program slot image start u t At (does.Call g) (operation_is image At (instr 23 0 0 0 g) code.0) (quad.Call g) quad_here
              n 24 (start_of image g) u2 t2 (first_then regs) (ap (λ b. if b then does_next.Local else does_next.Trap CallDepth) test)
              (ap (moved_by image (actor_at start u At) (Some (does.Call g))) (ap (λ b. if b then does_next.Local else does_next.Trap CallDepth) test))
              (λ found. ap (λ b. if b then quads.goes (enters (with_found t (first_then regs found)) g) else Traps CallDepth) is) (omega arith)
              (keep_at program slot image slots n all start u2 t2 (start_of image g) fits2 (sym (laid.starts g below)))

          by : (b : Bool) → nat_lt (length t.callers) 256 ≡ b → Goes
          by true is =
              let below = names_exist program fits.here.known t.at (quad.Call g) here in
              let found = element program.functions g below in
              entered is (known_function program well g found.0 found.1) below
          by false is =
              let code = code_of program slot image laid slots n all start t (quad.Call g) here in
              let test : nat_lt u.depth 256 ≡ false = ap (λ d. nat_lt d 256) fits.depth ∙ is in
              trapped program slot image start u t At (does.Call g) (operation_is image At (instr 23 0 0 0 g) code.0) (quad.Call g) (quad_is program slot start (memory_of u) t (quad.Call g) fits here)
              (suc n) 24 CallDepth (ap (λ b. if b then does_next.Local else does_next.Trap CallDepth) test) code.1 (ap (λ b. if b then quads.goes (enters t g) else Traps CallDepth) is)
