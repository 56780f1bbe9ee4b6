-- The code of returns and of spawns.
use Rattle.std.proofs.Common.{◌≡◌, refl, sym, ◌∙◌, ap, subst, arith, ℕ, zero, suc, ◌+◌, ◌-◌, ◌≤◌, List, [], ◌∷◌, length, Option, Some, None, true, false, inl, inr}
use Rattle.std.specs.Prelude.{◌==◌, if◌then◌else◌, IsSomeAnd, slice_get, slice_index}
use Rattle.xmt_base.specs.Action.{Action}
use Rattle.xmt_base.specs.Action as action
use Rattle.interleaving.specs.Actors.{Acts}
use Rattle.xmt_isa.specs.declared.image.Image.{Image}
use Rattle.xmt_isa.specs.declared.operation.Operation.TheVariants as does
use Rattle.xmt_isa.specs.declared.unit.Start.{Start}
use Rattle.xmt_isa.specs.declared.unit.Unit.{Unit as MachineUnit}
use Rattle.xmt_isa.specs.declared.unit.UnitState.TheVariants.{Halted}
use Rattle.xmt_isa.specs.declared.unit.SpawnAsk.{SpawnAsk}
use Rattle.xmt_isa.specs.declared.unit.Request.TheVariants as request
use Rattle.xmt_isa.specs.declared.unit.Next.TheVariants as does_next
use Rattle.xmt_isa.specs.Step.{reg, goes, sets, next_of}
use Rattle.xmt_isa.specs.Machine.{broadcast, resumes, waits_for, text_of}
use Rattle.xmt_isa.specs.Machine as isa
use Rattle.xmt_isa.specs.Picked.{is_live}
use Rattle.xmt_quads.specs.declared.code.Operand.{Operand}
use Rattle.xmt_quads.specs.declared.code.Quad.{Quad}
use Rattle.xmt_quads.specs.declared.code.Quad.TheVariants as quad
use Rattle.xmt_quads.specs.declared.code.QuadProgram.{QuadProgram}
use Rattle.xmt_quads.specs.Program.{quads_in, site_at, behind_join}
use Rattle.xmt_quads.specs.Meaning.{Registers, Caller, QuadThread, Traps, operand_value, with_next, places_from, acts, enters, next_at, move_of}
use Rattle.xmt_quads.specs.Meaning as quads
use Rattle.xmt_quads.specs.Live.{is_register}
use Rattle.xmt_quads.specs.Regions.{IsBlock}
use Rattle.quad_images.specs.Instructions.{instr}
use Rattle.quad_image_law.proofs.Keeps.{with_found, keeps_acts}
use Rattle.quad_image_law.proofs.Units.{running, actor_at, alone_by, acted, operation_is, next_is, move_is, lives}
use Rattle.quad_image_places.proofs.Own.{outside_behind, behind_join_is}
use Rattle.quad_image_places.proofs.Laid.{HasSlots, Known, Laid, place, registers_below}
use Rattle.quad_image_law.proofs.Frames.{IsPlaced, Leads, not_last, own_serial}
use Rattle.quad_image_law.proofs.Fits.{memory_of, CallersFit, Fits, fits_moved, fits_result, fits_restarted, quad_is}
use Rattle.quad_image_law.proofs.Steps.{KeepsTo, SpawnsAlike, Stands, stands_common, over, AllKeep, keep_at, act, beside, fetches}
use Rattle.quad_image_law.proofs.Plain.{or_left, or_right, fetched, P, Here, code_of, behind, Kept}

module _ (program : QuadProgram) (slot : ℕ → ℕ → ℕ) (image : Image) (laid : Laid program slot image) (slots : (f : ℕ) (k : Known program f) → HasSlots (slot f) k.function.registers) (n : ℕ) (all : AllKeep program slot image slots n) (start : Start) (t : QuadThread) where
  abbrev At : ℕ
  At = P program slot image laid slots n all start t

  abbrev Is : Quad → Type 0
  Is q = Here program slot image laid slots n all start t q

  module _ (u : MachineUnit) (fits : Fits program slot start (memory_of u) t) where
    abbrev Goes : Type 0
    Goes = Kept program slot image laid slots n all start t u

    -- ---- returns

    pub returns : (o : Operand) → Is (quad.Return o) → Goes
    returns o here =
        let code = code_of program slot image laid slots n all start t (quad.Return o) here in
        let v = operand_value t.registers o in
        let u1 = sets (running u At) 2 v in
        fetches program slot image start u t At 2 o fits (λ r is known. registers_below program known t.at (quad.Return o) here r (inl is)) code.0 (suc n) 24 23 (omega arith)
        (by u1 (fits_result program slot start (memory_of u) t v fits) code.2.0 t.callers refl)
      where
        by : (u1 : MachineUnit) → Fits program slot start (memory_of u1) (record t { result = operand_value t.registers o }) → slice_get image.code (At + 1) ≡ Some (instr 24 0 0 0 0) → (callers : List Caller) → t.callers ≡ callers →
            KeepsTo program slot image (suc n) 23 (actor_at start u1 (At + 1)) t
        by u1 fits1 code [] is =
            let here1 = operation_is image (At + 1) (instr 24 0 0 0 0) code in
            let quad_here = quad_is program slot start (memory_of u) t (quad.Return o) fits here in
            let there = running u1 (At + 1) in
            let halted : MachineUnit = record (goes there (At + 1)) { state = Halted } in
            let back : MachineUnit = record (goes there (slice_index u1.back (u1.depth - 1))) { depth = u1.depth - 1 } in
            let v = operand_value t.registers o in
            let none : u1.depth ≡ 0 = fits1.depth ∙ ap (λ (cs : List Caller). length cs) is in
            let test : (u1.depth == 0) ≡ true = ap (λ d. d == 0) none in
            let a = actor_at start u1 (At + 1) in
            let moves : acted image a (Some does.Return) ≡ Acts action.Ended (λ reply. record a { unit = halted }) = ap (λ b. alone_by a (if b then halted else back) (is_live (if b then halted else back).state)) test in
            keeps_acts program image (Stands program slot image) n 23 24 a t action.Ended (λ reply. record a { unit = halted }) (λ reply. record t { ended = true }) (lives start u1 (At + 1))
            (stands_common program slot image a t does_next.Local (next_is image start u1 (At + 1) does.Return here1) tt)
            (move_is image start u1 (At + 1) does.Return here1 ∙ moves)
            (λ found. ap (λ o. move_of program (next_at program (with_found t found) o)) quad_here ∙ ap (λ cs. move_of program (quads.returns (with_found t found) v cs)) is)
            (let cost_is = ap (quads.weight_of_option program) quad_here in omega (arith, cost_is))
            (λ reply. over program slot image n (record a { unit = halted }) (record t { ended = true }) refl)
        by u1 fits1 code (c ∷ callers) is =
            let quad_here = quad_is program slot start (memory_of u) t (quad.Return o) fits here in
            let there = running u1 (At + 1) in
            let halted : MachineUnit = record (goes there (At + 1)) { state = Halted } in
            let v = operand_value t.registers o in
            let to = slice_index u1.back (u1.depth - 1) in
            let u2 : MachineUnit = record (goes there to) { depth = u1.depth - 1 } in
            let some : u1.depth ≡ suc (length callers) = fits1.depth ∙ ap (λ (cs : List Caller). length cs) is in
            let test : (u1.depth == 0) ≡ false = grind (arith, some) in
            let deep : length (c ∷ callers) ≤ 256 = subst (λ (cs : List Caller). length cs ≤ 256) is fits.deep in
            let a = actor_at start u1 (At + 1) in
            let below : u1.depth - 1 ≡ length callers = omega (arith, some) in
            let calls_fit : CallersFit program slot start u1.back u1.frames t.parent (c ∷ callers) = subst (CallersFit program slot start u1.back u1.frames t.parent) is fits1.callers in
            let t2 : QuadThread = record t { function = c.function; at = c.at; registers = c.registers; callers = callers; result = v } in
            let fits2 : Fits program slot start (memory_of u2) t2 =
            record {
              goes_on = fits1.goes_on;
              depth = below;
              deep = omega (arith, deep);
              regs = fits1.regs;
              dollar = fits1.dollar;
              result = fits1.result;
              places = fits1.places;
              list = fits1.list;
              frames = fits1.frames;
              back = fits1.back;
              thread = fits1.thread;
              here = calls_fit.1;
              callers = calls_fit.2;
            } in
            beside program slot image start u1 t (At + 1) does.Return (operation_is image (At + 1) (instr 24 0 0 0 0) code) (quad.Return o) quad_here
            n 23 to u2 t2 (λ found. found) refl (ap (λ b. alone_by a (if b then halted else u2) (is_live (if b then halted else u2).state)) test)
            (λ found. ap (quads.returns (with_found t found) v) is) (omega arith)
            (keep_at program slot image slots n all start u2 t2 to fits2 (sym calls_fit.0 ∙ ap (slice_index u1.back) (sym below)))

    -- ---- spawns

    -- a spawn stands in serial code
    serial_at : (low high : Operand) → Is (quad.Spawn low high) → t.parent ≡ None
    serial_at low high here = by t.parent refl (length t.callers) fits.here.placed
      where
        by : (parent : Option ℕ) → t.parent ≡ parent → (depth : ℕ) → IsPlaced program parent depth t.function t.at → t.parent ≡ None
        by None is depth placed = is
        by (Some d) is zero placed = absurd (fits.here.known.well.regions.in_block t.at placed (inr (inl (low, high, here))))
        by (Some d) is (suc depth) placed =
            let inner : fits.here.known.function.inner ≡ true = subst (λ o. IsSomeAnd o (λ f. f.inner ≡ true)) fits.here.known.found placed in
            absurd (fits.here.known.well.regions.in_inner inner t.at (inl (low, high, here)))

    -- where serial code goes on behind a block
    leads_behind : (join : ℕ) → IsBlock (quads_in program t.function) t.at join → t.parent ≡ None → Leads program t.parent (length t.callers) t.function t.at (join + 1)
    leads_behind join block serial =
        let k = fits.here.known in
        let inside = not_last program k join quad.Join block.joins (λ e. e) in
        let outside = outside_behind (quads_in program t.function) t.at join block in
        let placed : IsPlaced program None (length t.callers) t.function t.at = subst (λ parent. IsPlaced program parent (length t.callers) t.function t.at) serial fits.here.placed in
        record {
          inside = inside;
          placed = subst (λ parent. IsPlaced program parent (length t.callers) t.function (join + 1)) (sym serial) outside;
          own = own_serial program k (length t.callers) (join + 1) inside outside ∙ sym (own_serial program k (length t.callers) t.at fits.here.inside placed);
        }

    pub spawns : (low high : Operand) → Is (quad.Spawn low high) → Goes
    spawns low high here =
        let q = quad.Spawn low high in
        let code = code_of program slot image laid slots n all start t q here in
        fetched program slot image laid slots n all start t q low here (λ x is. or_left (is_register x low) (is_register x high) is) u At 3 (omega arith) (omega arith) fits code.0 (suc n) 24 23 (omega arith)
        (λ u1 s.
        fetched program slot image laid slots n all start t q high here (λ x is. or_right (is_register x low) (is_register x high) is) u1 (At + 1) 4 (omega arith) (omega arith) s.fits code.2.0 (suc n) 23 22 (omega arith)
        (λ u2 s2. spawned u2 s2.fits (s2.others 3 (λ e. omega (arith, e)) ∙ s.is) s2.is code.2.2.0))
      where
        spawned : (u2 : MachineUnit) → Fits program slot start (memory_of u2) t → reg u2 3 ≡ operand_value t.registers low → reg u2 4 ≡ operand_value t.registers high → slice_get image.code (At + 1 + 1) ≡ Some (instr 44 3 4 0 0) → KeepsTo program slot image (suc n) 22 (actor_at start u2 (At + 1 + 1)) t
        spawned u2 fits2 is_low is_high code =
            let q = quad.Spawn low high in
            let here1 = operation_is image (At + 1 + 1) (instr 44 3 4 0 0) code in
            let quad_here = quad_is program slot start (memory_of u) t q fits here in
            let a = actor_at start u2 (At + 1 + 1) in
            let ask : SpawnAsk = record { at = At + 1 + 1 + 1; low = reg u2 3; high = reg u2 4; mask = 0 } in
            let asks : next_of image start (running u2 (At + 1 + 1)) ≡ does_next.Ask (request.Spawn ask) = next_is image start u2 (At + 1 + 1) (does.Spawn 3 4 0) here1 in
            let serial = serial_at low high here in
            let block = fits.here.known.well.regions.spawn_joins t.at (low, high, here) in
            let join = block.0 in
            let next : place program t.function (t.at + 1) ≡ At + 1 + 1 + 1 = behind program slot image laid slots n all start t q here ∙ omega arith in
            let begins : At + 1 + 1 + 1 ≡ place program t.function (t.at + 1) = sym next in
            let site = laid.sites t.function t.at low high here in
            let alike : SpawnsAlike program slot image a ask t =
            record { low = low; high = high; is_spawn = quad_here; low_is = is_low; high_is = is_high; site = site; begins = begins; no_mask = refl; serial = serial; fits = fits2 } in
            let stands : Stands program slot image a t =
            record {
              traps = λ kind line trap. absurd (never kind ask (sym trap.traps ∙ asks));
              spawns = λ other runs others. subst (λ ask. SpawnsAlike program slot image a ask t) (same_ask ask other (sym asks ∙ others)) alike;
            } in
            let start' = broadcast (running u2 (At + 1 + 1)) ask in
            let u3 = resumes image start' (waits_for (running u2 (At + 1 + 1))) in
            let to = isa.behind_join image (At + 1 + 1 + 1) in
            let t2 : QuadThread = record t { at = behind_join (quads_in program t.function) t.at } in
            let joined : behind_join (quads_in program t.function) t.at ≡ join + 1 = behind_join_is (quads_in program t.function) t.at join block.1 in
            let there : place program t.function (join + 1) ≡ to = sym (laid.joins t.function t.at join block.1) ∙ ap (isa.behind_join image) next in
            let leads = leads_behind join block.1 serial in
            let fits3 : Fits program slot start' (memory_of u3) t2 =
            subst (λ at. Fits program slot start' (memory_of u3) (record t { at = at })) (sym joined)
            (fits_restarted program slot start start' (memory_of u2) (record t { at = join + 1 }) serial (fits_moved program slot start (memory_of u2) t (join + 1) fits2 leads)) in
            act program slot image start u2 t (At + 1 + 1) (does.Spawn 3 4 0) here1 q quad_here
            n 22 24 (request.Spawn ask) (action.Spawn (site_at program t.function t.at) (operand_value t.registers low) (operand_value t.registers high)) (λ reply. record t { at = behind_join (quads_in program t.function) t.at }) stands refl
            (ap (λ s. action.Spawn s (reg u2 3) (reg u2 4)) site ∙ ap (λ l. action.Spawn (site_at program t.function t.at) l (reg u2 4)) is_low ∙ ap (action.Spawn (site_at program t.function t.at) (operand_value t.registers low)) is_high)
            (λ found. refl) (omega arith)
            (λ reply. keep_at program slot image slots n all start' u3 t2 to fits3 (ap (place program t.function) joined ∙ there))
          where
            never : (kind : _) (ask : SpawnAsk) → does_next.Trap kind ≡ does_next.Ask (request.Spawn ask) → ⊥
            never kind ask e = cc

            same_ask : (ask other : SpawnAsk) → does_next.Ask (request.Spawn ask) ≡ does_next.Ask (request.Spawn other) → ask ≡ other
            same_ask ask other e = cc
