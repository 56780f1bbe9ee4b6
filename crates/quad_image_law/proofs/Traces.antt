-- Each trace of the image of a well-formed program is one of its quads, and their work pays for it.
use Rattle.std.proofs.Common.{◌≡◌, refl, sym, ◌∙◌, ap, subst, arith, ℕ, zero, suc, ◌+◌, ◌-◌, ◌*◌, ◌/◌, ◌%◌, ◌^◌, ◌<◌, ◌≤◌, List, [], ◌∷◌, ◌++◌, length, drop, replicate, Some, None, true, false, inl, inr}
use Rattle.std.specs.Prelude.{◌⊎◌, if◌then◌else◌, Bool, nat_le, All, slice_get, slice_index}
use Rattle.std.proofs.lemmas.Bool.Decides.{leb_tells}
use Rattle.std.proofs.lemmas.List.{length-set, length-replicate, get_or-set_same, get_or-set_other, get_or-take, get_or-drop}
use Rattle.xmt_base.specs.declared.values.TrapKind.{TrapKind}
use Rattle.xmt_base.specs.Action.{Action, Trap, Ended, Main, Block, Spawn}
use Rattle.xmt_base.specs.Operators.{count_between}
use Rattle.interleaving.specs.Actors.{Does}
use Rattle.interleaving.specs.Parts.{actions_of}
use Rattle.xmt_isa.specs.declared.image.Image.{Image}
use Rattle.xmt_isa.specs.declared.unit.Start.{Start}
use Rattle.xmt_isa.specs.declared.unit.Unit.{Unit as MachineUnit}
use Rattle.xmt_isa.specs.declared.unit.SpawnAsk.{SpawnAsk}
use Rattle.xmt_isa.specs.Image.{start_of}
use Rattle.xmt_isa.specs.Machine.{masked, broadcast}
use Rattle.xmt_isa.specs.Opening.{zeros_of, new_master, no_start}
use Rattle.xmt_isa.specs.Threads.{Actor, main_actor, action_of, begins, number_at, BeginsAt}
use Rattle.xmt_isa.specs.Threads as isa
use Rattle.xmt_isa.specs.Traces as isa_traces
use Rattle.xmt_quads.specs.declared.code.Quad.{Quad}
use Rattle.xmt_quads.specs.declared.code.Quad.TheVariants as quad
use Rattle.xmt_quads.specs.declared.code.QuadProgram.{QuadProgram}
use Rattle.xmt_quads.specs.declared.homes.Home.{Home}
use Rattle.xmt_quads.specs.Program.{quads_in, site_at}
use Rattle.xmt_quads.specs.Meaning.{Registers, QuadThread, operand_value}
use Rattle.xmt_quads.specs.Live.{IsLive, is_read, is_kept}
use Rattle.xmt_quads.specs.Allocation.{IsAllocationOf, HasOwnSlots}
use Rattle.xmt_quads.specs.Regions.{IsBlock}
use Rattle.xmt_quads.specs.Traces.{Contents, main_thread, block_thread, AreBroadcast, BeginsAtBlock, IsTraceOf, HasTrace}
use Rattle.xmt_quads.specs.WellFormed.{IsWellFormed}
use Rattle.quad_images.specs.Image.{written_in, all_own, slot_in, IsImageOf}
use Rattle.quad_image_law.specs.Law.{IsPaid, HasPaidTraces}
use Rattle.quad_image_law.proofs.Keeps.{Log, Matched}
use Rattle.quad_image_law.proofs.Units.{actor_at}
use Rattle.quad_image_places.proofs.Own.{element, element_inside, element_of_rest, own_inside, Written, written_back}
use Rattle.quad_image_places.proofs.Laid.{HasSlots, Laid, Known, known_function, some_quads, registers_below, own_in, place}
use Rattle.quad_image_law.proofs.Frames.{IsPlaced, home_value, own_serial}
use Rattle.quad_image_law.proofs.Fits.{memory_of, Fits}
use Rattle.quad_image_law.proofs.Steps.{SpawnsAlike, Stands}
use Rattle.quad_image_law.proofs.Threads.{all_keep}
use Rattle.quad_image_places.proofs.InImage.{laid}
use Rattle.quad_image_law.proofs.Over.{last_is_over, snoc_last}

no_trap_at_end : (kind : TrapKind) (line : ℕ) → Trap kind line ≡ Ended → ⊥
no_trap_at_end kind line is = cc

length-zeros_of : (n : ℕ) → length (zeros_of n) ≡ n
unfolding zeros_of
length-zeros_of n = length-replicate n 0

length-masked : (mask : ℕ) (regs : List ℕ) → length (masked mask regs) ≡ length regs
length-masked mask [] = refl
length-masked mask (r ∷ regs) = ap suc (length-masked (mask / 2) regs)

none_masked : (regs : List ℕ) (i : ℕ) → slice_index (masked 0 regs) i ≡ 0
none_masked [] i = refl
none_masked (r ∷ regs) zero = refl
none_masked (r ∷ regs) (suc i) = none_masked regs i

module _ (program : QuadProgram) (homes : List (List Home)) (image : Image) (well : IsWellFormed program) (allocation : IsAllocationOf program homes) (own_slots : All HasOwnSlots homes) (is : IsImageOf program homes image) where
  abbrev slot : ℕ → ℕ → ℕ
  slot = slot_in homes

  abbrev there : Laid program slot image
  there = laid program homes image well allocation own_slots is

  slots : (f : ℕ) (k : Known program f) → HasSlots (slot f) k.function.registers
  slots f k = there.slots f k.function k.found

  -- what is matched is a trace of the quads
  trace_of : (instructions : ℕ) (a end : Actor) (t : QuadThread) (part : Log) (trace : List Action) → Does (isa.move image) instructions a part end → isa_traces.IsTraceOf image part end trace →
      (m : Matched program image (Stands program slot image) instructions part end t 24) → IsTraceOf program part m.end trace × IsPaid trace instructions m.work
  trace_of instructions a end t part trace does (inl same) m = (
    inl same,
    record { under_way = m.pays; ended = λ ends. let over = m.ended (last_is_over image instructions a part end ends.0 does (sym same ∙ ends.1)) in omega (arith, over) },
  )
  trace_of instructions a end t part trace does (inr (kind, line, at_trap, same)) m = (
    inr (kind, line, m.stands.traps kind line at_trap, same),
    record { under_way = m.pays; ended = λ ends. absurd (no_trap_at_end kind line (snoc_last (actions_of part) ends.0 (Trap kind line) Ended (sym same ∙ ends.1))) },
  )

  -- ---- the serial code

  first_contents : (found : ℕ → Registers) → Contents
  first_contents found = record { registers = λ r. slice_index (zeros_of 131584) (512 * 0 + slot program.main r); list = slice_index (replicate 16 0); found = found }

  main_function : Known program program.main
  main_function = let f = element program.functions program.main well.main in known_function program well program.main f.0 f.1

  main_fits : (found : ℕ → Registers) → Fits program slot no_start (memory_of (new_master image)) (main_thread program (first_contents found))
  unfolding first_contents
  main_fits found =
      record {
        goes_on = refl;
        depth = refl;
        deep = omega arith;
        regs = refl;
        dollar = refl;
        result = refl;
        places = refl;
        list = λ k low. refl;
        frames = length-zeros_of 131584;
        back = length-zeros_of 256;
        thread = refl;
        here = record { known = main_function; inside = some_quads program main_function; placed = λ b. let above = b.3.0 in omega (arith, above); holds = λ r low. refl };
        callers = tt;
      }

  main_at : main_actor image ≡ actor_at no_start (new_master image) (place program program.main 0)
  main_at = ap (λ at. actor_at no_start (new_master image) at) (ap (start_of image) is.entry ∙ there.starts program.main well.main)

  -- whatever the serial code does, the quads do
  serial_matched : (n : ℕ) (part : Log) (end : Actor) → Does (isa.move image) n (main_actor image) part end → Matched program image (Stands program slot image) n part end (main_thread program (first_contents (λ call r. 0))) 24
  unfolding first_contents
  serial_matched n part end does =
      (all_keep program slot image there slots well (suc n) no_start (new_master image) (main_thread program (first_contents (λ call r. 0))) (main_fits (λ call r. 0))).by n (omega arith) part end
      (subst (λ a. Does (isa.move image) n a part end) main_at does)

  main_paid : (replies : List ℕ) (trace : List Action) (instructions : ℕ) → isa_traces.HasTrace image Main replies trace instructions → (work : ℕ) × HasTrace program Main replies trace work × IsPaid trace instructions work
  unfolding first_contents
  main_paid replies trace instructions h =
      let does = subst (λ a. Does (isa.move image) instructions a h.part h.end) h.begins h.does in
      let m = serial_matched instructions h.part h.end does in
      let found = trace_of instructions (main_actor image) h.end (main_thread program (first_contents (λ call r. 0))) h.part trace does h.is_trace m in (
        m.work,
        record {
          thread = main_thread program (first_contents m.found);
          begins = (first_contents m.found, refl);
          part = h.part;
          end = m.end;
          steps = m.steps;
          does = m.does;
          told = h.told;
          is_trace = found.0;
        },
        found.1,
      )

  -- ---- a thread of a block

  -- a register that is live is one of the function's
  live_is_low : (f : ℕ) (k : Known program f) (r at : ℕ) → IsLive (quads_in program f) r at → r < k.function.registers
  live_is_low f k r _ (is_read at q here reads_it) = registers_below program k at q here r (inl reads_it)
  live_is_low f k r _ (is_kept at to q here other leads live) = live_is_low f k r to live

  module _ (serial : Actor) (ask : SpawnAsk) (t : QuadThread) (alike : SpawnsAlike program slot image serial ask t) (u : MachineUnit) where
    abbrev start : Start
    start = broadcast serial.unit ask

    -- what the thread finds
    abbrev block_registers : Registers
    block_registers = λ r. home_value start u.frames 0 (own_in program t.function (t.at + 1) r) (slot t.function r)

    abbrev block_contents : (found : ℕ → Registers) → Contents
    block_contents found = record { registers = block_registers; list = slice_index u.list; found = found }

    block_is : (join : ℕ) × IsBlock (quads_in program t.function) t.at join
    block_is = alike.fits.here.known.well.regions.spawn_joins t.at (alike.low, alike.high, spawn_there)
      where
        some : (b : Bool) → t.ended ≡ b → b ≡ false → slice_get (quads_in program t.function) t.at ≡ Some (quad.Spawn alike.low alike.high)
        some true ended goes_on = cc
        some false goes_on same = ap (λ b. if b then None else slice_get (quads_in program t.function) t.at) (sym goes_on) ∙ alike.is_spawn

        spawn_there : slice_get (quads_in program t.function) t.at ≡ Some (quad.Spawn alike.low alike.high)
        spawn_there = some t.ended refl alike.fits.goes_on

    -- a register that is live where the block begins is the master's
    not_own : (r : ℕ) → IsLive (quads_in program t.function) r (t.at + 1) → own_in program t.function (t.at + 1) r ≡ false
    not_own r live =
        let quads = quads_in program t.function in
        let join = block_is.0 in
        let block = block_is.1 in
        let order = block.order in
        let above : t.at < t.at + 1 = omega arith in
        let most : t.at + 1 ≤ join = omega (arith, order) in
        let own : own_in program t.function (t.at + 1) r ≡ written_in (drop (suc t.at) quads) r = ap (λ own. own r) (own_inside quads all_own t.at join (t.at + 1) block above most) in
        own ∙ by (written_in (drop (suc t.at) quads) r) refl
      where
        never : Written (drop (suc t.at) (quads_in program t.function)) r → ⊥
        never w =
            let quads = quads_in program t.function in
            let join = block_is.0 in
            let block = block_is.1 in
            let order = block.order in
            let here : slice_get quads (suc t.at + w.at) ≡ Some w.q = sym (element_of_rest quads (suc t.at) w.at) ∙ w.here in
            alike.fits.here.known.well.live.kept_in_block t.at join (suc t.at + w.at) r w.q block (omega arith, before quads join block.joins order w.none) here w.is_written live
          where
            before : (quads : List Quad) (join : ℕ) → slice_get quads join ≡ Some quad.Join → t.at < join → ((j : ℕ) → j ≤ w.at → slice_get (drop (suc t.at) quads) j ≡ Some quad.Join → ⊥) → suc t.at + w.at ≤ join
            before quads join joins order none = by_order (leb_tells (suc t.at + w.at) join)
              where
                by_order : ((nat_le (suc t.at + w.at) join ≡ true) × (suc t.at + w.at ≤ join)) ⊎ ((nat_le (suc t.at + w.at) join ≡ false) × (join < suc t.at + w.at)) → suc t.at + w.at ≤ join
                by_order (inl low) = low.1
                by_order (inr high) =
                    let gap = join - suc t.at in
                    let whole : suc t.at + gap ≡ join = omega (arith, order) in
                    let less = high.1 in
                    absurd (none gap (omega (arith, less, order)) (element_of_rest quads (suc t.at) gap ∙ ap (slice_get quads) whole ∙ joins))

        by : (b : Bool) → written_in (drop (suc t.at) (quads_in program t.function)) r ≡ b → b ≡ false
        by true is = absurd (never (written_back (drop (suc t.at) (quads_in program t.function)) r is))
        by false is = refl

    broadcast_is : (found : ℕ → Registers) → AreBroadcast program t (block_contents found).registers
    broadcast_is found r live =
        let k = alike.fits.here.known in
        let f = t.function in
        let low = live_is_low f k r (t.at + 1) live in
        let few = (slots f k).low r low in
        let depth = serial.unit.depth in
        let frames = serial.unit.frames in
        let placed = subst (λ parent. IsPlaced program parent (length t.callers) f t.at) alike.serial alike.fits.here.placed in
        let own : own_in program f t.at r ≡ true = ap (λ own. own r) (own_serial program k (length t.callers) t.at alike.fits.here.inside placed) in
        ap (λ own. home_value start u.frames 0 own (slot f r)) (not_own r live) ∙
        get_or-take 512 (drop (512 * depth) frames) (slot f r) 0 few ∙
        get_or-drop (512 * depth) frames (slot f r) 0 ∙
        ap (λ d. slice_index frames (512 * d + slot f r)) alike.fits.depth ∙
        sym (alike.fits.here.holds r low ∙ ap (λ own. home_value serial.start frames (length t.callers) own (slot f r)) own)

    block_fits : (number : ℕ) (found : ℕ → Registers) → (u.number ≡ 0 → ⊥) → isa.HasRoom u → Fits program slot start (memory_of (begins start u number)) (block_thread t (block_contents found) number)
    block_fits number found virtual room =
        let block = block_is.1 in
        let order = block.order in
        let inside = element_inside (quads_in program t.function) block_is.0 quad.Join block.joins in
        let long = length-masked ask.mask serial.unit.regs ∙ alike.fits.regs in
        let above : t.at < t.at + 1 = omega arith in
        let most : t.at + 1 ≤ block_is.0 = omega (arith, order) in
        record {
          goes_on = refl;
          depth = refl;
          deep = omega arith;
          regs = length-set start.regs 1 number ∙ long;
          dollar = get_or-set_same start.regs 1 number 0 (omega (arith, long));
          result = get_or-set_other start.regs 1 2 number 0 (λ e. omega (arith, e)) ∙ ap (λ mask. slice_index (masked mask serial.unit.regs) 2) alike.no_mask ∙ none_masked serial.unit.regs 2;
          places = room.list;
          list = λ k low. refl;
          frames = room.frames;
          back = room.back;
          thread = (alike.fits.depth, virtual);
          here = record { known = alike.fits.here.known; inside = omega (arith, inside, most); placed = (t.at, block_is.0, block, (above, most)); holds = λ r low. refl };
          callers = tt;
        }

  block_paid : (before : List Action) (serial_replies : List ℕ) (number : ℕ) (replies : List ℕ) (trace : List Action) (instructions : ℕ) → isa_traces.HasTrace image (Block before serial_replies number) replies trace instructions →
      (work : ℕ) × HasTrace program (Block before serial_replies number) replies trace work × IsPaid trace instructions work
  unfolding first_contents
  block_paid before serial_replies number replies trace instructions h =
      let part = h.begins.0 in
      let serial = h.begins.1 in
      let ask = h.begins.2 in
      let k = h.begins.3 in
      let comes = h.begins.4 in
      let m = serial_matched comes.steps part serial comes.does in
      let alike = m.stands.spawns ask comes.runs comes.asks in
      let t = m.end in
      let begun = h.begins.9 in
      let u = begun.0 in
      let start' = broadcast serial.unit ask in
      let child = number_at start' k in
      let is_number : number ≡ child = h.begins.8 in
      let none : ℕ → Registers = λ call r. 0 in
      let begin = block_thread t (block_contents serial ask t alike u none) child in
      let same : h.actor ≡ actor_at start' (begins start' u child) (place program t.function (t.at + 1)) = begun.3 ∙ ap (actor_at start' (begins start' u child)) alike.begins in
      let does = subst (λ a. Does (isa.move image) instructions a h.part h.end) same h.does in
      let mb = (all_keep program slot image there slots well (suc instructions) start' (begins start' u child) begin (block_fits serial ask t alike u child none begun.1 begun.2)).by instructions (omega arith) h.part h.end does in
      let found = trace_of instructions h.actor h.end begin h.part trace h.does h.is_trace mb in
      let low = operand_value t.registers alike.low in
      let high = operand_value t.registers alike.high in
      let thread = block_thread t (block_contents serial ask t alike u mb.found) child in
      let did : before ≡ actions_of part ++ (Spawn (site_at program t.function t.at) low high ∷ []) =
      h.begins.6 ∙ ap (λ s. actions_of part ++ (Spawn s ask.low ask.high ∷ [])) alike.site ∙ ap (λ l. actions_of part ++ (Spawn (site_at program t.function t.at) l ask.high ∷ [])) alike.low_is ∙
      ap (λ h. actions_of part ++ (Spawn (site_at program t.function t.at) low h ∷ [])) alike.high_is in
      let made : k < count_between low high = subst (λ l. k < count_between l high) alike.low_is (subst (λ h. k < count_between ask.low h) alike.high_is h.begins.7) in
      let numbered : number ≡ (low + k) % 2 ^ 32 = is_number ∙ ap (λ l. (l + k) % 2 ^ 32) alike.low_is in
      let beginning : BeginsAtBlock program before serial_replies number thread =
      record {
        part = part;
        serial = t;
        low = alike.low;
        high = alike.high;
        comes = record { contents = first_contents m.found; steps = m.steps; work = m.work; does = m.does; spawns = alike.is_spawn };
        told = h.begins.5;
        did = did;
        k = k;
        is_made = made;
        is_number = numbered;
        contents = block_contents serial ask t alike u mb.found;
        broadcast = broadcast_is serial ask t alike u mb.found;
        begins = ap (block_thread t (block_contents serial ask t alike u mb.found)) (sym is_number);
      } in (
        mb.work,
        record {
          thread = thread;
          begins = beginning;
          part = h.part;
          end = mb.end;
          steps = mb.steps;
          does = mb.does;
          told = h.told;
          is_trace = found.0;
        },
        found.1,
      )

  pub paid_traces : HasPaidTraces program (isa_traces.traces_of image)
  paid_traces Main replies trace instructions h = main_paid replies trace instructions h
  paid_traces (Block before serial_replies number) replies trace instructions h = block_paid before serial_replies number replies trace instructions h
