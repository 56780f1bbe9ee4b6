-- A unit that begins fits: the master in the main function, a control unit in its block, or where it stops.
use Rattle.std.proofs.Common.{◌≡◌, ◌≢◌, refl, sym, ◌∙◌, ap, subst, ℕ, ◌+◌, ◌<◌, ◌≤◌, nat_lt, Bool, true, false, if◌then◌else◌, length, slice_index, slice_set, ◌⊎◌, inl, inr, arith}
use Rattle.std.proofs.lemmas.List.{length-set}
use Rattle.std.proofs.lemmas.Option.{slice_get_within}
use Rattle.xmt_isa.specs.declared.image.Image.{Image}
use Rattle.xmt_isa.specs.declared.unit.Unit.{Unit}
use Rattle.xmt_isa.specs.declared.unit.UnitState.TheVariants.{Runs, Stopped, Halted}
use Rattle.xmt_isa.specs.declared.unit.Start.{Start}
use Rattle.xmt_isa.specs.Image.{start_of, IsIn}
use Rattle.xmt_isa.specs.Step.{draws}
use Rattle.xmt_isa.specs.Valid.{IsValid}
use Rattle.xmt_isa.specs.Threads.{HasRoom, begins, stops, number_at}
use Rattle.xmt_isa.specs.Fits.{StartFits, IsInBlockOf, IsPlaced, UnitFits}
use Rattle.image_loader.specs.Nesting.{IsNested}
use Rattle.image_loader.proofs.Nesting.{valid_nests}
use Rattle.machine_places.proofs.Places.{Outside}
use Rattle.unit_steps.specs.Steps.{is_new_master, begun}
use Rattle.unit_steps.proofs.States.{never_true, two_states, new_master_zero}
use Rattle.unit_steps.proofs.Positions.{line, set_other}
use Rattle.unit_steps.proofs.Functions.{in_code}
use Rattle.unit_steps.proofs.Instructions.{has_instr}
use Rattle.unit_steps.proofs.Placed.{PlacesOf, places_placed}

-- ---- units that begin

-- a unit in no call stands at its next instruction alone
first_placed : (image : Image) (start : Start) (v : Unit) → v.depth ≡ 0 → v.at < length image.code → (v.number ≡ 0 → IsIn image image.entry v.at × Outside image v.at) → (v.number ≢ 0 → IsInBlockOf image start v.at) → IsPlaced image start v
first_placed image start v none inside serial virtual =
    places_placed image start v (omega (arith, none)) (subst (λ d. PlacesOf image start v.number d v.back v.at) (sym none) first)
  where
    at_zero : (i : ℕ) → i ≤ 0 → line 0 v.back v.at i ≡ v.at
    at_zero i less = let zero_is : i ≡ 0 = omega (arith, less) in ap (line 0 v.back v.at) zero_is

    first : PlacesOf image start v.number 0 v.back v.at
    first = record {
      inside = λ i less. subst (λ n. n < length image.code) (sym (at_zero i less)) inside;
      returns = λ i less. absurd (omega (arith, less));
      serial = λ is. (serial is).0;
      outside = λ is i less. subst (Outside image) (sym (at_zero i less)) (serial is).1;
      virtual = virtual;
    }

-- a unit that runs fits where it is placed
pub runs_fits : (image : Image) (start : Start) (v : Unit) → HasRoom v → length v.regs ≡ 32 → slice_index v.regs 0 ≡ 0 → v.depth ≤ 256 → v.state ≡ Runs → v.waits ≡ false → IsPlaced image start v → UnitFits image start v
runs_fits image start v room registers zero_is deep runs rests placed = record {
  room = room;
  registers = registers;
  zero = zero_is;
  depth = deep;
  stops = λ s. two_states v.state Runs Stopped runs s refl;
  halts = λ s. two_states v.state Runs Halted runs s refl;
  waits = λ w. never_true (sym rests ∙ w);
  master_waits = λ w. never_true (sym rests ∙ w);
  asks = λ w. never_true (sym rests ∙ w);
  placed = λ r. placed;
}

-- and one that has stopped or halted
pub ended_fits : (image : Image) (start : Start) (v : Unit) → HasRoom v → length v.regs ≡ 32 → slice_index v.regs 0 ≡ 0 → v.depth ≤ 256 → ((v.state ≡ Stopped) × (v.number ≢ 0)) ⊎ ((v.state ≡ Halted) × (v.number ≡ 0)) → v.waits ≡ false → UnitFits image start v
ended_fits image start v room registers zero_is deep ended rests = record {
  room = room;
  registers = registers;
  zero = zero_is;
  depth = deep;
  stops = λ s. elim ended [ inl h ↦ h.1 | inr h ↦ two_states v.state Halted Stopped h.0 s refl ];
  halts = λ s. elim ended [ inl h ↦ two_states v.state Stopped Halted h.0 s refl | inr h ↦ h.1 ];
  waits = λ w. never_true (sym rests ∙ w);
  master_waits = λ w. never_true (sym rests ∙ w);
  asks = λ w. never_true (sym rests ∙ w);
  placed = λ r. elim ended [ inl h ↦ two_states v.state Stopped Runs h.0 r refl | inr h ↦ two_states v.state Halted Runs h.0 r refl ];
}

module _ (image : Image) (valid : IsValid image) where
  nested : IsNested image
  nested = valid_nests image valid

  -- the master in the main function
  begins_main : (start : Start) (u : Unit) → UnitFits image start u → u.waits ≡ false → u.number ≡ 0 → UnitFits image start (record u { state = Runs; at = start_of image image.entry; depth = 0 })
  begins_main start u fits rests zero_is =
      let entered = nested.call image.entry valid.sizes.entry in
      let v : Unit = record u { state = Runs; at = start_of image image.entry; depth = 0 } in
      let r : HasRoom u = fits.room in
      runs_fits image start v (record { back = r.back; frames = r.frames; list = r.list }) fits.registers fits.zero (omega arith) refl rests
      (first_placed image start v refl (in_code image valid.regions.starts image.entry (start_of image image.entry) entered.0) (λ is. entered) (λ other. absurd (other zero_is)))

  pub begin_fits : (start : Start) (u : Unit) → UnitFits image start u → u.waits ≡ false → UnitFits image start (begun image u)
  begin_fits start u fits rests = by_test (is_new_master u) refl
    where
      by_test : (b : Bool) → is_new_master u ≡ b → UnitFits image start (if b then record u { state = Runs; at = start_of image image.entry; depth = 0 } else u)
      by_test true e = begins_main start u fits rests (new_master_zero u e)
      by_test false e = fits

  -- a control unit that draws begins in the block, or stops
  module _ (start : Start) (started : StartFits image start) (u : Unit) (fits : UnitFits image start u) (other : u.number ≢ 0) where
    -- the number is put in register 1
    begun_registers : (n : ℕ) → slice_index (slice_set start.regs 1 n) 0 ≡ 0
    begun_registers n = set_other start.regs 1 n 0 (λ e. omega (arith, e)) ∙ started.zero

    -- the first instruction of the block stands in it
    in_block : IsInBlockOf image start start.at
    in_block =
        let block = valid.regions.spawn_joins started.spawn started.is_spawn in
        record { spawn = started.spawn; join = block.0; is_block = block.1; begins = started.behind; inside = subst (λ n. (started.spawn < n) × (n ≤ block.0)) (sym started.behind) (nested.spawn started.spawn block.0 block.1).0 }

    -- the block begins inside the code
    start_inside : start.at < length image.code
    start_inside =
        let block = valid.regions.spawn_joins started.spawn started.is_spawn in
        let holds = nested.holds started.spawn (let i = has_instr image started.spawn 44 started.is_spawn in slice_get_within image.code started.spawn i.0 i.1) in
        subst (λ n. n < length image.code) (sym started.behind) (in_code image valid.regions.starts holds.0 (started.spawn + 1) ((nested.spawn started.spawn block.0 block.1).1 holds.0 holds.1))

    by_count : (n : ℕ) (b : Bool) → UnitFits image start (record (if b then begins start u n else stops u) { waits = false })
    by_count n true =
        let v : Unit = record (begins start u n) { waits = false } in
        let r : HasRoom u = fits.room in
        runs_fits image start v (record { back = r.back; frames = r.frames; list = r.list }) (length-set start.regs 1 n ∙ started.registers) (begun_registers n) (omega arith) refl refl
        (first_placed image start v refl start_inside (λ is. absurd (other is)) (λ is. in_block))
    by_count n false =
        let v : Unit = record (stops u) { waits = false } in
        let r : HasRoom u = fits.room in
        ended_fits image start v (record { back = r.back; frames = r.frames; list = r.list }) fits.registers fits.zero fits.depth (inl (refl, other)) refl

    pub draw_fits : (reply : ℕ) → UnitFits image start (record (draws start u reply) { waits = false })
    draw_fits reply = by_count (number_at start reply) (nat_lt reply start.count)
