-- Units that are live: they run, or are due to draw.
use Rattle.std.proofs.Common.{◌≡◌, ◌≢◌, refl, sym, ◌∙◌, subst, ℕ, ◌+◌, ◌<◌, ◌==◌, Bool, true, false, if◌then◌else◌, ◌≤◌, length, get_or, inl, inr}
use Rattle.std.proofs.lemmas.Option.{slice_get-get_or}
use Rattle.xmt_isa.specs.declared.image.Image.{Image}
use Rattle.xmt_isa.specs.declared.image.Instr.{Instr}
use Rattle.xmt_isa.specs.declared.unit.Unit.{Unit}
use Rattle.xmt_isa.specs.declared.unit.UnitState.TheVariants.{Draws, Runs, Stopped, Halted}
use Rattle.xmt_isa.specs.declared.unit.SpawnAsk.{SpawnAsk}
use Rattle.xmt_isa.specs.declared.unit.Start.{Start}
use Rattle.xmt_isa.specs.declared.unit.Request.{Request}
use Rattle.xmt_isa.specs.declared.unit.Request.TheVariants as request
use Rattle.xmt_isa.specs.declared.unit.Next.TheVariants as next
use Rattle.xmt_isa.specs.Step.{outer_depth, next_of}
use Rattle.xmt_isa.specs.Machine.{ready}
use Rattle.xmt_isa.specs.Picked.{is_live}
use Rattle.xmt_isa.specs.Regions.{IsSpawn}
use Rattle.xmt_isa.specs.Valid.{IsValid}
use Rattle.xmt_isa.specs.Threads.{HasRoom}
use Rattle.xmt_isa.specs.Fits.{StartFits, UnitFits}
use Rattle.xmt_isa.proofs.Sound.{valid_sound}
use Rattle.machine_places.proofs.Goes.{at_spawn, at_join}
use Rattle.machine_places.proofs.Units.{next_of-draws}
use Rattle.interleaving.proofs.Grows.{differs}
use Rattle.unit_steps.specs.Steps.{is_new_master}
use Rattle.unit_steps.specs.Keeps.{IsThere, HasStart, StandsSoundly}
use Rattle.unit_steps.proofs.Inner.{at_inside, prints_not, joins_not}
use Rattle.unit_steps.proofs.There.{there_runs, at_print}
use Rattle.unit_steps.proofs.States.{two_states, live_is, zero_or, other_due}
use Rattle.unit_steps.proofs.Kept.{within, spawns_master}

-- a unit that is due asks for a number
draw_asks : (image : Image) (start : Start) (u : Unit) (ask : Request) → u.state ≡ Draws → next_of image start u ≡ next.Ask ask → request.Draw ≡ ask
draw_asks image start u ask due is = let same : next.Ask request.Draw ≡ next.Ask ask = sym (next_of-draws image start u due) ∙ is in cc

draw_not_spawn : {A : Type 0} (ask : SpawnAsk) → request.Draw ≡ request.Spawn ask → A
draw_not_spawn ask e = cc

draw_not_print : {A : Type 0} (text : ℕ) → request.Draw ≡ request.Print text → A
draw_not_print text e = cc

no_instruction : Instr
no_instruction = record { op = 0; a = 0; b = 0; c = 0; imm = 0 }

module _ (image : Image) (start : Start) (u : Unit) (fits : UnitFits image start u) where
  -- when it has asked
  pub ask_fits : (ask : Request) → is_live u.state ≡ true → is_new_master u ≡ false → next_of image start u ≡ next.Ask ask → UnitFits image start (record u { waits = true })
  ask_fits ask live other is =
      let r : HasRoom u = fits.room in
      record {
        room = record { back = r.back; frames = r.frames; list = r.list };
        registers = fits.registers;
        zero = fits.zero;
        depth = fits.depth;
        stops = fits.stops;
        halts = fits.halts;
        waits = λ w. live_is u.state live;
        master_waits = λ w zero_is. elim (live_is u.state live) [ inl runs ↦ runs | inr due ↦ absurd (other_due u other due zero_is) ];
        asks = λ w runs. (ask, is);
        placed = λ runs. (let p = fits.placed runs in record { inside = p.inside; returns = p.returns; serial = p.serial; virtual = p.virtual });
      }

  -- at the beginning of another section
  pub ready_fits : (other : Start) → u.state ≡ Stopped → UnitFits image other (ready u)
  ready_fits other stopped =
      let r : HasRoom u = fits.room in
      record {
        room = record { back = r.back; frames = r.frames; list = r.list };
        registers = fits.registers;
        zero = fits.zero;
        depth = fits.depth;
        stops = λ s. two_states Draws Draws Stopped refl s refl;
        halts = λ s. two_states Draws Draws Halted refl s refl;
        waits = λ w. inr refl;
        master_waits = λ w zero_is. absurd (fits.stops stopped zero_is);
        asks = λ w runs. two_states Draws Draws Runs refl runs refl;
        placed = λ runs. two_states Draws Draws Runs refl runs refl;
      }

  module _ (valid : IsValid image) where
    -- it stands inside the code
    here : u.state ≡ Runs → u.at < length image.code
    here runs = at_inside image valid start u (within image valid start u fits) (fits.placed runs)

    -- a unit that runs stands at a sound instruction
    pub stands_soundly : u.state ≡ Runs → StandsSoundly image u
    stands_soundly runs =
        let at = slice_get-get_or image.code u.at no_instruction (here runs) in
        let sound = valid_sound image valid u.at (get_or image.code u.at no_instruction) at in
        record { instruction = get_or image.code u.at no_instruction; is_at = at; operation = sound.0; means = sound.1; is_sound = sound.2 }

    -- the depth of the outer words that it reaches
    outer_deep : HasStart image start u → outer_depth start u ≤ 256
    outer_deep has = by_test (u.number == 0) refl
      where
        by_test : (b : Bool) → (u.number == 0) ≡ b → (if b then u.depth else start.depth) ≤ 256
        by_test true e = fits.depth
        by_test false e = (let started : StartFits image start = has (differs u.number 0 e) in started.depth)

    -- what it asks for is there
    pub asked_there : (ask : Request) → HasStart image start u → is_live u.state ≡ true → next_of image start u ≡ next.Ask ask → IsThere image ask
    asked_there ask has live is = elim (live_is u.state live) [
      | inl runs ↦ there_runs image start u (outer_deep has) valid runs ask is
      | inr due ↦ subst (IsThere image) (draw_asks image start u ask due is) tt
    ]

    -- the master alone spawns
    pub spawns_at : (ask : SpawnAsk) → is_live u.state ≡ true → next_of image start u ≡ next.Ask (request.Spawn ask) → (u.number ≡ 0) × IsSpawn image u.at × (ask.at ≡ u.at + 1)
    spawns_at ask live is = elim (live_is u.state live) [
      | inl runs ↦ (let at = at_spawn image start u ask runs is in (spawns_master image valid start u fits ask runs is, at.0, at.1))
      | inr due ↦ draw_not_spawn ask (draw_asks image start u (request.Spawn ask) due is)
    ]

    -- the master alone prints
    pub prints_at : (text : ℕ) → is_live u.state ≡ true → next_of image start u ≡ next.Ask (request.Print text) → u.number ≡ 0
    prints_at text live is = elim (live_is u.state live) [
      | inl runs ↦ elim (zero_or u.number) [
        | inl zero_is ↦ zero_is
        | inr other ↦ absurd (prints_not image valid start u (within image valid start u fits) (fits.placed runs) other (at_print image start u text runs is))
      ]
      | inr due ↦ draw_not_print text (draw_asks image start u (request.Print text) due is)
    ]

    -- a control unit alone draws
    pub draws_other : is_live u.state ≡ true → is_new_master u ≡ false → next_of image start u ≡ next.Ask request.Draw → u.number ≢ 0
    draws_other live other is = elim (live_is u.state live) [
      | inl runs ↦ (λ zero_is. joins_not image valid start u (within image valid start u fits) (fits.placed runs) zero_is (at_join image start u runs is))
      | inr due ↦ other_due u other due
    ]
