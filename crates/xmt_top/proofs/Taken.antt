-- Which codes a job has in which nothing is refused, and one that must come to its end.
use Rattle.std.proofs.Common.{◌≡◌, ℕ, ◌+◌, ◌*◌, ◌≤◌, List, [], ◌∷◌, length, Contains, Option, refl, sym, subst, arith}
use Rattle.xmt_base.specs.declared.values.Place.{Place}
use Rattle.xmt_base.specs.declared.values.Trap as spec
use Rattle.source_meaning.specs.declared.tree.Program.{Program}
use Rattle.source_meaning.specs.Layout.{opening_words, symbols_from}
use Rattle.front_end.specs.declared.refusal.SourceKind.{SourceKind}
use Rattle.xmt_isa.specs.declared.image.Image.{Image}
use Rattle.xmt_isa.specs.declared.run.Choice.{Choice}
use Rattle.xmt_isa.specs.declared.run.Choice.TheVariants as choice
use Rattle.run_options.specs.declared.options.SimOptions.{SimOptions}
use Rattle.xmt_isa.specs.Machine.{Machine, after}
use Rattle.xmt_isa.specs.Opening.{opening}
use Rattle.xmt_isa.specs.Picked.{PickedRun}
use Rattle.xmt_cli.specs.Given.{Text}
use Rattle.xmt_cli.specs.JobOf.{Task, compile, simulate, run}
use Rattle.xmt_jobs.specs.declared.outcome.BytesFault.{BytesFault}
use Rattle.xmt_jobs.specs.declared.outcome.Outcome.{Outcome}
use Rattle.xmt_jobs.specs.declared.outcome.Outcome.TheVariants.{Done, SourceRefused, ImageRefused, MapRefused, Trap, Spent, Fault, NoMemory}
use Rattle.xmt_host.specs.Told.{Told}
use Rattle.xmt_jobs.specs.Ended.{HasEnded}
use Rattle.xmt_jobs.specs.Runs.{RunsTo}
use Rattle.xmt_jobs.specs.Images.{HasSimulated}
use Rattle.xmt_jobs.specs.Sources.{HasRun}
use Rattle.xmt_top.specs.Shows.{code_of}
use Rattle.xmt_top.specs.Completeness.{HasMemory, IsTaken, MustEnd, EndsWithin, ImageEndsWithin}
use Rattle.xmt_top.proofs.Held.{of_program, program_not_broken, of_image, image_not_faulty, of_memory, memory_not_faulty}
use Rattle.xmt_top.proofs.Stops.{Traps, Spends, trap_stops, spent_stops}

module _ (before now : Told) where
  module _ (P : SimOptions → Program → List ℕ → Type 0) (Q : SimOptions → Image → List ℕ → Type 0) where
    -- what is taken isn't refused
    source_kept : (task : Task) (kind : SourceKind) (place : Place) → IsTaken before.files task P Q → HasEnded task before now (SourceRefused kind place) → ⊥
    source_kept (compile file target) kind place taken h = program_not_broken before.files file _ kind place taken h.0
    source_kept (simulate file options map dump) kind place taken h = h
    source_kept (run file options map dump) kind place taken h = program_not_broken before.files file _ kind place taken h.0

    image_kept : (task : Task) (fault : BytesFault) → IsTaken before.files task P Q → HasEnded task before now (ImageRefused fault) → ⊥
    image_kept (compile file target) fault taken h = h
    image_kept (simulate file options map dump) fault taken h = image_not_faulty before.files file _ fault taken h.0
    image_kept (run file options map dump) fault taken h = h

    map_kept : (task : Task) (fault : BytesFault) → IsTaken before.files task P Q → HasEnded task before now (MapRefused fault) → ⊥
    map_kept (compile file target) fault taken h = h
    map_kept (simulate file options map dump) fault taken h =
        memory_not_faulty h.0.0.symbols h.0.0.words before.files (Q options h.0.0) map fault
        (of_image before.files file (λ (image : Image). HasMemory before.files map image.symbols image.words (Q options image)) h.0.0 taken h.0.1) h.0.2
    map_kept (run file options map dump) fault taken h =
        memory_not_faulty (symbols_from 0 h.0.0.globals) (opening_words h.0.0.globals) before.files (P options h.0.0) map fault
        (of_program before.files file (λ (program : Program). HasMemory before.files map (symbols_from 0 program.globals) (opening_words program.globals) (P options program)) h.0.0 taken h.0.1) h.0.2

    pub taken_codes : (task : Task) (o : Outcome) → IsTaken before.files task P Q → HasEnded task before now o → (o ≡ Fault → ⊥) → Contains (0 ∷ 4 ∷ 5 ∷ 7 ∷ []) (code_of o)
    taken_codes task Done taken h calm = (0, omega arith, refl)
    taken_codes task (SourceRefused kind place) taken h calm = absurd (source_kept task kind place taken h)
    taken_codes task (ImageRefused fault) taken h calm = absurd (image_kept task fault taken h)
    taken_codes task (MapRefused fault) taken h calm = absurd (map_kept task fault taken h)
    taken_codes task (Trap trap) taken h calm = (1, omega arith, refl)
    taken_codes task (Spent unit steps) taken h calm = (2, omega arith, refl)
    taken_codes task Fault taken h calm = absurd (calm refl)
    taken_codes task NoMemory taken h calm = (3, omega arith, refl)

    -- what is taken is what has run
    of_simulated : (file : Text) (options : SimOptions) (map dump : Option Text) (end : Choice) → IsTaken before.files (simulate file options map dump) P Q → (h : HasSimulated file options map end before now) → Q options h.image h.memory
    of_simulated file options map dump end taken h =
        of_memory h.image.symbols h.image.words before.files (Q options h.image) map h.memory
        (of_image before.files file (λ (image : Image). HasMemory before.files map image.symbols image.words (Q options image)) h.image taken h.holds) h.opens

    of_run : (file : Text) (options : SimOptions) (map dump : Option Text) (end : Choice) → IsTaken before.files (run file options map dump) P Q → (h : HasRun file options map end before now) → P options h.program h.memory
    of_run file options map dump end taken h =
        of_memory (symbols_from 0 h.program.globals) (opening_words h.program.globals) before.files (P options h.program) map h.memory
        (of_program before.files file (λ (program : Program). HasMemory before.files map (symbols_from 0 program.globals) (opening_words program.globals) (P options program)) h.program taken h.holds) h.opens

  -- ---- a run that must end

  module _ (image : Image) (memory : List ℕ) (options : SimOptions) (machine : Machine) (ends : ImageEndsWithin options image memory) where
    -- this machine, with a generator that isn't looked at
    abbrev run_there : PickedRun
    run_there = record { machine = machine; state = 0 }

    image_traps_not : (trap : spec.Trap) → RunsTo image memory options (choice.Trap trap) machine before now → ⊥
    image_traps_not trap h =
        let legal = h.ended.reached.legal in
        let there : Traps image (after image (opening image memory options.units) legal.0) = subst (Traps image) (sym legal.2) (trap_stops image options.budget run_there trap (h.ended.ends 0)) in
        ends.never_traps legal.0 there.place there.kind legal.1 there.active there.stands

    image_spends_not : (unit steps : ℕ) → RunsTo image memory options (choice.Spent unit steps) machine before now → ⊥
    image_spends_not unit steps h =
        let legal = h.ended.reached.legal in
        let there : Spends options.budget (after image (opening image memory options.units) legal.0) =
        subst (Spends options.budget) (sym legal.2) (spent_stops image options.budget run_there unit steps (h.ended.ends 0)) in
        let less = ends.never_spends legal.0 there.place there.unit legal.1 there.at in
        omega (arith, less, there.steps)

  traps_not : (task : Task) (trap : spec.Trap) → MustEnd before.files task → HasEnded task before now (Trap trap) → ⊥
  traps_not (compile file target) trap must h = h
  traps_not (simulate file options map dump) trap must h =
      image_traps_not h.0.image h.0.memory options h.0.machine (of_simulated EndsWithin ImageEndsWithin file options map dump _ must h.0) trap h.0.run
  traps_not (run file options map dump) trap must h =
      let ends = of_run EndsWithin ImageEndsWithin file options map dump _ must h.0 in
      ends.never_traps h.0.does.schedule trap h.0.does.legal h.0.does.ends

  spends_not : (task : Task) (unit steps : ℕ) → MustEnd before.files task → HasEnded task before now (Spent unit steps) → ⊥
  spends_not (compile file target) unit steps must h = h
  spends_not (simulate file options map dump) unit steps must h =
      image_spends_not h.0.image h.0.memory options h.0.machine (of_simulated EndsWithin ImageEndsWithin file options map dump _ must h.0) unit steps h.0.run
  spends_not (run file options map dump) unit steps must h =
      let ends = of_run EndsWithin ImageEndsWithin file options map dump _ must h.0 in
      let few : length h.0.does.schedule ≤ ends.most = ends.ends h.0.does.schedule h.0.does.legal in
      let spent : options.budget ≤ 64 * (length h.0.does.schedule + 1) = h.0.does.ends.1 in
      let enough : 64 * (ends.most + 2) ≤ options.budget = ends.enough in
      omega (arith, few, spent, enough)

  pub end_codes : (task : Task) (o : Outcome) → MustEnd before.files task → HasEnded task before now o → (o ≡ Fault → ⊥) → Contains (0 ∷ 7 ∷ []) (code_of o)
  end_codes task Done must h calm = (0, omega arith, refl)
  end_codes task (SourceRefused kind place) must h calm = absurd (source_kept EndsWithin ImageEndsWithin task kind place must h)
  end_codes task (ImageRefused fault) must h calm = absurd (image_kept EndsWithin ImageEndsWithin task fault must h)
  end_codes task (MapRefused fault) must h calm = absurd (map_kept EndsWithin ImageEndsWithin task fault must h)
  end_codes task (Trap trap) must h calm = absurd (traps_not task trap must h)
  end_codes task (Spent unit steps) must h calm = absurd (spends_not task unit steps must h)
  end_codes task Fault must h calm = absurd (calm refl)
  end_codes task NoMemory must h calm = (1, omega arith, refl)
