-- Which codes a job has whose source, image or map must be refused.
use Rattle.std.proofs.Common.{[], ◌∷◌, Contains, Option, refl, inl, inr, arith}
use Rattle.source_meaning.specs.declared.tree.Program.{Program}
use Rattle.source_meaning.specs.Layout.{opening_words, symbols_from}
use Rattle.xmt_isa.specs.declared.image.Image.{Image}
use Rattle.xmt_isa.specs.declared.run.Choice.{Choice}
use Rattle.run_options.specs.declared.options.SimOptions.{SimOptions}
use Rattle.xmt_cli.specs.Given.{Text}
use Rattle.xmt_cli.specs.JobOf.{Task, compile, simulate, run}
use Rattle.xmt_jobs.specs.declared.outcome.Outcome.{Outcome}
use Rattle.xmt_jobs.specs.declared.outcome.Outcome.TheVariants.{Done, SourceRefused, ImageRefused, MapRefused, Trap, Spent, Fault, NoMemory}
use Rattle.xmt_host.specs.Told.{Told}
use Rattle.xmt_jobs.specs.Ended.{HasEnded}
use Rattle.xmt_jobs.specs.Images.{HasSimulated}
use Rattle.xmt_jobs.specs.Sources.{HasRun}
use Rattle.xmt_top.specs.Shows.{code_of}
use Rattle.xmt_top.specs.Completeness.{LacksMap, MustRefuseSource, MustRefuseBytes}
use Rattle.xmt_top.proofs.Held.{of_program, lacks_no_program, program_not_broken, of_image, lacks_no_image, lacks_no_map}

module _ (before now : Told) where
  -- ---- sources

  pub source_codes : (task : Task) (o : Outcome) → MustRefuseSource before.files task → HasEnded task before now o → Contains (1 ∷ 6 ∷ 7 ∷ []) (code_of o)
  source_codes (compile file target) Done must h = absurd (lacks_no_program before.files file h.1.compiles.program must h.1.compiles.holds)
  source_codes (compile file target) (SourceRefused kind place) must h = (0, omega arith, refl)
  source_codes (compile file target) (ImageRefused fault) must h = absurd h
  source_codes (compile file target) (MapRefused fault) must h = absurd h
  source_codes (compile file target) (Trap trap) must h = absurd h
  source_codes (compile file target) (Spent unit steps) must h = absurd h
  source_codes (compile file target) Fault must h = (1, omega arith, refl)
  source_codes (compile file target) NoMemory must h = (2, omega arith, refl)
  source_codes (simulate file options map dump) o must h = absurd must
  source_codes (run file options map dump) Done must h = absurd (lacks_no_program before.files file h.0.program must h.0.holds)
  source_codes (run file options map dump) (SourceRefused kind place) must h = (0, omega arith, refl)
  source_codes (run file options map dump) (ImageRefused fault) must h = absurd h
  source_codes (run file options map dump) (MapRefused fault) must h = absurd (lacks_no_program before.files file h.0.0 must h.0.1)
  source_codes (run file options map dump) (Trap trap) must h = absurd (lacks_no_program before.files file h.0.program must h.0.holds)
  source_codes (run file options map dump) (Spent unit steps) must h = absurd (lacks_no_program before.files file h.0.program must h.0.holds)
  source_codes (run file options map dump) Fault must h = (1, omega arith, refl)
  source_codes (run file options map dump) NoMemory must h = (2, omega arith, refl)

  -- ---- images and maps

  module _ (file : Text) (options : SimOptions) (map dump : Option Text) where
    -- an image that must be refused, or whose map must be, hasn't run
    simulates_not : (end : Choice) → MustRefuseBytes before.files (simulate file options map dump) → HasSimulated file options map end before now → ⊥
    simulates_not end (inl lacks) h = lacks_no_image before.files file h.image lacks h.holds
    simulates_not end (inr lacks) h =
        lacks_no_map h.image.symbols h.image.words before.files map h.memory
        (of_image before.files file (λ (image : Image). LacksMap before.files map image.symbols image.words) h.image lacks h.holds) h.opens

    -- nor has a program
    runs_not : (end : Choice) → MustRefuseBytes before.files (run file options map dump) → HasRun file options map end before now → ⊥
    runs_not end lacks h =
        lacks_no_map (symbols_from 0 h.program.globals) (opening_words h.program.globals) before.files map h.memory
        (of_program before.files file (λ (program : Program). LacksMap before.files map (symbols_from 0 program.globals) (opening_words program.globals)) h.program lacks h.holds) h.opens

  pub bytes_codes : (task : Task) (o : Outcome) → MustRefuseBytes before.files task → HasEnded task before now o → Contains (3 ∷ 6 ∷ 7 ∷ []) (code_of o)
  bytes_codes (compile file target) o must h = absurd must
  bytes_codes (simulate file options map dump) Done must h = absurd (simulates_not file options map dump _ must h.0)
  bytes_codes (simulate file options map dump) (SourceRefused kind place) must h = absurd h
  bytes_codes (simulate file options map dump) (ImageRefused fault) must h = (0, omega arith, refl)
  bytes_codes (simulate file options map dump) (MapRefused fault) must h = (0, omega arith, refl)
  bytes_codes (simulate file options map dump) (Trap trap) must h = absurd (simulates_not file options map dump _ must h.0)
  bytes_codes (simulate file options map dump) (Spent unit steps) must h = absurd (simulates_not file options map dump _ must h.0)
  bytes_codes (simulate file options map dump) Fault must h = (1, omega arith, refl)
  bytes_codes (simulate file options map dump) NoMemory must h = (2, omega arith, refl)
  bytes_codes (run file options map dump) Done must h = absurd (runs_not file options map dump _ must h.0)
  bytes_codes (run file options map dump) (SourceRefused kind place) must h = absurd (program_not_broken before.files file _ kind place must h.0)
  bytes_codes (run file options map dump) (ImageRefused fault) must h = absurd h
  bytes_codes (run file options map dump) (MapRefused fault) must h = (0, omega arith, refl)
  bytes_codes (run file options map dump) (Trap trap) must h = absurd (runs_not file options map dump _ must h.0)
  bytes_codes (run file options map dump) (Spent unit steps) must h = absurd (runs_not file options map dump _ must h.0)
  bytes_codes (run file options map dump) Fault must h = (1, omega arith, refl)
  bytes_codes (run file options map dump) NoMemory must h = (2, omega arith, refl)
