-- From the run of a loaded image to what the source that it implements has done.
use Rattle.std.proofs.Common.{◌≡◌, ◌≢◌, ◌∙◌, ap, subst, ℕ, List, length, Option, Some, None, inl, inr}
use Rattle.xmt_base.specs.declared.values.Symbol.{Symbol}
use Rattle.xmt_host.specs.Told.{FileMap}
use Rattle.source_meaning.specs.declared.tree.Program.{Program}
use Rattle.source_meaning.specs.Layout.{all_words, opening_words, symbols_from}
use Rattle.xmt_isa.specs.declared.image.Image.{Image}
use Rattle.xmt_isa.specs.declared.run.Choice.{Choice}
use Rattle.xmt_isa.specs.declared.run.Choice.TheVariants as choice
use Rattle.run_options.specs.declared.options.SimOptions.{SimOptions}
use Rattle.xmt_isa.specs.Machine.{Machine}
use Rattle.xmt_isa.specs.Picked.{PickedRun}
use Rattle.xmt_cli.specs.Given.{Text}
use Rattle.xmt_cli.specs.JobOf.{AreInRange}
use Rattle.xmt_jobs.specs.declared.outcome.Outcome.{Outcome}
use Rattle.xmt_jobs.specs.declared.outcome.Outcome.TheVariants.{Done, SourceRefused, ImageRefused, MapRefused, Trap, Spent, Fault, NoMemory}
use Rattle.xmt_host.specs.Told.{Told}
use Rattle.xmt_jobs.specs.Files.{MayPut, MayPutPart}
use Rattle.xmt_jobs.specs.Faults.{HoldsNoMap, OpensAs}
use Rattle.xmt_jobs.specs.Runs.{dump_of}
use Rattle.xmt_jobs.specs.Sources.{Implemented, HasRun, HasRunPart}
use Rattle.xmt_jobs.specs.Images.{RunsFrom, RunsPartly, IsCutOff, HasRunLoaded}
use Rattle.xmt_jobs.specs.Ended.{IsCutRunning, HasEndedRunning}
use Rattle.xmt_compile.proofs.Compiled.{opening_size}
use Rattle.xmt_compile.proofs.Picked.{picked_ends, picked_prints}
use Rattle.xmt_jobs.proofs.Sizes.{map_size}
use Rattle.xmt_jobs.proofs.Loaded.{silent, opens_before, runs_before, prints_before}

-- the words that a run begins with are as many as the opening ones
memory_size : (files : Option FileMap) (map : Option Text) (symbols : List Symbol) (words memory : List ℕ) → OpensAs files map symbols words memory → length memory ≡ length words
memory_size files None symbols words memory h = ap length h
memory_size files (Some name) symbols words memory h = map_size h.0 symbols words memory h.2

module _ (file : Text) (options : SimOptions) (range : AreInRange options) (map dump : Option Text) (before mid now : Told) (files : mid.files ≡ before.files) (out : mid.out ≡ before.out) (image : Image) (is : Implemented before.files file image) where
  abbrev program : Program
  program = is.program

  symbols_same : image.symbols ≡ symbols_from 0 program.globals
  symbols_same = is.implements.opens.symbols

  words_same : image.words ≡ opening_words program.globals
  words_same = is.implements.opens.words

  opens_program : (memory : List ℕ) → OpensAs mid.files map image.symbols image.words memory → OpensAs before.files map (symbols_from 0 program.globals) (opening_words program.globals) memory
  opens_program memory h =
      subst (λ (x : List Symbol). OpensAs before.files map x (opening_words program.globals) memory) symbols_same
      (subst (λ (x : List ℕ). OpensAs before.files map image.symbols x memory) words_same (opens_before file options map dump before mid now files out image memory h))

  size_of : (memory : List ℕ) → OpensAs mid.files map image.symbols image.words memory → length memory ≡ all_words program.globals
  size_of memory h = memory_size mid.files map image.symbols image.words memory h ∙ (ap length words_same ∙ opening_size is.holds.source program is.holds.is_program)

  -- this machine, with a generator that isn't looked at
  abbrev run_at : Machine → PickedRun
  run_at machine = record { machine = machine; state = 0 }

  abbrev has_run : (end : Choice) → ((k : ℕ) → end ≢ choice.Step k) → RunsFrom image options map dump mid now end → HasRun file options map end before now
  has_run end ended h =
      let e = h.run.ended in
      record {
        program = program;
        holds = is.holds;
        image = image;
        implements = is.implements;
        memory = h.memory;
        opens = opens_program h.memory h.opens;
        machine = h.machine;
        run = runs_before file options map dump before mid now files out image h.memory end h.machine h.run;
        does = picked_ends program image is.implements h.memory options.units options.budget (size_of h.memory h.opens) range.0 range.1 (run_at h.machine) e.reached.legal end (e.ends 0) ended;
      }

  has_run_part : RunsPartly image options map dump mid now → HasRunPart file options map before now
  has_run_part h =
      let p = prints_before file options map dump before mid now files out image h.memory h.printed in
      record {
        program = program;
        holds = is.holds;
        image = image;
        implements = is.implements;
        memory = h.memory;
        opens = opens_program h.memory h.opens;
        machine = p.machine;
        reached = p.reached;
        does = picked_prints program image is.implements h.memory options.units options.budget (size_of h.memory h.opens) range.0 range.1 (run_at p.machine) p.reached.legal;
        printed = p.printed;
      }

  put_of : (m : Machine) → MayPut dump (dump_of image.symbols image m) mid.files now.files → MayPut dump (dump_of (symbols_from 0 program.globals) image m) before.files now.files
  put_of m h =
      subst (λ (x : List Symbol). MayPut dump (dump_of x image m) before.files now.files) symbols_same (subst (λ (f : Option FileMap). MayPut dump (dump_of image.symbols image m) f now.files) files h)

  part_of : (m : Machine) → MayPutPart dump (dump_of image.symbols image m) mid.files now.files → MayPutPart dump (dump_of (symbols_from 0 program.globals) image m) before.files now.files
  part_of m h =
      subst (λ (x : List Symbol). MayPutPart dump (dump_of x image m) before.files now.files) symbols_same (subst (λ (f : Option FileMap). MayPutPart dump (dump_of image.symbols image m) f now.files) files h)

  cut : IsCutOff image options map dump mid now → IsCutRunning file options map dump before now
  cut (inl s) = inl (silent file options map dump before mid now files out image s)
  cut (inr (inl h)) = inr (inl (has_run_part h.0, h.1 ∙ files))
  cut (inr (inr h)) = inr (inr (has_run choice.Done (λ k e. cc) h.0, part_of h.0.machine h.1))

  pub has_ended_running : (o : Outcome) → HasRunLoaded image options map dump mid now o → HasEndedRunning file options map dump before now o
  has_ended_running Done h = (has_run choice.Done (λ k e. cc) h.0, put_of h.0.machine h.1)
  has_ended_running (MapRefused fault) h = (
    (
      program,
      is.holds,
      subst (λ (x : List Symbol). HoldsNoMap before.files map x (opening_words program.globals) fault) symbols_same
          (subst (λ (x : List ℕ). HoldsNoMap before.files map image.symbols x fault) words_same (subst (λ (f : Option FileMap). HoldsNoMap f map image.symbols image.words fault) files h.0)),
    ),
    silent file options map dump before mid now files out image h.1,
  )
  has_ended_running (Trap trap) h = (has_run (choice.Trap trap) (λ k e. cc) h.0, h.1 ∙ files)
  has_ended_running (Spent unit steps) h = (has_run (choice.Spent unit steps) (λ k e. cc) h.0, h.1 ∙ files)
  has_ended_running Fault h = cut h
  has_ended_running NoMemory h = cut h
  has_ended_running (SourceRefused kind place) h = absurd h
  has_ended_running (ImageRefused fault) h = absurd h
