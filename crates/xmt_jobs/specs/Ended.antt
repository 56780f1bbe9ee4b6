-- How a job has ended: what it printed, and which file it wrote.
use Rattle.std.specs.Prelude.{◌≡◌, ◌⊎◌, ⊤}
use Rattle.std.specs.declared.option.Option.{Option}
use Rattle.std.specs.declared.option.Option.TheVariants.{Some, None}
use Rattle.xmt_host.specs.Told.{FileMap}
use Rattle.xmt_host.specs.Host.{HasFile}
use Rattle.source_meaning.specs.declared.tree.Program.{Program}
use Rattle.source_meaning.specs.Layout.{opening_words, symbols_from}
use Rattle.xmt_isa.specs.declared.image.Image.{Image}
use Rattle.xmt_isa.specs.declared.run.Choice.TheVariants as choice
use Rattle.run_options.specs.declared.options.SimOptions.{SimOptions}
use Rattle.xmt_cli.specs.Given.{Text}
use Rattle.xmt_cli.specs.JobOf.{Task, compile, simulate, run}
use Rattle.xmt_jobs.specs.declared.outcome.Outcome.{Outcome}
use Rattle.xmt_jobs.specs.declared.outcome.Outcome.TheVariants.{Done, SourceRefused, ImageRefused, MapRefused, Trap, Spent, Fault, NoMemory}
use Rattle.xmt_host.specs.Told.{Told}
use Rattle.xmt_jobs.specs.Written.{IsSilent}
use Rattle.xmt_jobs.specs.Files.{MayPut, MayPutPart}
use Rattle.xmt_jobs.specs.Faults.{HoldsImage, HoldsNoImage, HoldsNoMap}
use Rattle.xmt_jobs.specs.Runs.{dump_of}
use Rattle.xmt_jobs.specs.Sources.{HoldsProgram, HoldsNoProgram, HasCompiled, HasCompiledPart, HasRun, HasRunPart}
use Rattle.xmt_jobs.specs.Images.{HasSimulated, HasSimulatedPart}

-- compiling: the host failed, or memory ran out, before the image was put or while it was
abbrev pub IsCutCompiling : (file out : Text) → Told → Told → Type 0
IsCutCompiling file out before now = (now.out ≡ before.out) × ((now.files ≡ before.files) ⊎ HasCompiledPart file out before now)

abbrev pub HasEndedCompiling : (file out : Text) → Told → Told → Outcome → Type 0
HasEndedCompiling file out before now Done = (now.out ≡ before.out) × HasCompiled file out before now
HasEndedCompiling file out before now (SourceRefused kind place) = HoldsNoProgram before.files file kind place × IsSilent before now
HasEndedCompiling file out before now Fault = IsCutCompiling file out before now
HasEndedCompiling file out before now NoMemory = IsCutCompiling file out before now
HasEndedCompiling file out before now outcome = ⊥

-- the image or the source is the one whose globals a map names
module _ (file : Text) (options : SimOptions) (map dump : Option Text) (before now : Told) where
  -- a run that is done, and its dump was put
  abbrev pub HasSimulatedWhole : Type 0
  HasSimulatedWhole = (done : HasSimulated file options map choice.Done before now) × MayPut dump (dump_of done.image.symbols done.image done.machine) before.files now.files

  -- it was cut off: before its first print, in the run, or while the dump was put
  abbrev pub IsCutSimulating : Type 0
  IsCutSimulating =
      IsSilent before now
      ⊎ (HasSimulatedPart file options map before now × (now.files ≡ before.files))
      ⊎ ((done : HasSimulated file options map choice.Done before now) × MayPutPart dump (dump_of done.image.symbols done.image done.machine) before.files now.files)

  abbrev pub HasEndedSimulating : Outcome → Type 0
  HasEndedSimulating Done = HasSimulatedWhole
  HasEndedSimulating (ImageRefused fault) = HoldsNoImage before.files file fault × IsSilent before now
  HasEndedSimulating (MapRefused fault) = ((image : Image) × HoldsImage before.files file image × HoldsNoMap before.files map image.symbols image.words fault) × IsSilent before now
  HasEndedSimulating (Trap trap) = HasSimulated file options map (choice.Trap trap) before now × (now.files ≡ before.files)
  HasEndedSimulating (Spent unit steps) = HasSimulated file options map (choice.Spent unit steps) before now × (now.files ≡ before.files)
  HasEndedSimulating Fault = IsCutSimulating
  HasEndedSimulating NoMemory = IsCutSimulating
  HasEndedSimulating (SourceRefused kind place) = ⊥

  -- the same of the source in a file
  abbrev pub HasRunWhole : Type 0
  HasRunWhole = (done : HasRun file options map choice.Done before now) × MayPut dump (dump_of (symbols_from 0 done.program.globals) done.image done.machine) before.files now.files

  abbrev pub IsCutRunning : Type 0
  IsCutRunning =
      IsSilent before now
      ⊎ (HasRunPart file options map before now × (now.files ≡ before.files))
      ⊎ ((done : HasRun file options map choice.Done before now) × MayPutPart dump (dump_of (symbols_from 0 done.program.globals) done.image done.machine) before.files now.files)

  abbrev pub HasEndedRunning : Outcome → Type 0
  HasEndedRunning Done = HasRunWhole
  HasEndedRunning (SourceRefused kind place) = HoldsNoProgram before.files file kind place × IsSilent before now
  HasEndedRunning (MapRefused fault) = ((program : Program) × HoldsProgram before.files file program × HoldsNoMap before.files map (symbols_from 0 program.globals) (opening_words program.globals) fault) × IsSilent before now
  HasEndedRunning (Trap trap) = HasRun file options map (choice.Trap trap) before now × (now.files ≡ before.files)
  HasEndedRunning (Spent unit steps) = HasRun file options map (choice.Spent unit steps) before now × (now.files ≡ before.files)
  HasEndedRunning Fault = IsCutRunning
  HasEndedRunning NoMemory = IsCutRunning
  HasEndedRunning (ImageRefused fault) = ⊥

-- how a job has ended
abbrev pub HasEnded : Task → Told → Told → Outcome → Type 0
HasEnded (compile file out) before now outcome = HasEndedCompiling file out before now outcome
HasEnded (simulate file options map dump) before now outcome = HasEndedSimulating file options map dump before now outcome
HasEnded (run file options map dump) before now outcome = HasEndedRunning file options map dump before now outcome

-- the host tells its files, and has each that the job reads
abbrev pub HasMap : Option FileMap → Option Text → Type 0
HasMap files None = ⊤
HasMap files (Some name) = HasFile files name

abbrev pub HasFiles : Option FileMap → Task → Type 0
HasFiles files (compile file out) = HasFile files file
HasFiles files (simulate file options map dump) = HasFile files file × HasMap files map
HasFiles files (run file options map dump) = HasFile files file × HasMap files map
