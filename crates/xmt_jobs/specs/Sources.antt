-- What a job has done with the source in a file.
use Rattle.std.specs.Prelude.{◌≡◌, ◌⊎◌, ⊤, ℕ, List, IsSomeAnd}
use Rattle.std.specs.declared.option.Option.{Option}
use Rattle.std.specs.Option.{ForSome}
use Rattle.xmt_base.specs.declared.values.Place.{Place}
use Rattle.xmt_host.specs.Told.{FileMap}
use Rattle.xmt_host.specs.Host.{IsWholeFile}
use Rattle.source_meaning.specs.declared.tree.Program.{Program}
use Rattle.source_meaning.specs.Layout.{opening_words, symbols_from}
use Rattle.front_end.specs.declared.refusal.SourceKind.{SourceKind}
use Rattle.front_end.specs.declared.refusal.SourceRefusal.{SourceRefusal}
use Rattle.front_end.specs.declared.refusal.SourceRefusal.TheVariants as refused
use Rattle.front_end.specs.Refused.{IsAccepted, Breaks}
use Rattle.front_end.specs.Law.{HasNoProgram}
use Rattle.xmt_isa.specs.declared.image.Image.{Image}
use Rattle.xmt_isa.specs.declared.run.Choice.{Choice}
use Rattle.run_options.specs.declared.options.SimOptions.{SimOptions}
use Rattle.xmt_isa.specs.Machine.{Machine}
use Rattle.image_loader.specs.Layout.{Bytes}
use Rattle.machine_turns.specs.Runs.{data_words}
use Rattle.xmtsim_run.specs.Runs.{Reaches}
use Rattle.xmt_compile.specs.Implements.{Implements}
use Rattle.xmt_compile.specs.Ended.{HasDone, HasPrinted}
use Rattle.xmt_cli.specs.Given.{Text}
use Rattle.xmt_jobs.specs.declared.outcome.Outcome.{Outcome}
use Rattle.xmt_jobs.specs.declared.outcome.Outcome.TheVariants.{Done, SourceRefused, Fault, NoMemory}
use Rattle.xmt_host.specs.Told.{Told}
use Rattle.xmt_jobs.specs.Written.{WritesPart}
use Rattle.xmt_jobs.specs.Files.{Puts, PutsPart}
use Rattle.xmt_jobs.specs.Faults.{OpensAs}
use Rattle.xmt_jobs.specs.Runs.{RunsTo}

-- the file holds the source of this program
pub record HoldsProgram (files : Option FileMap) (file : Text) (program : Program) : Type 0 where
  pub source : List ℕ
  pub whole : IsWholeFile files file source
  pub is_program : IsAccepted source program

-- the source breaks this rule first, at this place, and has no program
abbrev pub IsBroken : SourceKind → Place → List ℕ → Type 0
IsBroken kind place source = Breaks source kind place × HasNoProgram source

-- if the host tells its files, the file is there, and so does its source
abbrev pub HoldsNoProgram : Option FileMap → Text → SourceKind → Place → Type 0
HoldsNoProgram told name kind place = ForSome told (λ files. IsSomeAnd (files name) (IsBroken kind place))

-- the file holds the source of a program, which the image implements
pub record Implemented (files : Option FileMap) (file : Text) (image : Image) : Type 0 where
  pub program : Program
  pub holds : HoldsProgram files file program
  pub implements : Implements program image

-- why there is no image: the source is refused, the host failed, or memory ran out
abbrev pub CompilesNot : Option FileMap → Text → Outcome → Type 0
CompilesNot files file (SourceRefused kind place) = HoldsNoProgram files file kind place
CompilesNot files file Fault = ⊤
CompilesNot files file NoMemory = ⊤
CompilesNot files file outcome = ⊥

-- how a job ends whose source is refused
abbrev pub end_of_source : SourceRefusal → Outcome
end_of_source (refused.Refused kind place) = SourceRefused kind place
end_of_source refused.NoMemory = NoMemory

-- ---- compiling

-- how it ends that the image is put into a file: its bytes were put, or that was cut off
abbrev pub PutsImage : Image → (out : Text) → (old new : Option FileMap) → Outcome → Type 0
PutsImage image out old new Done = (bytes : List ℕ) × Bytes image bytes × Puts out bytes old new
PutsImage image out old new Fault = (new ≡ old) ⊎ ((bytes : List ℕ) × Bytes image bytes × PutsPart out bytes old new)
PutsImage image out old new NoMemory = (new ≡ old) ⊎ ((bytes : List ℕ) × Bytes image bytes × PutsPart out bytes old new)
PutsImage image out old new outcome = ⊥

-- the file holds the source of a program, and these are the bytes of an image that implements it
pub record CompilesTo (files : Option FileMap) (file : Text) (bytes : List ℕ) : Type 0 where
  pub program : Program
  pub holds : HoldsProgram files file program
  pub image : Image
  pub implements : Implements program image
  pub spelled : Bytes image bytes

-- such bytes were put into the other file
pub record HasCompiled (file out : Text) (before now : Told) : Type 0 where
  pub bytes : List ℕ
  pub compiles : CompilesTo before.files file bytes
  pub put : Puts out bytes before.files now.files

-- putting them was cut off
pub record HasCompiledPart (file out : Text) (before now : Told) : Type 0 where
  pub bytes : List ℕ
  pub compiles : CompilesTo before.files file bytes
  pub put : PutsPart out bytes before.files now.files

-- ---- running

-- The file holds the source of a program, which an image implements. The image has run, as the seed picks where there is one, from the words that the
-- map makes of the program's opening ones. By some legal schedule the program prints just what the run has printed, comes to such an end and, where it has ended,
-- leaves the same words in its globals.
pub record HasRun (file : Text) (options : SimOptions) (map : Option Text) (end : Choice) (before now : Told) : Type 0 where
  pub program : Program
  pub holds : HoldsProgram before.files file program
  pub image : Image
  pub implements : Implements program image
  pub memory : List ℕ
  pub opens : OpensAs before.files map (symbols_from 0 program.globals) (opening_words program.globals) memory
  pub machine : Machine
  pub run : RunsTo image memory options end machine before now
  pub does : HasDone program memory options.units options.budget end machine.out (data_words image machine.words)

-- Such a run has come to some machine, and by some legal schedule the program prints what it has printed, of which a prefix was written.
pub record HasRunPart (file : Text) (options : SimOptions) (map : Option Text) (before now : Told) : Type 0 where
  pub program : Program
  pub holds : HoldsProgram before.files file program
  pub image : Image
  pub implements : Implements program image
  pub memory : List ℕ
  pub opens : OpensAs before.files map (symbols_from 0 program.globals) (opening_words program.globals) memory
  pub machine : Machine
  pub reached : Reaches image memory options machine
  pub does : HasPrinted program memory options.units machine.out
  pub printed : WritesPart machine.out before.out now.out
