-- What a job has done with the image in a file.
use Rattle.std.specs.Prelude.{◌≡◌, ◌⊎◌, ⊤, ℕ, List}
use Rattle.std.specs.declared.option.Option.{Option}
use Rattle.xmt_host.specs.Told.{FileMap}
use Rattle.xmt_isa.specs.declared.image.Image.{Image}
use Rattle.xmt_isa.specs.declared.run.Choice.{Choice}
use Rattle.xmt_isa.specs.declared.run.Choice.TheVariants as choice
use Rattle.run_options.specs.declared.options.SimOptions.{SimOptions}
use Rattle.xmt_isa.specs.Machine.{Machine}
use Rattle.xmtsim_run.specs.Runs.{PrintsUnder}
use Rattle.xmt_cli.specs.Given.{Text}
use Rattle.xmt_jobs.specs.declared.outcome.Outcome.{Outcome}
use Rattle.xmt_jobs.specs.declared.outcome.Outcome.TheVariants.{Done, ImageRefused, MapRefused, Trap, Spent, Fault, NoMemory}
use Rattle.xmt_host.specs.Told.{Told}
use Rattle.xmt_jobs.specs.Written.{IsSilent}
use Rattle.xmt_jobs.specs.Files.{MayPut, MayPutPart}
use Rattle.xmt_jobs.specs.Faults.{HoldsImage, HoldsNoImage, HoldsNoMap, OpensAs}
use Rattle.xmt_jobs.specs.Runs.{RunsTo, dump_of}

-- why there is no image: the file holds none, the host failed, or memory ran out
abbrev pub LoadsNot : Option FileMap → Text → Outcome → Type 0
LoadsNot files file (ImageRefused fault) = HoldsNoImage files file fault
LoadsNot files file Fault = ⊤
LoadsNot files file NoMemory = ⊤
LoadsNot files file outcome = ⊥

-- The file holds the bytes of a valid image, which has run, as the seed picks where there is one, from the words that the map makes of the image's
-- opening ones to such an end.
pub record HasSimulated (file : Text) (options : SimOptions) (map : Option Text) (end : Choice) (before now : Told) : Type 0 where
  pub image : Image
  pub holds : HoldsImage before.files file image
  pub memory : List ℕ
  pub opens : OpensAs before.files map image.symbols image.words memory
  pub machine : Machine
  pub run : RunsTo image memory options end machine before now

-- Such a run was cut off.
pub record HasSimulatedPart (file : Text) (options : SimOptions) (map : Option Text) (before now : Told) : Type 0 where
  pub image : Image
  pub holds : HoldsImage before.files file image
  pub memory : List ℕ
  pub opens : OpensAs before.files map image.symbols image.words memory
  pub printed : PrintsUnder image memory options before.out now.out

-- ---- a loaded image

module _ (image : Image) (options : SimOptions) (map dump : Option Text) (before now : Told) where
  -- the image has run from the words that the map makes of its opening ones
  pub record RunsFrom (end : Choice) : Type 0 where
    pub memory : List ℕ
    pub opens : OpensAs before.files map image.symbols image.words memory
    pub machine : Machine
    pub run : RunsTo image memory options end machine before now

  pub record RunsPartly : Type 0 where
    pub memory : List ℕ
    pub opens : OpensAs before.files map image.symbols image.words memory
    pub printed : PrintsUnder image memory options before.out now.out

  abbrev pub IsCutOff : Type 0
  IsCutOff =
      IsSilent before now
      ⊎ (RunsPartly × (now.files ≡ before.files))
      ⊎ ((done : RunsFrom choice.Done) × MayPutPart dump (dump_of image.symbols image done.machine) before.files now.files)

  -- how the run of a loaded image has ended
  abbrev pub HasRunLoaded : Outcome → Type 0
  HasRunLoaded Done = (done : RunsFrom choice.Done) × MayPut dump (dump_of image.symbols image done.machine) before.files now.files
  HasRunLoaded (MapRefused fault) = HoldsNoMap before.files map image.symbols image.words fault × IsSilent before now
  HasRunLoaded (Trap trap) = RunsFrom (choice.Trap trap) × (now.files ≡ before.files)
  HasRunLoaded (Spent unit steps) = RunsFrom (choice.Spent unit steps) × (now.files ≡ before.files)
  HasRunLoaded Fault = IsCutOff
  HasRunLoaded NoMemory = IsCutOff
  HasRunLoaded outcome = ⊥
