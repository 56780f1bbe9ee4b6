-- Which tasks must be refused, must run, and must come to their end.
use Rattle.std.specs.Prelude.{◌≡◌, ◌⊎◌, ⊤, ℕ, ◌+◌, ◌*◌, ◌<◌, ◌≤◌, List, length, slice_get, IsSomeAnd}
use Rattle.std.specs.List.{Contains}
use Rattle.std.specs.declared.option.Option.{Option}
use Rattle.std.specs.declared.option.Option.TheVariants.{Some, None}
use Rattle.xmt_base.specs.declared.values.Symbol.{Symbol}
use Rattle.xmt_base.specs.declared.values.Trap.{Trap}
use Rattle.xmt_base.specs.declared.values.TrapKind.{TrapKind}
use Rattle.xmt_host.specs.Told.{FileMap}
use Rattle.source_meaning.specs.declared.tree.Program.{Program}
use Rattle.source_meaning.specs.Layout.{opening_words, symbols_from}
use Rattle.source_meaning.specs.Run as source
use Rattle.source_meaning.specs.Run.{start, traps}
use Rattle.front_end.specs.Refused.{IsAccepted}
use Rattle.front_end.specs.Law.{HasNoProgram}
use Rattle.xmt_isa.specs.declared.image.Image.{Image}
use Rattle.xmt_isa.specs.declared.unit.Unit as isa
use Rattle.run_options.specs.declared.options.SimOptions.{SimOptions}
use Rattle.xmt_isa.specs.Valid.{IsValid}
use Rattle.xmt_isa.specs.Opening.{opening}
use Rattle.xmt_isa.specs.Machine.{after}
use Rattle.xmt_isa.specs.Legal.{IsLegal, IsActive, StandsAtTrap}
use Rattle.image_loader.specs.Layout.{Bytes}
use Rattle.memory_map.specs.MapText.{MapText}
use Rattle.xmt_compile.specs.Implements.{reached}
use Rattle.xmt_cli.specs.Given.{Text}
use Rattle.xmt_cli.specs.JobOf.{Task, compile, simulate, run}
use Rattle.xmt_jobs.specs.Faults.{byte_limit}

-- ---- what the files hold, where the host tells them

module _ (told : Option FileMap) where
  -- the file is there, and this holds of its bytes
  abbrev pub HasFileWith : Text → (List ℕ → Type 0) → Type 0
  HasFileWith name P = IsSomeAnd told (λ files. IsSomeAnd (files name) P)

  -- its bytes are the source of a program of which this holds, or of none
  abbrev pub HasProgram : Text → (Program → Type 0) → Type 0
  HasProgram name P = HasFileWith name (λ bytes. (program : Program) × IsAccepted bytes program × P program)

  abbrev pub LacksProgram : Text → Type 0
  LacksProgram name = HasFileWith name HasNoProgram

  -- its bytes are those of a valid image of which this holds, or of none
  abbrev pub HasImage : Text → (Image → Type 0) → Type 0
  HasImage name P = HasFileWith name (λ bytes. (length bytes ≤ byte_limit) × ((image : Image) × Bytes image bytes × IsValid image × P image))

  abbrev pub LacksImage : Text → Type 0
  LacksImage name = HasFileWith name (λ bytes. (byte_limit < length bytes) ⊎ ((image : Image) → Bytes image bytes → ¬ IsValid image))

  -- its bytes are a map, and this holds of the words that it makes of the opening ones; without a map it holds of those
  abbrev pub HasMemory : Option Text → List Symbol → List ℕ → (List ℕ → Type 0) → Type 0
  HasMemory None symbols opening P = P opening
  HasMemory (Some name) symbols opening P = HasFileWith name (λ bytes. (length bytes ≤ byte_limit) × ((memory : List ℕ) × MapText bytes symbols opening memory × P memory))

  -- a map is named, and its bytes are none
  abbrev pub LacksMap : Option Text → List Symbol → List ℕ → Type 0
  LacksMap None symbols opening = ⊥
  LacksMap (Some name) symbols opening = HasFileWith name (λ bytes. (byte_limit < length bytes) ⊎ ((memory : List ℕ) → ¬ MapText bytes symbols opening memory))

  -- ---- tasks

  -- the source is refused
  abbrev pub MustRefuseSource : Task → Type 0
  MustRefuseSource (compile file out) = LacksProgram file
  MustRefuseSource (simulate file options map dump) = ⊥
  MustRefuseSource (run file options map dump) = LacksProgram file

  -- the image or the map is refused
  abbrev pub MustRefuseBytes : Task → Type 0
  MustRefuseBytes (compile file out) = ⊥
  MustRefuseBytes (simulate file options map dump) = LacksImage file ⊎ HasImage file (λ image. LacksMap map image.symbols image.words)
  MustRefuseBytes (run file options map dump) = HasProgram file (λ program. LacksMap map (symbols_from 0 program.globals) (opening_words program.globals))

  -- nothing is refused, and this holds of the program or the image and of the words that its run begins with
  abbrev pub IsTaken : Task → (SimOptions → Program → List ℕ → Type 0) → (SimOptions → Image → List ℕ → Type 0) → Type 0
  IsTaken (compile file out) P Q = HasProgram file (λ program. ⊤)
  IsTaken (simulate file options map dump) P Q = HasImage file (λ image. HasMemory map image.symbols image.words (Q options image))
  IsTaken (run file options map dump) P Q = HasProgram file (λ program. HasMemory map (symbols_from 0 program.globals) (opening_words program.globals) (P options program))

  abbrev pub MustRun : Task → Type 0
  MustRun task = IsTaken task (λ options program memory. ⊤) (λ options image memory. ⊤)

-- by no legal schedule does the program come to a trap or take more steps than a number, for which the budget is enough
pub record EndsWithin (options : SimOptions) (program : Program) (memory : List ℕ) : Type 0 where
  pub most : ℕ
  pub never_traps : (schedule : List ℕ) (trap : Trap) → source.IsLegal program (start program memory) schedule → ¬ Contains (traps program (reached program memory schedule)) trap
  pub ends : (schedule : List ℕ) → source.IsLegal program (start program memory) schedule → length schedule ≤ most
  pub enough : 64 * (most + 2) ≤ options.budget

-- by no legal schedule does a unit of the image come to a trap or do as many steps as the budget
pub record ImageEndsWithin (options : SimOptions) (image : Image) (memory : List ℕ) : Type 0 where
  pub never_traps : (turns : List ℕ) (k : ℕ) (kind : TrapKind) → IsLegal image (opening image memory options.units) turns → IsActive (after image (opening image memory options.units) turns) k → ¬ StandsAtTrap image (after image (opening image memory options.units) turns) k kind
  pub never_spends : (turns : List ℕ) (k : ℕ) (u : isa.Unit) → IsLegal image (opening image memory options.units) turns → slice_get (after image (opening image memory options.units) turns).units k ≡ Some u → u.counts.steps < options.budget

-- nothing is refused, and the run must come to its end
abbrev pub MustEnd : Option FileMap → Task → Type 0
MustEnd told task = IsTaken told task EndsWithin ImageEndsWithin
