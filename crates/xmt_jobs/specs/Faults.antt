-- What is wrong with the bytes of a file that isn't a source.
use Rattle.std.specs.Prelude.{◌≡◌, ⊤, ℕ, ◌≤◌, List, length, Err}
use Rattle.std.specs.declared.option.Option.{Option}
use Rattle.std.specs.declared.option.Option.TheVariants.{Some, None}
use Rattle.xmt_base.specs.declared.values.Symbol.{Symbol}
use Rattle.xmt_host.specs.Told.{FileMap}
use Rattle.xmt_host.specs.Host.{IsWholeFile, IsLonger}
use Rattle.xmt_isa.specs.declared.image.Image.{Image}
use Rattle.xmt_isa.specs.Valid.{IsValid}
use Rattle.image_loader.specs.declared.refusal.LoadKind.{LoadKind}
use Rattle.image_loader.specs.declared.refusal.LoadRefusal.TheVariants as load
use Rattle.image_loader.specs.Layout.{Bytes}
use Rattle.image_loader.specs.Order.{RefusesBytes}
use Rattle.memory_map.specs.declared.read.MapRefusal.{MapRefusal}
use Rattle.memory_map.specs.declared.read.MapRefusal.TheVariants as map
use Rattle.memory_map.specs.MapText.{MapText, read_text}
use Rattle.xmt_cli.specs.Given.{Text}
use Rattle.xmt_jobs.specs.declared.outcome.BytesFault.{BytesFault}
use Rattle.xmt_jobs.specs.declared.outcome.BytesFault.TheVariants.{TooLong, BadImage, BadMap}
use Rattle.xmt_jobs.specs.declared.outcome.Outcome.{Outcome}
use Rattle.xmt_jobs.specs.declared.outcome.Outcome.TheVariants.{MapRefused, Fault, NoMemory}

-- the greatest number of bytes of an image and of a map
abbrev pub byte_limit : ℕ
byte_limit = 67108864

-- the file holds these bytes, which are few enough
pub record HasBytes (files : Option FileMap) (file : Text) (bytes : List ℕ) : Type 0 where
  pub whole : IsWholeFile files file bytes
  pub short : length bytes ≤ byte_limit

-- ---- images

-- the bytes of the file are those of this valid image
pub record HoldsImage (files : Option FileMap) (file : Text) (image : Image) : Type 0 where
  pub bytes : List ℕ
  pub has : HasBytes files file bytes
  pub spelled : Bytes image bytes
  pub valid : IsValid image

-- the bytes are refused as an image for this reason first, and are none
pub record IsNoImage (kind : LoadKind) (bytes : List ℕ) : Type 0 where
  pub refused : RefusesBytes bytes (load.Refused kind)
  pub none : (image : Image) → Bytes image bytes → ¬ IsValid image

-- the file holds no image, for this reason
abbrev pub HoldsNoImage : Option FileMap → Text → BytesFault → Type 0
HoldsNoImage files file TooLong = IsLonger files file byte_limit
HoldsNoImage files file (BadImage kind) = (bytes : List ℕ) × HasBytes files file bytes × IsNoImage kind bytes
HoldsNoImage files file (BadMap refusal) = ⊥

-- ---- maps, over the symbols of a program or an image and what they open with

-- the words that a run begins with: the opening ones, or those that the map makes of them
abbrev pub OpensAs : Option FileMap → Option Text → List Symbol → (opening memory : List ℕ) → Type 0
OpensAs files None symbols opening memory = memory ≡ opening
OpensAs files (Some name) symbols opening memory = (bytes : List ℕ) × HasBytes files name bytes × MapText bytes symbols opening memory

-- the bytes are no map, for this reason, which isn't want of memory
abbrev pub IsNoMap : List ℕ → List Symbol → List ℕ → MapRefusal → Type 0
IsNoMap bytes symbols opening map.NoMemory = ⊥
IsNoMap bytes symbols opening refusal = read_text symbols opening bytes ≡ Err refusal

-- how a job ends whose map is refused
abbrev pub end_of_map : MapRefusal → Outcome
end_of_map map.NoMemory = NoMemory
end_of_map refusal = MapRefused (BadMap refusal)

-- the file is named and holds no map, for this reason
abbrev pub HoldsNoMap : Option FileMap → Option Text → List Symbol → List ℕ → BytesFault → Type 0
HoldsNoMap files None symbols opening fault = ⊥
HoldsNoMap files (Some name) symbols opening TooLong = IsLonger files name byte_limit
HoldsNoMap files (Some name) symbols opening (BadImage kind) = ⊥
HoldsNoMap files (Some name) symbols opening (BadMap refusal) = (bytes : List ℕ) × HasBytes files name bytes × IsNoMap bytes symbols opening refusal

-- the words that a run begins with, or why there are none: the map holds no map, the host failed, or memory ran out
abbrev pub OpensNot : Option FileMap → Option Text → List Symbol → List ℕ → Outcome → Type 0
OpensNot files name symbols opening (MapRefused fault) = HoldsNoMap files name symbols opening fault
OpensNot files name symbols opening Fault = ⊤
OpensNot files name symbols opening NoMemory = ⊤
OpensNot files name symbols opening outcome = ⊥
