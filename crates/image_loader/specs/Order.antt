-- The first test that fails, in their order.
use Rattle.std.specs.Prelude.{◌≡◌, ◌⊎◌, ⊤, ℕ, List, Err}
use Rattle.std.specs.declared.option.Option.{Option}
use Rattle.std.specs.declared.option.Option.TheVariants.{Some, None}
use Rattle.xmt_isa.specs.declared.image.Image.{Image}
use Rattle.xmt_isa.specs.Registers.{HasRegisters}
use Rattle.xmt_isa.specs.Targets.{HasTargets}
use Rattle.xmt_isa.specs.Regions.{HasRegions}
use Rattle.xmt_isa.specs.Valid.{HasSizes, HasOperations, HasTexts, HasSymbols, IsValid}
use Rattle.image_loader.specs.declared.refusal.LoadKind.{LoadKind}
use Rattle.image_loader.specs.declared.refusal.LoadKind.TheVariants.{BadSize, BadOpcode, BadRegister, BadTarget, BadRegion, BadText, BadSymbol}
use Rattle.image_loader.specs.declared.refusal.LoadRefusal.{LoadRefusal}
use Rattle.image_loader.specs.declared.refusal.LoadRefusal.TheVariants.{NoMemory, Refused}
use Rattle.image_loader.specs.Layout.{Bytes}
use Rattle.image_loader.specs.Reading.{image_at}

-- the image fails this test, and passes those before it
abbrev pub FailsFirst : Image → LoadKind → Type 0
FailsFirst image BadSize = ¬ HasSizes image
FailsFirst image BadOpcode = HasSizes image × ¬ HasOperations image
FailsFirst image BadRegister = HasSizes image × HasOperations image × ¬ HasRegisters image
FailsFirst image BadTarget = HasSizes image × HasOperations image × HasRegisters image × ¬ HasTargets image
FailsFirst image BadRegion = HasSizes image × HasOperations image × HasRegisters image × HasTargets image × ¬ HasRegions image
FailsFirst image BadText = HasSizes image × HasOperations image × HasRegisters image × HasTargets image × HasRegions image × ¬ HasTexts image
FailsFirst image BadSymbol = HasSizes image × HasOperations image × HasRegisters image × HasTargets image × HasRegions image × HasTexts image × ¬ HasSymbols image
-- the other kinds are those of reading
FailsFirst image kind = ⊥

abbrev pub Tested : Image → Option LoadKind → Type 0
Tested image (Some kind) = FailsFirst image kind
Tested image None = IsValid image

-- why an image is refused
abbrev pub RefusesImage : Image → LoadRefusal → Type 0
RefusesImage image NoMemory = ⊤
RefusesImage image (Refused kind) = FailsFirst image kind

-- why bytes are refused: reading them meets this fault first, or the image that they spell fails this test first
abbrev pub RefusesBytes : List ℕ → LoadRefusal → Type 0
RefusesBytes bytes NoMemory = ⊤
RefusesBytes bytes (Refused kind) = (image_at bytes ≡ Err kind) ⊎ ((image : Image) × Bytes image bytes × FailsFirst image kind)
