-- Which images are valid: seven tests, each over the whole image.
use Rattle.std.specs.Prelude.{◌≡◌, ◌+◌, ◌*◌, ◌^◌, ◌<◌, ◌≤◌, length, All}
use Rattle.xmt_base.specs.Format.{IsFormat}
use Rattle.xmt_isa.specs.declared.image.Image.{Image}
use Rattle.xmt_isa.specs.Registers.{HasRegisters}
use Rattle.xmt_isa.specs.Targets.{HasTargets}
use Rattle.xmt_isa.specs.Regions.{HasRegions}
use Rattle.xmt_isa.specs.Symbols.{AreSymbols}

pub record HasSizes (image : Image) : Type 0 where
  pub some_code : 1 ≤ length image.code
  pub code : length image.code ≤ 4194304
  pub lines : length image.lines ≡ length image.code
  pub some_functions : 1 ≤ length image.functions
  pub functions : length image.functions ≤ 1000
  pub texts : length image.texts ≤ 65536
  pub symbols : length image.symbols ≤ 4096
  pub outer : image.outer ≤ 200
  -- the data words, and the outer words of each depth from 0 to 256
  pub words : length image.words + 257 * image.outer ≤ 2 ^ 20
  pub entry : image.entry < length image.functions
  pub slots : All (λ f. f.slots ≤ 512) image.functions

-- each instruction's number is in the table
pub record HasOperations (image : Image) : Type 0 where
  pub each : All (λ i. (1 ≤ i.op) × (i.op ≤ 45)) image.code

pub record HasTexts (image : Image) : Type 0 where
  pub each : All IsFormat image.texts

pub record HasSymbols (image : Image) : Type 0 where
  pub are : AreSymbols image.symbols (length image.words)
  pub short : All (λ s. length s.name < 2 ^ 32) image.symbols
  pub some : All (λ s. 1 ≤ s.length) image.symbols

pub record IsValid (image : Image) : Type 0 where
  pub sizes : HasSizes image
  pub operations : HasOperations image
  pub registers : HasRegisters image
  pub targets : HasTargets image
  pub regions : HasRegions image
  pub texts : HasTexts image
  pub symbols : HasSymbols image
