-- Sizes of images that keep the numbers of a unit in their types.
use Rattle.std.specs.Prelude.{◌^◌, ◌≤◌, length}
use Rattle.xmt_isa.specs.declared.image.Image.{Image}

-- an image within the loader's limits
pub record IsSmall (image : Image) : Type 0 where
  pub code : length image.code ≤ 4194304
  pub words : length image.words ≤ 2 ^ 20
  pub outer : image.outer ≤ 200
