-- What the steps between functions and blocks of a valid image keep, beside those inside them.
use Rattle.std.specs.Prelude.{ℕ, ◌+◌, ◌<◌, length}
use Rattle.xmt_isa.specs.declared.image.Image.{Image}
use Rattle.xmt_isa.specs.Image.{IsIn, start_of}
use Rattle.xmt_isa.specs.Targets.{IsSameFunction}
use Rattle.xmt_isa.specs.Regions.{IsBlock, IsInside, IsInBlock}

-- functions and blocks are entered and left at instructions that are there
pub record IsNested (image : Image) : Type 0 where
  -- each instruction stands in a function
  pub holds : (at : ℕ) → at < length image.code → (function : ℕ) × IsIn image function at
  -- a call and the beginning of a run come to an instruction of the function, outside all blocks
  pub call : (function : ℕ) → function < length image.functions → IsIn image function (start_of image function) × ¬ IsInBlock image (start_of image function)
  -- a thread begins in its block, in the same function as its spawn
  pub spawn : (spawn join : ℕ) → IsBlock image spawn join → IsInside spawn join (spawn + 1) × IsSameFunction image spawn (spawn + 1)
  -- the serial code goes on in that function, outside all blocks
  pub join : (spawn join : ℕ) → IsBlock image spawn join → IsSameFunction image spawn (join + 1) × ¬ IsInBlock image (join + 1)
