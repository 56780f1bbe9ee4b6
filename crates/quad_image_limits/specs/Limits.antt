-- What is tested of images holds of the image of a well-formed quad program.
use Rattle.std.specs.Prelude.{List, All}
use Rattle.xmt_isa.specs.declared.image.Image.{Image}
use Rattle.xmt_isa.specs.Valid.{IsValid}
use Rattle.xmt_quads.specs.declared.code.QuadProgram.{QuadProgram}
use Rattle.xmt_quads.specs.declared.homes.Home.{Home}
use Rattle.xmt_quads.specs.Allocation.{IsAllocationOf, HasOwnSlots}
use Rattle.xmt_quads.specs.WellFormed.{IsWellFormed}
use Rattle.quad_images.specs.Image.{IsImageOf}

abbrev pub ImagesAreValid : Type 0
ImagesAreValid =
    (program : QuadProgram) (homes : List (List Home)) (image : Image) → IsWellFormed program → IsAllocationOf program homes → All HasOwnSlots homes → IsImageOf program homes image → IsValid image
