-- Which images implement a program.
use Rattle.std.specs.Prelude.{◌≡◌, ℕ, Bool, true}
use Rattle.source_meaning.specs.declared.tree.Program.{Program}
use Rattle.source_log.specs.Checked.{IsPlain}
use Rattle.source_log.specs.Bounded.{HasBoundedTraces}
use Rattle.xmt_isa.specs.declared.image.Image.{Image}
use Rattle.xmt_isa.specs.Traces.{traces_of}
use Rattle.xmt_isa.specs.Valid.{IsValid}
use Rattle.xmt_compile.specs.Implements.{OpensWith, Implements}

-- A valid image with the program's globals and registers implements it where each trace of the image is one of the program, in bounded work.
abbrev pub TracesImplement : Type 0
TracesImplement =
    (program : Program) (image : Image) (in_blocks : ℕ → Bool) → IsValid image → OpensWith image program → IsPlain program (λ f. in_blocks f ≡ true) →
    HasBoundedTraces program (traces_of image) → Implements program image
