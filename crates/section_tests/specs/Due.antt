-- Workers that are new.
use Rattle.std.specs.Prelude.{ℕ}
use Rattle.xmt_isa.specs.declared.image.Image.{Image}
use Rattle.xmt_isa.specs.declared.unit.Start.{Start}
use Rattle.spawn_join.specs.declared.worker.Worker.{Worker}
use Rattle.spawn_join.specs.Worked.{IsDue}

-- the unit is due to draw, whatever the image, what was broadcast, and the budget
abbrev pub IsNew : Worker → Type 0
IsNew w = (image : Image) (start : Start) (budget : ℕ) → IsDue image start budget w.unit
