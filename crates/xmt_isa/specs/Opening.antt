-- The machine at the beginning of a run.
use Rattle.std.specs.Prelude.{ℕ, zero, suc, ◌*◌, false, List, [], ◌∷◌, ◌++◌, replicate}
use Rattle.std.specs.declared.option.Option.TheVariants.{None}
use Rattle.xmt_isa.specs.declared.image.Image.{Image}
use Rattle.xmt_isa.specs.declared.unit.Unit.{Unit}
use Rattle.xmt_isa.specs.declared.unit.UnitState.TheVariants.{Draws, Runs}
use Rattle.xmt_isa.specs.declared.unit.Start.{Start}
use Rattle.xmt_isa.specs.Image.{start_of}
use Rattle.xmt_isa.specs.Machine.{Machine}
use Rattle.xmt_isa.specs.Picked.{PickedRun}

-- so many zeros; it isn't unfolded, since frames have many
unfoldable pub zeros_of : ℕ → List ℕ
zeros_of n = replicate n 0

-- a unit that has done nothing, and is due to draw
abbrev pub new_unit : ℕ → Unit
new_unit number = record {
  number = number;
  state = Draws;
  waits = false;
  at = 0;
  thread = None;
  depth = 0;
  back = zeros_of 256;
  regs = replicate 32 0;
  frames = zeros_of 131584;
  list = replicate 16 0;
  counts = record { steps = 0; loads = 0; stores = 0; adds = 0; threads = 0 };
}

-- the master at the beginning of the main function
abbrev pub new_master : Image → Unit
new_master image = record (new_unit 0) { state = Runs; at = start_of image image.entry }

-- the control units 1 to n
abbrev pub control_units : ℕ → List Unit
control_units zero = []
control_units (suc n) = control_units n ++ (new_unit (suc n) ∷ [])

-- four words that stay 0, the registers, the data words, and the outer words of each depth
abbrev pub opening_words : Image → List ℕ → List ℕ
opening_words image memory = replicate 4 0 ++ image.ps ++ memory ++ zeros_of (257 * image.outer)

-- nothing was broadcast yet
abbrev pub no_start : Start
no_start = record { at = 0; low = 0; count = 0; depth = 0; regs = replicate 32 0; frame = [] }

-- the machine at the beginning, with n control units
abbrev pub opening : Image → List ℕ → ℕ → Machine
opening image memory n = record { units = new_master image ∷ control_units n; words = opening_words image memory; drawn = 0; start = no_start; out = [] }

-- the run at the beginning
abbrev pub begins : Image → List ℕ → ℕ → ℕ → PickedRun
begins image memory n seed = record { machine = opening image memory n; state = seed }
