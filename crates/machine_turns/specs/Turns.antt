-- A turn of the kept machine, and what the host was given in it.
use Rattle.std.specs.Prelude.{◌≡◌, ◌⊎◌, ℕ, List, ◌++◌}
use Rattle.std.specs.declared.option.Option.{Option}
use Rattle.xmt_isa.specs.declared.image.Image.{Image}
use Rattle.xmt_isa.specs.Machine.{turn}
use Rattle.machine_turns.specs.declared.machine.Machine.{Machine}
use Rattle.machine_turns.specs.View.{machine_of}
use Rattle.machine_turns.specs.Prints.{Prints, PrintsPart}

-- the machine has done a turn of the unit in this place, and what that printed went to the host
abbrev pub Turns : Image → ℕ → Machine → Machine → Option (List ℕ) → Option (List ℕ) → Type 0
Turns image k old new before now = (bytes : List ℕ) × Prints bytes before now × ((out : List ℕ) → machine_of new (out ++ bytes) ≡ turn image (machine_of old out) k)

-- a turn was cut short: the host was given nothing, or a prefix of what that turn prints
abbrev pub IsCutShort : Image → ℕ → Machine → Option (List ℕ) → Option (List ℕ) → Type 0
IsCutShort image k old before now = (now ≡ before) ⊎ ((bytes : List ℕ) × PrintsPart bytes before now × ((out : List ℕ) → (turn image (machine_of old out) k).out ≡ out ++ bytes))
