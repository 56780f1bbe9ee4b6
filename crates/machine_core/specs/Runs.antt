-- How a picked run ends.
use Rattle.std.specs.Prelude.{◌≡◌, ℕ, List}
use Rattle.std.specs.declared.option.Option.{Option}
use Rattle.xmt_isa.specs.declared.image.Image.{Image}
use Rattle.xmt_isa.specs.declared.run.Choice.{Choice}
use Rattle.xmt_isa.specs.declared.run.Choice.TheVariants as choice
use Rattle.run_options.specs.declared.options.SimEnd.{SimEnd}
use Rattle.run_options.specs.declared.options.SimEnd.TheVariants.{Done, Trap, Spent, WriteFault, NoMemory}
use Rattle.xmt_isa.specs.Machine as spec
use Rattle.xmt_isa.specs.Legal.{RunsTo, HasHalted}
use Rattle.xmt_isa.specs.Picked.{PickedRun, picked, choice_of}
use Rattle.machine_turns.specs.declared.machine.Machine.{Machine}
use Rattle.machine_turns.specs.Steps.{IsWithin}
use Rattle.machine_turns.specs.View.{machine_of}
use Rattle.machine_turns.specs.Prints.{Prints, PrintsPart}
use Rattle.machine_turns.specs.Runs.{data_words}

-- the picked run has ended so, with this machine, and what it printed went to the host
pub record HasEnded (image : Image) (budget : ℕ) (begin : PickedRun) (end : Choice) (machine : Machine) (before now : Option (List ℕ)) : Type 0 where
  pub choices : ℕ
  pub out : List ℕ
  pub ended : choice_of image budget (picked image budget begin choices) ≡ end
  pub same : (picked image budget begin choices).machine ≡ machine_of machine out
  pub legal : RunsTo image begin.machine (machine_of machine out)
  pub within : IsWithin budget (machine_of machine out).units
  pub printed : Prints out before now

-- after some number of choices, to which a legal schedule leads, a prefix of what the picked run has printed went to the host
pub record PrintsPicked (image : Image) (budget : ℕ) (begin : PickedRun) (before now : Option (List ℕ)) : Type 0 where
  pub choices : ℕ
  pub legal : RunsTo image begin.machine (picked image budget begin choices).machine
  pub printed : PrintsPart (picked image budget begin choices).machine.out before now

-- after so many choices the picked run ends so with this machine, to which a legal schedule leads, with no unit past the
-- budget, and what it printed went to the host
pub record EndsAs (image : Image) (budget : ℕ) (begin : PickedRun) (end : Choice) (machine : spec.Machine) (before now : Option (List ℕ)) : Type 0 where
  pub choices : ℕ
  pub reaches : (picked image budget begin choices).machine ≡ machine
  pub legal : RunsTo image begin.machine machine
  pub within : IsWithin budget machine.units
  pub ends : choice_of image budget (picked image budget begin choices) ≡ end
  pub printed : Prints machine.out before now

-- what an end says of the picked run; where it is done, the master has halted
abbrev pub Ends : Image → ℕ → PickedRun → Option (List ℕ) → Option (List ℕ) → SimEnd → Type 0
Ends image budget begin before now (Done memory) =
    (machine : spec.Machine) × EndsAs image budget begin choice.Done machine before now × HasHalted machine × (memory.words ≡ data_words image machine.words)
Ends image budget begin before now (Trap trap) = (machine : spec.Machine) × EndsAs image budget begin (choice.Trap trap) machine before now
Ends image budget begin before now (Spent unit steps) = (machine : spec.Machine) × EndsAs image budget begin (choice.Spent unit steps) machine before now
Ends image budget begin before now WriteFault = PrintsPicked image budget begin before now
Ends image budget begin before now NoMemory = PrintsPicked image budget begin before now
