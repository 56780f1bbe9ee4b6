-- How runs end that some legal schedule leads to.
use Rattle.std.specs.Prelude.{◌≡◌, ℕ, List}
use Rattle.std.specs.declared.option.Option.{Option}
use Rattle.xmt_isa.specs.declared.image.Image.{Image}
use Rattle.xmt_isa.specs.declared.run.Choice.{Choice}
use Rattle.xmt_isa.specs.declared.run.Choice.TheVariants as choice
use Rattle.run_options.specs.declared.options.SimEnd.{SimEnd}
use Rattle.run_options.specs.declared.options.SimEnd.TheVariants.{Done, Trap, Spent, WriteFault, NoMemory}
use Rattle.xmt_isa.specs.Machine.{Machine}
use Rattle.xmt_isa.specs.Legal.{RunsTo, HasHalted}
use Rattle.xmt_isa.specs.Picked.{choice_of}
use Rattle.machine_turns.specs.Steps.{IsWithin}
use Rattle.machine_turns.specs.Prints.{Prints, PrintsPart}
use Rattle.machine_turns.specs.Runs.{data_words}

-- A run that has come to this machine has ended so: at the least unit that stands at a trap, else at the least that has
-- spent the budget, else no unit is active. No generator has a say in that.
abbrev pub IsEnd : Image → (budget : ℕ) → Machine → Choice → Type 0
IsEnd image budget machine end = (state : ℕ) → choice_of image budget (record { machine = machine; state = state }) ≡ end

-- a legal schedule leads to this machine, where no unit is past the budget and the run has ended so, and what it printed
-- went to the host
pub record EndsAt (image : Image) (budget : ℕ) (begin : Machine) (end : Choice) (machine : Machine) (before now : Option (List ℕ)) : Type 0
  where
    pub legal : RunsTo image begin machine
    pub within : IsWithin budget machine.units
    pub ends : IsEnd image budget machine end
    pub printed : Prints machine.out before now

-- the run has ended so; where it is done, the master has halted, and these words are left
pub record HasEnded (image : Image) (budget : ℕ) (begin : Machine) (end : Choice) (words : List ℕ) (before now : Option (List ℕ)) : Type 0
  where
    pub machine : Machine
    pub ended : EndsAt image budget begin end machine before now
    pub done : end ≡ choice.Done → HasHalted machine × (machine.words ≡ words)

-- a legal schedule leads to some machine, and a prefix of what it printed went to the host
pub record PrintsSome (image : Image) (begin : Machine) (before now : Option (List ℕ)) : Type 0 where
  pub machine : Machine
  pub legal : RunsTo image begin machine
  pub printed : PrintsPart machine.out before now

-- what an end says of the run; where it is done, the master has halted
abbrev pub EndsSome : Image → ℕ → Machine → Option (List ℕ) → Option (List ℕ) → SimEnd → Type 0
EndsSome image budget begin before now (Done memory) =
    (machine : Machine) × EndsAt image budget begin choice.Done machine before now × HasHalted machine
    × (memory.words ≡ data_words image machine.words)
EndsSome image budget begin before now (Trap trap) = (machine : Machine) × EndsAt image budget begin (choice.Trap trap) machine before now
EndsSome image budget begin before now (Spent unit steps) =
    (machine : Machine) × EndsAt image budget begin (choice.Spent unit steps) machine before now
EndsSome image budget begin before now WriteFault = PrintsSome image begin before now
EndsSome image budget begin before now NoMemory = PrintsSome image begin before now
