-- How the run of an image under its options ends.
use Rattle.std.specs.Prelude.{◌≡◌, ⊤, ℕ, List}
use Rattle.std.specs.declared.option.Option.{Option}
use Rattle.std.specs.declared.option.Option.TheVariants.{Some, None}
use Rattle.xmt_isa.specs.declared.image.Image.{Image}
use Rattle.xmt_isa.specs.declared.run.Choice.{Choice}
use Rattle.xmt_isa.specs.declared.run.Choice.TheVariants as choice
use Rattle.run_options.specs.declared.options.SimOptions.{SimOptions}
use Rattle.run_options.specs.declared.options.SimEnd.{SimEnd}
use Rattle.run_options.specs.declared.options.SimEnd.TheVariants.{Done, Trap, Spent, WriteFault, NoMemory}
use Rattle.xmt_isa.specs.Machine.{Machine}
use Rattle.xmt_isa.specs.Opening.{opening, begins}
use Rattle.xmt_isa.specs.Legal.{RunsTo, HasHalted}
use Rattle.xmt_isa.specs.Picked.{picked}
use Rattle.machine_turns.specs.Steps.{IsWithin}
use Rattle.machine_turns.specs.Prints.{Prints, PrintsPart}
use Rattle.machine_turns.specs.Runs.{data_words}
use Rattle.threaded_runs.specs.Runs.{IsEnd}

module _ (image : Image) (memory : List ℕ) (options : SimOptions) where
  -- where there is a seed, the generator that begins with it has picked each turn on the way to this machine
  abbrev pub IsPickedBy : Option ℕ → Machine → Type 0
  IsPickedBy None machine = ⊤
  IsPickedBy (Some seed) machine = (choices : ℕ) × ((picked image options.budget (begins image memory options.units seed) choices).machine ≡ machine)

  -- from this memory the run has come to this machine, by a legal schedule; with a seed, by the one that it picks
  pub record Reaches (machine : Machine) : Type 0 where
    pub legal : RunsTo image (opening image memory options.units) machine
    pub as_picked : IsPickedBy options.seed machine

  -- it has ended so with this machine, with no unit past the budget, and what it printed went to the host
  pub record EndsUnder (end : Choice) (machine : Machine) (before now : Option (List ℕ)) : Type 0 where
    pub reached : Reaches machine
    pub within : IsWithin options.budget machine.units
    pub ends : IsEnd image options.budget machine end
    pub printed : Prints machine.out before now

  -- it has come to some machine, and a prefix of what it printed went to the host
  pub record PrintsUnder (before now : Option (List ℕ)) : Type 0 where
    pub machine : Machine
    pub reached : Reaches machine
    pub printed : PrintsPart machine.out before now

  -- what an end says of the run; where it is done, the master has halted
  abbrev pub Ends : (before now : Option (List ℕ)) → SimEnd → Type 0
  Ends before now (Done left) =
      (machine : Machine) × EndsUnder choice.Done machine before now × HasHalted machine × (left.words ≡ data_words image machine.words)
  Ends before now (Trap trap) = (machine : Machine) × EndsUnder (choice.Trap trap) machine before now
  Ends before now (Spent unit steps) = (machine : Machine) × EndsUnder (choice.Spent unit steps) machine before now
  Ends before now WriteFault = PrintsUnder before now
  Ends before now NoMemory = PrintsUnder before now
