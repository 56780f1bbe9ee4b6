-- What a run of an image has done.
use Rattle.std.specs.Prelude.{◌≡◌, ℕ, List}
use Rattle.xmt_base.specs.declared.values.Symbol.{Symbol}
use Rattle.xmt_isa.specs.declared.image.Image.{Image}
use Rattle.xmt_isa.specs.declared.run.Choice.{Choice}
use Rattle.xmt_isa.specs.declared.run.Choice.TheVariants as choice
use Rattle.run_options.specs.declared.options.SimOptions.{SimOptions}
use Rattle.xmt_isa.specs.Legal.{HasHalted}
use Rattle.xmt_isa.specs.Machine.{Machine}
use Rattle.machine_turns.specs.Runs.{data_words}
use Rattle.memory_map.specs.DumpText.{dump_text}
use Rattle.xmtsim_run.specs.Runs.{EndsUnder}
use Rattle.xmt_host.specs.Told.{Told}

-- From this memory the run has come, by a legal schedule in which no unit did more steps than the budget, to such an end with this machine; with a seed,
-- by the schedule that it picks. All that it printed was written. Where it is done, the master has halted.
pub record RunsTo (image : Image) (memory : List ℕ) (options : SimOptions) (end : Choice) (machine : Machine) (before now : Told) : Type 0 where
  pub ended : EndsUnder image memory options end machine before.out now.out
  pub halted : end ≡ choice.Done → HasHalted machine

-- the dump of the words that the machine left
abbrev pub dump_of : List Symbol → Image → Machine → List ℕ
dump_of symbols image machine = dump_text symbols (data_words image machine.words)
