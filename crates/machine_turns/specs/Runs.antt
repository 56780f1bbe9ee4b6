-- How far a picked run has come.
use Rattle.std.specs.Prelude.{◌≡◌, ◌≤◌, ℕ, List, take, drop, length, map}
use Rattle.std.specs.declared.option.Option.{Option}
use Rattle.xmt_isa.specs.declared.image.Image.{Image}
use Rattle.xmt_isa.specs.Legal.{RunsTo}
use Rattle.xmt_isa.specs.Picked.{PickedRun, picked}
use Rattle.machine_turns.specs.declared.machine.Machine.{Machine}
use Rattle.machine_turns.specs.Steps.{steps_left}
use Rattle.machine_turns.specs.Kept.{Kept}
use Rattle.machine_turns.specs.View.{seen_seat, machine_of, run_of}
use Rattle.machine_turns.specs.Prints.{Prints}

-- after so many choices the picked run has come to this machine and generator, and what it printed went to the host
pub record HasCome (image : Image) (budget : ℕ) (begin : PickedRun) (machine : Machine) (state : ℕ) (before now : Option (List ℕ)) : Type 0 where
  pub choices : ℕ
  pub out : List ℕ
  pub same : picked image budget begin choices ≡ run_of machine out state
  pub legal : RunsTo image begin.machine (machine_of machine out)
  pub printed : Prints out before now

-- wherever the run comes to the old machine, it comes to the new one, with the same generator and nothing more printed
pub record RunsOn (image : Image) (budget : ℕ) (old new : Machine) : Type 0 where
  pub kept : Kept image budget new
  pub come : (begin : PickedRun) (state : ℕ) (before now : Option (List ℕ)) → HasCome image budget begin old state before now → HasCome image budget begin new state before now
  pub left : steps_left budget (map (seen_seat new.spawned) new.seats.items) ≤ steps_left budget (map (seen_seat old.spawned) old.seats.items)

-- the data words of a table of words
abbrev pub data_words : Image → List ℕ → List ℕ
data_words image words = take (length image.words) (drop 12 words)
