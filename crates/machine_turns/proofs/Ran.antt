-- How a picked run goes on.
use Rattle.std.proofs.Common.{◌≡◌, ℕ, suc, List, [], ◌++◌, map, count_by, Option, ap, refl, ◌∙◌, sym}
use Rattle.xmt_isa.specs.declared.image.Image.{Image}
use Rattle.xmt_isa.specs.declared.run.Choice.TheVariants.{Step}
use Rattle.xmt_isa.specs.Picked.{PickedRun, picked, choice_of, goes_by, state_after, is_active, is_spawned}
use Rattle.machine_turns.specs.declared.machine.Machine as kept
use Rattle.machine_turns.specs.View.{seen_seat, machine_of, run_of}
use Rattle.machine_turns.specs.Turns.{Turns}
use Rattle.machine_turns.specs.Runs.{HasCome}
use Rattle.xmt_isa.specs.Machine.{turn}
use Rattle.xmt_isa.specs.Legal.{HasTurn}
use Rattle.machine_turns.proofs.Legality.{leads_further}
use Rattle.machine_turns.proofs.Printed.{prints_nothing, prints_then}

-- the run at its beginning
pub has_begun : (image : Image) (budget : ℕ) (m : kept.Machine) (state : ℕ) (before : Option (List ℕ)) → HasCome image budget (run_of m [] state) m state before before
has_begun image budget m state before = record { choices = 0; out = []; same = refl; legal = ([], tt, refl); printed = prints_nothing before }

module _ (image : Image) (budget : ℕ) (begin : PickedRun) where
  -- one more choice
  next_run : (choices k : ℕ) (r : PickedRun) → picked image budget begin choices ≡ r → choice_of image budget r ≡ Step k → picked image budget begin (suc choices) ≡ goes_by image r (Step k)
  next_run choices k r same chosen = rw (same, chosen) refl

  -- the machine after one more turn
  next_machine : (choices k : ℕ) (r : PickedRun) → picked image budget begin choices ≡ r → choice_of image budget r ≡ Step k → (picked image budget begin (suc choices)).machine ≡ turn image r.machine k
  next_machine choices k r same chosen = ap (λ run. run.machine) (next_run choices k r same chosen)

  -- one more turn
  pub has_come_further : (old new : kept.Machine) (state next k : ℕ) (before mid now : Option (List ℕ)) → HasCome image budget begin old state before mid
      → ((out : List ℕ) → Step k ≡ choice_of image budget (run_of old out state))
      → next ≡ state_after (count_by (is_active (is_spawned (map (seen_seat old.spawned) old.seats.items))) (map (seen_seat old.spawned) old.seats.items)) state
      → ((out : List ℕ) → HasTurn image (machine_of old out) k)
      → Turns image k old new mid now → HasCome image budget begin new next before now
  has_come_further old new state next k before mid now come chosen moved turns (bytes, printed, each) = record {
    choices = suc come.choices;
    out = come.out ++ bytes;
    same = next_run come.choices k _ come.same (sym (chosen come.out)) ∙ rw (← each come.out, ← moved) refl;
    legal = leads_further image begin.machine (machine_of old come.out) (machine_of new (come.out ++ bytes)) k come.legal (turns come.out) (each come.out);
    printed = prints_then come.out bytes before mid now come.printed printed;
  }
