-- Each law is a lemma of `proofs/`.
use Rattle.source_meaning.proofs.Laws.{after_joined, legal_joined, run_of_part}
use Rattle.source_meaning.proofs.Commute.{steps_commute_in_runs}
use Rattle.source_meaning.proofs.Unseen.{unseen_run}
use Rattle.source_meaning.proofs.meaning.laws_of_runs.Goals as goal

pub returns : goal.returns
returns c = record { joined = after_joined; legal_joined = legal_joined; commuting = steps_commute_in_runs; unseen = unseen_run; part = run_of_part }
