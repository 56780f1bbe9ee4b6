use Rattle.std.proofs.Common.{ℕ, ◌<◌, ◌≤◌, length, slice_index_or}
use Rattle.words_tests.specs.declared.passes.Worker.{Worker}
use Rattle.words_tests.specs.Workers.{IsReady, HasWorked}
use Rattle.words_tests.proofs.passes.work_each.Given as goal

abbrev pub invariant-loop-worker : goal.invariant-loop-worker
invariant-loop-worker l =
    ((k : ℕ) (d : Worker) → l.worker-index ≤ k → k < length l.workers → IsReady l.words (slice_index_or l.workers k d).pass)
    × ((k : ℕ) (d : Worker) → k < l.worker-index → HasWorked l.words (slice_index_or l.workers k d).pass)
