-- The traces of the threads of a log.
use Rattle.std.specs.Prelude.{ℕ, ◌<◌, List}
use Rattle.xmt_base.specs.Action.{Action}
use Rattle.interleaving.specs.Actors.{part_of}
use Rattle.interleaving.specs.Parts.{replies_of}
use Rattle.interleaving.specs.Starts.{start_of}
use Rattle.xmt_isa.specs.declared.image.Image.{Image}
use Rattle.xmt_isa.specs.Traces.{IsTraceOf, HasTrace}
use Rattle.machine_log.specs.Log.{Log, opening_world, after_log}
use Rattle.machine_log.specs.Done.{Parts, IsDone}

-- The actions of a thread's part, and the trap at which it stands, are a trace of the image from where the thread begins, in as many instructions as it took.
abbrev pub ThreadsHaveTraces : Type 0
ThreadsHaveTraces =
    (image : Image) (memory : List ℕ) (log : Log) (p : Parts) → IsDone image memory log p →
    (thread : ℕ) (trace : List Action) → thread < (after_log image (opening_world image memory) log).threads → IsTraceOf image (part_of thread log) (p.ends thread) trace →
    HasTrace image (start_of log thread) (replies_of (part_of thread log)) trace (p.steps thread)
