-- What each thread of a machine's log did by itself, as a trace of the image.
use Rattle.std.specs.Prelude.{ℕ, ◌<◌, List, ◌++◌, Option}
use Rattle.std.specs.Option.{IfSome}
use Rattle.xmt_base.specs.declared.values.TrapKind.{TrapKind}
use Rattle.interleaving.specs.Actors.{part_of}
use Rattle.interleaving.specs.Parts.{actions_of, replies_of}
use Rattle.interleaving.specs.Starts.{start_of}
use Rattle.source_log.specs.Log.{trap_action}
use Rattle.xmt_isa.specs.declared.image.Image.{Image}
use Rattle.xmt_isa.specs.Traces.{IsAtTrap, traces_of}
use Rattle.machine_log.specs.Log.{Log, opening_world, after_log}
use Rattle.machine_log.specs.Done.{Parts, IsDone}

-- of each thread the trap at which it stands, or none
abbrev pub StandAtTraps : Image → Parts → (count : ℕ) → (trap : ℕ → Option (TrapKind × ℕ)) → Type 0
StandAtTraps image p count trap = (thread : ℕ) → thread < count → IfSome (trap thread) (λ at. IsAtTrap image (p.ends thread) at.0 at.1)

-- From where it begins in the log, each thread does its part of the log, and stands at its trap, if it has one, as the image's traces say, in as many instructions as it took.
abbrev pub ThreadsDoTheirParts : Type 0
ThreadsDoTheirParts =
    (image : Image) (memory : List ℕ) (log : Log) (p : Parts) → IsDone image memory log p →
    (trap : ℕ → Option (TrapKind × ℕ)) → StandAtTraps image p (after_log image (opening_world image memory) log).threads trap →
    (thread : ℕ) → thread < (after_log image (opening_world image memory) log).threads →
    traces_of image (start_of log thread) (replies_of (part_of thread log)) (actions_of (part_of thread log) ++ trap_action (trap thread)) (p.steps thread)
