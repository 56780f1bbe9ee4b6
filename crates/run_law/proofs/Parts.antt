-- Each thread of a machine's log does its part as the image's traces say.
use Rattle.std.proofs.Common.{refl, ℕ, ◌++◌, append-nil, Option, Some, None, inl, inr}
use Rattle.std.specs.Option.{IfSome}
use Rattle.xmt_base.specs.declared.values.TrapKind.{TrapKind}
use Rattle.interleaving.specs.Actors.{part_of}
use Rattle.interleaving.specs.Parts.{actions_of}
use Rattle.source_log.specs.Log.{trap_action}
use Rattle.xmt_isa.specs.declared.image.Image.{Image}
use Rattle.xmt_isa.specs.Threads.{Actor}
use Rattle.xmt_isa.specs.Traces.{IsAtTrap, IsTraceOf}
use Rattle.machine_log.specs.Log.{Log}
use Rattle.machine_log.proofs.Tracing.{all_have_traces}
use Rattle.run_law.specs.Parts.{ThreadsDoTheirParts}

with_trap : (image : Image) (part : Log) (end : Actor) (trap : Option (TrapKind × ℕ)) → IfSome trap (λ at. IsAtTrap image end at.0 at.1) → IsTraceOf image part end (actions_of part ++ trap_action trap)
with_trap image part end None at = inl (append-nil (actions_of part))
with_trap image part end (Some trap) at = inr (trap.0, trap.1, at, refl)

pub all_do_their_parts : ThreadsDoTheirParts
all_do_their_parts image memory log p done trap at thread less =
    all_have_traces image memory log p done thread (actions_of (part_of thread log) ++ trap_action (trap thread)) less (with_trap image (part_of thread log) (p.ends thread) (trap thread) (at thread less))
