use Rattle.liveness.proofs.Rising.{AreLiveBelow}
use Rattle.liveness.proofs.live.live_in.Given as goal

abbrev pub invariant-loop-register : goal.invariant-loop-register
invariant-loop-register l = AreLiveBelow l.quads l.at l.register l.registers.items
