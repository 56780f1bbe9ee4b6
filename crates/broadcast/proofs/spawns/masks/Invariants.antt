use Rattle.broadcast.proofs.Held.{AreMasksBefore}
use Rattle.broadcast.proofs.spawns.masks.Given as goal

abbrev pub invariant-loop-number : goal.invariant-loop-number
invariant-loop-number l = AreMasksBefore l.program l.allocation.homes l.number l.masks.items
