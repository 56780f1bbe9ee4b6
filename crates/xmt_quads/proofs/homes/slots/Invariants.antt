use Rattle.std.proofs.Common.{◌≡◌, map}
use Rattle.std.specs.List.{range_with_len}
use Rattle.xmt_quads.specs.declared.homes.Home.TheVariants.{Slot}
use Rattle.xmt_quads.proofs.homes.slots.Given as goal

abbrev pub invariant-loop-slot : goal.invariant-loop-slot
invariant-loop-slot l = l.homes ≡ map (λ slot. Slot slot) (range_with_len 0 l.slot)
