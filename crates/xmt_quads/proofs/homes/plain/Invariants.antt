use Rattle.std.proofs.Common.{◌≡◌, map, take}
use Rattle.std.specs.List.{range_with_len}
use Rattle.xmt_quads.specs.declared.homes.Home.TheVariants.{Slot}
use Rattle.xmt_quads.proofs.homes.plain.Given as goal

abbrev pub invariant-loop-function : goal.invariant-loop-function
invariant-loop-function l = l.homes ≡ map (λ f. map (λ slot. Slot slot) (range_with_len 0 f.registers)) (take l.function-index l.program.functions)
