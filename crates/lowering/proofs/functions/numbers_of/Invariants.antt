use Rattle.std.proofs.Common.{◌≡◌}
use Rattle.lowering.specs.Emitted.{outer_numbers}
use Rattle.lowering.proofs.functions.numbers_of.Given as goal

abbrev pub invariant-loop-slot : goal.invariant-loop-slot
invariant-loop-slot l = l.numbers ≡ outer_numbers l.body l.slot
