use Rattle.std.proofs.Common.{◌≡◌, ◌-◌, ◌++◌}
use Rattle.quad_code.specs.Functions.{outer_of, parameters_code}
use Rattle.lowering.specs.Emitted.{placed}
use Rattle.lowering.proofs.functions.emit_parameters.Given as goal

-- with those of the rest it is the code of all
abbrev pub invariant-loop-slot : goal.invariant-loop-slot
invariant-loop-slot l =
    l.code.items ++ placed (parameters_code (outer_of l.tables.body.now) l.variables l.slot (l.count - l.slot)) ≡
    l.fn.code.items ++ placed (parameters_code (outer_of l.tables.body.now) l.variables 0 l.count)
