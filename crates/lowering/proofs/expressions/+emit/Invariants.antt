use Rattle.std.proofs.Common.{◌≡◌, ◌++◌, length, drop}
use Rattle.lowering.specs.Emitted.{placed, values_code}
use Rattle.lowering.proofs.expressions.+emit.Given as goal

-- with those of the rest it is the code of all
abbrev pub invariant-emit_values-loop-e : goal.invariant-emit_values-loop-e
invariant-emit_values-loop-e l =
    l.code.items ++ placed (values_code l.tables.globals.now l.tables.body.now l.register (drop l.e-index l.values) (length l.code.items)) ≡
    l.fn.code.items ++ placed (values_code l.tables.globals.now l.tables.body.now l.fn.r l.values (length l.fn.code.items))
