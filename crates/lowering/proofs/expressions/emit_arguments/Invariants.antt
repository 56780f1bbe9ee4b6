use Rattle.std.proofs.Common.{◌≡◌, ◌++◌, length, drop}
use Rattle.lowering.specs.Emitted.{placed, arguments_code}
use Rattle.lowering.proofs.expressions.emit_arguments.Given as goal

-- with those of the rest it is the code of all
abbrev pub invariant-loop-e : goal.invariant-loop-e
invariant-loop-e l =
    l.code.items ++ placed (arguments_code l.line l.place l.register (drop l.e-index l.values) (length l.code.items)) ≡
    l.fn.code.items ++ placed (arguments_code l.line l.fn.k l.fn.r l.values (length l.fn.code.items))
