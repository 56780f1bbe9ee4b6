use Rattle.lowering.proofs.Wholes.{FunctionsGo}
use Rattle.lowering.proofs.program.lower_functions.Given as goal

-- what is made of the rest makes the whole
abbrev pub invariant-loop-number : goal.invariant-loop-number
invariant-loop-number l = FunctionsGo l.program l.prints l.spawns l.program.functions l.number l.functions l.fn.texts.list l.texts.list
