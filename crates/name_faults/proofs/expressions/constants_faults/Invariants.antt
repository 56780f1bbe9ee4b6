use Rattle.std.proofs.Common.{◌≡◌, drop}
use Rattle.name_scopes.specs.Fault.{first, earlier}
use Rattle.name_faults.specs.Expressions as spec
use Rattle.name_faults.proofs.expressions.constants_faults.Given as goal

abbrev pub invariant-loop-e : goal.invariant-loop-e
invariant-loop-e l = earlier l.found (first (spec.constants_faults l.scope.declared (drop l.e-index l.values))) ≡ first (spec.constants_faults l.scope.declared l.values)
