use Rattle.std.proofs.Common.{◌≡◌, drop}
use Rattle.name_scopes.specs.Fault.{first, earlier}
use Rattle.name_faults.specs.Expressions as spec
use Rattle.name_faults.proofs.expressions.+faults.Given as goal

abbrev pub invariant-faults_of_values-loop-e : goal.invariant-faults_of_values-loop-e
invariant-faults_of_values-loop-e l = earlier l.found (first (spec.faults_of_values l.scope.declared (drop l.e-index l.values))) ≡ first (spec.faults_of_values l.scope.declared l.values)
