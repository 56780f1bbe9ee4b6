use Rattle.std.proofs.Common.{◌≡◌, drop}
use Rattle.name_scopes.specs.Fault.{first, earlier}
use Rattle.name_faults.specs.Items as spec
use Rattle.name_faults.proofs.items.globals_faults.Given as goal

abbrev pub invariant-loop-x : goal.invariant-loop-x
invariant-loop-x l = earlier l.found (first (spec.globals_faults l.scope.declared (drop l.x-index l.all))) ≡ first (spec.globals_faults l.scope.declared l.all)
