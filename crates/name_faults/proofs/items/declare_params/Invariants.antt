use Rattle.std.proofs.Common.{◌≡◌, drop}
use Rattle.name_scopes.specs.Fault.{first, earlier}
use Rattle.name_scopes.specs.Locals.{env}
use Rattle.name_scopes.specs.Table.{IsTable}
use Rattle.name_faults.specs.Items as spec
use Rattle.name_faults.proofs.items.declare_params.Given as goal

abbrev pub invariant-loop-x : goal.invariant-loop-x
invariant-loop-x l = record {
  table : IsTable l.locals.scope;
  reach : spec.declare_params (drop l.x-index l.all) (env l.locals) ≡ spec.declare_params l.all (env l.fn.locals);
  broken : earlier l.found (first (spec.params_faults l.start (drop l.x-index l.all) (env l.locals))) ≡ first (spec.params_faults l.start l.all (env l.fn.locals));
}
