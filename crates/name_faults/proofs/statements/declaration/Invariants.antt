use Rattle.std.proofs.Common.{◌≡◌, drop}
use Rattle.name_scopes.specs.Fault.{first, earlier}
use Rattle.name_scopes.specs.Locals.{env}
use Rattle.name_scopes.specs.Table.{IsTable}
use Rattle.name_faults.specs.Statements as spec
use Rattle.name_faults.proofs.statements.declaration.Given as goal

abbrev pub invariant-loop-local : goal.invariant-loop-local
invariant-loop-local l = record {
  table : IsTable l.locals.scope;
  reach : spec.declare_all l.constant (drop l.local-index l.local-items) (env l.locals) ≡ spec.declare_all l.constant l.local-items (env l.fn.locals);
  broken : earlier l.found (first (spec.locals_faults l.start l.constant (drop l.local-index l.local-items) (env l.locals))) ≡ first (spec.locals_faults l.start l.constant l.local-items (env l.fn.locals));
}
