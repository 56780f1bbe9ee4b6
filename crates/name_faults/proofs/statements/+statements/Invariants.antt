use Rattle.std.proofs.Common.{◌≡◌, drop}
use Rattle.name_scopes.specs.Fault.{first, earlier}
use Rattle.name_scopes.specs.Locals.{env}
use Rattle.name_scopes.specs.Table.{IsTable}
use Rattle.name_faults.specs.Statements as spec
use Rattle.name_faults.proofs.statements.+statements.Given as goal

abbrev pub invariant-statements-loop-s : goal.invariant-statements-loop-s
invariant-statements-loop-s l = record {
  table : IsTable l.locals.scope;
  reach : spec.after_all (drop l.s-index l.body) (env l.locals) ≡ spec.after_all l.body (env l.fn.locals);
  broken : earlier l.found (first (spec.statements_faults l.value l.start (drop l.s-index l.body) (env l.locals))) ≡ first (spec.statements_faults l.value l.start l.body (env l.fn.locals));
}
