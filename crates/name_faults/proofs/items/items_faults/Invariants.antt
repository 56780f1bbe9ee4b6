use Rattle.std.proofs.Common.{◌≡◌, drop}
use Rattle.name_scopes.specs.Fault.{first, earlier}
use Rattle.name_scopes.specs.Table.{IsTable}
use Rattle.name_faults.specs.Items as spec
use Rattle.name_faults.proofs.items.items_faults.Given as goal

abbrev pub invariant-loop-x : goal.invariant-loop-x
invariant-loop-x l = record {
  table : IsTable l.locals.scope;
  reach : l.locals.scope.declared ≡ l.fn.locals.scope.declared;
  broken : earlier l.found (first (spec.items_faults l.fn.locals.scope.declared (drop l.x-index l.items))) ≡ first (spec.items_faults l.fn.locals.scope.declared l.items);
}
