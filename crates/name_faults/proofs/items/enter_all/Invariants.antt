use Rattle.std.proofs.Common.{◌≡◌, drop}
use Rattle.name_scopes.specs.Fault.{first, earlier}
use Rattle.name_scopes.specs.Table.{IsTable}
use Rattle.name_faults.specs.Items as spec
use Rattle.name_faults.proofs.items.enter_all.Given as goal

abbrev pub invariant-loop-x : goal.invariant-loop-x
invariant-loop-x l = record {
  table : IsTable l.file.scope;
  reach : spec.enter_all (drop l.x-index l.items) (spec.names l.file) ≡ spec.enter_all l.items (spec.names l.fn.file);
  broken : earlier l.found (first (spec.again_all (drop l.x-index l.items) (spec.names l.file))) ≡ first (spec.again_all l.items (spec.names l.fn.file));
}
