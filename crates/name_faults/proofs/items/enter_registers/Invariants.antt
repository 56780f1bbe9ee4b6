use Rattle.std.proofs.Common.{◌≡◌, drop}
use Rattle.name_scopes.specs.Fault.{first, earlier}
use Rattle.name_scopes.specs.Table.{IsTable}
use Rattle.name_faults.specs.Items as spec
use Rattle.name_faults.proofs.items.enter_registers.Given as goal

abbrev pub invariant-loop-x : goal.invariant-loop-x
invariant-loop-x l = record {
  table : IsTable l.file.scope;
  reach : spec.enter_registers (drop l.x-index l.all) (spec.names l.file) ≡ spec.enter_registers l.all (spec.names l.fn.file);
  broken : earlier l.found (first (spec.again_registers (drop l.x-index l.all) (spec.names l.file))) ≡ first (spec.again_registers l.all (spec.names l.fn.file));
}
