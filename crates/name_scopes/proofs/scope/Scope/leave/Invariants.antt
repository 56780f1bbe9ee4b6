use Rattle.std.proofs.Common.{◌≡◌, length, take}
use Rattle.name_scopes.specs.Table.{IsTable}
use Rattle.name_scopes.proofs.scope.Scope.leave.Given as goal

abbrev pub invariant-loop-alloc : goal.invariant-loop-alloc
invariant-loop-alloc l = record {
  table : IsTable l.self;
  front : take l.count l.self.declared ≡ take l.count l.fn.self.declared;
}

abbrev pub decreases-loop-alloc : goal.decreases-loop-alloc
decreases-loop-alloc l = length l.self.declared
