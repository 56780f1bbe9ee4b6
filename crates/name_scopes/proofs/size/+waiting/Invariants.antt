use Rattle.std.proofs.Common.{◌≡◌, ◌≤◌, ◌<◌, ◌^◌, ◌+◌, max, drop}
use Rattle.xmt_base.specs.Counters.{capped}
use Rattle.name_scopes.specs.Waiting as spec
use Rattle.name_scopes.proofs.size.+waiting.Given as goal

abbrev pub invariant-waiting_of_values-loop-e : goal.invariant-waiting_of_values-loop-e
invariant-waiting_of_values-loop-e l = record {
  before : l.before ≤ l.most;
  fits : l.most < 2 ^ 64;
  rest : capped (max l.most (l.before + spec.waiting_of_values (drop l.e-index l.values))) ≡ capped (spec.waiting_of_values l.values);
}
