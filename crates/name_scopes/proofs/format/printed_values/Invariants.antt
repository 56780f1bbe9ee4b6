use Rattle.std.proofs.Common.{◌≡◌, ◌+◌, ◌≤◌, drop, false}
use Rattle.xmt_base.specs.Format.{directives, has_directives}
use Rattle.name_scopes.proofs.format.printed_values.Given as goal

abbrev pub invariant-loop-item : goal.invariant-loop-item
invariant-loop-item l = record {
  few : l.count ≤ l.item-index;
  same : l.count + directives l.behind (drop l.item-index l.text) ≡ directives false l.text;
  directed : has_directives l.behind (drop l.item-index l.text) ≡ has_directives false l.text;
}
