use Rattle.std.proofs.Common.{◌≡◌, ◌^◌, ◌-◌, ◌<◌, min, max, drop}
use Rattle.tree_measures.specs.Waiting.{waiting_behind_list}
use Rattle.tree_measures.proofs.waits.+waiting.Given as goal

-- with the rest, so many wait at most as in all
abbrev pub invariant-waiting_of_values-loop-value : goal.invariant-waiting_of_values-loop-value
invariant-waiting_of_values-loop-value l = record {
  before : l.before ≡ l.value-index;
  range : l.most < 2 ^ 64;
  most : min (max l.most (waiting_behind_list l.value-index (drop l.value-index l.values))) (2 ^ 64 - 1) ≡ min (waiting_behind_list 0 l.values) (2 ^ 64 - 1);
}
