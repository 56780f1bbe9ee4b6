use Rattle.std.proofs.Common.{◌≡◌, ◌+◌, ◌-◌, ◌^◌, ◌≤◌, min, drop}
use Rattle.source_meaning.specs.Layout.{all_words}
use Rattle.spawn_check.proofs.shared.global_words.Given as goal

abbrev pub invariant-loop-global : goal.invariant-loop-global
invariant-loop-global l = record {
  all : min (l.words + all_words (drop l.global-index l.globals)) (2 ^ 64 - 1) ≡ min (all_words l.globals) (2 ^ 64 - 1);
  small : l.words ≤ 2 ^ 64 - 1;
}
