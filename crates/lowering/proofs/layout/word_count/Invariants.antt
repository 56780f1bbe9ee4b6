use Rattle.std.proofs.Common.{◌≡◌, ◌+◌, drop}
use Rattle.source_meaning.specs.Layout.{all_words}
use Rattle.lowering.proofs.layout.word_count.Given as goal

abbrev pub invariant-loop-global : goal.invariant-loop-global
invariant-loop-global l = l.words + all_words (drop l.global-index l.globals) ≡ all_words l.globals
