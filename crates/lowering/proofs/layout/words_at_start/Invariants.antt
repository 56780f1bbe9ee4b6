use Rattle.std.proofs.Common.{◌≡◌, ◌++◌, drop}
use Rattle.source_meaning.specs.Layout.{opening_words}
use Rattle.lowering.proofs.layout.words_at_start.Given as goal

abbrev pub invariant-loop-global : goal.invariant-loop-global
invariant-loop-global l = l.words ++ opening_words (drop l.global-index l.globals) ≡ opening_words l.globals
