use Rattle.std.proofs.Common.{◌≡◌, max, drop}
use Rattle.spawn_check.specs.Words.{outer_words}
use Rattle.spawn_check.proofs.shared.outer_words.Given as goal

-- with the rest it is that of all
abbrev pub invariant-loop-function : goal.invariant-loop-function
invariant-loop-function l = max l.most (outer_words (drop l.function-index l.program.functions)) ≡ outer_words l.program.functions
