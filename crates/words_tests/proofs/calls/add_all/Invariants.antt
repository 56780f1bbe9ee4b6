use Rattle.std.proofs.Common.{◌≡◌}
use Rattle.shared_words.specs.Passes.{IsEnrolled}
use Rattle.words_tests.proofs.calls.add_all.Given as goal

abbrev pub invariant-loop : goal.invariant-loop
invariant-loop l = (l.pass.of ≡ l.words) × IsEnrolled l.pass.known
