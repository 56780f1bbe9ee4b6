use Rattle.std.proofs.Common.{◌≡◌, ◌+◌, ◌≤◌, ◌^◌}
use Rattle.shared_words.specs.Passes.{IsEnrolled}
use Rattle.words_bench.proofs.make_all.Given as goal

abbrev pub invariant-loop : goal.invariant-loop
invariant-loop l = (l.pass.of ≡ l.words) × IsEnrolled l.pass.known × (2 ^ 32 ≤ l.pass.known.room + l.counter + 1)
