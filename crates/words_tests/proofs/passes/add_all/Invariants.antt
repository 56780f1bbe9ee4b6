use Rattle.std.proofs.Common.{◌≡◌, ℕ, ◌+◌, [], ◌∷◌, Some, length}
use Rattle.shared_words.specs.History.{own}
use Rattle.shared_words.specs.Passes.{IsPassOf}
use Rattle.words_tests.proofs.passes.add_all.Given as goal

-- the pass writes with its one number, of which it has seen the enrolment and the adds
abbrev pub invariant-loop : goal.invariant-loop
invariant-loop l = (n : ℕ) × IsPassOf l.words l.pass × (l.pass.known.writes_with ≡ Some n) × (l.pass.known.numbers ≡ n ∷ []) × (length (own n l.pass.known.seen.entries) ≡ l.counter + 1)
