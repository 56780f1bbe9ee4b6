use Rattle.std.proofs.Common.{ℕ, ◌<◌, ◌≤◌, ◌≡◌, true, false, Some}
use Rattle.std.specs.Prelude.{slice_get, slice_index_or}
use Rattle.source_meaning.specs.declared.tree.Function.{Function}
use Rattle.source_meaning.specs.Inside.{some_in_list}
use Rattle.spawn_check.specs.declared.questions.Question.TheVariants as question
use Rattle.spawn_check.specs.Questions.{statement_test}
use Rattle.spawn_check.specs.Marking.{AreSound, count_of_marked}
use Rattle.spawn_check.proofs.marking.mark_more.Given as goal

-- while none is marked, the functions that were looked at are as closed marks say
abbrev pub invariant-loop-number : goal.invariant-loop-number
invariant-loop-number l = record {
  sound : AreSound l.functions l.what l.marks;
  kept : count_of_marked l.initial.marks ≤ count_of_marked l.marks;
  grown : l.more ≡ true → count_of_marked l.initial.marks < count_of_marked l.marks;
  closed : l.more ≡ false → (f : ℕ) (function : Function) → f < l.number → slice_get l.functions f ≡ Some function →
      some_in_list (statement_test (question.LeadsTo l.what) l.marks) function.body ≡ true → slice_index_or l.marks f false ≡ true;
}
