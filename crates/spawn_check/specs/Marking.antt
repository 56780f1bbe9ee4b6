-- Which functions are marked, and what the marks say.
use Rattle.std.specs.Prelude.{ℕ, suc, ◌≡◌, ◌↔◌, Bool, not, ◌&&◌, true, false, List, [], ◌∷◌, Some, slice_get, slice_index_or}
use Rattle.source_meaning.specs.declared.tree.Function.{Function}
use Rattle.source_meaning.specs.Inside.{some_in_list}
use Rattle.spawn_check.specs.declared.things.Sought.{Sought}
use Rattle.spawn_check.specs.declared.questions.Question.TheVariants as question
use Rattle.spawn_check.specs.Calls.{Reaches}
use Rattle.spawn_check.specs.Questions.{statement_test}

-- a function that is not marked has it, or calls a marked one
abbrev pub is_due_at : Function → (number : ℕ) → (what : Sought) → (marks : List Bool) → Bool
is_due_at function number what marks = not (slice_index_or marks number false) && some_in_list (statement_test (question.LeadsTo what) marks) function.body

-- each marked function reaches it
pub record AreSound (functions : List Function) (what : Sought) (marks : List Bool) : Type 0 where
  pub reaches : (f : ℕ) → slice_index_or marks f false ≡ true → Reaches functions what f

-- a function that has it, or calls a marked one, is marked
pub record AreClosed (functions : List Function) (what : Sought) (marks : List Bool) : Type 0 where
  pub marked : (f : ℕ) (function : Function) → slice_get functions f ≡ Some function →
      some_in_list (statement_test (question.LeadsTo what) marks) function.body ≡ true → slice_index_or marks f false ≡ true

-- just the functions that reach it are marked
pub record AreExact (functions : List Function) (what : Sought) (marks : List Bool) : Type 0 where
  pub exactly : (f : ℕ) → (slice_index_or marks f false ≡ true) ↔ Reaches functions what f

abbrev pub count_of_marked : (marks : List Bool) → ℕ
count_of_marked [] = 0
count_of_marked (true ∷ marks) = suc (count_of_marked marks)
count_of_marked (false ∷ marks) = count_of_marked marks
