-- What marks say of the functions that reach something.
use Rattle.std.proofs.Common.{ℕ, zero, suc, ◌≡◌, ◌<◌, ◌≤◌, ◌+◌, refl, ◌∙◌, ap, sym, subst, arith, Bool, true, false, List, [], ◌∷◌, Option, Some, None, length, get_or, get_or-set_other, inl, inr}
use Rattle.std.specs.Prelude.{◌&&◌, not, slice_get}
use Rattle.std.specs.Bool.{OnFalse}
use Rattle.std.proofs.Math.ListN.{set, replicate}
use Rattle.std.proofs.lemmas.List.{get_or-replicate, length-replicate}
use Rattle.std.proofs.lemmas.Option.{slice_get_within}
use Rattle.std.proofs.lemmas.Bool.{or_cases, false≢true, cases_eq, eqb-true, eq-eqb, cases_lt, and_parts, not-true, both_ways}
use Rattle.source_meaning.specs.declared.tree.ExprKind.{ExprKind}
use Rattle.source_meaning.specs.declared.tree.ExprKind.TheVariants as expr
use Rattle.source_meaning.specs.declared.tree.StmtKind.{StmtKind}
use Rattle.source_meaning.specs.declared.tree.Function.{Function}
use Rattle.source_meaning.specs.Inside.{some_of_statement, some_in_list}
use Rattle.spawn_check.specs.declared.things.Sought.{Sought}
use Rattle.spawn_check.specs.declared.questions.Question.TheVariants as question
use Rattle.spawn_check.specs.Calls.{is_sought, is_call, Reaches, itself, by_call}
use Rattle.spawn_check.specs.Questions.{is_marked_call, statement_test}
use Rattle.spawn_check.specs.Marking.{AreSound, AreClosed, AreExact, is_due_at, count_of_marked}
use Rattle.spawn_check.proofs.Lifting.{Leads, leads_of_statement, leads_in_list, or_left, or_right}

pub count_of_marked-set : (marks : List Bool) (i : ℕ) → i < length marks → get_or marks i false ≡ false → count_of_marked (set marks i true) ≡ suc (count_of_marked marks)
count_of_marked-set [] i within unmarked = absurd (omega arith)
count_of_marked-set (true ∷ marks) zero within unmarked = absurd (false≢true (sym unmarked))
count_of_marked-set (false ∷ marks) zero within unmarked = refl
count_of_marked-set (true ∷ marks) (suc i) within unmarked = ap suc (count_of_marked-set marks i (omega arith) unmarked)
count_of_marked-set (false ∷ marks) (suc i) within unmarked = count_of_marked-set marks i (omega arith) unmarked

pub count_of_marked-le-length : (marks : List Bool) → count_of_marked marks ≤ length marks
count_of_marked-le-length [] = omega arith
count_of_marked-le-length (true ∷ marks) = let rest : count_of_marked marks ≤ length marks = count_of_marked-le-length marks in omega arith
count_of_marked-le-length (false ∷ marks) = let rest : count_of_marked marks ≤ length marks = count_of_marked-le-length marks in omega arith

some_same : {x y : Function} → Some x ≡ Some y → x ≡ y
some_same e = cc

none_is_marked : (n f : ℕ) → get_or (replicate n false) f false ≡ false
none_is_marked n f = elim (cases_lt f n) [ inl below ↦ get_or-replicate n f false false below | inr above ↦ past (replicate n false) f (omega (arith, length-replicate n false)) ] where
  past : (marks : List Bool) (i : ℕ) → length marks ≤ i → get_or marks i false ≡ false
  past [] i above = refl
  past (m ∷ marks) zero above = absurd (omega arith)
  past (m ∷ marks) (suc i) above = past marks i (omega arith)

pub on_false : (b : Bool) (P : Type 0) → (b ≡ false → P) → OnFalse b P
on_false true P given = tt
on_false false P given = given refl

module _ (functions : List Function) (what : Sought) where
  pub unmarked_sound : (n : ℕ) → AreSound functions what (replicate n false)
  unmarked_sound n = record { reaches = λ f marked. absurd (both_ways (get_or (replicate n false) f false) (none_is_marked n f) marked) }

  pub sound_with_one_more : (marks : List Bool) (i : ℕ) → i < length marks → AreSound functions what marks → Reaches functions what i → AreSound functions what (set marks i true)
  sound_with_one_more marks i within sound reached = record {
    reaches = λ f marked. elim (cases_eq f i) [
      | inl same ↦ subst (λ g. Reaches functions what g) (sym same) reached
      | inr other ↦ sound.reaches f (sym (get_or-set_other marks i f true false other) ∙ marked)
    ];
  }

  -- a call of a function, or what is sought
  abbrev Found : Type 0
  Found = Option ℕ

  abbrev found_test : Found → StmtKind → Bool
  found_test None = is_sought what
  found_test (Some g) = some_of_statement (is_call g)

  module _ (marks : List Bool) where
    abbrev IsMarked : ℕ → Type 0
    IsMarked g = get_or marks g false ≡ true

    abbrev IsGood : Found → Type 0
    IsGood None = Unit {0}
    IsGood (Some g) = IsMarked g

    called : (kind : ExprKind) → Leads IsMarked (is_marked_call marks kind) (λ g. is_call g kind)
    called (expr.Call' f shape values) marked = (f, marked, eq-eqb f f refl)
    called (expr.Number n) marked = absurd (false≢true marked)
    called _ marked = absurd (false≢true marked)

    found_in : (s : StmtKind) → Leads IsGood (statement_test (question.LeadsTo what) marks s) (λ found. found_test found s)
    found_in s passed = elim (or_cases (is_sought what s) (some_of_statement (is_marked_call marks) s) passed) [
      | inl sought ↦ (None, tt, sought)
      | inr call ↦ let g = leads_of_statement IsMarked (is_marked_call marks) is_call called s call in (Some g.0, g.1, g.2)
    ]

    reached_by : (i : ℕ) (function : Function) → slice_get functions i ≡ Some function → AreSound functions what marks →
        (found : Found) → IsGood found → some_in_list (found_test found) function.body ≡ true → Reaches functions what i
    reached_by i function is sound None good here = itself function is here
    reached_by i function is sound (Some g) good here = by_call function is here (sound.reaches g good)

    pub reaches_found : (i : ℕ) (function : Function) → slice_get functions i ≡ Some function → AreSound functions what marks →
        some_in_list (statement_test (question.LeadsTo what) marks) function.body ≡ true → Reaches functions what i
    reaches_found i function is sound passed =
        let found = leads_in_list IsGood (statement_test (question.LeadsTo what) marks) found_test found_in function.body passed in
        reached_by i function is sound found.0 found.1 found.2

    -- ---- a step of the loop

    pub due_reaches : (i : ℕ) (function : Function) → slice_get functions i ≡ Some function → AreSound functions what marks →
        is_due_at function i what marks ≡ true → Reaches functions what i
    due_reaches i function is sound due =
        reaches_found i function is sound (and_parts (not (get_or marks i false)) (some_in_list (statement_test (question.LeadsTo what) marks) function.body) due).1

    pub due_unmarked : (i : ℕ) (function : Function) → is_due_at function i what marks ≡ true → get_or marks i false ≡ false
    due_unmarked i function due =
        not-true (get_or marks i false) (and_parts (not (get_or marks i false)) (some_in_list (statement_test (question.LeadsTo what) marks) function.body) due).0

    -- the functions below a number are as closed marks say
    abbrev pub ClosedBelow : ℕ → Type 0
    ClosedBelow i = (f : ℕ) (function : Function) → f < i → slice_get functions f ≡ Some function →
        some_in_list (statement_test (question.LeadsTo what) marks) function.body ≡ true → get_or marks f false ≡ true

    closed_here : (marked passes : Bool) → (not marked && passes) ≡ false → passes ≡ true → marked ≡ true
    closed_here true passes calm passed = refl
    closed_here false passes calm passed = absurd (both_ways passes calm passed)

    pub closed_one_more : (i : ℕ) (item : Function) → slice_get functions i ≡ Some item → is_due_at item i what marks ≡ false → ClosedBelow i → ClosedBelow (i + 1)
    closed_one_more i item is calm closed f function below here passed = elim (cases_eq f i) [
      | inl same ↦
          let items : function ≡ item = some_same (sym here ∙ ap (slice_get functions) same ∙ is) in
          ap (λ n. get_or marks n false) same ∙
          closed_here (get_or marks i false) (some_in_list (statement_test (question.LeadsTo what) marks) item.body) calm
          (sym (ap (λ (x : Function). some_in_list (statement_test (question.LeadsTo what) marks) x.body) items) ∙ passed)
      | inr other ↦ closed f function (omega arith) here passed
    ]

    pub closed_at_end : (i : ℕ) → length functions ≤ i → ClosedBelow i → AreClosed functions what marks
    closed_at_end i all closed = record {
      marked = λ f function here passed. let within : f < length functions = slice_get_within functions f function here in closed f function (omega arith) here passed;
    }

    -- ---- closed marks

    abbrev Always : ℕ → Type 0
    Always n = Unit {0}

    sought_passes : (s : StmtKind) → Leads Always (is_sought what s) (λ n. statement_test (question.LeadsTo what) marks s)
    sought_passes s sought = (0, tt, or_left (is_sought what s) (some_of_statement (is_marked_call marks) s) sought)

    call_is_marked : (g : ℕ) → IsMarked g → (kind : ExprKind) → Leads Always (is_call g kind) (λ n. is_marked_call marks kind)
    call_is_marked g marked (expr.Call' f shape values) same = (0, tt, ap (λ h. get_or marks h false) (sym (eqb-true g f same)) ∙ marked)
    call_is_marked g marked _ same = absurd (false≢true same)

    call_passes : (g : ℕ) → IsMarked g → (s : StmtKind) → Leads Always (some_of_statement (is_call g) s) (λ n. statement_test (question.LeadsTo what) marks s)
    call_passes g marked s call =
        let lifted = leads_of_statement Always (is_call g) (λ n. is_marked_call marks) (call_is_marked g marked) s call in
        (0, tt, or_right (is_sought what s) (some_of_statement (is_marked_call marks) s) lifted.2)

    marked_if_reaching : AreClosed functions what marks → (f : ℕ) → Reaches functions what f → IsMarked f
    marked_if_reaching closed f (itself function is sought) =
        closed.marked f function is (leads_in_list Always (is_sought what) (λ n. statement_test (question.LeadsTo what) marks) sought_passes function.body sought).2
    marked_if_reaching closed f (by_call {g} function is call rest) =
        let marked : IsMarked g = marked_if_reaching closed g rest in
        closed.marked f function is
        (leads_in_list Always (some_of_statement (is_call g)) (λ n. statement_test (question.LeadsTo what) marks) (call_passes g marked) function.body call).2

    pub exact_from_both : AreSound functions what marks → AreClosed functions what marks → AreExact functions what marks
    exact_from_both sound closed = record { exactly = λ f. (sound.reaches f, marked_if_reaching closed f) }
