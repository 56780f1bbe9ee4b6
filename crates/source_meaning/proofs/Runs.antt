-- Runs of a part of a thread by itself, one behind the other, and how an operator's operands come to its value.
use Rattle.std.proofs.Common.{◌≡◌, refl, sym, ◌∙◌, ap, arith, ℕ, suc, zero, ◌+◌, List, [], ◌++◌, append_assoc, append-nil, Option, Some, None, is_some}
use Rattle.xmt_base.specs.declared.operators.BinOp.{BinOp}
use Rattle.xmt_base.specs.Operators.{binary_value}
use Rattle.xmt_base.specs.Action.{Action}
use Rattle.source_meaning.specs.Store.{Store}
use Rattle.source_meaning.specs.Term.{Term, Value, Binary, Code}
use Rattle.source_meaning.specs.Next.{Next, next, next_within, operator_step}
use Rattle.source_meaning.specs.Trace.{Local, trace_then, and_then, local_step, local_run}
use Rattle.source_meaning.proofs.Within.{all_surrounded, run_within}

trace_then-append : {X : Type 0} (first second : List Action) (outcome : Option (List Action × X)) → trace_then first (trace_then second outcome) ≡ trace_then (first ++ second) outcome
trace_then-append first second None = refl
trace_then-append first second (Some outcome) = ap (λ trace. Some (trace, outcome.1)) (sym (append_assoc first second outcome.0))

and_then-trace_then : {X : Type 0} (first : List Action) (outcome : Option (List Action × X)) (go : X → Option (List Action × X)) → and_then (trace_then first outcome) go ≡ trace_then first (and_then outcome go)
and_then-trace_then first None go = refl
and_then-trace_then first (Some outcome) go = sym (trace_then-append first outcome.0 (go outcome.1))

trace_then-nil : {X : Type 0} (outcome : Option (List Action × X)) → trace_then [] outcome ≡ outcome
trace_then-nil None = refl
trace_then-nil (Some outcome) = refl

module _ {T R : Type 0} (next : T → Next T R) where
  and_then-and_then : (outcome : Option (List Action × Local T)) (first second : Local T → Option (List Action × Local T)) → and_then (and_then outcome first) second ≡ and_then outcome (λ l. and_then (first l) second)
  and_then-and_then None first second = refl
  and_then-and_then (Some o) first second = and_then-trace_then o.0 (first o.1) second

  -- so many steps and so many more
  pub local_run-add : (first second : ℕ) (l : Local T) → local_run next (first + second) l ≡ and_then (local_run next first l) (local_run next second)
  local_run-add zero second l =
      let same : 0 + second ≡ second = omega arith in
      ap (λ n. local_run next n l) same ∙ sym (trace_then-nil (local_run next second l))
  local_run-add (suc first) second l =
      let same : suc first + second ≡ suc (first + second) = omega arith in
      ap (λ n. local_run next n l) same ∙
      ap (and_then (local_step next l)) (λ i m. local_run-add first second m i) ∙
      sym (and_then-and_then (local_step next l) (local_run next first) (local_run next second))

  -- from here it does these actions in so many steps, and comes there
  abbrev pub Runs : Local T → List Action → (work : ℕ) → Local T → Type 0
  Runs l acts work end = local_run next work l ≡ Some (acts, end)

  pub runs_on : (l mid end : Local T) (first second : List Action) (k m : ℕ) → Runs l first k mid → Runs mid second m end → Runs l (first ++ second) (k + m) end
  runs_on l mid end first second k m begins goes =
      local_run-add k m l ∙ ap (λ outcome. and_then outcome (local_run next m)) begins ∙ ap (trace_then first) goes

-- Two operands come to their values, from left to right, and one step more gives the operator's value.
module _ (number : ℕ) (call_code : (function depth : ℕ) → List ℕ → Code) (depth line : ℕ) (op : BinOp) where
  abbrev pub steps_of : Local Term → List Action → (work : ℕ) → Local Term → Type 0
  steps_of = Runs (next number call_code depth)

  left_runs : (a b : Term) (x : ℕ) (s s1 : Store) (r r1 : List ℕ) (acts : List Action) (k : ℕ) →
      steps_of (record { code = a; store = s; replies = r }) acts k (record { code = Value x; store = s1; replies = r1 }) →
      steps_of (record { code = Binary line op a b; store = s; replies = r }) acts k (record { code = Binary line op (Value x) b; store = s1; replies = r1 })
  left_runs a b x s s1 r r1 acts k runs =
      run_within (next number call_code depth) (next number call_code depth) (λ a. Binary line op a b)
      (λ x. next_within (Binary line op (Value x)) (next number call_code depth b) (λ y. operator_step line (binary_value op x y)))
      (λ e. refl) k (record { code = a; store = s; replies = r }) (ap is_some runs) ∙ ap (all_surrounded (λ a. Binary line op a b)) runs

  right_runs : (b : Term) (x y : ℕ) (s s1 : Store) (r r1 : List ℕ) (acts : List Action) (k : ℕ) →
      steps_of (record { code = b; store = s; replies = r }) acts k (record { code = Value y; store = s1; replies = r1 }) →
      steps_of (record { code = Binary line op (Value x) b; store = s; replies = r }) acts k (record { code = Binary line op (Value x) (Value y); store = s1; replies = r1 })
  right_runs b x y s s1 r r1 acts k runs =
      run_within (next number call_code depth) (next number call_code depth) (Binary line op (Value x))
      (λ y. operator_step line (binary_value op x y))
      (λ e. refl) k (record { code = b; store = s; replies = r }) (ap is_some runs) ∙ ap (all_surrounded (Binary line op (Value x))) runs

  operator_runs : (x y v : ℕ) (s : Store) (r : List ℕ) → binary_value op x y ≡ Some v →
      steps_of (record { code = Binary line op (Value x) (Value y); store = s; replies = r }) [] 1 (record { code = Value v; store = s; replies = r })
  operator_runs x y v s r gives = rw gives refl

  pub binary_runs : (a b : Term) (x y v : ℕ) (s s1 s2 : Store) (r r1 r2 : List ℕ) (first second : List Action) (k m : ℕ) →
      steps_of (record { code = a; store = s; replies = r }) first k (record { code = Value x; store = s1; replies = r1 }) →
      steps_of (record { code = b; store = s1; replies = r1 }) second m (record { code = Value y; store = s2; replies = r2 }) →
      binary_value op x y ≡ Some v →
      steps_of (record { code = Binary line op a b; store = s; replies = r }) (first ++ second) (k + m + 1) (record { code = Value v; store = s2; replies = r2 })
  binary_runs a b x y v s s1 s2 r r1 r2 first second k m left right gives =
      let next_of = next number call_code depth in
      let both = runs_on next_of (record { code = Binary line op a b; store = s; replies = r }) (record { code = Binary line op (Value x) b; store = s1; replies = r1 }) (record { code = Binary line op (Value x) (Value y); store = s2; replies = r2 }) first second k m (left_runs a b x s s1 r r1 first k left) (right_runs b x y s1 s2 r1 r2 second m right) in
      runs_on next_of (record { code = Binary line op a b; store = s; replies = r }) (record { code = Binary line op (Value x) (Value y); store = s2; replies = r2 }) (record { code = Value v; store = s2; replies = r2 }) (first ++ second) [] (k + m) 1 both (operator_runs x y v s2 r2 gives) ∙
      ap (λ acts. Some (acts, record { code = Value v; store = s2; replies = r2 })) (append-nil (first ++ second))
