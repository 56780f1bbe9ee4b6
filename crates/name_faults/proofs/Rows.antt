-- Rows of trees, as lists, and loops over them.
use Rattle.std.proofs.Common.{◌≡◌, ◌≤◌, ◌<◌, refl, sym, ◌∙◌, ap, arith, ℕ, zero, suc, ◌+◌, List, [], ◌∷◌, length, drop, drop-cons, get_or, add-one, Option, None, Result, Ok, Err, OnOk, IfOk}
use Rattle.raw_tree.specs.declared.tree.RawExpr.{RawExpr}
use Rattle.raw_tree.specs.declared.tree.RawExprKind.TheVariants as e
use Rattle.raw_tree.specs.declared.tree.RawName.{RawName}
use Rattle.raw_tree.specs.declared.tree.RawExprKind.TheBlock.{hidden-the_row-RawExpr-1}
use Rattle.name_scopes.specs.Opened.{opened}
use Rattle.name_scopes.specs.declared.fault.Fault.{Fault}
use Rattle.name_scopes.specs.declared.scope.Declared.{Declared}
use Rattle.name_scopes.specs.Fault.{Faults, none, both, first, earlier}
use Rattle.name_scopes.proofs.First.{earlier_assoc, earlier_none}
use Rattle.name_faults.specs.Expressions.{row_length, faults, faults_of_row, faults_of_values, call_fault, meaning}

row_of_list : (ds : List Declared) (values : List RawExpr) → faults_of_row ds (hidden-the_row-RawExpr-1 values) ≡ faults_of_values ds values
unfolding opened
row_of_list ds [] = refl
row_of_list ds (a ∷ rest) = ap (λ fs. both (faults ds Rattle.std.specs.Prelude.true a.kind) fs) (row_of_list ds rest)

length_of_list : (values : List RawExpr) → row_length (hidden-the_row-RawExpr-1 values) ≡ length values
unfolding opened
length_of_list [] = refl
length_of_list (a ∷ rest) = ap (λ n. suc n) (length_of_list rest)

pub faults_call : (ds : List Declared) (wanted : Rattle.std.specs.Prelude.Bool) (name : RawName) (values : List RawExpr) →
    faults ds wanted (e.Call name values) ≡ both (call_fault wanted (length values) name (meaning ds name)) (faults_of_values ds values)
unfolding opened
faults_call ds wanted name values =
    ap (λ fs. both (call_fault wanted (row_length (hidden-the_row-RawExpr-1 values)) name (meaning ds name)) fs) (row_of_list ds values)
    ∙ ap (λ n. both (call_fault wanted n name (meaning ds name)) (faults_of_values ds values)) (length_of_list values)

pub drop_all : {X : Type 0} (n : ℕ) (xs : List X) → length xs ≤ n → drop n xs ≡ []
drop_all zero [] long = refl
drop_all zero (x ∷ xs) long = absurd (omega arith)
drop_all (suc n) [] long = refl
drop_all (suc n) (x ∷ xs) long = drop_all n xs (omega (arith, long))

-- ---- a loop that keeps the first breach, over a definition of the breaches of a list

pub loop_start : (whole : Option Fault) (x : Option Fault) → whole ≡ x → earlier None whole ≡ x
loop_start whole x is = is

pub loop_end : {X : Type 0} (of_list : List X → Faults) → of_list [] ≡ none → (found x : Option Fault) (n : ℕ) (xs : List X) → length xs ≤ n →
    earlier found (first (of_list (drop n xs))) ≡ x → found ≡ x
loop_end of_list empty found x n xs long is =
    sym (earlier_none found) ∙ ap (λ fs. earlier found (first fs)) (sym (ap of_list (drop_all n xs long) ∙ empty)) ∙ is

pub loop_turn : {X : Type 0} (of_list : List X → Faults) (of_one : X → Faults) → ((a : X) (rest : List X) → of_list (a ∷ rest) ≡ both (of_one a) (of_list rest)) →
    (found next x : Option Fault) (n : ℕ) (xs : List X) (a : X) → n < length xs → a ≡ get_or xs n a → next ≡ earlier found (first (of_one a)) →
    earlier found (first (of_list (drop n xs))) ≡ x → earlier next (first (of_list (drop (n + 1) xs))) ≡ x
loop_turn of_list of_one more found next x n xs a within is step before =
    let cut : drop n xs ≡ a ∷ drop (n + 1) xs = rw add-one (drop-cons xs n a within ∙ ap (λ y. y ∷ drop (suc n) xs) (sym is)) in
    ap (λ y. earlier y (first (of_list (drop (n + 1) xs)))) step
    ∙ earlier_assoc found (first (of_one a)) (first (of_list (drop (n + 1) xs)))
    ∙ ap (λ fs. earlier found (first fs)) (sym (ap of_list cut ∙ more a (drop (n + 1) xs)))
    ∙ before

-- ---- a loop that also goes on from state to state

pub state_turn : {X E : Type 0} (run : List X → E → E) (step : X → E → E) → ((a : X) (rest : List X) (e : E) → run (a ∷ rest) e ≡ run rest (step a e)) →
    (e next x : E) (n : ℕ) (xs : List X) (a : X) → n < length xs → a ≡ get_or xs n a → next ≡ step a e → run (drop n xs) e ≡ x → run (drop (n + 1) xs) next ≡ x
state_turn run step more e next x n xs a within is stepped before =
    let cut : drop n xs ≡ a ∷ drop (n + 1) xs = rw add-one (drop-cons xs n a within ∙ ap (λ y. y ∷ drop (suc n) xs) (sym is)) in
    ap (λ z. run (drop (n + 1) xs) z) stepped ∙ sym (ap (λ ys. run ys e) cut ∙ more a (drop (n + 1) xs) e) ∙ before

pub found_turn : {X E : Type 0} (of_list : List X → E → Faults) (of_one : X → E → Faults) (step : X → E → E) →
    ((a : X) (rest : List X) (e : E) → of_list (a ∷ rest) e ≡ both (of_one a e) (of_list rest (step a e))) →
    (e after : E) (found one next x : Option Fault) (n : ℕ) (xs : List X) (a : X) → n < length xs → a ≡ get_or xs n a → after ≡ step a e → one ≡ first (of_one a e) → next ≡ earlier found one →
    earlier found (first (of_list (drop n xs) e)) ≡ x → earlier next (first (of_list (drop (n + 1) xs) after)) ≡ x
found_turn of_list of_one step more e after found one next x n xs a within is stepped this then_next before =
    let cut : drop n xs ≡ a ∷ drop (n + 1) xs = rw add-one (drop-cons xs n a within ∙ ap (λ y. y ∷ drop (suc n) xs) (sym is)) in
    ap (λ z. earlier next (first (of_list (drop (n + 1) xs) z))) stepped
    ∙ ap (λ y. earlier y (first (of_list (drop (n + 1) xs) (step a e)))) (then_next ∙ ap (λ y. earlier found y) this)
    ∙ earlier_assoc found (first (of_one a e)) (first (of_list (drop (n + 1) xs) (step a e)))
    ∙ ap (λ fs. earlier found (first fs)) (sym (ap (λ ys. of_list ys e) cut ∙ more a (drop (n + 1) xs) e))
    ∙ before

-- what a call ensures of its success, along an equation
pub on_ok_then : {A E X : Type 0} {y z : X} (x : X) (r : Result A E) → OnOk r (x ≡ y) → y ≡ z → OnOk r (x ≡ z)
on_ok_then x (Ok a) is same = is ∙ same
on_ok_then x (Err e) is same = tt

pub if_ok_then : {A E : Type 0} {x y : A} (r : Result A E) → IfOk r (λ a. a ≡ x) → x ≡ y → IfOk r (λ a. a ≡ y)
if_ok_then (Ok a) is same = is ∙ same
if_ok_then (Err e) is same = tt
