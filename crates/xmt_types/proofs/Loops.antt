-- Loops that put what they make behind what is made.
use Rattle.std.proofs.Common.{◌≡◌, ◌<◌, sym, ◌∙◌, ap, ℕ, suc, ◌+◌, List, ◌∷◌, ◌++◌, append_assoc, length, drop, drop-cons, get_or, add-one}

-- a loop over a list that also goes on from state to state
pub built_turn : {X E Y : Type 0} (of_list : List X → E → List Y) (of_one : X → E → List Y) (step : X → E → E) →
    ((a : X) (rest : List X) (e : E) → of_list (a ∷ rest) e ≡ of_one a e ++ of_list rest (step a e)) →
    (e next : E) (made longer x : List Y) (n : ℕ) (xs : List X) (a : X) → n < length xs → a ≡ get_or xs n a → next ≡ step a e → longer ≡ made ++ of_one a e →
    made ++ of_list (drop n xs) e ≡ x → longer ++ of_list (drop (n + 1) xs) next ≡ x
built_turn of_list of_one step more e next made longer x n xs a within is stepped pushed before =
    let cut : drop n xs ≡ a ∷ drop (n + 1) xs = rw add-one (drop-cons xs n a within ∙ ap (λ y. y ∷ drop (suc n) xs) (sym is)) in
    ap (λ z. longer ++ of_list (drop (n + 1) xs) z) stepped
    ∙ ap (λ y. y ++ of_list (drop (n + 1) xs) (step a e)) pushed
    ∙ append_assoc made (of_one a e) (of_list (drop (n + 1) xs) (step a e))
    ∙ ap (λ y. made ++ y) (sym (ap (λ ys. of_list ys e) cut ∙ more a (drop (n + 1) xs) e))
    ∙ before

-- the same with no state
pub list_turn : {X Y : Type 0} (of_list : List X → List Y) (of_one : X → List Y) → ((a : X) (rest : List X) → of_list (a ∷ rest) ≡ of_one a ++ of_list rest) →
    (made longer x : List Y) (n : ℕ) (xs : List X) (a : X) → n < length xs → a ≡ get_or xs n a → longer ≡ made ++ of_one a →
    made ++ of_list (drop n xs) ≡ x → longer ++ of_list (drop (n + 1) xs) ≡ x
list_turn of_list of_one more made longer x n xs a within is pushed before =
    let cut : drop n xs ≡ a ∷ drop (n + 1) xs = rw add-one (drop-cons xs n a within ∙ ap (λ y. y ∷ drop (suc n) xs) (sym is)) in
    ap (λ y. y ++ of_list (drop (n + 1) xs)) pushed
    ∙ append_assoc made (of_one a) (of_list (drop (n + 1) xs))
    ∙ ap (λ y. made ++ y) (sym (ap of_list cut ∙ more a (drop (n + 1) xs)))
    ∙ before
