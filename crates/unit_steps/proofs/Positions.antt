-- The return positions of a unit and its next instruction, by their numbers.
use Rattle.std.proofs.Common.{◌≡◌, refl, ◌∙◌, ap, ℕ, zero, suc, ◌+◌, ◌-◌, ◌<◌, ◌≤◌, List, [], ◌∷◌, ◌++◌, length, take, get_or, slice_index, slice_set, length-append, arith}
use Rattle.std.proofs.lemmas.List.{get_or_append_left, get_or-append_right, get_or-take, length-take-le}

-- the position with a number
abbrev pub line : (depth : ℕ) (back : List ℕ) (at : ℕ) → ℕ → ℕ
line depth back at i = slice_index (take depth back ++ (at ∷ [])) i

-- below the depth it is a return position, at the depth the next instruction
pub line-below : (depth : ℕ) (back : List ℕ) (at i : ℕ) → depth ≤ length back → i < depth → line depth back at i ≡ slice_index back i
line-below depth back at i room less =
    let long : length (take depth back) ≡ depth = length-take-le depth back room in
    get_or_append_left (take depth back) (at ∷ []) 0 i (omega (arith, long, less)) ∙ get_or-take depth back i 0 less

pub line-top : (depth : ℕ) (back : List ℕ) (at : ℕ) → depth ≤ length back → line depth back at depth ≡ at
line-top depth back at room =
    let none : depth - depth ≡ 0 = omega arith in
    get_or-append_right (take depth back) (at ∷ []) depth depth 0 (length-take-le depth back room) (omega arith) ∙ ap (λ n. get_or (at ∷ []) n 0) none

-- and there are no more
pub line-length : (depth : ℕ) (back : List ℕ) (at : ℕ) → depth ≤ length back → length (take depth back ++ (at ∷ [])) ≡ suc depth
line-length depth back at room =
    let long : length (take depth back) ≡ depth = length-take-le depth back room in
    let sum : length (take depth back ++ (at ∷ [])) ≡ length (take depth back) + 1 = length-append (take depth back) (at ∷ []) in
    omega (arith, long, sum)

-- a list with one element replaced
pub set_same : (xs : List ℕ) (d x : ℕ) → d < length xs → slice_index (slice_set xs d x) d ≡ x
set_same [] d x inside = absurd (omega (arith, inside))
set_same (y ∷ xs) zero x inside = refl
set_same (y ∷ xs) (suc d) x inside = set_same xs d x (omega (arith, inside))

pub set_other : (xs : List ℕ) (d x i : ℕ) → (d ≡ i → ⊥) → slice_index (slice_set xs d x) i ≡ slice_index xs i
set_other [] d x i differ = refl
set_other (y ∷ xs) zero x zero differ = absurd (differ refl)
set_other (y ∷ xs) zero x (suc i) differ = refl
set_other (y ∷ xs) (suc d) x zero differ = refl
set_other (y ∷ xs) (suc d) x (suc i) differ = set_other xs d x i (λ e. differ (ap suc e))
