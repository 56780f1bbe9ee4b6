-- Lists, place by place.
use Rattle.std.proofs.Common.{◌≡◌, refl, ap, ◌∙◌, ℕ, zero, suc, ◌+◌, ◌-◌, ◌<◌, ◌≤◌, Bool, true, false, List, [], ◌∷◌, length, map, All, Option, Some, None, slice_get, slice_index_or, sum_by, cond, arith, find}
use Rattle.std.proofs.lemmas.List.Elements.{All-nil, All-cons}
use Rattle.std.proofs.lemmas.List.Sums.{sum_by-cons}

pub same_value : {A : Type 0} (x y : A) → Some x ≡ Some y → x ≡ y
same_value x y same = cc

-- what is there in a list of values comes from what is there
pub map_there : {A B : Type 0} (f : A → B) (xs : List A) (k : ℕ) (y : B) → slice_get (map f xs) k ≡ Some y → (x : A) × (slice_get xs k ≡ Some x) × (f x ≡ y)
map_there f [] k y there = absurd cc
map_there f (x ∷ xs) zero y there = (x, refl, same_value (f x) y there)
map_there f (x ∷ xs) (suc k) y there = map_there f xs k y there

pub there_map : {A B : Type 0} (f : A → B) (xs : List A) (k : ℕ) (x : A) → slice_get xs k ≡ Some x → slice_get (map f xs) k ≡ Some (f x)
there_map f [] k x there = absurd cc
there_map f (y ∷ xs) zero x there = ap (λ z. Some (f z)) (same_value y x there)
there_map f (y ∷ xs) (suc k) x there = there_map f xs k x there

-- there is something inside a list
pub inside_there : {A : Type 0} (xs : List A) (k : ℕ) → k < length xs → (x : A) × (slice_get xs k ≡ Some x)
inside_there [] k inside = absurd (omega (arith, inside))
inside_there (x ∷ xs) zero inside = (x, refl)
inside_there (x ∷ xs) (suc k) inside = inside_there xs k (omega (arith, inside))

pub there_is : {A : Type 0} (xs : List A) (k : ℕ) (d : A) → k < length xs → slice_get xs k ≡ Some (slice_index_or xs k d)
there_is [] k d inside = absurd (omega (arith, inside))
there_is (x ∷ xs) zero d inside = refl
there_is (x ∷ xs) (suc k) d inside = there_is xs k d (omega (arith, inside))

pub there_inside : {A : Type 0} (xs : List A) (k : ℕ) (x : A) → slice_get xs k ≡ Some x → k < length xs
there_inside [] k x there = absurd cc
there_inside (y ∷ xs) zero x there = omega arith
there_inside (y ∷ xs) (suc k) x there = let rest : k < length xs = there_inside xs k x there in omega (arith, rest)

-- lists with the same values are the same
pub same_lists : {A : Type 0} (xs ys : List A) → length xs ≡ length ys → ((k : ℕ) (x y : A) → slice_get xs k ≡ Some x → slice_get ys k ≡ Some y → x ≡ y) → xs ≡ ys
same_lists [] [] size each = refl
same_lists [] (y ∷ ys) size each = absurd (omega (arith, size))
same_lists (x ∷ xs) [] size each = absurd (omega (arith, size))
same_lists (x ∷ xs) (y ∷ ys) size each =
    ap (λ z. z ∷ xs) (each 0 x y refl refl) ∙ ap (λ zs. y ∷ zs) (same_lists xs ys (omega (arith, size)) (λ k u v here there. each (suc k) u v here there))

-- all, by what is there
pub all_there : {A : Type 0} (P : A → Type 0) (xs : List A) → ((k : ℕ) (x : A) → slice_get xs k ≡ Some x → P x) → All P xs
all_there P [] each = All-nil P
all_there P (x ∷ xs) each = All-cons P x xs (each 0 x refl) (all_there P xs (λ k y there. each (suc k) y there))

-- where no number has fallen, no more is left
pub sums_fall : (budget : ℕ) (xs ys : List ℕ) → length xs ≡ length ys → ((k x y : ℕ) → slice_get xs k ≡ Some x → slice_get ys k ≡ Some y → x ≤ y) → sum_by (λ n. budget - n) ys ≤ sum_by (λ n. budget - n) xs
sums_fall budget [] [] size each = omega arith
sums_fall budget [] (y ∷ ys) size each = absurd (omega (arith, size))
sums_fall budget (x ∷ xs) [] size each = absurd (omega (arith, size))
sums_fall budget (x ∷ xs) (y ∷ ys) size each =
    let rest : sum_by (λ n. budget - n) ys ≤ sum_by (λ n. budget - n) xs = sums_fall budget xs ys (omega (arith, size)) (λ k u v here there. each (suc k) u v here there) in
    let head : x ≤ y = each 0 x y refl refl in
    let before : sum_by (λ n. budget - n) (x ∷ xs) ≡ (budget - x) + sum_by (λ n. budget - n) xs = sum_by-cons (λ n. budget - n) x xs in
    let after : sum_by (λ n. budget - n) (y ∷ ys) ≡ (budget - y) + sum_by (λ n. budget - n) ys = sum_by-cons (λ n. budget - n) y ys in
    omega (arith, rest, head, before, after)

-- ---- the first that passes a test

find_here : {A : Type 0} (b : Bool) (x : A) (rest : Option A) → b ≡ true → cond b (Some x) rest ≡ Some x
find_here b x rest is = rw is refl

find_later : {A : Type 0} (b : Bool) (x : A) (rest : Option A) → b ≡ false → cond b (Some x) rest ≡ rest
find_later b x rest is = rw is refl

pub find_head : {A : Type 0} (p : A → Bool) (x : A) (xs : List A) → p x ≡ false → find p (x ∷ xs) ≡ find p xs
find_head p x xs is = find_later (p x) x (find p xs) is

pub find_first : {A : Type 0} (p : A → Bool) (xs : List A) (k : ℕ) (x : A) → slice_get xs k ≡ Some x → p x ≡ true → ((i : ℕ) (y : A) → i < k → slice_get xs i ≡ Some y → p y ≡ false) → find p xs ≡ Some x
find_first p [] k x there passes none = absurd cc
find_first p (y ∷ xs) zero x there passes none =
    let same : y ≡ x = same_value y x there in
    find_here (p y) y (find p xs) (ap p same ∙ passes) ∙ ap (λ z. Some z) same
find_first p (y ∷ xs) (suc k) x there passes none =
    find_later (p y) y (find p xs) (none 0 y (omega arith) refl) ∙ find_first p xs k x there passes (λ i z before here. none (suc i) z (omega (arith, before)) here)

pub find_nothing : {A : Type 0} (p : A → Bool) (xs : List A) → ((i : ℕ) (y : A) → slice_get xs i ≡ Some y → p y ≡ false) → find p xs ≡ None
find_nothing p [] none = refl
find_nothing p (y ∷ xs) none = find_later (p y) y (find p xs) (none 0 y refl) ∙ find_nothing p xs (λ i z here. none (suc i) z here)
