-- Lists of numbers: their places, what is in them, and how many pass a test.
use Rattle.std.proofs.Common.{◌≡◌, refl, sym, ◌∙◌, ap, ap₂, subst, ℕ, suc, zero, ◌+◌, ◌<◌, ◌≤◌, ◌==◌, not, ◌&&◌, Bool, true, false, cond, List, [], ◌∷◌, map, take, drop, length, drop-cons, slice_index, arith, Option, Some, None}
use Rattle.std.specs.List.{Contains, filter_map, cons_option, range_with_len, count_by}
use Rattle.std.proofs.lemmas.List.Sums.{sum_by-cons}
use Rattle.interleaving.proofs.Interleave.{eq_of}
use Rattle.interleaving.proofs.Grows.{differs}

-- the numbers that a function gives are those of a part of a list
pub map_part : (f : ℕ → ℕ) (words : List ℕ) (count a b : ℕ) → b + count ≤ length words → ((place : ℕ) → place < count → f (a + place) ≡ slice_index words (b + place)) → map f (range_with_len a count) ≡ take count (drop b words)
map_part f words zero a b fits same = refl
map_part f words (suc n) a b fits same =
    let inside : b < length words = omega (arith, fits) in
    let on : b + 1 ≡ suc b = omega arith in
    let here : f a ≡ slice_index words b = (let a_0 : a + 0 ≡ a = omega arith in let b_0 : b + 0 ≡ b = omega arith in ap f (sym a_0) ∙ same 0 (omega arith) ∙ ap (slice_index words) b_0) in
    let rest : map f (range_with_len (a + 1) n) ≡ take n (drop (suc b) words) =
    map_part f words n (a + 1) (suc b) (omega (arith, fits)) (λ place less.
    let first : a + 1 + place ≡ a + suc place = omega arith in let second : b + suc place ≡ suc b + place = omega arith in ap f first ∙ same (suc place) (omega (arith, less)) ∙ ap (slice_index words) second) in
    ap₂ (λ x xs. x ∷ xs) here rest ∙ sym (ap (take (suc n)) (drop-cons words b 0 inside))

-- what a function gives of a number in a range is among what it gives of the range
pub contains_of : {Y : Type 0} (h : ℕ → Option Y) (y : Y) (n a k : ℕ) → a ≤ k → k < a + n → h k ≡ Some y → Contains (filter_map h (range_with_len a n)) y
contains_of h y zero a k above below is = absurd (omega (arith, above, below))
contains_of {Y} h y (suc n) a k above below is = by_test (a == k) refl (λ above below. contains_of h y n (a + 1) k above below is)
  where
    later : (o : Option Y) (ys : List Y) → Contains ys y → Contains (cons_option o ys) y
    later None ys c = c
    later (Some z) ys c = (suc c.0, (let less : c.0 < length ys = c.1 in omega (arith, less)), c.2)

    by_test : (b : Bool) → (a == k) ≡ b → (a + 1 ≤ k → k < a + 1 + n → Contains (filter_map h (range_with_len (a + 1) n)) y) → Contains (filter_map h (range_with_len a (suc n))) y
    by_test true e go =
        let same : h a ≡ Some y = ap h (eq_of a k e) ∙ is in
        subst (λ o. Contains (cons_option o (filter_map h (range_with_len (a + 1) n))) y) (sym same) (0, omega arith, refl)
    by_test false e go =
        later (h a) (filter_map h (range_with_len (a + 1) n)) (go (grind (arith, above, e)) (omega (arith, below)))

-- ---- how many pass

pub count_cons : {A : Type 0} (p : A → Bool) (x : A) (xs : List A) → count_by p (x ∷ xs) ≡ cond (p x) 1 0 + count_by p xs
count_cons p x xs = sum_by-cons (λ y. cond (p y) 1 0) x xs

count_none : (p : ℕ → Bool) → ((t : ℕ) → p t ≡ false) → (xs : List ℕ) → count_by p xs ≡ 0
count_none p none [] = refl
count_none p none (x ∷ xs) = count_cons p x xs ∙ ap₂ (λ b n. cond b 1 0 + n) (none x) (count_none p none xs)

-- one number is in a range once at most
count_later : (x n a : ℕ) → x < a → count_by (λ t. t == x) (range_with_len a n) ≡ 0
count_later x zero a less = refl
count_later x (suc n) a less =
    let test : (a == x) ≡ false = grind (arith, less) in
    count_cons (λ t. t == x) a (range_with_len (a + 1) n) ∙ ap₂ (λ b k. cond b 1 0 + k) test (count_later x n (a + 1) (omega (arith, less)))

count_same : (x n a : ℕ) → count_by (λ t. t == x) (range_with_len a n) ≤ 1
count_same x zero a = omega arith
count_same x (suc n) a = by_test (a == x) refl (count_same x n (a + 1))
  where
    rest : ℕ
    rest = count_by (λ t. t == x) (range_with_len (a + 1) n)

    by_test : (b : Bool) → (a == x) ≡ b → rest ≤ 1 → count_by (λ t. t == x) (range_with_len a (suc n)) ≤ 1
    by_test true e go =
        let later : rest ≡ 0 = count_later x n (a + 1) (let same : a ≡ x = eq_of a x e in omega (arith, same)) in
        let all : count_by (λ t. t == x) (range_with_len a (suc n)) ≡ cond (a == x) 1 0 + rest = count_cons (λ t. t == x) a (range_with_len (a + 1) n) in
        let here : ◌≡◌ {A = ℕ} (cond (a == x) 1 0) 1 = ap (λ b. cond b 1 0) e in
        omega (arith, all, later, here)
    by_test false e go =
        let all : count_by (λ t. t == x) (range_with_len a (suc n)) ≡ cond (a == x) 1 0 + rest = count_cons (λ t. t == x) a (range_with_len (a + 1) n) in
        let here : ◌≡◌ {A = ℕ} (cond (a == x) 1 0) 0 = ap (λ b. cond b 1 0) e in
        omega (arith, all, go, here)

-- without those that are one number
count_but : (p : ℕ → Bool) (x : ℕ) (xs : List ℕ) → count_by p xs ≤ count_by (λ t. p t && not (t == x)) xs + count_by (λ t. t == x) xs
count_but p x [] = omega arith
count_but p x (t ∷ xs) =
    let rest : count_by p xs ≤ count_by (λ t. p t && not (t == x)) xs + count_by (λ t. t == x) xs = count_but p x xs in
    let all : count_by p (t ∷ xs) ≡ cond (p t) 1 0 + count_by p xs = count_cons p t xs in
    let but : count_by (λ t. p t && not (t == x)) (t ∷ xs) ≡ cond (p t && not (t == x)) 1 0 + count_by (λ t. p t && not (t == x)) xs = count_cons (λ t. p t && not (t == x)) t xs in
    let same : count_by (λ t. t == x) (t ∷ xs) ≡ cond (t == x) 1 0 + count_by (λ t. t == x) xs = count_cons (λ t. t == x) t xs in
    let one : cond (p t) 1 0 ≤ cond (p t && not (t == x)) 1 0 + cond (t == x) 1 0 = by_tests (p t) (t == x) in
    omega (arith, rest, all, but, same, one)
  where
    by_tests : (a b : Bool) → cond a 1 0 ≤ cond (a && not b) 1 0 + cond b 1 0
    by_tests true true = omega arith
    by_tests true false = omega arith
    by_tests false true = omega arith
    by_tests false false = omega arith

both_of : (a b : Bool) → (a && not b) ≡ true → (a ≡ true) × (b ≡ false)
both_of true true h = cc
both_of true false h = (refl, refl)
both_of false b h = cc

-- how many numbers of a range pass, where each is what a function gives of a number below n
pub count_covered : (n : ℕ) (r : ℕ → ℕ) (p : ℕ → Bool) (a m : ℕ) → ((t : ℕ) → p t ≡ true → (place : ℕ) × (place < n) × (r place ≡ t)) → count_by p (range_with_len a m) ≤ n
count_covered zero r p a m covered = (let none : count_by p (range_with_len a m) ≡ 0 = count_none p (λ t. by_test t (p t) refl) (range_with_len a m) in omega (arith, none))
  where
    by_test : (t : ℕ) (b : Bool) → p t ≡ b → b ≡ false
    by_test t true e = let c = covered t e in absurd (let less : c.0 < 0 = c.1 in omega (arith, less))
    by_test t false e = refl
count_covered (suc n) r p a m covered =
    let fewer : count_by (λ t. p t && not (t == r n)) (range_with_len a m) ≤ n =
    count_covered n r (λ t. p t && not (t == r n)) a m (λ t passes.
    let both = both_of (p t) (t == r n) passes in
    let c = covered t both.0 in
    (c.0, below c.0 t c.1 c.2 both.1, c.2)) in
    let one : count_by (λ t. t == r n) (range_with_len a m) ≤ 1 = count_same (r n) m a in
    let all : count_by p (range_with_len a m) ≤ count_by (λ t. p t && not (t == r n)) (range_with_len a m) + count_by (λ t. t == r n) (range_with_len a m) = count_but p (r n) (range_with_len a m) in
    omega (arith, fewer, one, all)
  where
    below : (place t : ℕ) → place < suc n → r place ≡ t → (t == r n) ≡ false → place < n
    below place t less is other = by_last (place == n) refl
      where
        by_last : (b : Bool) → (place == n) ≡ b → place < n
        by_last true e = absurd (differs t (r n) other (sym is ∙ ap r (eq_of place n e)))
        by_last false e = let differ : place ≡ n → ⊥ = differs place n e in grind (arith, less, e)
