-- The words of a machine, widened and narrowed.
use Rattle.std.proofs.Common.{◌≡◌, refl, sym, ap, ◌∙◌, ℕ, zero, suc, ◌+◌, ◌%◌, ◌^◌, ◌<◌, ◌≤◌, nat_lt, Bool, true, false, List, [], ◌∷◌, ◌++◌, length, slice_index, slice_set, arith}
use Rattle.std.proofs.lemmas.Bool.Decides.{nat_tests}
use Rattle.std.proofs.lemmas.List.{length-set, length-append, get_or-set_same, get_or-set_other}
use Rattle.threaded_runs.specs.Words.{Widens, Narrows}

-- ---- places

index-same : (xs : List ℕ) (d x : ℕ) → d < length xs → slice_index (slice_set xs d x) d ≡ x
index-same xs d x inside = get_or-set_same xs d x 0 inside

index-other : (xs : List ℕ) (d x i : ℕ) → (d ≡ i → ⊥) → slice_index (slice_set xs d x) i ≡ slice_index xs i
index-other xs d x i differ = get_or-set_other xs d i x 0 (λ e. differ (sym e))

pub index-past : (xs : List ℕ) (i : ℕ) → length xs ≤ i → slice_index xs i ≡ 0
index-past [] i past = refl
index-past (y ∷ xs) zero past = absurd (omega (arith, past))
index-past (y ∷ xs) (suc i) past = index-past xs i (omega (arith, past))

push_before : (xs : List ℕ) (x i : ℕ) → i < length xs → slice_index (xs ++ x ∷ []) i ≡ slice_index xs i
push_before [] x i inside = absurd (omega (arith, inside))
push_before (y ∷ xs) x zero inside = refl
push_before (y ∷ xs) x (suc i) inside = push_before xs x i (omega (arith, inside))

push_last : (xs : List ℕ) (x i : ℕ) → i ≡ length xs → slice_index (xs ++ x ∷ []) i ≡ x
push_last [] x i is = rw is refl
push_last (y ∷ xs) x zero is = absurd (omega (arith, is))
push_last (y ∷ xs) x (suc i) is = push_last xs x i (omega (arith, is))

-- ---- widened

-- the first so many are widened
pub record WidensTo (words wide : List ℕ) (n : ℕ) : Type 0 where
  pub size : length wide ≡ n
  pub far : 4 ≤ n
  pub zeros : (place : ℕ) → place < 4 → slice_index wide place ≡ 0
  pub each : (place : ℕ) → 4 ≤ place → place < n → slice_index wide place ≡ slice_index words place

zeros_of_four : (place : ℕ) → place < 4 → slice_index (0 ∷ 0 ∷ 0 ∷ 0 ∷ []) place ≡ 0
zeros_of_four zero inside = refl
zeros_of_four (suc zero) inside = refl
zeros_of_four (suc (suc zero)) inside = refl
zeros_of_four (suc (suc (suc zero))) inside = refl
zeros_of_four (suc (suc (suc (suc n)))) inside = absurd (omega (arith, inside))

pub widens_first : (words wide : List ℕ) → wide ≡ 0 ∷ 0 ∷ 0 ∷ 0 ∷ [] → WidensTo words wide 4
widens_first words wide is = record {
  size = ap length is;
  far = omega arith;
  zeros = λ place inside. ap (λ xs. slice_index xs place) is ∙ zeros_of_four place inside;
  each = λ place far near. absurd (omega (arith, far, near));
}

pub widens_push : (words wide new : List ℕ) (n w : ℕ) → WidensTo words wide n → w ≡ slice_index words n → new ≡ wide ++ w ∷ [] → WidensTo words new (n + 1)
widens_push words wide new n w before is made =
    let size : length wide ≡ n = before.size in
    let far : 4 ≤ n = before.far in
    record {
      size = ap length made ∙ length-append wide (w ∷ []) ∙ omega (arith, size);
      far = omega (arith, far);
      zeros = λ place inside. ap (λ xs. slice_index xs place) made ∙ push_before wide w place (omega (arith, size, far, inside)) ∙ before.zeros place inside;
      each = λ place later near. by_test place later near (nat_lt place n) refl;
    }
  where
    by_test : (place : ℕ) → 4 ≤ place → place < n + 1 → (b : Bool) → nat_lt place n ≡ b → slice_index new place ≡ slice_index words place
    by_test place later near true e =
        let inside : place < n = grind (arith, nat_tests, e) in
        let size : length wide ≡ n = before.size in
        ap (λ xs. slice_index xs place) made ∙ push_before wide w place (omega (arith, size, inside)) ∙ before.each place later inside
    by_test place later near false e =
        let past : n ≤ place = grind (arith, nat_tests, e) in
        let size : length wide ≡ n = before.size in
        let here : place ≡ n = omega (arith, past, near) in
        ap (λ xs. slice_index xs place) made ∙ push_last wide w place (omega (arith, size, here)) ∙ is ∙ ap (slice_index words) (sym here)

pub widens_end : (words wide : List ℕ) (n : ℕ) → WidensTo words wide n → n ≡ length words → ((i : ℕ) → i < length words → slice_index words i < 4294967296) → Widens words wide
widens_end words wide n before all small = record {
  size = before.size ∙ all;
  zeros = before.zeros;
  each = λ place far. by_test place far (nat_lt place (length words)) refl;
}
  where
    by_test : (place : ℕ) → 4 ≤ place → (b : Bool) → nat_lt place (length words) ≡ b → slice_index words place ≡ slice_index wide place % 2 ^ 32
    by_test place far true e =
        let inside : place < length words = grind (arith, nat_tests, e) in
        let same : slice_index wide place ≡ slice_index words place = before.each place far (omega (arith, all, inside)) in
        let fits : slice_index words place < 4294967296 = small place inside in
        omega (arith, same, fits)
    by_test place far false e =
        let past : length words ≤ place = grind (arith, nat_tests, e) in
        let size : length wide ≡ n = before.size in
        index-past words place past ∙ ap (λ n. n % 2 ^ 32) (sym (index-past wide place (omega (arith, size, all, past))))

-- ---- narrowed

-- the first so many are narrowed, and the others as before
pub record NarrowsTo (words wide new : List ℕ) (n : ℕ) : Type 0 where
  pub size : length new ≡ length words
  pub first : (place : ℕ) → place < 4 → slice_index new place ≡ slice_index words place
  pub each : (place : ℕ) → 4 ≤ place → place < n → slice_index new place ≡ slice_index wide place % 2 ^ 32

pub narrows_first : (words wide : List ℕ) → NarrowsTo words wide words 4
narrows_first words wide = record { size = refl; first = λ place inside. refl; each = λ place far near. absurd (omega (arith, far, near)) }

pub narrows_put : (words wide now new : List ℕ) (n w : ℕ) → NarrowsTo words wide now n → 4 ≤ n → n < length words → w ≡ slice_index wide n % 2 ^ 32 → new ≡ slice_set now n w → NarrowsTo words wide new (n + 1)
narrows_put words wide now new n w before far inside is made = record {
  size = ap length made ∙ length-set now n w ∙ before.size;
  first = λ place low. ap (λ xs. slice_index xs place) made ∙ index-other now n w place (λ same. omega (arith, same, far, low)) ∙ before.first place low;
  each = λ place later near. by_test place later near (nat_lt place n) refl;
}
  where
    by_test : (place : ℕ) → 4 ≤ place → place < n + 1 → (b : Bool) → nat_lt place n ≡ b → slice_index new place ≡ slice_index wide place % 2 ^ 32
    by_test place later near true e =
        let below : place < n = grind (arith, nat_tests, e) in
        ap (λ xs. slice_index xs place) made ∙ index-other now n w place (λ same. omega (arith, same, below)) ∙ before.each place later below
    by_test place later near false e =
        let past : n ≤ place = grind (arith, nat_tests, e) in
        let here : n ≡ place = omega (arith, past, near) in
        let size : length now ≡ length words = before.size in
        ap (λ xs. slice_index xs place) made ∙ ap (slice_index (slice_set now n w)) (sym here) ∙ index-same now n w (omega (arith, size, inside)) ∙ is ∙ ap (λ k. slice_index wide k % 2 ^ 32) here

pub narrows_end : (words wide new : List ℕ) (n : ℕ) → NarrowsTo words wide new n → length words ≤ n → length wide ≡ length words → Narrows words wide new
narrows_end words wide new n before all same_size = record {
  size = before.size;
  first = before.first;
  each = λ place far. by_test place far (nat_lt place (length words)) refl;
}
  where
    by_test : (place : ℕ) → 4 ≤ place → (b : Bool) → nat_lt place (length words) ≡ b → slice_index new place ≡ slice_index wide place % 2 ^ 32
    by_test place far true e =
        let inside : place < length words = grind (arith, nat_tests, e) in
        before.each place far (omega (arith, all, inside))
    by_test place far false e =
        let past : length words ≤ place = grind (arith, nat_tests, e) in
        let size : length new ≡ length words = before.size in
        index-past new place (omega (arith, size, past)) ∙ ap (λ k. k % 2 ^ 32) (sym (index-past wide place (omega (arith, same_size, past))))
