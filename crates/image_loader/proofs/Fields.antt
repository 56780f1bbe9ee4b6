-- A field that is read is the field that was written, and what was written is read again.
use Rattle.std.proofs.Common.{◌≡◌, ℕ, zero, suc, ◌+◌, ◌<◌, ◌≤◌, Bool, true, false, cond, ltb, List, [], ◌∷◌, ◌++◌, length, All, get_or, take, drop, Result, Ok, Err, refl, sym, ap, subst, ◌∙◌, append_assoc, arith, inl, inr}
use Rattle.std.specs.List.{flat_map}
use Rattle.std.proofs.lemmas.List.Elements.{All-cons}
use Rattle.std.specs.Int.{w32, from_le_bytes}
use Rattle.std.proofs.lemmas.Bool.{cases_lt, ltb-false, le-ltb}
use Rattle.std.proofs.lemmas.List.{take_at, drop_at, take-append-drop, length-append, length-take, get_or-drop, get_or-take, get_or_past}
use Rattle.std.proofs.lemmas.List.Concat.{flat_map-cons}
use Rattle.std.proofs.lemmas.Nat.{le_bytes_4}
use Rattle.byteorder.specs.Endian.{little_number}
use Rattle.byteorder.specs.Numbers.{little_from-take, little_from-lt, little_number-reads_back}
use Rattle.image_loader.specs.declared.refusal.LoadKind.{LoadKind}
use Rattle.image_loader.specs.declared.refusal.LoadKind.TheVariants.{Short}
use Rattle.image_loader.specs.Layout.{number, text, IsWord, TextFits}
use Rattle.image_loader.specs.Reading.{◌>>=◌, Reader, number_at, text_at, items_at}

abbrev pub IsBytes : List ℕ → Type 0
IsBytes bytes = (i : ℕ) → get_or bytes i 0 < 256

pub IsBytes-drop : (n : ℕ) (bytes : List ℕ) → IsBytes bytes → IsBytes (drop n bytes)
IsBytes-drop n bytes h i = rw get_or-drop (h (n + i))

pub IsBytes-take : (n : ℕ) (bytes : List ℕ) → IsBytes bytes → IsBytes (take n bytes)
IsBytes-take n bytes h i =
    elim (cases_lt i n) [
      | inl lt ↦ rw (get_or-take n bytes i 0 lt) (h i)
      | inr le ↦ rw (get_or_past (take n bytes) i 0 (omega (arith, length-take n bytes))) (omega arith)
    ]

-- the value of a step that did not fail
pub bind_ok : {A B : Type 0} (r : Result A LoadKind) (f : A → Result B LoadKind) (y : B) → (r >>= f) ≡ Ok y → (x : A) × (r ≡ Ok x) × (f x ≡ Ok y)
bind_ok (Ok x) f y e = (x, refl, e)
bind_ok (Err d) f y e = absurd cc

-- a test that did not fail
pub guard_ok : {A : Type 0} (b : Bool) (d : LoadKind) (x y : A) → cond b (Err d) (Ok x) ≡ Ok y → (b ≡ false) × (x ≡ y)
guard_ok true d x y e = absurd cc
guard_ok false d x y e = (refl, cc)

abbrev done : {A : Type 0} → A → Result A LoadKind
done x = Ok x

pub ok_is : {A : Type 0} (x y : A) → done x ≡ done y → x ≡ y
ok_is x y e = cc

-- what a reader took from the front
pub record Takes (bytes text rest : List ℕ) : Type 0 where
  pub parts : bytes ≡ text ++ rest
  pub rest_fits : IsBytes rest

pub Takes-then : (a x b y c : List ℕ) → Takes a x b → Takes b y c → Takes a (x ++ y) c
Takes-then a x b y c p q = record { parts = p.parts ∙ ap (λ (t : List ℕ). x ++ t) q.parts ∙ sym (append_assoc x y c); rest_fits = q.rest_fits }

-- a reader reads exactly what is spelled so, of the values that fit
pub record Reads {A : Type 0} (item : Reader A) (spell : A → List ℕ) (F : A → Type 0) : Type 0 where
  pub takes : (bytes : List ℕ) (x : A × List ℕ) → IsBytes bytes → item bytes ≡ Ok x → Takes bytes (spell x.0) x.1 × F x.0
  pub again : (x : A) (rest : List ℕ) → F x → item (spell x ++ rest) ≡ Ok (x, rest)

-- a step of reading, and what comes after it
pub record Step {A B : Type 0} (spell : A → List ℕ) (F : A → Type 0) (bytes : List ℕ) (f : A × List ℕ → Result B LoadKind) (y : B) : Type 0 where
  pub x : A
  pub rest : List ℕ
  pub takes : Takes bytes (spell x) rest
  pub fits : F x
  pub later : f (x, rest) ≡ Ok y

pub step : {A B : Type 0} (item : Reader A) (spell : A → List ℕ) (F : A → Type 0) → Reads item spell F → (bytes : List ℕ) (f : A × List ℕ → Result B LoadKind) (y : B) → IsBytes bytes → (item bytes >>= f) ≡ Ok y → Step spell F bytes f y
step item spell F reads bytes f y fits e =
    let a = bind_ok (item bytes) f y e in
    let t = reads.takes bytes a.0 fits a.1 in
    record { x = a.0.0; rest = a.0.1; takes = t.0; fits = t.1; later = a.2 }

-- what was written is read, and then what comes after it
pub step_again : {A B : Type 0} (item : Reader A) (spell : A → List ℕ) (F : A → Type 0) → Reads item spell F → (x : A) (tail rest : List ℕ) (f : A × List ℕ → Result B LoadKind) → F x → (item ((spell x ++ tail) ++ rest) >>= f) ≡ f (x, tail ++ rest)
step_again item spell F reads x tail rest f fits =
    let e : item ((spell x ++ tail) ++ rest) ≡ Ok (x, tail ++ rest) = ap item (append_assoc (spell x) tail rest) ∙ reads.again x (tail ++ rest) fits in
    rw e refl

pub last_again : {A B : Type 0} (item : Reader A) (spell : A → List ℕ) (F : A → Type 0) → Reads item spell F → (x : A) (rest : List ℕ) (f : A × List ℕ → Result B LoadKind) → F x → (item (spell x ++ rest) >>= f) ≡ f (x, rest)
last_again item spell F reads x rest f fits = rw (reads.again x rest fits) refl

-- ---- numbers

number_back : (bytes : List ℕ) → 4 ≤ length bytes → IsBytes bytes → number (little_number 4 bytes) ≡ take 4 bytes
number_back bytes long fits =
    let same : little_number 4 bytes ≡ from_le_bytes w32 (take 4 bytes) = sym (little_from-take 0 4 4 bytes (omega arith)) ∙ omega arith in
    le_bytes_4 (take 4 bytes) (little_number 4 bytes) (omega (arith, length-take 4 bytes)) (IsBytes-take 4 bytes fits) same

number_takes : (bytes : List ℕ) (x : ℕ × List ℕ) → IsBytes bytes → number_at bytes ≡ Ok x → Takes bytes (number x.0) x.1 × IsWord x.0
number_takes bytes x fits e =
    let g = guard_ok (ltb (length bytes) 4) Short (little_number 4 bytes, drop 4 bytes) x e in
    let long : 4 ≤ length bytes = ltb-false _ _ g.0 in
    let whole : Takes bytes (number (little_number 4 bytes)) (drop 4 bytes) = record { parts = sym (take-append-drop 4 bytes) ∙ ap (λ (front : List ℕ). front ++ drop 4 bytes) (sym (number_back bytes long fits)); rest_fits = IsBytes-drop 4 bytes fits } in
    subst (λ (p : ℕ × List ℕ). Takes bytes (number p.0) p.1 × IsWord p.0) g.1 (whole, little_from-lt 0 4 bytes fits)

number_again : (n : ℕ) (rest : List ℕ) → IsWord n → number_at (number n ++ rest) ≡ Ok (n, rest)
number_again n rest lt =
    let long : ltb (length (number n ++ rest)) 4 ≡ false = le-ltb _ _ (omega (arith, length-append (number n) rest)) in
    rw long (ap (λ (m : ℕ). done (m, rest)) (little_number-reads_back 4 n rest lt))

pub number_reads : Reads number_at number IsWord
number_reads = record { takes = number_takes; again = number_again }

-- ---- texts

text_takes : (bytes : List ℕ) (x : List ℕ × List ℕ) → IsBytes bytes → text_at bytes ≡ Ok x → Takes bytes (text x.0) x.1 × TextFits x.0
unfolding text_at
text_takes bytes x fits e =
    let n = step number_at number IsWord number_reads bytes (λ n. cond (ltb (length n.1) n.0) (Err Short) (Ok (take n.0 n.1, drop n.0 n.1))) x fits e in
    let g = guard_ok (ltb (length n.rest) n.x) Short (take n.x n.rest, drop n.x n.rest) x n.later in
    let long : n.x ≤ length n.rest = ltb-false _ _ g.0 in
    let len : length (take n.x n.rest) ≡ n.x = omega (arith, length-take n.x n.rest) in
    let second : Takes n.rest (take n.x n.rest) (drop n.x n.rest) = record { parts = sym (take-append-drop n.x n.rest); rest_fits = IsBytes-drop n.x n.rest n.takes.rest_fits } in
    let both = Takes-then bytes (number n.x) n.rest (take n.x n.rest) (drop n.x n.rest) n.takes second in
    let whole : Takes bytes (text (take n.x n.rest)) (drop n.x n.rest) = subst (λ (k : ℕ). Takes bytes (number k ++ take n.x n.rest) (drop n.x n.rest)) (sym len) both in
    subst (λ (p : List ℕ × List ℕ). Takes bytes (text p.0) p.1 × TextFits p.0) g.1 (whole, omega (arith, n.fits))

text_again : (bytes rest : List ℕ) → TextFits bytes → text_at (text bytes ++ rest) ≡ Ok (bytes, rest)
unfolding text_at
text_again bytes rest lt =
    let long : ltb (length (bytes ++ rest)) (length bytes) ≡ false = le-ltb _ _ (omega (arith, length-append bytes rest)) in
    step_again number_at number IsWord number_reads (length bytes) bytes rest (λ n. cond (ltb (length n.1) n.0) (Err Short) (Ok (take n.0 n.1, drop n.0 n.1))) lt
    ∙ rw (long, take_at bytes rest (length bytes) refl, drop_at bytes rest (length bytes) refl) refl

pub text_reads : Reads text_at text TextFits
text_reads = record { takes = text_takes; again = text_again }

-- ---- items one behind the other

items_take : {A : Type 0} (item : Reader A) (spell : A → List ℕ) (F : A → Type 0) → Reads item spell F → (n : ℕ) (bytes : List ℕ) (x : List A × List ℕ) → IsBytes bytes → items_at item n bytes ≡ Ok x → Takes bytes (flat_map spell x.0) x.1 × ((length x.0 ≡ n) × All F x.0)
unfolding items_at
items_take {A = A} item spell F reads zero bytes x fits e =
    subst (λ (y : List A × List ℕ). Takes bytes (flat_map spell y.0) y.1 × ((length y.0 ≡ 0) × All F y.0)) (ok_is ([], bytes) x e) (record { parts = refl; rest_fits = fits }, (refl, λ k d lt. absurd (omega (arith, lt))))
items_take {A = A} item spell F reads (suc n) bytes x fits e =
    let a = step item spell F reads bytes (λ first. items_at item n first.1 >>= λ others. Ok (first.0 ∷ others.0, others.1)) x fits e in
    let b = bind_ok (items_at item n a.rest) (λ others. Ok (a.x ∷ others.0, others.1)) x a.later in
    let second = items_take item spell F reads n a.rest b.0 a.takes.rest_fits b.1 in
    let both = Takes-then bytes (spell a.x) a.rest (flat_map spell b.0.0) b.0.1 a.takes second.0 in
    let made : List A × List ℕ = (a.x ∷ b.0.0, b.0.1) in
    subst (λ (y : List A × List ℕ). Takes bytes (flat_map spell y.0) y.1 × ((length y.0 ≡ suc n) × All F y.0)) (ok_is made x b.2) (rw flat_map-cons both, (ap suc second.1.0, All-cons F a.x b.0.0 a.fits second.1.1))

items_again : {A : Type 0} (item : Reader A) (spell : A → List ℕ) (F : A → Type 0) → Reads item spell F → (xs : List A) (rest : List ℕ) → All F xs → items_at item (length xs) (flat_map spell xs ++ rest) ≡ Ok (xs, rest)
unfolding items_at
items_again item spell F reads [] rest fits = refl
items_again item spell F reads (x ∷ xs) rest fits =
    step_again item spell F reads x (flat_map spell xs) rest (λ first. items_at item (length xs) first.1 >>= λ others. Ok (first.0 ∷ others.0, others.1)) (fits 0 x (omega arith))
    ∙ rw (items_again item spell F reads xs rest (λ k d lt. fits (suc k) d (omega (arith, lt)))) refl

-- so many items, each of which fits
abbrev pub Counted : {A : Type 0} → (A → Type 0) → ℕ → List A → Type 0
Counted F n xs = (length xs ≡ n) × All F xs

pub items_read : {A : Type 0} (item : Reader A) (spell : A → List ℕ) (F : A → Type 0) → Reads item spell F → (n : ℕ) → Reads (items_at item n) (flat_map spell) (Counted F n)
items_read {A = A} item spell F reads n = record {
  takes = items_take item spell F reads n;
  again = λ xs rest fits. ap (λ (m : ℕ). items_at item m (flat_map spell xs ++ rest)) (sym fits.0) ∙ items_again item spell F reads xs rest fits.1;
}
