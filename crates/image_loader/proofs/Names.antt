-- Names that differ, and the whole test of symbols.
use Rattle.std.proofs.Common.{◌≡◌, ◌≢◌, ◌↔◌, ℕ, ◌+◌, ◌<◌, ◌≤◌, ◌||◌, suc, zero, Bool, true, false, cond, not, List, [], ◌∷◌, ◌++◌, length, get_or, take, map, All, Result, Ok, Err, refl, sym, ap, ◌∙◌, add-one, arith, rules}
use Rattle.std.proofs.Math.Seq.{take-suc}
use Rattle.std.proofs.lemmas.Bool.{true_from_ne_false}
use Rattle.std.proofs.lemmas.List.{get_or-take, get_or-map, length-take, length-map, map-append}
use Rattle.std.proofs.lemmas.List.Quantifiers.{all_pairs_push}
use Rattle.std.proofs.lemmas.Slice.Eq.{bytes_eq-Decides}
use Rattle.std.specs.Prelude.{IsTrue, IfOk}
use Rattle.std.specs.List.{list_any}
use Rattle.std.specs.Str.{bytes_eq}
use Rattle.xmt_base.specs.declared.values.Symbol.{Symbol}
use Rattle.xmt_isa.specs.declared.image.Image.{Image}
use Rattle.xmt_isa.specs.Symbols.{Covers}
use Rattle.xmt_isa.specs.Valid.{HasSymbols}
use Rattle.image_loader.specs.Symbols.{SymbolHolds, NamesDiffer}

-- ---- a text among others

same_eq : (t : List ℕ) → bytes_eq t t ≡ true
same_eq t = true_from_ne_false (bytes_eq t t) (λ differ. let never : t ≢ t = search (rules, bytes_eq-Decides) in never refl)

equal : (q x : List ℕ) → bytes_eq q x ≡ true → q ≡ x
equal q x same = search (rules, bytes_eq-Decides)

there_step : (q x : List ℕ) (xs : List (List ℕ)) (b : Bool) → bytes_eq q x ≡ b → (b || list_any (bytes_eq q) xs) ≡ true → (list_any (bytes_eq q) xs ≡ true → (k : ℕ) × (k < length xs) × (q ≡ get_or xs k [])) → (k : ℕ) × (k < suc (length xs)) × (q ≡ get_or (x ∷ xs) k [])
there_step q x xs true same found rest = (0, omega arith, equal q x same)
there_step q x xs false same found rest = let there = rest found in (suc there.0, omega (arith, there.1), there.2)

-- a text that is found stands somewhere
there : (q : List ℕ) (xs : List (List ℕ)) → list_any (bytes_eq q) xs ≡ true → (k : ℕ) × (k < length xs) × (q ≡ get_or xs k [])
there q [] found = absurd cc
there q (x ∷ xs) found = there_step q x xs (bytes_eq q x) refl found (λ more. there q xs more)

absent_step : (q x : List ℕ) (rest b : Bool) → bytes_eq q x ≡ b → (b || rest) ≡ false → (q ≢ x) × (rest ≡ false)
absent_step q x rest true same none = absurd cc
absent_step q x rest false same none = (λ e. (let found = rw (sym e) at same in let other = same_eq q in absurd cc), none)

-- one that isn't found differs from each
absent : (q : List ℕ) (xs : List (List ℕ)) → list_any (bytes_eq q) xs ≡ false → (k : ℕ) → k < length xs → q ≢ get_or xs k []
absent q [] none k within = absurd (omega (arith, within))
absent q (x ∷ xs) none zero within = (absent_step q x (list_any (bytes_eq q) xs) (bytes_eq q x) refl none).0
absent q (x ∷ xs) none (suc k) within = absent q xs (absent_step q x (list_any (bytes_eq q) xs) (bytes_eq q x) refl none).1 k (omega (arith, within))

-- ---- a set of names, and the names of the first symbols

any_map : {A B : Type 0} (f : A → B) (p : B → Bool) (xs : List A) → list_any (λ x. p (f x)) xs ≡ list_any p (map f xs)
any_map f p [] = refl
any_map f p (x ∷ xs) = rw (any_map f p xs) refl

pub new_is : {V : Type 0} (f : V → List ℕ) (old : List V) (k : V) (new : Bool) → new ≡ not (list_any (λ x. bytes_eq (f k) (f x)) old) → new ≡ not (list_any (bytes_eq (f k)) (map f old))
new_is f old k new is = is ∙ ap not (any_map f (bytes_eq (f k)) old)

not_back : (b : Bool) → true ≡ not b → b ≡ false
not_back true e = cc
not_back false e = refl

not_back_false : (b : Bool) → false ≡ not b → b ≡ true
not_back_false true e = refl
not_back_false false e = cc

-- a key that is new goes last
pub goes_last : {V : Type 0} (f : V → List ℕ) (old now : List V) (k : V) (new : Bool) → now ≡ cond (list_any (λ x. bytes_eq (f k) (f x)) old) old (old ++ k ∷ []) → new ≡ not (list_any (λ x. bytes_eq (f k) (f x)) old) → new ≡ true → map f now ≡ map f old ++ f k ∷ []
goes_last f old now k new is was passes =
    let none = not_back (list_any (λ x. bytes_eq (f k) (f x)) old) (sym passes ∙ was) in
    rw (is, none) (map-append f old (k ∷ []))

name_at : (symbols : List Symbol) (i k : ℕ) (d : Symbol) → k < i → i ≤ length symbols → get_or (map (λ s. s.name) (take i symbols)) k [] ≡ (get_or symbols k d).name
name_at symbols i k d below within =
    get_or-map (λ (s : Symbol). s.name) (take i symbols) k d [] (omega (arith, length-take i symbols, below, within)) ∙ ap (λ (s : Symbol). s.name) (get_or-take i symbols k d below)

-- one more name that isn't among those before
pub differ_more : (symbols : List Symbol) (i : ℕ) (d : Symbol) → i < length symbols → list_any (bytes_eq (get_or symbols i d).name) (map (λ s. s.name) (take i symbols)) ≡ false → NamesDiffer (take i symbols) → NamesDiffer (take (i + 1) symbols)
differ_more symbols i d here none before =
    let more : take (i + 1) symbols ≡ take i symbols ++ get_or symbols i d ∷ [] = rw add-one (take-suc symbols i d here) in
    rw more (all_pairs_push (λ (s t : Symbol). s.name ≢ t.name) (take i symbols) (get_or symbols i d) before (λ k e within.
    let below : k < i = omega (arith, length-take i symbols, within) in
    let count : k < length (map (λ (s : Symbol). s.name) (take i symbols)) = rw length-map within in
    let differ = absent (get_or symbols i d).name (map (λ (s : Symbol). s.name) (take i symbols)) none k count in
    let name = get_or-map (λ (s : Symbol). s.name) (take i symbols) k e [] within in
    λ same. differ (sym same ∙ sym name)))

-- a name that is among those before
pub differ_failed : (symbols : List Symbol) (i : ℕ) (d : Symbol) → i < length symbols → list_any (bytes_eq (get_or symbols i d).name) (map (λ s. s.name) (take i symbols)) ≡ true → ¬ NamesDiffer symbols
differ_failed symbols i d here found differ =
    let at = there (get_or symbols i d).name (map (λ (s : Symbol). s.name) (take i symbols)) found in
    let count : at.0 < length (take i symbols) = rw length-map at at.1 in
    let below : at.0 < i = omega (arith, length-take i symbols, count) in
    differ at.0 i d below here (sym (name_at symbols i at.0 d below (omega (arith, here))) ∙ sym at.2)

-- the set of names, one name later
pub names_more : (symbols : List Symbol) (i : ℕ) (d : Symbol) (old now : List (List ℕ)) (name : List ℕ) (new : Bool) → i < length symbols → name ≡ (get_or symbols i d).name → old ≡ map (λ s. s.name) (take i symbols) → new ≡ not (list_any (bytes_eq name) old) → (new ≡ true → now ≡ old ++ name ∷ []) → new ≡ true → NamesDiffer (take i symbols)
    → (now ≡ map (λ s. s.name) (take (i + 1) symbols)) × NamesDiffer (take (i + 1) symbols)
names_more symbols i d old now name new here named keys is next passes before =
    let none : list_any (bytes_eq (get_or symbols i d).name) (map (λ (s : Symbol). s.name) (take i symbols)) ≡ false = rw (← named, ← keys) (not_back (list_any (bytes_eq name) old) (sym passes ∙ is)) in
    let more : take (i + 1) symbols ≡ take i symbols ++ get_or symbols i d ∷ [] = rw add-one (take-suc symbols i d here) in
    let grown : map (λ (s : Symbol). s.name) (take (i + 1) symbols) ≡ map (λ (s : Symbol). s.name) (take i symbols) ++ (get_or symbols i d).name ∷ [] = ap (map (λ (s : Symbol). s.name)) more ∙ map-append (λ (s : Symbol). s.name) (take i symbols) (get_or symbols i d ∷ []) in
    (next passes ∙ rw (keys, named) (sym grown), differ_more symbols i d here none before)

pub names_failed : (symbols : List Symbol) (i : ℕ) (d : Symbol) (old : List (List ℕ)) (name : List ℕ) (new : Bool) → i < length symbols → name ≡ (get_or symbols i d).name → old ≡ map (λ s. s.name) (take i symbols) → new ≡ not (list_any (bytes_eq name) old) → new ≡ false → ¬ NamesDiffer symbols
names_failed symbols i d old name new here named keys is failed =
    differ_failed symbols i d here (rw (← named, ← keys) (not_back_false (list_any (bytes_eq name) old) (sym failed ∙ is)))

-- ---- the whole test

pub fits_of : (image : Image) → HasSymbols image → All SymbolHolds image.symbols
fits_of image h = λ k d lt. (h.are.names k d lt, h.short k d lt, h.some k d lt)

pub have_symbols : (image : Image) → All SymbolHolds image.symbols → Covers 0 image.symbols (length image.words) → NamesDiffer image.symbols → HasSymbols image
have_symbols image each cover differ = record {
  are = record { names = λ k d lt. (each k d lt).0; differ = differ; cover = cover };
  short = λ k d lt. (each k d lt).1;
  some = λ k d lt. (each k d lt).2;
}

pub by_names : {E : Type 0} (image : Image) (answer : Result Bool E) → All SymbolHolds image.symbols → Covers 0 image.symbols (length image.words) → IfOk answer (λ differ. IsTrue differ ↔ NamesDiffer image.symbols) → IfOk answer (λ all. IsTrue all ↔ HasSymbols image)
by_names image (Ok differ) each cover same = (λ e. have_symbols image each cover (same.0 e), λ h. same.1 h.are.differ)
by_names image (Err e) each cover same = tt
