-- The symbols of a layout and the numbers of shared variables, looked up.
use Rattle.std.proofs.Common.{◌≡◌, sym, ◌∙◌, ap, subst, refl, arith, ℕ, zero, suc, ◌+◌, ◌-◌, ◌<◌, drop, drop-cons, get_or, List, [], ◌∷◌, ◌++◌, length, replicate, Option, Some, None, append_assoc}
use Rattle.std.specs.Prelude.{slice_get}
use Rattle.std.proofs.lemmas.List.Sums.{sum_by-cons}
use Rattle.xmt_base.specs.declared.values.Symbol.{Symbol}
use Rattle.source_meaning.specs.declared.tree.GlobalVar.{GlobalVar}
use Rattle.source_meaning.specs.declared.tree.Stmt.{Stmt}
use Rattle.source_meaning.specs.Layout.{first_word, words_of, symbols_from, opening_words, all_words}
use Rattle.quad_code.specs.Functions.{outer_of}
use Rattle.lowering.specs.Emitted.{outer_below, outer_numbers}

-- what a look-up of a symbol says of the global
abbrev IsSymbolOf : List GlobalVar → (base g : ℕ) → Option Symbol → Type 0
IsSymbolOf globals base g None = (base + first_word globals g ≡ base + all_words globals) × (words_of globals g ≡ 0)
IsSymbolOf globals base g (Some s) = (s.base ≡ base + first_word globals g) × (s.length ≡ words_of globals g)

one_later : (global : GlobalVar) (globals : List GlobalVar) (base g : ℕ) (o : Option Symbol) → IsSymbolOf globals (base + global.length) g o → IsSymbolOf (global ∷ globals) base (suc g) o
one_later global globals base g None (past, none) =
    let all : all_words (global ∷ globals) ≡ global.length + all_words globals = sum_by-cons (λ (v : GlobalVar). v.length) global globals in
    (omega (arith, past, all), none)
one_later global globals base g (Some s) (first, size) = (omega (arith, first), size)

looked : (globals : List GlobalVar) (base g : ℕ) → IsSymbolOf globals base g (slice_get (symbols_from base globals) g)
looked [] base g = (refl, refl)
looked (global ∷ globals) base zero = (omega arith, refl)
looked (global ∷ globals) base (suc g) = one_later global globals base g (slice_get (symbols_from (base + global.length) globals) g) (looked globals (base + global.length) g)

module _ (globals : List GlobalVar) (symbols : List Symbol) (g : ℕ) (laid : symbols ≡ symbols_from 0 globals) where
  found : (o : Option Symbol) → slice_get symbols g ≡ o → IsSymbolOf globals 0 g o
  found o is = subst (IsSymbolOf globals 0 g) (ap (λ xs. slice_get xs g) (sym laid) ∙ is) (looked globals 0 g)

  pub first_of : (s : Symbol) → slice_get symbols g ≡ Some s → s.base ≡ first_word globals g
  first_of s is = let first = (found (Some s) is).0 in omega (arith, first)

  pub first_past : slice_get symbols g ≡ None → all_words globals ≡ first_word globals g
  first_past is = let past = (found None is).0 in omega (arith, past)

  pub size_of : (s : Symbol) → slice_get symbols g ≡ Some s → s.length ≡ words_of globals g
  size_of s is = (found (Some s) is).1

  pub size_past : slice_get symbols g ≡ None → 0 ≡ words_of globals g
  size_past is = sym (found None is).1

-- ---- shared variables

numbered : (body : List Stmt) (slot count n : ℕ) (o : Option ℕ) → slice_get (outer_below body slot count) n ≡ Some o → o ≡ outer_of body (slot + n)
numbered body slot zero n o is = absurd cc
numbered body slot (suc count) zero o is =
    let here : Some (outer_of body slot) ≡ Some o = is in
    let same : outer_of body slot ≡ o = cc in
    let at : slot + 0 ≡ slot = omega arith in
    sym same ∙ ap (outer_of body) (sym at)
numbered body slot (suc count) (suc n) o is =
    let at : suc slot + n ≡ slot + suc n = omega arith in
    numbered body (suc slot) count n o is ∙ ap (outer_of body) at

pub outer_at : (body : List Stmt) (outer : List (Option ℕ)) (slot : ℕ) (o : Option ℕ) → outer ≡ outer_numbers body (length outer) → slice_get outer slot ≡ Some o → o ≡ outer_of body slot
outer_at body outer slot o all is =
    let at : 0 + slot ≡ slot = omega arith in
    numbered body 0 (length outer) slot o (ap (λ xs. slice_get xs slot) (sym all) ∙ is) ∙ ap (outer_of body) at

-- so many numbers, and one more
below_more : (body : List Stmt) (slot count : ℕ) → outer_below body slot count ++ outer_of body (slot + count) ∷ [] ≡ outer_below body slot (count + 1)
below_more body slot zero = let at : slot + 0 ≡ slot = omega arith in ap (λ n. outer_of body n ∷ []) at
below_more body slot (suc count) =
    let at : slot + suc count ≡ suc slot + count = omega arith in
    let longer : suc (count + 1) ≡ suc count + 1 = omega arith in
    ap (λ n. outer_of body slot ∷ (outer_below body (suc slot) count ++ outer_of body n ∷ [])) at ∙ ap (λ c. outer_of body slot ∷ c) (below_more body (suc slot) count) ∙ ap (outer_below body slot) longer

below_length : (body : List Stmt) (slot count : ℕ) → length (outer_below body slot count) ≡ count
below_length body slot zero = refl
below_length body slot (suc count) = ap suc (below_length body (suc slot) count)

pub numbers_turn : (body : List Stmt) (slot : ℕ) (o : Option ℕ) (numbers more : List (Option ℕ)) → numbers ≡ outer_numbers body slot → o ≡ outer_of body slot → more ≡ numbers ++ o ∷ [] → more ≡ outer_numbers body (slot + 1)
numbers_turn body slot o numbers more given is new =
    let at : slot ≡ 0 + slot = omega arith in
    new ∙ ap (λ xs. xs ++ o ∷ []) given ∙ ap (λ o. outer_numbers body slot ++ o ∷ []) (is ∙ ap (outer_of body) at) ∙ below_more body 0 slot

pub numbers_all : (body : List Stmt) (slot : ℕ) (numbers : List (Option ℕ)) → numbers ≡ outer_numbers body slot → numbers ≡ outer_numbers body (length numbers)
numbers_all body slot numbers given = given ∙ ap (outer_numbers body) (sym (ap length given ∙ below_length body 0 slot))

-- ---- a loop over globals

front_of : (globals : List GlobalVar) (i : ℕ) (g : GlobalVar) → i < length globals → g ≡ get_or globals i g → drop i globals ≡ g ∷ drop (i + 1) globals
front_of globals i g within is =
    let front : drop i globals ≡ get_or globals i g ∷ drop (suc i) globals = drop-cons globals i g within in
    let next : suc i ≡ i + 1 = omega arith in
    front ∙ ap (λ (x : GlobalVar). x ∷ drop (suc i) globals) (sym is) ∙ ap (λ n. g ∷ drop n globals) next

pub count_turn : (globals : List GlobalVar) (i words sum : ℕ) (g : GlobalVar) → i < length globals → g ≡ get_or globals i g → sum ≡ words + g.length → words + all_words (drop i globals) ≡ all_words globals →
    sum + all_words (drop (i + 1) globals) ≡ all_words globals
count_turn globals i words sum g within is e given =
    let split : all_words (drop i globals) ≡ g.length + all_words (drop (i + 1) globals) = ap all_words (front_of globals i g within is) ∙ sum_by-cons (λ (v : GlobalVar). v.length) g (drop (i + 1) globals) in
    omega (arith, split)

pub symbols_turn : (globals : List GlobalVar) (i base next : ℕ) (symbols more : List Symbol) (s : Symbol) (g : GlobalVar) → i < length globals → g ≡ get_or globals i g →
    s ≡ record { name = g.name; base = base; length = g.length } → more ≡ symbols ++ s ∷ [] → next ≡ base + g.length →
    symbols ++ symbols_from base (drop i globals) ≡ symbols_from 0 globals → more ++ symbols_from next (drop (i + 1) globals) ≡ symbols_from 0 globals
symbols_turn globals i base next symbols more s g within is made new e given =
    let rest = drop (i + 1) globals in
    ap (λ xs. xs ++ symbols_from next rest) new ∙
    append_assoc symbols (s ∷ []) (symbols_from next rest) ∙
    ap (λ (s : Symbol). symbols ++ s ∷ symbols_from next rest) made ∙
    ap (λ n. symbols ++ record { name = g.name; base = base; length = g.length } ∷ symbols_from n rest) e ∙
    ap (λ gs. symbols ++ symbols_from base gs) (sym (front_of globals i g within is)) ∙
    given

pub words_turn : (globals : List GlobalVar) (i : ℕ) (words more : List ℕ) (g : GlobalVar) → i < length globals → g ≡ get_or globals i g →
    more ≡ words ++ (g.opening ++ replicate (g.length - length g.opening) 0) → words ++ opening_words (drop i globals) ≡ opening_words globals →
    more ++ opening_words (drop (i + 1) globals) ≡ opening_words globals
words_turn globals i words more g within is new given =
    let here = g.opening ++ replicate (g.length - length g.opening) 0 in
    ap (λ xs. xs ++ opening_words (drop (i + 1) globals)) new ∙
    append_assoc words here (opening_words (drop (i + 1) globals)) ∙
    ap (λ gs. words ++ opening_words gs) (sym (front_of globals i g within is)) ∙
    given
