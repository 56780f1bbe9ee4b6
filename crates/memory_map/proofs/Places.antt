-- The places of symbols.
use Rattle.std.proofs.Common.{◌≡◌, ◌≢◌, ℕ, ◌+◌, ◌<◌, ◌≤◌, suc, zero, false, List, [], ◌∷◌, length, get_or, take, drop, map, slice_get, slice_set, AllPairs, Some, None, Ok, Err, refl, sym, ◌∙◌, ap, arith, rules, drop-cons, add-one, ◌++◌}
use Rattle.std.proofs.Math.Seq.{take-suc}
use Rattle.std.proofs.lemmas.Bool.{false_from_ne_true}
use Rattle.std.proofs.lemmas.List.{get_or-take, get_or-map, length-take, length-map}
use Rattle.std.proofs.lemmas.Option.{slice_get_within, get_or_from_slice_get}
use Rattle.std.proofs.lemmas.Slice.Eq.{bytes_eq-Decides}
use Rattle.std.specs.List.{list_any}
use Rattle.std.specs.Str.{bytes_eq}
use Rattle.memory_map.specs.declared.read.MapRefusal.{MapRefusal}
use Rattle.memory_map.specs.declared.read.MapRefusal.TheVariants.{BadLine, UnknownName, DoubleName, TooManyValues, BadNumber, NoMemory}
use Rattle.memory_map.specs.Words.{value_of, words_of}
use Rattle.xmt_base.specs.declared.values.Symbol.{Symbol}
use Rattle.xmt_isa.specs.Symbols.{Covers}
use Rattle.memory_map.specs.MapText.{IsRefused, read_text, put_values, read_line, read_lines}
use Rattle.memory_map.specs.declared.read.Reading.{Reading}

pub differ_false : (a b : List ℕ) → b ≢ a → bytes_eq a b ≡ false
differ_false a b differ = false_from_ne_true (bytes_eq a b) (λ same. let equal : a ≡ b = search (rules, bytes_eq-Decides) in differ (sym equal))

-- a text isn't among texts that differ from it
none_any : (q : List ℕ) (xs : List (List ℕ)) → ((i : ℕ) → i < length xs → get_or xs i [] ≢ q) → list_any (bytes_eq q) xs ≡ false
none_any q [] differ = refl
none_any q (x ∷ xs) differ =
    rw (differ_false q x (differ 0 (omega arith))) (none_any q xs (λ i within. differ (suc i) (omega (arith, within))))

-- symbols don't go back
pub covers_le : (from : ℕ) (ss : List Symbol) (to : ℕ) → Covers from ss to → from ≤ to
covers_le from [] to cover = omega (arith, cover)
covers_le from (s ∷ ss) to cover = omega (arith, covers_le (from + s.length) ss to cover.1)

-- each symbol lies within the words
pub covers_within : (from : ℕ) (ss : List Symbol) (to k : ℕ) (d : Symbol) → Covers from ss to → k < length ss → (get_or ss k d).base + (get_or ss k d).length ≤ to
covers_within from [] to k d cover here = absurd (omega (arith, here))
covers_within from (s ∷ ss) to zero d cover here = omega (arith, cover.0, covers_le (from + s.length) ss to cover.1)
covers_within from (s ∷ ss) to (suc k) d cover here = covers_within (from + s.length) ss to k d cover.1 (omega (arith, here))

pub covers_at : (ss : List Symbol) (to : ℕ) → Covers 0 ss to → (k : ℕ) (s : Symbol) → slice_get ss k ≡ Some s → s.base + s.length ≤ to
covers_at ss to cover k s found = omega (arith, covers_within 0 ss to k s cover (slice_get_within ss k s found), ap (λ (s : Symbol). s.base + s.length) (get_or_from_slice_get ss k s s found))

-- a refusal that is no want of memory is that of the text
pub refused : (bytes : List ℕ) (symbols : List Symbol) (words : List ℕ) (fault : MapRefusal) → read_text symbols words bytes ≡ Err fault → IsRefused bytes symbols words fault
refused bytes symbols words (BadLine n) same = same
refused bytes symbols words (UnknownName n) same = same
refused bytes symbols words (DoubleName n) same = same
refused bytes symbols words (TooManyValues n) same = same
refused bytes symbols words (BadNumber n) same = same
refused bytes symbols words NoMemory same = tt

-- no name before stands at this place
pub new_name : (symbols : List Symbol) (k : ℕ) (d : Symbol) → AllPairs (λ s t. s.name ≢ t.name) symbols → k < length symbols → list_any (bytes_eq (get_or symbols k d).name) (take k (map (λ s. s.name) symbols)) ≡ false
new_name symbols k d differ here = none_any (get_or symbols k d).name (take k (map (λ s. s.name) symbols)) (λ i within.
    let below : i < k = omega (arith, length-take k (map (λ (s : Symbol). s.name) symbols), within) in
    let name : get_or (take k (map (λ (s : Symbol). s.name) symbols)) i [] ≡ (get_or symbols i d).name = get_or-take k (map (λ (s : Symbol). s.name) symbols) i [] below ∙ get_or-map (λ (s : Symbol). s.name) symbols i d [] (omega (arith, below, here)) in
    λ same. differ i k d below here (sym name ∙ same))

-- the text at a place is a value
pub put_step : (at : ℕ) (words : List ℕ) (texts : List (List ℕ)) (k : ℕ) (value : ℕ) → k < length texts → value_of (get_or texts k []) ≡ Some value → put_values at words (drop k texts) ≡ put_values (at + 1) (slice_set words at value) (drop (k + 1) texts)
put_step at words texts k value here is = rw (drop-cons texts k [] here, is, add-one k) refl

-- or it is none
pub put_stop : (at : ℕ) (words : List ℕ) (texts : List (List ℕ)) (k : ℕ) → k < length texts → value_of (get_or texts k []) ≡ None → put_values at words (drop k texts) ≡ None
put_stop at words texts k here is = rw (drop-cons texts k [] here, is) refl

-- one more name
pub name_more : (symbols : List Symbol) (k : ℕ) (d : Symbol) → k < length symbols → take (k + 1) (map (λ s. s.name) symbols) ≡ take k (map (λ s. s.name) symbols) ++ (get_or symbols k d).name ∷ []
name_more symbols k d here = rw add-one (take-suc (map (λ (s : Symbol). s.name) symbols) k [] (rw length-map here) ∙ ap (λ name. take k (map (λ (s : Symbol). s.name) symbols) ++ name ∷ []) (get_or-map (λ (s : Symbol). s.name) symbols k d [] here))

-- the first line's fault is that of the lines
pub stops : (symbols : List Symbol) (number : ℕ) (old : Reading) (lines : List (List ℕ)) (line : List ℕ) (more : List (List ℕ)) (fault : MapRefusal) → lines ≡ line ∷ more → read_line symbols number old (words_of line) ≡ Err fault → read_lines symbols number old lines ≡ Err fault
stops symbols number old lines line more fault are is = rw (are, is) refl

-- and behind a line without a fault the others count
pub goes_on : (symbols : List Symbol) (number : ℕ) (old new : Reading) (lines : List (List ℕ)) (line : List ℕ) (more : List (List ℕ)) → lines ≡ line ∷ more → read_line symbols number old (words_of line) ≡ Ok new → read_lines symbols number old lines ≡ read_lines symbols (number + 1) new more
goes_on symbols number old new lines line more are is = rw (are, is) refl
