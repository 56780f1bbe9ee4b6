-- Reading a dump, symbol by symbol.
use Rattle.std.proofs.Common.{◌≡◌, ◌≢◌, ℕ, ◌+◌, ◌^◌, ◌<◌, ◌≤◌, ◌==◌, ◌||◌, suc, zero, Bool, true, false, not, nat_lt, List, [], ◌∷◌, ◌++◌, length, map, filter, get_or, take, drop, slice_get, slice_set, replicate, All, Some, Ok, refl, sym, ◌∙◌, ap, subst, append_assoc, add-one, add-zero, zero-add, AllPairs, length-drop, arith, rules}
use Rattle.std.proofs.lemmas.Bool.Decides.{nat_tests}
use Rattle.std.proofs.lemmas.List.{length-take, append-nil, length-map, get_or-take, get_or-drop}
use Rattle.std.proofs.lemmas.Option.{slice_get_within, get_or_from_slice_get}
use Rattle.std.proofs.Math.Seq.{take-add, take-suc-set, take-length}
use Rattle.std.specs.List.{list_all, slice_split, position_or_len}
use Rattle.std.specs.Str.{bytes_eq}
use Rattle.xmt_base.specs.Name.{IsName, is_name, is_name_start, is_name_part, is_word, is_keyword}
use Rattle.xmt_base.specs.declared.values.Symbol.{Symbol}
use Rattle.memory_map.specs.declared.read.Reading.{Reading}
use Rattle.memory_map.specs.DumpText.{value_text, values_text, dump_text}
use Rattle.xmt_isa.specs.Symbols.{Covers, AreSymbols}
use Rattle.memory_map.specs.MapText.{MapText, index_of, put_values, read_line, read_lines}
use Rattle.memory_map.specs.Words.{split_words, words_of, text_lines, part_lines}
use Rattle.memory_map.proofs.Lists.{part_more}
use Rattle.memory_map.proofs.Places.{goes_on, covers_le, differ_false}
use Rattle.std.proofs.lemmas.List.Splits.{length-slice_split}
use Rattle.std.proofs.lemmas.Bool.{true_from_ne_false}
use Rattle.std.proofs.lemmas.Slice.Eq.{bytes_eq-Decides}
use Rattle.std.proofs.Math.ListN.{length-set}
use Rattle.memory_map.proofs.Spelled.{is_plain, is_calm, both_true, make_both, all_append, plain_calm, calm_split, calm_return_kept, calm_comment, word_split, word_whole, word_spells}

-- a line without its newline
abbrev pub bare_line : List ℕ → List ℕ → List ℕ
bare_line name words = name ++ values_text words

AllSmall : List ℕ → Type 0
AllSmall words = All (λ word. word < 2 ^ 32) words

-- the first and the others, of a fact on each word
first_small : (word : ℕ) (words : List ℕ) → All (λ w. w < 2 ^ 32) (word ∷ words) → word < 2 ^ 32
first_small word words small = small 0 0 (omega arith)

rest_small : (word : ℕ) (words : List ℕ) → All (λ w. w < 2 ^ 32) (word ∷ words) → All (λ w. w < 2 ^ 32) words
rest_small word words small = λ k d within. small (suc k) d (omega (arith, within))

values_calm : (words : List ℕ) → All (λ w. w < 2 ^ 32) words → list_all is_calm (values_text words) ≡ true
values_calm [] small = refl
values_calm (word ∷ words) small = all_append is_calm (32 ∷ value_text word) (values_text words) (plain_calm (value_text word) (word_spells word (first_small word words small)).plain) (values_calm words (rest_small word words small))

-- the pieces of a bare line
pieces : (head words : List ℕ) → list_all is_plain head ≡ true → All (λ w. w < 2 ^ 32) words → slice_split (λ c. c == 32 || c == 9) (head ++ values_text words) ≡ head ∷ map value_text words
pieces head [] plain small = rw append-nil (word_whole head plain)
pieces head (word ∷ words) plain small =
    word_split head (value_text word ++ values_text words) plain ∙ ap (λ rest. head ∷ rest) (pieces (value_text word) words (word_spells word (first_small word words small)).plain (rest_small word words small))

-- none of them is empty
kept : (head : List ℕ) (words : List ℕ) → 0 < length head → All (λ w. w < 2 ^ 32) words → filter (λ word. not (length word == 0)) (head ∷ map value_text words) ≡ head ∷ map value_text words
kept head [] some small = let never : (length head == 0) ≡ false = grind (arith, nat_tests) in rw never refl
kept head (word ∷ words) some small =
    let never : (length head == 0) ≡ false = grind (arith, nat_tests) in
    rw (never, kept (value_text word) words (word_spells word (first_small word words small)).some (rest_small word words small)) refl

-- the words of a bare line
line_words : (name words : List ℕ) → list_all is_plain name ≡ true → 0 < length name → All (λ w. w < 2 ^ 32) words → words_of (bare_line name words) ≡ name ∷ map value_text words
line_words name words plain some small =
    let calm : list_all is_calm (bare_line name words) ≡ true = all_append is_calm name (values_text words) (plain_calm name plain) (values_calm words small) in
    ap split_words (calm_comment (bare_line name words) calm) ∙ rw (pieces name words plain small) (kept name words some small)

-- the lines of a text that begins with a bare line
line_first : (name words rest : List ℕ) → list_all is_plain name ≡ true → All (λ w. w < 2 ^ 32) words → text_lines ((bare_line name words ++ 10 ∷ []) ++ rest) ≡ bare_line name words ∷ text_lines rest
line_first name words rest plain small =
    let calm : list_all is_calm (bare_line name words) ≡ true = all_append is_calm name (values_text words) (plain_calm name plain) (values_calm words small) in
    ap text_lines (append_assoc (bare_line name words) (10 ∷ []) rest)
    ∙ ap part_lines (calm_split (bare_line name words) rest calm)
    ∙ part_more (bare_line name words) (slice_split (λ c. c == 10) rest) (omega (arith, length-slice_split (λ c. c == 10) rest))
    ∙ ap (λ line. line ∷ text_lines rest) (calm_return_kept (bare_line name words) calm)

-- a name is plain
plain_start : (c : ℕ) → is_name_start c ≡ true → is_plain c ≡ true
plain_start c start = grind (arith, nat_tests)

plain_part : (c : ℕ) → is_name_part c ≡ true → is_plain c ≡ true
plain_part c part = grind (arith, nat_tests)

plain_parts : (cs : List ℕ) → list_all is_name_part cs ≡ true → list_all is_plain cs ≡ true
plain_parts [] parts = refl
plain_parts (c ∷ cs) parts =
    let both = both_true (is_name_part c) (list_all is_name_part cs) parts in
    make_both (is_plain c) (list_all is_plain cs) (plain_part c both.0) (plain_parts cs both.1)

plain_word : (name : List ℕ) → is_word name ≡ true → list_all is_plain name ≡ true
plain_word [] is = cc
plain_word (c ∷ cs) is =
    let both = both_true (is_name_start c) (list_all is_name_part cs) is in
    make_both (is_plain c) (list_all is_plain cs) (plain_start c both.0) (plain_parts cs both.1)

plain_name : (name : List ℕ) → IsName name → list_all is_plain name ≡ true
plain_name name is = plain_word name (both_true (is_word name) (not (is_keyword name)) is).0

some_word : (name : List ℕ) → is_word name ≡ true → 0 < length name
some_word [] is = cc
some_word (c ∷ cs) is = omega arith

some_name : (name : List ℕ) → IsName name → 0 < length name
some_name name is = some_word name (both_true (is_word name) (not (is_keyword name)) is).0

-- values are put one behind another
record Put (at : ℕ) (old vs : List ℕ) : Type 0 where
  new : List ℕ
  is : put_values at old (map value_text vs) ≡ Some new
  same_length : length new ≡ length old
  front : take (at + length vs) new ≡ take at old ++ vs

put_all : (vs : List ℕ) (at : ℕ) (old : List ℕ) → All (λ w. w < 2 ^ 32) vs → at + length vs ≤ length old → Put at old vs
put_all [] at old small fits = record { new = old; is = refl; same_length = refl; front = rw (append-nil (take at old), add-zero at) refl }
put_all (v ∷ vs) at old small fits =
    let rest = put_all vs (at + 1) (slice_set old at v) (rest_small v vs small) (omega (arith, length-set old at v, fits)) in
    let index : at + suc (length vs) ≡ at + 1 + length vs = omega arith in
    let within : at < length old = omega (arith, fits) in
    record {
      new = rest.new;
      is = rw (word_spells v (first_small v vs small)).value rest.is;
      same_length = rest.same_length ∙ length-set old at v;
      front = rw index (rest.front ∙ rw (add-one at, take-suc-set old at v within) (append_assoc (take at old) (v ∷ []) vs));
    }

-- a write leaves the other places
get_set_other : (xs : List Bool) (k j : ℕ) (v : Bool) → k < j → slice_get (slice_set xs k v) j ≡ slice_get xs j
get_set_other [] k j v below = refl
get_set_other (x ∷ xs) k zero v below = absurd (omega (arith, below))
get_set_other (x ∷ xs) zero (suc j) v below = refl
get_set_other (x ∷ xs) (suc k) (suc j) v below = get_set_other xs k j v (omega (arith, below))

-- a line that names the symbol at place k
one_line : (symbols : List Symbol) (number k : ℕ) (s : Symbol) (st : Reading) (vs new : List ℕ) → is_name s.name ≡ true → index_of symbols s.name ≡ Some k → slice_get symbols k ≡ Some s → slice_get st.named k ≡ Some false → length vs ≡ s.length → put_values s.base st.words (map value_text vs) ≡ Some new → read_line symbols number st (s.name ∷ map value_text vs) ≡ Ok (record { words = new; named = slice_set st.named k true })
one_line symbols number k s st vs new name index place named many put =
    let few : nat_lt s.length (length (map value_text vs)) ≡ false = rw length-map (grind (arith, nat_tests)) in
    rw (name, index, named, place, few, put) refl

record Placed (symbols : List Symbol) (k : ℕ) (s : Symbol) : Type 0 where
  pub there : slice_get symbols k ≡ Some s
  pub found : index_of symbols s.name ≡ Some k

-- the symbols from place k on are the rest
record Rest (symbols rest : List Symbol) (k : ℕ) : Type 0 where
  names : (j : ℕ) (s : Symbol) → slice_get rest j ≡ Some s → IsName s.name
  placed : (j : ℕ) (s : Symbol) → slice_get rest j ≡ Some s → Placed symbols (k + j) s

rest_next : (symbols rest : List Symbol) (s : Symbol) (k : ℕ) → Rest symbols (s ∷ rest) k → Rest symbols rest (k + 1)
rest_next symbols rest s k all = record {
  names = λ j t at. all.names (suc j) t at;
  placed = λ j t at. let same : k + suc j ≡ k + 1 + j = omega arith in subst (λ (i : ℕ). Placed symbols i t) same (all.placed (suc j) t at);
}

-- how far a dump is read: the words before a place are there, and no symbol from k on is named
record SoFar (symbols : List Symbol) (words : List ℕ) (from k : ℕ) (st : Reading) : Type 0 where
  same_length : length st.words ≡ length words
  front : take from st.words ≡ take from words
  unnamed : (j : ℕ) → k ≤ j → j < length symbols → slice_get st.named j ≡ Some false

-- some of the small words are small
some_small : (words : List ℕ) (from n : ℕ) → All (λ w. w < 2 ^ 32) words → All (λ w. w < 2 ^ 32) (take n (drop from words))
some_small words from n small = λ i d within.
    let known : i < n = omega (arith, length-take n (drop from words), within) in
    let inside : from + i < length words = omega (arith, length-take n (drop from words), length-drop from words, within) in
    let value : get_or (take n (drop from words)) i d ≡ get_or words (from + i) d = get_or-take n (drop from words) i d known ∙ get_or-drop from words i d in
    rw value (small (from + i) d inside)

next_far : (symbols : List Symbol) (words : List ℕ) (from n k : ℕ) (st : Reading) (put : Put from st.words (take n (drop from words))) → from + n ≤ length words → SoFar symbols words from k st → SoFar symbols words (from + n) (k + 1) (record { words = put.new; named = slice_set st.named k true })
next_far symbols words from n k st put fits far =
    let many : length (take n (drop from words)) ≡ n = omega (arith, length-take n (drop from words), length-drop from words, fits) in
    record {
      same_length = put.same_length ∙ far.same_length;
      front = rw many at put.front ∙ ap (λ (front : List ℕ). front ++ take n (drop from words)) far.front ∙ sym (take-add from n words);
      unnamed = λ j above within. get_set_other st.named k j true (omega (arith, above)) ∙ far.unnamed j (omega (arith, above)) within;
    }

-- the rest of a dump gives the rest of the words
reads : (symbols rest : List Symbol) (words : List ℕ) (k from number : ℕ) (st : Reading) → Rest symbols rest k → Covers from rest (length words) → All (λ w. w < 2 ^ 32) words → SoFar symbols words from k st → (named : List Bool) × (read_lines symbols number st (text_lines (dump_text rest words)) ≡ Ok (record { words = words; named = named }))
reads symbols [] words k from number st all cover small far =
    let all_there : take (length words) st.words ≡ take (length words) words = subst (λ (n : ℕ). take n st.words ≡ take n words) cover far.front in
    let whole : st.words ≡ words = sym (take-length st.words) ∙ ap (λ (n : ℕ). take n st.words) far.same_length ∙ all_there ∙ take-length words in
    (st.named, ap (λ (ws : List ℕ). Ok (record { words = ws; named = st.named })) whole)
reads symbols (s ∷ rest) words k from number st all cover small far =
    let vs = take s.length (drop from words) in
    let name : IsName s.name = all.names 0 s refl in
    let here : Placed symbols k s = subst (λ (i : ℕ). Placed symbols i s) (add-zero k) (all.placed 0 s refl) in
    let fits : from + s.length ≤ length words = covers_le (from + s.length) rest (length words) cover.1 in
    let vs_small : All (λ w. w < 2 ^ 32) (take s.length (drop from words)) = some_small words from s.length small in
    let many : length (take s.length (drop from words)) ≡ s.length = omega (arith, length-take s.length (drop from words), length-drop from words, fits) in
    let put = put_all (take s.length (drop from words)) from st.words vs_small (omega (arith, many, far.same_length, fits)) in
    let lines : text_lines (dump_text (s ∷ rest) words) ≡ bare_line s.name (take s.length (drop from words)) ∷ text_lines (dump_text rest words) = rw cover.0 (line_first s.name (take s.length (drop from words)) (dump_text rest words) (plain_name s.name name) vs_small) in
    let unnamed : slice_get st.named k ≡ Some false = far.unnamed k (omega arith) (slice_get_within symbols k s here.there) in
    let puts : put_values s.base st.words (map value_text (take s.length (drop from words))) ≡ Some put.new = rw cover.0 put.is in
    let line : read_line symbols number st (words_of (bare_line s.name (take s.length (drop from words)))) ≡ Ok (record { words = put.new; named = slice_set st.named k true }) = rw (line_words s.name (take s.length (drop from words)) (plain_name s.name name) (some_name s.name name) vs_small) (one_line symbols number k s st (take s.length (drop from words)) put.new name here.found here.there unnamed many puts) in
    let others = reads symbols rest words (k + 1) (from + s.length) (number + 1) (record { words = put.new; named = slice_set st.named k true }) (rest_next symbols rest s k all) cover.1 small (next_far symbols words from s.length k st put fits far) in
    (others.0, goes_on symbols number st (record { words = put.new; named = slice_set st.named k true }) (text_lines (dump_text (s ∷ rest) words)) (bare_line s.name (take s.length (drop from words))) (text_lines (dump_text rest words)) lines line ∙ others.1)

-- a text is itself
bytes_same : (t : List ℕ) → bytes_eq t t ≡ true
bytes_same t = true_from_ne_false (bytes_eq t t) (λ differ. let never : t ≢ t = search (rules, bytes_eq-Decides) in never refl)

-- the place of the first that passes
place : (p : Symbol → Bool) (xs : List Symbol) (k : ℕ) (x : Symbol) → slice_get xs k ≡ Some x → p x ≡ true → ((i : ℕ) (y : Symbol) → i < k → slice_get xs i ≡ Some y → p y ≡ false) → position_or_len p xs ≡ k
place p [] k x at passes before = cc
place p (x' ∷ xs) zero x at passes before = let same : x' ≡ x = cc in rw (same, passes) refl
place p (x' ∷ xs) (suc k) x at passes before = rw (before 0 x' (omega arith) refl, place p xs k x at passes (λ i y below there. before (suc i) y (omega (arith, below)) there)) (omega arith)

placed_at : (symbols : List Symbol) (k : ℕ) (s : Symbol) → AllPairs (λ s t. s.name ≢ t.name) symbols → slice_get symbols k ≡ Some s → Placed symbols k s
placed_at symbols k s differ there =
    let within = slice_get_within symbols k s there in
    let first : position_or_len (λ (t : Symbol). bytes_eq s.name t.name) symbols ≡ k = place (λ (t : Symbol). bytes_eq s.name t.name) symbols k s there (bytes_same s.name) (λ i t below at.
    let far : t.name ≢ s.name = λ same. differ i k s below within (ap (λ (x : Symbol). x.name) (get_or_from_slice_get symbols i t s at) ∙ same ∙ sym (ap (λ (x : Symbol). x.name) (get_or_from_slice_get symbols k s s there))) in
    differ_false s.name t.name far) in
    let inside : nat_lt k (length symbols) ≡ true = grind (arith, nat_tests) in
    record { there = there; found = rw (first, inside) refl }

none_named : (n j : ℕ) → j < n → slice_get (replicate n false) j ≡ Some false
none_named zero j within = absurd (omega (arith, within))
none_named (suc n) zero within = refl
none_named (suc n) (suc j) within = none_named n j (omega (arith, within))

-- a whole dump gives its words
pub dump_reads : (symbols : List Symbol) (words opening : List ℕ) → AreSymbols symbols (length words) → All (λ w. w < 2 ^ 32) words → length opening ≡ length words → MapText (dump_text symbols words) symbols opening words
dump_reads symbols words opening are small same =
    reads symbols symbols words 0 0 1 (record { words = opening; named = replicate (length symbols) false })
    (record {
      names = λ j s at. subst (λ (t : Symbol). IsName t.name) (get_or_from_slice_get symbols j s s at) (are.names j s (slice_get_within symbols j s at));
      placed = λ j s at. subst (λ (i : ℕ). Placed symbols i s) (sym (zero-add j)) (placed_at symbols j s are.differ at);
    })
    are.cover small
    (record { same_length = same; front = refl; unnamed = λ j above within. none_named (length symbols) j within })
