-- The parts that are found where words are read.
use Rattle.std.proofs.Common.{rules, ◌≡◌, ◌∙◌, ℕ, ◌+◌, ◌<◌, ◌==◌, List, [], ◌∷◌, ◌++◌, length, Some, None, Option, refl, sym, ap, arith, Bool, true, false, nat_lt, codes, if◌then◌else◌, drop, get_or, ◌≤◌, subst}
use Rattle.std.specs.Option.{option_map}
use Rattle.std.specs.List.{position_or_len}
use Rattle.std.specs.Str.{bytes_eq}
use Rattle.std.proofs.lemmas.Option.{option_and_then_some, same_Some}
use Rattle.std.proofs.lemmas.Bool.Decides.{nat_tests}
use Rattle.std.proofs.lemmas.Slice.Eq.{bytes_eq-Decides}
use Rattle.std.proofs.lemmas.List.Sums.{split_at_first, passes_at_first}
use Rattle.std.proofs.lemmas.List.{take_all}
use Rattle.xmt_cli.specs.declared.given.Key.{Key}
use Rattle.xmt_cli.specs.Given.{Text, Texts, Walk, once, put, put_file, settled, take_option, take_word, take_other, take_next, walk, finished, front_of, behind, key_of, option_text, hyphen_text, is_file_name, called, name_of, all_keys}
use Rattle.xmt_cli.specs.Spelling.{Part, file, option, Spells, nothing_more, file_name, two_words, one_word}
use Rattle.xmt_cli.proofs.Parts.{add, add_all}

-- the parts that words spell where nothing waits, or an option for its value
pub data Found : Option Key → List Text → Texts → Texts → Type 0 where
  found : {parts : List Part} {words : List Text} {w t : Texts} → Spells parts words → add_all parts w ≡ Some t → Found None words w t
  waited : {key : Key} {value : Text} {parts : List Part} {words : List Text} {w t : Texts} → Spells parts words → add_all (option key value ∷ parts) w ≡ Some t → Found (Some key) (value ∷ words) w t

-- what stands behind one hyphen, and behind two
behind_hyphen : (word text : Text) → hyphen_text word ≡ Some text → word ≡ 45 ∷ text
behind_hyphen [] text is = cc
behind_hyphen (c ∷ cs) text is = with_test (c == 45) refl is
  where
    with_test : (b : Bool) → (c == 45) ≡ b → (if b then Some cs else None) ≡ Some text → c ∷ cs ≡ 45 ∷ text
    with_test true same is = let equal : c ≡ 45 = grind (arith, nat_tests, same) in rw (equal, same_Some cs text is) refl
    with_test false same is = cc

behind_hyphens : (word text : Text) → option_text word ≡ Some text → word ≡ 45 ∷ 45 ∷ text
behind_hyphens word text is =
    option_and_then_some hyphen_text (hyphen_text word) text is (λ rest first second. behind_hyphen word rest first ∙ ap (λ (r : Text). 45 ∷ r) (behind_hyphen rest text second))

-- what has this name
called_next : {A : Type 0} (names : A → Text) (name : Text) (y x : A) (rest : Option A) (b : Bool) → bytes_eq name (names y) ≡ b → (rest ≡ Some x → name ≡ names x) → (if b then Some y else rest) ≡ Some x → name ≡ names x
called_next names name y x rest true same later is = let equal : name ≡ names y = search (rules, bytes_eq-Decides name (names y), same) in equal ∙ ap names (same_Some y x is)
called_next names name y x rest false same later is = later is

pub called_so : {A : Type 0} (names : A → Text) (xs : List A) (name : Text) (x : A) → called names xs name ≡ Some x → name ≡ names x
called_so names [] name x is = cc
called_so names (y ∷ ys) name x is = called_next names name y x (called names ys name) (bytes_eq name (names y)) refl (called_so names ys name x) is

named : (name : Text) (key : Key) → key_of name ≡ Some key → name ≡ name_of key
named name key is = called_so name_of all_keys name key is

-- a text with no equals sign, and one with a value behind it
no_equals : (text : Text) → behind text ≡ None → text ≡ front_of text
no_equals text is = with_test (nat_lt (position_or_len (λ c. c == 61) text) (length text)) refl is
  where
    with_test : (b : Bool) → nat_lt (position_or_len (λ c. c == 61) text) (length text) ≡ b → option_map (λ at. drop (at + 1) text) (if b then Some (position_or_len (λ c. c == 61) text) else None) ≡ None → text ≡ front_of text
    with_test true same is = cc
    with_test false same is = let all : length text ≤ position_or_len (λ c. c == 61) text = grind (arith, nat_tests, same) in sym (take_all (position_or_len (λ c. c == 61) text) text all)

equals : (text value : Text) → behind text ≡ Some value → text ≡ front_of text ++ (61 ∷ value)
equals text value is = with_test (nat_lt (position_or_len (λ c. c == 61) text) (length text)) refl is
  where
    with_test : (b : Bool) → nat_lt (position_or_len (λ c. c == 61) text) (length text) ≡ b → option_map (λ at. drop (at + 1) text) (if b then Some (position_or_len (λ c. c == 61) text) else None) ≡ Some value → text ≡ front_of text ++ (61 ∷ value)
    with_test false same is = cc
    with_test true same is =
        let inside : position_or_len (λ c. c == 61) text < length text = grind (arith, nat_tests, same) in
        let sign : (get_or text (position_or_len (λ c. c == 61) text) 0 == 61) ≡ true = passes_at_first (λ c. c == 61) text 0 inside in
        let equal : get_or text (position_or_len (λ c. c == 61) text) 0 ≡ 61 = grind (arith, nat_tests, sign) in
        let rest : drop (position_or_len (λ c. c == 61) text + 1) text ≡ value = same_Some _ _ is in
        split_at_first (λ c. c == 61) text 0 inside ∙ ap (λ (c : ℕ). front_of text ++ (c ∷ drop (position_or_len (λ c. c == 61) text + 1) text)) equal ∙ ap (λ (v : Text). front_of text ++ (61 ∷ v)) rest

-- what a word leaves
settled_given : (o : Option Texts) (next : Walk) → settled o ≡ Some next → o ≡ Some next.given
settled_given None next is = cc
settled_given (Some w) next is = ap (λ (s : Option Walk). option_map (λ (x : Walk). x.given) s) is

settled_waits : (o : Option Texts) (next : Walk) → settled o ≡ Some next → None ≡ next.waits
settled_waits None next is = cc
settled_waits (Some w) next is = same_Some None next.waits (ap (λ (s : Option Walk). option_map (λ (x : Walk). x.waits) s) is)

-- a part in front of those that are found
in_front : (part : Part) (parts : List Part) (w next t : Texts) → add part w ≡ Some next → add_all parts next ≡ Some t → add_all (part ∷ parts) w ≡ Some t
in_front part parts w next t is adds = rw is adds

behind_value : (key : Key) (value : Text) (words : List Text) (w next t : Texts) → put key w value ≡ Some next → Found None words next t → Found (Some key) (value ∷ words) w t
behind_value key value words w next t is (found {parts} spells adds) = waited spells (in_front (option key value) parts w next t is adds)

behind_file : (name : Text) (words : List Text) (w next t : Texts) → is_file_name name ≡ true → once w.file name (λ o. record w { file = o }) ≡ Some next → Found None words next t → Found None (name ∷ words) w t
behind_file name words w next t named is (found {parts} spells adds) = found (file_name name named spells) (in_front (file name) parts w next t is adds)

behind_two : (key : Key) (words : List Text) (w t : Texts) → Found (Some key) words w t → Found None ((codes "--" ++ name_of key) ∷ words) w t
behind_two key words w t (waited {value} spells adds) = found (two_words key value spells) adds

behind_one : (key : Key) (value : Text) (words : List Text) (w next t : Texts) → put key w value ≡ Some next → Found None words next t → Found None ((codes "--" ++ (name_of key ++ (codes "=" ++ value))) ∷ words) w t
behind_one key value words w next t is (found {parts} spells adds) = found (one_word key value spells) (in_front (option key value) parts w next t is adds)

-- a word in front of those behind which parts were found
name_in_front : (word : Text) (words : List Text) (w t : Texts) (next : Walk) → settled (put_file w word) ≡ Some next → Found next.waits words next.given t → Found None (word ∷ words) w t
name_in_front word words w t next is rest = with_test (is_file_name word) refl (settled_given (put_file w word) next is)
  where
    with_test : (b : Bool) → is_file_name word ≡ b → (if b then once w.file word (λ o. record w { file = o }) else None) ≡ Some next.given → Found None (word ∷ words) w t
    with_test false named given = cc
    with_test true named given = behind_file word words w next.given t named given (rw (← settled_waits (put_file w word) next is) at rest)

option_in_front : (text : Text) (words : List Text) (w t : Texts) (key : Option Key) (value : Option Text) (next : Walk) → key_of (front_of text) ≡ key → behind text ≡ value → take_option w key value ≡ Some next → Found next.waits words next.given t → Found None ((45 ∷ 45 ∷ text) ∷ words) w t
option_in_front text words w t None value next of_name of_value is rest = cc
option_in_front text words w t (Some key) None next of_name of_value is rest =
    let whole : text ≡ name_of key = no_equals text of_value ∙ named (front_of text) key of_name in
    let same : record { waits = Some key; given = w } ≡ next = same_Some _ _ is in
    let there : Found (Some key) words w t = subst (λ (s : Walk). Found s.waits words s.given t) (sym same) rest in
    subst (λ (x : Text). Found None ((45 ∷ 45 ∷ x) ∷ words) w t) (sym whole) (behind_two key words w t there)
option_in_front text words w t (Some key) (Some value) next of_name of_value is rest =
    let whole : text ≡ name_of key ++ (61 ∷ value) = equals text value of_value ∙ ap (λ (x : Text). x ++ (61 ∷ value)) (named (front_of text) key of_name) in
    let there : Found None words next.given t = rw (← settled_waits (put key w value) next is) at rest in
    subst (λ (x : Text). Found None ((45 ∷ 45 ∷ x) ∷ words) w t) (sym whole) (behind_one key value words w next.given t (settled_given (put key w value) next is) there)

other_in_front : (word : Text) (words : List Text) (w t : Texts) (text : Option Text) (next : Walk) → option_text word ≡ text → take_other w word text ≡ Some next → Found next.waits words next.given t → Found None (word ∷ words) w t
other_in_front word words w t None next of_word is rest = name_in_front word words w t next is rest
other_in_front word words w t (Some text) next of_word is rest =
    subst (λ (x : Text). Found None (x ∷ words) w t) (sym (behind_hyphens word text of_word)) (option_in_front text words w t (key_of (front_of text)) (behind text) next refl refl is rest)

word_in_front : (waits : Option Key) (word : Text) (words : List Text) (w t : Texts) (next : Walk) → take_word waits w word ≡ Some next → Found next.waits words next.given t → Found waits (word ∷ words) w t
word_in_front None word words w t next is rest = other_in_front word words w t (option_text word) next refl is rest
word_in_front (Some key) word words w t next is rest =
    behind_value key word words w next.given t (settled_given (put key w word) next is) (rw (← settled_waits (put key w word) next is) at rest)

at_the_end : (waits : Option Key) (w t : Texts) → finished waits w ≡ Some t → Found waits [] w t
at_the_end None w t is = found nothing_more is
at_the_end (Some key) w t is = cc

-- the parts that words spell that are read
pub parts_found : (words : List Text) (s : Walk) (t : Texts) → walk s words ≡ Some t → Found s.waits words s.given t
parts_found [] s t is = at_the_end s.waits s.given t is
parts_found (word ∷ words) s t is =
    option_and_then_some (λ (next : Walk). walk next words) (take_next s word) t is (λ next first second. word_in_front s.waits word words s.given t next first (parts_found words next t second))
