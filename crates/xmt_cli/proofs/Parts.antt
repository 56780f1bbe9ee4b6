-- The parts that words spell, and the texts that they give.
use Rattle.std.proofs.Common.{◌≡◌, ◌==◌, List, [], ◌∷◌, ◌++◌, length, Some, None, Option, refl, arith, Bool, true, false, nat_lt, not, codes}
use Rattle.std.specs.Option.{option_and_then}
use Rattle.std.proofs.lemmas.Bool.Decides.{nat_tests}
use Rattle.xmt_cli.specs.declared.given.Key.{Key}
use Rattle.xmt_cli.specs.declared.given.Key.TheVariants.{Units, Budget, Seed, Out, Map, Dump}
use Rattle.xmt_cli.specs.Given.{Text, Texts, Walk, once, put, settled, walk, front_of, behind, key_of, name_of, option_text, is_file_name}
use Rattle.xmt_cli.specs.Spelling.{Part, file, option, Spells, nothing_more, file_name, two_words, one_word}

-- a part in its place
abbrev pub add : Part → Texts → Option Texts
add (file name) w = once w.file name (λ o. record w { file = o })
add (option key value) w = put key w value

abbrev pub add_all : List Part → Texts → Option Texts
add_all [] w = Some w
add_all (part ∷ parts) w = option_and_then (add_all parts) (add part w)

abbrev pub at : Texts → Walk
at w = record { waits = None; given = w }

settled_on : (o : Option Texts) (words : List Text) (parts : List Part) → ((w : Texts) → walk (at w) words ≡ add_all parts w) → option_and_then (λ s. walk s words) (settled o) ≡ option_and_then (add_all parts) o
settled_on None words parts same = refl
settled_on (Some w) words parts same = same w

no_option : (name : Text) → is_file_name name ≡ true → option_text name ≡ None
no_option [] is = cc
no_option (c ∷ cs) is = let other : (c == 45) ≡ false = negated (c == 45) is in rw other refl
  where
    negated : (b : Bool) → not b ≡ true → b ≡ false
    negated true is = cc
    negated false is = refl

key_apart : (key : Key) → key_of (front_of (name_of key)) ≡ Some key
key_apart Units = refl
key_apart Budget = refl
key_apart Seed = refl
key_apart Out = refl
key_apart Map = refl
key_apart Dump = refl

value_apart : (key : Key) → behind (name_of key) ≡ None
value_apart Units = refl
value_apart Budget = refl
value_apart Seed = refl
value_apart Out = refl
value_apart Map = refl
value_apart Dump = refl

key_joined : (key : Key) (value : Text) → key_of (front_of (name_of key ++ (61 ∷ value))) ≡ Some key
key_joined Units value = refl
key_joined Budget value = refl
key_joined Seed value = refl
key_joined Out value = refl
key_joined Map value = refl
key_joined Dump value = refl

value_joined : (key : Key) (value : Text) → behind (name_of key ++ (61 ∷ value)) ≡ Some value
value_joined Units value = let inside : nat_lt 5 (length (codes "units=" ++ value)) ≡ true = grind (arith, nat_tests) in rw inside refl
value_joined Budget value = let inside : nat_lt 6 (length (codes "budget=" ++ value)) ≡ true = grind (arith, nat_tests) in rw inside refl
value_joined Seed value = let inside : nat_lt 4 (length (codes "seed=" ++ value)) ≡ true = grind (arith, nat_tests) in rw inside refl
value_joined Out value = let inside : nat_lt 3 (length (codes "out=" ++ value)) ≡ true = grind (arith, nat_tests) in rw inside refl
value_joined Map value = let inside : nat_lt 3 (length (codes "map=" ++ value)) ≡ true = grind (arith, nat_tests) in rw inside refl
value_joined Dump value = let inside : nat_lt 4 (length (codes "dump=" ++ value)) ≡ true = grind (arith, nat_tests) in rw inside refl

-- words that spell parts are read as these
pub read_parts : {parts : List Part} {words : List Text} → Spells parts words → (w : Texts) → walk (at w) words ≡ add_all parts w
read_parts nothing_more w = refl
read_parts (file_name name {parts} {words} is rest) w =
    rw (no_option name is, is) (settled_on (once w.file name (λ o. record w { file = o })) words parts (λ w. read_parts rest w))
read_parts (two_words key value {parts} {words} rest) w =
    rw (key_apart key, value_apart key) (settled_on (put key w value) words parts (λ w. read_parts rest w))
read_parts (one_word key value {parts} {words} rest) w =
    rw (key_joined key value, value_joined key value) (settled_on (put key w value) words parts (λ w. read_parts rest w))
