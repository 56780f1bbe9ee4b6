-- The task of words is the task that they spell.
use Rattle.std.proofs.Common.{◌≡◌, ◌∙◌, ℕ, ◌^◌, ◌-◌, ◌&&◌, List, [], ◌∷◌, length, Some, None, Option, refl, sym, ap, arith, Bool, true, false, nat_lt, nat_le, codes, if◌then◌else◌, subst}
use Rattle.std.specs.Char.{is_ascii_digit}
use Rattle.std.specs.List.{list_all}
use Rattle.std.specs.Option.{option_and_then, option_map}
use Rattle.std.specs.Str.Parse.{digits_value}
use Rattle.std.proofs.lemmas.Option.{option_and_then_some, same_Some}
use Rattle.std.proofs.lemmas.Bool.Decides.{nat_tests}
use Rattle.run_options.specs.declared.options.SimOptions.{SimOptions}
use Rattle.xmt_cli.specs.declared.given.Key.TheVariants.{Units, Budget, Seed, Out, Map, Dump}
use Rattle.xmt_cli.specs.declared.job.Command.{Command}
use Rattle.xmt_cli.specs.declared.job.Command.TheVariants.{Compile, Simulate, Run}
use Rattle.xmt_cli.specs.Given.{Text, Texts, nothing, walk, is_file_name}
use Rattle.xmt_cli.specs.Numbers.{is_number, is_within, number_in, number_or, seed_of}
use Rattle.xmt_cli.specs.JobOf.{Task, compile, Beginning, word_of, all_commands, command_of, options_of, may_name, is_absent, has_no_run_option, beginning, start_of, compilation, compile_of, simulated, ran, task, task_behind, task_of}
use Rattle.xmt_cli.specs.Spelling.{Part, values, IsNumber, Gives, GivesSeed, GivesFile, GivesNone, IsCompilation, IsStart, IsTask, to_compile, to_simulate, to_run}
use Rattle.xmt_cli.proofs.Parts.{read_parts, add_all}
use Rattle.xmt_cli.proofs.Found.{Found, found, parts_found, called_so}
use Rattle.xmt_cli.proofs.Collected.{listed, Collects, collected, added}

first_of : (a b : Bool) → (a && b) ≡ true → a ≡ true
first_of true b is = refl
first_of false b is = cc

second_of : (a b : Bool) → (a && b) ≡ true → b ≡ true
second_of true b is = is
second_of false b is = cc

both : (a b : Bool) → a ≡ true → b ≡ true → (a && b) ≡ true
both a b one two = rw (one, two) refl

-- numbers
taken : (low high : ℕ) (text : Text) (n : ℕ) → number_in low high text ≡ Some n → IsNumber low high text n
taken low high text n is = with_test (is_number text && is_within low high (digits_value 10 text)) refl is
  where
    with_test : (b : Bool) → (is_number text && is_within low high (digits_value 10 text)) ≡ b → (if b then Some (digits_value 10 text) else None) ≡ Some n → IsNumber low high text n
    with_test false passes is = cc
    with_test true passes is =
        let number = first_of (is_number text) (is_within low high (digits_value 10 text)) passes in
        let range = second_of (is_number text) (is_within low high (digits_value 10 text)) passes in
        let size = first_of (nat_lt 0 (length text) && nat_le (length text) 20) (list_all is_ascii_digit text) number in
        let digits = second_of (nat_lt 0 (length text) && nat_le (length text) 20) (list_all is_ascii_digit text) number in
        let some = first_of (nat_lt 0 (length text)) (nat_le (length text) 20) size in
        let few = second_of (nat_lt 0 (length text)) (nat_le (length text) 20) size in
        let least = first_of (nat_le low (digits_value 10 text)) (nat_le (digits_value 10 text) high) range in
        let most = second_of (nat_le low (digits_value 10 text)) (nat_le (digits_value 10 text) high) range in
        let value : digits_value 10 text ≡ n = same_Some _ _ is in
        record { digits = digits; some = grind (arith, nat_tests, some); few = grind (arith, nat_tests, few); value = value; least = grind (arith, nat_tests, least, value); most = grind (arith, nat_tests, most, value) }

given : (low high : ℕ) (text : Text) (n : ℕ) → IsNumber low high text n → number_in low high text ≡ Some n
given low high text n c =
    let some : nat_lt 0 (length text) ≡ true = grind (arith, nat_tests, c.some) in
    let few : nat_le (length text) 20 ≡ true = grind (arith, nat_tests, c.few) in
    let least : nat_le low (digits_value 10 text) ≡ true = grind (arith, nat_tests, c.least, c.value) in
    let most : nat_le (digits_value 10 text) high ≡ true = grind (arith, nat_tests, c.most, c.value) in
    let passes : (is_number text && is_within low high (digits_value 10 text)) ≡ true = both _ _ (both _ _ (both _ _ some few) c.digits) (both _ _ least most) in
    rw passes (ap Some c.value)

-- the number that an option gives
gives : (usual low high : ℕ) (o : Option Text) (texts : List Text) (n : ℕ) → texts ≡ listed o → number_or usual low high o ≡ Some n → Gives usual low high texts n
gives usual low high None texts n same is = rw same (sym (same_Some usual n is))
gives usual low high (Some text) texts n same is = rw same (taken low high text n is)

gives_seed : (o : Option Text) (texts : List Text) (seed : Option ℕ) → texts ≡ listed o → seed_of o ≡ Some seed → GivesSeed texts seed
gives_seed None texts None same is = rw same tt
gives_seed None texts (Some n) same is = cc
gives_seed (Some text) texts None same is = with_number (number_in 0 (2 ^ 64 - 1) text) is
  where
    with_number : (o : Option ℕ) → option_map (λ n. Some n) o ≡ Some None → GivesSeed texts None
    with_number None is = cc
    with_number (Some n) is = cc
gives_seed (Some text) texts (Some n) same is = rw same (taken 0 (2 ^ 64 - 1) text n (inner (number_in 0 (2 ^ 64 - 1) text) is))
  where
    inner : (o : Option ℕ) → option_map (λ n. Some n) o ≡ Some (Some n) → o ≡ Some n
    inner None is = cc
    inner (Some m) is = same_Some (Some m) (Some n) is

map_some : {A B P : Type 0} (f : A → B) (o : Option A) (y : B) → option_map f o ≡ Some y → ((x : A) → o ≡ Some x → f x ≡ y → P) → P
map_some f None y is k = cc
map_some f (Some x) y is k = k x refl (same_Some (f x) y is)

-- the options of what was given, one by one
record OptionsAre (t : Texts) (o : SimOptions) : Type 0 where
  units_are : number_or 4 1 64 t.units ≡ Some o.units
  budget_is : number_or 100000000 1 (2 ^ 40) t.budget ≡ Some o.budget
  seed_is : seed_of t.seed ≡ Some o.seed

options_are : (t : Texts) (o : SimOptions) → options_of t ≡ Some o → OptionsAre t o
options_are t o is =
    option_and_then_some (λ (units : ℕ). option_and_then (λ (budget : ℕ). option_map (λ (seed : Option ℕ). the_options units budget seed) (seed_of t.seed)) (number_or 100000000 1 (2 ^ 40) t.budget)) (number_or 4 1 64 t.units) o is (λ units u behind.
    option_and_then_some (λ (budget : ℕ). option_map (λ (seed : Option ℕ). the_options units budget seed) (seed_of t.seed)) (number_or 100000000 1 (2 ^ 40) t.budget) o behind (λ budget b last.
    map_some (λ (seed : Option ℕ). the_options units budget seed) (seed_of t.seed) o last (λ seed s same.
    subst (λ (p : SimOptions). OptionsAre t p) same (record { units_are = u; budget_is = b; seed_is = s }))))
  where
    the_options : ℕ → ℕ → Option ℕ → SimOptions
    the_options units budget seed = record { units = units; budget = budget; seed = seed }

-- the file that an option gives
gives_file : (o : Option Text) (texts : List Text) (m : Option Text) → texts ≡ listed o → may_name o ≡ Some m → GivesFile texts m
gives_file None texts None same is = rw same tt
gives_file None texts (Some name) same is = cc
gives_file (Some text) texts m same is = rw same (with_test (is_file_name text) refl m is)
  where
    with_test : (b : Bool) → is_file_name text ≡ b → (m : Option Text) → (if b then Some (Some text) else None) ≡ Some m → GivesFile (text ∷ []) m
    with_test false named m is = cc
    with_test true named None is = cc
    with_test true named (Some name) is = let equal : text ≡ name = same_Some text name (same_Some (Some text) (Some name) is) in (equal, subst (λ (x : Text). is_file_name x ≡ true) equal named)

-- an option that isn't given
none_given : (o : Option Text) (texts : List Text) → texts ≡ listed o → is_absent o ≡ true → texts ≡ []
none_given None texts same is = same
none_given (Some text) texts same is = cc

no_run_given : (parts : List Part) (t : Texts) → Collects parts nothing t → has_no_run_option t ≡ true → GivesNone (Units ∷ Budget ∷ Seed ∷ Map ∷ Dump ∷ []) parts
no_run_given parts t c none =
    let two = is_absent t.units && is_absent t.budget in
    let three = two && is_absent t.seed in
    let four = three && is_absent t.map in
    let all_four : four ≡ true = first_of four (is_absent t.dump) none in
    let all_three : three ≡ true = first_of three (is_absent t.map) all_four in
    let both_two : two ≡ true = first_of two (is_absent t.seed) all_three in
    let units = none_given t.units (values Units parts) c.units_too (first_of (is_absent t.units) (is_absent t.budget) both_two) in
    let budget = none_given t.budget (values Budget parts) c.budget_too (second_of (is_absent t.units) (is_absent t.budget) both_two) in
    let seed = none_given t.seed (values Seed parts) c.seed_too (second_of two (is_absent t.seed) all_three) in
    let map = none_given t.map (values Map parts) c.map_too (second_of three (is_absent t.map) all_four) in
    let dump = none_given t.dump (values Dump parts) c.dump_too (second_of four (is_absent t.dump) none) in
    (units, (budget, (seed, (map, (dump, tt)))))

-- what was given behind `cc`
behind_compile : (words : List Text) (name out : Text) (t : Texts) → t.file ≡ Some name → may_name t.out ≡ Some (Some out) → has_no_run_option t ≡ true → Found None words nothing t → IsTask (codes "cc" ∷ words) (compile name out)
behind_compile words name out t is goes none (found {parts} spells adds) =
    let c = collected parts nothing t adds in
    to_compile name out spells (record { one_file = c.file_too ∙ ap listed is; one_out = gives_file t.out (values Out parts) (Some out) c.out_too goes; no_other = no_run_given parts t c none })

compiles : (words : List Text) (j : Task) (t : Texts) → compile_of t ≡ Some j → Found None words nothing t → IsTask (codes "cc" ∷ words) j
compiles words j t is parts = with_test (has_no_run_option t) refl is
  where
    with_test : (b : Bool) → has_no_run_option t ≡ b → (if b then compilation t else None) ≡ Some j → IsTask (codes "cc" ∷ words) j
    with_test false none is = cc
    with_test true none is =
        option_and_then_some (λ (file : Text). option_and_then (λ (name : Option Text). option_map (λ (out : Text). compile file out) name) (may_name t.out)) t.file j is (λ file first second.
        option_and_then_some (λ (name : Option Text). option_map (λ (out : Text). compile file out) name) (may_name t.out) j second (λ name third fourth.
        map_some (λ (out : Text). compile file out) name j fourth (λ out fifth last.
        subst (λ (k : Task). IsTask (codes "cc" ∷ words) k) last (behind_compile words file out t first (third ∙ ap (λ (o : Option Text). Some o) fifth) none parts))))

-- what was given behind `sim` and `run`
begins : (parts : List Part) (t : Texts) (name : Text) (options : SimOptions) (map dump : Option Text) → Collects parts nothing t → t.file ≡ Some name → OptionsAre t options → may_name t.map ≡ Some map → may_name t.dump ≡ Some dump → is_absent t.out ≡ true → IsStart name options map dump parts
begins parts t name options map dump c is o map_is dump_is none = record {
  one_file = c.file_too ∙ ap listed is;
  units = gives 4 1 64 t.units (values Units parts) options.units c.units_too o.units_are;
  budget = gives 100000000 1 (2 ^ 40) t.budget (values Budget parts) options.budget c.budget_too o.budget_is;
  seed = gives_seed t.seed (values Seed parts) options.seed c.seed_too o.seed_is;
  one_map = gives_file t.map (values Map parts) map c.map_too map_is;
  one_dump = gives_file t.dump (values Dump parts) dump c.dump_too dump_is;
  no_other = (none_given t.out (values Out parts) c.out_too none, tt);
}

starts : (parts : List Part) (t : Texts) (b : Beginning) → Collects parts nothing t → start_of t ≡ Some b → IsStart b.file b.options b.map b.dump parts
starts parts t b c is = with_test (is_absent t.out) refl is
  where
    the_beginning : Text → SimOptions → Option Text → Option Text → Beginning
    the_beginning file options map dump = record { file = file; options = options; map = map; dump = dump }

    with_test : (x : Bool) → is_absent t.out ≡ x → (if x then beginning t else None) ≡ Some b → IsStart b.file b.options b.map b.dump parts
    with_test false none is = cc
    with_test true none is =
        option_and_then_some (λ (file : Text). option_and_then (λ (options : SimOptions). option_and_then (λ (map : Option Text). option_map (λ (dump : Option Text). the_beginning file options map dump) (may_name t.dump)) (may_name t.map)) (options_of t)) t.file b is (λ file first second.
        option_and_then_some (λ (options : SimOptions). option_and_then (λ (map : Option Text). option_map (λ (dump : Option Text). the_beginning file options map dump) (may_name t.dump)) (may_name t.map)) (options_of t) b second (λ options third fourth.
        option_and_then_some (λ (map : Option Text). option_map (λ (dump : Option Text). the_beginning file options map dump) (may_name t.dump)) (may_name t.map) b fourth (λ map fifth sixth.
        map_some (λ (dump : Option Text). the_beginning file options map dump) (may_name t.dump) b sixth (λ dump seventh last.
        subst (λ (k : Beginning). IsStart k.file k.options k.map k.dump parts) last (begins parts t file options map dump c first (options_are t options third) fifth seventh none)))))

simulates : (words : List Text) (t : Texts) (b : Beginning) → start_of t ≡ Some b → Found None words nothing t → IsTask (codes "sim" ∷ words) (simulated b)
simulates words t b is (found {parts} spells adds) = to_simulate b.file b.options b.map b.dump spells (starts parts t b (collected parts nothing t adds) is)

runs : (words : List Text) (t : Texts) (b : Beginning) → start_of t ≡ Some b → Found None words nothing t → IsTask (codes "run" ∷ words) (ran b)
runs words t b is (found {parts} spells adds) = to_run b.file b.options b.map b.dump spells (starts parts t b (collected parts nothing t adds) is)

-- what was given behind a command
behind_command : (command : Command) (words : List Text) (j : Task) (t : Texts) → task command t ≡ Some j → Found None words nothing t → IsTask (word_of command ∷ words) j
behind_command Compile words j t is parts = compiles words j t is parts
behind_command Simulate words j t is parts = map_some simulated (start_of t) j is (λ b first last. subst (λ (k : Task). IsTask (codes "sim" ∷ words) k) last (simulates words t b first parts))
behind_command Run words j t is parts = map_some ran (start_of t) j is (λ b first last. subst (λ (k : Task). IsTask (codes "run" ∷ words) k) last (runs words t b first parts))

pub reads : (words : List Text) (job : Task) → task_of words ≡ Some job → IsTask words job
reads [] j is = cc
reads (word ∷ words) j is =
    option_and_then_some (task_behind words) (command_of word) j is (λ command first second.
    subst (λ (c : Text). IsTask (c ∷ words) j) (sym (called_so word_of all_commands word command first))
    (option_and_then_some (task command) (walk (record { waits = None; given = nothing }) words) j second (λ t third fourth.
    behind_command command words j t fourth (parts_found words (record { waits = None; given = nothing }) t third))))

-- and back
abbrev head : List Text → Option Text
head [] = None
head (text ∷ texts) = Some text

lone : (usual low high : ℕ) (texts : List Text) (n : ℕ) → Gives usual low high texts n → texts ≡ listed (head texts)
lone usual low high [] n is = refl
lone usual low high (text ∷ []) n is = refl
lone usual low high (text ∷ other ∷ texts) n is = elim is [ ]

number_back : (usual low high : ℕ) (texts : List Text) (n : ℕ) → Gives usual low high texts n → number_or usual low high (head texts) ≡ Some n
number_back usual low high [] n is = ap Some (sym is)
number_back usual low high (text ∷ []) n is = given low high text n is
number_back usual low high (text ∷ other ∷ texts) n is = elim is [ ]

lone_seed : (texts : List Text) (seed : Option ℕ) → GivesSeed texts seed → texts ≡ listed (head texts)
lone_seed [] None is = refl
lone_seed (text ∷ []) (Some n) is = refl
lone_seed [] (Some n) is = elim is [ ]
lone_seed (text ∷ []) None is = elim is [ ]
lone_seed (text ∷ other ∷ texts) seed is = elim is [ ]

seed_back : (texts : List Text) (seed : Option ℕ) → GivesSeed texts seed → seed_of (head texts) ≡ Some seed
seed_back [] None is = refl
seed_back (text ∷ []) (Some n) is = ap (λ (o : Option ℕ). option_map (λ (m : ℕ). Some m) o) (given 0 (2 ^ 64 - 1) text n is)
seed_back [] (Some n) is = elim is [ ]
seed_back (text ∷ []) None is = elim is [ ]
seed_back (text ∷ other ∷ texts) seed is = elim is [ ]

file_alone : (texts : List Text) (m : Option Text) → GivesFile texts m → texts ≡ listed m
file_alone [] None is = refl
file_alone (text ∷ []) (Some name) is = ap (λ (x : Text). x ∷ []) is.0
file_alone [] (Some name) is = elim is [ ]
file_alone (text ∷ []) None is = elim is [ ]
file_alone (text ∷ other ∷ texts) m is = elim is [ ]

file_back : (texts : List Text) (m : Option Text) → GivesFile texts m → may_name m ≡ Some m
file_back [] None is = refl
file_back (text ∷ []) (Some name) is = rw is.1 refl
file_back [] (Some name) is = elim is [ ]
file_back (text ∷ []) None is = elim is [ ]
file_back (text ∷ other ∷ texts) m is = elim is [ ]

-- the texts that parts give
abbrev compiled_texts : Text → Text → Texts
compiled_texts name out = record { file = Some name; units = None; budget = None; seed = None; out = Some out; map = None; dump = None }

abbrev started_texts : Text → Option Text → Option Text → List Part → Texts
started_texts name map dump parts = record { file = Some name; units = head (values Units parts); budget = head (values Budget parts); seed = head (values Seed parts); out = None; map = map; dump = dump }

compile_back : (name out : Text) (parts : List Part) → IsCompilation name out parts → add_all parts nothing ≡ Some (compiled_texts name out)
compile_back name out parts is = added parts nothing (compiled_texts name out) (record {
  file_too = is.one_file;
  units_too = is.no_other.0;
  budget_too = is.no_other.1.0;
  seed_too = is.no_other.1.1.0;
  out_too = file_alone (values Out parts) (Some out) is.one_out;
  map_too = is.no_other.1.1.1.0;
  dump_too = is.no_other.1.1.1.1.0;
})

start_back : (name : Text) (options : SimOptions) (map dump : Option Text) (parts : List Part) → IsStart name options map dump parts → add_all parts nothing ≡ Some (started_texts name map dump parts)
start_back name options map dump parts is = added parts nothing (started_texts name map dump parts) (record {
  file_too = is.one_file;
  units_too = lone 4 1 64 (values Units parts) options.units is.units;
  budget_too = lone 100000000 1 (2 ^ 40) (values Budget parts) options.budget is.budget;
  seed_too = lone_seed (values Seed parts) options.seed is.seed;
  out_too = is.no_other.0;
  map_too = file_alone (values Map parts) map is.one_map;
  dump_too = file_alone (values Dump parts) dump is.one_dump;
})

-- what a run begins with
start_is : (name : Text) (options : SimOptions) (map dump : Option Text) (parts : List Part) → IsStart name options map dump parts → start_of (started_texts name map dump parts) ≡ Some (record { file = name; options = options; map = map; dump = dump })
start_is name options map dump parts is =
    rw (number_back 4 1 64 (values Units parts) options.units is.units, number_back 100000000 1 (2 ^ 40) (values Budget parts) options.budget is.budget, seed_back (values Seed parts) options.seed is.seed, file_back (values Map parts) map is.one_map, file_back (values Dump parts) dump is.one_dump) refl

pub spelled : (words : List Text) (job : Task) → IsTask words job → task_of words ≡ Some job
spelled _ _ (to_compile name out {parts} {words} spells is) =
    ap (option_and_then (task Compile)) (read_parts spells nothing ∙ compile_back name out parts is) ∙ rw (file_back (values Out parts) (Some out) is.one_out) refl
spelled _ _ (to_simulate name options map dump {parts} {words} spells is) =
    ap (option_and_then (task Simulate)) (read_parts spells nothing ∙ start_back name options map dump parts is) ∙ ap (option_map simulated) (start_is name options map dump parts is)
spelled _ _ (to_run name options map dump {parts} {words} spells is) =
    ap (option_and_then (task Run)) (read_parts spells nothing ∙ start_back name options map dump parts is) ∙ ap (option_map ran) (start_is name options map dump parts is)
