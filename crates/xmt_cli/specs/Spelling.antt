-- The words of a job: `cc`, `sim` or `run`, and then, in any order, a file and options.
use Rattle.std.specs.Prelude.{ℕ, ◌≡◌, ◌≤◌, ◌-◌, ◌^◌, ⊤, true, List, [], ◌∷◌, ◌++◌, length, codes}
use Rattle.std.specs.declared.option.Option.{Option}
use Rattle.std.specs.declared.option.Option.TheVariants.{Some, None}
use Rattle.std.specs.Char.{is_ascii_digit}
use Rattle.std.specs.List.{list_all}
use Rattle.std.specs.Str.Parse.{digits_value}
use Rattle.run_options.specs.declared.options.SimOptions.{SimOptions}
use Rattle.xmt_cli.specs.declared.given.Key.{Key}
use Rattle.xmt_cli.specs.declared.given.Key.TheVariants.{Units, Budget, Seed, Out, Map, Dump}
use Rattle.xmt_cli.specs.Given.{Text, is_file_name, name_of}
use Rattle.xmt_cli.specs.JobOf.{Task, compile, simulate, run}

-- a part of a call: a file, or an option with its value
pub data Part : Type 0 where
  file : Text → Part
  option : Key → Text → Part

-- the words spell the parts, one after another; an option is two words, or one with an equals sign
pub data Spells : List Part → List Text → Type 0 where
  nothing_more : Spells [] []
  file_name : (name : Text) {parts : List Part} {words : List Text} →
      is_file_name name ≡ true → Spells parts words → Spells (file name ∷ parts) (name ∷ words)
  two_words : (key : Key) (value : Text) {parts : List Part} {words : List Text} →
      Spells parts words → Spells (option key value ∷ parts) ((codes "--" ++ name_of key) ∷ value ∷ words)
  one_word : (key : Key) (value : Text) {parts : List Part} {words : List Text} →
      Spells parts words → Spells (option key value ∷ parts) ((codes "--" ++ (name_of key ++ (codes "=" ++ value))) ∷ words)

-- the files among the parts
abbrev pub files : List Part → List Text
files [] = []
files (file name ∷ parts) = name ∷ files parts
files (option key value ∷ parts) = files parts

-- the values of an option
abbrev pub values : Key → List Part → List Text
values key [] = []
values Units (option Units value ∷ parts) = value ∷ values Units parts
values Budget (option Budget value ∷ parts) = value ∷ values Budget parts
values Seed (option Seed value ∷ parts) = value ∷ values Seed parts
values Out (option Out value ∷ parts) = value ∷ values Out parts
values Map (option Map value ∷ parts) = value ∷ values Map parts
values Dump (option Dump value ∷ parts) = value ∷ values Dump parts
values key (part ∷ parts) = values key parts

-- the text is a number of 1 to 20 decimal digits, from low to high
pub record IsNumber (low high : ℕ) (text : Text) (n : ℕ) : Type 0 where
  pub digits : list_all is_ascii_digit text ≡ true
  pub some : 1 ≤ length text
  pub few : length text ≤ 20
  pub value : digits_value 10 text ≡ n
  pub least : low ≤ n
  pub most : n ≤ high

-- an option's number: the usual one where the option isn't given, and it is given at most once
abbrev pub Gives : ℕ → ℕ → ℕ → List Text → ℕ → Type 0
Gives usual low high [] n = n ≡ usual
Gives usual low high (text ∷ []) n = IsNumber low high text n
Gives usual low high (text ∷ other ∷ texts) n = ⊥

-- a seed, where one is given
abbrev pub GivesSeed : List Text → Option ℕ → Type 0
GivesSeed [] None = ⊤
GivesSeed (text ∷ []) (Some n) = IsNumber 0 (2 ^ 64 - 1) text n
GivesSeed texts seed = ⊥

-- a file, where one is given, and it is given at most once
abbrev pub GivesFile : List Text → Option Text → Type 0
GivesFile [] None = ⊤
GivesFile (text ∷ []) (Some name) = (text ≡ name) × (is_file_name name ≡ true)
GivesFile texts name = ⊥

-- none of these options is given
abbrev pub GivesNone : List Key → List Part → Type 0
GivesNone [] parts = ⊤
GivesNone (key ∷ keys) parts = (values key parts ≡ []) × GivesNone keys parts

-- one file, and the file that its image goes to
pub record IsCompilation (name out : Text) (parts : List Part) : Type 0 where
  pub one_file : files parts ≡ name ∷ []
  pub one_out : GivesFile (values Out parts) (Some out)
  pub no_other : GivesNone (Units ∷ Budget ∷ Seed ∷ Map ∷ Dump ∷ []) parts

-- one file, its options, and the files of a map and a dump
pub record IsStart (name : Text) (options : SimOptions) (map dump : Option Text) (parts : List Part) : Type 0 where
  pub one_file : files parts ≡ name ∷ []
  pub units : Gives 4 1 64 (values Units parts) options.units
  pub budget : Gives 100000000 1 (2 ^ 40) (values Budget parts) options.budget
  pub seed : GivesSeed (values Seed parts) options.seed
  pub one_map : GivesFile (values Map parts) map
  pub one_dump : GivesFile (values Dump parts) dump
  pub no_other : GivesNone (Out ∷ []) parts

-- the words are the task
pub data IsTask : List Text → Task → Type 0 where
  to_compile : (name out : Text) {parts : List Part} {words : List Text} →
      Spells parts words → IsCompilation name out parts → IsTask (codes "cc" ∷ words) (compile name out)
  to_simulate : (name : Text) (options : SimOptions) (map dump : Option Text) {parts : List Part} {words : List Text} →
      Spells parts words → IsStart name options map dump parts → IsTask (codes "sim" ∷ words) (simulate name options map dump)
  to_run : (name : Text) (options : SimOptions) (map dump : Option Text) {parts : List Part} {words : List Text} →
      Spells parts words → IsStart name options map dump parts → IsTask (codes "run" ∷ words) (run name options map dump)
