-- What the words behind the command give, read from left to right.
use Rattle.std.specs.Prelude.{ℕ, ◌==◌, ◌+◌, Bool, false, not, if◌then◌else◌, List, [], ◌∷◌, codes, drop, position}
use Rattle.std.specs.declared.option.Option.{Option}
use Rattle.std.specs.declared.option.Option.TheVariants.{Some, None}
use Rattle.std.specs.Option.{option_and_then, option_map}
use Rattle.std.specs.List.{before_first}
use Rattle.std.specs.Str.{bytes_eq}
use Rattle.xmt_cli.specs.declared.given.Key.{Key}
use Rattle.xmt_cli.specs.declared.given.Key.TheVariants.{Units, Budget, Seed, Out, Map, Dump}

abbrev pub Text : Type 0
Text = List ℕ

-- a file name isn't empty and doesn't begin with a hyphen
abbrev pub is_file_name : Text → Bool
is_file_name [] = false
is_file_name (c ∷ cs) = not (c == 45)

-- the first of some things that is called this
abbrev pub called : {A : Type 0} → (A → Text) → List A → Text → Option A
called name_of [] name = None
called name_of (x ∷ xs) name = if bytes_eq name (name_of x) then Some x else called name_of xs name

-- the name of an option, as it stands behind two hyphens
abbrev pub name_of : Key → Text
name_of Units = codes "units"
name_of Budget = codes "budget"
name_of Seed = codes "seed"
name_of Out = codes "out"
name_of Map = codes "map"
name_of Dump = codes "dump"

abbrev pub all_keys : List Key
all_keys = Units ∷ Budget ∷ Seed ∷ Out ∷ Map ∷ Dump ∷ []

-- the option of a name
abbrev pub key_of : Text → Option Key
key_of name = called name_of all_keys name

-- the texts that were given, each in its place
pub record Texts : Type 0 where
  pub file : Option Text
  pub units : Option Text
  pub budget : Option Text
  pub seed : Option Text
  pub out : Option Text
  pub map : Option Text
  pub dump : Option Text

abbrev pub nothing : Texts
nothing = record { file = None; units = None; budget = None; seed = None; out = None; map = None; dump = None }

-- a text where there was none
abbrev pub once : Option Text → Text → (Option Text → Texts) → Option Texts
once None text made = Some (made (Some text))
once (Some old) text made = None

-- each option stands at most once
abbrev pub put : Key → Texts → Text → Option Texts
put Units w value = once w.units value (λ o. record w { units = o })
put Budget w value = once w.budget value (λ o. record w { budget = o })
put Seed w value = once w.seed value (λ o. record w { seed = o })
put Out w value = once w.out value (λ o. record w { out = o })
put Map w value = once w.map value (λ o. record w { map = o })
put Dump w value = once w.dump value (λ o. record w { dump = o })

-- and so does the file
abbrev pub put_file : Texts → Text → Option Texts
put_file w name = if is_file_name name then once w.file name (λ o. record w { file = o }) else None

-- what the words so far leave: an option that waits for its value, and what was given
pub record Walk : Type 0 where
  pub waits : Option Key
  pub given : Texts

-- nothing waits behind a value or a file
abbrev pub settled : Option Texts → Option Walk
settled None = None
settled (Some w) = Some (record { waits = None; given = w })

-- behind two hyphens: a name, and after an equals sign its value
abbrev pub take_option : Texts → Option Key → Option Text → Option Walk
take_option w None value = None
take_option w (Some key) None = Some (record { waits = Some key; given = w })
take_option w (Some key) (Some value) = settled (put key w value)

-- the text in front of the first equals sign, and what stands behind it
abbrev pub front_of : Text → Text
front_of text = before_first (λ c. c == 61) text

abbrev pub behind : Text → Option Text
behind text = option_map (λ at. drop (at + 1) text) (position (λ c. c == 61) text)

-- what follows a hyphen
abbrev pub hyphen_text : Text → Option Text
hyphen_text [] = None
hyphen_text (c ∷ cs) = if c == 45 then Some cs else None

-- what follows two hyphens
abbrev pub option_text : Text → Option Text
option_text text = option_and_then hyphen_text (hyphen_text text)

-- a word that is no value: an option, or the file
abbrev pub take_other : Texts → Text → Option Text → Option Walk
take_other w word (Some text) = take_option w (key_of (front_of text)) (behind text)
take_other w word None = settled (put_file w word)

-- one word, which is the value of the option that waits
abbrev pub take_word : Option Key → Texts → Text → Option Walk
take_word (Some key) w word = settled (put key w word)
take_word None w word = take_other w word (option_text word)

abbrev pub take_next : Walk → Text → Option Walk
take_next s word = take_word s.waits s.given word

-- all words; no option waits at the end
abbrev pub finished : Option Key → Texts → Option Texts
finished None w = Some w
finished (Some key) w = None

abbrev pub walk : Walk → List Text → Option Texts
walk s [] = finished s.waits s.given
walk s (word ∷ words) = option_and_then (λ next. walk next words) (take_next s word)
