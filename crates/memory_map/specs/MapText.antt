-- What a map makes of the opening words.
use Rattle.std.specs.Prelude.{◌≡◌, ⊤, ℕ, ◌+◌, Bool, true, false, if◌then◌else◌, nat_lt, List, [], ◌∷◌, length, position, replicate, slice_get, slice_set, unwrap_or, Result}
use Rattle.std.specs.declared.option.Option.{Option}
use Rattle.std.specs.declared.option.Option.TheVariants.{Some, None}
use Rattle.std.specs.Prelude.{Ok, Err}
use Rattle.std.specs.Option.{option_and_then}
use Rattle.std.specs.Str.{bytes_eq}
use Rattle.xmt_base.specs.declared.values.Symbol.{Symbol}
use Rattle.xmt_base.specs.Name.{is_name}
use Rattle.memory_map.specs.declared.read.MapRefusal.{MapRefusal}
use Rattle.memory_map.specs.declared.read.MapRefusal.TheVariants.{BadLine, UnknownName, DoubleName, TooManyValues, BadNumber, NoMemory}
use Rattle.memory_map.specs.declared.read.Reading.{Reading}
use Rattle.memory_map.specs.Words.{value_of, words_of, text_lines}

-- where among the symbols a name stands
abbrev pub index_of : List Symbol → List ℕ → Option ℕ
index_of symbols name = position (λ s. bytes_eq name s.name) symbols

-- the words with the values of these texts from a place on, where each text is a value
abbrev pub put_values : ℕ → List ℕ → List (List ℕ) → Option (List ℕ)
put_values at words [] = Some words
put_values at words (text ∷ texts) = option_and_then (λ value. put_values (at + 1) (slice_set words at value) texts) (value_of text)

-- the words with the values, and the symbol marked as named
abbrev pub read_values : ℕ → List Bool → ℕ → Option (List ℕ) → Result Reading MapRefusal
read_values number named k None = Err (BadNumber number)
read_values number named k (Some words) = Ok (record { words = words; named = slice_set named k true })

-- a line that names the symbol at place k: there are as many words as the symbol has, or fewer, and each is a value
abbrev pub read_symbol : ℕ → Reading → ℕ → Option Symbol → List (List ℕ) → Result Reading MapRefusal
read_symbol number old k None texts = Err (UnknownName number)
read_symbol number old k (Some s) texts = if nat_lt s.length (length texts) then Err (TooManyValues number) else read_values number old.named k (put_values s.base old.words texts)

-- a line that begins with the name of the symbol at this place, which no earlier line named
abbrev pub read_named : List Symbol → ℕ → Reading → Option ℕ → List (List ℕ) → Result Reading MapRefusal
read_named symbols number old None texts = Err (UnknownName number)
read_named symbols number old (Some k) texts = if unwrap_or (slice_get old.named k) false then Err (DoubleName number) else read_symbol number old k (slice_get symbols k) texts

-- the line with this number and these words
abbrev pub read_line : List Symbol → ℕ → Reading → List (List ℕ) → Result Reading MapRefusal
read_line symbols number old [] = Ok old
read_line symbols number old (name ∷ texts) = if is_name name then read_named symbols number old (index_of symbols name) texts else Err (BadLine number)

-- what comes of the first faulty line, or of all lines
abbrev pub and_then : Result Reading MapRefusal → (Reading → Result Reading MapRefusal) → Result Reading MapRefusal
and_then (Ok reading) next = next reading
and_then (Err fault) next = Err fault

-- these lines in order, of which the first has this number
abbrev pub read_lines : List Symbol → ℕ → Reading → List (List ℕ) → Result Reading MapRefusal
read_lines symbols number old [] = Ok old
read_lines symbols number old (line ∷ lines) = and_then (read_line symbols number old (words_of line)) (λ new. read_lines symbols (number + 1) new lines)

-- no symbol is named yet
abbrev pub opening_of : List Symbol → List ℕ → Reading
opening_of symbols words = record { words = words; named = replicate (length symbols) false }

-- a whole map over the opening words
abbrev pub read_text : List Symbol → List ℕ → List ℕ → Result Reading MapRefusal
read_text symbols words bytes = read_lines symbols 1 (opening_of symbols words) (text_lines bytes)

-- the bytes are a map that makes the new words of the opening ones
abbrev pub MapText : List ℕ → List Symbol → List ℕ → List ℕ → Type 0
MapText bytes symbols old new = (named : List Bool) × (read_text symbols old bytes ≡ Ok (record { words = new; named = named }))

-- the bytes are no map, for this reason, unless memory ran out
abbrev pub IsRefused : List ℕ → List Symbol → List ℕ → MapRefusal → Type 0
IsRefused bytes symbols words NoMemory = ⊤
IsRefused bytes symbols words fault = read_text symbols words bytes ≡ Err fault
