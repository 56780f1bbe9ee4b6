-- Where the globals lie: one after another, in order of declaration, from word 0 on.
use Rattle.std.specs.Prelude.{ℕ, zero, suc, ◌+◌, ◌-◌, List, [], ◌∷◌, ◌++◌, ◌≤◌, length, map, take, replicate, sum_by}
use Rattle.xmt_base.specs.declared.values.Symbol.{Symbol}
use Rattle.source_meaning.specs.declared.tree.GlobalVar.{GlobalVar}
use Rattle.source_meaning.specs.declared.tree.Program.{Program}

-- the first word of the global with this number
abbrev pub first_word : List GlobalVar → ℕ → ℕ
first_word [] g = 0
first_word (global ∷ globals) zero = 0
first_word (global ∷ globals) (suc g) = global.length + first_word globals g

-- how many words the global with this number has
abbrev pub words_of : List GlobalVar → ℕ → ℕ
words_of [] g = 0
words_of (global ∷ globals) zero = global.length
words_of (global ∷ globals) (suc g) = words_of globals g

abbrev pub all_words : List GlobalVar → ℕ
all_words globals = sum_by (λ global. global.length) globals

-- the words that the globals open with: the given values, and 0 for the rest of each length
abbrev pub opening_words : List GlobalVar → List ℕ
opening_words [] = []
opening_words (global ∷ globals) =
    global.opening ++ replicate (global.length - length global.opening) 0 ++ opening_words globals

-- what the eight prefix-sum registers open with: those of the program with their own values, and 0 behind them
abbrev pub opening_registers : Program → List ℕ
opening_registers program = take 8 (map (λ r. r.opening) program.registers ++ replicate 8 0)

-- the globals as symbols, of which the first begins at this word
abbrev pub symbols_from : (base : ℕ) → List GlobalVar → List Symbol
symbols_from base [] = []
symbols_from base (global ∷ globals) =
    record { name = global.name; base = base; length = global.length } ∷ symbols_from (base + global.length) globals

-- no global has more opening values than words
abbrev pub HasRoom : GlobalVar → Type 0
HasRoom global = length global.opening ≤ global.length
