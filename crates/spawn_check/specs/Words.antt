-- The words that several threads may reach.
use Rattle.std.specs.Prelude.{ℕ, ◌+◌, ◌*◌, max, List, [], ◌∷◌}
use Rattle.source_meaning.specs.declared.tree.Function.{Function}
use Rattle.source_meaning.specs.declared.tree.Program.{Program}
use Rattle.source_meaning.specs.Layout.{all_words}
use Rattle.source_meaning.specs.Variables.{shared_below}

-- how many variables of a function are shared: some block writes them that does not declare them
abbrev pub shared_in : Function → ℕ
shared_in function = shared_below function.body function.variables

-- the outer words of each depth: as many as the function with the most shared variables has of them
abbrev pub outer_words : List Function → ℕ
outer_words [] = 0
outer_words (function ∷ functions) = max (shared_in function) (outer_words functions)

-- the words of the globals, and the outer words of each depth from 0 to 256
abbrev pub words_of : Program → ℕ
words_of program = all_words program.globals + 257 * outer_words program.functions
