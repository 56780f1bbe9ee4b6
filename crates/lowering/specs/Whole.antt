-- Functions and their quads.
use Rattle.std.specs.Prelude.{◌≡◌, ℕ, suc, ◌+◌, Bool, not, ◌&&◌, false, List, [], ◌∷◌, ◌++◌, map, length, slice_index_or}
use Rattle.source_meaning.specs.declared.tree.Function.{Function}
use Rattle.source_meaning.specs.declared.tree.GlobalVar.{GlobalVar}
use Rattle.source_meaning.specs.declared.tree.Program.{Program}
use Rattle.source_meaning.specs.Layout.{first_word, words_of}
use Rattle.spawn_check.specs.declared.things.Sought.TheVariants as sought
use Rattle.spawn_check.specs.Marking.{AreExact}
use Rattle.xmt_quads.specs.declared.code.QuadFunction.{QuadFunction}
use Rattle.quad_code.specs.Rows.{rows_of}
use Rattle.quad_code.specs.Functions.{function_code}
use Rattle.quad_code.specs.Whole.{all_texts, texts_of, codes_from}

-- This is the code of a function, and these texts were added. How many spawns stand before it makes no difference.
pub record IsFunctionOf (globals : List GlobalVar) (function : Function) (marked : Bool) (before behind : List (List ℕ)) (made : QuadFunction) : Type 0 where
  pub quads : (spawned : ℕ) → made.quads ≡ map (λ l. l.quad) (function_code (first_word globals) (words_of globals) (record { spawned = spawned; printed = length before }) function)
  pub lines : (spawned : ℕ) → made.lines ≡ map (λ l. l.line) (function_code (first_word globals) (words_of globals) (record { spawned = spawned; printed = length before }) function)
  pub registers : made.registers ≡ function.variables + 256
  pub inner : made.inner ≡ marked
  pub texts : behind ≡ before ++ all_texts (rows_of function.body)

-- whether the function with this number is in neither of two lists of marks
abbrev pub is_unmarked : (prints spawns : List Bool) → (function : ℕ) → Bool
is_unmarked prints spawns f = not (slice_index_or prints f false) && not (slice_index_or spawns f false)

-- the same of functions that are numbered from one on
abbrev pub unmarked_from : (prints spawns : List Bool) → (function : ℕ) → List Function → List Bool
unmarked_from prints spawns f [] = []
unmarked_from prints spawns f (function ∷ functions) = is_unmarked prints spawns f ∷ unmarked_from prints spawns (suc f) functions

-- these are the codes of functions of a program that are numbered from one on, and these texts were added
pub record AreFunctionsOf (program : Program) (prints spawns : List Bool) (first : ℕ) (functions : List Function) (before behind : List (List ℕ)) (made : List QuadFunction) : Type 0 where
  pub quads : (spawned : ℕ) → map (λ f. f.quads) made ≡ map (λ code. map (λ l. l.quad) code) (codes_from program (record { spawned = spawned; printed = length before }) functions)
  pub lines : (spawned : ℕ) → map (λ f. f.lines) made ≡ map (λ code. map (λ l. l.line) code) (codes_from program (record { spawned = spawned; printed = length before }) functions)
  pub registers : map (λ f. f.registers) made ≡ map (λ f. f.variables + 256) functions
  pub inner : map (λ f. f.inner) made ≡ unmarked_from prints spawns first functions
  pub texts : behind ≡ before ++ texts_of functions

-- these are the codes of all functions of a program, and these texts were added; the marks are those of the functions that reach a print and a spawn
pub record AreLowered (program : Program) (made : List QuadFunction) (before behind : List (List ℕ)) : Type 0 where
  pub prints : List Bool
  pub spawns : List Bool
  pub are_prints : AreExact program.functions sought.Print prints
  pub are_spawns : AreExact program.functions sought.Spawn spawns
  pub functions : AreFunctionsOf program prints spawns 0 program.functions before behind made
