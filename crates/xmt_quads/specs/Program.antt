-- What stands in a quad program: its quads and their lines, its texts, and the blocks of its spawns.
use Rattle.std.specs.Prelude.{ℕ, suc, ◌+◌, List, [], ◌∷◌, Option, Some, None, slice_get, slice_index, take, drop, sum_by}
use Rattle.xmt_quads.specs.declared.code.Quad.{Quad}
use Rattle.xmt_quads.specs.declared.code.Quad.TheVariants as quad
use Rattle.xmt_quads.specs.declared.code.QuadFunction.{QuadFunction}
use Rattle.xmt_quads.specs.declared.code.QuadProgram.{QuadProgram}

abbrev pub quads_of : Option QuadFunction → List Quad
quads_of None = []
quads_of (Some function) = function.quads

abbrev pub lines_of : Option QuadFunction → List ℕ
lines_of None = []
lines_of (Some function) = function.lines

-- the quads of the function with this number
abbrev pub quads_in : QuadProgram → (function : ℕ) → List Quad
quads_in program function = quads_of (slice_get program.functions function)

-- the quad at a position of a function, and its line
abbrev pub quad_at : QuadProgram → (function at : ℕ) → Option Quad
quad_at program function at = slice_get (quads_in program function) at

abbrev pub line_at : QuadProgram → (function at : ℕ) → ℕ
line_at program function at = slice_index (lines_of (slice_get program.functions function)) at

abbrev pub text_of : Option (List ℕ) → List ℕ
text_of None = []
text_of (Some text) = text

abbrev pub text_at : QuadProgram → (text : ℕ) → List ℕ
text_at program text = text_of (slice_get program.texts text)

abbrev pub is_spawn : Quad → ℕ
is_spawn (quad.Spawn low high) = 1
is_spawn _ = 0

-- how many spawns stand in these quads
abbrev pub spawns_in : List Quad → ℕ
spawns_in quads = sum_by is_spawn quads

-- the number of a spawn in the order of the program: so many stand before it
abbrev pub site_at : QuadProgram → (function at : ℕ) → ℕ
site_at program function at =
    sum_by (λ f. spawns_in f.quads) (take function program.functions) + spawns_in (take at (quads_in program function))

abbrev pub quads_to_join : List Quad → ℕ
quads_to_join [] = 0
quads_to_join (quad.Join ∷ quads) = 0
quads_to_join (q ∷ quads) = suc (quads_to_join quads)

-- the position behind the next join
abbrev pub behind_join : List Quad → (at : ℕ) → ℕ
behind_join quads at = at + quads_to_join (drop at quads) + 1

-- the work of a quad
abbrev pub weight : Quad → ℕ
weight (quad.Call function) = 44
weight (quad.Argument place o) = 2
weight _ = 4

-- the work of all quads of a program, each done once
abbrev pub weight_of : QuadProgram → ℕ
weight_of program = sum_by (λ f. sum_by weight f.quads) program.functions
