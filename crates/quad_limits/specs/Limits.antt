-- The limits that the quads of a program keep to.
use Rattle.std.specs.Prelude.{◌≡◌, ℕ, ◌*◌, ◌^◌, ◌<◌, ◌≤◌, Bool, All, Some, slice_get}
use Rattle.source_meaning.specs.declared.tree.Function.{Function}
use Rattle.source_meaning.specs.declared.tree.Program.{Program}
use Rattle.source_meaning.specs.Layout.{all_words}
use Rattle.xmt_quads.specs.declared.code.QuadFunction.{QuadFunction}
use Rattle.xmt_quads.specs.declared.code.QuadProgram.{QuadProgram}
use Rattle.xmt_quads.specs.Program.{weight_of}
use Rattle.xmt_quads.specs.WellFormed.{AreBelow, NamesExist}
use Rattle.quad_code.specs.Functions.{outer_of}
use Rattle.quad_code.specs.Whole.{IsCodeOf, IsKnown}
use Rattle.tree_measures.specs.Nodes.{program_nodes}
use Rattle.quad_limits.specs.Waiting.{function_registers}

-- the weights add up to at most 64 for each node of the tree
abbrev pub QuadsAreLight : Type 0
QuadsAreLight = (program : Program) (quads : QuadProgram) → IsCodeOf program quads → weight_of quads ≤ 64 * program_nodes program

-- the quads of each function name registers of its variables, and as many more as values wait in it
abbrev pub RegistersAreFew : Type 0
RegistersAreFew =
    (program : Program) (inner : (function : ℕ) → Bool) (quads : QuadProgram) → IsKnown program inner → IsCodeOf program quads →
    (f : ℕ) (function : Function) (code : QuadFunction) → slice_get program.functions f ≡ Some function → slice_get quads.functions f ≡ Some code →
    All (AreBelow (function_registers function)) code.quads

-- each global has a word, and together they have at most 2^20
pub record HasWords (program : Program) : Type 0 where
  pub some : All (λ global. 1 ≤ global.length) program.globals
  pub few : all_words program.globals ≤ 2 ^ 20

-- what the quads of each function name is there, and their jumps stay in the function, if there are outer words for its shared variables
abbrev pub NamesAreThere : Type 0
NamesAreThere =
    (program : Program) (inner : (function : ℕ) → Bool) (quads : QuadProgram) → IsKnown program inner → IsCodeOf program quads → HasWords program →
    (f : ℕ) (function : Function) (code : QuadFunction) → slice_get program.functions f ≡ Some function → slice_get quads.functions f ≡ Some code →
    ((slot number : ℕ) → outer_of function.body slot ≡ Some number → number < quads.outer) → All (NamesExist quads code) code.quads
