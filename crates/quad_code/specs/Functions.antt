-- The quads of a function: its parameters, its body, and a return.
use Rattle.std.specs.Prelude.{ℕ, zero, suc, if◌then◌else◌, List, [], ◌∷◌, ◌++◌, Option, Some, None}
use Rattle.source_meaning.specs.declared.tree.Stmt.{Stmt}
use Rattle.source_meaning.specs.declared.tree.Function.{Function}
use Rattle.source_meaning.specs.Variables.{is_shared, shared_below}
use Rattle.xmt_quads.specs.declared.code.Operand.TheVariants.{Reg, Literal}
use Rattle.xmt_quads.specs.declared.code.Where.TheVariants.{Outer}
use Rattle.xmt_quads.specs.declared.code.Quad.TheVariants as quad
use Rattle.quad_code.specs.Lined.{Lined, lined, one, code_then}
use Rattle.quad_code.specs.Rows.{rows_of}
use Rattle.quad_code.specs.Statements.{Counts, sequence_at}

-- the number of a shared variable among those of the function with this body, or none where it is not shared
abbrev pub outer_of : List Stmt → (slot : ℕ) → Option ℕ
outer_of body slot = if is_shared body slot then Some (shared_below body slot) else None

-- a parameter comes from the argument list to its register or to its shared place
abbrev pub parameter_code : (variables slot : ℕ) → (shared : Option ℕ) → List Lined
parameter_code variables slot None = one 0 (quad.Parameter slot slot)
parameter_code variables slot (Some number) = lined 0 (quad.Parameter variables slot) ∷ one 0 (quad.Store (Outer number) (Reg variables))

-- so many parameters, from one on
abbrev pub parameters_code : (outer : (slot : ℕ) → Option ℕ) → (variables slot count : ℕ) → List Lined
parameters_code outer variables slot zero = []
parameters_code outer variables slot (suc count) = parameter_code variables slot (outer slot) ++ parameters_code outer variables (suc slot) count

abbrev pub function_code : (base_of size_of : (global : ℕ) → ℕ) → Counts → Function → List Lined
function_code base_of size_of met function =
    code_then 0 (parameters_code (outer_of function.body) function.variables 0 function.params) (λ at.
    sequence_at base_of size_of (outer_of function.body) function.variables at 0 0 met (rows_of function.body) ++ one 0 (quad.Return (Literal 0)))
