-- The program that a tree stands for.
use Rattle.std.specs.Prelude.{◌≡◌, ℕ, Bool, true, false, List, [], ◌∷◌, ◌++◌, map, length, Option, Some, None, codes}
use Rattle.std.specs.Option.{unwrap_or}
use Rattle.raw_tree.specs.declared.tree.RawExpr.{RawExpr}
use Rattle.raw_tree.specs.declared.tree.RawValues.{RawValues}
use Rattle.raw_tree.specs.declared.tree.RawGlobal.{RawGlobal}
use Rattle.raw_tree.specs.declared.tree.RawGlobal.TheVariants as g
use Rattle.raw_tree.specs.declared.tree.RawRegister.{RawRegister}
use Rattle.raw_tree.specs.declared.tree.RawResult.{RawResult}
use Rattle.raw_tree.specs.declared.tree.RawParam.{RawParam}
use Rattle.raw_tree.specs.declared.tree.RawStmt.{RawStmt}
use Rattle.raw_tree.specs.declared.tree.RawItem.{RawItem}
use Rattle.raw_tree.specs.declared.tree.RawItemKind.{RawItemKind}
use Rattle.raw_tree.specs.declared.tree.RawItemKind.TheVariants as i
use Rattle.raw_tree.specs.declared.tree.RawProgram.{RawProgram}
use Rattle.source_meaning.specs.declared.tree.GlobalVar.{GlobalVar}
use Rattle.source_meaning.specs.declared.tree.Register.{Register}
use Rattle.source_meaning.specs.declared.tree.Function.{Function}
use Rattle.source_meaning.specs.declared.tree.Program.{Program}
use Rattle.name_scopes.specs.declared.fault.Fault.{Fault}
use Rattle.name_scopes.specs.declared.scope.Declared.{Declared}
use Rattle.name_scopes.specs.Constant.{constant}
use Rattle.name_scopes.specs.Fault.{IsAmong}
use Rattle.name_scopes.specs.Locals.{Env, is_constant}
use Rattle.name_scopes.specs.Scope.{look}
use Rattle.name_faults.specs.Expressions.{meaning_of}
use Rattle.name_faults.specs.Statements.{after_all}
use Rattle.name_faults.specs.Nodes.{params_of}
use Rattle.name_faults.specs.Items.{name_of_head, has_value, declare_params, enter_all, no_names, program_faults}
use Rattle.typed_programs.specs.Expressions.{number, function_number}
use Rattle.typed_programs.specs.Statements.{typed_all}

-- the value of a constant expression
abbrev pub value_of : RawExpr → ℕ
value_of a = unwrap_or (constant a.kind) 0

abbrev pub opening_of : Option RawExpr → List ℕ
opening_of None = []
opening_of (Some a) = value_of a ∷ []

abbrev pub values_of : Option RawValues → List ℕ
values_of None = []
values_of (Some values) = map value_of values.values

abbrev pub global : (constant : Bool) → RawGlobal → GlobalVar
global constant (g.Scalar name value) = record { name = name.bytes; array = false; length = 1; constant = constant; opening = opening_of value }
global constant (g.Array name words values) = record { name = name.bytes; array = true; length = value_of words; constant = constant; opening = values_of values }
global constant (g.Open name values) = record { name = name.bytes; array = true; length = number (length values.values); constant = constant; opening = map value_of values.values }

abbrev pub globals_of : RawItemKind → List GlobalVar
globals_of (i.Globals ty all) = map (global (is_constant ty.qualifiers)) all
globals_of _ = []

-- a register opens with its value, or with 0
abbrev pub register_opening : Option RawExpr → ℕ
register_opening None = 0
register_opening (Some a) = value_of a

abbrev pub register : RawRegister → Register
register r = record { name = r.name.bytes; opening = register_opening r.value }

abbrev pub registers_of : RawItemKind → List Register
registers_of (i.Registers int all) = map register all
registers_of _ = []

-- what is in reach where the body of a function begins; its parameters are its first variables
abbrev pub at_start : List Declared → List RawParam → Env
at_start ds params = declare_params params (record { declared = ds; variables = [] })

-- a function, in the names of the whole file
abbrev pub function : List Declared → RawResult → List RawParam → List RawStmt → Function
function ds result params body =
    record {
      name = (name_of_head result).bytes;
      value = has_value result;
      params = number (length params);
      variables = number (length (after_all body (at_start ds params)).variables);
      body = typed_all body (at_start ds params);
    }

abbrev pub functions_of : List Declared → RawItemKind → List Function
functions_of ds (i.Function result params body) = function ds result (params_of params) body ∷ []
functions_of ds _ = []

-- what the items give, one behind the other
abbrev pub all_of : {X : Type 0} → (RawItemKind → List X) → List RawItem → List X
all_of part [] = []
all_of part (x ∷ rest) = part x.kind ++ all_of part rest

abbrev pub names_of_file : RawProgram → List Declared
names_of_file tree = (enter_all tree.items no_names).declared

-- the number of the function `main`
abbrev pub main_of : List Declared → ℕ
main_of ds = function_number (meaning_of (look ds (codes "main")))

-- the program of a tree
abbrev pub program : RawProgram → Program
program tree =
    record {
      globals = all_of globals_of tree.items;
      registers = all_of registers_of tree.items;
      functions = all_of (functions_of (names_of_file tree)) tree.items;
      main = main_of (names_of_file tree);
    }

-- the tree breaks no rule of names and types, and this is its program
pub record Resolves (tree : RawProgram) (result : Program) : Type 0 where
  pub sound : (fault : Fault) → ¬ IsAmong fault (program_faults tree)
  pub same : result ≡ program tree
