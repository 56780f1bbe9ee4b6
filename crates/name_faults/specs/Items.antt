-- What is broken in a whole tree.
use Rattle.std.specs.Prelude.{ℕ, ◌^◌, ◌==◌, nat_lt, ◌&&◌, not, if◌then◌else◌, Bool, true, false, List, [], ◌∷◌, ◌++◌, map, length, is_some, Option, Some, None, codes}
use Rattle.std.specs.List.{list_any}
use Rattle.std.specs.Str.{bytes_eq}
use Rattle.xmt_base.specs.declared.values.Place.{Place}
use Rattle.raw_tree.specs.declared.tree.RawName.{RawName}
use Rattle.raw_tree.specs.declared.tree.RawStmt.{RawStmt}
use Rattle.raw_tree.specs.declared.tree.RawValues.{RawValues}
use Rattle.raw_tree.specs.declared.tree.RawGlobal.{RawGlobal}
use Rattle.raw_tree.specs.declared.tree.RawGlobal.TheVariants as g
use Rattle.raw_tree.specs.declared.tree.RawRegister.{RawRegister}
use Rattle.raw_tree.specs.declared.tree.RawResult.{RawResult}
use Rattle.raw_tree.specs.declared.tree.RawResult.TheVariants as head
use Rattle.raw_tree.specs.declared.tree.RawParam.{RawParam}
use Rattle.raw_tree.specs.declared.tree.RawItem.{RawItem}
use Rattle.raw_tree.specs.declared.tree.RawItemKind.{RawItemKind}
use Rattle.raw_tree.specs.declared.tree.RawItemKind.TheVariants as i
use Rattle.raw_tree.specs.declared.tree.RawProgram.{RawProgram}
use Rattle.name_scopes.specs.declared.fault.Which.TheVariants as which
use Rattle.name_scopes.specs.declared.fault.NameKind.TheVariants as kind
use Rattle.name_scopes.specs.declared.scope.Meaning.{Meaning}
use Rattle.name_scopes.specs.declared.scope.Meaning.TheVariants as means
use Rattle.name_scopes.specs.declared.scope.Declared.{Declared}
use Rattle.name_scopes.specs.Fault.{Faults, none, both, when, over}
use Rattle.name_scopes.specs.Scope.{look, declare}
use Rattle.name_scopes.specs.Constant.{constant}
use Rattle.name_scopes.specs.Locals.{Env, declare_local, is_constant}
use Rattle.name_faults.specs.declared.items.File.{File}
use Rattle.name_faults.specs.Expressions.{constant_faults, constants_faults, constant_option}
use Rattle.name_faults.specs.Statements.{double_fault, after_all, statements_faults}
use Rattle.name_faults.specs.Nodes.{params_of, nodes_of_items}

-- ---- what the whole file declares

-- the names, and where each global, register and function is declared, in order
pub record Names : Type 0 where
  pub declared : List Declared
  pub globals : List Place
  pub registers : List Place
  pub functions : List Place

abbrev pub names : File → Names
names file = record { declared = file.scope.declared; globals = file.globals; registers = file.registers; functions = file.functions }

abbrev pub no_names : Names
no_names = record { declared = []; globals = []; registers = []; functions = [] }

-- the first declaration of a name counts
abbrev pub declare_first : RawName → Meaning → List Declared → List Declared
declare_first name meaning ds = if is_some (look ds name.bytes) then ds else declare name.bytes meaning ds

abbrev pub name_of_global : RawGlobal → RawName
name_of_global (g.Scalar name value) = name
name_of_global (g.Array name words values) = name
name_of_global (g.Open name values) = name

-- what a global is, by its number and whether it is constant
abbrev pub meaning_of_global : (number : ℕ) (constant : Bool) → RawGlobal → Meaning
meaning_of_global number constant (g.Scalar name value) = means.Scalar number constant
meaning_of_global number constant (g.Array name words values) = means.Array number constant
meaning_of_global number constant (g.Open name values) = means.Array number constant

abbrev pub enter_global : (constant : Bool) → RawGlobal → Names → Names
enter_global constant global file =
    record {
      declared = declare_first (name_of_global global) (meaning_of_global (length file.globals) constant global) file.declared;
      globals = file.globals ++ (name_of_global global).at ∷ [];
      registers = file.registers;
      functions = file.functions;
    }

abbrev pub enter_register : RawRegister → Names → Names
enter_register register file =
    record {
      declared = declare_first register.name (means.Register (length file.registers)) file.declared;
      globals = file.globals;
      registers = file.registers ++ register.name.at ∷ [];
      functions = file.functions;
    }

abbrev pub name_of_head : RawResult → RawName
name_of_head (head.Int name) = name
name_of_head (head.Void name) = name
name_of_head (head.Main name) = name

-- the calls have a value
abbrev pub has_value : RawResult → Bool
has_value (head.Int name) = true
has_value (head.Void name) = false
has_value (head.Main name) = true

abbrev pub enter_function : RawResult → (params : ℕ) → Names → Names
enter_function result params file =
    record {
      declared = declare_first (name_of_head result) (means.Function (length file.functions) (has_value result) params) file.declared;
      globals = file.globals;
      registers = file.registers;
      functions = file.functions ++ (name_of_head result).at ∷ [];
    }

abbrev pub enter_globals : (constant : Bool) → List RawGlobal → Names → Names
enter_globals constant [] file = file
enter_globals constant (global ∷ rest) file = enter_globals constant rest (enter_global constant global file)

abbrev pub enter_registers : List RawRegister → Names → Names
enter_registers [] file = file
enter_registers (register ∷ rest) file = enter_registers rest (enter_register register file)

-- a prototype declares nothing
abbrev pub enter : RawItemKind → Names → Names
enter (i.Globals ty all) file = enter_globals (is_constant ty.qualifiers) all file
enter (i.Registers int all) file = enter_registers all file
enter (i.Function result params body) file = enter_function result (length (params_of params)) file
enter (i.Proto result params) file = file

abbrev pub enter_all : List RawItem → Names → Names
enter_all [] file = file
enter_all (x ∷ rest) file = enter_all rest (enter x.kind file)

-- ---- names that are declared twice

abbrev pub again_fault : RawName → List Declared → Faults
again_fault name ds = when (is_some (look ds name.bytes)) kind.Double name.at

abbrev pub again_globals : (constant : Bool) → List RawGlobal → Names → Faults
again_globals constant [] file = none
again_globals constant (global ∷ rest) file = both (again_fault (name_of_global global) file.declared) (again_globals constant rest (enter_global constant global file))

abbrev pub again_registers : List RawRegister → Names → Faults
again_registers [] file = none
again_registers (register ∷ rest) file = both (again_fault register.name file.declared) (again_registers rest (enter_register register file))

abbrev pub again : RawItemKind → Names → Faults
again (i.Globals ty all) file = again_globals (is_constant ty.qualifiers) all file
again (i.Registers int all) file = again_registers all file
again (i.Function result params body) file = again_fault (name_of_head result) file.declared
again (i.Proto result params) file = none

abbrev pub again_all : List RawItem → Names → Faults
again_all [] file = none
again_all (x ∷ rest) file = both (again x.kind file) (again_all rest (enter x.kind file))

-- ---- globals, registers and functions

-- a signed number of 32 bits that is at least 1
abbrev pub is_length : ℕ → Bool
is_length n = nat_lt 0 n && nat_lt n (2 ^ 31)

-- how many values an array of this length has room for
abbrev pub room : ℕ → ℕ
room n = if nat_lt n (2 ^ 31) then n else 0

abbrev pub length_fault : RawName → Option ℕ → Faults
length_fault name None = none
length_fault name (Some n) = when (not (is_length n)) kind.BadLength name.at

abbrev pub count_fault : RawName → (count : ℕ) → Option ℕ → Faults
count_fault name count None = none
count_fault name count (Some n) = when (nat_lt (room n) count) kind.WrongCount name.at

-- in the whole file's names
module _ (ds : List Declared) where
  abbrev pub initial_faults : RawName → (words : Option ℕ) → Option RawValues → Faults
  initial_faults name words None = none
  initial_faults name words (Some values) = both (count_fault name (length values.values) words) (constants_faults ds values.values)

  abbrev pub global_faults : RawGlobal → Faults
  global_faults (g.Scalar name value) = constant_option ds value
  global_faults (g.Array name words values) = both (both (constant_faults ds words) (length_fault name (constant words.kind))) (initial_faults name (constant words.kind) values)
  global_faults (g.Open name values) = both (when (length values.values == 0) kind.BadLength name.at) (constants_faults ds values.values)

  abbrev pub globals_faults : List RawGlobal → Faults
  globals_faults [] = none
  globals_faults (global ∷ rest) = both (global_faults global) (globals_faults rest)

  abbrev pub registers_faults : List RawRegister → Faults
  registers_faults [] = none
  registers_faults (register ∷ rest) = both (constant_option ds register.value) (registers_faults rest)

-- ---- functions

-- a parameter that has no name takes a number all the same
abbrev pub declare_named : (constant : Bool) (at : Place) → Option RawName → Env → Env
declare_named constant at None env = record { declared = env.declared; variables = env.variables ++ at ∷ [] }
declare_named constant at (Some name) env = declare_local constant name env

abbrev pub declare_param : RawParam → Env → Env
declare_param param env = declare_named (is_constant param.ty.qualifiers) param.ty.at param.name env

abbrev pub declare_params : List RawParam → Env → Env
declare_params [] env = env
declare_params (param ∷ rest) env = declare_params rest (declare_param param env)

abbrev pub double_named : (start : ℕ) → Option RawName → List Declared → Faults
double_named start None ds = none
double_named start (Some name) ds = double_fault start name ds

abbrev pub params_faults : (start : ℕ) → List RawParam → Env → Faults
params_faults start [] env = none
params_faults start (param ∷ rest) env = both (double_named start param.name env.declared) (params_faults start rest (declare_param param env))

abbrev pub place_of_name : Place → Option RawName → Place
place_of_name at None = at
place_of_name at (Some name) = name.at

abbrev pub place_of_param : RawParam → Place
place_of_param param = place_of_name param.ty.at param.name

-- parameters and the outermost block are one scope
abbrev pub function_faults : List Declared → RawResult → List RawParam → List RawStmt → Faults
function_faults ds result params body =
    let inside : Env = declare_params params (record { declared = ds; variables = [] }) in
    both (params_faults (length ds) params (record { declared = ds; variables = [] }))
    (both (statements_faults (has_value result) (length ds) body inside)
    (both (over 8 which.Parameters (map place_of_param params)) (over 200 which.Variables (after_all body inside).variables)))

abbrev pub item_faults : List Declared → RawItemKind → Faults
item_faults ds (i.Globals ty all) = globals_faults ds all
item_faults ds (i.Registers int all) = registers_faults ds all
item_faults ds (i.Function result params body) = function_faults ds result (params_of params) body
item_faults ds (i.Proto result params) = none

abbrev pub items_faults : List Declared → List RawItem → Faults
items_faults ds [] = none
items_faults ds (x ∷ rest) = both (item_faults ds x.kind) (items_faults ds rest)

-- ---- the whole

-- a function `main` without parameters
abbrev pub is_main : RawItemKind → Bool
is_main (i.Function result params body) = bytes_eq (name_of_head result).bytes (codes "main") && length (params_of params) == 0
is_main _ = false

abbrev pub has_main : List RawItem → Bool
has_main items = list_any (λ (x : RawItem). is_main x.kind) items

abbrev pub limits_faults : Names → Faults
limits_faults file = both (over 4096 which.Globals file.globals) (both (over 1000 which.Functions file.functions) (over 8 which.Registers file.registers))

abbrev pub end_faults : RawProgram → Faults
end_faults raw = both (when (nat_lt 65536 (nodes_of_items raw.items)) (kind.TooMany which.Nodes) raw.end) (when (not (has_main raw.items)) kind.NoMain raw.end)

-- what is broken in a tree
abbrev pub program_faults : RawProgram → Faults
program_faults raw =
    let file : Names = enter_all raw.items no_names in
    both (again_all raw.items no_names) (both (items_faults file.declared raw.items) (both (limits_faults file) (end_faults raw)))
