-- The lines for the error stream.
use Rattle.std.specs.Prelude.{ℕ, List, ◌++◌, codes, Option, Some, None}
use Rattle.std.specs.Fmt.{decimal, signed_decimal}
use Rattle.xmt_base.specs.declared.values.Place.{Place}
use Rattle.xmt_base.specs.declared.values.TrapKind.{TrapKind}
use Rattle.xmt_base.specs.declared.values.TrapKind.TheVariants.{DivideByZero, Index, PsIncrement, CallDepth, Address}
use Rattle.xmt_base.specs.declared.values.Trap.{Trap}
use Rattle.xmt_base.specs.Operators.{signed}
use Rattle.name_scopes.specs.declared.fault.Which.{Which}
use Rattle.name_scopes.specs.declared.fault.Which.TheVariants as which
use Rattle.front_end.specs.declared.refusal.SourceKind.{SourceKind}
use Rattle.front_end.specs.declared.refusal.SourceKind.TheVariants as rule
use Rattle.image_loader.specs.declared.refusal.LoadKind.{LoadKind}
use Rattle.image_loader.specs.declared.refusal.LoadKind.TheVariants as load
use Rattle.memory_map.specs.declared.read.MapRefusal.{MapRefusal}
use Rattle.memory_map.specs.declared.read.MapRefusal.TheVariants as map
use Rattle.xmt_jobs.specs.declared.outcome.BytesFault.{BytesFault}
use Rattle.xmt_jobs.specs.declared.outcome.BytesFault.TheVariants.{TooLong, BadImage, BadMap}

abbrev pub no_job_line : List ℕ
no_job_line = codes "xmt: words are no command; commands are cc, sim, run, asm, dis, ref, gen\n"

abbrev pub fault_line : List ℕ
fault_line = codes "xmt: host fault\n"

abbrev pub no_memory_line : List ℕ
no_memory_line = codes "xmt: out of memory\n"

abbrev pub limit_name : Which → List ℕ
limit_name which.Variables = codes "TooMany Variables"
limit_name which.Parameters = codes "TooMany Parameters"
limit_name which.Globals = codes "TooMany Globals"
limit_name which.Functions = codes "TooMany Functions"
limit_name which.Registers = codes "TooMany Registers"
limit_name which.PrintValues = codes "TooMany PrintValues"
limit_name which.Waiting = codes "TooMany Waiting"
limit_name which.Nodes = codes "TooMany Nodes"

abbrev pub rule_name : SourceKind → List ℕ
rule_name rule.TooLong = codes "TooLong"
rule_name rule.BadByte = codes "BadByte"
rule_name rule.BadNumber = codes "BadNumber"
rule_name rule.OpenComment = codes "OpenComment"
rule_name rule.OpenText = codes "OpenText"
rule_name rule.BadEscape = codes "BadEscape"
rule_name rule.HashLine = codes "HashLine"
rule_name rule.TooDeep = codes "TooDeep"
rule_name rule.Syntax = codes "Syntax"
rule_name rule.Unknown = codes "Unknown"
rule_name rule.Double = codes "Double"
rule_name rule.NotScalar = codes "NotScalar"
rule_name rule.NotArray = codes "NotArray"
rule_name rule.NotFunction = codes "NotFunction"
rule_name rule.NotRegister = codes "NotRegister"
rule_name rule.WrongCount = codes "WrongCount"
rule_name rule.BadFormat = codes "BadFormat"
rule_name rule.VoidValue = codes "VoidValue"
rule_name rule.ConstWrite = codes "ConstWrite"
rule_name rule.NotConstant = codes "NotConstant"
rule_name rule.BadLength = codes "BadLength"
rule_name (rule.TooMany limit) = limit_name limit
rule_name rule.NoMain = codes "NoMain"
rule_name rule.DollarOutside = codes "DollarOutside"
rule_name rule.ReturnInside = codes "ReturnInside"
rule_name rule.JumpOut = codes "JumpOut"
rule_name rule.Nested = codes "Nested"
rule_name rule.PrintInside = codes "PrintInside"
rule_name rule.CallReachesSpawn = codes "CallReachesSpawn"
rule_name rule.TooMuchMemory = codes "TooMuchMemory"

-- the line for a source that breaks a rule at a place; it isn't unfolded, so that proofs carry it as it stands
unfoldable pub refusal_line : (file : List ℕ) → SourceKind → Place → List ℕ
refusal_line file kind place = codes "xmt: " ++ file ++ codes ":" ++ decimal place.line ++ codes ":" ++ decimal place.column ++ codes ": " ++ rule_name kind ++ codes "\n"

abbrev pub kind_name : TrapKind → List ℕ
kind_name DivideByZero = codes "DivideByZero"
kind_name Index = codes "Index"
kind_name PsIncrement = codes "PsIncrement"
kind_name CallDepth = codes "CallDepth"
kind_name Address = codes "Address"

-- the line for a trap of this kind on a line, of serial code or of the virtual thread with a number
abbrev pub line_of_trap : TrapKind → (line : ℕ) → (thread : Option ℕ) → List ℕ
line_of_trap kind line None = codes "xmt: trap " ++ kind_name kind ++ codes " line " ++ decimal line ++ codes " serial\n"
line_of_trap kind line (Some number) =
    codes "xmt: trap " ++ kind_name kind ++ codes " line " ++ decimal line ++ codes " thread " ++ signed_decimal (signed number) ++ codes "\n"

-- the line for a trap
abbrev pub trap_line : Trap → List ℕ
trap_line trap = line_of_trap trap.kind trap.line trap.thread

-- the line for a unit that has spent its budget; it isn't unfolded, so that proofs carry it as it stands
unfoldable pub spent_line : (unit steps : ℕ) → List ℕ
spent_line unit steps = codes "xmt: budget spent by unit " ++ decimal unit ++ codes " after " ++ decimal steps ++ codes " steps\n"

-- ---- images and maps

abbrev pub load_name : LoadKind → List ℕ
load_name load.Short = codes "Short"
load_name load.BadMark = codes "BadMark"
load_name load.BadVersion = codes "BadVersion"
load_name load.Extra = codes "Extra"
load_name load.BadSize = codes "BadSize"
load_name load.BadOpcode = codes "BadOpcode"
load_name load.BadRegister = codes "BadRegister"
load_name load.BadTarget = codes "BadTarget"
load_name load.BadRegion = codes "BadRegion"
load_name load.BadText = codes "BadText"
load_name load.BadSymbol = codes "BadSymbol"

-- the name of a fault, and its line where it has one
abbrev pub map_text : MapRefusal → List ℕ
map_text (map.BadLine line) = codes "BadLine line " ++ decimal line
map_text (map.UnknownName line) = codes "UnknownName line " ++ decimal line
map_text (map.DoubleName line) = codes "DoubleName line " ++ decimal line
map_text (map.TooManyValues line) = codes "TooManyValues line " ++ decimal line
map_text (map.BadNumber line) = codes "BadNumber line " ++ decimal line
map_text map.NoMemory = codes "NoMemory"

abbrev pub fault_text : BytesFault → List ℕ
fault_text TooLong = codes "TooLong"
fault_text (BadImage kind) = load_name kind
fault_text (BadMap refusal) = map_text refusal

-- the line for a file that holds no image or no map; it isn't unfolded, so that proofs carry it as it stands
unfoldable pub bytes_line : (file : List ℕ) → BytesFault → List ℕ
bytes_line file fault = codes "xmt: " ++ file ++ codes ": " ++ fault_text fault ++ codes "\n"
