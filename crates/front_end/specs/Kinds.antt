-- The kinds of refusals of the parts, as kinds of the whole.
use Rattle.xmt_lex.specs.declared.LexKind.{LexKind}
use Rattle.xmt_lex.specs.declared.LexKind.TheVariants as bad
use Rattle.xmt_lex.specs.declared.LexRefusal.{LexRefusal}
use Rattle.xmt_lex.specs.declared.LexRefusal.TheVariants as lexing
use Rattle.xmt_parse.specs.declared.ParseRefusal.{ParseRefusal}
use Rattle.xmt_parse.specs.declared.ParseRefusal.TheVariants as parsing
use Rattle.name_scopes.specs.declared.fault.NameKind.{NameKind}
use Rattle.name_scopes.specs.declared.fault.NameKind.TheVariants as name
use Rattle.xmt_types.specs.declared.refusal.NameRefusal.{NameRefusal}
use Rattle.xmt_types.specs.declared.refusal.NameRefusal.TheVariants as naming
use Rattle.spawn_check.specs.declared.refusal.SpawnKind.{SpawnKind}
use Rattle.spawn_check.specs.declared.refusal.SpawnKind.TheVariants as block
use Rattle.spawn_check.specs.declared.refusal.SpawnRefusal.{SpawnRefusal}
use Rattle.front_end.specs.declared.refusal.SourceKind.{SourceKind}
use Rattle.front_end.specs.declared.refusal.SourceKind.TheVariants as rule
use Rattle.front_end.specs.declared.refusal.SourceRefusal.{SourceRefusal}
use Rattle.front_end.specs.declared.refusal.SourceRefusal.TheVariants.{Refused, NoMemory}

abbrev pub kind_of : LexKind → SourceKind
kind_of bad.BadByte = rule.BadByte
kind_of bad.BadNumber = rule.BadNumber
kind_of bad.OpenComment = rule.OpenComment
kind_of bad.OpenText = rule.OpenText
kind_of bad.BadEscape = rule.BadEscape
kind_of bad.HashLine = rule.HashLine

abbrev pub kind_of_name : NameKind → SourceKind
kind_of_name name.Unknown = rule.Unknown
kind_of_name name.Double = rule.Double
kind_of_name name.NotScalar = rule.NotScalar
kind_of_name name.NotArray = rule.NotArray
kind_of_name name.NotFunction = rule.NotFunction
kind_of_name name.NotRegister = rule.NotRegister
kind_of_name name.WrongCount = rule.WrongCount
kind_of_name name.BadFormat = rule.BadFormat
kind_of_name name.VoidValue = rule.VoidValue
kind_of_name name.ConstWrite = rule.ConstWrite
kind_of_name name.NotConstant = rule.NotConstant
kind_of_name name.BadLength = rule.BadLength
kind_of_name (name.TooMany limit) = rule.TooMany limit
kind_of_name name.NoMain = rule.NoMain

abbrev pub kind_of_block : SpawnKind → SourceKind
kind_of_block block.DollarOutside = rule.DollarOutside
kind_of_block block.ReturnInside = rule.ReturnInside
kind_of_block block.JumpOut = rule.JumpOut
kind_of_block block.Nested = rule.Nested
kind_of_block block.PrintInside = rule.PrintInside
kind_of_block block.CallReachesSpawn = rule.CallReachesSpawn

abbrev pub of_tokens : LexRefusal → SourceRefusal
of_tokens (lexing.Refused kind place) = Refused (kind_of kind) place
of_tokens lexing.NoMemory = NoMemory

abbrev pub of_parser : ParseRefusal → SourceRefusal
of_parser (parsing.TooDeep place) = Refused rule.TooDeep place
of_parser (parsing.Syntax place) = Refused rule.Syntax place
of_parser parsing.NoMemory = NoMemory

abbrev pub of_names : NameRefusal → SourceRefusal
of_names (naming.Refused kind place) = Refused (kind_of_name kind) place
of_names naming.NoMemory = NoMemory

abbrev pub of_blocks : SpawnRefusal → SourceRefusal
of_blocks refusal = Refused (kind_of_block refusal.kind) refusal.place
