-- What stands behind the name of a global, and behind the head of a function.
use Rattle.std.specs.Prelude.{ℕ, max, List, [], Option, Some, None}
use Rattle.xmt_lex.specs.declared.Token.{Token}
use Rattle.raw_tree.specs.declared.tree.RawGlobal.{RawGlobal}
use Rattle.raw_tree.specs.declared.tree.RawGlobal.TheVariants as global
use Rattle.raw_tree.specs.declared.tree.RawItem.{RawItem}
use Rattle.raw_tree.specs.declared.tree.RawItemKind.TheVariants as i
use Rattle.raw_tree.specs.declared.tree.RawName.{RawName}
use Rattle.raw_tree.specs.declared.tree.RawParams.{RawParams}
use Rattle.raw_tree.specs.declared.tree.RawResult.{RawResult}
use Rattle.raw_tree.specs.declared.tree.RawResult.TheVariants as result
use Rattle.raw_tree.specs.declared.tree.RawStmt.{RawStmt}
use Rattle.raw_tree.specs.declared.tree.RawValues.{RawValues}
use Rattle.raw_tree.specs.Grammar.{name_of}
use Rattle.raw_tree.specs.Items.{item}
use Rattle.raw_tree.specs.Reading.{Got, GotExpr, ReaderOf, got, past, open_square, readers}
use Rattle.raw_tree.specs.ReadingItems.{array_behind, global_behind, read_function, read_headed}
use Rattle.raw_tree.specs.ReadingStatements.{read_piece}
use Rattle.xmt_parse.specs.declared.item_nodes.Head.{Head}
use Rattle.xmt_parse.specs.declared.item_nodes.Returns.{Returns}
use Rattle.xmt_parse.specs.declared.item_nodes.Returns.TheVariants as returns

-- an array of a written length
abbrev pub sized : RawName → GotExpr → Got (Option RawValues) → Option (Got RawGlobal)
sized name length values = got (global.Array name length.tree values.tree) (max length.nest values.nest) values.rest

abbrev pub of_length : (source : List ℕ) (depth : ℕ) → Token → ReaderOf RawGlobal
of_length source depth t ts = array_behind (readers source depth).of_cond (name_of source t) ts None

-- an array as long as its values are many, behind its `]`
abbrev pub of_values : (source : List ℕ) (depth : ℕ) → Token → ReaderOf RawGlobal
of_values source depth t ts = array_behind (readers source depth).of_cond (name_of source t) [] (Some ts)

abbrev pub global_of : (source : List ℕ) (depth : ℕ) → Token → ReaderOf RawGlobal
global_of source depth t ts = global_behind (readers source depth).of_cond (name_of source t) ts (past open_square ts)

abbrev pub made : Returns → RawName → RawResult
made returns.Int name = result.Int name
made returns.Void name = result.Void name
made returns.Main name = result.Main name

abbrev pub result_of : (source : List ℕ) → Head → RawResult
result_of source head = made head.returns (name_of source head.name)

-- a function, once its body is read
abbrev pub defined : (source : List ℕ) → Head → RawParams → Got (List RawStmt) → Option (Got RawItem)
defined source head all body = got (item head.at (i.Function (result_of source head) all body.tree)) 0 body.rest

abbrev pub function_of : (source : List ℕ) (depth : ℕ) → Head → RawParams → ReaderOf RawItem
function_of source depth head all ts = read_function (read_piece source depth) head.at (result_of source head) all ts

abbrev pub item_of : (source : List ℕ) (depth : ℕ) → Head → ReaderOf RawItem
item_of source depth head ts = read_headed source (read_piece source depth) head.at (result_of source head) ts
