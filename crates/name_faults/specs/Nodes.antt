-- How many nodes the typed tree of a raw one has: each statement, expression, function, parameter, global, register and initial value of a global.
use Rattle.std.specs.Prelude.{ℕ, suc, ◌+◌, map, sum, List, [], length, Option, Some, None}
use Rattle.raw_tree.specs.declared.tree.RawExpr.{RawExpr}
use Rattle.raw_tree.specs.declared.tree.RawLocal.{RawLocal}
use Rattle.raw_tree.specs.declared.tree.RawDecl.{RawDecl}
use Rattle.raw_tree.specs.declared.tree.RawFirst.{RawFirst}
use Rattle.raw_tree.specs.declared.tree.RawFirst.TheVariants as begins
use Rattle.raw_tree.specs.declared.tree.RawStmt.{RawStmt}
use Rattle.raw_tree.specs.declared.tree.RawStmtKind.{RawStmtKind, Row_of-RawStmt, end_of-RawStmt, more_of-RawStmt, Held-RawStmtKind-If-2, None', Some'}
use Rattle.raw_tree.specs.declared.tree.RawStmtKind.TheVariants as s
use Rattle.raw_tree.specs.declared.tree.RawValues.{RawValues}
use Rattle.raw_tree.specs.declared.tree.RawGlobal.{RawGlobal}
use Rattle.raw_tree.specs.declared.tree.RawGlobal.TheVariants as g
use Rattle.raw_tree.specs.declared.tree.RawParam.{RawParam}
use Rattle.raw_tree.specs.declared.tree.RawParams.{RawParams}
use Rattle.raw_tree.specs.declared.tree.RawParams.TheVariants as params
use Rattle.raw_tree.specs.declared.tree.RawItem.{RawItem}
use Rattle.raw_tree.specs.declared.tree.RawItemKind.{RawItemKind}
use Rattle.raw_tree.specs.declared.tree.RawItemKind.TheVariants as i
use Rattle.name_scopes.specs.Size.{nodes, nodes_of_spot}

abbrev pub nodes_of_option : Option RawExpr → ℕ
nodes_of_option None = 0
nodes_of_option (Some a) = nodes a.kind

-- each declared name is a statement
abbrev pub nodes_of_local : RawLocal → ℕ
nodes_of_local l = suc (nodes_of_option l.value)

abbrev pub nodes_of_decl : RawDecl → ℕ
nodes_of_decl d = sum (map nodes_of_local d.locals)

abbrev pub nodes_of_first : RawFirst → ℕ
nodes_of_first (begins.Decl d) = nodes_of_decl d
nodes_of_first (begins.Value None) = 0
nodes_of_first (begins.Value (Some a)) = suc (nodes a.kind)

abbrev mutual
  pub statement_nodes : RawStmtKind → ℕ
  statement_nodes (s.Block' shape body) = suc (row_nodes body)
  statement_nodes (s.Decl d) = nodes_of_decl d
  statement_nodes s.Empty = 1
  statement_nodes (s.Value a) = suc (nodes a.kind)
  statement_nodes (s.If' test shape body other) = suc (nodes test.kind + inner_nodes body + held_nodes other)
  statement_nodes (s.While' test shape body) = suc (nodes test.kind + inner_nodes body)
  statement_nodes (s.Do' shape body test) = suc (inner_nodes body + nodes test.kind)
  statement_nodes (s.For' begin test third shape body) = suc (nodes_of_first begin + nodes_of_option test + nodes_of_option third + inner_nodes body)
  statement_nodes s.Break = 1
  statement_nodes s.Continue = 1
  statement_nodes (s.Return v) = suc (nodes_of_option v)
  statement_nodes (s.Spawn' low high shape body) = suc (nodes low.kind + nodes high.kind + row_nodes body)
  statement_nodes (s.Ps v r) = 1
  statement_nodes (s.Psm v p) = suc (nodes_of_spot p)
  statement_nodes (s.Print text values) = suc (sum (map (λ (a : RawExpr). nodes a.kind) values))

  pub inner_nodes : {n : _} → Row_of-RawStmt n → ℕ
  inner_nodes end_of-RawStmt = 0
  inner_nodes (more_of-RawStmt place what rest) = statement_nodes what

  pub held_nodes : Held-RawStmtKind-If-2 → ℕ
  held_nodes None' = 0
  held_nodes (Some' shape body) = inner_nodes body

  pub row_nodes : {n : _} → Row_of-RawStmt n → ℕ
  row_nodes end_of-RawStmt = 0
  row_nodes (more_of-RawStmt place what rest) = statement_nodes what + row_nodes rest

abbrev pub nodes_of_body : List RawStmt → ℕ
nodes_of_body body = sum (map (λ (x : RawStmt). statement_nodes x.kind) body)

abbrev pub nodes_of_values : Option RawValues → ℕ
nodes_of_values None = 0
nodes_of_values (Some values) = length values.values

abbrev pub nodes_of_opening : Option RawExpr → ℕ
nodes_of_opening None = 0
nodes_of_opening (Some value) = 1

abbrev pub nodes_of_global : RawGlobal → ℕ
nodes_of_global (g.Scalar name value) = suc (nodes_of_opening value)
nodes_of_global (g.Array name words values) = suc (nodes_of_values values)
nodes_of_global (g.Open name values) = suc (length values.values)

abbrev pub params_of : RawParams → List RawParam
params_of params.Nothing = []
params_of params.Void = []
params_of (params.Some all) = all

abbrev pub nodes_of_item : RawItemKind → ℕ
nodes_of_item (i.Globals ty all) = sum (map nodes_of_global all)
nodes_of_item (i.Registers int all) = length all
nodes_of_item (i.Function head all body) = suc (length (params_of all) + nodes_of_body body)
nodes_of_item (i.Proto head all) = 0

abbrev pub nodes_of_items : List RawItem → ℕ
nodes_of_items items = sum (map (λ (x : RawItem). nodes_of_item x.kind) items)
