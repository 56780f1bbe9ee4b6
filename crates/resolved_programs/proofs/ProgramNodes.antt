-- A program has at most as many nodes as are counted in its tree.
use Rattle.std.proofs.Common.{◌≡◌, refl, arith, ℕ, suc, ◌+◌, ◌≤◌, Bool, List, [], ◌∷◌, ◌++◌, length, length-append, Some, None}
use Rattle.std.proofs.lemmas.List.{length-map}
use Rattle.std.specs.Prelude.{sum, sum_by, map}
use Rattle.std.proofs.lemmas.List.Sums.{sum_by-cons, sum_by-append}
use Rattle.raw_tree.specs.declared.tree.RawParam.{RawParam}
use Rattle.raw_tree.specs.declared.tree.RawResult.{RawResult}
use Rattle.raw_tree.specs.declared.tree.RawStmt.{RawStmt}
use Rattle.raw_tree.specs.declared.tree.RawGlobal.{RawGlobal}
use Rattle.raw_tree.specs.declared.tree.RawGlobal.TheVariants as g
use Rattle.raw_tree.specs.declared.tree.RawItem.{RawItem}
use Rattle.raw_tree.specs.declared.tree.RawItemKind.{RawItemKind}
use Rattle.raw_tree.specs.declared.tree.RawItemKind.TheVariants as i
use Rattle.source_meaning.specs.declared.tree.GlobalVar.{GlobalVar}
use Rattle.source_meaning.specs.declared.tree.Register.{Register}
use Rattle.source_meaning.specs.declared.tree.Function.{Function}
use Rattle.name_scopes.specs.declared.scope.Declared.{Declared}
use Rattle.name_scopes.specs.Locals.{is_constant}
use Rattle.name_faults.specs.Nodes.{nodes_of_global, nodes_of_item, nodes_of_items, nodes_of_body, params_of}
use Rattle.typed_programs.specs.Items.{value_of, global, register, at_start, function, globals_of, registers_of, functions_of, all_of}
use Rattle.tree_measures.specs.Nodes.{function_nodes}
use Rattle.resolved_programs.specs.Branches.{ListHasPlainBranches, ItemHasPlainBranches, ItemsHavePlainBranches}
use Rattle.resolved_programs.proofs.StatementNodes.{sum_more, body_counted}

abbrev pub global_nodes : GlobalVar → ℕ
global_nodes x = 1 + length x.opening

one_global : (constant : Bool) (x : RawGlobal) → global_nodes (global constant x) ≡ nodes_of_global x
one_global constant (g.Scalar name None) = refl
one_global constant (g.Scalar name (Some value)) = refl
one_global constant (g.Array name words None) = refl
one_global constant (g.Array name words (Some values)) = omega (arith, length-map values.values value_of)
one_global constant (g.Open name values) = omega (arith, length-map values.values value_of)

all_globals : (constant : Bool) (all : List RawGlobal) → sum_by global_nodes (map (global constant) all) ≡ sum (map nodes_of_global all)
all_globals constant [] = refl
all_globals constant (x ∷ rest) =
    omega (arith, sum_by-cons global_nodes (global constant x) (map (global constant) rest), one_global constant x, all_globals constant rest, sum_more nodes_of_global x rest)

-- the nodes of these globals, registers and functions
abbrev pub parts_nodes : List GlobalVar → List Register → List Function → ℕ
parts_nodes gs rs fs = sum_by global_nodes gs + length rs + sum_by function_nodes fs

parts_append : (gs hs : List GlobalVar) (rs ss : List Register) (fs es : List Function) → parts_nodes (gs ++ hs) (rs ++ ss) (fs ++ es) ≡ parts_nodes gs rs fs + parts_nodes hs ss es
parts_append gs hs rs ss fs es = omega (arith, sum_by-append global_nodes gs hs, length-append rs ss, sum_by-append function_nodes fs es)

one_function : (ds : List Declared) (result : RawResult) (params : List RawParam) (body : List RawStmt) → ListHasPlainBranches body →
    function_nodes (function ds result params body) ≤ suc (length params + nodes_of_body body)
one_function ds result params body plain = omega (arith, body_counted body (at_start ds params) plain)

one_item : (ds : List Declared) (kind : RawItemKind) → ItemHasPlainBranches kind → parts_nodes (globals_of kind) (registers_of kind) (functions_of ds kind) ≤ nodes_of_item kind
one_item ds (i.Globals ty all) plain = omega (arith, all_globals (is_constant ty.qualifiers) all)
one_item ds (i.Registers int all) plain = omega (arith, length-map all register)
one_item ds (i.Function result params body) plain =
    omega (arith, sum_by-cons function_nodes (function ds result (params_of params) body) [], one_function ds result (params_of params) body plain)
one_item ds (i.Proto result params) plain = omega arith

pub all_items : (ds : List Declared) (items : List RawItem) → ItemsHavePlainBranches items →
    parts_nodes (all_of globals_of items) (all_of registers_of items) (all_of (functions_of ds) items) ≤ nodes_of_items items
all_items ds [] plain = omega arith
all_items ds (x ∷ rest) plain =
    omega (
      arith,
      parts_append (globals_of x.kind) (all_of globals_of rest) (registers_of x.kind) (all_of registers_of rest) (functions_of ds x.kind) (all_of (functions_of ds) rest),
      one_item ds x.kind plain.0,
      all_items ds rest plain.1,
      sum_more (λ (y : RawItem). nodes_of_item y.kind) x rest,
    )
