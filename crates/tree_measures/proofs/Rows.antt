-- What a definition by the rows of a tree says of lists.
use Rattle.std.proofs.Common.{◌≡◌, refl, ap, ℕ, ◌+◌, max, List, [], ◌∷◌, Option}
use Rattle.source_meaning.specs.declared.tree.Expr.{Expr}
use Rattle.source_meaning.specs.declared.tree.ExprKind.TheVariants as expr
use Rattle.source_meaning.specs.declared.tree.ExprKind.TheBlock.{hidden-the_row-Expr-1}
use Rattle.tree_measures.specs.Waiting.{waiting_in, waiting_behind, waiting_behind_list}
use Rattle.source_meaning.specs.declared.tree.Stmt.{Stmt}
use Rattle.source_meaning.specs.declared.tree.StmtKind.TheVariants as stmt
use Rattle.source_meaning.specs.declared.tree.StmtKind.TheBlock.{hidden-the_row-Stmt-0}
use Rattle.tree_measures.specs.Nodes.{expression_nodes, row_nodes, nodes_of_expressions, statement_nodes, statement_row_nodes, nodes_of_statements, option_nodes}
use Rattle.tree_measures.specs.Nesting.{expression_depth, deepest_of, deepest_expression, statement_depth, deepest_in, deepest_statement, option_depth}
use Rattle.source_meaning.specs.Opened.{opened}

waiting_behind-items : (before : ℕ) (values : List Expr) → waiting_behind before (hidden-the_row-Expr-1 values) ≡ waiting_behind_list before values
unfolding opened
waiting_behind-items before [] = refl
waiting_behind-items before (e ∷ values) = ap (max (before + waiting_in e.kind)) (waiting_behind-items (before + 1) values)

pub waiting_of_call : (f : ℕ) (values : List Expr) → waiting_in (expr.Call f values) ≡ max 1 (waiting_behind_list 0 values)
unfolding opened
waiting_of_call f values = ap (max 1) (waiting_behind-items 0 values)

row_nodes-items : (values : List Expr) → row_nodes (hidden-the_row-Expr-1 values) ≡ nodes_of_expressions values
unfolding opened
row_nodes-items [] = refl
row_nodes-items (e ∷ values) = ap (λ n. expression_nodes e.kind + n) (row_nodes-items values)

pub nodes_of_call : (f : ℕ) (values : List Expr) → expression_nodes (expr.Call f values) ≡ 1 + nodes_of_expressions values
unfolding opened
nodes_of_call f values = ap (λ n. 1 + n) (row_nodes-items values)

pub statement_row_nodes-items : (body : List Stmt) → statement_row_nodes (hidden-the_row-Stmt-0 body) ≡ nodes_of_statements body
unfolding opened
statement_row_nodes-items [] = refl
statement_row_nodes-items (s ∷ body) = ap (λ n. statement_nodes s.kind + n) (statement_row_nodes-items body)

pub nodes_of_block : (body : List Stmt) → statement_nodes (stmt.Block body) ≡ 1 + nodes_of_statements body
unfolding opened
nodes_of_block body = ap (λ n. 1 + n) (statement_row_nodes-items body)

pub nodes_of_spawn : (low high : Expr) (body : List Stmt) → statement_nodes (stmt.Spawn low high body) ≡ 1 + (expression_nodes low.kind + (expression_nodes high.kind + nodes_of_statements body))
unfolding opened
nodes_of_spawn low high body = ap (λ n. 1 + (expression_nodes low.kind + (expression_nodes high.kind + n))) (statement_row_nodes-items body)

pub nodes_of_for : (first : List Stmt) (test third : Option Expr) (body : Stmt) → statement_nodes (stmt.For first test third body) ≡ 1 + (nodes_of_statements first + (option_nodes test + (option_nodes third + (statement_nodes body.kind + 0))))
unfolding opened
nodes_of_for first test third body = ap (λ n. 1 + (n + (option_nodes test + (option_nodes third + (statement_nodes body.kind + 0))))) (statement_row_nodes-items first)

pub ruleset nodes = (nodes_of_call, nodes_of_block, nodes_of_spawn, nodes_of_for)

deepest_of-items : (values : List Expr) → deepest_of (hidden-the_row-Expr-1 values) ≡ deepest_expression values
unfolding opened
deepest_of-items [] = refl
deepest_of-items (e ∷ values) = ap (max (expression_depth e.kind)) (deepest_of-items values)

pub depth_of_call : (f : ℕ) (values : List Expr) → expression_depth (expr.Call f values) ≡ 1 + deepest_expression values
unfolding opened
depth_of_call f values = ap (λ n. 1 + n) (deepest_of-items values)

deepest_in-items : (body : List Stmt) → deepest_in (hidden-the_row-Stmt-0 body) ≡ deepest_statement body
unfolding opened
deepest_in-items [] = refl
deepest_in-items (s ∷ body) = ap (max (statement_depth s.kind)) (deepest_in-items body)

pub depth_of_block : (body : List Stmt) → statement_depth (stmt.Block body) ≡ 1 + deepest_statement body
unfolding opened
depth_of_block body = ap (λ n. 1 + n) (deepest_in-items body)

pub depth_of_spawn : (low high : Expr) (body : List Stmt) → statement_depth (stmt.Spawn low high body) ≡ 1 + max (expression_depth low.kind) (max (expression_depth high.kind) (deepest_statement body))
unfolding opened
depth_of_spawn low high body = ap (λ n. 1 + max (expression_depth low.kind) (max (expression_depth high.kind) n)) (deepest_in-items body)

pub depth_of_for : (first : List Stmt) (test third : Option Expr) (body : Stmt) → statement_depth (stmt.For first test third body) ≡ 1 + max (deepest_statement first) (max (option_depth test) (max (option_depth third) (max (statement_depth body.kind) 0)))
unfolding opened
depth_of_for first test third body = ap (λ n. 1 + max n (max (option_depth test) (max (option_depth third) (max (statement_depth body.kind) 0)))) (deepest_in-items first)

pub ruleset depths = (depth_of_call, depth_of_block, depth_of_spawn, depth_of_for)
