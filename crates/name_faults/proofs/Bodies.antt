-- Statements of a tree that is written with boxes and lists.
use Rattle.std.proofs.Common.{◌≡◌, refl, sym, ◌∙◌, ap, ℕ, suc, ◌+◌, Bool, List, [], ◌∷◌, length}
use Rattle.std.proofs.lemmas.List.Sums.{sum-map, sum_by-cons}
use Rattle.name_scopes.specs.Size.{nodes}
use Rattle.name_faults.specs.Nodes.{statement_nodes, row_nodes, nodes_of_body}
use Rattle.xmt_base.specs.declared.values.Place.{Place}
use Rattle.raw_tree.specs.declared.tree.RawExpr.{RawExpr}
use Rattle.raw_tree.specs.declared.tree.RawStmt.{RawStmt}
use Rattle.raw_tree.specs.declared.tree.RawStmtKind.TheVariants as s
use Rattle.raw_tree.specs.declared.tree.RawStmtKind.TheBlock.{hidden-the_row-RawStmt-0}
use Rattle.name_scopes.specs.Opened.{opened}
use Rattle.name_scopes.specs.Fault.{both}
use Rattle.name_scopes.specs.Locals.{Env, left}
use Rattle.name_faults.specs.Statements.{after, after_row, after_all, statement_faults, row_faults, statements_faults, bounds_faults}

after_list : (body : List RawStmt) (e : Env) → after_row (hidden-the_row-RawStmt-0 body) e ≡ after_all body e
unfolding opened
after_list [] e = refl
after_list (x ∷ rest) e = after_list rest (after x.kind e)

faults_list : (value : Bool) (start : ℕ) (body : List RawStmt) (e : Env) → row_faults value start (hidden-the_row-RawStmt-0 body) e ≡ statements_faults value start body e
unfolding opened
faults_list value start [] e = refl
faults_list value start (x ∷ rest) e = ap (λ fs. both (statement_faults value start x.at x.kind e) fs) (faults_list value start rest (after x.kind e))

pub after_block : (body : List RawStmt) (e : Env) → after (s.Block body) e ≡ left (length e.declared) (after_all body e)
unfolding opened
after_block body e = ap (left (length e.declared)) (after_list body e)

pub after_spawn : (low high : RawExpr) (body : List RawStmt) (e : Env) → after (s.Spawn low high body) e ≡ left (length e.declared) (after_all body e)
unfolding opened
after_spawn low high body e = ap (left (length e.declared)) (after_list body e)

pub faults_block : (value : Bool) (start : ℕ) (at : Place) (body : List RawStmt) (e : Env) → statement_faults value start at (s.Block body) e ≡ statements_faults value (length e.declared) body e
unfolding opened
faults_block value start at body e = faults_list value (length e.declared) body e

pub faults_spawn : (value : Bool) (start : ℕ) (at : Place) (low high : RawExpr) (body : List RawStmt) (e : Env) →
    statement_faults value start at (s.Spawn low high body) e ≡ both (bounds_faults at low high e.declared) (statements_faults value (length e.declared) body e)
unfolding opened
faults_spawn value start at low high body e = ap (λ fs. both (bounds_faults at low high e.declared) fs) (faults_list value (length e.declared) body e)

nodes_list : (body : List RawStmt) → row_nodes (hidden-the_row-RawStmt-0 body) ≡ nodes_of_body body
unfolding opened
nodes_list [] = refl
nodes_list (x ∷ rest) =
    ap (λ n. statement_nodes x.kind + n) (nodes_list rest ∙ sum-map (λ (y : RawStmt). statement_nodes y.kind) rest)
    ∙ sym (sum_by-cons (λ (y : RawStmt). statement_nodes y.kind) x rest) ∙ sym (sum-map (λ (y : RawStmt). statement_nodes y.kind) (x ∷ rest))

pub nodes_block : (body : List RawStmt) → statement_nodes (s.Block body) ≡ suc (nodes_of_body body)
unfolding opened
nodes_block body = ap (λ n. suc n) (nodes_list body)

pub nodes_spawn : (low high : RawExpr) (body : List RawStmt) → statement_nodes (s.Spawn low high body) ≡ suc (nodes low.kind + nodes high.kind + nodes_of_body body)
unfolding opened
nodes_spawn low high body = ap (λ n. suc (nodes low.kind + nodes high.kind + n)) (nodes_list body)
