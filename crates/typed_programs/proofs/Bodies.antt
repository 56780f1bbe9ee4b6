-- Typed statements of a tree that is written with boxes and lists.
use Rattle.std.proofs.Common.{◌≡◌, refl, ap, List, [], ◌∷◌, ◌++◌}
use Rattle.xmt_base.specs.declared.values.Place.{Place}
use Rattle.raw_tree.specs.declared.tree.RawExpr.{RawExpr}
use Rattle.raw_tree.specs.declared.tree.RawStmt.{RawStmt}
use Rattle.raw_tree.specs.declared.tree.RawStmtKind.TheVariants as raw
use Rattle.raw_tree.specs.declared.tree.RawStmtKind.TheBlock.{hidden-the_row-RawStmt-0}
use Rattle.source_meaning.specs.declared.tree.StmtKind.TheVariants as s
use Rattle.name_scopes.specs.Opened.{opened}
use Rattle.name_scopes.specs.Locals.{Env}
use Rattle.name_faults.specs.Statements.{after}
use Rattle.typed_programs.specs.Expressions.{expression}
use Rattle.typed_programs.specs.Statements.{statement, typed, typed_row, typed_all, pieces}

typed_list : (body : List RawStmt) (env : Env) → typed_row (hidden-the_row-RawStmt-0 body) env ≡ typed_all body env
unfolding opened
typed_list [] env = refl
typed_list (x ∷ rest) env = ap (λ made. pieces x.at x.kind env ++ made) (typed_list rest (after x.kind env))

pub typed_block : (at : Place) (body : List RawStmt) (env : Env) → typed at (raw.Block body) env ≡ statement at (s.Block (typed_all body env))
unfolding opened
typed_block at body env = ap (λ made. statement at (s.Block made)) (typed_list body env)

pub typed_spawn : (at : Place) (low high : RawExpr) (body : List RawStmt) (env : Env) →
    typed at (raw.Spawn low high body) env ≡ statement at (s.Spawn (expression env.declared low) (expression env.declared high) (typed_all body env))
unfolding opened
typed_spawn at low high body env = ap (λ made. statement at (s.Spawn (expression env.declared low) (expression env.declared high) made)) (typed_list body env)
