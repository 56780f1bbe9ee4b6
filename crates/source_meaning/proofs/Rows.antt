-- What the definitions by the rows of a tree say of its lists.
use Rattle.std.proofs.Common.{◌≡◌, refl, sym, ◌∙◌, ap, ℕ, ◌+◌, Bool, ◌||◌, List, [], ◌∷◌}
use Rattle.std.specs.Prelude.{sum_by}
use Rattle.std.specs.List.{list_any}
use Rattle.std.proofs.lemmas.List.Sums.{sum_by-cons}
use Rattle.source_meaning.specs.declared.tree.Expr.{Expr}
use Rattle.source_meaning.specs.declared.tree.ExprKind.{ExprKind}
use Rattle.source_meaning.specs.declared.tree.ExprKind.TheBlock.{hidden-the_row-Expr-1}
use Rattle.source_meaning.specs.declared.tree.Stmt.{Stmt}
use Rattle.source_meaning.specs.declared.tree.StmtKind.{StmtKind}
use Rattle.source_meaning.specs.declared.tree.StmtKind.TheBlock.{hidden-the_row-Stmt-0}
use Rattle.source_meaning.specs.declared.tree.GlobalVar.{GlobalVar}
use Rattle.source_meaning.specs.Inside.{some_expression, some_in_row, some_statement, some_in_body, some_in_list}
use Rattle.source_meaning.specs.Variables.{Frame}
use Rattle.source_meaning.specs.Term.{More, Then}
use Rattle.source_meaning.specs.Code.{spawns, all_spawns, expression, expressions, row_terms, code_of, sequence, statements}
use Rattle.source_meaning.specs.Opened.{opened}

pub some_in_row-items : (test : ExprKind → Bool) (values : List Expr) → some_in_row test (hidden-the_row-Expr-1 values) ≡ list_any (λ e. some_expression test e.kind) values
unfolding opened
some_in_row-items test [] = refl
some_in_row-items test (e ∷ values) = ap (λ rest. some_expression test e.kind || rest) (some_in_row-items test values)

pub some_in_body-items : (test : StmtKind → Bool) (body : List Stmt) → some_in_body test (hidden-the_row-Stmt-0 body) ≡ some_in_list test body
unfolding opened
some_in_body-items test [] = refl
some_in_body-items test (s ∷ body) = ap (λ rest. some_statement test s.kind || rest) (some_in_body-items test body)

pub all_spawns-items : (body : List Stmt) → all_spawns (hidden-the_row-Stmt-0 body) ≡ sum_by (λ s. spawns s.kind) body
unfolding opened
all_spawns-items [] = refl
all_spawns-items (s ∷ body) = ap (λ rest. spawns s.kind + rest) (all_spawns-items body) ∙ sym (sum_by-cons (λ x. spawns x.kind) s body)

module _ (globals : List GlobalVar) (own : (thread : ℕ) → Frame) where
  pub row_terms-items : (frame : Frame) (values : List Expr) → row_terms globals own frame (hidden-the_row-Expr-1 values) ≡ expressions globals own frame values
  unfolding opened
  row_terms-items frame [] = refl
  row_terms-items frame (e ∷ values) = ap (More (expression globals own frame e)) (row_terms-items frame values)

  pub sequence-items : (frame : Frame) (site : ℕ) (body : List Stmt) → sequence globals own frame site (hidden-the_row-Stmt-0 body) ≡ statements globals own frame site body
  unfolding opened
  sequence-items frame site [] = refl
  sequence-items frame site (s ∷ body) = ap (Then (code_of globals own frame site s.at.line s.kind)) (sequence-items frame (site + spawns s.kind) body)
