-- What the definitions by the rows of a tree say of its lists.
use Rattle.std.proofs.Math.Bool.{or-false, or-true}
use Rattle.std.specs.List.{list_any}
use Rattle.source_meaning.specs.Inside.{some_expression, some_inside, some_statement, some_below, some_in_list}
use Rattle.source_meaning.specs.declared.tree.ExprKind.{ExprKind}
use Rattle.source_meaning.specs.declared.tree.StmtKind.{StmtKind}
use Rattle.std.specs.Prelude.{◌||◌, false}
use Rattle.source_meaning.proofs.Rows.{some_in_row-items, some_in_body-items}
use Rattle.std.proofs.Common.{Bool, ◌≡◌, refl, ap, ℕ, List, [], ◌∷◌, Option}
use Rattle.source_meaning.specs.declared.tree.Expr.{Expr}
use Rattle.source_meaning.specs.declared.tree.ExprKind.TheBlock.{hidden-the_row-Expr-1}
use Rattle.source_meaning.specs.declared.tree.Stmt.{Stmt}
use Rattle.source_meaning.specs.declared.tree.StmtKind.TheBlock.{hidden-the_row-Stmt-0}
use Rattle.source_meaning.specs.declared.tree.ExprKind.TheVariants as expr
use Rattle.source_meaning.specs.declared.tree.StmtKind.TheVariants as stmt
use Rattle.source_meaning.specs.Opened.{opened}
use Rattle.spawn_check.specs.declared.things.Around.{Around}
use Rattle.spawn_check.specs.Things.{Occurrence}
use Rattle.xmt_base.specs.declared.Place.{Place}
use Rattle.spawn_check.specs.declared.refusal.SpawnRefusal.{SpawnRefusal}
use Rattle.spawn_check.specs.declared.things.Thing.TheVariants as thing
use Rattle.spawn_check.specs.declared.things.Marks.{Marks}
use Rattle.spawn_check.specs.First.{Change, unchanged, one_behind_other, by_thing, first_with, first_in_expression, first_in_values, first_in_option, first_in_statement, first_in_statements}
use Rattle.spawn_check.specs.Things.{occurrence, in_block, in_loop, of_expression, of_row, of_values, of_statement, of_body, of_statements}

module _ {M : Type 0} (none : M) (join : M → M → M) (one : Occurrence → M) where
  pub of_row-items : (around : Around) (values : List Expr) → of_row none join one around (hidden-the_row-Expr-1 values) ≡ of_values none join one around values
  unfolding opened
  of_row-items around [] = refl
  of_row-items around (e ∷ values) = ap (join (of_expression none join one around e.at e.kind)) (of_row-items around values)

  pub of_body-items : (around : Around) (body : List Stmt) → of_body none join one around (hidden-the_row-Stmt-0 body) ≡ of_statements none join one around body
  unfolding opened
  of_body-items around [] = refl
  of_body-items around (s ∷ body) = ap (join (of_statement none join one around s.at s.kind)) (of_body-items around body)

module _ (marks : Marks) (around : Around) (place : Place) where
  pub first_in_call : (f : ℕ) (values : List Expr) (first : Option SpawnRefusal) →
      first_in_expression marks around place (expr.Call f values) first ≡ first_in_values marks around values (first_with marks first (occurrence (thing.Call f) place around))
  unfolding opened
  first_in_call f values first =
      let change : Change → Option SpawnRefusal = λ g. g (first_with marks first (occurrence (thing.Call f) place around)) in
      ap change (of_row-items unchanged one_behind_other (by_thing marks) around values)

  pub first_in_a_block : (body : List Stmt) (first : Option SpawnRefusal) → first_in_statement marks around place (stmt.Block body) first ≡ first_in_statements marks around body first
  unfolding opened
  first_in_a_block body first = let change : Change → Option SpawnRefusal = λ g. g first in ap change (of_body-items unchanged one_behind_other (by_thing marks) around body)

  pub first_in_spawn : (low high : Expr) (block : List Stmt) (first : Option SpawnRefusal) →
      first_in_statement marks around place (stmt.Spawn low high block) first ≡
      first_in_statements marks in_block block
      (first_in_expression marks around high.at high.kind
      (first_in_expression marks around low.at low.kind (first_with marks first (occurrence thing.Spawn place around))))
  unfolding opened
  first_in_spawn low high block first =
      let change : Change → Option SpawnRefusal = λ g. g (first_in_expression marks around high.at high.kind
      (first_in_expression marks around low.at low.kind (first_with marks first (occurrence thing.Spawn place around)))) in
      ap change (of_body-items unchanged one_behind_other (by_thing marks) in_block block)

  pub first_in_for : (start : List Stmt) (choice third : Option Expr) (body : Stmt) (first : Option SpawnRefusal) →
      first_in_statement marks around place (stmt.For start choice third body) first ≡
      first_in_statement marks (in_loop around) body.at body.kind
      (first_in_option marks around third (first_in_option marks around choice (first_in_statements marks around start first)))
  unfolding opened
  first_in_for start choice third body first =
      let change : Change → Option SpawnRefusal = λ g. first_in_statement marks (in_loop around) body.at body.kind
      (first_in_option marks around third (first_in_option marks around choice (g first))) in
      ap change (of_body-items unchanged one_behind_other (by_thing marks) around start)

-- ---- tests of statements

pub some_in_call : (test : ExprKind → Bool) (f : ℕ) (values : List Expr) → some_inside test (expr.Call f values) ≡ list_any (λ e. some_expression test e.kind) values
unfolding opened
some_in_call test f values = some_in_row-items test values

pub some_in_block : (test : StmtKind → Bool) (body : List Stmt) → some_below test (stmt.Block body) ≡ some_in_list test body
unfolding opened
some_in_block test body = some_in_body-items test body

pub some_in_spawn : (test : StmtKind → Bool) (low high : Expr) (block : List Stmt) → some_below test (stmt.Spawn low high block) ≡ some_in_list test block
unfolding opened
some_in_spawn test low high block = some_in_body-items test block

pub some_in_for : (test : StmtKind → Bool) (first : List Stmt) (choice third : Option Expr) (body : Stmt) →
    some_below test (stmt.For first choice third body) ≡ (some_in_list test first || (some_statement test body.kind || false))
unfolding opened
some_in_for test first choice third body = ap (λ found. found || (some_statement test body.kind || false)) (some_in_body-items test first)

pub ruleset tests = (or-false, or-true, some_in_call, some_in_block, some_in_spawn, some_in_for)
