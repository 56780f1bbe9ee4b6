-- The typed statements have as many nodes as are counted in the raw ones.
use Rattle.std.proofs.Common.{◌≡◌, refl, sym, ◌∙◌, ap, arith, ℕ, ◌+◌, Bool, List, [], ◌∷◌, ◌++◌, Option, Some, None}
use Rattle.std.specs.Prelude.{sum, map}
use Rattle.std.proofs.lemmas.List.Sums.{sum-map, sum_by-cons}
use mathlib.Core.Former.{none_left, one_more}
use Rattle.xmt_base.specs.declared.values.Place.{Place}
use Rattle.raw_tree.specs.declared.tree.RawExpr.{RawExpr}
use Rattle.raw_tree.specs.declared.tree.RawLocal.{RawLocal}
use Rattle.raw_tree.specs.declared.tree.RawFirst.{RawFirst}
use Rattle.raw_tree.specs.declared.tree.RawFirst.TheVariants as begins
use Rattle.raw_tree.specs.declared.tree.RawStmt.{RawStmt}
use Rattle.raw_tree.specs.declared.tree.RawStmtKind.{RawStmtKind, Row_of-RawStmt, end_of-RawStmt, more_of-RawStmt, Held-RawStmtKind-If-2, None', Some'}
use Rattle.raw_tree.specs.declared.tree.RawStmtKind.TheVariants as raw
use Rattle.source_meaning.specs.declared.tree.Expr.{Expr}
use Rattle.source_meaning.specs.declared.tree.Stmt.{Stmt}
use Rattle.source_meaning.specs.declared.tree.StmtKind.TheVariants as s
use Rattle.source_meaning.specs.declared.tree.StmtKind.TheBlock.{hidden-the_row-Stmt-0}
use Rattle.source_meaning.specs.Opened.{opened}
use Rattle.name_scopes.specs.declared.scope.Declared.{Declared}
use Rattle.name_scopes.specs.Locals.{Env, declare_local, is_constant}
use Rattle.name_scopes.specs.Size.{nodes}
use Rattle.name_faults.specs.Expressions.{meaning}
use Rattle.name_faults.specs.Statements.{after, after_inner, after_first}
use Rattle.name_faults.specs.Nodes as counted
use Rattle.typed_programs.specs.Expressions.{expression, expressions, option}
use Rattle.typed_programs.specs.Statements.{declares, first_of, among, typed, typed_inner, typed_held, typed_row, typed_all}
use Rattle.tree_measures.specs.Nodes.{expression_nodes, option_nodes, nodes_of_expressions, statement_nodes, statement_row_nodes, nodes_of_statements}
use Rattle.resolved_programs.specs.Branches.{IsNoDeclaration, HasPlainBranches, IsPlainBranch, IsPlainElse, RowHasPlainBranches, ListHasPlainBranches}
use Rattle.resolved_programs.proofs.Nodes.{typed_nodes, counted_spot, variable_nodes}

pub sum_more : {X : Type 0} (f : X → ℕ) (x : X) (xs : List X) → sum (map f (x ∷ xs)) ≡ f x + sum (map f xs)
sum_more f x xs = sum-map f (x ∷ xs) ∙ sum_by-cons f x xs ∙ ap (λ n. f x + n) (sym (sum-map f xs))

option_counted : (ds : List Declared) (a : Option RawExpr) → option_nodes (option ds a) ≡ counted.nodes_of_option a
option_counted ds None = refl
option_counted ds (Some a) = typed_nodes ds a.at a.kind

values_counted : (ds : List Declared) (values : List RawExpr) → nodes_of_expressions (expressions ds values) ≡ sum (map (λ (a : RawExpr). nodes a.kind) values)
values_counted ds [] = refl
values_counted ds (a ∷ rest) = omega (arith, typed_nodes ds a.at a.kind, values_counted ds rest, sum_more (λ (x : RawExpr). nodes x.kind) a rest)

rows_counted : (body : List Stmt) → statement_row_nodes (hidden-the_row-Stmt-0 body) ≡ nodes_of_statements body
unfolding opened
rows_counted [] = refl
rows_counted (x ∷ rest) = ap (λ n. statement_nodes x.kind + n) (rows_counted rest)

block_nodes : (body : List Stmt) → statement_nodes (s.Block body) ≡ 1 + nodes_of_statements body
unfolding opened
block_nodes body = ap (λ n. 1 + n) (rows_counted body)

spawn_nodes : (low high : Expr) (body : List Stmt) → statement_nodes (s.Spawn low high body) ≡ 1 + (expression_nodes low.kind + (expression_nodes high.kind + nodes_of_statements body))
unfolding opened
spawn_nodes low high body = omega (arith, rows_counted body)

for_nodes : (first : List Stmt) (test third : Option Expr) (body : Stmt) →
    statement_nodes (s.For first test third body) ≡ 1 + (nodes_of_statements first + (option_nodes test + (option_nodes third + statement_nodes body.kind)))
unfolding opened
for_nodes first test third body = omega (arith, rows_counted first)

other_nodes : Option Stmt → ℕ
other_nodes None = 0
other_nodes (Some x) = statement_nodes x.kind

if_nodes : (test : Expr) (body : Stmt) (other : Option Stmt) → statement_nodes (s.If test body other) ≡ statement_nodes (s.Value test) + (statement_nodes body.kind + other_nodes other)
unfolding opened other_nodes
if_nodes test body None = omega arith
if_nodes test body (Some x) = omega arith

lists_counted : (front rest : List Stmt) → nodes_of_statements (front ++ rest) ≡ nodes_of_statements front + nodes_of_statements rest
lists_counted [] rest = omega arith
lists_counted (x ∷ front) rest = omega (arith, lists_counted front rest)

declares_counted : (constant : Bool) (locals : List RawLocal) (e : Env) → nodes_of_statements (declares constant locals e) ≡ sum (map counted.nodes_of_local locals)
declares_counted constant [] e = refl
declares_counted constant (l ∷ rest) e =
    omega (arith, option_counted e.declared l.value, declares_counted constant rest (declare_local constant l.name e), sum_more counted.nodes_of_local l rest)

first_counted : (begin : RawFirst) (e : Env) → nodes_of_statements (first_of begin e) ≡ counted.nodes_of_first begin
first_counted (begins.Decl d) e = declares_counted (is_constant d.ty.qualifiers) d.locals e
first_counted (begins.Value None) e = refl
first_counted (begins.Value (Some a)) e = omega (arith, typed_nodes e.declared a.at a.kind)

-- what is to be counted in a statement, unless it is a declaration
abbrev HasNodes : RawStmtKind → ℕ → Type 0
HasNodes (raw.Decl d) n = Unit {0}
HasNodes kind n = n ≡ counted.statement_nodes kind

among_counted : (kind : RawStmtKind) (e : Env) (x : Stmt) → HasNodes kind (statement_nodes x.kind) → nodes_of_statements (among kind e x) ≡ counted.statement_nodes kind
among_counted (raw.Decl d) e x same = declares_counted (is_constant d.ty.qualifiers) d.locals e
among_counted kind e x same = omega (arith, same)

itself_counted : (kind : RawStmtKind) (n : ℕ) → IsNoDeclaration kind → HasNodes kind n → n ≡ counted.statement_nodes kind
itself_counted (raw.Decl d) n none same = absurd none
itself_counted kind n none same = same

mutual
  unfolding opened other_nodes

  statement_counted : (at : Place) (kind : RawStmtKind) (e : Env) → HasPlainBranches kind → HasNodes kind (statement_nodes (typed at kind e).kind)
  statement_counted at (raw.Block' shape body) e plain = omega (arith, block_nodes (typed_row body e), row_counted body e plain)
  statement_counted at (raw.Decl d) e plain = tt
  statement_counted at raw.Empty e plain = refl
  statement_counted at (raw.Value a) e plain = omega (arith, typed_nodes e.declared a.at a.kind)
  statement_counted at (raw.If' test shape body other) e plain =
      omega (
        arith,
        if_nodes (expression e.declared test) (typed_inner body e) (typed_held other (after_inner body e)),
        typed_nodes e.declared test.at test.kind,
        inner_counted body e plain.0,
        held_counted other (after_inner body e) plain.1,
      )
  statement_counted at (raw.While' test shape body) e plain = omega (arith, typed_nodes e.declared test.at test.kind, inner_counted body e plain)
  statement_counted at (raw.Do' shape body test) e plain = omega (arith, typed_nodes e.declared test.at test.kind, inner_counted body e plain)
  statement_counted at (raw.For' begin test third shape body) e plain =
      omega (
        arith,
        for_nodes (first_of begin e) (option (after_first begin e).declared test) (option (after_first begin e).declared third) (typed_inner body (after_first begin e)),
        first_counted begin e,
        option_counted (after_first begin e).declared test,
        option_counted (after_first begin e).declared third,
        inner_counted body (after_first begin e) plain,
      )
  statement_counted at raw.Break e plain = refl
  statement_counted at raw.Continue e plain = refl
  statement_counted at (raw.Return v) e plain = omega (arith, option_counted e.declared v)
  statement_counted at (raw.Spawn' low high shape body) e plain =
      omega (
        arith,
        spawn_nodes (expression e.declared low) (expression e.declared high) (typed_row body e),
        typed_nodes e.declared low.at low.kind,
        typed_nodes e.declared high.at high.kind,
        row_counted body e plain,
      )
  statement_counted at (raw.Ps v r) e plain = omega (arith, variable_nodes (meaning e.declared v))
  statement_counted at (raw.Psm v to) e plain = omega (arith, variable_nodes (meaning e.declared v), counted_spot e.declared to)
  statement_counted at (raw.Print text values) e plain = omega (arith, values_counted e.declared values)

  inner_counted : (row : Row_of-RawStmt (one_more none_left)) (e : Env) → IsPlainBranch row → statement_nodes (typed_inner row e).kind ≡ counted.inner_nodes row
  inner_counted (more_of-RawStmt at kind end_of-RawStmt) e plain = itself_counted kind (statement_nodes (typed at kind e).kind) plain.0 (statement_counted at kind e plain.1)

  held_counted : (held : Held-RawStmtKind-If-2) (e : Env) → IsPlainElse held → other_nodes (typed_held held e) ≡ counted.held_nodes held
  held_counted None' e plain = refl
  held_counted (Some' shape body) e plain = inner_counted body e plain

  row_counted : {n : _} (row : Row_of-RawStmt n) (e : Env) → RowHasPlainBranches row → nodes_of_statements (typed_row row e) ≡ counted.row_nodes row
  row_counted end_of-RawStmt e plain = refl
  row_counted (more_of-RawStmt at kind rest) e plain =
      omega (
        arith,
        lists_counted (among kind e (typed at kind e)) (typed_row rest (after kind e)),
        among_counted kind e (typed at kind e) (statement_counted at kind e plain.0),
        row_counted rest (after kind e) plain.1,
      )

pub body_counted : (body : List RawStmt) (e : Env) → ListHasPlainBranches body → nodes_of_statements (typed_all body e) ≡ counted.nodes_of_body body
body_counted [] e plain = refl
body_counted (x ∷ rest) e plain =
    omega (
      arith,
      lists_counted (among x.kind e (typed x.at x.kind e)) (typed_all rest (after x.kind e)),
      among_counted x.kind e (typed x.at x.kind e) (statement_counted x.at x.kind e plain.0),
      body_counted rest (after x.kind e) plain.1,
      sum_more (λ (y : RawStmt). counted.statement_nodes y.kind) x rest,
    )
