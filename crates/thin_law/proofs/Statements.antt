-- The statements of a thin source in the names of its file: what each stands for, and that nothing is broken in it.
use Rattle.std.proofs.Common.{◌≡◌, refl, sym, ◌∙◌, ap, subst, arith, ℕ, suc, ◌+◌, ◌≤◌, max, Bool, true, List, [], ◌∷◌, ◌++◌, length}
use Rattle.std.specs.Prelude.{nat_lt}
use Rattle.std.proofs.lemmas.List.Sums.{sum-map, sum_by-cons}
use Rattle.xmt_base.specs.declared.values.Place.{Place}
use Rattle.source_meaning.specs.declared.tree.Spot.{Spot}
use Rattle.source_meaning.specs.declared.tree.Expr.{Expr}
use Rattle.source_meaning.specs.declared.tree.ExprKind.TheVariants as e
use Rattle.source_meaning.specs.declared.tree.Stmt.{Stmt}
use Rattle.source_meaning.specs.declared.tree.StmtKind.TheVariants as s
use Rattle.source_meaning.specs.declared.tree.GlobalVar.{GlobalVar}
use Rattle.thin_source.specs.Tokens.{Text}
use Rattle.thin_source.specs.Statements.{statement, printed}
use Rattle.xmt_lex.specs.declared.kinds.Mark.TheVariants as m
use Rattle.raw_tree.specs.declared.tree.RawText.{RawText}
use Rattle.raw_tree.specs.declared.tree.RawSpot.{RawSpot}
use Rattle.raw_tree.specs.declared.tree.RawExpr.{RawExpr}
use Rattle.raw_tree.specs.declared.tree.RawExprKind.TheVariants as raw_e
use Rattle.raw_tree.specs.declared.tree.RawStmt.{RawStmt}
use Rattle.raw_tree.specs.declared.tree.RawStmtKind.TheVariants as raw
use Rattle.raw_tree.specs.Grammar as raw_grammar
use Rattle.raw_tree.specs.Statements as raw_code
use Rattle.name_scopes.specs.Opened.{opened}
use Rattle.name_scopes.specs.declared.fault.Which.TheVariants as which
use Rattle.name_scopes.specs.declared.fault.NameKind.TheVariants as kind
use Rattle.name_scopes.specs.declared.scope.Declared.{Declared}
use Rattle.name_scopes.specs.Locals.{Env, left}
use Rattle.name_scopes.specs.Waiting.{waiting, waiting_of_values}
use Rattle.name_scopes.proofs.Table.{take_short}
use Rattle.name_faults.specs.Nodes.{statement_nodes, nodes_of_body}
use Rattle.name_faults.specs.Statements.{after, after_all, format_fault, waits, statement_faults, statements_faults}
use Rattle.name_faults.proofs.Bodies.{after_spawn, faults_spawn, nodes_spawn}
use Rattle.typed_programs.specs.Expressions.{expression}
use Rattle.typed_programs.specs.Statements.{pieces, typed_all}
use Rattle.typed_programs.proofs.Bodies.{typed_spawn}
use Rattle.thin_law.proofs.Trees as of
use Rattle.thin_law.proofs.Trees.{OfStmt, OfStmts}
use Rattle.thin_law.proofs.Clean.{IsClean, nothing, neither, holds_not, within_limit, not_less}
use Rattle.thin_law.proofs.Expressions.{IsFound, IsSame, IsSameSpot, same, same_spot}

-- inside a function without variables
abbrev pub inside : List Declared → Env
inside ds = record { declared = ds; variables = [] }

-- how a raw statement stands to the thin one, of so many nodes
pub record IsSameStmt (ds : List Declared) (count : ℕ) (a : Stmt) (r : RawStmt) : Type 0 where
  pub typed : pieces r.at r.kind (inside ds) ≡ a ∷ []
  pub stays : after r.kind (inside ds) ≡ inside ds
  pub clean : (value : Bool) (start : ℕ) → IsClean (statement_faults value start r.at r.kind (inside ds))
  pub counted : statement_nodes r.kind ≡ count

pub record AreSame (ds : List Declared) (count : ℕ) (body : List Stmt) (trees : List RawStmt) : Type 0 where
  pub typed : typed_all trees (inside ds) ≡ body
  pub stays : after_all trees (inside ds) ≡ inside ds
  pub clean : (value : Bool) (start : ℕ) → IsClean (statements_faults value start trees (inside ds))
  pub counted : nodes_of_body trees ≡ count

spawn_alone : (at : Place) (low high : RawExpr) (body : List RawStmt) (env : Env) →
    pieces at (raw.Spawn low high body) env ≡ statement at (s.Spawn (expression env.declared low) (expression env.declared high) (typed_all body env)) ∷ []
unfolding opened
spawn_alone at low high body env = ap (λ made. made ∷ []) (typed_spawn at low high body env)

nodes_behind : (r : RawStmt) (body : List RawStmt) → nodes_of_body (r ∷ body) ≡ statement_nodes r.kind + nodes_of_body body
nodes_behind r body =
    sum-map (λ (y : RawStmt). statement_nodes y.kind) (r ∷ body) ∙ sum_by-cons (λ (y : RawStmt). statement_nodes y.kind) r body
    ∙ ap (λ n. statement_nodes r.kind + n) (sym (sum-map (λ (y : RawStmt). statement_nodes y.kind) body))

few_wait : (number : ℕ) (at : Place) → number ≤ 256 → IsClean (waits number at)
few_wait number at few = holds_not (nat_lt 256 number) (kind.TooMany which.Waiting) at (not_less 256 number few)

module _ (globals : List GlobalVar) (ds : List Declared) (found : IsFound globals ds) where
  assignment_is : {i j k l : ℕ} {a : Spot} {b : Expr} {p : Place} {r : RawSpot} {t : RawExpr} → IsSameSpot ds i k a r → IsSame ds j l b t → i ≤ 200 → j ≤ 200 →
      IsSameStmt ds (suc (suc (k + l))) (statement p (s.Value (record { at = p; kind = e.Assign a b }))) (raw_code.statement p (raw.Value (raw_grammar.node p (raw_e.Assign r m.Equal t))))
  unfolding opened
  assignment_is {a = a} {b = b} {p = p} {r = r} {t = t} place value few small =
      let size = place.writes (0 + waiting t.kind) in
      let width = value.waits in
      record {
        typed =
            ap (λ x. statement p (s.Value (record { at = p; kind = e.Assign x (expression ds t) })) ∷ []) place.typed
            ∙ ap (λ y. statement p (s.Value (record { at = p; kind = e.Assign a y })) ∷ []) value.typed;
        stays = refl;
        clean = λ wanted start. neither (neither (neither place.clean place.write) (value.clean true)) (few_wait (waiting (raw_e.Assign r m.Equal t)) p (omega (arith, size, width, few, small)));
        counted = omega (arith, place.counted, value.counted);
      }

  print_is : (p : Place) (text : RawText) {n count : ℕ} {a : Expr} {r : RawExpr} → text.bytes ≡ printed → IsSame ds n count a r → n ≤ 200 →
      IsSameStmt ds (suc count) (statement p (s.Print printed (a ∷ []))) (raw_code.statement p (raw.Print text (r ∷ [])))
  unfolding opened
  print_is p text {a = a} {r = r} is value few =
      let width = value.waits in
      record {
        typed =
            ap (λ bytes. statement p (s.Print bytes (expression ds r ∷ [])) ∷ []) is
            ∙ ap (λ x. statement p (s.Print printed (x ∷ [])) ∷ []) value.typed;
        stays = refl;
        clean = λ wanted start.
            neither (subst (λ (bytes : Text). IsClean (format_fault p (record { at = text.at; bytes = bytes }) 1)) (sym is) nothing)
            (neither (neither (value.clean true) nothing) (neither (within_limit 16 which.PrintValues (r.at ∷ []) (omega arith)) (few_wait (waiting_of_values (r ∷ [])) p (omega (arith, width, few)))));
        counted = omega (arith, value.counted);
      }

  spawn_is : (p : Place) {i j k l count : ℕ} {low high : Expr} {r t : RawExpr} {block : List Stmt} {body : List RawStmt} → IsSame ds i k low r → IsSame ds j l high t → AreSame ds count block body → i ≤ 200 → j ≤ 200 →
      IsSameStmt ds (suc (k + l + count)) (statement p (s.Spawn low high block)) (raw_code.statement p (raw.Spawn r t body))
  spawn_is p {low = low} {high = high} {r = r} {t = t} {block = block} {body = body} first last within few small =
      let width = first.waits in
      let breadth = last.waits in
      record {
        typed =
            spawn_alone p r t body (inside ds)
            ∙ ap (λ x. statement p (s.Spawn x (expression ds t) (typed_all body (inside ds))) ∷ []) first.typed
            ∙ ap (λ y. statement p (s.Spawn low y (typed_all body (inside ds))) ∷ []) last.typed
            ∙ ap (λ made. statement p (s.Spawn low high made) ∷ []) within.typed;
        stays = after_spawn r t body (inside ds) ∙ ap (left (length ds)) within.stays ∙ ap inside (take_short (length ds) ds (omega arith));
        clean = λ value start. subst IsClean (sym (faults_spawn value start p r t body (inside ds)))
            (neither (neither (neither (first.clean true) (last.clean true)) (few_wait (max (waiting r.kind) (1 + waiting t.kind)) p (omega (arith, width, breadth, few, small)))) (within.clean value (length ds)));
        counted = omega (arith, nodes_spawn r t body, first.counted, last.counted, within.counted);
      }

  one_more : {k l : ℕ} {a : Stmt} {r : RawStmt} {rest : List Stmt} {body : List RawStmt} → IsSameStmt ds k a r → AreSame ds l rest body → AreSame ds (k + l) (a ∷ rest) (r ∷ body)
  one_more {a = a} {r = r} {rest = rest} {body = body} first others =
      record {
        typed = ap (λ made. made ++ typed_all body (after r.kind (inside ds))) first.typed ∙ ap (λ env. a ∷ typed_all body env) first.stays ∙ ap (λ made. a ∷ made) others.typed;
        stays = ap (after_all body) first.stays ∙ others.stays;
        clean = λ value start. neither (first.clean value start) (subst (λ (env : Env). IsClean (statements_faults value start body env)) (sym first.stays) (others.clean value start));
        counted = omega (arith, nodes_behind r body, first.counted, others.counted);
      }

  mutual
    pub same_stmt : {count : ℕ} {a : Stmt} {r : RawStmt} → OfStmt globals count a r → IsSameStmt ds count a r
    same_stmt (of.assignment place value few small) = assignment_is (same_spot globals ds found place) (same globals ds found value) few small
    same_stmt (of.print p text is value few) = print_is p text is (same globals ds found value) few
    same_stmt (of.spawn p low high block few small) = spawn_is p (same globals ds found low) (same globals ds found high) (same_stmts block) few small

    pub same_stmts : {count : ℕ} {body : List Stmt} {trees : List RawStmt} → OfStmts globals count body trees → AreSame ds count body trees
    same_stmts of.no_more = record { typed = refl; stays = refl; clean = λ value start. nothing; counted = refl }
    same_stmts (of.one_more first rest) = one_more (same_stmt first) (same_stmts rest)
