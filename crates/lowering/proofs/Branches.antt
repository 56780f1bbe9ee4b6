-- Each kind of statement that has others inside it, a print, and a prefix-sum.
use Rattle.std.proofs.Common.{◌≡◌, sym, ◌∙◌, ap, subst, refl, ℕ, true, ◌+◌, List, [], ◌∷◌, ◌++◌, length, Option, Some, None, append_assoc}
use Rattle.std.specs.Prelude.{slice_set}
use Rattle.source_meaning.specs.declared.tree.Expr.{Expr}
use Rattle.source_meaning.specs.declared.tree.Stmt.{Stmt}
use Rattle.source_meaning.specs.declared.tree.StmtKind.{StmtKind}
use Rattle.source_meaning.specs.declared.tree.StmtKind.TheVariants as stmt
use Rattle.source_meaning.specs.declared.tree.GlobalVar.{GlobalVar}
use Rattle.source_meaning.specs.Layout.{first_word, words_of}
use Rattle.source_meaning.specs.Code.{all_spawns}
use Rattle.source_meaning.specs.Opened.{opened}
use Rattle.xmt_quads.specs.declared.code.Operand.{Operand}
use Rattle.xmt_quads.specs.declared.code.Quad.TheVariants as quad
use Rattle.quad_code.specs.Lined.{Prints, Lined, lined, one, code_then, choice, loop_code, spawn_code}
use Rattle.quad_code.specs.Rows.{row_of, rows_of}
use Rattle.quad_code.specs.Functions.{outer_of}
use Rattle.quad_code.specs.Expressions.{operand_of, arguments_of}
use Rattle.quad_code.specs.Statements.{Counts, behind_all, in_spawn, all_prints, option_operand, sequence_at}
use Rattle.quad_code.specs.Whole.{texts_in, all_texts}
use Rattle.lowering.specs.declared.code.Placed.{Placed}
use Rattle.lowering.specs.declared.loops.Exits.{Exits}
use Rattle.lowering.specs.Emitted.{at_line, jump_unless, choice_closed, with_code, placed, Appends, expression_code, values_code, arguments_code}
use Rattle.lowering.specs.Stated.{Emits, loop_head, bounds_code, option_code, print_code, statement_code, sequence_code, EmitsStatement, EmitsSequence, EmitsOther}
use Rattle.lowering.proofs.Appends.{in_turn, nothing, choice_behind}
use Rattle.lowering.proofs.Rings.{looped, untested}
use Rattle.lowering.proofs.Sequels.{AnyRow, rows_same, all_counted, behind_counted}

abbrev exits_at : (leave again : ℕ) → Exits
exits_at leave again = record { leave = leave; again = again }

spawned_code : (line site : ℕ) (lo hi : Operand) (block : ℕ → List Lined) (c0 c1 c2 c3 : List Placed) → c1 ≡ c0 ++ at_line (quad.Spawn lo hi) line ∷ [] → Appends block c1 c2 →
    c3 ≡ c2 ++ at_line quad.Join line ∷ [] → Appends (λ at. spawn_code line at site lo hi block) c0 c3
spawned_code line site lo hi block c0 c1 c2 c3 h1 h2 h3 =
    in_turn (λ at. one line (quad.Spawn lo hi)) (λ at. code_then at (block at) (λ at. one line quad.Join)) c0 c1 c3 h1 (in_turn block (λ at. one line quad.Join) c1 c2 c3 h2 h3)

module _ (globals : List GlobalVar) (body : List Stmt) (variables : ℕ) where
  pub of_statement : (exits : Exits) (line : ℕ) (j k : StmtKind) (c0 c1 : List Placed) (t0 t1 : List (List ℕ)) → k ≡ j → Emits (statement_code globals body variables exits line j) (texts_in j) c0 c1 t0 t1 →
      Emits (statement_code globals body variables exits line k) (texts_in k) c0 c1 t0 t1
  of_statement exits line j k c0 c1 t0 t1 is h = subst (λ (k : StmtKind). Emits (statement_code globals body variables exits line k) (texts_in k) c0 c1 t0 t1) (sym is) h

  -- one statement by two names
  pub renamed_statement : (exits : Exits) (x y : Stmt) (c0 c1 : List Placed) (t0 t1 : List (List ℕ)) → x ≡ y → EmitsStatement globals body variables exits x c0 c1 t0 t1 → EmitsStatement globals body variables exits y c0 c1 t0 t1
  renamed_statement exits x y c0 c1 t0 t1 same h = subst (λ (s : Stmt). EmitsStatement globals body variables exits s c0 c1 t0 t1) same h

  pub of_other : (exits : Exits) (x y : Option Stmt) (c0 c1 : List Placed) (t0 t1 : List (List ℕ)) → y ≡ x → EmitsOther globals body variables exits x c0 c1 t0 t1 → EmitsOther globals body variables exits y c0 c1 t0 t1
  of_other exits x y c0 c1 t0 t1 is h = subst (λ (other : Option Stmt). EmitsOther globals body variables exits other c0 c1 t0 t1) (sym is) h

  pub block : (exits : Exits) (line : ℕ) (list : List Stmt) (c0 c1 : List Placed) (t0 t1 : List (List ℕ)) → EmitsSequence globals body variables exits list c0 c1 t0 t1 →
      Emits (statement_code globals body variables exits line (stmt.Block list)) (texts_in (stmt.Block list)) c0 c1 t0 t1
  unfolding opened
  block exits line list c0 c1 t0 t1 h =
      subst (λ (row : AnyRow). Emits (λ n at. sequence_at (first_word globals) (words_of globals) (outer_of body) variables at exits.leave exits.again n row.1) (all_texts row.1) c0 c1 t0 t1)
      (sym (rows_same list)) h

  -- ---- a choice

  decided : (exits : Exits) (line : ℕ) (test : Expr) (a b : List Stmt) (o : Operand) (c0 c1 c2 c3 c4 c5 c6 : List Placed) (x y : Placed) (n1 n2 : ℕ) (t0 t1 t2 : List (List ℕ)) →
      Appends (expression_code globals body variables test) c0 c1 → n1 ≡ length c1 → c2 ≡ c1 ++ x ∷ [] → EmitsSequence globals body variables exits a c2 c3 t0 t1 → n2 ≡ length c3 → c4 ≡ c3 ++ y ∷ [] →
      EmitsSequence globals body variables exits b c4 c5 t1 t2 → o ≡ operand_of variables test.kind →
      c6 ≡ choice_closed c5 n1 (jump_unless true o) n2 line →
      Emits (λ n at. code_then at (expression_code globals body variables test at) (λ at.
      choice line at (quad.IfZero (operand_of variables test.kind)) (sequence_code globals body variables exits a n) (sequence_code globals body variables exits b (behind_all n (rows_of a)))))
      (all_texts (rows_of a) ++ all_texts (rows_of b)) c0 c6 t0 t2
  decided exits line test a b o c0 c1 c2 c3 c4 c5 c6 x y n1 n2 t0 t1 t2 h1 m1 e2 h3 m2 e4 h5 ho e6 =
      let count : length t1 ≡ length t0 + all_prints (rows_of a) = behind_counted t0 t1 (all_texts (rows_of a)) (all_prints (rows_of a)) (all_counted (rows_of a)) h3.printed in
      record {
        appended = λ spawned.
            choice_behind globals body (jump_unless true) variables line test o (sequence_code globals body variables exits a (record { spawned = spawned; printed = length t0 }))
            (sequence_code globals body variables exits b (record { spawned = spawned + all_spawns (rows_of a); printed = length t0 + all_prints (rows_of a) }))
            c0 c1 c2 c3 c4 c5 c6 x y n1 n2 h1 m1 e2 (h3.appended spawned) m2 e4
            (subst (λ n. Appends (sequence_code globals body variables exits b (record { spawned = spawned + all_spawns (rows_of a); printed = n })) c4 c5) count (h5.appended (spawned + all_spawns (rows_of a))))
            ho e6;
        printed = h5.printed ∙ ap (λ t. t ++ all_texts (rows_of b)) h3.printed ∙ append_assoc t0 (all_texts (rows_of a)) (all_texts (rows_of b));
      }

  pub choice_of : (exits : Exits) (line : ℕ) (test : Expr) (s : Stmt) (other : Option Stmt) (o : Operand) (c0 c1 c2 c3 c4 c5 c6 : List Placed) (x y : Placed) (n1 n2 : ℕ) (t0 t1 t2 : List (List ℕ)) →
      Appends (expression_code globals body variables test) c0 c1 → n1 ≡ length c1 → c2 ≡ c1 ++ x ∷ [] → EmitsSequence globals body variables exits (s ∷ []) c2 c3 t0 t1 → n2 ≡ length c3 → c4 ≡ c3 ++ y ∷ [] →
      EmitsOther globals body variables exits other c4 c5 t1 t2 → o ≡ operand_of variables test.kind →
      c6 ≡ choice_closed c5 n1 (jump_unless true o) n2 line →
      Emits (statement_code globals body variables exits line (stmt.If test s other)) (texts_in (stmt.If test s other)) c0 c6 t0 t2
  unfolding opened
  choice_of exits line test s None o c0 c1 c2 c3 c4 c5 c6 x y n1 n2 t0 t1 t2 h1 m1 e2 h3 m2 e4 h5 ho e6 =
      decided exits line test (s ∷ []) [] o c0 c1 c2 c3 c4 c5 c6 x y n1 n2 t0 t1 t2 h1 m1 e2 h3 m2 e4 h5 ho e6
  choice_of exits line test s (Some e) o c0 c1 c2 c3 c4 c5 c6 x y n1 n2 t0 t1 t2 h1 m1 e2 h3 m2 e4 h5 ho e6 =
      decided exits line test (s ∷ []) (e ∷ []) o c0 c1 c2 c3 c4 c5 c6 x y n1 n2 t0 t1 t2 h1 m1 e2 h3 m2 e4 h5 ho e6

  -- ---- loops

  pub while_of : (outside exits : Exits) (line : ℕ) (test : Expr) (s : Stmt) (p : Operand) (c0 c1 c2 c3 c4 : List Placed) (x y : Placed) (at n : ℕ) (t0 t1 : List (List ℕ)) →
      at ≡ length c0 → Appends (expression_code globals body variables test) c0 c1 → p ≡ operand_of variables test.kind → exits ≡ exits_at (length c1 + 1) (length c1 + 1 + 1) →
      c2 ≡ c1 ++ at_line (loop_head (Some p) (length c1 + 1 + 1 + 1)) line ∷ x ∷ y ∷ [] → EmitsSequence globals body variables exits (s ∷ []) c2 c3 t0 t1 → n ≡ length c3 →
      c4 ≡ slice_set (slice_set (c3 ++ at_line (quad.Jump at) line ∷ []) exits.leave (at_line (quad.Jump (length c3 + 1)) line)) exits.again (at_line (quad.Jump n) line) →
      Emits (statement_code globals body variables outside line (stmt.While test s)) (texts_in (stmt.While test s)) c0 c4 t0 t1
  unfolding opened
  while_of outside exits line test s p c0 c1 c2 c3 c4 x y at n t0 t1 es h1 eo ex h2 h3 en h4 =
      record {
        appended = λ spawned.
            looped line (expression_code globals body variables test) (operand_of variables test.kind) p
            (λ at leave again. sequence_code globals body variables (exits_at leave again) (s ∷ []) (record { spawned = spawned; printed = length t0 }) at) (λ at. []) c0 c1 c2 c3 c3 c4 x y exits at n es h1 eo ex h2
            (h3.appended spawned) en (nothing c3) h4;
        printed = h3.printed;
      }

  pub do_of : (outside exits : Exits) (line : ℕ) (s : Stmt) (test : Expr) (p : Operand) (c0 c1 c2 c3 c4 : List Placed) (x y : Placed) (start n : ℕ) (t0 t1 : List (List ℕ)) →
      exits ≡ exits_at (length c0 + 1) (length c0 + 1 + 1) → c1 ≡ c0 ++ at_line (loop_head None (length c0 + 1 + 1 + 1)) line ∷ x ∷ y ∷ [] → start ≡ exits.again + 1 →
      EmitsSequence globals body variables exits (s ∷ []) c1 c2 t0 t1 → n ≡ length c2 → Appends (expression_code globals body variables test) c2 c3 → p ≡ operand_of variables test.kind →
      c4 ≡ slice_set (slice_set (c3 ++ at_line (quad.IfNot p start) line ∷ []) exits.leave (at_line (quad.Jump (length c3 + 1)) line)) exits.again (at_line (quad.Jump n) line) →
      Emits (statement_code globals body variables outside line (stmt.Do s test)) (texts_in (stmt.Do s test)) c0 c4 t0 t1
  unfolding opened
  do_of outside exits line s test p c0 c1 c2 c3 c4 x y start n t0 t1 ex h1 es h2 en h3 eo h4 =
      record {
        appended = λ spawned.
            untested line (expression_code globals body variables test) (operand_of variables test.kind) p
            (λ at leave again. sequence_code globals body variables (exits_at leave again) (s ∷ []) (record { spawned = spawned; printed = length t0 }) at) c0 c1 c2 c3 c4 x y exits start n ex h1 es
            (h2.appended spawned) en h3 eo h4;
        printed = h2.printed;
      }

  pub for_of : (outside exits : Exits) (line : ℕ) (first : List Stmt) (test third : Option Expr) (s : Stmt) (p : Operand) (c0 c1 c2 c3 c4 c5 c6 : List Placed) (x y : Placed) (at n : ℕ) (t0 t1 t2 : List (List ℕ)) →
      EmitsSequence globals body variables outside first c0 c1 t0 t1 → at ≡ length c1 → Appends (option_code globals body variables test) c1 c2 → p ≡ option_operand variables 1 test →
      exits ≡ exits_at (length c2 + 1) (length c2 + 1 + 1) → c3 ≡ c2 ++ at_line (loop_head (Some p) (length c2 + 1 + 1 + 1)) line ∷ x ∷ y ∷ [] →
      EmitsSequence globals body variables exits (s ∷ []) c3 c4 t1 t2 → n ≡ length c4 → Appends (option_code globals body variables third) c4 c5 →
      c6 ≡ slice_set (slice_set (c5 ++ at_line (quad.Jump at) line ∷ []) exits.leave (at_line (quad.Jump (length c5 + 1)) line)) exits.again (at_line (quad.Jump n) line) →
      Emits (statement_code globals body variables outside line (stmt.For first test third s)) (texts_in (stmt.For first test third s)) c0 c6 t0 t2
  unfolding opened
  for_of outside exits line first test third s p c0 c1 c2 c3 c4 c5 c6 x y at n t0 t1 t2 h0 es h1 eo ex h2 h3 en h4 h5 =
      let count : length t1 ≡ length t0 + all_prints (rows_of first) = behind_counted t0 t1 (all_texts (rows_of first)) (all_prints (rows_of first)) (all_counted (rows_of first)) h0.printed in
      let loop : (n : Counts) → (at : ℕ) → List Lined = λ n at.
      loop_code line at (option_code globals body variables test) (option_operand variables 1 test) (λ at leave again. sequence_code globals body variables (exits_at leave again) (s ∷ []) n at) (option_code globals body variables third)
      in
      let given : Emits (λ n at. code_then at (sequence_code globals body variables outside first n at) (loop (behind_all n (rows_of first)))) (all_texts (rows_of first) ++ all_texts (rows_of (s ∷ []))) c0 c6 t0 t2 =
      record {
        appended = λ spawned.
            let met : Counts = record { spawned = spawned + all_spawns (rows_of first); printed = length t0 + all_prints (rows_of first) } in
            in_turn (sequence_code globals body variables outside first (record { spawned = spawned; printed = length t0 })) (loop met) c0 c1 c6 (h0.appended spawned)
            (looped line (option_code globals body variables test) (option_operand variables 1 test) p (λ at leave again. sequence_code globals body variables (exits_at leave again) (s ∷ []) met at)
            (option_code globals body variables third) c1 c2 c3 c4 c5 c6 x y exits at n es h1 eo ex h2
            (subst (λ m. Appends (sequence_code globals body variables exits (s ∷ []) (record { spawned = spawned + all_spawns (rows_of first); printed = m })) c3 c4) count (h3.appended (spawned + all_spawns (rows_of first)))) en h4 h5);
        printed = h3.printed ∙ ap (λ t. t ++ all_texts (rows_of (s ∷ []))) h0.printed ∙ append_assoc t0 (all_texts (rows_of first)) (all_texts (rows_of (s ∷ [])));
      }
      in
      subst (λ (row : AnyRow). Emits (λ n at. code_then at (sequence_at (first_word globals) (words_of globals) (outer_of body) variables at outside.leave outside.again n row.1) (loop (behind_all n row.1)))
      (all_texts row.1 ++ all_texts (rows_of (s ∷ []))) c0 c6 t0 t2) (sym (rows_same first)) given

  -- ---- a spawn

  pub spawn_of : (exits : Exits) (line : ℕ) (low high : Expr) (list : List Stmt) (c0 c1 c2 c3 : List Placed) (t0 t1 : List (List ℕ)) →
      c1 ≡ bounds_code globals body variables line low high c0 → EmitsSequence globals body variables exits list c1 c2 t0 t1 → c3 ≡ c2 ++ at_line quad.Join line ∷ [] →
      Emits (statement_code globals body variables exits line (stmt.Spawn low high list)) (texts_in (stmt.Spawn low high list)) c0 c3 t0 t1
  unfolding opened
  spawn_of exits line low high list c0 c1 c2 c3 t0 t1 h1 h2 h3 =
      let l : Operand = operand_of variables low.kind in
      let h : Operand = operand_of (variables + 1) high.kind in
      let b0 : List Placed = with_code (expression_code globals body variables low) c0 in
      let b1 : List Placed = with_code (expression_code globals body (variables + 1) high) b0 in
      let given : Emits (λ n at. code_then at (expression_code globals body variables low at) (λ at. code_then at (expression_code globals body (variables + 1) high at) (λ at.
      spawn_code line at n.spawned l h (sequence_code globals body variables exits list (in_spawn n))))) (all_texts (rows_of list)) c0 c3 t0 t1 =
      record {
        appended = λ spawned.
            let block : ℕ → List Lined = sequence_code globals body variables exits list (record { spawned = 1 + spawned; printed = length t0 }) in
            in_turn (expression_code globals body variables low) (λ at. code_then at (expression_code globals body (variables + 1) high at) (λ at. spawn_code line at spawned l h block)) c0 b0 c3 refl
            (in_turn (expression_code globals body (variables + 1) high) (λ at. spawn_code line at spawned l h block) b0 b1 c3 refl
            (spawned_code line spawned l h block b1 c1 c2 c3 h1 (h2.appended (1 + spawned)) h3));
        printed = h2.printed;
      }
      in
      subst (λ (row : AnyRow). Emits (λ n at. code_then at (expression_code globals body variables low at) (λ at. code_then at (expression_code globals body (variables + 1) high at) (λ at.
      spawn_code line at n.spawned l h (λ at. sequence_at (first_word globals) (words_of globals) (outer_of body) variables at exits.leave exits.again (in_spawn n) row.1)))) (all_texts row.1) c0 c3 t0 t1)
      (sym (rows_same list)) given

  -- ---- a print

  arguments_alike : (values : List Expr) (line k r : ℕ) → arguments_code line k r values 0 ≡ arguments_of (first_word globals) (words_of globals) (outer_of body) line k r (row_of values)
  arguments_alike [] line k r = refl
  arguments_alike (e ∷ values) line k r = ap (λ c. lined line (quad.Argument k (operand_of r e.kind)) ∷ c) (arguments_alike values line (k + 1) (r + 1))

  pub print_of : (line number : ℕ) (text : List ℕ) (values : List Expr) (c0 c1 c2 c3 : List Placed) (t0 t1 : List (List ℕ)) → number ≡ length t0 → Appends (values_code globals body variables values) c0 c1 →
      Appends (arguments_code line 0 variables values) c1 c2 → c3 ≡ c2 ++ at_line (quad.Print number) line ∷ [] → t1 ≡ t0 ++ text ∷ [] →
      Emits (print_code globals body variables line text values) (text ∷ []) c0 c3 t0 t1
  print_of line number text values c0 c1 c2 c3 t0 t1 en h1 h2 h3 ht =
      let arguments : List Lined = arguments_of (first_word globals) (words_of globals) (outer_of body) line 0 variables (row_of values) in
      let last : List Lined = record { quad = quad.Print (length t0); line = line; note = Prints text } ∷ [] in
      record {
        appended = λ spawned.
            in_turn (values_code globals body variables values) (λ at. arguments ++ last) c0 c1 c3 h1
            (in_turn (λ at. arguments) (λ at. last) c1 c2 c3 (h2 ∙ ap (λ a. c1 ++ placed a) (arguments_alike values line 0 variables)) (h3 ∙ ap (λ n. c2 ++ at_line (quad.Print n) line ∷ []) en));
        printed = ht;
      }
