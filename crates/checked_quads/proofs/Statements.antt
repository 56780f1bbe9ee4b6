-- What a statement of a checked program names is known to its quads.
use Rattle.std.proofs.Common.{◌≡◌, refl, sym, ◌∙◌, ap, subst, arith, ℕ, ◌≤◌, ◌<◌, Bool, true, false, List, [], ◌∷◌, ◌++◌, length, Option, None}
use Rattle.std.specs.Prelude.{◌||◌, ◌&&◌, ◌==◌, nat_lt}
use Rattle.std.specs.List.{list_any}
use Rattle.std.proofs.lemmas.Bool.Decides.{nat_tests}
use Rattle.xmt_base.specs.declared.Place.{Place}
use Rattle.source_meaning.specs.declared.tree.Expr.{Expr}
use Rattle.source_meaning.specs.declared.tree.Stmt.{Stmt}
use Rattle.source_meaning.specs.declared.tree.StmtKind.{StmtKind, Row_of-Stmt, end_of-Stmt, more_of-Stmt, Held-StmtKind-If-2, None', Some'}
use Rattle.source_meaning.specs.declared.tree.StmtKind.TheVariants as stmt
use Rattle.source_meaning.specs.declared.tree.Program.{Program}
use Rattle.source_meaning.specs.Inside.{some_in_spot, some_expression, some_option, some_below, some_in_body, some_in_other, some_statement, some_in_list}
use Rattle.spawn_check.specs.Table.{MeetsNone}
use Rattle.spawn_check.specs.Things.{occurrences}
use Rattle.checked_programs.specs.Fits.{Known, behind, behind_row, StatementFits, RowsFit, ElseFits, ListFits}
use Rattle.checked_programs.specs.Declares.{declared_in, declared_in_row, declared_in_else, declared_in_list}
use Rattle.quad_code.specs.Rows.{rows_of}
use Rattle.quad_code.specs.Known.{Region, Serial, Inner, InBlock, NamesKnown, OptionKnown, OwnVariables, StatementKnown, SequenceKnown, ElseKnown}
use Rattle.quad_code.specs.Known as quads
use Rattle.quad_code.specs.Whole.{MayCall}
use Rattle.checked_quads.specs.Inner.{AreInner}
use Rattle.checked_quads.proofs.Rules.{Within, left_within, right_within, tail_within, around_at, in_expression, in_spot, in_values, in_option, in_rows, in_else, in_list, in_statement, serial_in, outside_in, is_barred, jump_rule, return_rule, print_rule, spawn_rule}
use Rattle.checked_quads.proofs.Fresh.{Fresh, fresh_front, fresh_behind, fresh_next, fresh_behind_row, declared_before}
use Rattle.checked_quads.proofs.Expressions.{first_none, second_none, known_whole, known_option, known_values, known_summed, known_place}

-- ---- two ways to say what is known

declared_same : (x slot variables : ℕ) → slot < variables → (x == slot) ≡ ((x == slot) && nat_lt x variables)
declared_same x slot variables below = chosen (x == slot) refl
  where
    chosen : (t : Bool) → (x == slot) ≡ t → t ≡ (t && nat_lt x variables)
    chosen false is = refl
    chosen true is = grind (arith, nat_tests)

agree_behind : (p : Program) (variables : ℕ) (k l : Known) → ((x : ℕ) → k x ≡ l x) → (kind : StmtKind) → StatementFits p variables k kind → (x : ℕ) → behind k kind x ≡ quads.declared variables l kind x
agree_behind p v k l same stmt.Empty fit x = same x
agree_behind p v k l same (stmt.Value e) fit x = same x
agree_behind p v k l same (stmt.Declare slot value) fit x = ap (λ t. t || (x == slot)) (same x) ∙ ap (λ t. l x || t) (declared_same x slot v fit.0)
agree_behind p v k l same (stmt.Block' shape body) fit x = same x
agree_behind p v k l same (stmt.If' test shape body other) fit x = same x
agree_behind p v k l same (stmt.While' test shape body) fit x = same x
agree_behind p v k l same (stmt.Do' shape body test) fit x = same x
agree_behind p v k l same (stmt.For' first_shape first test third shape body) fit x = same x
agree_behind p v k l same stmt.Break fit x = same x
agree_behind p v k l same stmt.Continue fit x = same x
agree_behind p v k l same (stmt.Return value) fit x = same x
agree_behind p v k l same (stmt.Spawn' low high shape block) fit x = same x
agree_behind p v k l same (stmt.Ps s r) fit x = same x
agree_behind p v k l same (stmt.Psm s to) fit x = same x
agree_behind p v k l same (stmt.Print text values) fit x = same x

agree_row : (p : Program) (variables : ℕ) (k l : Known) → ((x : ℕ) → k x ≡ l x) → {n : _} (row : Row_of-Stmt n) → RowsFit p variables k row → (x : ℕ) → behind_row k row x ≡ quads.all_declared variables l row x
agree_row p v k l same end_of-Stmt fit x = same x
agree_row p v k l same (more_of-Stmt place kind rest) fit x = agree_row p v (behind k kind) (quads.declared v l kind) (agree_behind p v k l same kind fit.0) rest fit.1 x

module _ (p : Program) (blocks : MeetsNone p) (few_registers : length p.registers ≤ 8) (inner : (function : ℕ) → Bool) (are_inner : AreInner p inner) (variables : ℕ) (outer : (slot : ℕ) → Option ℕ)
    (alone : (slot : ℕ) → outer slot ≡ None) where
  abbrev bar : Region → StmtKind → Bool
  bar = is_barred inner

  -- a statement of a block is barred as in serial code
  in_block : (region : Region) → region ≡ Serial → {n : _} (block : Row_of-Stmt n) → some_in_body (bar region) block ≡ false → some_in_body (bar InBlock) block ≡ false
  in_block region is block none =
      let moved : some_in_body (bar Serial) block ≡ false = subst (λ r. some_in_body (bar r) block ≡ false) is none in moved

  own_variables : (k l : Known) → ((x : ℕ) → k x ≡ l x) → {n : _} (block : Row_of-Stmt n) → Fresh k (declared_in_row block) → OwnVariables outer l block
  own_variables k l same block fresh = λ x declared. (sym (same x) ∙ declared_before x k block declared fresh, alone x)

  mutual
    known_statement : (region : Region) (loop : Bool) (k l : Known) (same : (x : ℕ) → k x ≡ l x) (place : Place) (kind : StmtKind) → Within (in_statement (around_at region loop) place kind) (occurrences p) →
        bar region kind ≡ false → some_below (bar region) kind ≡ false → StatementFits p variables k kind → Fresh k (declared_in kind) →
        StatementKnown (length p.globals) (MayCall p inner) variables outer l loop region kind
    known_statement region loop k l same place stmt.Empty within own none fit fresh = tt
    known_statement region loop k l same place (stmt.Value e) within own none fit fresh =
        known_whole p blocks few_registers inner are_inner region loop k l same e within (second_none (serial_in region (stmt.Value e)) (some_expression (outside_in inner region) e.kind) own) fit
    known_statement region loop k l same place (stmt.Declare slot value) within own none fit fresh =
        (fit.0, known_option p blocks few_registers inner are_inner region loop k l same value within (second_none (serial_in region (stmt.Declare slot value)) (some_option (outside_in inner region) value) own) fit.1)
    known_statement region loop k l same place (stmt.Block' shape body) within own none fit fresh = known_rows region loop k l same body within none fit fresh
    known_statement region loop k l same place (stmt.If' test shape body other) within own none fit fresh =
        let behind = right_within (in_expression (around_at region loop) test.at test.kind) (in_rows (around_at region loop) body ++ in_else (around_at region loop) other) within in (
          known_whole p blocks few_registers inner are_inner region loop k l same test
              (left_within (in_expression (around_at region loop) test.at test.kind) (in_rows (around_at region loop) body ++ in_else (around_at region loop) other) within)
              (second_none (serial_in region (stmt.If' test shape body other)) (some_expression (outside_in inner region) test.kind) own) fit.0,
          known_rows region loop k l same body (left_within (in_rows (around_at region loop) body) (in_else (around_at region loop) other) behind)
              (first_none (some_in_body (bar region) body) (some_in_other (bar region) other) none) fit.1 (fresh_front k (declared_in_row body) (declared_in_else other) fresh),
          known_else region loop k l same other (right_within (in_rows (around_at region loop) body) (in_else (around_at region loop) other) behind)
              (second_none (some_in_body (bar region) body) (some_in_other (bar region) other) none) fit.2 (fresh_behind k (declared_in_row body) (declared_in_else other) fresh),
        )
    known_statement region loop k l same place (stmt.While' test shape body) within own none fit fresh = (
      known_whole p blocks few_registers inner are_inner region loop k l same test (left_within (in_expression (around_at region loop) test.at test.kind) (in_rows (around_at region true) body) within)
          (second_none (serial_in region (stmt.While' test shape body)) (some_expression (outside_in inner region) test.kind) own) fit.0,
      known_rows region true k l same body (right_within (in_expression (around_at region loop) test.at test.kind) (in_rows (around_at region true) body) within) none fit.1 fresh,
    )
    known_statement region loop k l same place (stmt.Do' shape body test) within own none fit fresh = (
      known_whole p blocks few_registers inner are_inner region loop k l same test (right_within (in_rows (around_at region true) body) (in_expression (around_at region loop) test.at test.kind) within)
          (second_none (serial_in region (stmt.Do' shape body test)) (some_expression (outside_in inner region) test.kind) own) fit.1,
      known_rows region true k l same body (left_within (in_rows (around_at region true) body) (in_expression (around_at region loop) test.at test.kind) within) none fit.0 fresh,
    )
    known_statement region loop k l same place (stmt.For' first_shape first test third shape body) within own none fit fresh =
        let behind_first = right_within (in_rows (around_at region loop) first)
        (in_option (around_at region loop) test ++ (in_option (around_at region loop) third ++ in_rows (around_at region true) body)) within in
        let behind_test = right_within (in_option (around_at region loop) test) (in_option (around_at region loop) third ++ in_rows (around_at region true) body) behind_first in
        let tests = second_none (serial_in region (stmt.For' first_shape first test third shape body)) (some_option (outside_in inner region) test || some_option (outside_in inner region) third) own in
        let agree = agree_row p variables k l same first fit.0 in (
          known_rows region loop k l same first
              (left_within (in_rows (around_at region loop) first) (in_option (around_at region loop) test ++ (in_option (around_at region loop) third ++ in_rows (around_at region true) body)) within)
              (first_none (some_in_body (bar region) first) (some_in_body (bar region) body) none) fit.0 (fresh_front k (declared_in_row first) (declared_in_row body) fresh),
          known_option p blocks few_registers inner are_inner region loop (behind_row k first) (quads.all_declared variables l first) agree test
              (left_within (in_option (around_at region loop) test) (in_option (around_at region loop) third ++ in_rows (around_at region true) body) behind_first)
              (first_none (some_option (outside_in inner region) test) (some_option (outside_in inner region) third) tests) fit.1,
          known_option p blocks few_registers inner are_inner region loop (behind_row k first) (quads.all_declared variables l first) agree third
              (left_within (in_option (around_at region loop) third) (in_rows (around_at region true) body) behind_test)
              (second_none (some_option (outside_in inner region) test) (some_option (outside_in inner region) third) tests) fit.2,
          known_rows region true (behind_row k first) (quads.all_declared variables l first) agree body
              (right_within (in_option (around_at region loop) third) (in_rows (around_at region true) body) behind_test)
              (second_none (some_in_body (bar region) first) (some_in_body (bar region) body) none) fit.3 (fresh_behind_row k first (declared_in_row body) fresh),
        )
    known_statement region loop k l same place stmt.Break within own none fit fresh = jump_rule p blocks region loop place within
    known_statement region loop k l same place stmt.Continue within own none fit fresh = jump_rule p blocks region loop place within
    known_statement region loop k l same place (stmt.Return value) within own none fit fresh = (
      known_option p blocks few_registers inner are_inner region loop k l same value (tail_within _ (in_option (around_at region loop) value) within)
          (second_none (serial_in region (stmt.Return value)) (some_option (outside_in inner region) value) own) fit,
      return_rule p blocks region loop place value within,
    )
    known_statement region loop k l same place (stmt.Spawn' low high shape block) within own none fit fresh =
        let parts = tail_within _ (in_expression (around_at region loop) low.at low.kind ++ (in_expression (around_at region loop) high.at high.kind ++ in_rows (around_at InBlock false) block)) within in
        let behind_low = right_within (in_expression (around_at region loop) low.at low.kind) (in_expression (around_at region loop) high.at high.kind ++ in_rows (around_at InBlock false) block) parts in
        let bounds = second_none (serial_in region (stmt.Spawn' low high shape block)) (some_expression (outside_in inner region) low.kind || some_expression (outside_in inner region) high.kind) own in
        let in_serial = spawn_rule p blocks region loop place low high shape block within
        (first_none (serial_in region (stmt.Spawn' low high shape block)) (some_expression (outside_in inner region) low.kind || some_expression (outside_in inner region) high.kind) own) in (
          known_whole p blocks few_registers inner are_inner region loop k l same low
              (left_within (in_expression (around_at region loop) low.at low.kind) (in_expression (around_at region loop) high.at high.kind ++ in_rows (around_at InBlock false) block) parts)
              (first_none (some_expression (outside_in inner region) low.kind) (some_expression (outside_in inner region) high.kind) bounds) fit.0,
          known_whole p blocks few_registers inner are_inner region loop k l same high
              (left_within (in_expression (around_at region loop) high.at high.kind) (in_rows (around_at InBlock false) block) behind_low)
              (second_none (some_expression (outside_in inner region) low.kind) (some_expression (outside_in inner region) high.kind) bounds) fit.1,
          own_variables k l same block fresh,
          known_rows InBlock false k l same block (right_within (in_expression (around_at region loop) high.at high.kind) (in_rows (around_at InBlock false) block) behind_low)
              (in_block region in_serial block none) fit.2 fresh,
          in_serial,
        )
    known_statement region loop k l same place (stmt.Ps v r) within own none fit fresh =
        (known_summed p blocks few_registers inner are_inner region loop k l same v fit.0, omega (arith, fit.1, few_registers))
    known_statement region loop k l same place (stmt.Psm v to) within own none fit fresh =
        let out = second_none (serial_in region (stmt.Psm v to)) (some_in_spot (outside_in inner region) v || some_in_spot (outside_in inner region) to) own in (
          known_summed p blocks few_registers inner are_inner region loop k l same v fit.0,
          known_place p blocks few_registers inner are_inner region loop k l same to (right_within (in_spot (around_at region loop) v) (in_spot (around_at region loop) to) within)
              (second_none (some_in_spot (outside_in inner region) v) (some_in_spot (outside_in inner region) to) out) fit.1,
        )
    known_statement region loop k l same place (stmt.Print text values) within own none fit fresh =
        let out = second_none (serial_in region (stmt.Print text values)) (list_any (λ (e : Expr). some_expression (outside_in inner region) e.kind) values) own in
        let bare = first_none (serial_in region (stmt.Print text values)) (list_any (λ (e : Expr). some_expression (outside_in inner region) e.kind) values) own in (
          known_values p blocks few_registers inner are_inner region loop k l same values (tail_within _ (in_values (around_at region loop) values) within) out fit.2,
          fit.1,
          omega (arith, fit.1, fit.0.values),
          print_rule p blocks region loop place text values within bare,
        )

    known_rows : (region : Region) (loop : Bool) (k l : Known) (same : (x : ℕ) → k x ≡ l x) {n : _} (row : Row_of-Stmt n) → Within (in_rows (around_at region loop) row) (occurrences p) →
        some_in_body (bar region) row ≡ false → RowsFit p variables k row → Fresh k (declared_in_row row) → SequenceKnown (length p.globals) (MayCall p inner) variables outer l loop region row
    known_rows region loop k l same end_of-Stmt within none fit fresh = tt
    known_rows region loop k l same (more_of-Stmt place kind rest) within none fit fresh =
        let here = first_none (bar region kind || some_below (bar region) kind) (some_in_body (bar region) rest) none in (
          known_statement region loop k l same place kind (left_within (in_statement (around_at region loop) place kind) (in_rows (around_at region loop) rest) within)
              (first_none (bar region kind) (some_below (bar region) kind) here) (second_none (bar region kind) (some_below (bar region) kind) here) fit.0
              (fresh_front k (declared_in kind) (declared_in_row rest) fresh),
          known_rows region loop (behind k kind) (quads.declared variables l kind) (agree_behind p variables k l same kind fit.0) rest
              (right_within (in_statement (around_at region loop) place kind) (in_rows (around_at region loop) rest) within)
              (second_none (bar region kind || some_below (bar region) kind) (some_in_body (bar region) rest) none) fit.1 (fresh_next k kind (declared_in_row rest) fresh),
        )

    known_else : (region : Region) (loop : Bool) (k l : Known) (same : (x : ℕ) → k x ≡ l x) (other : Held-StmtKind-If-2) → Within (in_else (around_at region loop) other) (occurrences p) →
        some_in_other (bar region) other ≡ false → ElseFits p variables k other → Fresh k (declared_in_else other) → ElseKnown (length p.globals) (MayCall p inner) variables outer l loop region other
    known_else region loop k l same None' within none fit fresh = tt
    known_else region loop k l same (Some' shape body) within none fit fresh = known_rows region loop k l same body within none fit fresh

  pub known_list : (region : Region) (loop : Bool) (k l : Known) (same : (x : ℕ) → k x ≡ l x) (body : List Stmt) → Within (in_list (around_at region loop) body) (occurrences p) →
      some_in_list (bar region) body ≡ false → ListFits p variables k body → Fresh k (declared_in_list body) → SequenceKnown (length p.globals) (MayCall p inner) variables outer l loop region (rows_of body)
  known_list region loop k l same [] within none fit fresh = tt
  known_list region loop k l same (s ∷ rest) within none fit fresh =
      let here = first_none (some_statement (bar region) s.kind) (some_in_list (bar region) rest) none in (
        known_statement region loop k l same s.at s.kind (left_within (in_statement (around_at region loop) s.at s.kind) (in_list (around_at region loop) rest) within)
            (first_none (bar region s.kind) (some_below (bar region) s.kind) here) (second_none (bar region s.kind) (some_below (bar region) s.kind) here) fit.0
            (fresh_front k (declared_in s.kind) (declared_in_list rest) fresh),
        known_list region loop (behind k s.kind) (quads.declared variables l s.kind) (agree_behind p variables k l same s.kind fit.0) rest
            (right_within (in_statement (around_at region loop) s.at s.kind) (in_list (around_at region loop) rest) within)
            (second_none (some_statement (bar region) s.kind) (some_in_list (bar region) rest) none) fit.1 (fresh_next k s.kind (declared_in_list rest) fresh),
      )
