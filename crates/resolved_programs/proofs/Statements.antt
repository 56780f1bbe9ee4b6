-- The typed statements of those that break no rule name what is there, and use each variable where it is known.
use Rattle.std.proofs.Common.{◌≡◌, refl, sym, ◌∙◌, subst, arith, ℕ, ◌≤◌, Bool, true, false, List, [], ◌∷◌, ◌++◌, length, length-append, Option, Some, None}
use Rattle.std.proofs.lemmas.Bool.{or_left, or_right, eqb-true, eq-eqb}
use Rattle.std.proofs.lemmas.List.{length-map}
use Rattle.std.specs.Prelude.{map, not, ◌==◌, if◌then◌else◌}
use Rattle.xmt_base.specs.declared.values.Place.{Place}
use Rattle.xmt_base.specs.Format.{IsFormat, has_directives, directives}
use Rattle.raw_tree.specs.declared.tree.RawName.{RawName}
use Rattle.raw_tree.specs.declared.tree.RawText.{RawText}
use Rattle.raw_tree.specs.declared.tree.RawExpr.{RawExpr}
use Rattle.raw_tree.specs.declared.tree.RawSpot.{RawSpot}
use Rattle.raw_tree.specs.declared.tree.RawSpot.TheVariants as place
use Rattle.raw_tree.specs.declared.tree.RawLocal.{RawLocal}
use Rattle.raw_tree.specs.declared.tree.RawFirst.{RawFirst}
use Rattle.raw_tree.specs.declared.tree.RawFirst.TheVariants as begins
use Rattle.raw_tree.specs.declared.tree.RawStmt.{RawStmt}
use Rattle.raw_tree.specs.declared.tree.RawStmtKind.{RawStmtKind, Row_of-RawStmt, end_of-RawStmt, more_of-RawStmt, Held-RawStmtKind-If-2, None', Some'}
use Rattle.raw_tree.specs.declared.tree.RawStmtKind.TheVariants as raw
use Rattle.source_meaning.specs.declared.tree.Expr.{Expr}
use Rattle.source_meaning.specs.declared.tree.Stmt.{Stmt}
use Rattle.source_meaning.specs.declared.tree.StmtKind.TheVariants as s
use Rattle.source_meaning.specs.declared.tree.StmtKind.TheBlock.{hidden-the_row-Stmt-0}
use Rattle.source_meaning.specs.declared.tree.Program.{Program}
use Rattle.source_meaning.specs.Opened.{opened}
use Rattle.name_scopes.specs.declared.fault.Which.TheVariants as which
use Rattle.name_scopes.specs.declared.fault.NameKind.TheVariants as kinds
use Rattle.name_scopes.specs.declared.scope.Meaning.{Meaning}
use Rattle.name_scopes.specs.declared.scope.Meaning.TheVariants as means
use Rattle.name_scopes.specs.declared.scope.Declared.{Declared}
use Rattle.name_scopes.specs.Fault.{one, when}
use Rattle.name_scopes.specs.Locals.{Env, declare_local, is_constant}
use Rattle.name_faults.specs.Expressions.{meaning, whole, whole_option}
use Rattle.name_faults.specs.Statements.{after, after_inner, after_held, after_row, after_all, declare_all, after_first, locals_faults, first_faults, return_faults, sum_place_faults, format_fault, print_faults, place_of, statement_faults, inner_faults, held_faults, row_faults, statements_faults}
use Rattle.typed_programs.specs.Expressions.{number, typed_spot, expression, expressions, option}
use Rattle.typed_programs.specs.Statements.{declares, first_of, among, typed, typed_inner, typed_held, typed_row, pieces, typed_all}
use Rattle.checked_programs.specs.Fits.{Known, behind, behind_row, behind_list, ExpressionFits, OptionFits, ValuesFit, PlaceFits, StatementFits, RowsFit, ListFits}
use Rattle.resolved_programs.specs.FromSource.{IsText, HasTexts, RowHasTexts, ElseHasTexts, ListHasTexts}
use Rattle.resolved_programs.proofs.NoFaults.{IsEmpty, holds_not, few}
use Rattle.resolved_programs.proofs.Meanings.{MeaningFits, NamesFit, meaning_fits, summed_fits, place_fits, register_fits}
use Rattle.resolved_programs.proofs.Expressions.{typed_fits, spot_fits, expressions_fit}
use Rattle.resolved_programs.proofs.Growth.{grown_first, grown_inner, grown_held, grown_row, grown_all, grown_locals, goes_on, restored, same_inner, same_held}

-- the text of a print has its directives right, and as many as values stand behind it
record FormatFits (text : List ℕ) (count : ℕ) : Type 0 where
  directed : has_directives false text ≡ true
  counted : directives false text ≡ count

format_fits : (at : Place) (text : RawText) (count : ℕ) → IsEmpty (format_fault at text count) → FormatFits text.bytes count
format_fits at text count sound = chosen (has_directives false text.bytes) refl sound
  where
    chosen : (holds : Bool) → has_directives false text.bytes ≡ holds →
        IsEmpty (if holds then when (not (directives false text.bytes == count)) kinds.WrongCount at else one kinds.BadFormat text.at) → FormatFits text.bytes count
    chosen true is sound = record { directed = is; counted = eqb-true (directives false text.bytes) count (holds_not (directives false text.bytes == count) kinds.WrongCount at sound) }
    chosen false is sound = absurd sound

module _ (p : Program) where
  -- ---- more variables are known

  more_known : (k l : Known) → ((x : ℕ) → k x ≡ true → l x ≡ true) → (what : Meaning) → MeaningFits p k what → MeaningFits p l what
  more_known k l more (means.Scalar n constant) fit = fit
  more_known k l more (means.Array n constant) fit = fit
  more_known k l more (means.Register n) fit = fit
  more_known k l more (means.Function n value params) fit = fit
  more_known k l more (means.Local slot constant) fit = more (number slot) fit

  all_more_known : (k l : Known) → ((x : ℕ) → k x ≡ true → l x ≡ true) → (ds : List Declared) → NamesFit p k ds → NamesFit p l ds
  all_more_known k l more [] fit = tt
  all_more_known k l more (d ∷ ds) fit = (more_known k l more d.binding.meaning fit.0, all_more_known k l more ds fit.1)

  pub names_append : (k : Known) (ds more : List Declared) → NamesFit p k ds → NamesFit p k more → NamesFit p k (ds ++ more)
  names_append k [] more fit others = others
  names_append k (d ∷ ds) more fit others = (fit.0, names_append k ds more fit.1 others)

  -- a declaration puts its variable among the known ones
  pub one_declared : (k : Known) (constant : Bool) (name : RawName) (value : Option Expr) (e : Env) → NamesFit p k e.declared →
      NamesFit p (behind k (s.Declare (number (length e.variables)) value)) (declare_local constant name e).declared
  one_declared k constant name value e names =
      names_append (behind k (s.Declare (number (length e.variables)) value)) e.declared _
      (all_more_known k (behind k (s.Declare (number (length e.variables)) value)) (λ x known. or_left (k x) (x == number (length e.variables)) known) e.declared names)
      (or_right (k (number (length e.variables))) (number (length e.variables) == number (length e.variables)) (eq-eqb (number (length e.variables)) (number (length e.variables)) refl), tt)

  declared_names : (k : Known) (constant : Bool) (locals : List RawLocal) (e : Env) → NamesFit p k e.declared →
      NamesFit p (behind_list k (declares constant locals e)) (declare_all constant locals e).declared
  declared_names k constant [] e names = names
  declared_names k constant (l ∷ rest) e names =
      declared_names (behind k (s.Declare (number (length e.variables)) (option e.declared l.value))) constant rest (declare_local constant l.name e)
      (one_declared k constant l.name (option e.declared l.value) e names)

  first_names : (k : Known) (begin : RawFirst) (e : Env) → NamesFit p k e.declared → NamesFit p (behind_list k (first_of begin e)) (after_first begin e).declared
  first_names k (begins.Decl d) e names = declared_names k (is_constant d.ty.qualifiers) d.locals e names
  first_names k (begins.Value None) e names = names
  first_names k (begins.Value (Some a)) e names = names

  -- behind a statement the names in reach fit what is known there
  names_after : (k : Known) (at : Place) (kind : RawStmtKind) (e : Env) → NamesFit p k e.declared → NamesFit p (behind_list k (pieces at kind e)) (after kind e).declared
  unfolding opened
  names_after k at (raw.Block' shape body) e names = subst (NamesFit p k) (sym (restored e (after_row body e) (grown_row body e))) names
  names_after k at (raw.Decl d) e names = declared_names k (is_constant d.ty.qualifiers) d.locals e names
  names_after k at raw.Empty e names = names
  names_after k at (raw.Value a) e names = names
  names_after k at (raw.If' test shape body other) e names = subst (NamesFit p k) (sym (same_held other (after_inner body e) ∙ same_inner body e)) names
  names_after k at (raw.While' test shape body) e names = subst (NamesFit p k) (sym (same_inner body e)) names
  names_after k at (raw.Do' shape body test) e names = subst (NamesFit p k) (sym (same_inner body e)) names
  names_after k at (raw.For' begin test third shape body) e names =
      let inside = goes_on e (after_first begin e) (after_inner body (after_first begin e)) (grown_first begin e) (grown_inner body (after_first begin e)) in
      subst (NamesFit p k) (sym (restored e (after_inner body (after_first begin e)) inside)) names
  names_after k at raw.Break e names = names
  names_after k at raw.Continue e names = names
  names_after k at (raw.Return v) e names = names
  names_after k at (raw.Spawn' low high shape body) e names = subst (NamesFit p k) (sym (restored e (after_row body e) (grown_row body e))) names
  names_after k at (raw.Ps v r) e names = names
  names_after k at (raw.Psm v s) e names = names
  names_after k at (raw.Print text values) e names = names

  -- ---- expressions of statements

  whole_fits : (k : Known) (ds : List Declared) → NamesFit p k ds → (wanted : Bool) (a : RawExpr) → IsEmpty (whole ds wanted a) → ExpressionFits p k (expression ds a).kind
  whole_fits k ds names wanted a sound = typed_fits p k ds names wanted a.at a.kind sound.0

  option_fits : (k : Known) (e : Env) → NamesFit p k e.declared → (wanted : Bool) (a : Option RawExpr) → IsEmpty (whole_option e.declared wanted a) → OptionFits p k (option e.declared a)
  option_fits k e names wanted None sound = tt
  option_fits k e names wanted (Some a) sound = whole_fits k e.declared names wanted a sound

  return_fits : (k : Known) (e : Env) → NamesFit p k e.declared → (value : Bool) (at : Place) (a : Option RawExpr) → IsEmpty (return_faults value at a e.declared) → OptionFits p k (option e.declared a)
  return_fits k e names value at None sound = tt
  return_fits k e names value at (Some a) sound = whole_fits k e.declared names true a sound.0

  sum_place_fits : (k : Known) (ds : List Declared) → NamesFit p k ds → (to : RawSpot) → IsEmpty (sum_place_faults to ds) → PlaceFits p k (typed_spot ds to)
  unfolding opened
  sum_place_fits k ds names (place.Name name) sound = place_fits p k name (meaning ds name) (meaning_fits p k ds name names) sound.0
  sum_place_fits k ds names (place.Element' name shape index) sound = spot_fits p k ds names (place.Element' name shape index) sound.0

  print_fits : (k : Known) (ds : List Declared) → NamesFit p k ds → (at : Place) (text : RawText) (values : List RawExpr) → IsText text.bytes → IsEmpty (print_faults at text values ds) →
      IsFormat text.bytes × (directives false text.bytes ≡ length (expressions ds values)) × ValuesFit p k (expressions ds values)
  print_fits k ds names at text values is_text sound =
      let format = format_fits at text (length values) sound.0 in
      let short = few 16 (map place_of values) which.PrintValues sound.1.1.0 in (
        record { printable = is_text.printable; directed = format.directed; values = omega (arith, format.counted, short, length-map values place_of); short = is_text.short },
        format.counted ∙ sym (length-map values (expression ds)),
        expressions_fit p k ds names values sound.1.0,
      )

  -- ---- statements of a function with so many variables

  module _ (variables : ℕ) where
    rows_fit : (k : Known) (body : List Stmt) → ListFits p variables k body → RowsFit p variables k (hidden-the_row-Stmt-0 body)
    unfolding opened
    rows_fit k [] fit = tt
    rows_fit k (x ∷ rest) fit = (fit.0, rows_fit (behind k x.kind) rest fit.1)

    behind_rows : (k : Known) (body : List Stmt) → behind_row k (hidden-the_row-Stmt-0 body) ≡ behind_list k body
    unfolding opened
    behind_rows k [] = refl
    behind_rows k (x ∷ rest) = behind_rows (behind k x.kind) rest

    pub lists_fit : (k : Known) (front rest : List Stmt) → ListFits p variables k front → ListFits p variables (behind_list k front) rest → ListFits p variables k (front ++ rest)
    lists_fit k [] rest fit others = others
    lists_fit k (x ∷ front) rest fit others = (fit.0, lists_fit (behind k x.kind) front rest fit.1 others)

    OtherFits : Known → Option Stmt → Type 0
    OtherFits k None = Unit {0}
    OtherFits k (Some x) = StatementFits p variables k x.kind

    if_fits : (k : Known) (test : Expr) (body : Stmt) (other : Option Stmt) → ExpressionFits p k test.kind → StatementFits p variables k body.kind → OtherFits k other →
        StatementFits p variables k (s.If test body other)
    unfolding opened OtherFits
    if_fits k test body None first then_fits else_fits = (first, (then_fits, tt), tt)
    if_fits k test body (Some x) first then_fits else_fits = (first, (then_fits, tt), (else_fits, tt))

    for_fits : (k : Known) (first : List Stmt) (test third : Option Expr) (body : Stmt) → ListFits p variables k first →
        OptionFits p (behind_list k first) test → OptionFits p (behind_list k first) third → StatementFits p variables (behind_list k first) body.kind →
        StatementFits p variables k (s.For first test third body)
    unfolding opened
    for_fits k first test third body begins_fit test_fits third_fits body_fits =
        let same : behind_list k first ≡ behind_row k (hidden-the_row-Stmt-0 first) = sym (behind_rows k first) in (
          rows_fit k first begins_fit,
          subst (λ known. OptionFits p known test) same test_fits,
          subst (λ known. OptionFits p known third) same third_fits,
          (subst (λ known. StatementFits p variables known body.kind) same body_fits, tt),
        )

    declares_fit : (k : Known) (start : ℕ) (constant : Bool) (locals : List RawLocal) (e : Env) → NamesFit p k e.declared → IsEmpty (locals_faults start constant locals e) →
        length (declare_all constant locals e).variables ≤ variables → ListFits p variables k (declares constant locals e)
    declares_fit k start constant [] e names sound room = tt
    declares_fit k start constant (l ∷ rest) e names sound room =
        let more = grown_locals constant rest (declare_local constant l.name e) in (
          (omega (arith, more.variables, length-append e.variables (l.name.at ∷ [])), option_fits k e names true l.value sound.0.0),
          declares_fit (behind k (s.Declare (number (length e.variables)) (option e.declared l.value))) start constant rest (declare_local constant l.name e)
              (one_declared k constant l.name (option e.declared l.value) e names) sound.1 room,
        )

    first_fits : (k : Known) (start : ℕ) (begin : RawFirst) (e : Env) → NamesFit p k e.declared → IsEmpty (first_faults start begin e) →
        length (after_first begin e).variables ≤ variables → ListFits p variables k (first_of begin e)
    first_fits k start (begins.Decl d) e names sound room = declares_fit k start (is_constant d.ty.qualifiers) d.locals e names sound room
    first_fits k start (begins.Value None) e names sound room = tt
    first_fits k start (begins.Value (Some a)) e names sound room = (whole_fits k e.declared names false a sound, tt)

    module _ (value : Bool) where
      among_fits : (k : Known) (start : ℕ) (at : Place) (kind : RawStmtKind) (e : Env) (made : Stmt) → NamesFit p k e.declared → IsEmpty (statement_faults value start at kind e) →
          length (after kind e).variables ≤ variables → StatementFits p variables k made.kind → ListFits p variables k (among kind e made)
      among_fits k start at (raw.Decl d) e made names sound room fit = declares_fit k start (is_constant d.ty.qualifiers) d.locals e names sound room
      among_fits k start at kind e made names sound room fit = (fit, tt)

      mutual
        unfolding opened OtherFits

        statement_fits : (k : Known) (start : ℕ) (at : Place) (kind : RawStmtKind) (e : Env) → HasTexts kind → NamesFit p k e.declared → IsEmpty (statement_faults value start at kind e) →
            length (after kind e).variables ≤ variables → StatementFits p variables k (typed at kind e).kind
        statement_fits k start at (raw.Block' shape body) e texts names sound room = rows_fit k (typed_row body e) (row_fits k (length e.declared) body e texts names sound room)
        statement_fits k start at (raw.Decl d) e texts names sound room =
            rows_fit k (declares (is_constant d.ty.qualifiers) d.locals e) (declares_fit k start (is_constant d.ty.qualifiers) d.locals e names sound room)
        statement_fits k start at raw.Empty e texts names sound room = tt
        statement_fits k start at (raw.Value a) e texts names sound room = whole_fits k e.declared names false a sound
        statement_fits k start at (raw.If' test shape body other) e texts names sound room =
            if_fits k (expression e.declared test) (typed_inner body e) (typed_held other (after_inner body e))
            (whole_fits k e.declared names true test sound.0)
            (inner_fits k body e texts.0 names sound.1.0 (omega (arith, room, (grown_held other (after_inner body e)).variables)))
            (held_fits k other (after_inner body e) texts.1 (subst (NamesFit p k) (sym (same_inner body e)) names) sound.1.1 room)
        statement_fits k start at (raw.While' test shape body) e texts names sound room = (whole_fits k e.declared names true test sound.0, (inner_fits k body e texts names sound.1 room, tt))
        statement_fits k start at (raw.Do' shape body test) e texts names sound room = ((inner_fits k body e texts names sound.0 room, tt), whole_fits k e.declared names true test sound.1)
        statement_fits k start at (raw.For' begin test third shape body) e texts names sound room =
            let inside = first_names k begin e names in
            for_fits k (first_of begin e) (option (after_first begin e).declared test) (option (after_first begin e).declared third) (typed_inner body (after_first begin e))
            (first_fits k (length e.declared) begin e names sound.0 (omega (arith, room, (grown_inner body (after_first begin e)).variables)))
            (option_fits (behind_list k (first_of begin e)) (after_first begin e) inside true test sound.1.0.0)
            (option_fits (behind_list k (first_of begin e)) (after_first begin e) inside false third sound.1.0.1)
            (inner_fits (behind_list k (first_of begin e)) body (after_first begin e) texts inside sound.1.1 room)
        statement_fits k start at raw.Break e texts names sound room = tt
        statement_fits k start at raw.Continue e texts names sound room = tt
        statement_fits k start at (raw.Return v) e texts names sound room = return_fits k e names value at v sound
        statement_fits k start at (raw.Spawn' low high shape body) e texts names sound room = (
          typed_fits p k e.declared names true low.at low.kind sound.0.0.0,
          typed_fits p k e.declared names true high.at high.kind sound.0.0.1,
          rows_fit k (typed_row body e) (row_fits k (length e.declared) body e texts names sound.1 room),
        )
        statement_fits k start at (raw.Ps v r) e texts names sound room =
            (summed_fits p k v (meaning e.declared v) (meaning_fits p k e.declared v names) sound.0.0, register_fits p k r (meaning e.declared r) (meaning_fits p k e.declared r names) sound.1)
        statement_fits k start at (raw.Psm v to) e texts names sound room =
            (summed_fits p k v (meaning e.declared v) (meaning_fits p k e.declared v names) sound.0.0.0, sum_place_fits k e.declared names to sound.0.1)
        statement_fits k start at (raw.Print text values) e texts names sound room = print_fits k e.declared names at text values texts sound

        inner_fits : (k : Known) {n : _} (row : Row_of-RawStmt n) (e : Env) → RowHasTexts row → NamesFit p k e.declared → IsEmpty (inner_faults value row e) →
            length (after_inner row e).variables ≤ variables → StatementFits p variables k (typed_inner row e).kind
        inner_fits k end_of-RawStmt e texts names sound room = tt
        inner_fits k (more_of-RawStmt at kind rest) e texts names sound room = statement_fits k (length e.declared) at kind e texts.0 names sound room

        held_fits : (k : Known) (held : Held-RawStmtKind-If-2) (e : Env) → ElseHasTexts held → NamesFit p k e.declared → IsEmpty (held_faults value held e) →
            length (after_held held e).variables ≤ variables → OtherFits k (typed_held held e)
        held_fits k None' e texts names sound room = tt
        held_fits k (Some' shape body) e texts names sound room = inner_fits k body e texts names sound room

        row_fits : (k : Known) (start : ℕ) {n : _} (row : Row_of-RawStmt n) (e : Env) → RowHasTexts row → NamesFit p k e.declared → IsEmpty (row_faults value start row e) →
            length (after_row row e).variables ≤ variables → ListFits p variables k (typed_row row e)
        row_fits k start end_of-RawStmt e texts names sound room = tt
        row_fits k start (more_of-RawStmt at kind rest) e texts names sound room =
            lists_fit k (pieces at kind e) (typed_row rest (after kind e))
            (let less : length (after kind e).variables ≤ variables = omega (arith, room, (grown_row rest (after kind e)).variables) in
            among_fits k start at kind e (typed at kind e) names sound.0 less (statement_fits k start at kind e texts.0 names sound.0 less))
            (row_fits (behind_list k (pieces at kind e)) start rest (after kind e) texts.1 (names_after k at kind e names) sound.1 room)

      pub body_fits : (k : Known) (start : ℕ) (body : List RawStmt) (e : Env) → ListHasTexts body → NamesFit p k e.declared → IsEmpty (statements_faults value start body e) →
          length (after_all body e).variables ≤ variables → ListFits p variables k (typed_all body e)
      body_fits k start [] e texts names sound room = tt
      body_fits k start (x ∷ rest) e texts names sound room =
          lists_fit k (pieces x.at x.kind e) (typed_all rest (after x.kind e))
          (let less : length (after x.kind e).variables ≤ variables = omega (arith, room, (grown_all rest (after x.kind e)).variables) in
          among_fits k start x.at x.kind e (typed x.at x.kind e) names sound.0 less (statement_fits k start x.at x.kind e texts.0 names sound.0 less))
          (body_fits (behind_list k (pieces x.at x.kind e)) start rest (after x.kind e) texts.1 (names_after k x.at x.kind e names) sound.1 room)
