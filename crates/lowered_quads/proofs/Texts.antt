-- The texts of a checked program can be printed, and are no more than its nodes.
use Rattle.std.proofs.Common.{arith, ℕ, ◌≤◌, List, [], ◌∷◌, length, length-append, All}
use Rattle.std.specs.Prelude.{nat_lt, sum_by}
use Rattle.std.proofs.lemmas.List.Elements.{All-nil, All-cons, All-append, All-head, All-tail}
use Rattle.std.proofs.lemmas.List.Sums.{sum_by-cons}
use Rattle.xmt_base.specs.Format.{IsFormat}
use Rattle.source_meaning.specs.declared.tree.Stmt.{Stmt}
use Rattle.source_meaning.specs.declared.tree.StmtKind.{StmtKind, Row_of-Stmt, end_of-Stmt, more_of-Stmt, Held-StmtKind-If-2, None', Some'}
use Rattle.source_meaning.specs.declared.tree.StmtKind.TheVariants as stmt
use Rattle.source_meaning.specs.declared.tree.Function.{Function}
use Rattle.source_meaning.specs.declared.tree.Program.{Program}
use Rattle.checked_programs.specs.Fits.{Known, behind, behind_row, StatementFits, RowsFit, ElseFits, ListFits, BodyFits}
use Rattle.tree_measures.specs.Nodes.{statement_nodes, statement_row_nodes, else_nodes, nodes_of_statements, function_nodes, program_nodes}
use Rattle.quad_code.specs.Rows.{rows_of}
use Rattle.quad_code.specs.Whole.{texts_in, all_texts, else_texts, texts_of}

module _ (program : Program) (variables : ℕ) where
  mutual
    printable : (known : Known) (kind : StmtKind) → StatementFits program variables known kind → All IsFormat (texts_in kind)
    printable known stmt.Empty fits = All-nil IsFormat
    printable known (stmt.Value e) fits = All-nil IsFormat
    printable known (stmt.Declare slot value) fits = All-nil IsFormat
    printable known (stmt.Block' shape body) fits = printable_rows known body fits
    printable known (stmt.If' test shape body other) fits = All-append IsFormat (all_texts body) (else_texts other) (printable_rows known body fits.1) (printable_else known other fits.2)
    printable known (stmt.While' test shape body) fits = printable_rows known body fits.1
    printable known (stmt.Do' shape body test) fits = printable_rows known body fits.0
    printable known (stmt.For' first_shape first test third shape body) fits = All-append IsFormat (all_texts first) (all_texts body) (printable_rows known first fits.0) (printable_rows (behind_row known first) body fits.3)
    printable known stmt.Break fits = All-nil IsFormat
    printable known stmt.Continue fits = All-nil IsFormat
    printable known (stmt.Return value) fits = All-nil IsFormat
    printable known (stmt.Spawn' low high shape body) fits = printable_rows known body fits.2
    printable known (stmt.Ps v r) fits = All-nil IsFormat
    printable known (stmt.Psm v p) fits = All-nil IsFormat
    printable known (stmt.Print text values) fits = All-cons IsFormat text [] fits.0 (All-nil IsFormat)

    printable_rows : (known : Known) {n : _} (row : Row_of-Stmt n) → RowsFit program variables known row → All IsFormat (all_texts row)
    printable_rows known end_of-Stmt fits = All-nil IsFormat
    printable_rows known (more_of-Stmt place kind rest) fits = All-append IsFormat (texts_in kind) (all_texts rest) (printable known kind fits.0) (printable_rows (behind known kind) rest fits.1)

    printable_else : (known : Known) (other : Held-StmtKind-If-2) → ElseFits program variables known other → All IsFormat (else_texts other)
    printable_else known None' fits = All-nil IsFormat
    printable_else known (Some' shape body) fits = printable_rows known body fits

  printable_body : (known : Known) (body : List Stmt) → ListFits program variables known body → All IsFormat (all_texts (rows_of body))
  printable_body known [] fits = All-nil IsFormat
  printable_body known (s ∷ rest) fits = All-append IsFormat (texts_in s.kind) (all_texts (rows_of rest)) (printable known s.kind fits.0) (printable_body (behind known s.kind) rest fits.1)

pub printable_texts : (program : Program) (functions : List Function) → All (BodyFits program) functions → All IsFormat (texts_of functions)
printable_texts program [] all = All-nil IsFormat
printable_texts program (f ∷ rest) all =
    All-append IsFormat (all_texts (rows_of f.body)) (texts_of rest) (printable_body program f.variables (λ x. nat_lt x f.params) f.body (All-head (BodyFits program) f rest all))
    (printable_texts program rest (All-tail (BodyFits program) f rest all))

-- ---- how many there are

mutual
  count_of_texts : (kind : StmtKind) → length (texts_in kind) ≤ statement_nodes kind
  count_of_texts stmt.Empty = omega arith
  count_of_texts (stmt.Value e) = omega arith
  count_of_texts (stmt.Declare slot value) = omega arith
  count_of_texts (stmt.Block' shape body) = omega (arith, count_rows body)
  count_of_texts (stmt.If' test shape body other) = omega (arith, length-append (all_texts body) (else_texts other), count_rows body, count_else other)
  count_of_texts (stmt.While' test shape body) = omega (arith, count_rows body)
  count_of_texts (stmt.Do' shape body test) = omega (arith, count_rows body)
  count_of_texts (stmt.For' first_shape first test third shape body) = omega (arith, length-append (all_texts first) (all_texts body), count_rows first, count_rows body)
  count_of_texts stmt.Break = omega arith
  count_of_texts stmt.Continue = omega arith
  count_of_texts (stmt.Return value) = omega arith
  count_of_texts (stmt.Spawn' low high shape body) = omega (arith, count_rows body)
  count_of_texts (stmt.Ps v r) = omega arith
  count_of_texts (stmt.Psm v p) = omega arith
  count_of_texts (stmt.Print text values) = omega arith

  count_rows : {n : _} (row : Row_of-Stmt n) → length (all_texts row) ≤ statement_row_nodes row
  count_rows end_of-Stmt = omega arith
  count_rows (more_of-Stmt place kind rest) = omega (arith, length-append (texts_in kind) (all_texts rest), count_of_texts kind, count_rows rest)

  count_else : (other : Held-StmtKind-If-2) → length (else_texts other) ≤ else_nodes other
  count_else None' = omega arith
  count_else (Some' shape body) = count_rows body

count_body : (body : List Stmt) → length (all_texts (rows_of body)) ≤ nodes_of_statements body
count_body [] = omega arith
count_body (s ∷ rest) = omega (arith, length-append (texts_in s.kind) (all_texts (rows_of rest)), count_of_texts s.kind, count_body rest)

count_functions : (functions : List Function) → length (texts_of functions) ≤ sum_by function_nodes functions
count_functions [] = omega arith
count_functions (f ∷ rest) =
    let here : length (all_texts (rows_of f.body)) ≤ nodes_of_statements f.body = count_body f.body in
    omega (arith, length-append (all_texts (rows_of f.body)) (texts_of rest), sum_by-cons function_nodes f rest, here, count_functions rest)

pub few_texts : (program : Program) → length (texts_of program.functions) ≤ program_nodes program
few_texts program = omega (arith, count_functions program.functions)
