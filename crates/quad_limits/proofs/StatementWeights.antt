-- The weights of a program's quads add up to at most 64 a node.
use Rattle.std.proofs.Common.{◌≡◌, refl, sym, ◌∙◌, ap, arith, ℕ, zero, suc, ◌+◌, ◌*◌, ◌≤◌, List, [], ◌∷◌, ◌++◌, length, map, Option, Some, None}
use Rattle.std.specs.Prelude.{sum_by}
use Rattle.std.proofs.lemmas.List.Sums.{sum_by-cons}
use Rattle.source_meaning.specs.declared.tree.Expr.{Expr}
use Rattle.source_meaning.specs.declared.tree.Function.{Function}
use Rattle.source_meaning.specs.declared.tree.Program.{Program}
use Rattle.source_meaning.specs.declared.tree.Stmt.{Stmt}
use Rattle.source_meaning.specs.declared.tree.StmtKind.{StmtKind, Row_of-Stmt, end_of-Stmt, more_of-Stmt, Held-StmtKind-If-2, None', Some'}
use Rattle.source_meaning.specs.declared.tree.StmtKind.TheVariants as stmt
use Rattle.source_meaning.specs.declared.tree.Spot.TheVariants.{Register}
use Rattle.source_meaning.specs.Layout.{first_word, words_of}
use Rattle.xmt_quads.specs.declared.code.Operand.{Operand}
use Rattle.xmt_quads.specs.declared.code.Operand.TheVariants.{Literal}
use Rattle.xmt_quads.specs.declared.code.Quad.TheVariants as quad
use Rattle.xmt_quads.specs.declared.code.QuadFunction.{QuadFunction}
use Rattle.xmt_quads.specs.declared.code.QuadProgram.{QuadProgram}
use Rattle.xmt_quads.specs.Program.{weight, weight_of}
use Rattle.quad_code.specs.Lined.{Prints, Lined, lined, one, choice, loop_code, do_code}
use Rattle.quad_code.specs.Rows.{row_of, rows_of}
use Rattle.quad_code.specs.Expressions.{operand_of, writing, access_of_slot, code_at, values_at, arguments_of}
use Rattle.quad_code.specs.Statements.{Counts, behind, behind_all, in_spawn, option_operand, expression_at, option_at, statement_at, sequence_at, else_at}
use Rattle.quad_code.specs.Functions.{outer_of, parameter_code, parameters_code, function_code}
use Rattle.quad_code.specs.Whole.{codes_from, codes_of, IsCodeOf}
use Rattle.tree_measures.specs.Nodes.{expression_nodes, row_nodes, nodes_of_expressions, option_nodes, statement_nodes, statement_row_nodes, else_nodes, nodes_of_statements, function_nodes, program_nodes}
use Rattle.quad_limits.proofs.Sums.{sum_weight}
use Rattle.quad_limits.proofs.Weights.{code_weight, weight_append, writing_weight, weigh, choice_weight, expression_weight, values_weight}

-- the nodes of a list, by its row
row_is : (values : List Expr) → row_nodes (row_of values) ≡ nodes_of_expressions values
row_is [] = refl
row_is (e ∷ values) = ap (λ n. expression_nodes e.kind + n) (row_is values)

rows_are : (body : List Stmt) → statement_row_nodes (rows_of body) ≡ nodes_of_statements body
rows_are [] = refl
rows_are (s ∷ body) = ap (λ n. statement_nodes s.kind + n) (rows_are body)

loop_weight : (line at m n l total : ℕ) (test : ℕ → List Lined) (o : Operand) (body : ℕ → ℕ → ℕ → List Lined) (third : ℕ → List Lined) → ((at : ℕ) → code_weight (test at) ≤ m) → ((at leave again : ℕ) → code_weight (body at leave again) ≤ n) → ((at : ℕ) → code_weight (third at) ≤ l) → m + n + l + 16 ≤ total →
    code_weight (loop_code line at test o body third) ≤ total
loop_weight line at m n l total test o body third ht hb hl le =
    let t = test at in
    let leave = at + length t + 1 in
    let start = leave + 1 + 1 in
    let b = body start leave (leave + 1) in
    let behind = start + length b in
    let last = third behind in
    let jump = one line (quad.Jump at) in
    let tail : List Lined = lined line (quad.IfNot o start) ∷ lined line (quad.Jump (behind + length last + 1)) ∷ lined line (quad.Jump behind) ∷ (b ++ (last ++ jump)) in
    omega (arith, weight_append t tail, weight_append b (last ++ jump), weight_append last jump, ht at, hb start leave (leave + 1), hl behind, le)

do_weight : (line at m n total : ℕ) (test : ℕ → List Lined) (o : Operand) (body : ℕ → ℕ → ℕ → List Lined) → ((at : ℕ) → code_weight (test at) ≤ m) → ((at leave again : ℕ) → code_weight (body at leave again) ≤ n) → m + n + 16 ≤ total →
    code_weight (do_code line at test o body) ≤ total
do_weight line at m n total test o body ht hb le =
    let start = at + 1 + 1 + 1 in
    let b = body start (at + 1) (at + 1 + 1) in
    let behind = start + length b in
    let t = test behind in
    let last = one line (quad.IfNot o start) in
    omega (arith, weight_append b (t ++ last), weight_append t last, ht behind, hb start (at + 1) (at + 1 + 1), le)

module _ (base_of size_of : ℕ → ℕ) (outer : ℕ → Option ℕ) (variables : ℕ) where
  option_weight : (e : Option Expr) (at : ℕ) → code_weight (option_at base_of size_of outer variables at e) ≤ 64 * option_nodes e
  option_weight None at = omega arith
  option_weight (Some e) at = omega (arith, expression_weight base_of size_of outer e.kind at variables e.at.line)

  whole_weight : (e : Expr) (at : ℕ) → code_weight (expression_at base_of size_of outer variables at e) ≤ 64 * expression_nodes e.kind
  whole_weight e at = omega (arith, expression_weight base_of size_of outer e.kind at variables e.at.line)

  mutual
    pub statement_weight : (k : StmtKind) (at leave again : ℕ) (n : Counts) (line : ℕ) → code_weight (statement_at base_of size_of outer variables at leave again n line k) ≤ 64 * statement_nodes k
    statement_weight stmt.Empty at leave again n line = omega arith
    statement_weight (stmt.Value e) at leave again n line = omega (arith, whole_weight e at)
    statement_weight (stmt.Declare slot value) at leave again n line =
        let w = writing_weight (access_of_slot slot (outer slot)) (option_operand variables 0 value) in
        weigh (option_at base_of size_of outer variables at value) (one line (writing (access_of_slot slot (outer slot)) (option_operand variables 0 value))) (64 * option_nodes value) 4 _ (option_weight value at) (omega (arith, w)) (omega arith)
    statement_weight (stmt.Block' shape body) at leave again n line = omega (arith, sequence_weight body at leave again n)
    statement_weight (stmt.If' test shape body other) at leave again n line =
        let t = 64 * expression_nodes test.kind in
        let a = 64 * statement_row_nodes body in
        let b = 64 * else_nodes other in
        let ct = expression_at base_of size_of outer variables at test in
        let first : ℕ → List Lined = λ at. sequence_at base_of size_of outer variables at leave again n body in
        let second : ℕ → List Lined = λ at. else_at base_of size_of outer variables at leave again (behind_all n body) other in
        weigh ct (choice line (at + length ct) (quad.IfZero (operand_of variables test.kind)) first second) t (a + b + 8) _ (whole_weight test at)
        (choice_weight line (at + length ct) a b (a + b + 8) (quad.IfZero (operand_of variables test.kind)) first second (λ to. refl) (λ at. sequence_weight body at leave again n) (λ at. else_weight other at leave again (behind_all n body)) (omega arith)) (omega arith)
    statement_weight (stmt.While' test shape body) at leave again n line =
        loop_weight line at (64 * expression_nodes test.kind) (64 * statement_row_nodes body) 0 _ (λ at. expression_at base_of size_of outer variables at test) (operand_of variables test.kind) (λ at leave again. sequence_at base_of size_of outer variables at leave again n body) (λ at. [])
        (whole_weight test) (λ at leave again. sequence_weight body at leave again n) (λ at. omega arith) (omega arith)
    statement_weight (stmt.Do' shape body test) at leave again n line =
        do_weight line at (64 * expression_nodes test.kind) (64 * statement_row_nodes body) _ (λ at. expression_at base_of size_of outer variables at test) (operand_of variables test.kind) (λ at leave again. sequence_at base_of size_of outer variables at leave again n body)
        (whole_weight test) (λ at leave again. sequence_weight body at leave again n) (omega arith)
    statement_weight (stmt.For' first_shape first test third shape body) at leave again n line =
        let cf = sequence_at base_of size_of outer variables at leave again n first in
        let n1 = behind_all n first in
        let f = 64 * statement_row_nodes first in
        let t = 64 * option_nodes test in
        let b = 64 * statement_row_nodes body in
        let l = 64 * option_nodes third in
        weigh cf (loop_code line (at + length cf) (λ at. option_at base_of size_of outer variables at test) (option_operand variables 1 test) (λ at leave again. sequence_at base_of size_of outer variables at leave again n1 body) (λ at. option_at base_of size_of outer variables at third)) f (t + b + l + 16) _
        (sequence_weight first at leave again n)
        (loop_weight line (at + length cf) t b l (t + b + l + 16) (λ at. option_at base_of size_of outer variables at test) (option_operand variables 1 test) (λ at leave again. sequence_at base_of size_of outer variables at leave again n1 body) (λ at. option_at base_of size_of outer variables at third)
        (option_weight test) (λ at leave again. sequence_weight body at leave again n1) (option_weight third) (omega arith))
        (omega arith)
    statement_weight stmt.Break at leave again n line = omega arith
    statement_weight stmt.Continue at leave again n line = omega arith
    statement_weight (stmt.Return value) at leave again n line =
        weigh (option_at base_of size_of outer variables at value) (one line (quad.Return (option_operand variables 0 value))) (64 * option_nodes value) 4 _ (option_weight value at) (omega arith) (omega arith)
    statement_weight (stmt.Spawn' low high shape body) at leave again n line =
        let cl = expression_at base_of size_of outer variables at low in
        let at1 = at + length cl in
        let ch = code_at base_of size_of outer at1 (variables + 1) high.at.line high.kind in
        let at2 = at1 + length ch in
        let b = sequence_at base_of size_of outer variables (at2 + 1) leave again (in_spawn n) body in
        let join = one line quad.Join in
        let l = 64 * expression_nodes low.kind in
        let h = 64 * expression_nodes high.kind in
        let m = 64 * statement_row_nodes body in
        weigh cl _ l (h + (m + 8)) _ (whole_weight low at)
        (weigh ch _ h (m + 8) _ (omega (arith, expression_weight base_of size_of outer high.kind at1 (variables + 1) high.at.line))
        (omega (arith, weight_append b join, sequence_weight body (at2 + 1) leave again (in_spawn n))) (omega arith)) (omega arith)
    statement_weight (stmt.Print text values) at leave again n line =
        let row = row_of values in
        let cv = values_at base_of size_of outer at variables row in
        let ca = arguments_of base_of size_of outer line 0 variables row in
        let last : List Lined = record { quad = quad.Print n.printed; line = line; note = Prints text } ∷ [] in
        omega (arith, weight_append cv (ca ++ last), weight_append ca last, values_weight base_of size_of outer row at line 0 variables, row_is values)
    statement_weight (stmt.Ps v r) at leave again n line = omega (arith, sum_weight base_of size_of outer variables v (Register r) at line)
    statement_weight (stmt.Psm v p) at leave again n line = omega (arith, sum_weight base_of size_of outer variables v p at line)

    pub sequence_weight : {m : _} (row : Row_of-Stmt m) (at leave again : ℕ) (n : Counts) → code_weight (sequence_at base_of size_of outer variables at leave again n row) ≤ 64 * statement_row_nodes row
    sequence_weight end_of-Stmt at leave again n = omega arith
    sequence_weight (more_of-Stmt place kind rest) at leave again n =
        let first = statement_at base_of size_of outer variables at leave again n place.line kind in
        weigh first _ (64 * statement_nodes kind) (64 * statement_row_nodes rest) _ (statement_weight kind at leave again n place.line) (sequence_weight rest (at + length first) leave again (behind n kind)) (omega arith)

    else_weight : (other : Held-StmtKind-If-2) (at leave again : ℕ) (n : Counts) → code_weight (else_at base_of size_of outer variables at leave again n other) ≤ 64 * else_nodes other
    else_weight None' at leave again n = omega arith
    else_weight (Some' shape body) at leave again n = sequence_weight body at leave again n

-- ---- functions and programs

parameter_weight : (variables slot : ℕ) (o : Option ℕ) → code_weight (parameter_code variables slot o) ≤ 8
parameter_weight variables slot None = omega arith
parameter_weight variables slot (Some number) = omega arith

parameters_weight : (outer : ℕ → Option ℕ) (variables slot count : ℕ) → code_weight (parameters_code outer variables slot count) ≤ 8 * count
parameters_weight outer variables slot zero = omega arith
parameters_weight outer variables slot (suc count) =
    weigh (parameter_code variables slot (outer slot)) _ 8 (8 * count) _ (parameter_weight variables slot (outer slot)) (parameters_weight outer variables (suc slot) count) (omega arith)

function_weight : (base_of size_of : ℕ → ℕ) (met : Counts) (function : Function) → code_weight (function_code base_of size_of met function) ≤ 64 * function_nodes function
function_weight base_of size_of met function =
    let outer = outer_of function.body in
    let v = function.variables in
    let ps = parameters_code outer v 0 function.params in
    let at = 0 + length ps in
    let body = sequence_at base_of size_of outer v at 0 0 met (rows_of function.body) in
    let last = one 0 (quad.Return (Literal 0)) in
    omega (arith, weight_append ps (body ++ last), weight_append body last, parameters_weight outer v 0 function.params, sequence_weight base_of size_of outer v (rows_of function.body) at 0 0 met, rows_are function.body)

codes_weight : (program : Program) (met : Counts) (functions : List Function) → sum_by code_weight (codes_from program met functions) ≤ 64 * sum_by function_nodes functions
codes_weight program met [] = omega arith
codes_weight program met (function ∷ functions) =
    let code = function_code (first_word program.globals) (words_of program.globals) met function in
    let next = behind_all met (rows_of function.body) in
    omega (arith, sum_by-cons code_weight code (codes_from program next functions), sum_by-cons function_nodes function functions, function_weight (first_word program.globals) (words_of program.globals) met function, codes_weight program next functions)

weights_are : (code : List Lined) → sum_by weight (map (λ l. l.quad) code) ≡ code_weight code
weights_are [] = refl
weights_are (l ∷ code) = sum_by-cons weight l.quad (map (λ l. l.quad) code) ∙ ap (λ n. weight l.quad + n) (weights_are code)

by_quads : (fs : List QuadFunction) → sum_by (λ f. sum_by weight f.quads) fs ≡ sum_by (λ qs. sum_by weight qs) (map (λ f. f.quads) fs)
by_quads [] = refl
by_quads (f ∷ fs) = sum_by-cons (λ f. sum_by weight f.quads) f fs ∙ ap (λ n. sum_by weight f.quads + n) (by_quads fs) ∙ sym (sum_by-cons (λ qs. sum_by weight qs) f.quads (map (λ f. f.quads) fs))

by_codes : (codes : List (List Lined)) → sum_by (λ qs. sum_by weight qs) (map (λ code. map (λ l. l.quad) code) codes) ≡ sum_by code_weight codes
by_codes [] = refl
by_codes (code ∷ codes) =
    sum_by-cons (λ qs. sum_by weight qs) (map (λ l. l.quad) code) (map (λ code. map (λ l. l.quad) code) codes) ∙ ap (λ n. n + sum_by (λ qs. sum_by weight qs) (map (λ code. map (λ l. l.quad) code) codes)) (weights_are code) ∙
    ap (λ n. code_weight code + n) (by_codes codes) ∙ sym (sum_by-cons code_weight code codes)

pub quads_are_light : (program : Program) (quads : QuadProgram) → IsCodeOf program quads → weight_of quads ≤ 64 * program_nodes program
quads_are_light program quads is =
    let same : weight_of quads ≡ sum_by code_weight (codes_of program) = by_quads quads.functions ∙ ap (sum_by (λ qs. sum_by weight qs)) is.are_quads ∙ by_codes (codes_of program) in
    omega (arith, same, codes_weight program (record { spawned = 0; printed = 0 }) program.functions)
