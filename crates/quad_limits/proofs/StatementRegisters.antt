-- The quads of a function name the registers of its variables, and as many more as values wait.
use Rattle.std.proofs.Common.{◌≡◌, sym, ◌∙◌, ap, subst, arith, ℕ, zero, suc, ◌+◌, ◌≤◌, ◌<◌, true, false, inl, inr, List, [], ◌∷◌, ◌++◌, length, map, Option, Some, None, All}
use Rattle.std.specs.Prelude.{Bool, nat_lt, slice_get}
use Rattle.std.specs.Option.{option_map}
use Rattle.std.proofs.lemmas.Option.{slice_get-map}
use Rattle.std.proofs.lemmas.List.Elements.{All-nil, All-cons}
use Rattle.source_meaning.specs.declared.tree.Expr.{Expr}
use Rattle.source_meaning.specs.declared.tree.Function.{Function}
use Rattle.source_meaning.specs.declared.tree.Program.{Program}
use Rattle.source_meaning.specs.declared.tree.StmtKind.{StmtKind, Row_of-Stmt, end_of-Stmt, more_of-Stmt, Held-StmtKind-If-2, None', Some'}
use Rattle.source_meaning.specs.declared.tree.StmtKind.TheVariants as stmt
use Rattle.source_meaning.specs.declared.tree.Spot.TheVariants.{Register}
use Rattle.source_meaning.specs.Layout.{first_word, words_of}
use Rattle.xmt_quads.specs.declared.code.Operand.{Operand}
use Rattle.xmt_quads.specs.declared.code.Quad.{Quad}
use Rattle.xmt_quads.specs.declared.code.Quad.TheVariants as quad
use Rattle.xmt_quads.specs.declared.code.QuadFunction.{QuadFunction}
use Rattle.xmt_quads.specs.declared.code.QuadProgram.{QuadProgram}
use Rattle.xmt_quads.specs.WellFormed.{AreBelow}
use Rattle.quad_code.specs.Lined.{Lined, one, choice, loop_code, do_code}
use Rattle.quad_code.specs.Rows.{row_of, rows_of}
use Rattle.quad_code.specs.Expressions.{operand_of, writing, access_of_slot, code_at, values_at, arguments_of}
use Rattle.quad_code.specs.Statements.{Counts, behind, behind_all, in_spawn, option_operand, expression_at, option_at, statement_at, sequence_at, else_at}
use Rattle.quad_code.specs.Known.{OptionKnown, declared, all_declared, Region, InBlock, Serial, StatementKnown, SequenceKnown, ElseKnown}
use Rattle.quad_code.specs.Functions.{outer_of, parameter_code, parameters_code, function_code}
use Rattle.quad_code.specs.Whole.{MayCall, codes_from, codes_of, IsCodeOf, IsKnown}
use Rattle.quad_code.proofs.KeptCode.{declared_cases}
use Rattle.tree_measures.specs.Waiting.{waiting_in}
use Rattle.quad_limits.specs.Waiting.{waiting_option, waiting_statement, waiting_statements, waiting_else, function_registers}
use Rattle.quad_limits.proofs.Sums.{sum_room, index_room, sum_below}
use Rattle.quad_limits.proofs.Registers.{OperandBelow, RegistersBelow, CodeBelow, AccessBelow, below_append, operand_below, writing_below, waiting_one, expression_below, values_below, arguments_below, are_below}

-- ---- choices and loops

choice_below : (n line at : ℕ) (skip : ℕ → Quad) (first second : ℕ → List Lined) → ((to : ℕ) → RegistersBelow n (skip to)) → ((at : ℕ) → CodeBelow n (first at)) → ((at : ℕ) → CodeBelow n (second at)) → CodeBelow n (choice line at skip first second)
choice_below n line at skip first second hs ha hb = (hs _, below_append n (first (at + 1)) _ (ha (at + 1)) (tt, hb _))

loop_below : (n line at : ℕ) (test : ℕ → List Lined) (o : Operand) (body : ℕ → ℕ → ℕ → List Lined) (third : ℕ → List Lined) → ((at : ℕ) → CodeBelow n (test at)) → OperandBelow n o → ((at leave again : ℕ) → CodeBelow n (body at leave again)) → ((at : ℕ) → CodeBelow n (third at)) → CodeBelow n (loop_code line at test o body third)
loop_below n line at test o body third ht ho hb hl =
    let leave = at + length (test at) + 1 in
    let start = leave + 1 + 1 in
    let b = body start leave (leave + 1) in
    let last = third (start + length b) in
    below_append n (test at) _ (ht at) (ho, (tt, (tt, below_append n b (last ++ one line (quad.Jump at)) (hb start leave (leave + 1)) (below_append n last (one line (quad.Jump at)) (hl (start + length b)) (tt, tt)))))

do_below : (n line at : ℕ) (test : ℕ → List Lined) (o : Operand) (body : ℕ → ℕ → ℕ → List Lined) → ((at : ℕ) → CodeBelow n (test at)) → OperandBelow n o → ((at leave again : ℕ) → CodeBelow n (body at leave again)) → CodeBelow n (do_code line at test o body)
do_below n line at test o body ht ho hb =
    let start = at + 1 + 1 + 1 in
    let b = body start (at + 1) (at + 1 + 1) in
    let t = test (start + length b) in
    (tt, (tt, (tt, below_append n b (t ++ one line (quad.IfNot o start)) (hb start (at + 1) (at + 1 + 1)) (below_append n t (one line (quad.IfNot o start)) (ht (start + length b)) (ho, tt)))))

-- ---- statements

module _ (base_of size_of : ℕ → ℕ) (outer : ℕ → Option ℕ) (globals : ℕ) (calls : Region → (function values : ℕ) → Type 0) (variables n : ℕ) where
  abbrev Low : (ℕ → Bool) → Type 0
  Low known = (x : ℕ) → known x ≡ true → x < variables

  low_declared : (known : ℕ → Bool) (k : StmtKind) → Low known → Low (declared variables known k)
  low_declared known (stmt.Declare slot value) low x h = elim (declared_cases variables known slot x h) [ inl is ↦ low x is | inr is ↦ is.1 ]
  low_declared known stmt.Empty low x h = low x h
  low_declared known (stmt.Value e) low x h = low x h
  low_declared known (stmt.Block' shape body) low x h = low x h
  low_declared known (stmt.If' test shape body other) low x h = low x h
  low_declared known (stmt.While' test shape body) low x h = low x h
  low_declared known (stmt.Do' shape body test) low x h = low x h
  low_declared known (stmt.For' first_shape first test third shape body) low x h = low x h
  low_declared known stmt.Break low x h = low x h
  low_declared known stmt.Continue low x h = low x h
  low_declared known (stmt.Return value) low x h = low x h
  low_declared known (stmt.Spawn' low2 high shape body) low x h = low x h
  low_declared known (stmt.Ps v r) low x h = low x h
  low_declared known (stmt.Psm v p) low x h = low x h
  low_declared known (stmt.Print text values) low x h = low x h

  low_all : (known : ℕ → Bool) {m : _} (row : Row_of-Stmt m) → Low known → Low (all_declared variables known row)
  low_all known end_of-Stmt low x h = low x h
  low_all known (more_of-Stmt place kind rest) low x h = low_all (declared variables known kind) rest (low_declared known kind low) x h

  module _ (fits : variables ≤ n) where
    lower : (known : ℕ → Bool) → Low known → (x : ℕ) → known x ≡ true → x < n
    lower known low x h = let less : x < variables = low x h in omega (arith, less, fits)

    whole_below : (e : Expr) (known : ℕ → Bool) (low : Low known) (region : Region) → OptionKnown globals (calls region) known (Some e) → (at : ℕ) → variables + waiting_in e.kind ≤ n → CodeBelow n (expression_at base_of size_of outer variables at e)
    whole_below e known low region is at h = expression_below base_of size_of outer globals (calls region) known n (lower known low) e.kind at variables e.at.line is h

    option_below : (e : Option Expr) (known : ℕ → Bool) (low : Low known) (region : Region) → OptionKnown globals (calls region) known e → (at : ℕ) → variables + waiting_option e ≤ n → CodeBelow n (option_at base_of size_of outer variables at e)
    option_below None known low region is at h = tt
    option_below (Some e) known low region is at h = whole_below e known low region is at h

    value_below : (e : Expr) → variables + waiting_in e.kind ≤ n → OperandBelow n (operand_of variables e.kind)
    value_below e h = operand_below n variables e.kind (omega (arith, h, waiting_one e.kind))

    option_value_below : (e : Option Expr) (default : ℕ) → variables + waiting_option e ≤ n → OperandBelow n (option_operand variables default e)
    option_value_below None default h = tt
    option_value_below (Some e) default h = value_below e h

    slot_below : (slot : ℕ) (o : Option ℕ) → slot < variables → AccessBelow n (access_of_slot slot o)
    slot_below slot None h = omega (arith, h, fits)
    slot_below slot (Some number) h = tt

    mutual
      pub statement_below : (k : StmtKind) (known : ℕ → Bool) (low : Low known) (loop : Bool) (region : Region) → StatementKnown globals calls variables outer known loop region k → (at leave again : ℕ) (met : Counts) (line : ℕ) → variables + waiting_statement k ≤ n →
          CodeBelow n (statement_at base_of size_of outer variables at leave again met line k)
      statement_below stmt.Empty known low loop region is at leave again met line h = tt
      statement_below (stmt.Value e) known low loop region is at leave again met line h = whole_below e known low region is at h
      statement_below (stmt.Declare slot value) known low loop region is at leave again met line h =
          below_append n (option_at base_of size_of outer variables at value) (one line (writing (access_of_slot slot (outer slot)) (option_operand variables 0 value))) (option_below value known low region is.1 at h)
          (writing_below n (access_of_slot slot (outer slot)) (option_operand variables 0 value) (slot_below slot (outer slot) is.0) (option_value_below value 0 h), tt)
      statement_below (stmt.Block' shape body) known low loop region is at leave again met line h = sequence_below body known low loop region is at leave again met h
      statement_below (stmt.If' test shape body other) known low loop region is at leave again met line h =
          let ht : variables + waiting_in test.kind ≤ n = grind (arith, h) in
          let ha : variables + waiting_statements body ≤ n = grind (arith, h) in
          let hb : variables + waiting_else other ≤ n = grind (arith, h) in
          let ct = expression_at base_of size_of outer variables at test in
          let first : ℕ → List Lined = λ at. sequence_at base_of size_of outer variables at leave again met body in
          let second : ℕ → List Lined = λ at. else_at base_of size_of outer variables at leave again (behind_all met body) other in
          below_append n ct (choice line (at + length ct) (quad.IfZero (operand_of variables test.kind)) first second) (whole_below test known low region is.0 at ht)
          (choice_below n line (at + length ct) (quad.IfZero (operand_of variables test.kind)) first second (λ to. value_below test ht) (λ at. sequence_below body known low loop region is.1 at leave again met ha) (λ at. else_below other known low loop region is.2 at leave again (behind_all met body) hb))
      statement_below (stmt.While' test shape body) known low loop region is at leave again met line h =
          let ht : variables + waiting_in test.kind ≤ n = grind (arith, h) in
          let hb : variables + waiting_statements body ≤ n = grind (arith, h) in
          loop_below n line at (λ at. expression_at base_of size_of outer variables at test) (operand_of variables test.kind) (λ at leave again. sequence_at base_of size_of outer variables at leave again met body) (λ at. [])
          (λ at. whole_below test known low region is.0 at ht) (value_below test ht) (λ at leave again. sequence_below body known low true region is.1 at leave again met hb) (λ at. tt)
      statement_below (stmt.Do' shape body test) known low loop region is at leave again met line h =
          let ht : variables + waiting_in test.kind ≤ n = grind (arith, h) in
          let hb : variables + waiting_statements body ≤ n = grind (arith, h) in
          do_below n line at (λ at. expression_at base_of size_of outer variables at test) (operand_of variables test.kind) (λ at leave again. sequence_at base_of size_of outer variables at leave again met body)
          (λ at. whole_below test known low region is.0 at ht) (value_below test ht) (λ at leave again. sequence_below body known low true region is.1 at leave again met hb)
      statement_below (stmt.For' first_shape first test third shape body) known low loop region is at leave again met line h =
          let hf : variables + waiting_statements first ≤ n = grind (arith, h) in
          let ht : variables + waiting_option test ≤ n = grind (arith, h) in
          let hl : variables + waiting_option third ≤ n = grind (arith, h) in
          let hb : variables + waiting_statements body ≤ n = grind (arith, h) in
          let cf = sequence_at base_of size_of outer variables at leave again met first in
          let met1 = behind_all met first in
          let known1 = all_declared variables known first in
          let low1 : Low known1 = low_all known first low in
          below_append n cf (loop_code line (at + length cf) (λ at. option_at base_of size_of outer variables at test) (option_operand variables 1 test) (λ at leave again. sequence_at base_of size_of outer variables at leave again met1 body) (λ at. option_at base_of size_of outer variables at third))
          (sequence_below first known low loop region is.0 at leave again met hf)
          (loop_below n line (at + length cf) (λ at. option_at base_of size_of outer variables at test) (option_operand variables 1 test) (λ at leave again. sequence_at base_of size_of outer variables at leave again met1 body) (λ at. option_at base_of size_of outer variables at third)
          (λ at. option_below test known1 low1 region is.1 at ht) (option_value_below test 1 ht) (λ at leave again. sequence_below body known1 low1 true region is.3 at leave again met1 hb) (λ at. option_below third known1 low1 region is.2 at hl))
      statement_below stmt.Break known low loop region is at leave again met line h = (tt, tt)
      statement_below stmt.Continue known low loop region is at leave again met line h = (tt, tt)
      statement_below (stmt.Return value) known low loop region is at leave again met line h =
          below_append n (option_at base_of size_of outer variables at value) (one line (quad.Return (option_operand variables 0 value))) (option_below value known low region is.0 at h) (option_value_below value 0 h, tt)
      statement_below (stmt.Spawn' first last shape body) known low loop region is at leave again met line h =
          let hf : variables + waiting_in first.kind ≤ n = grind (arith, h) in
          let hl : variables + 1 + waiting_in last.kind ≤ n = grind (arith, h) in
          let hb : variables + waiting_statements body ≤ n = grind (arith, h) in
          let cl = expression_at base_of size_of outer variables at first in
          let at1 = at + length cl in
          let ch = code_at base_of size_of outer at1 (variables + 1) last.at.line last.kind in
          let at2 = at1 + length ch in
          let b = sequence_at base_of size_of outer variables (at2 + 1) leave again (in_spawn met) body in
          below_append n cl _ (whole_below first known low region is.0 at hf)
          (below_append n ch _ (expression_below base_of size_of outer globals (calls region) known n (lower known low) last.kind at1 (variables + 1) last.at.line is.1 hl)
          ((value_below first hf, operand_below n (variables + 1) last.kind (omega (arith, hl, waiting_one last.kind))), below_append n b (one line quad.Join) (sequence_below body known low false InBlock is.3 (at2 + 1) leave again (in_spawn met) hb) (tt, tt)))
      statement_below (stmt.Ps v r) known low loop region is at leave again met line h =
          sum_below base_of size_of outer globals (calls region) known n (lower known low) variables v (Register r) at line is.0 is.1 (omega (arith, h)) (omega (arith, h))
      statement_below (stmt.Psm v p) known low loop region is at leave again met line h =
          sum_below base_of size_of outer globals (calls region) known n (lower known low) variables v p at line is.0 is.1 (omega (arith, h, sum_room p)) (omega (arith, h, index_room p))
      statement_below (stmt.Print text values) known low loop region is at leave again met line h =
          let row = row_of values in
          let here : variables ≡ variables + 0 = omega arith in
          let cv = values_at base_of size_of outer at variables row in
          let ca = arguments_of base_of size_of outer line 0 variables row in
          below_append n cv _ (values_below base_of size_of outer globals (calls region) known n (lower known low) row at variables 0 variables here is.0 h)
          (below_append n ca _ (arguments_below base_of size_of outer globals (calls region) known n (lower known low) row line 0 variables 0 variables here h) (tt, tt))

      pub sequence_below : {m : _} (row : Row_of-Stmt m) (known : ℕ → Bool) (low : Low known) (loop : Bool) (region : Region) → SequenceKnown globals calls variables outer known loop region row → (at leave again : ℕ) (met : Counts) → variables + waiting_statements row ≤ n →
          CodeBelow n (sequence_at base_of size_of outer variables at leave again met row)
      sequence_below end_of-Stmt known low loop region is at leave again met h = tt
      sequence_below (more_of-Stmt place kind rest) known low loop region is at leave again met h =
          let hk : variables + waiting_statement kind ≤ n = grind (arith, h) in
          let hr : variables + waiting_statements rest ≤ n = grind (arith, h) in
          let first = statement_at base_of size_of outer variables at leave again met place.line kind in
          below_append n first _ (statement_below kind known low loop region is.0 at leave again met place.line hk)
          (sequence_below rest (declared variables known kind) (low_declared known kind low) loop region is.1 (at + length first) leave again (behind met kind) hr)

      else_below : (other : Held-StmtKind-If-2) (known : ℕ → Bool) (low : Low known) (loop : Bool) (region : Region) → ElseKnown globals calls variables outer known loop region other → (at leave again : ℕ) (met : Counts) → variables + waiting_else other ≤ n →
          CodeBelow n (else_at base_of size_of outer variables at leave again met other)
      else_below None' known low loop region is at leave again met h = tt
      else_below (Some' shape body) known low loop region is at leave again met h = sequence_below body known low loop region is at leave again met h

-- ---- functions and programs

parameter_below : (variables n slot : ℕ) (o : Option ℕ) → variables + 1 ≤ n → slot < variables → CodeBelow n (parameter_code variables slot o)
parameter_below variables n slot None h low = (omega (arith, h, low), tt)
parameter_below variables n slot (Some number) h low = (omega (arith, h), ((tt, omega (arith, h)), tt))

parameters_below : (outer : ℕ → Option ℕ) (variables n slot count : ℕ) → variables + 1 ≤ n → slot + count ≤ variables → CodeBelow n (parameters_code outer variables slot count)
parameters_below outer variables n slot zero h low = tt
parameters_below outer variables n slot (suc count) h low =
    below_append n (parameter_code variables slot (outer slot)) _ (parameter_below variables n slot (outer slot) h (omega (arith, low))) (parameters_below outer variables n (suc slot) count h (omega (arith, low)))

below_params : (params variables x : ℕ) → params ≤ variables → nat_lt x params ≡ true → x < variables
below_params params variables x le h = let lt : x < params = grind (arith, h) in omega (arith, lt, le)

function_below : (program : Program) (inner : (function : ℕ) → Bool) (base_of size_of : ℕ → ℕ) (met : Counts) (function : Function) → function.params ≤ function.variables →
    SequenceKnown (length program.globals) (MayCall program inner) function.variables (outer_of function.body) (λ x. nat_lt x function.params) false Serial (rows_of function.body) → CodeBelow (function_registers function) (function_code base_of size_of met function)
function_below program inner base_of size_of met function params known =
    let outer = outer_of function.body in
    let v = function.variables in
    let n = function_registers function in
    let rows = rows_of function.body in
    let ps = parameters_code outer v 0 function.params in
    let at = 0 + length ps in
    let body = sequence_at base_of size_of outer v at 0 0 met rows in
    let one_more : v + 1 ≤ n = grind arith in
    let room : v + waiting_statements rows ≤ n = grind arith in
    below_append n ps _ (parameters_below outer v n 0 function.params one_more (omega (arith, params)))
    (below_append n body _ (sequence_below base_of size_of outer (length program.globals) (MayCall program inner) v n (omega (arith, one_more)) rows (λ x. nat_lt x function.params) (λ x h. below_params function.params v x params h) false Serial known at 0 0 met room)
    (tt, tt))

-- the code of a function among those of the program
code_there : (program : Program) (n : Counts) (functions : List Function) (f : ℕ) (function : Function) → slice_get functions f ≡ Some function → (met : Counts) × (slice_get (codes_from program n functions) f ≡ Some (function_code (first_word program.globals) (words_of program.globals) met function))
code_there program n [] f function found = cc
code_there program n (g ∷ functions) zero function found = let same : g ≡ function = cc in (n, ap (λ g. Some (function_code (first_word program.globals) (words_of program.globals) n g)) same)
code_there program n (g ∷ functions) (suc f) function found = code_there program (behind_all n (rows_of g.body)) functions f function found

all_below : (n : ℕ) (code : List Lined) → CodeBelow n code → All (AreBelow n) (map (λ l. l.quad) code)
all_below n [] h = All-nil (AreBelow n)
all_below n (l ∷ code) h = All-cons (AreBelow n) l.quad (map (λ l. l.quad) code) (are_below n l.quad h.0) (all_below n code h.1)

pub registers_are_few : (program : Program) (inner : (function : ℕ) → Bool) (quads : QuadProgram) → IsKnown program inner → IsCodeOf program quads → (f : ℕ) (function : Function) (code : QuadFunction) → slice_get program.functions f ≡ Some function → slice_get quads.functions f ≡ Some code →
    All (AreBelow (function_registers function)) code.quads
registers_are_few program inner quads known is f function code found here =
    let there = code_there program (record { spawned = 0; printed = 0 }) program.functions f function found in
    let lines = function_code (first_word program.globals) (words_of program.globals) there.0 function in
    let both : Some code.quads ≡ Some (map (λ l. l.quad) lines) =
    sym (ap (option_map (λ g. g.quads)) here) ∙ sym (slice_get-map (λ g. g.quads) quads.functions f) ∙ ap (λ xs. slice_get xs f) is.are_quads ∙ slice_get-map (λ code. map (λ l. l.quad) code) (codes_of program) f ∙ ap (option_map (λ code. map (λ l. l.quad) code)) there.1 in
    let same : code.quads ≡ map (λ l. l.quad) lines = cc in
    subst (All (AreBelow (function_registers function))) (sym same) (all_below (function_registers function) lines (function_below program inner _ _ there.0 function (known.params f function found) (known.serial f function found)))
