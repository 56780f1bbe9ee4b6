-- What the quads of a program name is there, and their jumps stay in the function.
use Rattle.std.proofs.Common.{◌≡◌, refl, arith, ℕ, ◌+◌, ◌≤◌, ◌<◌, true, false, List, [], ◌∷◌, ◌++◌, length, length-append, Option, Some, None}
use Rattle.std.specs.Prelude.{Bool}
use Rattle.std.proofs.lemmas.Option.{slice_get_within}
use Rattle.source_meaning.specs.declared.tree.Expr.{Expr}
use Rattle.source_meaning.specs.declared.tree.StmtKind.{StmtKind, Row_of-Stmt, end_of-Stmt, more_of-Stmt, Held-StmtKind-If-2, None', Some'}
use Rattle.source_meaning.specs.declared.tree.StmtKind.TheVariants as stmt
use Rattle.source_meaning.specs.declared.tree.Spot.TheVariants.{Register}
use Rattle.xmt_quads.specs.declared.code.Operand.{Operand}
use Rattle.xmt_quads.specs.declared.code.Quad.TheVariants as quad
use Rattle.xmt_quads.specs.declared.code.QuadFunction.{QuadFunction}
use Rattle.xmt_quads.specs.declared.code.QuadProgram.{QuadProgram}
use Rattle.quad_code.specs.Lined.{Prints, Lined, lined, one, choice, loop_code, do_code, spawn_code}
use Rattle.quad_code.specs.Rows.{row_of, row_length}
use Rattle.quad_code.specs.Expressions.{operand_of, writing, access_of_slot, code_at, values_at, arguments_of}
use Rattle.quad_code.specs.Statements.{Counts, behind, behind_all, in_spawn, option_operand, expression_at, option_at, statement_at, sequence_at, else_at}
use Rattle.quad_code.specs.Known.{OptionKnown, declared, all_declared, Region, InBlock, StatementKnown, SequenceKnown, ElseKnown}
use Rattle.quad_code.specs.Whole.{texts_in, all_texts, else_texts}
use Rattle.quad_code.proofs.NotedStatements.{TextsAt, texts_front, behind_texts, behind_all_texts}
use Rattle.quad_limits.proofs.Sums.{sum_exists}
use Rattle.quad_limits.proofs.Names.{Tables, CodeExists, exists-append, Ends, front_ends, back_ends, writing_exists, choice_exists, slot_exists, arguments_exist, expression_exists, values_exist}

pub row_counts : (values : List Expr) → row_length (row_of values) ≡ length values
row_counts [] = refl
row_counts (e ∷ values) = let rest = row_counts values in omega (arith, rest)

module _ (program : QuadProgram) (f : QuadFunction) where
  pub loop_exists : (line at : ℕ) (test : ℕ → List Lined) (o : Operand) (body : ℕ → ℕ → ℕ → List Lined) (third : ℕ → List Lined) → Ends program f at (loop_code line at test o body third) →
      ((at : ℕ) → Ends program f at (test at) → CodeExists program f (test at)) → ((at leave again : ℕ) → leave < length f.quads → again < length f.quads → Ends program f at (body at leave again) → CodeExists program f (body at leave again)) →
      ((at : ℕ) → Ends program f at (third at) → CodeExists program f (third at)) → CodeExists program f (loop_code line at test o body third)
  loop_exists line at test o body third ends ht hb hl =
      let t = test at in
      let leave = at + length t + 1 in
      let start = leave + 1 + 1 in
      let b = body start leave (leave + 1) in
      let behind = start + length b in
      let last = third behind in
      let jump = one line (quad.Jump at) in
      let tail : List Lined = lined line (quad.IfNot o start) ∷ lined line (quad.Jump (behind + length last + 1)) ∷ lined line (quad.Jump behind) ∷ (b ++ (last ++ jump)) in
      let all : at + length t + 3 + length b + length last + 1 < length f.quads = omega (arith, ends, length-append t tail, length-append b (last ++ jump), length-append last jump) in
      exists-append program f t tail (ht at (omega (arith, all))) (
        omega (arith, all),
        (
          omega (arith, all),
          (
            omega (arith, all),
            exists-append program f b (last ++ jump) (hb start leave (leave + 1) (omega (arith, all)) (omega (arith, all)) (omega (arith, all))) (exists-append program f last jump (hl behind (omega (arith, all))) (omega (arith, all), tt)),
          ),
        ),
      )

  pub do_exists : (line at : ℕ) (test : ℕ → List Lined) (o : Operand) (body : ℕ → ℕ → ℕ → List Lined) → Ends program f at (do_code line at test o body) →
      ((at : ℕ) → Ends program f at (test at) → CodeExists program f (test at)) → ((at leave again : ℕ) → leave < length f.quads → again < length f.quads → Ends program f at (body at leave again) → CodeExists program f (body at leave again)) → CodeExists program f (do_code line at test o body)
  do_exists line at test o body ends ht hb =
      let start = at + 1 + 1 + 1 in
      let b = body start (at + 1) (at + 1 + 1) in
      let behind = start + length b in
      let t = test behind in
      let last = one line (quad.IfNot o start) in
      let all : at + 3 + length b + length t + 1 < length f.quads = omega (arith, ends, length-append b (t ++ last), length-append t last) in (
        omega (arith, all),
        (
          omega (arith, all),
          (
            omega (arith, all),
            exists-append program f b (t ++ last) (hb start (at + 1) (at + 1 + 1) (omega (arith, all)) (omega (arith, all)) (omega (arith, all))) (exists-append program f t last (ht behind (omega (arith, all))) (omega (arith, all), tt)),
          ),
        ),
      )

-- ---- statements

module _ (program : QuadProgram) (f : QuadFunction) (base_of size_of : ℕ → ℕ) (outer : ℕ → Option ℕ) (globals : ℕ) (tables : Tables program base_of size_of outer globals)
    (MayCall : Region → (function values : ℕ) → Type 0) (calls : (region : Region) (function values : ℕ) → MayCall region function values → (function < length program.functions) × (values ≤ 16)) (variables : ℕ) where
  -- where a `break` and a `continue` go
  abbrev Leads : Bool → (leave again : ℕ) → Type 0
  Leads loop leave again = loop ≡ true → (leave < length f.quads) × (again < length f.quads)

  two : (at : ℕ) (a b : List Lined) → Ends program f at (a ++ b) → (Ends program f at a → CodeExists program f a) → (Ends program f (at + length a) b → CodeExists program f b) → CodeExists program f (a ++ b)
  two at a b ends ha hb = exists-append program f a b (ha (front_ends program f at a b ends)) (hb (back_ends program f at a b ends))

  whole_exists : (e : Expr) (known : ℕ → Bool) (region : Region) → OptionKnown globals (MayCall region) known (Some e) → (at : ℕ) → Ends program f at (expression_at base_of size_of outer variables at e) → CodeExists program f (expression_at base_of size_of outer variables at e)
  whole_exists e known region is at ends = expression_exists program f base_of size_of outer globals tables (MayCall region) (calls region) known e.kind at variables e.at.line is ends

  option_exists : (e : Option Expr) (known : ℕ → Bool) (region : Region) → OptionKnown globals (MayCall region) known e → (at : ℕ) → Ends program f at (option_at base_of size_of outer variables at e) → CodeExists program f (option_at base_of size_of outer variables at e)
  option_exists None known region is at ends = tt
  option_exists (Some e) known region is at ends = whole_exists e known region is at ends

  mutual
    pub statement_exists : (k : StmtKind) (known : ℕ → Bool) (loop : Bool) (region : Region) → StatementKnown globals MayCall variables outer known loop region k → (at leave again : ℕ) (met : Counts) (line : ℕ) → TextsAt program.texts met.printed (texts_in k) → Leads loop leave again →
        Ends program f at (statement_at base_of size_of outer variables at leave again met line k) → CodeExists program f (statement_at base_of size_of outer variables at leave again met line k)
    statement_exists stmt.Empty known loop region is at leave again met line t leads ends = tt
    statement_exists (stmt.Value e) known loop region is at leave again met line t leads ends = whole_exists e known region is at ends
    statement_exists (stmt.Declare slot value) known loop region is at leave again met line t leads ends =
        let a = access_of_slot slot (outer slot) in
        two at (option_at base_of size_of outer variables at value) (one line (writing a (option_operand variables 0 value))) ends (λ h. option_exists value known region is.1 at h)
        (λ h. (writing_exists program f a (option_operand variables 0 value) (slot_exists program f base_of size_of outer globals tables (MayCall region) (calls region) known slot (outer slot) refl), tt))
    statement_exists (stmt.Block' shape body) known loop region is at leave again met line t leads ends = sequence_exists body known loop region is at leave again met t leads ends
    statement_exists (stmt.If' test shape body other) known loop region is at leave again met line t leads ends =
        let ct = expression_at base_of size_of outer variables at test in
        let first : ℕ → List Lined = λ at. sequence_at base_of size_of outer variables at leave again met body in
        let second : ℕ → List Lined = λ at. else_at base_of size_of outer variables at leave again (behind_all met body) other in
        two at ct (choice line (at + length ct) (quad.IfZero (operand_of variables test.kind)) first second) ends (λ h. whole_exists test known region is.0 at h)
        (λ h.
        choice_exists program f line (at + length ct) (quad.IfZero (operand_of variables test.kind)) first second (λ to below. below) h
        (λ at h. sequence_exists body known loop region is.1 at leave again met (texts_front program.texts met.printed (all_texts body) (else_texts other) t) leads h)
        (λ at h. else_exists other known loop region is.2 at leave again (behind_all met body) (behind_all_texts program.texts met.printed body (else_texts other) t) leads h))
    statement_exists (stmt.While' test shape body) known loop region is at leave again met line t leads ends =
        loop_exists program f line at (λ at. expression_at base_of size_of outer variables at test) (operand_of variables test.kind) (λ at leave again. sequence_at base_of size_of outer variables at leave again met body) (λ at. []) ends
        (λ at h. whole_exists test known region is.0 at h) (λ at leave again l a h. sequence_exists body known true region is.1 at leave again met t (λ is. (l, a)) h) (λ at h. tt)
    statement_exists (stmt.Do' shape body test) known loop region is at leave again met line t leads ends =
        do_exists program f line at (λ at. expression_at base_of size_of outer variables at test) (operand_of variables test.kind) (λ at leave again. sequence_at base_of size_of outer variables at leave again met body) ends
        (λ at h. whole_exists test known region is.0 at h) (λ at leave again l a h. sequence_exists body known true region is.1 at leave again met t (λ is. (l, a)) h)
    statement_exists (stmt.For' first_shape first test third shape body) known loop region is at leave again met line t leads ends =
        let cf = sequence_at base_of size_of outer variables at leave again met first in
        let met1 = behind_all met first in
        let known1 = all_declared variables known first in
        let test_code : ℕ → List Lined = λ at. option_at base_of size_of outer variables at test in
        let body_code : ℕ → ℕ → ℕ → List Lined = λ at leave again. sequence_at base_of size_of outer variables at leave again met1 body in
        let third_code : ℕ → List Lined = λ at. option_at base_of size_of outer variables at third in
        two at cf (loop_code line (at + length cf) test_code (option_operand variables 1 test) body_code third_code) ends
        (λ h. sequence_exists first known loop region is.0 at leave again met (texts_front program.texts met.printed (all_texts first) (all_texts body) t) leads h)
        (λ h.
        loop_exists program f line (at + length cf) test_code (option_operand variables 1 test) body_code third_code h
        (λ at h. option_exists test known1 region is.1 at h) (λ at leave again l a h. sequence_exists body known1 true region is.3 at leave again met1 (behind_all_texts program.texts met.printed first (all_texts body) t) (λ is. (l, a)) h)
        (λ at h. option_exists third known1 region is.2 at h))
    statement_exists stmt.Break known loop region is at leave again met line t leads ends = ((leads is).0, tt)
    statement_exists stmt.Continue known loop region is at leave again met line t leads ends = ((leads is).1, tt)
    statement_exists (stmt.Return value) known loop region is at leave again met line t leads ends =
        two at (option_at base_of size_of outer variables at value) (one line (quad.Return (option_operand variables 0 value))) ends (λ h. option_exists value known region is.0 at h) (λ h. (tt, tt))
    statement_exists (stmt.Spawn' low high shape body) known loop region is at leave again met line t leads ends =
        let cl = expression_at base_of size_of outer variables at low in
        let at1 = at + length cl in
        let ch = code_at base_of size_of outer at1 (variables + 1) high.at.line high.kind in
        let at2 = at1 + length ch in
        let block : ℕ → List Lined = λ at. sequence_at base_of size_of outer variables at leave again (in_spawn met) body in
        let b = block (at2 + 1) in
        let join = one line quad.Join in
        let code = spawn_code line at2 met.spawned (operand_of variables low.kind) (operand_of (variables + 1) high.kind) block in
        two at cl (ch ++ code) ends (λ h. whole_exists low known region is.0 at h)
        (λ h.
        two at1 ch code h (λ h. expression_exists program f base_of size_of outer globals tables (MayCall region) (calls region) known high.kind at1 (variables + 1) high.at.line is.1 h)
        (λ h.
        let inside : Ends program f (at2 + 1) (b ++ join) = omega (arith, h) in
        (tt, two (at2 + 1) b join inside (λ h. sequence_exists body known false InBlock is.3 (at2 + 1) leave again (in_spawn met) t (λ never. absurd (not_true never)) h) (λ h. (tt, tt)))))
      where
        not_true : false ≡ true → ⊥
        not_true never = cc
    statement_exists (stmt.Ps v r) known loop region is at leave again met line t leads ends =
        sum_exists program f base_of size_of outer globals tables (MayCall region) (calls region) known variables v (Register r) at line is.0 is.1 ends
    statement_exists (stmt.Psm v p) known loop region is at leave again met line t leads ends =
        sum_exists program f base_of size_of outer globals tables (MayCall region) (calls region) known variables v p at line is.0 is.1 ends
    statement_exists (stmt.Print text values) known loop region is at leave again met line t leads ends =
        let row = row_of values in
        let cv = values_at base_of size_of outer at variables row in
        let ca = arguments_of base_of size_of outer line 0 variables row in
        let last : List Lined = record { quad = quad.Print met.printed; line = line; note = Prints text } ∷ [] in
        two at cv (ca ++ last) ends (λ h. values_exist program f base_of size_of outer globals tables (MayCall region) (calls region) known row at variables is.0 h)
        (λ h.
        exists-append program f ca last (arguments_exist program f base_of size_of outer globals tables (MayCall region) (calls region) known row line 0 variables (omega (arith, row_counts values, is.2)))
        (slice_get_within program.texts met.printed text t.0, tt))

    pub sequence_exists : {m : _} (row : Row_of-Stmt m) (known : ℕ → Bool) (loop : Bool) (region : Region) → SequenceKnown globals MayCall variables outer known loop region row → (at leave again : ℕ) (met : Counts) → TextsAt program.texts met.printed (all_texts row) → Leads loop leave again →
        Ends program f at (sequence_at base_of size_of outer variables at leave again met row) → CodeExists program f (sequence_at base_of size_of outer variables at leave again met row)
    sequence_exists end_of-Stmt known loop region is at leave again met t leads ends = tt
    sequence_exists (more_of-Stmt place kind rest) known loop region is at leave again met t leads ends =
        let first = statement_at base_of size_of outer variables at leave again met place.line kind in
        two at first (sequence_at base_of size_of outer variables (at + length first) leave again (behind met kind) rest) ends
        (λ h. statement_exists kind known loop region is.0 at leave again met place.line (texts_front program.texts met.printed (texts_in kind) (all_texts rest) t) leads h)
        (λ h. sequence_exists rest (declared variables known kind) loop region is.1 (at + length first) leave again (behind met kind) (behind_texts program.texts met.printed kind (all_texts rest) t) leads h)

    else_exists : (other : Held-StmtKind-If-2) (known : ℕ → Bool) (loop : Bool) (region : Region) → ElseKnown globals MayCall variables outer known loop region other → (at leave again : ℕ) (met : Counts) → TextsAt program.texts met.printed (else_texts other) → Leads loop leave again →
        Ends program f at (else_at base_of size_of outer variables at leave again met other) → CodeExists program f (else_at base_of size_of outer variables at leave again met other)
    else_exists None' known loop region is at leave again met t leads ends = tt
    else_exists (Some' shape body) known loop region is at leave again met t leads ends = sequence_exists body known loop region is at leave again met t leads ends
