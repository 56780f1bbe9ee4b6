-- The notes of the quads of statements fit their places.
use Rattle.std.proofs.Common.{◌≡◌, refl, ap, subst, arith, ℕ, ◌+◌, true, false, List, [], ◌∷◌, ◌++◌, length, length-append, Option, Some, None}
use Rattle.std.specs.Prelude.{Bool, slice_get}
use Rattle.source_meaning.specs.declared.tree.Expr.{Expr}
use Rattle.source_meaning.specs.declared.tree.StmtKind.{StmtKind, Row_of-Stmt, end_of-Stmt, more_of-Stmt, Held-StmtKind-If-2, None', Some'}
use Rattle.source_meaning.specs.declared.tree.StmtKind.TheVariants as stmt
use Rattle.source_meaning.specs.declared.tree.Spot.TheVariants.{Register}
use Rattle.source_meaning.specs.Code.{spawns, all_spawns, else_spawns}
use Rattle.xmt_quads.specs.declared.code.Operand.{Operand}
use Rattle.xmt_quads.specs.declared.code.Quad.{Quad}
use Rattle.xmt_quads.specs.declared.code.Quad.TheVariants as quad
use Rattle.xmt_quads.specs.Program.{is_spawn}
use Rattle.quad_code.specs.Lined.{Prints, Lined, lined, one, choice, loop_code, do_code, spawn_code}
use Rattle.quad_code.specs.Rows.{row_of}
use Rattle.quad_code.specs.Expressions.{operand_of, writing, access_of_slot, code_at, values_at, arguments_of}
use Rattle.quad_code.specs.Statements.{Counts, prints, all_prints, else_prints, behind, behind_all, in_spawn, option_operand, expression_at, option_at, sum_at, statement_at, sequence_at, else_at}
use Rattle.quad_code.specs.Known.{Region, Serial, InBlock, StatementKnown, SequenceKnown, ElseKnown}
use Rattle.quad_code.specs.Whole.{texts_in, all_texts, else_texts}
use Rattle.quad_code.proofs.Threads.{not_serial}
use Rattle.quad_code.proofs.Notes.{is_join, AreNoted, joins_behind, Noted, noted-append, noted_at, none_noted, plain_noted, AreQuiet, quiet-append, quiet_noted, writing_quiet, expression_quiet, values_quiet, arguments_quiet, sum_quiet}

-- ---- the texts of statements

-- these texts stand in a list from a place on
abbrev pub TextsAt : (texts : List (List ℕ)) (at : ℕ) → List (List ℕ) → Type 0
TextsAt texts at [] = Unit {0}
TextsAt texts at (t ∷ ts) = (slice_get texts at ≡ Some t) × TextsAt texts (at + 1) ts

pub texts_front : (texts : List (List ℕ)) (at : ℕ) (a b : List (List ℕ)) → TextsAt texts at (a ++ b) → TextsAt texts at a
texts_front texts at [] b h = tt
texts_front texts at (t ∷ a) b h = (h.0, texts_front texts (at + 1) a b h.1)

pub texts_back : (texts : List (List ℕ)) (at : ℕ) (a b : List (List ℕ)) → TextsAt texts at (a ++ b) → TextsAt texts (at + length a) b
texts_back texts at [] b h = let e : at ≡ at + 0 = omega arith in subst (λ at. TextsAt texts at b) e h
texts_back texts at (t ∷ a) b h = let e : at + 1 + length a ≡ at + length (t ∷ a) = omega arith in subst (λ at. TextsAt texts at b) e (texts_back texts (at + 1) a b h.1)

mutual
  -- a text for each print
  texts_count : (k : StmtKind) → length (texts_in k) ≡ prints k
  texts_count (stmt.Block' shape body) = all_count body
  texts_count (stmt.If' test shape body other) = let a = all_count body in let b = else_count other in omega (arith, length-append (all_texts body) (else_texts other), a, b)
  texts_count (stmt.While' test shape body) = all_count body
  texts_count (stmt.Do' shape body test) = all_count body
  texts_count (stmt.For' first_shape first test third shape body) = let a = all_count first in let b = all_count body in omega (arith, length-append (all_texts first) (all_texts body), a, b)
  texts_count (stmt.Spawn' low high shape body) = all_count body
  texts_count (stmt.Print text values) = refl
  texts_count stmt.Empty = refl
  texts_count (stmt.Value e) = refl
  texts_count (stmt.Declare slot value) = refl
  texts_count stmt.Break = refl
  texts_count stmt.Continue = refl
  texts_count (stmt.Return value) = refl
  texts_count (stmt.Ps v r) = refl
  texts_count (stmt.Psm v p) = refl

  pub all_count : {m : _} (row : Row_of-Stmt m) → length (all_texts row) ≡ all_prints row
  all_count end_of-Stmt = refl
  all_count (more_of-Stmt place kind rest) = let a = texts_count kind in let b = all_count rest in omega (arith, length-append (texts_in kind) (all_texts rest), a, b)

  else_count : (other : Held-StmtKind-If-2) → length (else_texts other) ≡ else_prints other
  else_count None' = refl
  else_count (Some' shape body) = all_count body

-- the texts behind those of a statement, and of several
pub behind_texts : (texts : List (List ℕ)) (n : ℕ) (k : StmtKind) (b : List (List ℕ)) → TextsAt texts n (texts_in k ++ b) → TextsAt texts (n + prints k) b
behind_texts texts n k b h = subst (λ c. TextsAt texts (n + c) b) (texts_count k) (texts_back texts n (texts_in k) b h)

pub behind_all_texts : (texts : List (List ℕ)) (n : ℕ) {m : _} (row : Row_of-Stmt m) (b : List (List ℕ)) → TextsAt texts n (all_texts row ++ b) → TextsAt texts (n + all_prints row) b
behind_all_texts texts n row b h = subst (λ c. TextsAt texts (n + c) b) (all_count row) (texts_back texts n (all_texts row) b h)

-- ---- choices and loops

module _ (texts : List (List ℕ)) (MayJoin : Type 0) where
  choice_noted : (line at spawned m n : ℕ) (skip : ℕ → Quad) (first second : ℕ → List Lined) → ((to : ℕ) → is_spawn (skip to) ≡ 0) → ((to : ℕ) → is_join (skip to) ≡ false) →
      Noted texts (at + 1) spawned m MayJoin (first (at + 1)) → Noted texts (at + 1 + length (first (at + 1)) + 1) (spawned + m) n MayJoin (second (at + 1 + length (first (at + 1)) + 1)) → Noted texts at spawned (m + n) MayJoin (choice line at skip first second)
  choice_noted line at spawned m n skip first second plain inside ha hb =
      let a = first (at + 1) in
      let middle = at + 1 + length a + 1 in
      let b = second middle in
      plain_noted texts MayJoin at spawned (m + n) line (skip middle) (a ++ lined line (quad.Jump (middle + length b)) ∷ b) (plain middle) (inside middle)
      (noted-append texts MayJoin (at + 1) spawned m n (m + n) a (lined line (quad.Jump (middle + length b)) ∷ b) ha
      (plain_noted texts MayJoin (at + 1 + length a) (spawned + m) n line (quad.Jump (middle + length b)) b refl refl hb) refl)

  -- a body, and quiet code behind it
  body_noted : (at spawned m : ℕ) (b last : List Lined) → Noted texts at spawned m MayJoin b → AreQuiet last → Noted texts at spawned m MayJoin (b ++ last)
  body_noted at spawned m b last hb quiet = noted-append texts MayJoin at spawned m 0 m b last hb (quiet_noted texts MayJoin (at + length b) (spawned + m) last quiet) (omega arith)

  loop_noted : (line at spawned m : ℕ) (test : ℕ → List Lined) (o : Operand) (body : ℕ → ℕ → ℕ → List Lined) (third : ℕ → List Lined) → ((at : ℕ) → AreQuiet (test at)) → ((at : ℕ) → AreQuiet (third at)) →
      ((at leave again : ℕ) → Noted texts at spawned m MayJoin (body at leave again)) → Noted texts at spawned m MayJoin (loop_code line at test o body third)
  loop_noted line at spawned m test o body third quiet_test quiet_third hb =
      let t = test at in
      let leave = at + length t + 1 in
      let start = leave + 1 + 1 in
      let b = body start leave (leave + 1) in
      let behind = start + length b in
      let last = third behind in
      let jump = one line (quad.Jump at) in
      let tail = b ++ (last ++ jump) in
      let q2 = quad.Jump (behind + length last + 1) in
      let q3 = quad.Jump behind in
      let same : spawned ≡ spawned + 0 = omega arith in
      noted-append texts MayJoin at spawned 0 m m t (lined line (quad.IfNot o start) ∷ lined line q2 ∷ lined line q3 ∷ tail) (quiet_noted texts MayJoin at spawned t (quiet_test at))
      (noted_at texts MayJoin (at + length t) (at + length t) spawned (spawned + 0) m (lined line (quad.IfNot o start) ∷ lined line q2 ∷ lined line q3 ∷ tail) refl same
      (plain_noted texts MayJoin (at + length t) spawned m line (quad.IfNot o start) (lined line q2 ∷ lined line q3 ∷ tail) refl refl
      (plain_noted texts MayJoin leave spawned m line q2 (lined line q3 ∷ tail) refl refl
      (plain_noted texts MayJoin (leave + 1) spawned m line q3 tail refl refl
      (body_noted start spawned m b (last ++ jump) (hb start leave (leave + 1)) (quiet-append last jump (quiet_third behind) ((refl, refl, refl), tt)))))))
      (omega arith)

  do_noted : (line at spawned m : ℕ) (test : ℕ → List Lined) (o : Operand) (body : ℕ → ℕ → ℕ → List Lined) → ((at : ℕ) → AreQuiet (test at)) →
      ((at leave again : ℕ) → Noted texts at spawned m MayJoin (body at leave again)) → Noted texts at spawned m MayJoin (do_code line at test o body)
  do_noted line at spawned m test o body quiet_test hb =
      let start = at + 1 + 1 + 1 in
      let b = body start (at + 1) (at + 1 + 1) in
      let behind = start + length b in
      let t = test behind in
      let last = one line (quad.IfNot o start) in
      let tail = b ++ (t ++ last) in
      let q2 = quad.Jump (behind + length t + 1) in
      let q3 = quad.Jump behind in
      plain_noted texts MayJoin at spawned m line (quad.Jump start) (lined line q2 ∷ lined line q3 ∷ tail) refl refl
      (plain_noted texts MayJoin (at + 1) spawned m line q2 (lined line q3 ∷ tail) refl refl
      (plain_noted texts MayJoin (at + 1 + 1) spawned m line q3 tail refl refl
      (body_noted start spawned m b (t ++ last) (hb start (at + 1) (at + 1 + 1)) (quiet-append t last (quiet_test behind) ((refl, refl, refl), tt)))))

  -- a spawn, where one may stand
  spawn_noted : MayJoin → (line at spawned m : ℕ) (low high : Operand) (block : ℕ → List Lined) → (Never : Type 0) → (Never → ⊥) → Noted texts (at + 1) (1 + spawned) m Never (block (at + 1)) → Noted texts at spawned (1 + m) MayJoin (spawn_code line at spawned low high block)
  spawn_noted may line at spawned m low high block Never never hb =
      let b = block (at + 1) in
      let join = one line quad.Join in
      let none = hb.joins never in
      let more : 1 + spawned ≡ spawned + 1 = omega arith in
      let here : at + 1 + (length b + 0) + 1 ≡ at + 1 + length b + 1 = omega arith in
      let rest : Noted texts (at + 1) (spawned + 1) m MayJoin b = record { notes = subst (λ s. AreNoted texts (at + 1) s b) more hb.notes; spawns = hb.spawns; joins = λ no. none } in
      let ended : Noted texts (at + 1 + length b) (spawned + 1 + m) 0 MayJoin join = record { notes = (tt, tt); spawns = refl; joins = λ no. absurd (no may) } in
      let all = noted-append texts MayJoin (at + 1) (spawned + 1) m 0 m b join rest ended (omega arith) in
      record {
        notes = ((refl, (length b + 0, joins_behind b join 0 none refl, here), refl), all.notes);
        spawns = ap (λ n. 1 + n) all.spawns;
        joins = λ no. absurd (no may);
      }

-- ---- statements

module _ (texts : List (List ℕ)) (globals : ℕ) (MayCall : Region → (function values : ℕ) → Type 0) (base_of size_of : ℕ → ℕ) (outer : ℕ → Option ℕ) (variables : ℕ) where
  option_quiet : (e : Option Expr) (at : ℕ) → AreQuiet (option_at base_of size_of outer variables at e)
  option_quiet None at = tt
  option_quiet (Some e) at = expression_quiet base_of size_of outer e.kind at variables e.at.line

  mutual
    pub statement_noted : (k : StmtKind) (known : ℕ → Bool) (loop : Bool) (region : Region) → StatementKnown globals MayCall variables outer known loop region k → (at leave again : ℕ) (n : Counts) (line : ℕ) → TextsAt texts n.printed (texts_in k) →
        Noted texts at n.spawned (spawns k) (region ≡ Serial) (statement_at base_of size_of outer variables at leave again n line k)
    statement_noted stmt.Empty known loop region is at leave again n line t = none_noted texts (region ≡ Serial) at n.spawned
    statement_noted (stmt.Value e) known loop region is at leave again n line t = quiet_noted texts (region ≡ Serial) at n.spawned _ (expression_quiet base_of size_of outer e.kind at variables e.at.line)
    statement_noted (stmt.Declare slot value) known loop region is at leave again n line t =
        quiet_noted texts (region ≡ Serial) at n.spawned _ (quiet-append (option_at base_of size_of outer variables at value) (one line (writing (access_of_slot slot (outer slot)) (option_operand variables 0 value))) (option_quiet value at) (writing_quiet line (access_of_slot slot (outer slot)) _, tt))
    statement_noted (stmt.Block' shape body) known loop region is at leave again n line t = sequence_noted body known loop region is at leave again n t
    statement_noted (stmt.If' test shape body other) known loop region is at leave again n line t =
        let J = region ≡ Serial in
        let ct = expression_at base_of size_of outer variables at test in
        let at1 = at + length ct in
        let first : ℕ → List Lined = λ at. sequence_at base_of size_of outer variables at leave again n body in
        let second : ℕ → List Lined = λ at. else_at base_of size_of outer variables at leave again (behind_all n body) other in
        let same : n.spawned ≡ n.spawned + 0 = omega arith in
        let skip = quad.IfZero (operand_of variables test.kind) in
        noted-append texts J at n.spawned 0 (all_spawns body + else_spawns other) (all_spawns body + else_spawns other) ct (choice line at1 skip first second)
        (quiet_noted texts J at n.spawned ct (expression_quiet base_of size_of outer test.kind at variables test.at.line))
        (noted_at texts J at1 at1 n.spawned (n.spawned + 0) (all_spawns body + else_spawns other) (choice line at1 skip first second) refl same
        (choice_noted texts J line at1 n.spawned (all_spawns body) (else_spawns other) skip first second (λ to. refl) (λ to. refl)
        (sequence_noted body known loop region is.1 (at1 + 1) leave again n (texts_front texts n.printed (all_texts body) (else_texts other) t))
        (else_noted other known loop region is.2 (at1 + 1 + length (first (at1 + 1)) + 1) leave again (behind_all n body) (behind_all_texts texts n.printed body (else_texts other) t))))
        (omega arith)
    statement_noted (stmt.While' test shape body) known loop region is at leave again n line t =
        loop_noted texts (region ≡ Serial) line at n.spawned (all_spawns body) (λ at. expression_at base_of size_of outer variables at test) (operand_of variables test.kind) (λ at leave again. sequence_at base_of size_of outer variables at leave again n body) (λ at. [])
        (λ at. expression_quiet base_of size_of outer test.kind at variables test.at.line) (λ at. tt) (λ at leave again. sequence_noted body known true region is.1 at leave again n t)
    statement_noted (stmt.Do' shape body test) known loop region is at leave again n line t =
        do_noted texts (region ≡ Serial) line at n.spawned (all_spawns body) (λ at. expression_at base_of size_of outer variables at test) (operand_of variables test.kind) (λ at leave again. sequence_at base_of size_of outer variables at leave again n body)
        (λ at. expression_quiet base_of size_of outer test.kind at variables test.at.line) (λ at leave again. sequence_noted body known true region is.1 at leave again n t)
    statement_noted (stmt.For' first_shape first test third shape body) known loop region is at leave again n line t =
        let J = region ≡ Serial in
        let cf = sequence_at base_of size_of outer variables at leave again n first in
        let at1 = at + length cf in
        let n1 = behind_all n first in
        let code : List Lined = loop_code line at1 (λ at. option_at base_of size_of outer variables at test) (option_operand variables 1 test) (λ at leave again. sequence_at base_of size_of outer variables at leave again n1 body) (λ at. option_at base_of size_of outer variables at third) in
        noted-append texts J at n.spawned (all_spawns first) (all_spawns body) (all_spawns first + all_spawns body) cf code
        (sequence_noted first known loop region is.0 at leave again n (texts_front texts n.printed (all_texts first) (all_texts body) t))
        (loop_noted texts J line at1 n1.spawned (all_spawns body) (λ at. option_at base_of size_of outer variables at test) (option_operand variables 1 test) (λ at leave again. sequence_at base_of size_of outer variables at leave again n1 body) (λ at. option_at base_of size_of outer variables at third)
        (option_quiet test) (option_quiet third) (λ at leave again. sequence_noted body _ true region is.3 at leave again n1 (behind_all_texts texts n.printed first (all_texts body) t)))
        refl
    statement_noted stmt.Break known loop region is at leave again n line t = quiet_noted texts (region ≡ Serial) at n.spawned (one line (quad.Jump leave)) ((refl, refl, refl), tt)
    statement_noted stmt.Continue known loop region is at leave again n line t = quiet_noted texts (region ≡ Serial) at n.spawned (one line (quad.Jump again)) ((refl, refl, refl), tt)
    statement_noted (stmt.Return value) known loop region is at leave again n line t =
        quiet_noted texts (region ≡ Serial) at n.spawned _ (quiet-append (option_at base_of size_of outer variables at value) (one line (quad.Return (option_operand variables 0 value))) (option_quiet value at) ((refl, refl, refl), tt))
    statement_noted (stmt.Spawn' low high shape body) known loop region is at leave again n line t =
        let J = region ≡ Serial in
        let cl = expression_at base_of size_of outer variables at low in
        let at1 = at + length cl in
        let ch = code_at base_of size_of outer at1 (variables + 1) high.at.line high.kind in
        let at2 = at1 + length ch in
        let block : ℕ → List Lined = λ at. sequence_at base_of size_of outer variables at leave again (in_spawn n) body in
        let code = spawn_code line at2 n.spawned (operand_of variables low.kind) (operand_of (variables + 1) high.kind) block in
        let bounds = cl ++ (ch ++ code) in
        let m = 1 + all_spawns body in
        let same : n.spawned ≡ n.spawned + 0 = omega arith in
        let twice : n.spawned ≡ n.spawned + 0 + 0 = omega arith in
        noted-append texts J at n.spawned 0 m m cl (ch ++ code) (quiet_noted texts J at n.spawned cl (expression_quiet base_of size_of outer low.kind at variables low.at.line))
        (noted-append texts J at1 (n.spawned + 0) 0 m m ch code (quiet_noted texts J at1 (n.spawned + 0) ch (expression_quiet base_of size_of outer high.kind at1 (variables + 1) high.at.line))
        (noted_at texts J at2 at2 n.spawned (n.spawned + 0 + 0) m code refl twice
        (spawn_noted texts J is.4 line at2 n.spawned (all_spawns body) (operand_of variables low.kind) (operand_of (variables + 1) high.kind) block (InBlock ≡ Serial) not_serial
        (sequence_noted body known false InBlock is.3 (at2 + 1) leave again (in_spawn n) t)))
        (omega arith))
        (omega arith)
    statement_noted (stmt.Print text values) known loop region is at leave again n line t =
        let J = region ≡ Serial in
        let cv = values_at base_of size_of outer at variables (row_of values) in
        let at1 = at + length cv in
        let ca = arguments_of base_of size_of outer line 0 variables (row_of values) in
        let last : List Lined = record { quad = quad.Print n.printed; line = line; note = Prints text } ∷ [] in
        noted-append texts J at n.spawned 0 0 0 cv (ca ++ last) (quiet_noted texts J at n.spawned cv (values_quiet base_of size_of outer (row_of values) at variables))
        (noted-append texts J at1 (n.spawned + 0) 0 0 0 ca last (quiet_noted texts J at1 (n.spawned + 0) ca (arguments_quiet base_of size_of outer (row_of values) line 0 variables))
        (record { notes = (t.0, tt); spawns = refl; joins = λ never. refl }) refl)
        refl
    statement_noted (stmt.Ps v r) known loop region is at leave again n line t =
        quiet_noted texts (region ≡ Serial) at n.spawned (sum_at base_of size_of outer variables at line v (Register r)) (sum_quiet base_of size_of outer variables at line v (Register r))
    statement_noted (stmt.Psm v p) known loop region is at leave again n line t =
        quiet_noted texts (region ≡ Serial) at n.spawned (sum_at base_of size_of outer variables at line v p) (sum_quiet base_of size_of outer variables at line v p)

    pub sequence_noted : {m : _} (row : Row_of-Stmt m) (known : ℕ → Bool) (loop : Bool) (region : Region) → SequenceKnown globals MayCall variables outer known loop region row → (at leave again : ℕ) (n : Counts) → TextsAt texts n.printed (all_texts row) →
        Noted texts at n.spawned (all_spawns row) (region ≡ Serial) (sequence_at base_of size_of outer variables at leave again n row)
    sequence_noted end_of-Stmt known loop region is at leave again n t = none_noted texts (region ≡ Serial) at n.spawned
    sequence_noted (more_of-Stmt place kind rest) known loop region is at leave again n t =
        let first = statement_at base_of size_of outer variables at leave again n place.line kind in
        noted-append texts (region ≡ Serial) at n.spawned (spawns kind) (all_spawns rest) (spawns kind + all_spawns rest) first (sequence_at base_of size_of outer variables (at + length first) leave again (behind n kind) rest)
        (statement_noted kind known loop region is.0 at leave again n place.line (texts_front texts n.printed (texts_in kind) (all_texts rest) t))
        (sequence_noted rest _ loop region is.1 (at + length first) leave again (behind n kind) (behind_texts texts n.printed kind (all_texts rest) t))
        refl

    else_noted : (other : Held-StmtKind-If-2) (known : ℕ → Bool) (loop : Bool) (region : Region) → ElseKnown globals MayCall variables outer known loop region other → (at leave again : ℕ) (n : Counts) → TextsAt texts n.printed (else_texts other) →
        Noted texts at n.spawned (else_spawns other) (region ≡ Serial) (else_at base_of size_of outer variables at leave again n other)
    else_noted None' known loop region is at leave again n t = none_noted texts (region ≡ Serial) at n.spawned
    else_noted (Some' shape body) known loop region is at leave again n t = sequence_noted body known loop region is at leave again n t
