-- Statements as they are appended, one behind the other and one inside the other.
use Rattle.std.proofs.Common.{◌≡◌, sym, ◌∙◌, ap, subst, refl, arith, ℕ, ◌+◌, ◌<◌, ◌≤◌, suc, drop, drop-cons, get_or, List, [], ◌∷◌, ◌++◌, length, append-nil, append_assoc, length-append}
use Rattle.std.proofs.lemmas.List.{drop_all}
use mathlib.Core.Former.{Count, one_more}
use Rattle.source_meaning.specs.declared.tree.Stmt.{Stmt}
use Rattle.source_meaning.specs.declared.tree.StmtKind.{StmtKind, Row_of-Stmt, end_of-Stmt, more_of-Stmt, Held-StmtKind-If-2, None', Some'}
use Rattle.source_meaning.specs.declared.tree.StmtKind.TheBlock.{hidden-the_row-Stmt-0}
use Rattle.source_meaning.specs.declared.tree.StmtKind.TheVariants as stmt
use Rattle.source_meaning.specs.declared.tree.GlobalVar.{GlobalVar}
use Rattle.source_meaning.specs.Code.{spawns}
use Rattle.source_meaning.specs.Opened.{opened}
use Rattle.quad_code.specs.Lined.{Lined}
use Rattle.quad_code.specs.Rows.{count_of, rows_of}
use Rattle.quad_code.specs.Statements.{prints, all_prints, else_prints}
use Rattle.quad_code.specs.Whole.{texts_in, all_texts, else_texts}
use Rattle.lowering.specs.declared.code.Placed.{Placed}
use Rattle.lowering.specs.declared.loops.Exits.{Exits}
use Rattle.lowering.specs.Emitted.{Appends}
use Rattle.lowering.specs.Stated.{Emits, IsPlain, statement_code, sequence_code, plain_code, EmitsStatement, EmitsSequence}
use Rattle.lowering.proofs.Appends.{in_turn, nothing}

-- ---- a text for each print

mutual
  pub texts_counted : (kind : StmtKind) → length (texts_in kind) ≡ prints kind
  texts_counted stmt.Empty = refl
  texts_counted (stmt.Value e) = refl
  texts_counted (stmt.Declare slot value) = refl
  texts_counted (stmt.Block' shape body) = all_counted body
  texts_counted (stmt.If' test shape body other) =
      let first = all_counted body in
      let second = else_counted other in
      omega (arith, first, second, length-append (all_texts body) (else_texts other))
  texts_counted (stmt.While' test shape body) = all_counted body
  texts_counted (stmt.Do' shape body test) = all_counted body
  texts_counted (stmt.For' first_shape first test third shape body) =
      let front = all_counted first in
      let inner = all_counted body in
      omega (arith, front, inner, length-append (all_texts first) (all_texts body))
  texts_counted stmt.Break = refl
  texts_counted stmt.Continue = refl
  texts_counted (stmt.Return value) = refl
  texts_counted (stmt.Spawn' low high shape body) = all_counted body
  texts_counted (stmt.Ps v r) = refl
  texts_counted (stmt.Psm v p) = refl
  texts_counted (stmt.Print text values) = refl

  pub all_counted : {n : _} (row : Row_of-Stmt n) → length (all_texts row) ≡ all_prints row
  all_counted end_of-Stmt = refl
  all_counted (more_of-Stmt place kind rest) =
      let first = texts_counted kind in
      let second = all_counted rest in
      omega (arith, first, second, length-append (texts_in kind) (all_texts rest))

  else_counted : (other : Held-StmtKind-If-2) → length (else_texts other) ≡ else_prints other
  else_counted None' = refl
  else_counted (Some' shape body) = all_counted body

pub behind_counted : (before behind texts : List (List ℕ)) (n : ℕ) → length texts ≡ n → behind ≡ before ++ texts → length behind ≡ length before + n
behind_counted before behind texts n counted is = ap length is ∙ length-append before texts ∙ ap (λ m. length before + m) counted

-- ---- a list of statements by either of its two rows

abbrev pub AnyRow : Type 0
AnyRow = (n : Count) × Row_of-Stmt n

abbrev one_longer : Stmt → AnyRow → AnyRow
one_longer s row = (one_more row.0, more_of-Stmt s.at s.kind row.1)

pub rows_same : (body : List Stmt) → let a : AnyRow = (_, hidden-the_row-Stmt-0 body) in let b : AnyRow = (count_of body, rows_of body) in a ≡ b
unfolding opened
rows_same [] = refl
rows_same (s ∷ body) = ap (one_longer s) (rows_same body)

-- ---- pieces

-- code for which the number of prints before it makes no difference
pub alone : (code : ℕ → List Lined) (c0 c1 : List Placed) (t0 t1 : List (List ℕ)) → Appends code c0 c1 → t1 ≡ t0 → Emits (λ n. code) [] c0 c1 t0 t1
alone code c0 c1 t0 t1 h e = record { appended = λ spawned. h; printed = e ∙ sym (append-nil t0) }

module _ (globals : List GlobalVar) (body : List Stmt) (variables : ℕ) where
  pub plain : (exits : Exits) (line : ℕ) (kind : StmtKind) (c0 c1 : List Placed) (t0 t1 : List (List ℕ)) → IsPlain kind → Appends (plain_code globals body variables exits line kind) c0 c1 → t1 ≡ t0 →
      Emits (statement_code globals body variables exits line kind) (texts_in kind) c0 c1 t0 t1
  plain exits line stmt.Empty c0 c1 t0 t1 is h e = alone (plain_code globals body variables exits line stmt.Empty) c0 c1 t0 t1 h e
  plain exits line (stmt.Value v) c0 c1 t0 t1 is h e = alone (plain_code globals body variables exits line (stmt.Value v)) c0 c1 t0 t1 h e
  plain exits line (stmt.Declare slot value) c0 c1 t0 t1 is h e = alone (plain_code globals body variables exits line (stmt.Declare slot value)) c0 c1 t0 t1 h e
  plain exits line (stmt.Block' shape list) c0 c1 t0 t1 is h e = absurd is
  plain exits line (stmt.If' test shape list other) c0 c1 t0 t1 is h e = absurd is
  plain exits line (stmt.While' test shape list) c0 c1 t0 t1 is h e = absurd is
  plain exits line (stmt.Do' shape list test) c0 c1 t0 t1 is h e = absurd is
  plain exits line (stmt.For' first_shape first test third shape list) c0 c1 t0 t1 is h e = absurd is
  plain exits line stmt.Break c0 c1 t0 t1 is h e = alone (plain_code globals body variables exits line stmt.Break) c0 c1 t0 t1 h e
  plain exits line stmt.Continue c0 c1 t0 t1 is h e = alone (plain_code globals body variables exits line stmt.Continue) c0 c1 t0 t1 h e
  plain exits line (stmt.Return value) c0 c1 t0 t1 is h e = alone (plain_code globals body variables exits line (stmt.Return value)) c0 c1 t0 t1 h e
  plain exits line (stmt.Spawn' low high shape list) c0 c1 t0 t1 is h e = absurd is
  plain exits line (stmt.Ps v r) c0 c1 t0 t1 is h e = alone (plain_code globals body variables exits line (stmt.Ps v r)) c0 c1 t0 t1 h e
  plain exits line (stmt.Psm v p) c0 c1 t0 t1 is h e = alone (plain_code globals body variables exits line (stmt.Psm v p)) c0 c1 t0 t1 h e
  plain exits line (stmt.Print text values) c0 c1 t0 t1 is h e = absurd is

  pub none_more : (exits : Exits) (c : List Placed) (t : List (List ℕ)) → EmitsSequence globals body variables exits [] c c t t
  none_more exits c t = record { appended = λ spawned. nothing c; printed = sym (append-nil t) }

  -- a statement, and those behind it
  pub one_more_statement : (exits : Exits) (s : Stmt) (rest : List Stmt) (c0 c1 c2 : List Placed) (t0 t1 t2 : List (List ℕ)) → EmitsStatement globals body variables exits s c0 c1 t0 t1 →
      EmitsSequence globals body variables exits rest c1 c2 t1 t2 → EmitsSequence globals body variables exits (s ∷ rest) c0 c2 t0 t2
  one_more_statement exits s rest c0 c1 c2 t0 t1 t2 h1 h2 =
      let count : length t1 ≡ length t0 + prints s.kind = behind_counted t0 t1 (texts_in s.kind) (prints s.kind) (texts_counted s.kind) h1.printed in
      record {
        appended = λ spawned.
            in_turn (statement_code globals body variables exits s.at.line s.kind (record { spawned = spawned; printed = length t0 }))
            (sequence_code globals body variables exits rest (record { spawned = spawned + spawns s.kind; printed = length t0 + prints s.kind })) c0 c1 c2 (h1.appended spawned)
            (subst (λ n. Appends (sequence_code globals body variables exits rest (record { spawned = spawned + spawns s.kind; printed = n })) c1 c2) count (h2.appended (spawned + spawns s.kind)));
        printed = h2.printed ∙ ap (λ t. t ++ all_texts (rows_of rest)) h1.printed ∙ append_assoc t0 (texts_in s.kind) (all_texts (rows_of rest));
      }

  -- a statement as a list of one
  pub single : (exits : Exits) (s : Stmt) (c0 c1 : List Placed) (t0 t1 : List (List ℕ)) → EmitsStatement globals body variables exits s c0 c1 t0 t1 → EmitsSequence globals body variables exits (s ∷ []) c0 c1 t0 t1
  single exits s c0 c1 t0 t1 h = one_more_statement exits s [] c0 c1 c1 t0 t1 t1 h (none_more exits c1 t1)

  -- ---- a loop over statements

  -- what is appended behind the first so many statements is appended with them
  abbrev pub Goes : Exits → (list : List Stmt) → (i : ℕ) → (c0 c1 : List Placed) → (t0 t1 : List (List ℕ)) → Type 0
  Goes exits list i c0 c1 t0 t1 =
      (c : List Placed) (t : List (List ℕ)) → EmitsSequence globals body variables exits (drop i list) c1 c t1 t → EmitsSequence globals body variables exits list c0 c t0 t

  pub goes_on : (exits : Exits) (list : List Stmt) (i : ℕ) (s : Stmt) (c0 c1 c2 : List Placed) (t0 t1 t2 : List (List ℕ)) → i < length list → s ≡ get_or list i s →
      EmitsStatement globals body variables exits s c1 c2 t1 t2 → Goes exits list i c0 c1 t0 t1 → Goes exits list (i + 1) c0 c2 t0 t2
  goes_on exits list i s c0 c1 c2 t0 t1 t2 within is h given c t rest =
      let front : drop i list ≡ get_or list i s ∷ drop (suc i) list = drop-cons list i s within in
      let next : suc i ≡ i + 1 = omega arith in
      let here : s ∷ drop (i + 1) list ≡ drop i list = ap (λ n. s ∷ drop n list) (sym next) ∙ ap (λ (x : Stmt). x ∷ drop (suc i) list) is ∙ sym front in
      given c t (subst (λ xs. EmitsSequence globals body variables exits xs c1 c t1 t) here (one_more_statement exits s (drop (i + 1) list) c1 c2 c t1 t2 t h rest))

  pub goes_to_end : (exits : Exits) (list : List Stmt) (i : ℕ) (c0 c1 : List Placed) (t0 t1 : List (List ℕ)) → length list ≤ i → Goes exits list i c0 c1 t0 t1 → EmitsSequence globals body variables exits list c0 c1 t0 t1
  goes_to_end exits list i c0 c1 t0 t1 all given =
      given c1 t1 (subst (λ xs. EmitsSequence globals body variables exits xs c1 c1 t1 t1) (sym (drop_all i list all)) (none_more exits c1 t1))
