-- A block writes no register that is live where it begins: what it writes is free, or is declared in it, or is shared and no register.
use Rattle.std.proofs.Common.{◌≡◌, refl, sym, ◌∙◌, ap, subst, arith, ℕ, suc, ◌+◌, ◌<◌, ◌≤◌, List, [], ◌∷◌, ◌++◌, length, Option, Some, None, true, false, inr}
use Rattle.std.specs.Prelude.{◌==◌, ◌||◌, ◌&&◌, not, nat_lt, Bool, slice_get}
use Rattle.source_meaning.specs.declared.tree.Expr.{Expr}
use Rattle.source_meaning.specs.declared.tree.ExprKind.{ExprKind}
use Rattle.source_meaning.specs.declared.tree.StmtKind.{StmtKind, Row_of-Stmt, end_of-Stmt, more_of-Stmt, Held-StmtKind-If-2, None', Some'}
use Rattle.source_meaning.specs.declared.tree.StmtKind.TheVariants as stmt
use Rattle.source_meaning.specs.declared.tree.Spot.{Spot}
use Rattle.source_meaning.specs.declared.tree.Spot.TheVariants as spot
use Rattle.source_meaning.specs.Inside.{some_statement, some_in_body, some_in_other}
use Rattle.source_meaning.specs.Variables.{is_declared_in, is_written_in, is_sharing}
use Rattle.xmt_quads.specs.declared.code.Operand.{Operand}
use Rattle.xmt_quads.specs.declared.code.Quad.{Quad}
use Rattle.xmt_quads.specs.declared.code.Quad.TheVariants as quad
use Rattle.xmt_quads.specs.Live.{writes, IsLive}
use Rattle.xmt_quads.specs.Regions.{IsBlock, IsInside}
use Rattle.quad_code.specs.Lined.{Lined, lined, one, choice, loop_code, spawn_code}
use Rattle.quad_code.specs.Rows.{row_of}
use Rattle.quad_code.specs.Known.{Region, InBlock, declared, all_declared, OwnVariables, StatementKnown, SequenceKnown, ElseKnown}
use Rattle.quad_code.specs.Expressions.{code_at, operand_of}
use Rattle.quad_code.specs.Statements.{Counts, behind, behind_all, in_spawn, option_operand, expression_at, option_at, sum_at, statement_at, sequence_at, else_at}
use Rattle.quad_live_registers.proofs.Dead.{some_same, Stands, split, not_live, join}
use Rattle.quad_live_registers.proofs.Written.{FineQuad, Fine, what_is_written, code_fine, option_fine, values_fine, arguments_fine, sum_fine, slot_fine, sequence_fine}
use Rattle.quad_live_registers.proofs.DeadStatements.{sequence_dead}

pub not_true : false ≡ true → ⊥
not_true h = cc

-- in these quads
module _ (quads : List Quad) where
  -- the block of the spawn at this position keeps what is live where it begins
  abbrev pub Claim : (at : ℕ) → Type 0
  Claim spawn = (join at r : ℕ) (q : Quad) → IsBlock quads spawn join → IsInside quads spawn join at → slice_get quads at ≡ Some q → writes r q ≡ true → IsLive quads r (spawn + 1) → ⊥

  abbrev pub KeptQuad : (at : ℕ) → Quad → Type 0
  KeptQuad at (quad.Spawn low high) = Claim at
  KeptQuad at _ = Unit {0}

  -- and so does each block in this code
  abbrev pub Kept : (at : ℕ) → List Lined → Type 0
  Kept at [] = Unit {0}
  Kept at (l ∷ code) = KeptQuad at l.quad × Kept (at + 1) code

  pub kept_append : (at : ℕ) (a b : List Lined) → Kept at a → Kept (at + length a) b → Kept at (a ++ b)
  kept_append at [] b f g = let same : at + 0 ≡ at = omega arith in subst (λ p. Kept p b) same g
  kept_append at (l ∷ a) b f g = let same : at + suc (length a) ≡ at + 1 + length a = omega arith in (f.0, kept_append (at + 1) a b f.1 (subst (λ p. Kept p b) same g))

  quad_kept : (P : ℕ → Type 0) (at : ℕ) (q : Quad) → FineQuad P q → KeptQuad at q
  quad_kept P at (quad.Spawn low high) f = absurd f
  quad_kept P at _ f = tt

  pub fine_kept : (P : ℕ → Type 0) (at : ℕ) (code : List Lined) → Fine P code → Kept at code
  fine_kept P at [] f = tt
  fine_kept P at (l ∷ code) f = (quad_kept P at l.quad f.0, fine_kept P (at + 1) code f.1)

  pub kept_there : (at end p : ℕ) (code : List Lined) → Stands quads at code end → Kept at code → at ≤ p → p < end → (low high : Operand) → slice_get quads p ≡ Some (quad.Spawn low high) → Claim p
  kept_there at end p [] s f above below low high here = absurd (omega (arith, s))
  kept_there at end p (l ∷ code) s f above below low high here = by (λ next. kept_there (at + 1) end p code s.1 f.1 next below low high here) (at == p) refl
    where
      by : (at + 1 ≤ p → Claim p) → (b : Bool) → (at == p) ≡ b → Claim p
      by later true e =
          let same : at ≡ p = grind (arith, e) in
          let is : l.quad ≡ quad.Spawn low high = some_same _ _ (sym s.0 ∙ ap (slice_get quads) same ∙ here) in
          subst Claim same (subst (KeptQuad at) is f.0)
      by later false e = let next : at + 1 ≤ p = grind (arith, e, above) in later next

  fine_there : (P : ℕ → Type 0) (at end p : ℕ) (code : List Lined) (q : Quad) → Stands quads at code end → Fine P code → at ≤ p → p < end → slice_get quads p ≡ Some q → FineQuad P q
  fine_there P at end p [] q s f above below here = absurd (omega (arith, s))
  fine_there P at end p (l ∷ code) q s f above below here = by (λ next. fine_there P (at + 1) end p code q s.1 f.1 next below here) (at == p) refl
    where
      by : (at + 1 ≤ p → FineQuad P q) → (b : Bool) → (at == p) ≡ b → FineQuad P q
      by later true e =
          let same : at ≡ p = grind (arith, e) in
          let is : l.quad ≡ q = some_same _ _ (sym s.0 ∙ ap (slice_get quads) same ∙ here) in
          subst (FineQuad P) is f.0
      by later false e = let next : at + 1 ≤ p = grind (arith, e, above) in later next

  -- a block whose code writes registers alone that are dead where it begins
  claim : (P : ℕ → Type 0) (p m : ℕ) (b : List Lined) → Stands quads (p + 1) b m → Fine P b → slice_get quads m ≡ Some quad.Join → ((r : ℕ) → P r → IsLive quads r (p + 1) → ⊥) → p < m → Claim p
  claim P p m b s f joins dead under join at r q block inside here w live = by_place (nat_lt at m) refl
    where
      not_behind : m < join → ⊥
      not_behind h = block.between m under h (inr joins)

      by_place : (c : Bool) → nat_lt at m ≡ c → ⊥
      by_place true e =
          let less : at < m = grind (arith, e) in
          let above : p + 1 ≤ at = omega (arith, inside.0) in
          dead r (what_is_written P r q (fine_there P (p + 1) m at b q s f above less here) w) live
      by_place false e = by_join (nat_lt m join) refl
        where
          by_join : (c : Bool) → nat_lt m join ≡ c → ⊥
          by_join true e2 = let less : m < join = grind (arith, e2) in not_behind less
          by_join false e2 =
              let same : at ≡ m = grind (arith, e, e2, inside.1) in
              let is : q ≡ quad.Join = some_same _ _ (sym here ∙ ap (slice_get quads) same ∙ joins) in
              not_true (ap (writes r) (sym is) ∙ w)

  choice_kept : (line at end : ℕ) (skip : ℕ → Quad) (first second : ℕ → List Lined) → ((p to : ℕ) → KeptQuad p (skip to)) → Stands quads at (choice line at skip first second) end →
      ((p m : ℕ) → Stands quads p (first p) m → Kept p (first p)) → ((p : ℕ) → Stands quads p (second p) end → Kept p (second p)) → Kept at (choice line at skip first second)
  choice_kept line at end skip first second skips s one_side other =
      let t = split quads (at + 1) end _ _ s.1 in
      (skips at _, kept_append (at + 1) _ _ (one_side (at + 1) _ t.0) (tt, other _ t.1.1))

  loop_kept : (at line end : ℕ) (test : ℕ → List Lined) (o : Operand) (body : (at leave again : ℕ) → List Lined) (third : ℕ → List Lined) → Stands quads at (loop_code line at test o body third) end →
      ((p : ℕ) → Kept p (test p)) → ((p leave again m : ℕ) → Stands quads p (body p leave again) m → Kept p (body p leave again)) → ((p : ℕ) → Kept p (third p)) → Kept at (loop_code line at test o body third)
  loop_kept at line end test o body third s tests bodies thirds =
      let t = test at in
      let leave = at + length t + 1 in
      let start = leave + 1 + 1 in
      let b = body start leave (leave + 1) in
      let behind = start + length b in
      let last = third behind in
      let back = one line (quad.Jump at) in
      let front = split quads at end t (lined line (quad.IfNot o start) ∷ lined line (quad.Jump (behind + length last + 1)) ∷ lined line (quad.Jump behind) ∷ (b ++ (last ++ back))) s in
      let v = split quads start end b (last ++ back) front.1.1.1.1 in
      kept_append at t _ (tests at) (tt, (tt, (tt, kept_append start b (last ++ back) (bodies start leave (leave + 1) behind v.0) (kept_append behind last back (thirds behind) (tt, tt)))))

  -- Of a function with so many variables, and the number of each that is shared.
  module _ (base_of size_of : (global : ℕ) → ℕ) (outer : (slot : ℕ) → Option ℕ) (variables globals : ℕ) (MayCall : Region → (function values : ℕ) → Type 0) where
    -- known variables are variables
    abbrev pub Bounded : (k : ℕ → Bool) → Type 0
    Bounded k = (x : ℕ) → k x ≡ true → x < variables

    -- what passes the test is shared
    abbrev pub Out : (ℕ → Bool) → Type 0
    Out test = (x : ℕ) → test x ≡ true → outer x ≡ None → ⊥

    out_left : (f g : ℕ → Bool) → Out (λ x. f x || g x) → Out f
    out_left f g out x h = out x (let both : (f x || g x) ≡ true = rw h in both)

    out_right : (f g : ℕ → Bool) → Out (λ x. f x || g x) → Out g
    out_right f g out x h = out x (by (f x))
      where
        by : (b : Bool) → (b || g x) ≡ true
        by true = refl
        by false = h

    bounded_slot : (k : ℕ → Bool) (slot : ℕ) → Bounded k → Bounded (λ x. k x || ((x == slot) && nat_lt x variables))
    bounded_slot k slot b x h = by (k x) (x == slot) (nat_lt x variables) refl refl h
      where
        by : (c d e : Bool) → k x ≡ c → nat_lt x variables ≡ e → (c || (d && e)) ≡ true → x < variables
        by true d e e1 e2 h = b x e1
        by false true true e1 e2 h = let less : x < variables = grind (arith, e2) in less
        by false true false e1 e2 h = absurd (not_true h)
        by false false e e1 e2 h = absurd (not_true h)

    bounded_after : (k : ℕ → Bool) (s : StmtKind) → Bounded k → Bounded (declared variables k s)
    bounded_after k (stmt.Declare slot value) b = bounded_slot k slot b
    bounded_after k _ b = b

    bounded_all : (k : ℕ → Bool) {m : _} (row : Row_of-Stmt m) → Bounded k → Bounded (all_declared variables k row)
    bounded_all k end_of-Stmt b = b
    bounded_all k (more_of-Stmt place kind rest) b = bounded_all (declared variables k kind) rest (bounded_after k kind b)

    -- what a block writes and does not declare is shared, and what it declares is not known before
    unknown : (k : ℕ → Bool) {m : _} (body : Row_of-Stmt m) → OwnVariables outer k body → Out (λ x. is_written_in x body && not (is_declared_in x body)) → (slot : ℕ) → is_written_in slot body ≡ true → k slot ≡ true → outer slot ≡ None → ⊥
    unknown k body own out slot w known e = by (is_declared_in slot body) refl
      where
        by : (c : Bool) → is_declared_in slot body ≡ c → ⊥
        by true h = not_true (sym (own slot h).0 ∙ known)
        by false h = out slot (let both : (is_written_in slot body && not (is_declared_in slot body)) ≡ true = rw (w, h) in both) e

    code_kept : (at r line : ℕ) (e : ExprKind) → Kept at (code_at base_of size_of outer at r line e)
    code_kept at r line e = fine_kept (λ r. Unit {0}) at _ (code_fine (λ r. Unit {0}) base_of size_of outer 0 (λ r h. tt) at r line e (omega arith) (λ x h e. tt))

    option_kept : (at : ℕ) (e : Option Expr) → Kept at (option_at base_of size_of outer variables at e)
    option_kept at e = fine_kept (λ r. Unit {0}) at _ (option_fine (λ r. Unit {0}) base_of size_of outer variables (λ r h. tt) at e (λ x h e. tt))

    sum_kept : (at line : ℕ) (v p : Spot) → Kept at (sum_at base_of size_of outer variables at line v p)
    sum_kept at line v p = fine_kept (λ r. Unit {0}) at (sum_at base_of size_of outer variables at line v p) (sum_fine (λ r. Unit {0}) base_of size_of outer variables (λ r h. tt) globals MayCall at line v p (λ x h e. tt) (λ x h e. tt) (λ x h e. tt))

    spawn_kept : (line at end site leave again : ℕ) (met : Counts) (low high : Operand) {m : _} (body : Row_of-Stmt m) (k : ℕ → Bool) → OwnVariables outer k body → SequenceKnown globals MayCall variables outer k false InBlock body →
        Stands quads at (spawn_code line at site low high (λ at. sequence_at base_of size_of outer variables at leave again met body)) end → Bounded k → Out (λ x. is_written_in x body && not (is_declared_in x body)) →
        Kept at (spawn_code line at site low high (λ at. sequence_at base_of size_of outer variables at leave again met body))
    spawn_kept line at end site leave again met low high body k own is s b o =
        let block = sequence_at base_of size_of outer variables (at + 1) leave again met body in
        let m = at + 1 + length block in
        let w = split quads (at + 1) end block (one line quad.Join) s.1 in
        let f = sequence_fine (λ r. k r ≡ true → outer r ≡ None → ⊥) base_of size_of outer variables (λ r h known e. absurd (let less = b r known in omega arith)) globals MayCall (at + 1) leave again met body k false is
        (λ slot h e known e2. unknown k body own o slot h known e2) (λ slot h e known e2. not_true (sym (own slot h).0 ∙ known)) in (
          claim (λ r. k r ≡ true → outer r ≡ None → ⊥) at m block w.0 f w.1.0
              (λ r unused live. not_live quads r (at + 1) live
              (λ n. sequence_dead quads r base_of size_of outer variables globals MayCall n (at + 1) leave again m met body k false InBlock is w.0 unused (λ h. absurd (not_true h)) (λ h. absurd (not_true h)) (λ u2. join quads r n m w.1.0)))
              (omega arith),
          kept_append (at + 1) block (one line quad.Join) (fine_kept (λ r. k r ≡ true → outer r ≡ None → ⊥) (at + 1) block f) (tt, tt),
        )

    mutual
      pub statement_kept : (at leave again end : ℕ) (met : Counts) (line : ℕ) (s : StmtKind) (k : ℕ → Bool) (loop : Bool) (region : Region) → StatementKnown globals MayCall variables outer k loop region s →
          Stands quads at (statement_at base_of size_of outer variables at leave again met line s) end → Bounded k → Out (λ x. some_statement (is_sharing x) s) → Kept at (statement_at base_of size_of outer variables at leave again met line s)
      statement_kept at leave again end met line stmt.Empty k loop region is s b o = tt
      statement_kept at leave again end met line (stmt.Value e) k loop region is s b o = code_kept at variables e.at.line e.kind
      statement_kept at leave again end met line (stmt.Declare slot value) k loop region is s b o =
          kept_append at _ _ (option_kept at value) (fine_kept (λ r. Unit {0}) _ (one 0 _) (slot_fine (λ r. Unit {0}) base_of size_of outer variables (λ r h. tt) slot (outer slot) _ refl (λ x h e. tt), tt))
      statement_kept at leave again end met line (stmt.Block' shape body) k loop region is s b o = sequence_kept at leave again end met body k loop region is s b o
      statement_kept at leave again end met line (stmt.If' test shape body other) k loop region is s b o =
          let e = expression_at base_of size_of outer variables at test in
          let skip = λ (to : ℕ). quad.IfZero (operand_of variables test.kind) to in
          let first = λ (at : ℕ). sequence_at base_of size_of outer variables at leave again met body in
          let second = λ (at : ℕ). else_at base_of size_of outer variables at leave again (behind_all met body) other in
          let t = split quads at end e (choice line (at + length e) skip first second) s in
          kept_append at e (choice line (at + length e) skip first second) (code_kept at variables test.at.line test.kind)
          (choice_kept line (at + length e) end skip first second (λ p to. tt) t.1
          (λ p m there. sequence_kept p leave again m met body k loop region is.1 there b (out_left _ _ o)) (λ p there. else_kept p leave again end (behind_all met body) other k loop region is.2 there b (out_right _ _ o)))
      statement_kept at leave again end met line (stmt.While' test shape body) k loop region is s b o =
          loop_kept at line end (λ at. expression_at base_of size_of outer variables at test) (operand_of variables test.kind) (λ at leave again. sequence_at base_of size_of outer variables at leave again met body) (λ at. []) s
          (λ p. code_kept p variables test.at.line test.kind) (λ p leave again m there. sequence_kept p leave again m met body k true region is.1 there b o) (λ p. tt)
      statement_kept at leave again end met line (stmt.Do' shape body test) k loop region is s b o =
          let v = split quads _ end _ _ s.1.1.1 in
          (tt, (tt, (tt, kept_append _ _ _ (sequence_kept _ _ _ _ met body k true region is.1 v.0 b o) (kept_append _ _ _ (code_kept _ variables test.at.line test.kind) (tt, tt)))))
      statement_kept at leave again end met line (stmt.For' first_shape first test third shape body) k loop region is s b o =
          let t = split quads at end _ _ s in
          kept_append at _ _ (sequence_kept at leave again _ met first k loop region is.0 t.0 b (out_left _ _ o))
          (loop_kept _ line end (λ at. option_at base_of size_of outer variables at test) (option_operand variables 1 test) (λ at leave again. sequence_at base_of size_of outer variables at leave again (behind_all met first) body) (λ at. option_at base_of size_of outer variables at third) t.1
          (λ p. option_kept p test) (λ p leave again m there. sequence_kept p leave again m (behind_all met first) body (all_declared variables k first) true region is.3 there (bounded_all k first b) (out_right _ _ o)) (λ p. option_kept p third))
      statement_kept at leave again end met line stmt.Break k loop region is s b o = (tt, tt)
      statement_kept at leave again end met line stmt.Continue k loop region is s b o = (tt, tt)
      statement_kept at leave again end met line (stmt.Return value) k loop region is s b o = kept_append at _ _ (option_kept at value) (tt, tt)
      statement_kept at leave again end met line (stmt.Spawn' low high shape body) k loop region is s b o =
          let first = expression_at base_of size_of outer variables at low in
          let middle = at + length first in
          let second = code_at base_of size_of outer middle (variables + 1) high.at.line high.kind in
          let code = spawn_code line (middle + length second) met.spawned (operand_of variables low.kind) (operand_of (variables + 1) high.kind) (λ at. sequence_at base_of size_of outer variables at leave again (in_spawn met) body) in
          let t = split quads at end first (second ++ code) s in
          let v = split quads middle end second code t.1 in
          kept_append at first (second ++ code) (code_kept at variables low.at.line low.kind)
          (kept_append middle second code (code_kept middle (variables + 1) high.at.line high.kind)
          (spawn_kept line (middle + length second) end met.spawned leave again (in_spawn met) (operand_of variables low.kind) (operand_of (variables + 1) high.kind) body k is.2 is.3 v.1 b (out_left (λ x. is_written_in x body && not (is_declared_in x body)) (λ x. some_in_body (is_sharing x) body) o)))
      statement_kept at leave again end met line (stmt.Ps v r) k loop region is s b o = sum_kept at line v (spot.Register r)
      statement_kept at leave again end met line (stmt.Psm v p) k loop region is s b o = sum_kept at line v p
      statement_kept at leave again end met line (stmt.Print text values) k loop region is s b o =
          kept_append at _ _ (fine_kept (λ r. Unit {0}) at _ (values_fine (λ r. Unit {0}) base_of size_of outer 0 (λ r h. tt) at variables (row_of values) (omega arith) (λ x h e. tt)))
          (kept_append _ _ _ (fine_kept (λ r. Unit {0}) _ _ (arguments_fine (λ r. Unit {0}) base_of size_of outer 0 (λ r h. tt) line 0 variables (row_of values))) (tt, tt))

      pub sequence_kept : (at leave again end : ℕ) (met : Counts) {m : _} (row : Row_of-Stmt m) (k : ℕ → Bool) (loop : Bool) (region : Region) → SequenceKnown globals MayCall variables outer k loop region row →
          Stands quads at (sequence_at base_of size_of outer variables at leave again met row) end → Bounded k → Out (λ x. some_in_body (is_sharing x) row) → Kept at (sequence_at base_of size_of outer variables at leave again met row)
      sequence_kept at leave again end met end_of-Stmt k loop region is s b o = tt
      sequence_kept at leave again end met (more_of-Stmt place kind rest) k loop region is s b o =
          let t = split quads at end _ _ s in
          kept_append at _ _ (statement_kept at leave again _ met place.line kind k loop region is.0 t.0 b (out_left _ _ o))
          (sequence_kept _ leave again end (behind met kind) rest _ loop region is.1 t.1 (bounded_after k kind b) (out_right _ _ o))

      pub else_kept : (at leave again end : ℕ) (met : Counts) (other : Held-StmtKind-If-2) (k : ℕ → Bool) (loop : Bool) (region : Region) → ElseKnown globals MayCall variables outer k loop region other →
          Stands quads at (else_at base_of size_of outer variables at leave again met other) end → Bounded k → Out (λ x. some_in_other (is_sharing x) other) → Kept at (else_at base_of size_of outer variables at leave again met other)
      else_kept at leave again end met None' k loop region is s b o = tt
      else_kept at leave again end met (Some' shape body) k loop region is s b o = sequence_kept at leave again end met body k loop region is s b o
