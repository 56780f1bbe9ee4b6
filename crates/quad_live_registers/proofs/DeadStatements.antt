-- The code of a statement reads known variables that are not shared, what it wrote itself, and what is read where it leads.
use Rattle.std.proofs.Common.{◌≡◌, refl, sym, ◌∙◌, ap, subst, arith, ℕ, zero, suc, ◌+◌, ◌<◌, List, [], ◌∷◌, length, drop, Option, Some, None, true, false}
use Rattle.std.specs.Prelude.{◌==◌, ◌||◌, ◌&&◌, nat_lt, Bool, slice_get}
use Rattle.std.proofs.Common.{drop-cons}
use Rattle.std.proofs.lemmas.Option.{slice_get_within, get_or_from_slice_get}
use Rattle.source_meaning.specs.declared.tree.Expr.{Expr}
use Rattle.source_meaning.specs.declared.tree.StmtKind.{StmtKind, Row_of-Stmt, end_of-Stmt, more_of-Stmt, Held-StmtKind-If-2, None', Some'}
use Rattle.source_meaning.specs.declared.tree.StmtKind.TheVariants as stmt
use Rattle.source_meaning.specs.declared.tree.Spot.{Spot}
use Rattle.source_meaning.specs.declared.tree.Spot.TheVariants as spot
use Rattle.xmt_quads.specs.declared.code.Operand.{Operand}
use Rattle.xmt_quads.specs.declared.code.Operand.TheVariants.{Reg}
use Rattle.xmt_quads.specs.declared.code.Quad.{Quad}
use Rattle.xmt_quads.specs.declared.code.Quad.TheVariants as quad
use Rattle.xmt_quads.specs.Program.{quads_to_join, behind_join}
use Rattle.xmt_quads.specs.Live.{is_register, is_index}
use Rattle.quad_code.specs.Lined.{Lined, loop_code, do_code}
use Rattle.quad_code.specs.Rows.{row_of}
use Rattle.quad_code.specs.declared.Access.{Access}
use Rattle.quad_code.specs.declared.Access.TheVariants.{Own, Common}
use Rattle.quad_code.specs.Known.{Region, Serial, InBlock, OptionKnown, SummedKnown, SpotKnown, declared, all_declared, StatementKnown, SequenceKnown, ElseKnown}
use Rattle.quad_code.specs.Expressions.{access_of_slot, writing, adding, operand_of, access_of}
use Rattle.quad_code.specs.Statements.{Counts, behind, behind_all, in_spawn, option_operand, expression_at, option_at, sum_at, statement_at, sequence_at, else_at}
use Rattle.quad_live_registers.proofs.Dead.{neither, Stands, split, Dead, less, on, jump, jump_back, if_zero, if_not, if_not_back, return, join, spawn, moved}
use Rattle.quad_live_registers.proofs.DeadExpressions.{access_reads, index_unread, reading_dead, writing_dead, choice_dead, own_unread, arguments_dead, code_dead, spot_dead, values_dead}
use Rattle.quad_live_registers.proofs.Written.{FineQuad, Fine, sequence_fine}

-- ---- the join of a block

drop_there : (quads : List Quad) (p : ℕ) (q : Quad) → slice_get quads p ≡ Some q → drop p quads ≡ q ∷ drop (p + 1) quads
drop_there quads p q h =
    let lt : p < length quads = slice_get_within quads p q h in
    let next : suc p ≡ p + 1 = omega arith in
    drop-cons quads p q lt ∙ ap (λ z. z ∷ drop (suc p) quads) (get_or_from_slice_get quads p q q h) ∙ ap (λ i. q ∷ drop i quads) next

module _ (quads : List Quad) (P : ℕ → Type 0) where
  not_join : (q : Quad) (rest : List Quad) → FineQuad P q → quads_to_join (q ∷ rest) ≡ suc (quads_to_join rest)
  not_join quad.Join rest f = absurd f
  not_join _ rest f = refl

  to_join : (p m : ℕ) (b : List Lined) → Stands quads p b m → Fine P b → slice_get quads m ≡ Some quad.Join → quads_to_join (drop p quads) ≡ length b
  to_join p m [] s f here = ap quads_to_join (drop_there quads p quad.Join (subst (λ p. slice_get quads p ≡ Some quad.Join) (sym s) here))
  to_join p m (l ∷ b) s f here = ap quads_to_join (drop_there quads p l.quad s.0) ∙ not_join l.quad _ f.0 ∙ ap suc (to_join (p + 1) m b s.1 f.1 here)

  pub join_behind : (p m : ℕ) (low high : Operand) (b : List Lined) → slice_get quads p ≡ Some (quad.Spawn low high) → Stands quads (p + 1) b m → Fine P b → slice_get quads m ≡ Some quad.Join → behind_join quads p ≡ p + 1 + length b + 1
  join_behind p m low high b here s f joins =
      let e : quads_to_join (drop p quads) ≡ suc (length b) = ap quads_to_join (drop_there quads p _ here) ∙ ap suc (to_join (p + 1) m b s f joins) in
      omega (arith, e)

-- ---- loops

module _ (quads : List Quad) (x : ℕ) where
  loop_dead : (n at line end : ℕ) (test : ℕ → List Lined) (o : Operand) (body : (at leave again : ℕ) → List Lined) (third : ℕ → List Lined) → Stands quads at (loop_code line at test o body third) end →
      ((m p q : ℕ) → Stands quads p (test p) q → (is_register x o ≡ false → Dead quads x m q) → Dead quads x m p) →
      ((m p leave again q : ℕ) → Stands quads p (body p leave again) q → Dead quads x m leave → Dead quads x m again → Dead quads x m q → Dead quads x m p) →
      ((m p q : ℕ) → Stands quads p (third p) q → Dead quads x m q → Dead quads x m p) → Dead quads x n end → Dead quads x n at
  loop_dead zero at line end test o body third s tests bodies thirds d = tt
  loop_dead (suc m) at line end test o body third s tests bodies thirds d =
      let q = at + length (test at) in
      let leave = q + 1 in
      let start = leave + 1 + 1 in
      let last = start + length (body start leave (leave + 1)) in
      let before = loop_dead m at line end test o body third s tests bodies thirds (less quads x m end d) in
      let t = split quads at end _ _ s in
      let v = split quads start end _ _ t.1.1.1.1 in
      let w = split quads last end _ _ v.1 in
      let back = jump_back quads x m _ at w.1.0 before in
      let at_last = thirds (suc m) last _ w.0 back in
      let at_leave = jump quads x (suc m) leave _ t.1.1.0 (moved quads x (suc m) _ end w.1.1 d) in
      let at_again = jump quads x (suc m) (leave + 1) last t.1.1.1.0 at_last in
      tests (suc m) at q t.0 (λ u. if_not quads x (suc m) q start o t.1.0 u (bodies (suc m) start leave (leave + 1) last v.0 at_leave at_again at_last) at_leave)

  do_start : (n at line end : ℕ) (test : ℕ → List Lined) (o : Operand) (body : (at leave again : ℕ) → List Lined) → Stands quads at (do_code line at test o body) end →
      ((m p q : ℕ) → Stands quads p (test p) q → (is_register x o ≡ false → Dead quads x m q) → Dead quads x m p) →
      ((m p leave again q : ℕ) → Stands quads p (body p leave again) q → Dead quads x m leave → Dead quads x m again → Dead quads x m q → Dead quads x m p) → Dead quads x n end → Dead quads x n (at + 1 + 1 + 1)
  do_start zero at line end test o body s tests bodies d = tt
  do_start (suc m) at line end test o body s tests bodies d =
      let start = at + 1 + 1 + 1 in
      let last = start + length (body start (at + 1) (at + 1 + 1)) in
      let before = do_start m at line end test o body s tests bodies (less quads x m end d) in
      let v = split quads start end _ _ s.1.1.1 in
      let w = split quads last end _ _ v.1 in
      let at_last = tests (suc m) last _ w.0 (λ u. if_not_back quads x m _ start o w.1.0 u before (moved quads x m _ end w.1.1 (less quads x m end d))) in
      bodies (suc m) start (at + 1) (at + 1 + 1) last v.0 (jump quads x (suc m) (at + 1) _ s.1.0 (moved quads x (suc m) _ end w.1.1 d)) (jump quads x (suc m) (at + 1 + 1) last s.1.1.0 at_last) at_last

  -- ---- statements

  adding_dead : (n at end line old : ℕ) (a : Access) (o : Operand) → Stands quads at (adding line old a o) end → access_reads x a ≡ false → is_register x o ≡ false → ((x == old) ≡ false → Dead quads x n end) → Dead quads x n at
  adding_dead n at end line old (Own slot) o s u r d =
      on quads x n at _ s.0 refl u (λ w. on quads x n (at + 1) _ s.1.0 refl (neither (x == slot) (is_register x o) u r) (λ w2. moved quads x n _ end s.1.1 (d w)))
  adding_dead n at end line old (Common place) o s u r d =
      on quads x n at _ s.0 refl (neither (is_index x place) (is_register x o) u r) (λ w. moved quads x n _ end s.1 (d w))

  -- Of a function with so many variables, and the number of each that is shared.
  module _ (base_of size_of : (global : ℕ) → ℕ) (outer : (slot : ℕ) → Option ℕ) (variables globals : ℕ) (MayCall : Region → (function values : ℕ) → Type 0) where
    -- the register is no known variable, or a shared one
    abbrev pub Unused : (k : ℕ → Bool) → Type 0
    Unused k = k x ≡ true → outer x ≡ None → ⊥

    option_dead : (n at end other : ℕ) (value : Option Expr) (k : ℕ → Bool) (region : Region) → OptionKnown globals (MayCall region) k value → Unused k → Stands quads at (option_at base_of size_of outer variables at value) end →
        (is_register x (option_operand variables other value) ≡ false → Dead quads x n end) → Dead quads x n at
    option_dead n at end other None k region is u s d = moved quads x n at end s (d refl)
    option_dead n at end other (Some e) k region is u s d = code_dead quads x n base_of size_of outer globals (MayCall region) k u at variables e.at.line end e.kind is s d

    summed_unread : (n r : ℕ) (v : Spot) (k : ℕ → Bool) → SummedKnown globals k v → Unused k → access_reads x (access_of base_of size_of outer r v) ≡ false
    summed_unread n r (spot.Global g) k is u = refl
    summed_unread n r (spot.Local slot) k is u = own_unread quads x n base_of size_of outer globals (MayCall Serial) k u slot (outer slot) is refl
    summed_unread n r (spot.Element' g shape index) k is u = absurd is
    summed_unread n r (spot.Register g) k is u = absurd is

    sum_dead : (n at line end : ℕ) (v p : Spot) (k : ℕ → Bool) (region : Region) → SummedKnown globals k v → SpotKnown globals (MayCall region) k p → Unused k → Stands quads at (sum_at base_of size_of outer variables at line v p) end → Dead quads x n end → Dead quads x n at
    sum_dead n at line end v p k region is there u s d =
        let seen = summed_unread n variables v k is u in
        let t = split quads (at + 1) end _ _ s.1 in
        let a = split quads _ end _ _ t.1 in
        reading_dead quads x n at variables _ s.0 seen (λ w.
        spot_dead quads x n base_of size_of outer globals (MayCall region) k u (at + 1) (variables + 1) line _ p there t.0 (λ up.
        adding_dead n _ _ line _ (access_of base_of size_of outer (variables + 1) p) (Reg variables) a.0 up w (λ w2.
        writing_dead quads x n _ (access_of base_of size_of outer variables v) _ a.1.0 (index_unread x _ seen) w2 (λ w3. moved quads x n _ end a.1.1 d))))

    -- behind a declaration
    unused_after : (k : ℕ → Bool) (slot : ℕ) → Unused k → ((x == slot) ≡ true → outer x ≡ None → ⊥) → (k x || ((x == slot) && nat_lt x variables)) ≡ true → outer x ≡ None → ⊥
    unused_after k slot u not_this h e = by (k x) (x == slot) refl refl h
      where
        by : (b c : Bool) → k x ≡ b → (x == slot) ≡ c → (b || (c && nat_lt x variables)) ≡ true → ⊥
        by true c e1 e2 h = u e1 e
        by false true e1 e2 h = not_this e2 e
        by false false e1 e2 h = cc

    declare_dead : (n at slot : ℕ) (value : Operand) (o : Option ℕ) (k : ℕ → Bool) → outer slot ≡ o → slice_get quads at ≡ Some (writing (access_of_slot slot o) value) → is_register x value ≡ false → Unused k →
        (((k x || ((x == slot) && nat_lt x variables)) ≡ true → outer x ≡ None → ⊥) → Dead quads x n (at + 1)) → Dead quads x n at
    declare_dead n at slot value None k is here r u d = on quads x n at _ here refl r (λ w. d (unused_after k slot u (λ same e. let no : true ≡ false = sym same ∙ w in cc)))
    declare_dead n at slot value (Some number) k is here r u d =
        on quads x n at _ here refl r (λ w. d (unused_after k slot u (λ same e. let equal : x ≡ slot = grind (arith, same) in let no : None ≡ Some number = sym e ∙ ap outer equal ∙ is in cc)))

    mutual
      pub statement_dead : (n at leave again end : ℕ) (met : Counts) (line : ℕ) (s : StmtKind) (k : ℕ → Bool) (loop : Bool) (region : Region) → StatementKnown globals MayCall variables outer k loop region s →
          Stands quads at (statement_at base_of size_of outer variables at leave again met line s) end → Unused k → (loop ≡ true → Dead quads x n leave) → (loop ≡ true → Dead quads x n again) → (Unused (declared variables k s) → Dead quads x n end) → Dead quads x n at
      statement_dead n at leave again end met line stmt.Empty k loop region is s u l a d = moved quads x n at end s (d u)
      statement_dead n at leave again end met line (stmt.Value e) k loop region is s u l a d = code_dead quads x n base_of size_of outer globals (MayCall region) k u at variables e.at.line end e.kind is s (λ r. d u)
      statement_dead n at leave again end met line (stmt.Declare slot value) k loop region is s u l a d =
          let t = split quads at end _ _ s in
          option_dead n at _ 0 value k region is.1 u t.0 (λ r. declare_dead n _ slot _ (outer slot) k refl t.1.0 r u (λ u2. moved quads x n _ end t.1.1 (d u2)))
      statement_dead n at leave again end met line (stmt.Block' shape body) k loop region is s u l a d = sequence_dead n at leave again end met body k loop region is s u l a (λ u2. d u)
      statement_dead n at leave again end met line (stmt.If' test shape body other) k loop region is s u l a d =
          let t = split quads at end _ _ s in
          code_dead quads x n base_of size_of outer globals (MayCall region) k u at variables test.at.line _ test.kind is.0 t.0 (λ r.
          choice_dead quads x n line _ end (quad.IfZero (operand_of variables test.kind)) (λ at. sequence_at base_of size_of outer variables at leave again met body)
          (λ at. else_at base_of size_of outer variables at leave again (behind_all met body) other) (λ p to here. if_zero quads x n p to (operand_of variables test.kind) here r) (Unit {0}) t.1
          (λ p m there go. sequence_dead n p leave again m met body k loop region is.1 there u l a (λ u2. go tt)) (λ p there. else_dead n p leave again end (behind_all met body) other k loop region is.2 there u l a (d u)) (λ c. d u))
      statement_dead n at leave again end met line (stmt.While' test shape body) k loop region is s u l a d =
          loop_dead n at line end (λ at. expression_at base_of size_of outer variables at test) (operand_of variables test.kind) (λ at leave again. sequence_at base_of size_of outer variables at leave again met body) (λ at. []) s
          (λ m p q there go. code_dead quads x m base_of size_of outer globals (MayCall region) k u p variables test.at.line q test.kind is.0 there go)
          (λ m p leave again q there l a go. sequence_dead m p leave again q met body k true region is.1 there u (λ h. l) (λ h. a) (λ u2. go)) (λ m p q there go. moved quads x m p q there go) (d u)
      statement_dead n at leave again end met line (stmt.Do' shape body test) k loop region is s u l a d =
          jump quads x n at _ s.0
          (do_start n at line end (λ at. expression_at base_of size_of outer variables at test) (operand_of variables test.kind) (λ at leave again. sequence_at base_of size_of outer variables at leave again met body) s
          (λ m p q there go. code_dead quads x m base_of size_of outer globals (MayCall region) k u p variables test.at.line q test.kind is.0 there go)
          (λ m p leave again q there l a go. sequence_dead m p leave again q met body k true region is.1 there u (λ h. l) (λ h. a) (λ u2. go)) (d u))
      statement_dead n at leave again end met line (stmt.For' first_shape first test third shape body) k loop region is s u l a d =
          let t = split quads at end _ _ s in
          sequence_dead n at leave again _ met first k loop region is.0 t.0 u l a (λ u2.
          loop_dead n _ line end (λ at. option_at base_of size_of outer variables at test) (option_operand variables 1 test) (λ at leave again. sequence_at base_of size_of outer variables at leave again (behind_all met first) body) (λ at. option_at base_of size_of outer variables at third) t.1
          (λ m p q there go. option_dead m p q 1 test (all_declared variables k first) region is.1 u2 there go)
          (λ m p leave again q there l a go. sequence_dead m p leave again q (behind_all met first) body (all_declared variables k first) true region is.3 there u2 (λ h. l) (λ h. a) (λ u3. go))
          (λ m p q there go. option_dead m p q 0 third (all_declared variables k first) region is.2 u2 there (λ r. go)) (d u))
      statement_dead n at leave again end met line stmt.Break k loop region is s u l a d = jump quads x n at leave s.0 (l is)
      statement_dead n at leave again end met line stmt.Continue k loop region is s u l a d = jump quads x n at again s.0 (a is)
      statement_dead n at leave again end met line (stmt.Return value) k loop region is s u l a d =
          let t = split quads at end _ _ s in
          option_dead n at _ 0 value k region is.0 u t.0 (λ r. return quads x n _ (option_operand variables 0 value) t.1.0 r)
      statement_dead n at leave again end met line (stmt.Spawn' low high shape body) k loop region is s u l a d =
          let t = split quads at end _ _ s in
          let v = split quads _ end _ _ t.1 in
          let w = split quads _ end _ _ v.1.1 in
          code_dead quads x n base_of size_of outer globals (MayCall region) k u at variables low.at.line _ low.kind is.0 t.0 (λ ul.
          code_dead quads x n base_of size_of outer globals (MayCall region) k u _ (variables + 1) high.at.line _ high.kind is.1 v.0 (λ uh.
          spawn quads x n _ (operand_of variables low.kind) (operand_of (variables + 1) high.kind) v.1.0 ul uh
          (sequence_dead n _ leave again _ (in_spawn met) body k false InBlock is.3 w.0 u (λ h. absurd (not_true h)) (λ h. absurd (not_true h)) (λ u2. join quads x n _ w.1.0))
          (moved quads x n _ end
          (join_behind quads (λ r. Unit {0}) _ _ _ _ _ v.1.0 w.0 (sequence_fine (λ r. Unit {0}) base_of size_of outer variables (λ r h. tt) globals MayCall _ leave again (in_spawn met) body k false is.3 (λ y h e. tt) (λ y h e. tt)) w.1.0 ∙ w.1.1) (d u))))
        where
          not_true : false ≡ true → ⊥
          not_true h = cc
      statement_dead n at leave again end met line (stmt.Ps v r) k loop region is s u l a d = sum_dead n at line end v (spot.Register r) k region is.0 is.1 u s (d u)
      statement_dead n at leave again end met line (stmt.Psm v p) k loop region is s u l a d = sum_dead n at line end v p k region is.0 is.1 u s (d u)
      statement_dead n at leave again end met line (stmt.Print text values) k loop region is s u l a d =
          let t = split quads at end _ _ s in
          let v = split quads _ end _ _ t.1 in
          values_dead quads x n base_of size_of outer globals (MayCall region) k u at variables _ (row_of values) is.0 t.0 (λ us.
          arguments_dead quads x n base_of size_of outer globals (MayCall region) k u _ variables 0 line _ (row_of values) us v.0
          (on quads x n _ (quad.Print met.printed) v.1.0 refl refl (λ w. moved quads x n _ end v.1.1 (d u))))

      pub sequence_dead : (n at leave again end : ℕ) (met : Counts) {m : _} (row : Row_of-Stmt m) (k : ℕ → Bool) (loop : Bool) (region : Region) → SequenceKnown globals MayCall variables outer k loop region row →
          Stands quads at (sequence_at base_of size_of outer variables at leave again met row) end → Unused k → (loop ≡ true → Dead quads x n leave) → (loop ≡ true → Dead quads x n again) → (Unused (all_declared variables k row) → Dead quads x n end) → Dead quads x n at
      sequence_dead n at leave again end met end_of-Stmt k loop region is s u l a d = moved quads x n at end s (d u)
      sequence_dead n at leave again end met (more_of-Stmt place kind rest) k loop region is s u l a d =
          let t = split quads at end _ _ s in
          statement_dead n at leave again _ met place.line kind k loop region is.0 t.0 u l a (λ u2. sequence_dead n _ leave again end (behind met kind) rest _ loop region is.1 t.1 u2 l a d)

      pub else_dead : (n at leave again end : ℕ) (met : Counts) (other : Held-StmtKind-If-2) (k : ℕ → Bool) (loop : Bool) (region : Region) → ElseKnown globals MayCall variables outer k loop region other →
          Stands quads at (else_at base_of size_of outer variables at leave again met other) end → Unused k → (loop ≡ true → Dead quads x n leave) → (loop ≡ true → Dead quads x n again) → Dead quads x n end → Dead quads x n at
      else_dead n at leave again end met None' k loop region is s u l a d = moved quads x n at end s d
      else_dead n at leave again end met (Some' shape body) k loop region is s u l a d = sequence_dead n at leave again end met body k loop region is s u l a (λ u2. d)
