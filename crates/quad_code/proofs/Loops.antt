-- The quads of loops keep to the source.
use Rattle.quad_code.specs.Known.{OptionKnown, SequenceKnown, all_declared}
use Rattle.std.proofs.Common.{◌≡◌, refl, sym, ◌∙◌, arith, ℕ, suc, zero, ◌+◌, ◌≤◌, true, if◌then◌else◌, List, [], ◌∷◌, ◌++◌, length, length-append, Option, Some, None}
use Rattle.std.specs.Prelude.{◌==◌, Bool}
use Rattle.source_meaning.specs.declared.tree.Expr.{Expr}
use Rattle.source_meaning.specs.declared.tree.StmtKind.{Row_of-Stmt}
use Rattle.source_meaning.specs.declared.tree.StmtKind.TheVariants as stmt
use Rattle.source_meaning.specs.Term.{Term, Value, Code, Done, Then, Expression, If, While, Do, For, Turn}
use Rattle.source_meaning.specs.Next.{Next, next_within, next_after, next_after_turn, quiet_step}
use Rattle.source_meaning.specs.Code.{expression, expression_or, third_part, sequence, all_spawns}
use Rattle.xmt_quads.specs.declared.code.Operand.{Operand}
use Rattle.xmt_quads.specs.declared.code.Quad.TheVariants as quad
use Rattle.xmt_quads.specs.Meaning.{operand_value}
use Rattle.quad_code.specs.Lined.{Lined, lined, do_code, loop_code, one}
use Rattle.quad_code.specs.Expressions.{operand_of}
use Rattle.quad_code.specs.Statements.{Counts, behind_all, option_operand, expression_at}
use Rattle.quad_code.proofs.Setting.{Setting, Point, thread_at, Stands, has_front, has_back, Fits, Reaches, reaches_on, reaches_here}
use Rattle.quad_code.proofs.Steps.{Context, within_within, Meets, meets_at, keeps_fewer}
use Rattle.quad_code.proofs.Operators.{jumps, jumps_beside, if_not_none, if_not_less}
use Rattle.quad_code.proofs.Kept.{Kept, richer}
use Rattle.quad_code.proofs.KeptCode.{all_low, after_all, all_more, reaches_less, CodeContext, code_in, term_in, Leads, leads_later, statement_code, sequence_code, nexts, KeptCode, KeptSequence, same, quietly}
use Rattle.quad_code.proofs.Plain.{KeptOption, option_code, option_kept}

module _ (s : Setting) {U S : Type 0} (whole : U → Next U S) where
  leads_less : (c : CodeContext s whole) (n m credit low end leave again : ℕ) (loop : Bool) (p : Point) → m ≤ n → n ≤ s.most → Leads s whole s c n credit low end leave again loop p → Leads s whole s c m credit low end leave again loop p
  leads_less c n m credit low end leave again loop p le few leads =
      record {
        ends = λ q x e reach. fewer credit end q x (leads.ends q x e reach);
        breaks = λ is q x e reach. fewer low leave q x (leads.breaks is q x e reach);
        continues = λ is q x e reach. fewer low again q x (leads.continues is q x e reach);
        returns = λ q x at o here e reach. fewer credit at q x (leads.returns q x at o here e reach);
      }
    where
      fewer : (credit at : ℕ) (q : Point) (x : U) → Meets s whole x n credit at q → Meets s whole x m credit at q
      fewer credit at q x k = λ short. keeps_fewer s whole n m credit credit (thread_at s at q) x q.store le (omega arith) (k few)

  -- A loop at its test. What stands behind the body is shown to come back there.
  module _ (c : CodeContext s whole) (line at : ℕ) (t : Term) (tc : ℕ → List Lined) (o : Operand) (body : Row_of-Stmt 1) (met : Counts) (again : Code) (th : ℕ → List Lined) (credit low end leave0 again0 : ℕ) (loop : Bool) (rich : 40 ≤ credit)
      (tested : (c : Context s whole) (n : ℕ) (p : Point) → Fits s p → ((q : Point) → Reaches s s.variables p q → Meets s whole (c.around (Value (operand_value q.registers o))) n credit (at + length (tc at)) q) → Meets s whole (c.around t) n credit at p)
      (kept : KeptSequence s whole body)
      (stands : Stands s at (loop_code line at tc o (λ at leave again. sequence_code s whole at leave again met body) th))
      (below : SequenceKnown (length s.globals) s.MayCall s.variables s.outer s.known true s.region body)
      (ending : end ≡ at + length (loop_code line at tc o (λ at leave again. sequence_code s whole at leave again met body) th))
      (back : (n at1 : ℕ) (p : Point) (x : U) → Stands s at1 (th at1 ++ one line (quad.Jump at)) → Fits s p → whole x ≡ next_within c.around (nexts s whole again) c.go → ((q : Point) (y : U) → whole y ≡ whole (c.around (If t (Turn (sequence s.globals s.own s.frame met.spawned body) again) Done)) → Reaches s s.variables p q → Meets s whole y n credit at q) → Meets s whole x n credit at1 p) where
    pub head_kept : (n : ℕ) (p : Point) (x : U) → Fits s p → whole x ≡ whole (c.around (If t (Turn (sequence s.globals s.own s.frame met.spawned body) again) Done)) → Leads s whole s c n credit low end leave0 again0 loop p → Meets s whole x n credit at p
    head_kept zero p x fits e leads =
        let ca = sequence s.globals s.own s.frame met.spawned body in
        let turn = Turn ca again in
        let test_end = at + length (tc at) in
        let start = test_end + 1 + 1 + 1 in
        let b = sequence_code s whole start (test_end + 1) (test_end + 1 + 1) met body in
        let behind = start + length b in
        let rest : List Lined = lined line (quad.IfNot o start) ∷ lined line (quad.Jump (behind + length (th behind) + 1)) ∷ lined line (quad.Jump behind) ∷ (b ++ (th behind ++ one line (quad.Jump at))) in
        let here = has_back s.program s.function at (tc at) rest stands in
        same s whole 0 credit at x (c.around (If t turn Done)) p e
        (tested (term_in s whole c (λ t. If t turn Done) (λ v. quiet_step (if v == 0 then Done else turn)) (λ t. refl)) 0 p fits
        (λ q reach. if_not_none s whole credit test_end start o q (c.around (If (Value (operand_value q.registers o)) turn Done)) here.0))
    head_kept (suc m) p x fits e leads =
        λ few.
        let v = s.variables in
        let ca = sequence s.globals s.own s.frame met.spawned body in
        let turn = Turn ca again in
        let test_end = at + length (tc at) in
        let leave = test_end + 1 in
        let start = leave + 1 + 1 in
        let b = sequence_code s whole start leave (leave + 1) met body in
        let behind = start + length b in
        let last = th behind ++ one line (quad.Jump at) in
        let rest : List Lined = lined line (quad.IfNot o start) ∷ lined line (quad.Jump (behind + length (th behind) + 1)) ∷ lined line (quad.Jump behind) ∷ (b ++ last) in
        let here = has_back s.program s.function at (tc at) rest stands in
        let out : end ≡ behind + length (th behind) + 1 = omega (arith, ending, length-append (tc at) rest, length-append b last, length-append (th behind) (one line (quad.Jump at))) in
        let fewer = leads_less c (suc m) m credit low end leave0 again0 loop p (omega arith) few leads in
        let cb = code_in s whole c (λ code. Turn code again) (λ exit. next_after_turn exit again (nexts s whole again)) (λ code. refl) in
        let goes_back : (q : Point) (y : U) → whole y ≡ next_within c.around (nexts s whole again) c.go → Reaches s v p q → Meets s whole y m credit behind q =
        λ q y ey reach.
        back m behind q y (has_back s.program s.function start b last here.2.2.2) reach.fits ey
        (λ q2 z ez reach2.
        head_kept m q2 z reach2.fits ez
        (leads_later s whole s.known s.known_low (λ x h. h) s s c c m credit credit low end end leave0 again0 loop p q2 (omega arith) (reaches_on s v v p q q2 (omega arith) reach reach2) refl refl (λ v. refl) fewer
        (λ q3 w ew reach3. fewer.ends q3 w ew (reaches_on s v v p q q3 (omega arith) reach (reaches_on s v v q q2 q3 (omega arith) reach2 reach3))))) in
        let leaves : (q : Point) → Reaches s v p q → Meets s whole (c.around Done) m credit (behind + length (th behind) + 1) q =
        λ q reach. meets_at s whole (c.around Done) m credit end (behind + length (th behind) + 1) q out (fewer.ends q (c.around Done) (c.part Done) reach) in
        same s whole (suc m) credit at x (c.around (If t turn Done)) p e
        (tested (term_in s whole c (λ t. If t turn Done) (λ v. quiet_step (if v == 0 then Done else turn)) (λ t. refl)) (suc m) p fits
        (λ q reach.
        let value = operand_value q.registers o in
        if_not_less s whole m credit test_end start o q (c.around (If (Value value) turn Done)) (λ zero. c.around (if zero then Done else turn)) here.0 (c.part (If (Value value) turn Done))
        (λ z. jumps s whole m (credit + 60) credit leave (behind + length (th behind) + 1) q (c.around Done) here.2.0 (omega arith) (leaves q reach))
        (λ z.
        kept cb m (credit + 60) credit start leave (leave + 1) met true q (c.around turn) (omega (arith, rich)) (omega arith)
        (has_front s.program s.function start b last here.2.2.2) below reach.fits (cb.part ca)
        (record {
          ends = λ q2 y ey reach2. richer s whole y m credit (credit + 60) behind q2 (omega arith) (goes_back q2 y ey (reaches_on s v v p q q2 (omega arith) reach (reaches_less s (all_declared v s.known body) (all_low s body) (all_more v s.known body) v q q2 reach2)));
          breaks = λ is q2 y ey reach2.
              let far = reaches_on s v v p q q2 (omega arith) reach reach2 in
              jumps_beside s whole m credit leave (behind + length (th behind) + 1) q2 y (c.around Done) here.2.0 ey
              (richer s whole (c.around Done) m credit (credit + 60) (behind + length (th behind) + 1) q2 (omega arith) (leaves q2 far));
          continues = λ is q2 y ey reach2.
              let far = reaches_on s v v p q q2 (omega arith) reach reach2 in
              jumps_beside s whole m credit (leave + 1) behind q2 y (c.around again) here.2.2.0 ey
              (richer s whole (c.around again) m credit (credit + 60) behind q2 (omega arith) (goes_back q2 (c.around again) (c.part again) far));
          returns = λ q2 y at2 o2 here2 ey reach2.
              richer s whole y m credit (credit + 60) at2 q2 (omega arith) (fewer.returns q2 y at2 o2 here2 ey (reaches_on s v v p q q2 (omega arith) reach reach2));
        }))))
        few

  -- ---- `while` and `for`

  -- what stands where a loop begins again
  abbrev pub head_of : Term → Code → Code → Code
  head_of t body again = If t (Turn body again) Done

  pub while_kept : (line : ℕ) (test : Expr) (shape : _) (body : Row_of-Stmt 1) → Kept s whole test.at.line test.kind → KeptSequence s whole body → KeptCode s whole line (stmt.While' test shape body)
  while_kept line test shape body tested kept c n credit low at leave again met loop p x rich spare stands below fits e leads =
      let v = s.variables in
      let t = expression s.globals s.own s.frame test in
      let ca = sequence s.globals s.own s.frame met.spawned body in
      let head = c.around (If t (Turn ca (While t ca)) Done) in
      let tc : ℕ → List Lined = λ at. expression_at s.base_of s.size_of s.outer v at test in
      let o = operand_of v test.kind in
      let none : ℕ → List Lined = λ at. [] in
      quietly s whole n credit at x head p e
      (head_kept c line at t tc o body met (While t ca) none credit low (at + length (statement_code s whole at leave again met line (stmt.While' test shape body))) leave again loop rich
      (λ c n p fits go. tested v c n credit at p (omega arith) rich (has_front s.program s.function at (tc at) _ stands) below.0 fits go)
      kept stands below.1 refl
      (λ n at1 p x stands fits e go.
      jumps_beside s whole n credit at1 at p x head stands.0 e
      (richer s whole head n credit (credit + 60) at p (omega arith) (go p head refl (reaches_here s v p fits))))
      n p head fits refl leads)

  for_back : (c : CodeContext s whole) (line at credit : ℕ) (t : Term) (ca : Code) (third : Option Expr) → 40 ≤ credit → OptionKnown (length s.globals) (s.MayCall s.region) s.known third → KeptOption s whole third → (n at1 : ℕ) (p : Point) (x : U) → Stands s at1 (option_code s whole at1 third ++ one line (quad.Jump at)) → Fits s p → whole x ≡ next_within c.around (nexts s whole (Then (third_part s.globals s.own s.frame third) (For t (third_part s.globals s.own s.frame third) ca))) c.go → ((q : Point) (y : U) → whole y ≡ whole (c.around (If t (Turn ca (Then (third_part s.globals s.own s.frame third) (For t (third_part s.globals s.own s.frame third) ca))) Done)) → Reaches s s.variables p q → Meets s whole y n credit at q) → Meets s whole x n credit at1 p
  for_back c line at credit t ca None rich below kept n at1 p x stands fits e go =
      let head = c.around (If t (Turn ca (Then Done (For t Done ca))) Done) in
      jumps_beside s whole n credit at1 at p x head stands.0 e
      (richer s whole head n credit (credit + 60) at p (omega arith) (go p head refl (reaches_here s s.variables p fits)))
  for_back c line at credit t ca (Some f) rich below kept n at1 p x stands fits e go =
      let v = s.variables in
      let tf = expression s.globals s.own s.frame f in
      let loop = For t (Expression tf) ca in
      let head = c.around (If t (Turn ca (Then (Expression tf) loop)) Done) in
      let code = expression_at s.base_of s.size_of s.outer v at1 f in
      let last = one line (quad.Jump at) in
      let here = has_back s.program s.function at1 code last stands in
      let c2 = code_in s whole c (λ a. Then a loop) (λ exit. next_after exit (nexts s whole loop)) (λ code. refl) in
      same s whole n credit at1 x (c.around (Then (Expression tf) loop)) p (e ∙ sym (c.part (Then (Expression tf) loop)))
      (kept v (term_in s whole c2 Expression (λ v. quiet_step Done) (λ t. refl)) n credit at1 p (omega arith) rich (has_front s.program s.function at1 code last stands) below fits
      (λ q reach.
      let value = operand_value q.registers (operand_of v f.kind) in
      quietly s whole n credit (at1 + length code) (c.around (Then (Expression (Value value)) loop)) (c.around (Then Done loop)) q (c.part (Then (Expression (Value value)) loop))
      (jumps_beside s whole n credit (at1 + length code) at q (c.around (Then Done loop)) head here.0 (c.part (Then Done loop))
      (richer s whole head n credit (credit + 60) at q (omega arith) (go q head refl reach)))))

  -- ---- `do`

  module _ (c : CodeContext s whole) (line at : ℕ) (t : Term) (tc : ℕ → List Lined) (o : Operand) (body : Row_of-Stmt 1) (met : Counts) (credit low end leave0 again0 : ℕ) (loop : Bool) (rich : 40 ≤ credit)
      (tested : (c : Context s whole) (n at : ℕ) (p : Point) → Stands s at (tc at) → Fits s p → ((q : Point) → Reaches s s.variables p q → Meets s whole (c.around (Value (operand_value q.registers o))) n credit (at + length (tc at)) q) → Meets s whole (c.around t) n credit at p)
      (kept : KeptSequence s whole body)
      (stands : Stands s at (do_code line at tc o (λ at leave again. sequence_code s whole at leave again met body)))
      (below : SequenceKnown (length s.globals) s.MayCall s.variables s.outer s.known true s.region body)
      (ending : end ≡ at + length (do_code line at tc o (λ at leave again. sequence_code s whole at leave again met body))) where
    -- from the beginning of the body, if the test leads on
    do_turn : (n : ℕ) (p : Point) (x : U) → Fits s p → whole x ≡ whole (c.around (Turn (sequence s.globals s.own s.frame met.spawned body) (If t (Do (sequence s.globals s.own s.frame met.spawned body) t) Done))) → Leads s whole s c n credit low end leave0 again0 loop p →
        ((q : Point) → Reaches s s.variables p q → Meets s whole (c.around (If (Value (operand_value q.registers o)) (Do (sequence s.globals s.own s.frame met.spawned body) t) Done)) n credit (at + 1 + 1 + 1 + length (sequence_code s whole (at + 1 + 1 + 1) (at + 1) (at + 1 + 1) met body) + length (tc (at + 1 + 1 + 1 + length (sequence_code s whole (at + 1 + 1 + 1) (at + 1) (at + 1 + 1) met body)))) q) →
        Meets s whole x n (credit + 60) (at + 1 + 1 + 1) p
    do_turn n p x fits e leads goes_on =
        let v = s.variables in
        let ca = sequence s.globals s.own s.frame met.spawned body in
        let again = If t (Do ca t) Done in
        let start = at + 1 + 1 + 1 in
        let b = sequence_code s whole start (at + 1) (at + 1 + 1) met body in
        let behind = start + length b in
        let test = tc behind in
        let last = one line (quad.IfNot o start) in
        let tail = has_back s.program s.function start b (test ++ last) stands.2.2.2 in
        let out : end ≡ behind + length test + 1 = omega (arith, ending, length-append b (test ++ last), length-append test last) in
        let cb = code_in s whole c (λ code. Turn code again) (λ exit. next_after_turn exit again (nexts s whole again)) (λ code. refl) in
        let at_test : (q : Point) (y : U) → whole y ≡ whole (c.around again) → Reaches s v p q → Meets s whole y n credit behind q =
        λ q y ey reach.
        same s whole n credit behind y (c.around again) q ey
        (tested (term_in s whole c (λ t'. If t' (Do ca t) Done) (λ v. quiet_step (if v == 0 then Done else Do ca t)) (λ t. refl)) n behind q (has_front s.program s.function behind test last tail) reach.fits
        (λ q2 reach2. goes_on q2 (reaches_on s v v p q q2 (omega arith) reach reach2))) in
        let leaves : (q : Point) → Reaches s v p q → Meets s whole (c.around Done) n credit (behind + length test + 1) q =
        λ q reach. meets_at s whole (c.around Done) n credit end (behind + length test + 1) q out (leads.ends q (c.around Done) (c.part Done) reach) in
        kept cb n (credit + 60) credit start (at + 1) (at + 1 + 1) met true p x (omega (arith, rich)) (omega arith) (has_front s.program s.function start b (test ++ last) stands.2.2.2) below fits
        (e ∙ cb.part ca)
        (record {
          ends = λ q y ey reach. richer s whole y n credit (credit + 60) behind q (omega arith) (at_test q y (ey ∙ sym (c.part again)) (reaches_less s (all_declared v s.known body) (all_low s body) (all_more v s.known body) v p q reach));
          breaks = λ is q y ey reach.
              jumps_beside s whole n credit (at + 1) (behind + length test + 1) q y (c.around Done) stands.2.0 ey
              (richer s whole (c.around Done) n credit (credit + 60) (behind + length test + 1) q (omega arith) (leaves q reach));
          continues = λ is q y ey reach.
              jumps_beside s whole n credit (at + 1 + 1) behind q y (c.around again) stands.2.2.0 ey
              (richer s whole (c.around again) n credit (credit + 60) behind q (omega arith) (at_test q (c.around again) refl reach));
          returns = λ q y at2 o2 here2 ey reach. richer s whole y n credit (credit + 60) at2 q (omega arith) (leads.returns q y at2 o2 here2 ey reach);
        })

    do_head : (n : ℕ) (p : Point) (x : U) → Fits s p → whole x ≡ whole (c.around (Turn (sequence s.globals s.own s.frame met.spawned body) (If t (Do (sequence s.globals s.own s.frame met.spawned body) t) Done))) → Leads s whole s c n credit low end leave0 again0 loop p → Meets s whole x n (credit + 60) (at + 1 + 1 + 1) p
    do_head zero p x fits e leads =
        let ca = sequence s.globals s.own s.frame met.spawned body in
        let start = at + 1 + 1 + 1 in
        let b = sequence_code s whole start (at + 1) (at + 1 + 1) met body in
        let behind = start + length b in
        let test = tc behind in
        let last = one line (quad.IfNot o start) in
        let here = has_back s.program s.function behind test last (has_back s.program s.function start b (test ++ last) stands.2.2.2) in
        do_turn 0 p x fits e leads
        (λ q reach. if_not_none s whole credit (behind + length test) start o q (c.around (If (Value (operand_value q.registers o)) (Do ca t) Done)) here.0)
    do_head (suc m) p x fits e leads =
        λ few.
        let v = s.variables in
        let ca = sequence s.globals s.own s.frame met.spawned body in
        let again = If t (Do ca t) Done in
        let start = at + 1 + 1 + 1 in
        let b = sequence_code s whole start (at + 1) (at + 1 + 1) met body in
        let behind = start + length b in
        let test = tc behind in
        let last = one line (quad.IfNot o start) in
        let here = has_back s.program s.function behind test last (has_back s.program s.function start b (test ++ last) stands.2.2.2) in
        let out : end ≡ behind + length test + 1 = omega (arith, ending, length-append b (test ++ last), length-append test last) in
        let fewer = leads_less c (suc m) m credit low end leave0 again0 loop p (omega arith) few leads in
        do_turn (suc m) p x fits e leads
        (λ q reach.
        if_not_less s whole m credit (behind + length test) start o q (c.around (If (Value (operand_value q.registers o)) (Do ca t) Done)) (λ zero. c.around (if zero then Done else Do ca t)) here.0 (c.part (If (Value (operand_value q.registers o)) (Do ca t) Done))
        (λ z.
        richer s whole (c.around Done) m credit (credit + 60) (behind + length test + 1) q (omega arith)
        (meets_at s whole (c.around Done) m credit end (behind + length test + 1) q out (fewer.ends q (c.around Done) (c.part Done) reach)))
        (λ z.
        quietly s whole m (credit + 60) start (c.around (Do ca t)) (c.around (Turn ca again)) q (c.part (Do ca t))
        (do_head m q (c.around (Turn ca again)) reach.fits refl
        (leads_later s whole s.known s.known_low (λ x h. h) s s c c m credit credit low end end leave0 again0 loop p q (omega arith) reach refl refl (λ v. refl) fewer
        (λ o w ew further. fewer.ends o w ew (reaches_on s v v p q o (omega arith) reach further))))))
        few

    pub do_begins : (n : ℕ) (p : Point) (x : U) → Fits s p → whole x ≡ next_within c.around (nexts s whole (Do (sequence s.globals s.own s.frame met.spawned body) t)) c.go → Leads s whole s c n credit low end leave0 again0 loop p → Meets s whole x n credit at p
    do_begins n p x fits e leads =
        let ca = sequence s.globals s.own s.frame met.spawned body in
        let turn = c.around (Turn ca (If t (Do ca t) Done)) in
        jumps_beside s whole n credit at (at + 1 + 1 + 1) p x turn stands.0 e (do_head n p turn fits refl leads)

  pub do_kept : (line : ℕ) (shape : _) (body : Row_of-Stmt 1) (test : Expr) → KeptSequence s whole body → Kept s whole test.at.line test.kind → KeptCode s whole line (stmt.Do' shape body test)
  do_kept line shape body test kept tested c n credit low at leave again met loop p x rich spare stands below fits e leads =
      let v = s.variables in
      do_begins c line at (expression s.globals s.own s.frame test) (λ at. expression_at s.base_of s.size_of s.outer v at test) (operand_of v test.kind) body met credit low (at + length (statement_code s whole at leave again met line (stmt.Do' shape body test))) leave again loop rich
      (λ c n at p stands fits go. tested v c n credit at p (omega arith) rich stands below.0 fits go)
      kept stands below.1 refl n p x fits e leads

module _ (s : Setting) {U S : Type 0} (whole : U → Next U S) where
  pub for_kept : (line : ℕ) (first_shape : _) (first : _) (test third : Option Expr) (shape : _) (body : Row_of-Stmt 1) → KeptSequence s whole first → KeptOption (after_all s first) whole test → KeptOption (after_all s first) whole third → KeptSequence (after_all s first) whole body → KeptCode s whole line (stmt.For' first_shape first test third shape body)
  for_kept line first_shape first test third shape body begun tested third_kept kept c n credit low at leave again met loop p x rich spare stands below fits e leads =
      let v = s.variables in
      let s1 = after_all s first in
      let known = all_declared v s.known first in
      let knows = all_low s first in
      let weak = all_more v s.known first in
      let cf = sequence_code s whole at leave again met first in
      let at1 = at + length cf in
      let t = expression_or s.globals s.own s.frame 1 test in
      let ca = sequence s.globals s.own s.frame (met.spawned + all_spawns first) body in
      let third' = third_part s.globals s.own s.frame third in
      let whole_loop = For t third' ca in
      let tc : ℕ → List Lined = λ at. option_code s whole at test in
      let th : ℕ → List Lined = λ at. option_code s whole at third in
      let o = option_operand v 1 test in
      let lc = loop_code line at1 tc o (λ at leave again. sequence_code s whole at leave again (behind_all met first) body) th in
      let head = c.around (If t (Turn ca (Then third' whole_loop)) Done) in
      let behind = has_back s.program s.function at cf lc stands in
      let c2 = code_in s whole c (λ a. Then a whole_loop) (λ exit. next_after exit (nexts s whole whole_loop)) (λ code. refl) in
      begun c2 n credit low at leave again met loop p x rich spare (has_front s.program s.function at cf lc stands) below.0 fits
      (e ∙ within_within (λ a. Then a whole_loop) c.around (nexts s whole (sequence s.globals s.own s.frame met.spawned first)) (λ exit. next_after exit (nexts s whole whole_loop)) c.go)
      (leads_later s whole s.known s.known_low (λ x h. h) s s1 c c2 n credit credit low (at + length (cf ++ lc)) at1 leave again loop p p (omega arith) (reaches_here s v p fits) refl refl (λ v. refl) leads
      (λ q y ey reach.
      let less = reaches_less s known knows weak v p q reach in
      quietly s whole n credit at1 y head q ey
      (head_kept s1 whole c line at1 t tc o body (behind_all met first) (Then third' whole_loop) th credit low (at + length (cf ++ lc)) leave again loop rich
      (λ c n p fits go. option_kept s1 whole 1 test tested c n credit at1 p rich (has_front s.program s.function at1 (tc at1) _ behind) below.1 fits go)
      kept behind below.3 (omega (arith, length-append cf lc))
      (for_back s1 whole c line at1 credit t ca third rich below.2 third_kept)
      n q head reach.fits refl
      (leads_later s whole known knows weak s s1 c c n credit credit low (at + length (cf ++ lc)) (at + length (cf ++ lc)) leave again loop p q (omega arith) less refl refl (λ v. refl) leads
      (λ o z ez further. leads.ends o z ez (reaches_on s v v p q o (omega arith) less (reaches_less s known knows weak v q o further)))))))
