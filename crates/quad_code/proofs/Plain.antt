-- The quads of statements without a loop keep to the source.
use Rattle.quad_code.specs.Known.{ElseKnown, OptionKnown, all_declared, declared}
use Rattle.std.proofs.Common.{◌≡◌, refl, sym, ◌∙◌, ap, subst, arith, ℕ, ◌+◌, ◌≤◌, ◌<◌, true, false, if◌then◌else◌, List, ◌++◌, length, length-append, Option, Some, None, ◌⊎◌, inl, inr}
use Rattle.std.specs.Prelude.{◌==◌, Bool}
use Rattle.source_meaning.specs.declared.tree.Expr.{Expr}
use Rattle.source_meaning.specs.declared.tree.StmtKind.{Row_of-Stmt, Held-StmtKind-If-2, None', Some'}
use Rattle.source_meaning.specs.declared.tree.StmtKind.TheVariants as stmt
use Rattle.source_meaning.specs.Term.{At, Value, Done, Expression, Set, Block, If, Return}
use Rattle.source_meaning.specs.Next.{Next, Is, Asks, Storing, Ends, Returns, next_after, quiet_step}
use Rattle.source_meaning.specs.Trace.{step_of}
use Rattle.source_meaning.specs.Code.{expression, expression_or, sequence, else_code, all_spawns}
use Rattle.xmt_quads.specs.declared.code.Operand.{Operand}
use Rattle.xmt_quads.specs.declared.code.Quad.TheVariants as quad
use Rattle.xmt_base.specs.Action as action
use Rattle.source_meaning.specs.Store.{same_cell, store_with}
use Rattle.source_meaning.proofs.Commute.{same_cell-refl}
use Rattle.xmt_quads.specs.declared.code.Where.TheVariants.{Outer}
use Rattle.xmt_quads.specs.declared.code.Quad.{Quad}
use Rattle.xmt_quads.specs.Meaning.{next_at, goes, with_register, reached_depth, operand_value}
use Rattle.xmt_quads.specs.Program.{quad_at, weight, is_spawn}
use Rattle.quad_code.specs.Lined.{Lined, choice, one}
use Rattle.quad_code.specs.Expressions.{operand_of, writing, access_of_slot}
use Rattle.quad_code.specs.Statements.{Counts, behind_all, option_operand, expression_at, option_at, else_at}
use Rattle.quad_code.proofs.Setting.{register_above, own_is_private, thread_at, Setting, Point, Stands, has_front, has_back, Fits, Reaches, reaches_on, reaches_here}
use Rattle.quad_code.proofs.Steps.{Context, within_within, Meets, meets_at, both}
use Rattle.quad_code.proofs.Places.{write_common, private_store, stores}
use Rattle.quad_code.proofs.Operators.{jumps}
use Rattle.quad_code.proofs.Kept.{Kept, richer}
use Rattle.quad_code.proofs.Choices.{zero_choice, middle_of}
use Rattle.quad_code.proofs.KeptCode.{declared_cases, declared_low, after, all_low, after_all, all_more, reaches_less, reaches_to, CodeContext, code_in, term_in, Leads, leads_later, statement_code, sequence_code, nexts, KeptCode, KeptSequence, same, quietly}

module _ (s : Setting) {U S : Type 0} (whole : U → Next U S) where
  pub empty_statement_kept : (line : ℕ) → KeptCode s whole line stmt.Empty
  empty_statement_kept line c n credit low at leave again met loop p x rich spare stands below fits e leads =
      quietly s whole n credit at x (c.around Done) p e
      (meets_at s whole (c.around Done) n credit (at + 0) at p (omega arith) (leads.ends p (c.around Done) (c.part Done) (reaches_here s s.variables p fits)))

  pub value_kept : (line : ℕ) (e : Expr) → Kept s whole e.at.line e.kind → KeptCode s whole line (stmt.Value e)
  value_kept line e kept c n credit low at leave again met loop p x rich spare stands below fits ex leads =
      let v = s.variables in
      let t = expression s.globals s.own s.frame e in
      same s whole n credit at x (c.around (Expression t)) p (ex ∙ sym (c.part (Expression t)))
      (kept v (term_in s whole c Expression (λ v. quiet_step Done) (λ t. refl)) n credit at p (omega arith) rich stands below fits
      (λ q reach.
      let value = operand_value q.registers (operand_of v e.kind) in
      quietly s whole n credit (at + length (statement_code s whole at leave again met line (stmt.Value e))) (c.around (Expression (Value value))) (c.around Done) q (c.part (Expression (Value value)))
      (leads.ends q (c.around Done) (c.part Done) reach)))

  pub block_kept : (line : ℕ) (shape : _) (body : _) → KeptSequence s whole body → KeptCode s whole line (stmt.Block' shape body)
  block_kept line shape body kept c n credit low at leave again met loop p x rich spare stands below fits e leads =
      let end = at + length (sequence_code s whole at leave again met body) in
      let c2 = code_in s whole c Block (λ exit. next_after exit (quiet_step Done)) (λ code. refl) in
      kept c2 n credit low at leave again met loop p x rich spare stands below fits
      (e ∙ within_within Block c.around (nexts s whole (sequence s.globals s.own s.frame met.spawned body)) (λ exit. next_after exit (quiet_step Done)) c.go)
      (leads_later s whole s.known s.known_low (λ x h. h) s (after_all s body) c c2 n credit credit low end end leave again loop p p (omega arith) (reaches_here s s.variables p fits) refl refl (λ v. refl) leads
      (λ q y ey reach.
      quietly s whole n credit end y (c.around Done) q ey
      (leads.ends q (c.around Done) (c.part Done) (reaches_less s (all_declared s.variables s.known body) (all_low s body) (all_more s.variables s.known body) s.variables p q reach))))

  pub break_kept : (line : ℕ) → KeptCode s whole line stmt.Break
  break_kept line c n credit low at leave again met loop p x rich spare stands below fits e leads =
      jumps s whole n credit low at leave p x stands.0 spare (leads.breaks below p x e (reaches_here s s.variables p fits))

  pub continue_kept : (line : ℕ) → KeptCode s whole line stmt.Continue
  continue_kept line c n credit low at leave again met loop p x rich spare stands below fits e leads =
      jumps s whole n credit low at again p x stands.0 spare (leads.continues below p x e (reaches_here s s.variables p fits))

  -- ---- an expression, or a number where there is none

  abbrev pub KeptOption : Option Expr → Type 0
  KeptOption None = Unit {0}
  KeptOption (Some e) = Kept s whole e.at.line e.kind

  abbrev pub option_code : (at : ℕ) → Option Expr → List Lined
  option_code at e = option_at s.base_of s.size_of s.outer s.variables at e

  pub option_kept : (default : ℕ) (e : Option Expr) → KeptOption e → (c : Context s whole) (n credit at : ℕ) (p : Point) → 40 ≤ credit → Stands s at (option_code at e) → OptionKnown (length s.globals) (s.MayCall s.region) s.known e → Fits s p → ((q : Point) → Reaches s s.variables p q → Meets s whole (c.around (Value (operand_value q.registers (option_operand s.variables default e)))) n credit (at + length (option_code at e)) q) → Meets s whole (c.around (expression_or s.globals s.own s.frame default e)) n credit at p
  option_kept default None kept c n credit at p rich stands below fits go =
      meets_at s whole (c.around (Value default)) n credit (at + 0) at p (omega arith) (go p (reaches_here s s.variables p fits))
  option_kept default (Some e) kept c n credit at p rich stands below fits go = kept s.variables c n credit at p (omega arith) rich stands below fits go

  pub return_kept : (line : ℕ) (e : Option Expr) → KeptOption e → KeptCode s whole line (stmt.Return e)
  return_kept line e kept c n credit low at leave again met loop p x rich spare stands below fits ex leads =
      let code = option_code at e in
      let t = expression_or s.globals s.own s.frame 0 e in
      let last = one line (quad.Return (option_operand s.variables 0 e)) in
      let here = has_back s.program s.function at code last stands in
      same s whole n credit at x (c.around (Return t)) p (ex ∙ sym (c.part (Return t)))
      (option_kept 0 e kept (term_in s whole c Return (λ v. Is (Returns v)) (λ t. refl)) n credit at p rich
      (has_front s.program s.function at code last stands) below.0 fits
      (λ q reach.
      let o = option_operand s.variables 0 e in
      leads.returns q (c.around (Return (Value (operand_value q.registers o)))) (at + length code) o here.0 (c.part (Return (Value (operand_value q.registers o)))) reach))

  -- what is there behind the declaration of a variable in its register, and of a shared one
  abbrev pub own_declared : (slot v : ℕ) → Point → Point
  own_declared slot v p = record p { registers = with_register p.registers slot v; store = store_with p.store (s.frame slot) v }

  abbrev pub shared_declared : (slot v : ℕ) → Point → Point
  shared_declared slot v p = record p { store = store_with p.store (s.frame slot) v }

  -- a variable that was not known before is written in its register, by any quad that sets it
  pub declares_own : (n credit at slot v : ℕ) (q : Quad) (p : Point) (code left : U) → weight q ≡ 4 → is_spawn q ≡ 0 → slot < s.variables → s.outer slot ≡ None → Fits s p → quad_at s.program s.function at ≡ Some q →
      next_at s.program (thread_at s at p) (Some q) ≡ goes (thread_at s (at + 1) (record p { registers = with_register p.registers slot v })) → whole code ≡ Asks (Storing (s.frame slot) v) (λ _. left) →
      (Reaches (after s (stmt.Declare slot None)) s.variables p (own_declared slot v p) → Meets s whole left n (credit + 60) (at + 1) (own_declared slot v p)) → Meets s whole code n credit at p
  declares_own n credit at slot v q p code left light plain below own fits here does asks go =
      both s whole n credit (credit + 60) at (at + 1) q p (own_declared slot v p) code left here plain does
      (λ replies. ap (step_of p.store replies) asks ∙ private_store S p.store replies (s.frame slot) v (λ _. left) (own_is_private s slot own))
      (omega (arith, light))
      (go (record {
        waits = λ x from low. register_above s p.registers slot v x (omega (arith, below, from));
        spares = λ other is. rw (s.spared_apart slot own other is) refl;
        fits = λ other known mine. by_slot other (declared_cases s.variables s.known slot other known) mine (slot == other) refl;
      }))
    where
      by_slot : (other : ℕ) → ((s.known other ≡ true) ⊎ ((other ≡ slot) × (other < s.variables))) → s.outer other ≡ None → (b : Bool) → (slot == other) ≡ b → with_register p.registers slot v other ≡ store_with p.store (s.frame slot) v (s.frame other)
      by_slot other known mine true e =
          let equal : slot ≡ other = grind (arith, e) in
          let found : same_cell (s.frame slot) (s.frame other) ≡ true = subst (λ o. same_cell (s.frame slot) (s.frame o) ≡ true) equal (same_cell-refl (s.frame slot)) in
          rw (e, found) refl
      by_slot other (inl known) mine false e = rw (e, s.apart slot other own mine e) (fits other known mine)
      by_slot other (inr known) mine false e = absurd (differ e known.0)
        where
          differ : (slot == other) ≡ false → other ≡ slot → ⊥
          differ e same = grind (arith, e, same)

  -- a shared one is stored
  pub declares_shared : (n credit at slot number : ℕ) (o : Operand) (p : Point) (code left : U) → s.outer slot ≡ Some number → Fits s p → quad_at s.program s.function at ≡ Some (quad.Store (Outer number) o) → whole code ≡ Asks (Storing (s.frame slot) (operand_value p.registers o)) (λ _. left) →
      (Reaches (after s (stmt.Declare slot None)) s.variables p (shared_declared slot (operand_value p.registers o) p) → Meets s whole left n (credit + 60) (at + 1) (shared_declared slot (operand_value p.registers o) p)) → Meets s whole code n credit at p
  declares_shared n credit at slot number o p code left shared fits here asks go =
      let v = operand_value p.registers o in
      let cell = s.frame slot in
      let place = action.Outer (reached_depth s.parent s.callers) number in
      let reach = write_common s s.variables v cell place p (s.outer_is_shared slot number shared) fits in
      stores s whole n credit at (Outer number) o cell p code (λ _. left) (s.outer_is_shared slot number shared) refl here asks
      (go (record { waits = reach.waits; spares = reach.spares; fits = λ other known mine. by_known other (declared_cases s.variables s.known slot other known) mine }))
    where
      by_known : (other : ℕ) → ((s.known other ≡ true) ⊎ ((other ≡ slot) × (other < s.variables))) → s.outer other ≡ None → p.registers other ≡ store_with p.store (s.frame slot) (operand_value p.registers o) (s.frame other)
      by_known other (inl known) mine = (write_common s s.variables (operand_value p.registers o) (s.frame slot) (action.Outer (reached_depth s.parent s.callers) number) p (s.outer_is_shared slot number shared) fits).fits other known mine
      by_known other (inr known) mine = let no : s.outer slot ≡ None = subst (λ x. s.outer x ≡ None) known.0 mine in cc

  declares : (n credit at slot : ℕ) (other : Option ℕ) (o : Operand) (p : Point) (code left : U) → slot < s.variables → s.outer slot ≡ other → Fits s p → quad_at s.program s.function at ≡ Some (writing (access_of_slot slot other) o) → whole code ≡ Asks (Storing (s.frame slot) (operand_value p.registers o)) (λ _. left) → ((q : Point) → Reaches (after s (stmt.Declare slot None)) s.variables p q → Meets s whole left n (credit + 60) (at + 1) q) → Meets s whole code n credit at p
  declares n credit at slot None o p code left below own fits here asks go =
      declares_own n credit at slot (operand_value p.registers o) (quad.Copy slot o) p code left refl refl below own fits here refl asks (go (own_declared slot (operand_value p.registers o) p))
  declares n credit at slot (Some number) o p code left below shared fits here asks go = declares_shared n credit at slot number o p code left shared fits here asks (go (shared_declared slot (operand_value p.registers o) p))

  pub declare_kept : (line slot : ℕ) (e : Option Expr) → KeptOption e → KeptCode s whole line (stmt.Declare slot e)
  declare_kept line slot e kept c n credit low at leave again met loop p x rich spare stands below fits ex leads =
      let v = s.variables in
      let code = option_code at e in
      let t = expression_or s.globals s.own s.frame 0 e in
      let o = option_operand v 0 e in
      let cell = s.frame slot in
      let last = one line (writing (access_of_slot slot (s.outer slot)) o) in
      let at1 = at + length code in
      let here = has_back s.program s.function at code last stands in
      let k = stmt.Declare slot e in
      same s whole n credit at x (c.around (Set (At cell) t)) p (ex ∙ sym (c.part (Set (At cell) t)))
      (option_kept 0 e kept (term_in s whole c (Set (At cell)) (λ v. Asks (Storing cell v) (λ _. Done)) (λ t. refl)) n credit at p rich
      (has_front s.program s.function at code last stands) below.1 fits
      (λ q reach.
      let value = operand_value q.registers o in
      declares n credit at1 slot (s.outer slot) o q (c.around (Set (At cell) (Value value))) (c.around Done) below.0 refl reach.fits here.0 (c.part (Set (At cell) (Value value)))
      (λ q2 reach2.
      richer s whole (c.around Done) n credit (credit + 60) (at1 + 1) q2 (omega arith)
      (meets_at s whole (c.around Done) n credit (at + length (code ++ last)) (at1 + 1) q2 (omega (arith, length-append code last))
      (leads.ends q2 (c.around Done) (c.part Done) (reaches_to s (declared v s.known k) (declared_low s k) v p q q2 reach reach2))))))

  -- ---- `if`

  abbrev pub KeptElse : Held-StmtKind-If-2 → Type 0
  KeptElse None' = Unit {0}
  KeptElse (Some' shape body) = KeptSequence s whole body

  abbrev pub else_quads : (at leave again : ℕ) → Counts → Held-StmtKind-If-2 → List Lined
  else_quads at leave again met other = else_at s.base_of s.size_of s.outer s.variables at leave again met other

  else_kept : (other : Held-StmtKind-If-2) → KeptElse other → (c : CodeContext s whole) (n credit low at leave again : ℕ) (met : Counts) (loop : Bool) (p : Point) → 40 ≤ credit → low + 4 ≤ credit → Stands s at (else_quads at leave again met other) → ElseKnown (length s.globals) s.MayCall s.variables s.outer s.known loop s.region other → Fits s p → Leads s whole s c n credit low (at + length (else_quads at leave again met other)) leave again loop p → Meets s whole (c.around (else_code s.globals s.own s.frame met.spawned other)) n credit at p
  else_kept None' kept c n credit low at leave again met loop p rich spare stands below fits leads =
      meets_at s whole (c.around Done) n credit (at + 0) at p (omega arith) (leads.ends p (c.around Done) (c.part Done) (reaches_here s s.variables p fits))
  else_kept (Some' shape body) kept c n credit low at leave again met loop p rich spare stands below fits leads =
      kept c n credit low at leave again met loop p (c.around (sequence s.globals s.own s.frame met.spawned body)) rich spare stands below fits (c.part (sequence s.globals s.own s.frame met.spawned body))
      (let end = at + length (sequence_code s whole at leave again met body) in
      leads_later s whole s.known s.known_low (λ x h. h) s (after_all s body) c c n credit credit low end end leave again loop p p (omega arith) (reaches_here s s.variables p fits) refl refl (λ v. refl) leads
      (λ q y ey reach. leads.ends q y ey (reaches_less s (all_declared s.variables s.known body) (all_low s body) (all_more s.variables s.known body) s.variables p q reach)))

  pub if_kept : (line : ℕ) (test : Expr) (shape : _) (body : Row_of-Stmt 1) (other : Held-StmtKind-If-2) → Kept s whole test.at.line test.kind → KeptSequence s whole body → KeptElse other → KeptCode s whole line (stmt.If' test shape body other)
  if_kept line test shape body other tested first second c n credit low at leave again met loop p x rich spare stands below fits e leads =
      let v = s.variables in
      let ct = expression_at s.base_of s.size_of s.outer v at test in
      let at1 = at + length ct in
      let o = operand_of v test.kind in
      let a : ℕ → List Lined = λ at. sequence_code s whole at leave again met body in
      let b : ℕ → List Lined = λ at. else_quads at leave again (behind_all met body) other in
      let rest = choice line at1 (quad.IfZero o) a b in
      let behind = has_back s.program s.function at ct rest stands in
      let end : at + length (ct ++ rest) ≡ at1 + length rest = omega (arith, length-append ct rest) in
      let t = expression s.globals s.own s.frame test in
      let ca = sequence s.globals s.own s.frame met.spawned body in
      let cb = else_code s.globals s.own s.frame (met.spawned + all_spawns body) other in
      same s whole n credit at x (c.around (If t ca cb)) p (e ∙ sym (c.part (If t ca cb)))
      (tested v (term_in s whole c (λ t. If t ca cb) (λ v. quiet_step (if v == 0 then cb else ca)) (λ t. refl)) n credit at p (omega arith) rich
      (has_front s.program s.function at ct rest stands) below.0 fits
      (λ q reach.
      let leads_on : (y : U) (o : Point) → whole y ≡ c.go Ends → Reaches s v q o → Meets s whole y n credit (at1 + length rest) o =
      λ y o ey further. meets_at s whole y n credit (at + length (ct ++ rest)) (at1 + length rest) o end (leads.ends o y ey (reaches_on s v v p q o (omega arith) reach further)) in
      zero_choice s whole n credit at1 line o a b q (c.around (If (Value (operand_value q.registers o)) ca cb)) (λ zero. c.around (if zero then cb else ca)) behind (c.part (If (Value (operand_value q.registers o)) ca cb))
      (λ there out.
      richer s whole (c.around ca) n (credit + 4) (credit + 60) (at1 + 1) q (omega arith)
      (first c n (credit + 4) low (at1 + 1) leave again met loop q (c.around ca) (omega (arith, rich)) (omega (arith, spare)) there below.1 reach.fits (c.part ca)
      (leads_later s whole s.known s.known_low (λ x h. h) s (after_all s body) c c n credit (credit + 4) low (at + length (ct ++ rest)) (at1 + 1 + length (a (at1 + 1))) leave again loop p q (omega arith) reach refl refl (λ v. refl) leads
      (λ o y ey further. out y o (leads_on y o ey (reaches_less s (all_declared v s.known body) (all_low s body) (all_more v s.known body) v q o further))))))
      (λ there out.
      richer s whole (c.around cb) n credit (credit + 60) (middle_of s whole at1 (a (at1 + 1))) q (omega arith)
      (else_kept other second c n credit low (middle_of s whole at1 (a (at1 + 1))) leave again (behind_all met body) loop q rich spare there below.2 reach.fits
      (leads_later s whole s.known s.known_low (λ x h. h) s s c c n credit credit low (at + length (ct ++ rest)) (middle_of s whole at1 (a (at1 + 1)) + length (b (middle_of s whole at1 (a (at1 + 1))))) leave again loop p q (omega arith) reach refl refl (λ v. refl) leads
      (λ o y ey further. out y o (leads_on y o ey further)))))))
