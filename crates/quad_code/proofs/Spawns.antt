-- The quads of a spawn keep to the source up to the spawn, where both are at the same block, and behind the join.
use Rattle.std.proofs.Common.{◌≡◌, refl, sym, ◌∙◌, ap, subst, arith, ℕ, ◌+◌, false, [], ◌∷◌, ◌++◌, length, length-append, Some}
use Rattle.xmt_base.specs.declared.values.TrapKind.{TrapKind}
use Rattle.xmt_base.specs.Action as action
use Rattle.source_meaning.specs.declared.tree.Expr.{Expr}
use Rattle.source_meaning.specs.declared.tree.StmtKind.{Row_of-Stmt}
use Rattle.source_meaning.specs.declared.tree.StmtKind.TheVariants as stmt
use Rattle.source_meaning.specs.Store.{Private}
use Rattle.source_meaning.specs.Variables.{block_frame}
use Rattle.source_meaning.specs.Term.{Value, Code, Done, Spawn, Join}
use Rattle.source_meaning.specs.Next.{Next, Asks, Spawning, next_within, next}
use Rattle.source_meaning.specs.Trace.{step_of}
use Rattle.source_meaning.specs.Code.{expression, sequence}
use Rattle.xmt_quads.specs.declared.code.Operand.{Operand}
use Rattle.xmt_quads.specs.declared.code.Quad.TheVariants as quad
use Rattle.xmt_quads.specs.Program.{quads_in, quad_at, site_at, behind_join}
use Rattle.xmt_quads.specs.Meaning.{operand_value, reached_depth, Traps, acts}
use Rattle.quad_laws.proofs.Keeps.{keeps_tells, keeps_source}
use Rattle.quad_code.specs.Lined.{one, spawn_code}
use Rattle.quad_code.specs.Expressions.{operand_of}
use Rattle.quad_code.specs.Statements.{Counts, in_spawn, expression_at, sequence_at}
use Rattle.quad_code.specs.Known.{Serial, InBlock, OwnVariables, SequenceKnown}
use Rattle.quad_code.proofs.Setting.{Setting, Point, AtSpawn, StandsAs, IsOver, thread_at, moves, costs, lives, next_is, moves_as, costs_as, Stands, has_front, has_back, Fits, reaches_on}
use Rattle.quad_code.proofs.Steps.{Meets, meets_at, KeepsTo, one_less}
use Rattle.quad_code.proofs.Kept.{Kept, expression_code, operand_kept, richer}
use Rattle.quad_code.proofs.KeptCode.{KeptCode, CodeContext, term_in, same, sequence_code}

module _ (s : Setting) where
  -- at the spawn stands the block
  block_at : (at leave again line : ℕ) (met : Counts) {m : _} (body : Row_of-Stmt m) (p : Point) → s.region ≡ Serial → Stands s (at + 1) (sequence_at s.base_of s.size_of s.outer s.variables (at + 1) leave again met body ++ one line quad.Join) →
      SequenceKnown (length s.globals) s.MayCall s.variables s.outer s.known false InBlock body → OwnVariables s.outer s.known body → Fits s p →
      AtSpawn s (thread_at s at p) p.store (λ child. sequence s.globals s.own (block_frame (s.own child) body s.frame) met.spawned body)
  block_at at leave again line met {m} body p serial stands known owned fits =
      record {
        count = m;
        body = body;
        own = s.own;
        frame = s.frame;
        outer = s.outer;
        variables = s.variables;
        known = s.known;
        met = met;
        leave = leave;
        again = again;
        line = line;
        is_block = refl;
        stands = stands;
        is_known = known;
        owned = owned;
        known_low = s.known_low;
        fits = fits;
        own_private = s.own_private;
        frame_private = λ slot own. s.serial_frame serial slot own ∙ ap (λ depth. Private s.thread depth slot) (sym s.deep);
        frame_shared = λ slot number shared. s.outer_is_shared slot number shared ∙ ap (λ parent. Some (action.Outer (reached_depth parent s.callers) number)) (s.serial_parent serial);
      }

module _ (s : Setting) {U S : Type 0} (whole : U → Next U S) where
  -- both spawn, and the serial code goes on behind the join
  spawns : (n credit at site behind line : ℕ) (low high : Operand) (block : ℕ → Code) (c : CodeContext s whole) (p : Point) → quad_at s.program s.function at ≡ Some (quad.Spawn low high) → site_at s.program s.function at ≡ site → behind_join (quads_in s.program s.function) at ≡ behind →
      AtSpawn s (thread_at s at p) p.store block → Meets s whole (c.around Done) n (credit + 60 + 64) behind p →
      Meets s whole (c.around (Spawn site (Value (operand_value p.registers low)) (Value (operand_value p.registers high)) block)) n credit at p
  spawns n credit at site behind line low high block c p here sited joins is_block m =
      let l = operand_value p.registers low in
      let h = operand_value p.registers high in
      let code = c.around (Spawn site (Value l) (Value h) block) in
      let rules = StandsAs (AtSpawn s) s.program in
      let t = thread_at s at p in
      let asks : whole code ≡ Asks (Spawning site l h block) (λ _. c.around Join) = c.part (Spawn site (Value l) (Value h) block) in
      λ few.
      one_less s whole n credit at p code
      (keeps_tells (moves s) (costs s) IsOver rules whole n credit (credit + 60) t code p.store (lives s at p)
      (record {
        traps = λ kind is. absurd (no_trap kind (sym (next_is s at (quad.Spawn low high) p here) ∙ is));
        spawns = λ low2 high2 is.
            let same_low : low ≡ low2 = cc in
            let same_high : high ≡ high2 = cc in (
              block,
              (λ _. c.around Join),
              asks ∙ ap (λ site. Asks (Spawning site l h block) (λ _. c.around Join)) (sym sited) ∙
                  ap (λ low. Asks (Spawning (site_at s.program s.function at) (operand_value p.registers low) h block) (λ _. c.around Join)) same_low ∙
                  ap (λ high. Asks (Spawning (site_at s.program s.function at) (operand_value p.registers low2) (operand_value p.registers high) block) (λ _. c.around Join)) same_high,
              is_block,
            );
      })
      (action.Spawn (site_at s.program s.function at) l h) (λ reply. record t { at = behind_join (quads_in s.program s.function) at })
      (moves_as s at (quad.Spawn low high) p here (acts (action.Spawn (site_at s.program s.function at) l h) (λ reply. record t { at = behind_join (quads_in s.program s.function) at })) refl)
      (Spawning site l h block) (λ _. c.around Join) asks (ap (λ site. action.Spawn site l h ∷ []) (sym sited)) refl (λ replies. refl) (omega (arith, costs_as s at (quad.Spawn low high) p here))
      (λ reply.
      keeps_source (moves s) (costs s) IsOver rules whole n (credit + 60) (credit + 60 + 64) (record t { at = behind_join (quads_in s.program s.function) at }) (c.around Join) (c.around Done) p.store p.store
      (λ replies. ap (step_of p.store replies) (c.part Join)) (omega arith)
      (subst (λ at. KeepsTo s whole n (credit + 60 + 64) (thread_at s at p) (c.around Done) p.store) (sym joins) (m few))))
    where
      no_trap : (kind : TrapKind) → acts (action.Spawn (site_at s.program s.function at) (operand_value p.registers low) (operand_value p.registers high)) (λ reply. record (thread_at s at p) { at = behind_join (quads_in s.program s.function) at }) ≡ Traps kind → ⊥
      no_trap kind is = cc

  pub spawn_kept : (line : ℕ) (low high : Expr) (shape : _) (body : _) → Kept s whole low.at.line low.kind → Kept s whole high.at.line high.kind → KeptCode s whole line (stmt.Spawn' low high shape body)
  spawn_kept line low high shape body first second c n credit spare_credit at leave again met loop p x rich spare stands below fits e leads =
      let v = s.variables in
      let cl = expression_at s.base_of s.size_of s.outer v at low in
      let at1 = at + length cl in
      let ch = expression_code s at1 (v + 1) high.at.line high.kind in
      let at2 = at1 + length ch in
      let ol = operand_of v low.kind in
      let oh = operand_of (v + 1) high.kind in
      let b = sequence_code s whole (at2 + 1) leave again (in_spawn met) body in
      let rest = spawn_code line at2 met.spawned ol oh (λ at. sequence_code s whole at leave again (in_spawn met) body) in
      let behind = has_back s.program s.function at cl (ch ++ rest) stands in
      let here = has_back s.program s.function at1 ch rest behind in
      let tl = expression s.globals s.own s.frame low in
      let th = expression s.globals s.own s.frame high in
      let site = met.spawned in
      let block : ℕ → Code = λ child. sequence s.globals s.own (block_frame (s.own child) body s.frame) (1 + met.spawned) body in
      let nexts = next s.number s.call_code s.depth in
      same s whole n credit at x (c.around (Spawn site tl th block)) p (e ∙ sym (c.part (Spawn site tl th block)))
      (first v (term_in s whole c (λ low. Spawn site low th block) (λ l. next_within (λ high. Spawn site (Value l) high block) (nexts th) (λ h. Asks (Spawning site l h block) (λ _. Join))) (λ t. refl)) n credit at p (omega arith) rich
      (has_front s.program s.function at cl (ch ++ rest) stands) below.0 fits
      (λ q reach.
      let l = operand_value q.registers ol in
      second (v + 1) (term_in s whole c (λ high. Spawn site (Value l) high block) (λ h. Asks (Spawning site l h block) (λ _. Join)) (λ t. refl)) n credit at1 q (omega arith) rich
      (has_front s.program s.function at1 ch rest behind) below.1 reach.fits
      (λ q2 reach2.
      let far = reaches_on s v (v + 1) p q q2 (omega arith) reach reach2 in
      subst (λ l. Meets s whole (c.around (Spawn site (Value l) (Value (operand_value q2.registers oh)) block)) n credit at2 q2) (operand_kept v low.kind q.registers q2.registers (reach2.waits v (omega arith) (omega arith)))
      (spawns n credit at2 site (at2 + 1 + length b + 1) line ol oh block c q2 here.0 here.3.0 here.3.1
      (block_at s at2 leave again line (in_spawn met) body q2 below.4 here.2 below.3 below.2 far.fits)
      (richer s whole (c.around Done) n credit (credit + 60 + 64) (at2 + 1 + length b + 1) q2 (omega arith)
      (meets_at s whole (c.around Done) n credit (at + length (cl ++ (ch ++ rest))) (at2 + 1 + length b + 1) q2 (omega (arith, length-append cl (ch ++ rest), length-append ch rest, length-append b (one line quad.Join)))
      (leads.ends q2 (c.around Done) (c.part Done) far)))))))
