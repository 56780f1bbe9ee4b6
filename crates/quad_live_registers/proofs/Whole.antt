-- The code of functions and of a whole program.
use Rattle.std.proofs.Common.{length-append, ◌≡◌, refl, sym, ◌∙◌, ap, subst, arith, ℕ, zero, suc, ◌+◌, ◌<◌, ◌≤◌, List, [], ◌∷◌, ◌++◌, append_assoc, length, map, get_or, Option, Some, None, true, false}
use Rattle.std.specs.Prelude.{◌==◌, ◌||◌, nat_lt, Bool, if◌then◌else◌, All}
use Rattle.std.specs.List.{list_any}
use Rattle.std.proofs.Math.Seq.{get_or-append_seam}
use Rattle.std.proofs.lemmas.List.{length-map}
use Rattle.std.proofs.lemmas.List.Elements.{All-cons, All-head, All-tail}
use Rattle.std.proofs.lemmas.Option.{slice_get_within, slice_get_read, slice_get-get_or}
use Rattle.source_meaning.specs.declared.tree.Stmt.{Stmt}
use Rattle.source_meaning.specs.declared.tree.StmtKind.{StmtKind}
use Rattle.source_meaning.specs.declared.tree.Function.{Function}
use Rattle.source_meaning.specs.declared.tree.Program.{Program}
use Rattle.source_meaning.specs.Layout.{first_word, words_of}
use Rattle.source_meaning.specs.Inside.{some_statement, some_in_body}
use Rattle.source_meaning.specs.Variables.{is_sharing, is_shared, shared_below}
use Rattle.xmt_quads.specs.declared.code.Operand.TheVariants.{Literal}
use Rattle.xmt_quads.specs.declared.code.Quad.{Quad}
use Rattle.xmt_quads.specs.declared.code.Quad.TheVariants as quad
use Rattle.xmt_quads.specs.declared.code.QuadFunction.{QuadFunction}
use Rattle.xmt_quads.specs.WellFormed.{HasLiveRegisters}
use Rattle.quad_code.specs.Lined.{Lined, one}
use Rattle.quad_code.specs.Rows.{rows_of}
use Rattle.quad_code.specs.Known.{Region, Serial, SequenceKnown}
use Rattle.quad_code.specs.Statements.{Counts, behind_all, sequence_at}
use Rattle.quad_code.specs.Functions.{outer_of, parameter_code, parameters_code, function_code}
use Rattle.quad_code.specs.Whole.{MayCall, BodyKnown, codes_from}
use Rattle.quad_live_registers.specs.Law.{QuadsHaveLiveRegisters}
use Rattle.quad_live_registers.proofs.Dead.{Stands, split, Dead, on, return, not_live, moved}
use Rattle.quad_live_registers.proofs.Written.{Fine, fine_append}
use Rattle.quad_live_registers.proofs.DeadStatements.{sequence_dead}
use Rattle.quad_live_registers.proofs.Kept.{not_true, kept_append, fine_kept, kept_there, sequence_kept}

-- ---- the code is all that stands in its function

stands_from : (quads front : List Quad) (code : List Lined) (at : ℕ) → quads ≡ front ++ map (λ l. l.quad) code → at ≡ length front → Stands quads at code (at + length code)
stands_from quads front [] at is e = let same : at ≡ at + 0 = omega arith in same
stands_from quads front (l ∷ code) at is e =
    let rest = map (λ (l : Lined). l.quad) code in
    let long : at < length quads = omega (arith, ap length is, length-append {A = Quad}) in
    let there : l.quad ≡ get_or quads at l.quad = sym (ap (λ qs. get_or qs at l.quad) is ∙ ap (λ i. get_or (front ++ (l.quad ∷ rest)) i l.quad) e ∙ get_or-append_seam front l.quad rest l.quad) in
    let next : at + 1 ≡ length (front ++ (l.quad ∷ [])) = omega (arith, length-append {A = Quad}) in
    let end : at + 1 + length code ≡ at + suc (length code) = omega arith in (
      slice_get_read quads (length quads) at l.quad refl long there,
      subst (Stands quads (at + 1) code) end (stands_from quads (front ++ (l.quad ∷ [])) code (at + 1) (is ∙ sym (append_assoc front (l.quad ∷ []) rest)) next),
    )

in_rows : (test : StmtKind → Bool) (body : List Stmt) → some_in_body test (rows_of body) ≡ list_any (λ s. some_statement test s.kind) body
in_rows test [] = refl
in_rows test (s ∷ body) = ap (λ b. some_statement test s.kind || b) (in_rows test body)

-- ---- parameters

module _ (outer : (slot : ℕ) → Option ℕ) (variables : ℕ) where
  plain_parameter : (slot : ℕ) (o : Option ℕ) → Fine (λ r. Unit {0}) (parameter_code variables slot o)
  plain_parameter slot None = (tt, tt)
  plain_parameter slot (Some number) = (tt, (tt, tt))

  plain_parameters : (slot count : ℕ) → Fine (λ r. Unit {0}) (parameters_code outer variables slot count)
  plain_parameters slot zero = tt
  plain_parameters slot (suc count) = fine_append (λ r. Unit {0}) _ _ (plain_parameter slot (outer slot)) (plain_parameters (suc slot) count)

  module _ (quads : List Quad) (x n : ℕ) where
    parameter_dead : (at end slot : ℕ) (o : Option ℕ) → outer slot ≡ o → Stands quads at (parameter_code variables slot o) end → ((x ≡ slot → outer x ≡ None → ⊥) → Dead quads x n end) → Dead quads x n at
    parameter_dead at end slot None is s d =
        on quads x n at _ s.0 refl refl (λ w. moved quads x n _ end s.1 (d (λ same e. let here : (x == slot) ≡ true = grind (arith, same) in not_true (sym w ∙ here))))
    parameter_dead at end slot (Some number) is s d =
        on quads x n at _ s.0 refl refl (λ w. on quads x n _ _ s.1.0 refl w (λ w2. moved quads x n _ end s.1.1 (d (λ same e. let no : None ≡ Some number = sym e ∙ ap outer same ∙ is in cc))))

    parameters_dead : (count slot at end : ℕ) → Stands quads at (parameters_code outer variables slot count) end → ((slot ≤ x → x < slot + count → outer x ≡ None → ⊥) → Dead quads x n end) → Dead quads x n at
    parameters_dead zero slot at end s d = moved quads x n at end s (d (λ a b e. absurd (omega arith)))
    parameters_dead (suc count) slot at end s d =
        let t = split quads at end (parameter_code variables slot (outer slot)) (parameters_code outer variables (suc slot) count) s in
        parameter_dead at _ slot (outer slot) refl t.0 (λ here. parameters_dead count (suc slot) _ end t.1 (λ later. d (λ a b e. by (x == slot) refl here later a b e)))
      where
        by : (c : Bool) → (x == slot) ≡ c → (x ≡ slot → outer x ≡ None → ⊥) → (suc slot ≤ x → x < suc slot + count → outer x ≡ None → ⊥) → slot ≤ x → x < slot + suc count → outer x ≡ None → ⊥
        by true h here later a b e = here (let same : x ≡ slot = grind (arith, h) in same) e
        by false h here later a b e = later (let more : suc slot ≤ x = grind (arith, h, a) in more) (omega arith) e

-- ---- a function

module _ (base_of size_of : (global : ℕ) → ℕ) (globals : ℕ) (MayCall : Region → (function values : ℕ) → Type 0) (met : Counts) (function : Function) where
  shared_out : (x : ℕ) → some_in_body (is_sharing x) (rows_of function.body) ≡ true → outer_of function.body x ≡ None → ⊥
  shared_out x h e =
      let is : is_shared function.body x ≡ true = sym (in_rows (is_sharing x) function.body) ∙ h in
      let some : outer_of function.body x ≡ Some (shared_below function.body x) = ap (λ b. if b then Some (shared_below function.body x) else None) is in
      let no : None ≡ Some (shared_below function.body x) = sym e ∙ some in
      cc

  function_live : (f : QuadFunction) → f.quads ≡ map (λ l. l.quad) (function_code base_of size_of met function) → function.params ≤ function.variables →
      SequenceKnown globals MayCall function.variables (outer_of function.body) (λ x. nat_lt x function.params) false Serial (rows_of function.body) → HasLiveRegisters f
  function_live f is params known =
      let outer = outer_of function.body in
      let variables = function.variables in
      let begin = parameters_code outer variables 0 function.params in
      let at = 0 + length begin in
      let body = sequence_at base_of size_of outer variables at 0 0 met (rows_of function.body) in
      let last = one 0 (quad.Return (Literal 0)) in
      let code = function_code base_of size_of met function in
      let s : Stands f.quads 0 code (0 + length code) = stands_from f.quads [] code 0 is refl in
      let t = split f.quads 0 (0 + length code) begin (body ++ last) s in
      let v = split f.quads at (0 + length code) body last t.1 in
      let kept = kept_append f.quads 0 begin (body ++ last) (fine_kept f.quads (λ r. Unit {0}) 0 begin (plain_parameters outer variables 0 function.params))
      (kept_append f.quads at body last (sequence_kept f.quads base_of size_of outer variables globals MayCall at 0 0 (at + length body) met (rows_of function.body) (λ x. nat_lt x function.params) false Serial known v.0 (λ x h. below x h params) shared_out) (tt, tt)) in
      record {
        none_at_first = λ r live. not_live f.quads r 0 live
            (λ n.
            parameters_dead outer variables f.quads r n function.params 0 0 at t.0 (λ after.
            sequence_dead f.quads r base_of size_of outer variables globals MayCall n at 0 0 (at + length body) met (rows_of function.body) (λ x. nat_lt x function.params) false Serial known v.0
            (λ h e. after (omega arith) (let less : r < 0 + function.params = grind (arith, h) in less) e) (λ h. absurd (not_true h)) (λ h. absurd (not_true h)) (λ u. return f.quads r n _ (Literal 0) v.1.0 refl)));
        kept_in_block = λ spawn join at r q block inside here w live.
            kept_there f.quads 0 (0 + length code) spawn code s kept (omega arith)
            (let less = slice_get_within f.quads spawn _ block.spawns.2 in let long : length f.quads ≡ length code = ap length is ∙ length-map code (λ (l : Lined). l.quad) in omega arith)
            block.spawns.0 block.spawns.1 block.spawns.2 join at r q block inside here w live;
      }
    where
      below : (x : ℕ) → nat_lt x function.params ≡ true → function.params ≤ function.variables → x < function.variables
      below x h params = let less : x < function.params = grind (arith, h) in omega arith

-- ---- a program

no_more : {X : Type 0} (x : X) (xs : List X) → x ∷ xs ≡ [] → ⊥
no_more x xs h = cc

first_same : {X : Type 0} (x y : X) (xs ys : List X) → x ∷ xs ≡ y ∷ ys → x ≡ y
first_same x y xs ys h = cc

rest_same : {X : Type 0} (x y : X) (xs ys : List X) → x ∷ xs ≡ y ∷ ys → xs ≡ ys
rest_same x y xs ys h = cc

module _ (program : Program) (inner : (function : ℕ) → Bool) where
  abbrev Good : Function → Type 0
  Good function = (function.params ≤ function.variables) × BodyKnown program inner Serial function

  all_live : (fs : List QuadFunction) (sources : List Function) (met : Counts) → map (λ f. f.quads) fs ≡ map (λ code. map (λ l. l.quad) code) (codes_from program met sources) → All Good sources → All HasLiveRegisters fs
  all_live [] sources met is good = λ k d lt. absurd (omega arith)
  all_live (f ∷ fs) [] met is good = absurd (no_more _ _ is)
  all_live (f ∷ fs) (g ∷ gs) met is good =
      let here : Good g = All-head Good g gs good in
      All-cons HasLiveRegisters f fs
      (function_live (first_word program.globals) (words_of program.globals) (length program.globals) (MayCall program inner) met g f (first_same _ _ _ _ is) here.0 here.1)
      (all_live fs gs (behind_all met (rows_of g.body)) (rest_same _ _ _ _ is) (All-tail Good g gs good))

pub live_registers : QuadsHaveLiveRegisters
live_registers program inner quads known code =
    all_live program inner quads.functions program.functions (record { spawned = 0; printed = 0 }) code.are_quads
    (λ k d lt. let there = slice_get-get_or program.functions k d lt in (known.params k (get_or program.functions k d) there, known.serial k (get_or program.functions k d) there))
