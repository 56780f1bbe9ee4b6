-- The quads of a print keep to the source.
use Rattle.std.proofs.Common.{◌≡◌, refl, sym, ◌∙◌, ap, subst, arith, ℕ, zero, suc, ◌+◌, ◌-◌, ◌*◌, ◌≤◌, true, false, if◌then◌else◌, List, [], ◌∷◌, ◌++◌, length, length-append, Some}
use Rattle.std.specs.Prelude.{◌==◌, Bool, slice_get}
use Rattle.xmt_base.specs.Action as action
use Rattle.xmt_base.specs.Format.{directives}
use Rattle.xmt_base.specs.Text.{placed, piece_from, piece}
use Rattle.source_meaning.specs.declared.tree.Expr.{Expr}
use Rattle.source_meaning.specs.declared.tree.StmtKind.TheVariants as stmt
use Rattle.source_meaning.specs.Term.{More, Done, Print}
use Rattle.source_meaning.specs.Next.{Next, Asks, Printing, next_within, next_values}
use Rattle.source_meaning.specs.Code.{expression, expressions, row_terms}
use Rattle.xmt_quads.specs.declared.code.Quad.TheVariants as quad
use Rattle.xmt_quads.specs.Program.{text_at}
use Rattle.xmt_quads.specs.Meaning.{Registers, places_from}
use Rattle.quad_code.specs.Lined.{Lined, Prints}
use Rattle.quad_code.specs.Rows.{row_of}
use Rattle.quad_code.specs.Expressions.{arguments_of}
use Rattle.quad_code.proofs.Setting.{Setting, Point, thread_at, has_front, has_back}
use Rattle.quad_code.proofs.Steps.{within_within, meets_at, tells}
use Rattle.quad_code.proofs.Kept.{richer}
use Rattle.quad_code.proofs.Simulation.{AllKept}
use Rattle.quad_code.proofs.Values.{terms_of, HasValues, ValuesContext, values_code, values_kept, arguments_kept}
use Rattle.quad_code.proofs.Calls.{values_known}
use Rattle.quad_code.proofs.KeptCode.{KeptCode, same}

-- ---- what is printed goes by as many values as the text has places for

-- further values make no difference
piece_more : (behind : Bool) (text vs more : List ℕ) → directives behind text ≤ length vs → piece_from behind text (vs ++ more) ≡ piece_from behind text vs
piece_more behind [] vs more h = refl
piece_more false (byte ∷ text) vs more h = ap (λ rest. (if byte == 37 then [] else byte ∷ []) ++ rest) (piece_more (byte == 37) text vs more h)
piece_more true (byte ∷ text) vs more h = by_byte (λ vs few. piece_more false text vs more few) (byte == 100) refl vs h
  where
    by_byte : ((vs : List ℕ) → directives false text ≤ length vs → piece_from false text (vs ++ more) ≡ piece_from false text vs) → (b : Bool) → (byte == 100) ≡ b → (vs : List ℕ) → directives true (byte ∷ text) ≤ length vs → piece_from true (byte ∷ text) (vs ++ more) ≡ piece_from true (byte ∷ text) vs
    by_byte further false e vs h =
        let few : directives false text ≤ length vs = subst (λ b. (if b then 1 + directives false text else directives false text) ≤ length vs) e h in
        rw e (ap (λ rest. (byte ∷ []) ++ rest) (further vs few))
    by_byte further true e [] h =
        let some : 1 + directives false text ≤ 0 = subst (λ b. (if b then 1 + directives false text else directives false text) ≤ 0) e h in
        absurd (omega (arith, some))
    by_byte further true e (v ∷ vs) h =
        let some : 1 + directives false text ≤ length (v ∷ vs) = subst (λ b. (if b then 1 + directives false text else directives false text) ≤ length (v ∷ vs)) e h in
        let few : directives false text ≤ length vs = omega (arith, some) in
        rw e (ap (λ rest. placed 100 (v ∷ vs) ++ rest) (further vs few))

-- the places of a list that holds these values begin with them
places_are : (list : ℕ → ℕ) (first count : ℕ) (vs : List ℕ) → length vs ≤ count → ((i v : ℕ) → slice_get vs i ≡ Some v → list (first + i) ≡ v) → places_from list first count ≡ vs ++ places_from list (first + length vs) (count - length vs)
places_are list first count [] few holds =
    let at : first ≡ first + 0 = omega arith in
    let left : count ≡ count - 0 = omega arith in
    ap (λ first. places_from list first count) at ∙ ap (places_from list (first + 0)) left
places_are list first zero (v ∷ vs) few holds = absurd (omega (arith, few))
places_are list first (suc count) (v ∷ vs) few holds =
    let here : first + 0 ≡ first = omega arith in
    let at : suc first + length vs ≡ first + length (v ∷ vs) = omega arith in
    let left : count - length vs ≡ suc count - length (v ∷ vs) = omega arith in
    let head : list first ≡ v = ap list (sym here) ∙ holds 0 v refl in
    let rest = places_are list (suc first) count vs (omega (arith, few)) (λ i w is. let next : suc first + i ≡ first + suc i = omega arith in ap list next ∙ holds (suc i) w is) in
    ap (λ x. x ∷ places_from list (suc first) count) head ∙
    ap (λ xs. v ∷ xs) (rest ∙ ap (λ at. vs ++ places_from list at (count - length vs)) at ∙ ap (λ left. vs ++ places_from list (first + length (v ∷ vs)) left) left)

-- a text prints the same by the argument list as by its values
piece_is : (text vs : List ℕ) (list : ℕ → ℕ) → directives false text ≡ length vs → length vs ≤ 16 → ((i v : ℕ) → slice_get vs i ≡ Some v → list (0 + i) ≡ v) → piece text (places_from list 0 16) ≡ piece text vs
piece_is text vs list count few holds =
    ap (piece text) (places_are list 0 16 vs few holds) ∙ piece_more false text vs (places_from list (0 + length vs) (16 - length vs)) (omega (arith, count))

-- as many values as expressions
pub values_count : (registers : Registers) (r : ℕ) (values : List Expr) (vs : List ℕ) → HasValues registers r (row_of values) vs → length vs ≡ length values
values_count registers r [] [] has = refl
values_count registers r [] (v ∷ vs) has = absurd has
values_count registers r (e ∷ values) [] has = absurd has
values_count registers r (e ∷ values) (v ∷ vs) has = let rest = values_count registers (r + 1) values vs has.1 in omega (arith, rest)

module _ (s : Setting) where
  -- the terms of the expressions, by their row
  terms_are : (values : List Expr) → row_terms s.globals s.own s.frame (row_of values) ≡ expressions s.globals s.own s.frame values
  terms_are [] = refl
  terms_are (e ∷ values) = ap (More (expression s.globals s.own s.frame e)) (terms_are values)

module _ (s : Setting) {U S : Type 0} (whole : U → Next U S) where
  pub print_kept : (line : ℕ) (text : _) (values : List Expr) → AllKept s whole (row_of values) → KeptCode s whole line (stmt.Print text values)
  print_kept line text values all c n credit low at leave again met loop p x rich spare stands below fits e leads =
      let v = s.variables in
      let row = row_of values in
      let cv = values_code s whole at v row in
      let at1 = at + length cv in
      let ca = arguments_of s.base_of s.size_of s.outer line 0 v row in
      let at2 = at1 + length ca in
      let last : List Lined = record { quad = quad.Print met.printed; line = line; note = Prints text } ∷ [] in
      let behind = has_back s.program s.function at cv (ca ++ last) stands in
      let here = has_back s.program s.function at1 ca last behind in
      let nexts = next_values s.number s.call_code s.depth in
      let context : ValuesContext s whole =
      record {
        around = λ ts. c.around (Print text ts);
        go = λ vs. next_within c.around (Asks (Printing (piece text vs)) (λ _. Done)) c.go;
        part = λ ts. c.part (Print text ts) ∙ within_within (Print text) c.around (nexts ts) (λ vs. Asks (Printing (piece text vs)) (λ _. Done)) c.go;
      } in
      let ts = row_terms s.globals s.own s.frame row in
      same s whole n credit at x (c.around (Print text ts)) p (e ∙ sym (ap (λ ts. whole (c.around (Print text ts))) (terms_are s values) ∙ c.part (Print text (expressions s.globals s.own s.frame values))))
      (values_kept s whole row all v context n credit at p (omega arith) rich (has_front s.program s.function at cv (ca ++ last) stands) below.0 fits
      (λ q vs reach has.
      let count = values_count q.registers v values vs has in
      let left = credit - 2 * length vs in
      let few : length vs ≤ 16 = omega (arith, count, below.2) in
      arguments_kept s whole row vs line 0 v n credit left at1 q (c.around (Print text (terms_of vs))) (has_front s.program s.function at1 ca last behind) has (omega (arith, few, rich))
      (λ list keeps holds.
      let q2 : Point = record q { list = list } in
      let printed : piece (text_at s.program met.printed) (places_from list 0 16) ≡ piece text vs = ap (λ text. piece text (places_from list 0 16)) here.3 ∙ piece_is text vs list (below.1 ∙ sym count) few holds in
      tells s whole n left (left + 60) at2 (quad.Print met.printed) (action.Print (piece (text_at s.program met.printed) (places_from list 0 16))) q2 (λ reply. thread_at s (at2 + 1) q2) (c.around (Print text (terms_of vs))) (Printing (piece text vs)) (λ _. c.around Done)
      here.0 refl refl
      (context.part (terms_of vs) ∙ ap (λ m. next_within context.around m context.go) (values_known s whole vs))
      (ap (λ bytes. action.Print bytes ∷ []) (sym printed)) refl (λ replies. refl) (omega arith)
      (λ reply.
      richer s whole (c.around Done) n credit (left + 60) (at2 + 1) q2 (omega (arith, few))
      (meets_at s whole (c.around Done) n credit (at + length (cv ++ (ca ++ last))) (at2 + 1) q2 (omega (arith, length-append cv (ca ++ last), length-append ca last))
      (leads.ends q2 (c.around Done) (c.part Done) (record { waits = reach.waits; spares = reach.spares; fits = reach.fits })))))))
