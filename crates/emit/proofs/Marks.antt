-- What the marks of a block say on the way through its quads.
use Rattle.std.proofs.Common.{◌≡◌, refl, sym, ◌∙◌, ap, arith, ℕ, ◌+◌, ◌<◌, ◌≤◌, List, ◌∷◌, length, get_or, set, drop, Some, None, true, false, inl, inr}
use Rattle.std.specs.Prelude.{◌⊎◌, ◌==◌, ◌||◌, Bool}
use Rattle.std.proofs.lemmas.Bool.Decides.{eqb_tells}
use Rattle.std.proofs.lemmas.List.{drop_more, drop_all, get_or-set_same, get_or-set_other}
use Rattle.xmt_quads.specs.declared.code.Quad.{Quad}
use Rattle.xmt_quads.specs.declared.code.Quad.TheVariants as quad
use Rattle.xmt_quads.specs.Live.{writes}
use Rattle.xmt_quads.specs.WellFormed.{AreBelow}
use Rattle.quad_images.specs.Image.{written_in, all_own, own_behind}
use Rattle.emit.specs.Emitted.{register_of, ends_block, begins_block}

or-false : (a : Bool) → (a || false) ≡ a
or-false true = refl
or-false false = refl

written_join : (q : Quad) (rest : List Quad) (r : ℕ) → ends_block q ≡ true → written_in (q ∷ rest) r ≡ false
written_join quad.Join rest r is = refl
written_join _ rest r is = cc

written_other : (q : Quad) (rest : List Quad) (r : ℕ) → ends_block q ≡ false → written_in (q ∷ rest) r ≡ (writes r q || written_in rest r)
written_other quad.Join rest r is = cc
written_other _ rest r is = refl

writes_some : (q : Quad) (r x : ℕ) → register_of q ≡ Some x → writes r q ≡ (r == x)
writes_some (quad.Copy y o) r x is = let same : y ≡ x = cc in ap (λ y. r == y) same
writes_some (quad.Unary op y o) r x is = let same : y ≡ x = cc in ap (λ y. r == y) same
writes_some (quad.Binary op y a b) r x is = let same : y ≡ x = cc in ap (λ y. r == y) same
writes_some (quad.Dollar y) r x is = let same : y ≡ x = cc in ap (λ y. r == y) same
writes_some (quad.Load y place) r x is = let same : y ≡ x = cc in ap (λ y. r == y) same
writes_some (quad.Add y place o) r x is = let same : y ≡ x = cc in ap (λ y. r == y) same
writes_some (quad.Parameter y k) r x is = let same : y ≡ x = cc in ap (λ y. r == y) same
writes_some (quad.Result y) r x is = let same : y ≡ x = cc in ap (λ y. r == y) same
writes_some _ r x is = cc

writes_none : (q : Quad) (r : ℕ) → register_of q ≡ None → writes r q ≡ false
writes_none (quad.Copy y o) r is = cc
writes_none (quad.Unary op y o) r is = cc
writes_none (quad.Binary op y a b) r is = cc
writes_none (quad.Dollar y) r is = cc
writes_none (quad.Load y place) r is = cc
writes_none (quad.Add y place o) r is = cc
writes_none (quad.Parameter y k) r is = cc
writes_none (quad.Result y) r is = cc
writes_none _ r is = refl

-- a quad that writes a register has it below their number
pub register_low : (n : ℕ) (q : Quad) (x : ℕ) → AreBelow n q → register_of q ≡ Some x → x < n
register_low n q x below is = below x (inr (writes_some q x x is ∙ (let same : (x == x) ≡ true = grind arith in same)))

or_swap : (a b c : Bool) → ((a || b) || c) ≡ (b || (a || c))
or_swap true true c = refl
or_swap true false c = refl
or_swap false true c = refl
or_swap false false c = refl

set_mark : (marks : List Bool) (x r : ℕ) → x < length marks → get_or (set marks x true) r false ≡ ((r == x) || get_or marks r false)
set_mark marks x r below = by (eqb_tells r x)
  where
    by : (((r == x) ≡ true) × (r ≡ x)) ⊎ (((r == x) ≡ false) × (¬ (r ≡ x))) → get_or (set marks x true) r false ≡ ((r == x) || get_or marks r false)
    by (inl same) = ap (λ r. get_or (set marks x true) r false) same.1 ∙ get_or-set_same marks x true false below ∙ sym (ap (λ b. b || get_or marks r false) same.0)
    by (inr other) = get_or-set_other marks x r true false other.1 ∙ sym (ap (λ b. b || get_or marks r false) other.0)

-- at the next join
pub marks_join : (marks : List Bool) (quads : List Quad) (i r : ℕ) (q : Quad) (whole : Bool) → i < length quads → q ≡ get_or quads i q → ends_block q ≡ true → (get_or marks r false || written_in (drop i quads) r) ≡ whole → get_or marks r false ≡ whole
marks_join marks quads i r q whole below here is h =
    let rest : drop i quads ≡ q ∷ drop (i + 1) quads = drop_more quads i q below ∙ ap (λ x. x ∷ drop (i + 1) quads) (sym here) in
    sym (or-false (get_or marks r false)) ∙ ap (λ b. get_or marks r false || b) (sym (ap (λ quads. written_in quads r) rest ∙ written_join q (drop (i + 1) quads) r is)) ∙ h

-- and at the end
pub marks_end : (marks : List Bool) (quads : List Quad) (i r : ℕ) (whole : Bool) → length quads ≤ i → (get_or marks r false || written_in (drop i quads) r) ≡ whole → get_or marks r false ≡ whole
marks_end marks quads i r whole past h = sym (or-false (get_or marks r false)) ∙ ap (λ quads. get_or marks r false || written_in quads r) (sym (drop_all i quads past)) ∙ h

-- one quad on
pub marks_none : (marks : List Bool) (quads : List Quad) (i r : ℕ) (q : Quad) (whole : Bool) → i < length quads → q ≡ get_or quads i q → ends_block q ≡ false → register_of q ≡ None → (get_or marks r false || written_in (drop i quads) r) ≡ whole →
    (get_or marks r false || written_in (drop (i + 1) quads) r) ≡ whole
marks_none marks quads i r q whole below here is none h =
    let rest : drop i quads ≡ q ∷ drop (i + 1) quads = drop_more quads i q below ∙ ap (λ x. x ∷ drop (i + 1) quads) (sym here) in
    let first : written_in (drop i quads) r ≡ written_in (drop (i + 1) quads) r = ap (λ quads. written_in quads r) rest ∙ written_other q (drop (i + 1) quads) r is ∙ ap (λ b. b || written_in (drop (i + 1) quads) r) (writes_none q r none) in
    ap (λ b. get_or marks r false || b) (sym first) ∙ h

pub marks_some : (marks : List Bool) (quads : List Quad) (i r : ℕ) (q : Quad) (x : ℕ) (whole : Bool) → i < length quads → q ≡ get_or quads i q → ends_block q ≡ false → register_of q ≡ Some x → x < length marks → (get_or marks r false || written_in (drop i quads) r) ≡ whole →
    (get_or (set marks x true) r false || written_in (drop (i + 1) quads) r) ≡ whole
marks_some marks quads i r q x whole below here is some low h =
    let rest : drop i quads ≡ q ∷ drop (i + 1) quads = drop_more quads i q below ∙ ap (λ x. x ∷ drop (i + 1) quads) (sym here) in
    let first : written_in (drop i quads) r ≡ ((r == x) || written_in (drop (i + 1) quads) r) = ap (λ quads. written_in quads r) rest ∙ written_other q (drop (i + 1) quads) r is ∙ ap (λ b. b || written_in (drop (i + 1) quads) r) (writes_some q r x some) in
    ap (λ b. b || written_in (drop (i + 1) quads) r) (set_mark marks x r low) ∙ or_swap (r == x) (get_or marks r false) (written_in (drop (i + 1) quads) r) ∙ ap (λ b. get_or marks r false || b) (sym first) ∙ h

-- ---- behind a quad

pub behind_spawn : (own : ℕ → Bool) (q : Quad) (behind : List Quad) → begins_block q ≡ true → own_behind own q behind ≡ written_in behind
behind_spawn own (quad.Spawn low high) behind is = refl
behind_spawn own _ behind is = cc

pub behind_join : (own : ℕ → Bool) (q : Quad) (behind : List Quad) → ends_block q ≡ true → own_behind own q behind ≡ all_own
behind_join own quad.Join behind is = refl
behind_join own _ behind is = cc

pub behind_other : (own : ℕ → Bool) (q : Quad) (behind : List Quad) → begins_block q ≡ false → ends_block q ≡ false → own_behind own q behind ≡ own
behind_other own (quad.Spawn low high) behind first second = cc
behind_other own quad.Join behind first second = cc
behind_other own _ behind first second = refl
