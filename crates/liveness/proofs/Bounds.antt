-- The registers that quads read are below a number.
use Rattle.std.proofs.Common.{ℕ, ◌≡◌, ◌<◌, ◌≤◌, ◌+◌, refl, ◌∙◌, ap, sym, arith, true, List, Some, length, inl, inr}
use Rattle.std.specs.Prelude.{◌||◌, max, slice_get}
use Rattle.std.proofs.lemmas.Bool.{or_cases, false≢true, cases_eq, eqb-true}
use Rattle.std.proofs.lemmas.Option.{slice_get_within}
use Rattle.xmt_quads.specs.declared.code.Operand.{Operand}
use Rattle.xmt_quads.specs.declared.code.Operand.TheVariants.{Reg, Literal}
use Rattle.xmt_quads.specs.declared.code.Where.{Where}
use Rattle.xmt_quads.specs.declared.code.Where.TheVariants.{Element}
use Rattle.xmt_quads.specs.declared.code.Quad.{Quad}
use Rattle.xmt_quads.specs.declared.code.Quad.TheVariants as quad
use Rattle.xmt_quads.specs.Live.{is_register, is_index, reads, IsLive, is_read, is_kept}
use Rattle.liveness.specs.Operands.{index_of, first_of, second_of, above, above_all, AreReadBelow}

index_is : (r : ℕ) (place : Where) → is_register r (index_of place) ≡ is_index r place
index_is r (Element base index) = refl
index_is r _ = refl

-- what a quad reads is one of its two operands
pub by_operands : (r : ℕ) (q : Quad) → (is_register r (first_of q) || is_register r (second_of q)) ≡ reads r q
by_operands r (quad.Load to place) = index_is r place
by_operands r (quad.Store place o) = ap (λ b. b || is_register r o) (index_is r place)
by_operands r (quad.Add to place o) = ap (λ b. b || is_register r o) (index_is r place)
by_operands r _ = refl

is_below : (r : ℕ) (o : Operand) → is_register r o ≡ true → r < above o
is_below r (Reg other) same = let e : r ≡ other = eqb-true r other same in omega (arith, e)
is_below r (Literal n) same = absurd (false≢true same)

read_below : (r : ℕ) (q : Quad) → reads r q ≡ true → r < above_all q
read_below r q read = elim (or_cases (is_register r (first_of q)) (is_register r (second_of q)) (by_operands r q ∙ read)) [
  | inl first ↦ let below : r < above (first_of q) = is_below r (first_of q) first in omega arith
  | inr second ↦ let below : r < above (second_of q) = is_below r (second_of q) second in omega arith
]

some_same : {x y : Quad} → Some x ≡ Some y → x ≡ y
some_same e = cc

-- the registers that the quads in front of a place read are below a number
abbrev pub AreReadBefore : List Quad → (place bound : ℕ) → Type 0
AreReadBefore quads place bound = (at r : ℕ) (q : Quad) → at < place → slice_get quads at ≡ Some q → reads r q ≡ true → r < bound

pub read_one_more : (quads : List Quad) (place bound : ℕ) (item : Quad) → slice_get quads place ≡ Some item → AreReadBefore quads place bound → AreReadBefore quads (place + 1) (max bound (above_all item))
read_one_more quads place bound item is before at r q within here read = elim (cases_eq at place) [
  | inl same ↦
      let items : q ≡ item = some_same (sym here ∙ ap (slice_get quads) same ∙ is) in
      let below : r < above_all item = read_below r item (sym (ap (reads r) items) ∙ read) in
      omega arith
  | inr other ↦ let below : r < bound = before at r q (omega arith) here read in omega arith
]

pub read_all : (quads : List Quad) (place bound : ℕ) → length quads ≤ place → AreReadBefore quads place bound → AreReadBelow quads bound
read_all quads place bound past before = record {
  below = λ at r q here read. let within : at < length quads = slice_get_within quads at q here in before at r q (omega arith) here read;
}

-- and so are those that are live somewhere
pub live_below : (quads : List Quad) (bound r at : ℕ) → AreReadBelow quads bound → IsLive quads r at → r < bound
live_below quads bound r place below (is_read at q here read) = below.below at r q here read
live_below quads bound r place below (is_kept at to q here kept among rest) = live_below quads bound r to below rest
