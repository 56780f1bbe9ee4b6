-- The slots below the number of registers, as homes.
use Rattle.std.proofs.Common.{◌≡◌, refl, sym, ◌∙◌, ap, subst, arith, ℕ, zero, suc, ◌+◌, ◌<◌, ◌≤◌, true, false, List, [], ◌∷◌, length, map, Option, Some, None, All}
use Rattle.std.specs.Prelude.{Bool, nat_le, slice_get}
use Rattle.std.specs.List.{range_with_len}
use Rattle.std.proofs.lemmas.List.Elements.{All-nil, All-cons, All-head, All-tail}
use Rattle.std.proofs.lemmas.List.FromFn.{length-map-range_with_len}
use Rattle.xmt_quads.specs.declared.homes.Home.{Home}
use Rattle.xmt_quads.specs.declared.homes.Home.TheVariants.{Reg, Slot}
use Rattle.xmt_quads.specs.declared.code.QuadFunction.{QuadFunction}
use Rattle.xmt_quads.specs.declared.code.QuadProgram.{QuadProgram}
use Rattle.xmt_quads.specs.Allocation.{IsHome, IsAllocationOf, HasOwnSlots}

abbrev pub slots_from : (first count : ℕ) → List Home
slots_from first count = map (λ slot. Slot slot) (range_with_len first count)

abbrev pub own_slots : List QuadFunction → List (List Home)
own_slots functions = map (λ f. slots_from 0 f.registers) functions

are_homes : (first count : ℕ) → first + count ≤ 456 → All IsHome (slots_from first count)
are_homes first zero few = All-nil IsHome
are_homes first (suc count) few = All-cons IsHome (Slot first) (slots_from (first + 1) count) (omega (arith, few)) (are_homes (first + 1) count (omega (arith, few)))

slot_at : (first count r : ℕ) → r < count → slice_get (slots_from first count) r ≡ Some (Slot (first + r))
slot_at first zero r below = absurd (omega (arith, below))
slot_at first (suc count) zero below = let e : first ≡ first + 0 = omega arith in ap (λ slot. Some (Slot slot)) e
slot_at first (suc count) (suc r) below = let e : first + 1 + r ≡ first + suc r = omega arith in slot_at (first + 1) count r (omega (arith, below)) ∙ ap (λ slot. Some (Slot slot)) e

none_past : (first count r : ℕ) → count ≤ r → slice_get (slots_from first count) r ≡ None
none_past first zero r past = refl
none_past first (suc count) zero past = absurd (omega (arith, past))
none_past first (suc count) (suc r) past = none_past (first + 1) count r (omega (arith, past))

number_of : Option Home → ℕ
number_of None = 0
number_of (Some (Reg r)) = 0
number_of (Some (Slot slot)) = suc slot

own_here : (count : ℕ) → HasOwnSlots (slots_from 0 count)
unfolding number_of
own_here count =
    record {
      slots = λ r below. (0 + r, slot_at 0 count r (omega (arith, below, length-map-range_with_len (λ slot. Slot slot) 0 count)));
      own = λ r other below same. by_place r other (omega (arith, below, length-map-range_with_len (λ slot. Slot slot) 0 count)) same;
    }
  where
    by_place : (r other : ℕ) → r < count → slice_get (slots_from 0 count) r ≡ slice_get (slots_from 0 count) other → r ≡ other
    by_place r other below same =
        let here : number_of (slice_get (slots_from 0 count) other) ≡ suc (0 + r) = ap number_of (sym same ∙ slot_at 0 count r below) in
        by_other (nat_le count other) refl here
      where
        by_other : (b : Bool) → nat_le count other ≡ b → number_of (slice_get (slots_from 0 count) other) ≡ suc (0 + r) → r ≡ other
        by_other true e here = let none : number_of (slice_get (slots_from 0 count) other) ≡ 0 = ap number_of (none_past 0 count other (grind (arith, e))) in absurd (omega (arith, here, none))
        by_other false e here = let there : number_of (slice_get (slots_from 0 count) other) ≡ suc (0 + other) = ap number_of (slot_at 0 count other (grind (arith, e))) in omega (arith, here, there)

-- the lists of homes of these functions
pub counts_of : (functions : List QuadFunction) → map (λ of_function. length of_function) (own_slots functions) ≡ map (λ f. f.registers) functions
counts_of [] = refl
counts_of (f ∷ functions) =
    ap (λ count. count ∷ map (λ of_function. length of_function) (own_slots functions)) (length-map-range_with_len (λ slot. Slot slot) 0 f.registers) ∙
    ap (λ counts. f.registers ∷ counts) (counts_of functions)

all_homes : (functions : List QuadFunction) → All (λ f. f.registers ≤ 456) functions → All (All IsHome) (own_slots functions)
all_homes [] few = All-nil (All IsHome)
all_homes (f ∷ functions) few =
    All-cons (All IsHome) (slots_from 0 f.registers) (own_slots functions) (are_homes 0 f.registers (omega (arith, All-head (λ f. f.registers ≤ 456) f functions few)))
    (all_homes functions (All-tail (λ f. f.registers ≤ 456) f functions few))

own_all : (functions : List QuadFunction) → All HasOwnSlots (own_slots functions)
own_all [] = All-nil HasOwnSlots
own_all (f ∷ functions) = All-cons HasOwnSlots (slots_from 0 f.registers) (own_slots functions) (own_here f.registers) (own_all functions)

pub is_allocation : (program : QuadProgram) (homes : List (List Home)) → homes ≡ own_slots program.functions → All (λ f. f.registers ≤ 456) program.functions → IsAllocationOf program homes
is_allocation program homes same few =
    record {
      one_for_each = ap (λ homes. map (λ of_function. length of_function) homes) same ∙ counts_of program.functions;
      are_homes = subst (All (All IsHome)) (sym same) (all_homes program.functions few);
    }

pub has_own_slots : (functions : List QuadFunction) (homes : List (List Home)) → homes ≡ own_slots functions → All HasOwnSlots homes
has_own_slots functions homes same = subst (All HasOwnSlots) (sym same) (own_all functions)
