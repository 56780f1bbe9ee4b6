-- In the code of a program whose names are known, blocks and jumps nest in each function.
use Rattle.std.proofs.Common.{◌≡◌, refl, sym, ◌∙◌, ap, subst, ℕ, zero, suc, Bool, true, false, List, [], ◌∷◌, Option, Some, None}
use Rattle.std.specs.Prelude.{map, All, IsSomeAnd, slice_get, option_map}
use Rattle.std.proofs.lemmas.List.Elements.{All-nil, All-cons}
use Rattle.std.proofs.lemmas.Option.{slice_get-map}
use Rattle.source_meaning.specs.declared.tree.Function.{Function}
use Rattle.source_meaning.specs.declared.tree.Program.{Program}
use Rattle.source_meaning.specs.Layout.{first_word, words_of}
use Rattle.xmt_quads.specs.declared.code.QuadFunction.{QuadFunction}
use Rattle.xmt_quads.specs.declared.code.QuadProgram.{QuadProgram}
use Rattle.xmt_quads.specs.Regions.{IsInner, HasRegions}
use Rattle.quad_code.specs.Lined.{Lined}
use Rattle.quad_code.specs.Rows.{rows_of}
use Rattle.quad_code.specs.Statements.{Counts, behind_all}
use Rattle.quad_code.specs.Functions.{function_code}
use Rattle.quad_code.specs.Whole.{HasFunction, BodyKnown, IsKnown, IsCodeOf, codes_from, codes_of}
use Rattle.quad_regions.specs.Law.{AreMarked, QuadsHaveRegions}
use Rattle.quad_regions.proofs.Keeps.{region_of}
use Rattle.quad_regions.proofs.Functions.{quads_of_code, function_has_regions}

-- ---- elements of lists

from_map : {A B : Type 0} (g : A → B) (xs : List A) (i : ℕ) (y : B) → slice_get (map g xs) i ≡ Some y → (x : A) × (slice_get xs i ≡ Some x) × (g x ≡ y)
from_map g [] i y e = cc
from_map g (x ∷ xs) zero y e = (x, refl, cc)
from_map g (x ∷ xs) (suc i) y e = from_map g xs i y e

to_map : {A B : Type 0} (g : A → B) (xs : List A) (i : ℕ) (x : A) → slice_get xs i ≡ Some x → slice_get (map g xs) i ≡ Some (g x)
to_map g xs i x e = slice_get-map g xs i ∙ ap (option_map g) e

all_of : {A : Type 0} (P : A → Type 0) (xs : List A) → ((i : ℕ) (x : A) → slice_get xs i ≡ Some x → P x) → All P xs
all_of P [] each = All-nil P
all_of P (x ∷ xs) each = All-cons P x xs (each 0 x refl) (all_of P xs (λ i y found. each (suc i) y found))

-- ---- codes and their functions

module _ (program : Program) where
  abbrev code_in : Counts → Function → List Lined
  code_in met function = function_code (first_word program.globals) (words_of program.globals) met function

  -- the function whose code this is
  pub record IsCodeAt (functions : List Function) (i : ℕ) (code : List Lined) : Type 0 where
    pub function : Function
    pub met : Counts
    pub found : slice_get functions i ≡ Some function
    pub is : code_in met function ≡ code

  code_at_place : (met : Counts) (functions : List Function) (i : ℕ) (code : List Lined) → slice_get (codes_from program met functions) i ≡ Some code → IsCodeAt functions i code
  code_at_place met [] i code e = cc
  code_at_place met (function ∷ functions) zero code e = record { function = function; met = met; found = refl; is = cc }
  code_at_place met (function ∷ functions) (suc i) code e =
      let c = code_at_place (behind_all met (rows_of function.body)) functions i code e in
      record { function = c.function; met = c.met; found = c.found; is = c.is }

  code_for : (met : Counts) (functions : List Function) (i : ℕ) (function : Function) → slice_get functions i ≡ Some function → (code : List Lined) × (slice_get (codes_from program met functions) i ≡ Some code)
  code_for met [] i function e = cc
  code_for met (f ∷ functions) zero function e = (code_in met f, refl)
  code_for met (f ∷ functions) (suc i) function e = code_for (behind_all met (rows_of f.body)) functions i function e

module _ (program : Program) (inner : (function : ℕ) → Bool) (quads : QuadProgram) (known : IsKnown program inner) (code : IsCodeOf program quads) (marked : AreMarked inner quads) where
  callable : (f values : ℕ) → HasFunction program f values → inner f ≡ true → IsInner quads f
  callable f values has is_inner =
      let c = code_for program (record { spawned = 0; printed = 0 }) program.functions f has.function has.found in
      let there = to_map quads_of_code (codes_of program) f c.0 c.1 in
      let g = from_map (λ (f : QuadFunction). f.quads) quads.functions f (quads_of_code c.0) (ap (λ xs. slice_get xs f) code.are_quads ∙ there) in
      subst (λ (o : Option QuadFunction). IsSomeAnd o (λ f. f.inner ≡ true)) (sym g.1) (marked f g.0 g.1 ∙ is_inner)

  body_known : (i : ℕ) (function : Function) (mark : Bool) → slice_get program.functions i ≡ Some function → mark ≡ inner i → BodyKnown program inner (region_of mark None) function
  body_known i function true found is = known.called i function found (sym is)
  body_known i function false found is = known.serial i function found

  each_has : (i : ℕ) (f : QuadFunction) → slice_get quads.functions i ≡ Some f → HasRegions quads f
  each_has i f found =
      let there = to_map (λ (f : QuadFunction). f.quads) quads.functions i f found in
      let c = from_map quads_of_code (codes_of program) i f.quads (ap (λ xs. slice_get xs i) (sym code.are_quads) ∙ there) in
      let a = code_at_place program (record { spawned = 0; printed = 0 }) program.functions i c.0 c.1 in
      function_has_regions program inner quads callable (first_word program.globals) (words_of program.globals) a.met a.function f
      (sym c.2 ∙ ap quads_of_code (sym a.is)) (body_known i a.function f.inner a.found (marked i f found))

  regions : All (HasRegions quads) quads.functions
  regions = all_of (HasRegions quads) quads.functions each_has

pub quads_have_regions : QuadsHaveRegions
quads_have_regions program inner quads known code marked = regions program inner quads known code marked
