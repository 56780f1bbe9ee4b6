-- Blocks and jumps nest in the quads of a function that are its code.
use Rattle.std.proofs.Common.{◌≡◌, refl, sym, ◌∙◌, ap, subst, arith, ℕ, zero, suc, ◌+◌, Bool, true, false, List, [], ◌∷◌, ◌++◌, length, length-append, Option, Some, None}
use Rattle.std.specs.Prelude.{nat_lt, map, slice_get}
use Rattle.source_meaning.specs.declared.tree.Function.{Function}
use Rattle.source_meaning.specs.declared.tree.Program.{Program}
use Rattle.xmt_quads.specs.declared.code.Operand.TheVariants.{Reg, Literal}
use Rattle.xmt_quads.specs.declared.code.Where.TheVariants.{Outer}
use Rattle.xmt_quads.specs.declared.code.Quad.{Quad}
use Rattle.xmt_quads.specs.declared.code.Quad.TheVariants as quad
use Rattle.xmt_quads.specs.declared.code.QuadFunction.{QuadFunction}
use Rattle.xmt_quads.specs.declared.code.QuadProgram.{QuadProgram}
use Rattle.xmt_quads.specs.Regions.{IsInner, HasRegions}
use Rattle.quad_code.specs.Lined.{Lined, lined, one}
use Rattle.quad_code.specs.Rows.{rows_of}
use Rattle.quad_code.specs.Statements.{Counts, sequence_at}
use Rattle.quad_code.specs.Known.{MayReturn}
use Rattle.quad_code.specs.Functions.{outer_of, parameter_code, parameters_code, function_code}
use Rattle.quad_code.specs.Whole.{HasFunction, BodyKnown}
use Rattle.quad_regions.proofs.Keeps.{Setting, region_of, Follows, AllFit, Fits, Keeps, nothing, behind, next, last}
use Rattle.quad_regions.proofs.Statements.{no_loop, sequence_keeps}
use Rattle.quad_regions.proofs.Blocks.{changed_by, around_in}
use Rattle.quad_regions.proofs.Regions.{setting, IsNested, has_regions}

abbrev pub quads_of_code : List Lined → List Quad
quads_of_code code = map (λ l. l.quad) code

-- ---- from code to quads

-- the blocks around are made to follow the quads that stand there
follows : (quads : List Quad) (at : ℕ) (code : List Lined) → ((k : ℕ) → slice_get quads (at + k) ≡ slice_get (quads_of_code code) k) → Follows (around_in quads) at code
follows quads at [] there = tt
follows quads at (l ∷ code) there =
    let e : at + 1 ≡ suc at = omega arith in
    let f : at ≡ at + 0 = omega arith in (
      ap (around_in quads) e ∙ ap (changed_by at (around_in quads at)) (ap (slice_get quads) f ∙ there 0),
      follows quads (at + 1) code (λ k. let g : at + 1 + k ≡ at + suc k = omega arith in ap (slice_get quads) g ∙ there (suc k)),
    )

fit_at : (w : Setting) (at : ℕ) (code : List Lined) (k : ℕ) (q : Quad) → AllFit w at code → slice_get (quads_of_code code) k ≡ Some q → Fits w (w.around (at + k)) q
fit_at w at [] k q fits here = cc
fit_at w at (l ∷ code) zero q fits here =
    let e : at ≡ at + 0 = omega arith in
    let same : l.quad ≡ q = cc in
    subst (λ n. Fits w (w.around n) q) e (subst (Fits w (w.around at)) same fits.0)
fit_at w at (l ∷ code) (suc k) q fits here =
    let e : at + 1 + k ≡ at + suc k = omega arith in
    subst (λ n. Fits w (w.around n) q) e (fit_at w (at + 1) code k q fits.1 here)

-- what stands behind the first part of code
behind_first : (first second : List Lined) (k : ℕ) → slice_get (quads_of_code (first ++ second)) (length first + k) ≡ slice_get (quads_of_code second) k
behind_first [] second k = let e : 0 + k ≡ k = omega arith in ap (slice_get (quads_of_code second)) e
behind_first (l ∷ first) second k =
    let e : length (l ∷ first) + k ≡ suc (length first + k) = omega arith in
    ap (slice_get (quads_of_code (l ∷ (first ++ second)))) e ∙ behind_first first second k

length_of : (code : List Lined) → length (quads_of_code code) ≡ length code
length_of [] = refl
length_of (l ∷ code) = ap suc (length_of code)

-- ---- the code of a function

parameter_keeps : (w : Setting) (at variables slot : ℕ) (shared : Option ℕ) → Keeps w None at (parameter_code variables slot shared)
parameter_keeps w at variables slot None = last (lined 0 (quad.Parameter slot slot)) tt tt
parameter_keeps w at variables slot (Some number) = next (lined 0 (quad.Parameter variables slot)) tt tt (last (lined 0 (quad.Store (Outer number) (Reg variables))) tt tt)

parameters_keep : (w : Setting) (outer : (slot : ℕ) → Option ℕ) (at variables slot count : ℕ) → Keeps w None at (parameters_code outer variables slot count)
parameters_keep w outer at variables slot zero = nothing
parameters_keep w outer at variables slot (suc count) = behind (parameter_keeps w at variables slot (outer slot)) (parameters_keep w outer (at + length (parameter_code variables slot (outer slot))) variables (suc slot) count)

may_return : (inner : Bool) → MayReturn (region_of inner None)
may_return true = tt
may_return false = tt

module _ (program : Program) (inner : (function : ℕ) → Bool) (quads : QuadProgram) (callable : (f values : ℕ) → HasFunction program f values → inner f ≡ true → IsInner quads f)
    (base_of size_of : (global : ℕ) → ℕ) (met : Counts) (function : Function) (f : QuadFunction) (is : f.quads ≡ quads_of_code (function_code base_of size_of met function)) (known : BodyKnown program inner (region_of f.inner None) function) where
  abbrev parameters : List Lined
  parameters = parameters_code (outer_of function.body) function.variables 0 function.params

  abbrev body : List Lined
  body = sequence_at base_of size_of (outer_of function.body) function.variables (0 + length parameters) 0 0 met (rows_of function.body)

  abbrev end : List Lined
  end = one 0 (quad.Return (Literal 0))

  keeps : Keeps (setting quads f) None 0 (parameters ++ (body ++ end))
  keeps =
      behind (parameters_keep (setting quads f) (outer_of function.body) 0 function.variables 0 function.params) (
      behind (sequence_keeps (setting quads f) program inner callable base_of size_of (outer_of function.body) (length program.globals) function.variables None (λ x. nat_lt x function.params) false
      (0 + length parameters) 0 0 met (rows_of function.body) known (no_loop (setting quads f) None 0 0))
      (last (lined 0 (quad.Return (Literal 0))) tt (may_return f.inner)))

  there : (at : ℕ) → slice_get f.quads at ≡ slice_get (quads_of_code (parameters ++ (body ++ end))) at
  there at = ap (λ (xs : List Quad). slice_get xs at) is

  kept : AllFit (setting quads f) 0 (parameters ++ (body ++ end)) × (around_in f.quads (0 + length (parameters ++ (body ++ end))) ≡ None)
  kept = keeps.keeps refl (follows f.quads 0 (parameters ++ (body ++ end)) (λ k. let e : 0 + k ≡ k = omega arith in ap (slice_get f.quads) e ∙ there k))

  abbrev place : ℕ
  place = length parameters + length body

  count : length (parameters ++ (body ++ end)) ≡ suc place
  count = omega (arith, length-append {A = Lined})

  returns : slice_get f.quads place ≡ Some (quad.Return (Literal 0))
  returns = let e : length body ≡ length body + 0 = omega arith in there place ∙ behind_first parameters (body ++ end) (length body) ∙ ap (slice_get (quads_of_code (body ++ end))) e ∙ behind_first body end 0

  outside : around_in f.quads place ≡ None
  outside =
      let e : 0 + length (parameters ++ (body ++ end)) ≡ suc place = omega (arith, count) in
      sym (ap (changed_by place (around_in f.quads place)) returns) ∙ sym (ap (around_in f.quads) e) ∙ kept.1

  nested : IsNested quads f
  nested =
      record {
        fits = λ at q here. let e : 0 + at ≡ at = omega arith in subst (λ n. Fits (setting quads f) (around_in f.quads n) q) e (fit_at (setting quads f) 0 (parameters ++ (body ++ end)) at q kept.0 (sym (there at) ∙ here));
        last = place;
        is_last = let l = ap length is ∙ length_of (parameters ++ (body ++ end)) in omega (arith, l, count);
        value = Literal 0;
        returns = returns;
        outside = outside;
      }

  pub function_has_regions : HasRegions quads f
  function_has_regions = has_regions quads f nested
