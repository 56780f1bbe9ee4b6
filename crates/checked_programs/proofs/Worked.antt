-- A checked program within the limits, and for each condition a program that breaks it.
use Rattle.std.proofs.Common.{◌≡◌, ℕ, refl, ap, arith, Bool, true, false, [], ◌∷◌, length, Option, Some, None}
use Rattle.std.specs.Prelude.{◌≤◌, All, Contains, AllPairs, codes, ◌≢◌}
use Rattle.std.proofs.lemmas.List.Elements.{All-nil, All-cons}
use Rattle.std.proofs.lemmas.List.Kept.{AllPairs-cons}
use Rattle.xmt_base.specs.declared.operators.BinOp.TheVariants.{Add}
use Rattle.source_meaning.specs.declared.tree.ExprKind.TheVariants as expr
use Rattle.source_meaning.specs.declared.tree.Spot.TheVariants as spot
use Rattle.source_meaning.specs.declared.tree.StmtKind.TheVariants as stmt
use Rattle.source_meaning.specs.declared.tree.GlobalVar.{GlobalVar}
use Rattle.source_meaning.specs.declared.tree.Function.{Function}
use Rattle.source_meaning.specs.declared.tree.Program.{Program}
use Rattle.source_meaning.specs.Opened.{opened}
use Rattle.source_meaning.proofs.Written.{e, s, number, read, binary, assign, scalar, array, function, program_of, dollar}
use Rattle.spawn_check.specs.declared.refusal.SpawnKind.TheVariants.{DollarOutside}
use Rattle.spawn_check.specs.Table.{dollar_outside, return_inside, jump_out, nested, print_inside, call_prints, call_spawns, MeetsNone}
use Rattle.checked_programs.specs.Fits.{HasFunction, BodyFits}
use Rattle.checked_programs.specs.Declares.{DeclaresOnce}
use Rattle.checked_programs.specs.Limits.{IsWithinLimits, FunctionIsWithinLimits, HasFewNodes}
use Rattle.checked_programs.specs.Checked.{IsShortName, HasLength, IsChecked}

-- `int A[4] = {1, 2}; main() { int i; i = A[1]; } int twice(int x) { x = x + x; }`
abbrev a : GlobalVar
a = record { name = codes "A"; array = true; length = 4; constant = false; opening = 1 ∷ 2 ∷ [] }

abbrev main : Function
main = function (codes "main") 1 (s (stmt.Declare 0 None) ∷ assign (spot.Local 0) (read (spot.Element 0 (number 1))) ∷ [])

abbrev twice : Function
twice = record { name = codes "twice"; value = true; params = 1; variables = 1; body = assign (spot.Local 0) (binary Add (read (spot.Local 0)) (read (spot.Local 0))) ∷ [] }

abbrev sample : Program
sample = program_of (a ∷ []) [] (main ∷ twice ∷ [])

empty : {X : Type 0} {x : X} → Contains [] x → ⊥
empty (k, less, is) = absurd (omega (arith, less))

apart : true ≡ false → ⊥
apart is = cc

-- nothing that the table speaks of stands in it
sample_meets_none : MeetsNone sample
unfolding opened
sample_meets_none kind place (dollar_outside stands) = empty stands.found
sample_meets_none kind place (return_inside stands) = empty stands.found
sample_meets_none kind place (jump_out stands) = empty stands.found
sample_meets_none kind place (nested stands) = empty stands.found
sample_meets_none kind place (print_inside stands) = empty stands.found
sample_meets_none kind place (call_prints stands reaches) = empty stands.found
sample_meets_none kind place (call_spawns stands reaches) = empty stands.found

one : {X : Type 0} (P : X → Type 0) (x : X) → P x → All P (x ∷ [])
one P x here = All-cons P x [] here (All-nil P)

two : {X : Type 0} (P : X → Type 0) (x y : X) → P x → P y → All P (x ∷ y ∷ [])
two P x y here there = All-cons P x (y ∷ []) here (one P y there)

no_pairs : {X : Type 0} (R : X → X → Type 0) → AllPairs R []
no_pairs R i j d less within = absurd (omega arith)

one_alone : {X : Type 0} (R : X → X → Type 0) (x : X) → AllPairs R (x ∷ [])
one_alone R x = AllPairs-cons R x [] (All-nil (R x)) (no_pairs R)

main_fits : BodyFits sample main
unfolding opened
main_fits = ((omega arith, tt), ((refl, ((record { global = a; found = refl; kind = refl }, (tt, tt)), tt)), tt))

twice_fits : BodyFits sample twice
unfolding opened
twice_fits = ((refl, (((refl, tt), (refl, tt)), tt)), tt)

-- `main() { twice(A[1]); }`
call_fits : BodyFits sample (function (codes "main") 0 (s (stmt.Value (e (expr.Call 1 (read (spot.Element 0 (number 1)) ∷ [])))) ∷ []))
unfolding opened
call_fits = ((record { function = twice; found = refl; counts = refl }, ((record { global = a; found = refl; kind = refl }, (tt, tt)), tt)), tt)

main_declares : DeclaresOnce main
main_declares = record { differ = one_alone (λ x y. x ≢ y) 0; no_parameter = one (λ slot. 0 ≤ slot) 0 (omega arith) }

twice_declares : DeclaresOnce twice
twice_declares = record { differ = no_pairs (λ x y. x ≢ y); no_parameter = All-nil (λ slot. 1 ≤ slot) }

sample_is_checked : IsChecked sample
sample_is_checked = record {
  main = record { function = main; found = refl; counts = refl };
  parameters = two (λ f. f.params ≤ f.variables) main twice (omega arith) (omega arith);
  bodies = two (BodyFits sample) main twice main_fits twice_fits;
  declared_once = two DeclaresOnce main twice main_declares twice_declares;
  named = one (λ (x : GlobalVar). IsShortName x.name) a (record { spelled = refl; short = omega arith });
  names_differ = one_alone (λ x y. x.name ≢ y.name) a;
  lengths = one HasLength a (record { some = omega arith; room = omega arith; scalar = λ is. absurd (apart is) });
  blocks = sample_meets_none;
}

sample_is_within_limits : IsWithinLimits sample
unfolding opened
sample_is_within_limits = record {
  globals = omega arith;
  registers = omega arith;
  functions = omega arith;
  each_function = two FunctionIsWithinLimits main twice (record { variables = omega arith; parameters = omega arith; waiting = refl }) (record { variables = omega arith; parameters = omega arith; waiting = refl });
}

sample_has_few_nodes : HasFewNodes sample
unfolding opened
sample_has_few_nodes = omega arith

-- ---- one broken condition each

distinct : false ≡ true → ⊥
distinct is = cc

-- `int twice(int x) { return x + x; }` as `main`
main_with_a_parameter : HasFunction (program_of [] [] (twice ∷ [])) 0 0 → ⊥
main_with_a_parameter has = counted has.function has.found has.counts
  where
    params_of : Option Function → ℕ
    params_of (Some f) = f.params
    params_of None = 1

    counted : (f : Function) → Some twice ≡ Some f → 0 ≡ f.params → ⊥
    counted f is counts = let same : 1 ≡ f.params = ap params_of is in absurd (omega arith)

-- a function with one parameter and no variable
more_parameters : All (λ (f : Function). f.params ≤ f.variables) (record { name = codes "f"; value = true; params = 1; variables = 0; body = [] } ∷ []) → ⊥
more_parameters all = absurd (omega (arith, all 0 twice (omega arith)))

-- `main() { i = 1; int i; }`
used_before : BodyFits sample (function (codes "main") 1 (assign (spot.Local 0) (number 1) ∷ s (stmt.Declare 0 None) ∷ [])) → ⊥
unfolding opened
used_before fits = distinct fits.0.0

-- `main() { { int i; } i = 1; }`
used_outside : BodyFits sample (function (codes "main") 1 (s (stmt.Block (s (stmt.Declare 0 None) ∷ [])) ∷ assign (spot.Local 0) (number 1) ∷ [])) → ⊥
unfolding opened
used_outside fits = distinct fits.1.0.0

-- `main() { A = 1; }`
array_as_scalar : BodyFits sample (function (codes "main") 0 (assign (spot.Global 0) (number 1) ∷ [])) → ⊥
unfolding opened
array_as_scalar fits = kept fits.0.0.global fits.0.0.found fits.0.0.kind
  where
    is_array : Option GlobalVar → Bool
    is_array (Some g) = g.array
    is_array None = true

    kept : (g : GlobalVar) → Some a ≡ Some g → g.array ≡ false → ⊥
    kept g is kind = let same : true ≡ g.array = ap is_array is in apart cc

-- `main() { printf("%d", ); }`: a value is wanted
no_value : BodyFits sample (function (codes "main") 0 (s (stmt.Print (codes "%d") []) ∷ [])) → ⊥
unfolding opened
no_value fits = absurd (let none : 1 ≡ 0 = fits.0.1 in omega arith)

-- `main() { int i; int i; }`, with one number for both
declared_twice : DeclaresOnce (function (codes "main") 1 (s (stmt.Declare 0 None) ∷ s (stmt.Declare 0 None) ∷ [])) → ⊥
declared_twice once = once.differ 0 1 0 (omega arith) (omega arith) refl

-- a parameter is declared
declared_parameter : DeclaresOnce (record { name = codes "f"; value = true; params = 1; variables = 1; body = s (stmt.Declare 0 None) ∷ [] }) → ⊥
declared_parameter once = absurd (omega (arith, once.no_parameter 0 0 (omega arith)))

-- `int int;`
keyword : IsShortName (codes "int") → ⊥
keyword named = distinct named.spelled

-- `int x, x;`
same_names : AllPairs (λ (x y : GlobalVar). x.name ≢ y.name) (scalar (codes "x") ∷ scalar (codes "x") ∷ []) → ⊥
same_names differ = differ 0 1 a (omega arith) (omega arith) refl

-- `int A[0];`
no_length : HasLength (array (codes "A") 0) → ⊥
no_length length = absurd (omega (arith, length.some))

-- `main() { $; }`
dollar_in_serial_code : MeetsNone (program_of [] [] (function (codes "main") 0 (s (stmt.Value dollar) ∷ []) ∷ [])) → ⊥
unfolding opened
dollar_in_serial_code none = none DollarOutside (record { line = 1; column = 1 }) (dollar_outside (record { found = (0, omega arith, refl) }))
