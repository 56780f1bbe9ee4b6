-- The functions that are in neither of two exact lists of marks reach neither a print nor a spawn.
use Rattle.std.proofs.Common.{◌≡◌, sym, ◌∙◌, ap, refl, arith, ℕ, zero, suc, ◌+◌, Bool, true, false, List, [], ◌∷◌, map, Some}
use Rattle.std.specs.Prelude.{not, ◌&&◌, ◌↔◌, slice_get, slice_index_or}
use Rattle.std.proofs.lemmas.Bool.{false≢true}
use Rattle.source_meaning.specs.declared.tree.StmtKind.{StmtKind}
use Rattle.source_meaning.specs.declared.tree.StmtKind.TheVariants as stmt
use Rattle.source_meaning.specs.declared.tree.Function.{Function}
use Rattle.spawn_check.specs.declared.things.Sought.{Sought}
use Rattle.spawn_check.specs.declared.things.Sought.TheVariants as sought
use Rattle.spawn_check.specs.Calls as known
use Rattle.spawn_check.specs.Marking.{AreExact}
use Rattle.spawn_check.proofs.Lifting.{Leads, leads_in_list}
use Rattle.checked_quads.specs.Inner.{is_serial, Reaches, itself, by_call}
use Rattle.xmt_quads.specs.declared.code.QuadFunction.{QuadFunction}
use Rattle.lowering.specs.Whole.{is_unmarked, unmarked_from}

-- ---- what stands in serial code alone

abbrev Any : Sought → Type 0
Any what = Unit {0}

sought_of : (s : StmtKind) → Leads Any (is_serial s) (λ what. known.is_sought what s)
sought_of (stmt.Print text values) passed = (sought.Print, tt, refl)
sought_of (stmt.Spawn' low high shape block) passed = (sought.Spawn, tt, refl)
sought_of _ passed = absurd (false≢true passed)

print_is_serial : (s : StmtKind) → Leads Any (known.is_sought sought.Print s) (λ what. is_serial s)
print_is_serial (stmt.Print text values) passed = (sought.Print, tt, refl)
print_is_serial _ passed = absurd (false≢true passed)

spawn_is_serial : (s : StmtKind) → Leads Any (known.is_sought sought.Spawn s) (λ what. is_serial s)
spawn_is_serial (stmt.Spawn' low high shape block) passed = (sought.Spawn, tt, refl)
spawn_is_serial _ passed = absurd (false≢true passed)

serial_of : (what : Sought) (s : StmtKind) → Leads Any (known.is_sought what s) (λ what. is_serial s)
serial_of sought.Print s passed = print_is_serial s passed
serial_of sought.Spawn s passed = spawn_is_serial s passed

-- ---- what is reached

module _ (functions : List Function) where
  known_reaches : (f : ℕ) → Reaches functions is_serial f → (what : Sought) × known.Reaches functions what f
  known_reaches f (itself function is here) = let found = leads_in_list Any is_serial known.is_sought sought_of function.body here in (found.0, known.itself function is found.2)
  known_reaches f (by_call {g = g} function is call reached) = let deeper = known_reaches g reached in (deeper.0, known.by_call function is call deeper.1)

  reaches_serial : (what : Sought) (f : ℕ) → known.Reaches functions what f → Reaches functions is_serial f
  reaches_serial what f (known.itself function is here) = itself function is (leads_in_list Any (known.is_sought what) (λ any. is_serial) (serial_of what) function.body here).2
  reaches_serial what f (known.by_call {g = g} function is call reached) = by_call function is call (reaches_serial what g reached)

  neither : (a b : Bool) → (not a && not b) ≡ true → (a ≡ true → ⊥) × (b ≡ true → ⊥)
  neither true b calm = absurd (false≢true calm)
  neither false true calm = absurd (false≢true calm)
  neither false false calm = (false≢true, false≢true)

  both_unmarked : (a b : Bool) → (a ≡ true → ⊥) → (b ≡ true → ⊥) → (not a && not b) ≡ true
  both_unmarked true b first second = absurd (first refl)
  both_unmarked false true first second = absurd (second refl)
  both_unmarked false false first second = refl

  meets : (prints spawns : List Bool) → AreExact functions sought.Print prints → AreExact functions sought.Spawn spawns → (f : ℕ) →
      (slice_index_or prints f false ≡ true → ⊥) × (slice_index_or spawns f false ≡ true → ⊥) → (what : Sought) → known.Reaches functions what f → ⊥
  meets prints spawns print spawn f calm sought.Print reached = calm.0 ((print.exactly f).1 reached)
  meets prints spawns print spawn f calm sought.Spawn reached = calm.1 ((spawn.exactly f).1 reached)

  pub are_inner : (prints spawns : List Bool) → AreExact functions sought.Print prints → AreExact functions sought.Spawn spawns → (f : ℕ) →
      (is_unmarked prints spawns f ≡ true) ↔ (Reaches functions is_serial f → ⊥)
  are_inner prints spawns print spawn f =
      let p : Bool = slice_index_or prints f false in
      let s : Bool = slice_index_or spawns f false in
      let forth : is_unmarked prints spawns f ≡ true → Reaches functions is_serial f → ⊥ = λ calm reached.
      let found = known_reaches f reached in
      meets prints spawns print spawn f (neither p s calm) found.0 found.1
      in
      (forth, λ free. both_unmarked p s (λ marked. free (reaches_serial sought.Print f ((print.exactly f).0 marked))) (λ marked. free (reaches_serial sought.Spawn f ((spawn.exactly f).0 marked))))

-- ---- the marks of the quads

module _ (prints spawns : List Bool) where
  some_same : {x y : QuadFunction} → Some x ≡ Some y → x ≡ y
  some_same e = cc

  pub marked_from : (functions : List Function) (made : List QuadFunction) (k f : ℕ) (code : QuadFunction) → map (λ (q : QuadFunction). q.inner) made ≡ unmarked_from prints spawns k functions →
      slice_get made f ≡ Some code → code.inner ≡ is_unmarked prints spawns (k + f)
  marked_from functions [] k f code all is = absurd (cc)
  marked_from [] (m ∷ made) k f code all is = absurd (cc)
  marked_from (g ∷ functions) (m ∷ made) k zero code all is =
      let head : m.inner ≡ is_unmarked prints spawns k = cc in
      let at : k ≡ k + 0 = omega arith in
      ap (λ (q : QuadFunction). q.inner) (sym (some_same is)) ∙ head ∙ ap (is_unmarked prints spawns) at
  marked_from (g ∷ functions) (m ∷ made) k (suc f) code all is =
      let tail : map (λ (q : QuadFunction). q.inner) made ≡ unmarked_from prints spawns (suc k) functions = cc in
      let at : suc k + f ≡ k + suc f = omega arith in
      marked_from functions made (suc k) f code tail is ∙ ap (is_unmarked prints spawns) at
