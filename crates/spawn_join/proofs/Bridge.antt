-- From one history of a section to what the machine asks of it: which unit a number belongs to, and what each unit did.
use Rattle.std.proofs.Common.{◌≡◌, ◌≢◌, refl, sym, ap, subst, ◌∙◌, ⊎_elim, ℕ, zero, suc, ◌<◌, ◌==◌, nat_eq, if◌then◌else◌, Bool, true, false, List, [], ◌∷◌, length, Contains, Some, slice_get, slice_index_or, arith, ne_eqb, eq-eqb, inl, inr, ◌⊎◌, cond}
use Rattle.std.proofs.lemmas.Bool.Decides.{nat_tests}
use Rattle.std.specs.List.{IsDistinct}
use Rattle.shared_words.specs.declared.log.Entry as accesses
use Rattle.shared_words.specs.Sections.{OwnRun, AllOwnRuns}
use Rattle.shared_words.proofs.Lists.{in_nothing, in_here, in_more, in_cons, distinct_parts}
use Rattle.interleaving.specs.Actors.{part_of}
use Rattle.xmt_isa.specs.declared.image.Image.{Image}
use Rattle.xmt_isa.specs.declared.unit.Unit.{Unit}
use Rattle.xmt_isa.specs.declared.unit.Start.{Start}
use Rattle.machine_sections.specs.Merge.{IsLocal}
use Rattle.machine_histories.specs.Histories.{order_of, IsAllowed, AreAllowed}
use Rattle.shared_words.specs.History.{own, enrolment}
use Rattle.spawn_join.specs.declared.worker.Worker.{Worker}
use Rattle.spawn_join.specs.Own.{DoesOwn, AreAccesses, IsAccess}
use Rattle.spawn_join.specs.Worked.{RanAtOnce, units_of}
use Rattle.spawn_join.proofs.Parts.{local_run}

-- the place of a number
abbrev pub place_in : List ℕ → ℕ → ℕ
place_in [] m = 0
place_in (n ∷ ns) m = if m == n then 0 else suc (place_in ns m)

zero_front : (b : Bool) (k : ℕ) → (0 == (if b then 0 else suc k)) ≡ b
zero_front true k = refl
zero_front false k = ne_eqb 0 (suc k) (λ e. absurd (omega (arith, e)))

suc_tests : (a b : ℕ) → (suc a == suc b) ≡ (a == b)
suc_tests a b = by_test (a == b) refl
  where
    by_test : (t : Bool) → (a == b) ≡ t → (suc a == suc b) ≡ (a == b)
    by_test true is = let same : a ≡ b = grind (arith, nat_tests, is) in eq-eqb (suc a) (suc b) (ap suc same) ∙ sym is
    by_test false is = ne_eqb (suc a) (suc b) (λ e. let same : a ≡ b = omega (arith, e) in absurd (cc (is, eq-eqb a b same))) ∙ sym is

number_there : (ns : List ℕ) (at n : ℕ) → slice_get ns at ≡ Some n → Contains ns n
number_there [] zero n is = absurd cc
number_there [] (suc at) n is = absurd cc
number_there (x ∷ xs) zero n is = let same : x ≡ n = cc in subst (λ z. Contains (x ∷ xs) z) same (in_here x xs)
number_there (x ∷ xs) (suc at) n is = in_more x xs n (number_there xs at n is)

later : (x : ℕ) (xs : List ℕ) (at n m : ℕ) (b : Bool) → (m == x) ≡ b → (Contains xs x → ⊥) → Contains xs n → Contains (x ∷ xs) m → (Contains xs m → (at == place_in xs m) ≡ (m == n)) → (suc at == (if b then 0 else suc (place_in xs m))) ≡ (m == n)
later x xs at n m true is absent there held go =
    let same : m ≡ x = grind (arith, nat_tests, is) in
    ne_eqb (suc at) 0 (λ e. absurd (omega (arith, e))) ∙ sym (ne_eqb m n (λ e. absent (subst (λ z. Contains xs z) (sym e ∙ same) there)))
later x xs at n m false is absent there held go =
    let other : (x ≡ m → ⊥) = λ e. absurd (cc (is, eq-eqb m x (sym e))) in
    suc_tests at (place_in xs m) ∙ go (⊎_elim (λ e. absurd (other e)) (λ c. c) (in_cons x xs m held))

pub place_of : (ns : List ℕ) → IsDistinct nat_eq ns → (at n m : ℕ) → slice_get ns at ≡ Some n → Contains ns m → (at == place_in ns m) ≡ (m == n)
place_of [] distinct at n m is held = absurd (in_nothing m held)
place_of (x ∷ xs) distinct zero n m is held = let same : x ≡ n = cc in zero_front (m == x) (place_in xs m) ∙ ap (λ z. m == z) same
place_of (x ∷ xs) distinct (suc at) n m is held =
    let parts = distinct_parts x xs distinct in
    later x xs at n m (m == x) refl parts.0 (number_there xs at n is) held (place_of xs parts.1 at n m is)

below_by : (b : Bool) (k l : ℕ) → k < l → (if b then 0 else suc k) < suc l
below_by true k l below = omega (arith, below)
below_by false k l below = omega (arith, below)

module _ (image : Image) (start : Start) (entries : List accesses.Entry) where
  -- the run of one unit
  pub run_at : (ns : List ℕ) (us vs : List Unit) → AllOwnRuns (DoesOwn image start) entries ns us vs → (at : ℕ) (u d : Unit) → slice_get us at ≡ Some u → (n : ℕ) × (slice_get ns at ≡ Some n) × OwnRun (DoesOwn image start) entries n u (slice_index_or vs at d)
  run_at [] [] [] runs zero u d is = absurd cc
  run_at [] [] [] runs (suc at) u d is = absurd cc
  run_at (n ∷ ns) (w ∷ us) (v ∷ vs) runs zero u d is = let same : w ≡ u = cc in (n, refl, subst (λ (x : Unit). OwnRun (DoesOwn image start) entries n x v) same runs.0)
  run_at (n ∷ ns) (w ∷ us) (v ∷ vs) runs (suc at) u d is = run_at ns us vs runs.1 at u d is
  run_at _ _ _ runs at u d is = absurd runs

-- what the machine asks of each unit
pub units_local : (image : Image) (start : Start) (words : List ℕ) (olds news : List Worker) (left : List ℕ) → (r : RanAtOnce image start words olds news left) → (at : ℕ) (u d : Unit) → slice_get (units_of olds) at ≡ Some u
    → IsLocal image start u (part_of at (order_of (place_in r.numbers) r.history.entries)) (slice_index_or (units_of news) at d)
units_local image start words olds news left r at u d is =
    let one = run_at image start r.history.entries r.numbers (units_of olds) (units_of news) r.runs at u d is in
    local_run (place_in r.numbers) one.0 at image start r.history.entries u (slice_index_or (units_of news) at d) one.2
    (λ e c. place_of r.numbers r.distinct at one.0 e.number one.1 (r.only e c))

-- ---- what the entries are

place_by : (b : Bool) (k l : ℕ) → (b ≡ false → k < l) → (if b then 0 else suc k) < suc l
place_by true k l below = omega arith
place_by false k l below = let less = below refl in omega (arith, less)

pub place_below : (ns : List ℕ) (m : ℕ) → Contains ns m → place_in ns m < length ns
place_below [] m held = absurd (in_nothing m held)
place_below (x ∷ xs) m held =
    place_by (m == x) (place_in xs m) (length xs) (λ is. place_below xs m (⊎_elim (λ (e : x ≡ m). absurd (cc (is, eq-eqb m x (sym e)))) (λ c. c) (in_cons x xs m held)))

in_own_by : (n : ℕ) (x e : accesses.Entry) (rest : List accesses.Entry) (b : Bool) → (x.number == n) ≡ b → e.number ≡ n → (x ≡ e) ⊎ Contains rest e → Contains (cond b (x ∷ rest) rest) e
in_own_by n x e rest true is same (inl here) = subst (λ (z : accesses.Entry). Contains (x ∷ rest) z) here (in_here x rest)
in_own_by n x e rest true is same (inr there) = in_more x rest e there
in_own_by n x e rest false is same (inl here) = absurd (cc (is, eq-eqb x.number n (ap (λ (z : accesses.Entry). z.number) here ∙ same)))
in_own_by n x e rest false is same (inr there) = there

in_own : (n : ℕ) (h : List accesses.Entry) (e : accesses.Entry) → e.number ≡ n → Contains h e → Contains (own n h) e
in_own n [] e same held = absurd (in_nothing e held)
in_own n (x ∷ h) e same held = in_own_by n x e (own n h) (x.number == n) refl same (⊎_elim (λ (i : x ≡ e). inl i) (λ c. inr (in_own n h e same c)) (in_cons x h e held))

access_in : (made : List accesses.Entry) → AreAccesses made → (e : accesses.Entry) → Contains made e → IsAccess e.action e.place e.operand
access_in [] are e held = absurd (in_nothing e held)
access_in (x ∷ made) are e held = ⊎_elim (λ (i : x ≡ e). subst (λ (z : accesses.Entry). IsAccess z.action z.place z.operand) i are.0) (access_in made are.1 e) (in_cons x made e held)

pub run_of : (image : Image) (start : Start) (entries : List accesses.Entry) (ns : List ℕ) (us vs : List Unit) → AllOwnRuns (DoesOwn image start) entries ns us vs → (m : ℕ) → Contains ns m → (u : Unit) × (v : Unit) × OwnRun (DoesOwn image start) entries m u v
run_of image start entries [] us vs runs m held = absurd (in_nothing m held)
run_of image start entries (n ∷ ns) (u ∷ us) (v ∷ vs) runs m held =
    ⊎_elim (λ (i : n ≡ m). (u, v, subst (λ (z : ℕ). OwnRun (DoesOwn image start) entries z u v) i runs.0)) (run_of image start entries ns us vs runs.1 m) (in_cons n ns m held)
run_of image start entries _ _ _ runs m held = absurd runs

-- an entry is an enrolment or an access of a unit
pub entry_is : (image : Image) (start : Start) (words : List ℕ) (olds news : List Worker) (left : List ℕ) → (r : RanAtOnce image start words olds news left) → (e : accesses.Entry) → Contains r.history.entries e → (e ≡ enrolment e.number) ⊎ IsAccess e.action e.place e.operand
entry_is image start words olds news left r e held =
    let one = run_of image start r.history.entries r.numbers (units_of olds) (units_of news) r.runs e.number (r.only e held) in
    let run = one.2 in
    let there : Contains (enrolment e.number ∷ run.made) e = subst (λ (l : List accesses.Entry). Contains l e) run.are (in_own e.number r.history.entries e refl held) in
    ⊎_elim (λ (i : enrolment e.number ≡ e). inl (sym i)) (λ c. inr (access_in run.made run.steps.accesses_are e c)) (in_cons (enrolment e.number) run.made e there)

pub runs_long : (image : Image) (start : Start) (entries : List accesses.Entry) (ns : List ℕ) (us vs : List Unit) → AllOwnRuns (DoesOwn image start) entries ns us vs → length ns ≡ length us
runs_long image start entries [] [] [] runs = refl
runs_long image start entries (n ∷ ns) (u ∷ us) (v ∷ vs) runs = ap suc (runs_long image start entries ns us vs runs.1)
runs_long image start entries _ _ _ runs = absurd runs

allowed_by : (unit_of : ℕ → ℕ) (count : ℕ) (e : accesses.Entry) → unit_of e.number < count → (e ≡ enrolment e.number) ⊎ IsAccess e.action e.place e.operand → IsAllowed unit_of count e
allowed_by unit_of count e below (inl is) = inr (inr (inl (ap (λ (z : accesses.Entry). z.place) is)))
allowed_by unit_of count e below (inr (inl (far, small))) = inl (far, small, below)
allowed_by unit_of count e below (inr (inr (place, adds, one))) = inr (inl (place, adds, one, below))

all_allowed : (unit_of : ℕ → ℕ) (count : ℕ) (h : List accesses.Entry) → ((e : accesses.Entry) → Contains h e → IsAllowed unit_of count e) → AreAllowed unit_of count h
all_allowed unit_of count [] each = tt
all_allowed unit_of count (e ∷ h) each = (each e (in_here e h), all_allowed unit_of count h (λ x c. each x (in_more e h x c)))

pub are_allowed : (image : Image) (start : Start) (words : List ℕ) (olds news : List Worker) (left : List ℕ) → (r : RanAtOnce image start words olds news left) → AreAllowed (place_in r.numbers) (length (units_of olds)) r.history.entries
are_allowed image start words olds news left r =
    all_allowed (place_in r.numbers) (length (units_of olds)) r.history.entries
    (λ e c. allowed_by (place_in r.numbers) (length (units_of olds)) e
    (subst (λ (l : ℕ). place_in r.numbers e.number < l) (runs_long image start r.history.entries r.numbers (units_of olds) (units_of news) r.runs) (place_below r.numbers e.number (r.only e c)))
    (entry_is image start words olds news left r e c))

-- no unit looked at the halt word, and none raised it
pub none_halts : (image : Image) (start : Start) (words : List ℕ) (olds news : List Worker) (left : List ℕ) → (r : RanAtOnce image start words olds news left) → (e : accesses.Entry) → Contains r.history.entries e → e.place ≢ 3
none_halts image start words olds news left r e c =
    ⊎_elim (λ (i : e ≡ enrolment e.number). λ is. let zero_is : e.place ≡ 0 = ap (λ (z : accesses.Entry). z.place) i in absurd (omega (arith, is, zero_is)))
    (λ a. ⊎_elim (λ x. λ is. let far = x.0 in absurd (omega (arith, is, far))) (λ x. λ is. let one = x.0 in absurd (omega (arith, is, one))) a)
    (entry_is image start words olds news left r e c)
