-- Legal schedules, one behind the other, and what stays along them.
use Rattle.std.proofs.Common.{◌≡◌, refl, sym, ap, ◌∙◌, ℕ, zero, suc, Bool, true, false, if◌then◌else◌, List, [], ◌∷◌, ◌++◌, length, map, Option, Some, None, slice_get, slice_set}
use Rattle.std.specs.List.{list_all}
use Rattle.std.proofs.lemmas.Option.{slice_get-map}
use Rattle.std.proofs.lemmas.List.{map-set, length-set}
use Rattle.xmt_isa.specs.declared.image.Image.{Image}
use Rattle.xmt_isa.specs.declared.unit.Unit.{Unit}
use Rattle.xmt_isa.specs.declared.unit.Start.{Start}
use Rattle.xmt_isa.specs.declared.unit.Request.{Request}
use Rattle.xmt_isa.specs.declared.unit.Request.TheVariants as request
use Rattle.xmt_isa.specs.declared.unit.Next.{Next}
use Rattle.xmt_isa.specs.declared.unit.Next.TheVariants as next
use Rattle.xmt_isa.specs.Step.{next_of, answer_of}
use Rattle.xmt_isa.specs.Machine.{Machine, turn, turn_of, moves, serves, after, joins, resumes, ready, waits_for, is_stopped}
use Rattle.xmt_isa.specs.Legal.{IsLegal, RunsTo}
use Rattle.machine_turns.proofs.Frees.{local_stepped, answer_stepped}

-- ---- one schedule behind another

after_append : (image : Image) (m : Machine) (first second : List ℕ) → after image m (first ++ second) ≡ after image (after image m first) second
after_append image m [] second = refl
after_append image m (k ∷ ks) second = after_append image (turn image m k) ks second

legal_append : (image : Image) (m : Machine) (first second : List ℕ) → IsLegal image m first → IsLegal image (after image m first) second → IsLegal image m (first ++ second)
legal_append image m [] second legal further = further
legal_append image m (k ∷ ks) second legal further = (legal.0, legal_append image (turn image m k) ks second legal.1 further)

pub leads_then : (image : Image) (begin mid end : Machine) → RunsTo image begin mid → RunsTo image mid end → RunsTo image begin end
leads_then image begin mid end (first, legal, reaches) (second, further, ends) =
    (first ++ second, legal_append image begin first second legal (rw reaches further), after_append image begin first second ∙ ap (λ m. after image m second) reaches ∙ ends)

-- ---- turns keep the number of words

serves_size : (image : Image) (m : Machine) (k : ℕ) (u : Unit) (r : Request) → length (serves image m k u r).words ≡ length m.words
serves_size image m k u (request.Load at) = refl
serves_size image m k u (request.Store at value) = length-set m.words at value
serves_size image m k u (request.Add at value) = length-set m.words at _
serves_size image m k u (request.Print text) = refl
serves_size image m k u request.Draw = refl
serves_size image m k u (request.Spawn ask) = refl

moves_size : (image : Image) (m : Machine) (k : ℕ) (u : Unit) (n : Next) → length (moves image m k u n).words ≡ length m.words
moves_size image m k u next.Local = refl
moves_size image m k u (next.Trap kind) = refl
moves_size image m k u (next.Ask r) = serves_size image m k u r

turn_size : (image : Image) (m : Machine) (k : ℕ) (o : Option Unit) → length (turn_of image m k o).words ≡ length m.words
turn_size image m k None = refl
turn_size image m k (Some u) = moves_size image m k u (next_of image m.start u)

after_size : (image : Image) (m : Machine) (turns : List ℕ) → length (after image m turns).words ≡ length m.words
after_size image m [] = refl
after_size image m (k ∷ ks) = after_size image (turn image m k) ks ∙ turn_size image m k (slice_get m.units k)

pub leads_size : (image : Image) (begin end : Machine) → RunsTo image begin end → length end.words ≡ length begin.words
leads_size image begin end (schedule, legal, reaches) = ap (λ (m : Machine). length m.words) (sym reaches) ∙ after_size image begin schedule

-- ---- turns keep the numbers of the units

abbrev pub number_of : Unit → ℕ
number_of u = u.number

set_same : {A : Type 0} (xs : List A) (k : ℕ) (x : A) → slice_get xs k ≡ Some x → slice_set xs k x ≡ xs
set_same [] k x there = refl
set_same (y ∷ ys) zero x there = let same : y ≡ x = cc in rw same refl
set_same (y ∷ ys) (suc k) x there = ap (λ zs. y ∷ zs) (set_same ys k x there)

number_at : (units : List Unit) (k : ℕ) (u : Unit) → slice_get units k ≡ Some u → slice_get (map number_of units) k ≡ Some u.number
number_at units k u there = rw (slice_get-map number_of units k, there) refl

numbers_put : (units : List Unit) (k : ℕ) (u after : Unit) → slice_get units k ≡ Some u → after.number ≡ u.number → map number_of (slice_set units k after) ≡ map number_of units
numbers_put units k u after there same =
    map-set number_of units k after ∙ ap (λ n. slice_set (map number_of units) k n) same ∙ set_same (map number_of units) k u.number (number_at units k u there)

joins_numbers_by : (image : Image) (start : Start) (b : Bool) (x : Unit) (us : List Unit) → map number_of (if b then resumes image start x ∷ us else x ∷ us) ≡ map number_of (x ∷ us)
joins_numbers_by image start true x us = refl
joins_numbers_by image start false x us = refl

joins_numbers : (image : Image) (start : Start) (us : List Unit) → map number_of (joins image start us) ≡ map number_of us
joins_numbers image start [] = refl
joins_numbers image start (x ∷ us) = joins_numbers_by image start (list_all (λ u. is_stopped u.state) us) x us

ready_numbers : (us : List Unit) → map number_of (map ready us) ≡ map number_of us
ready_numbers [] = refl
ready_numbers (u ∷ us) = ap (λ ns. u.number ∷ ns) (ready_numbers us)

serves_numbers : (image : Image) (m : Machine) (k : ℕ) (u : Unit) (r : Request) → slice_get m.units k ≡ Some u → next_of image m.start u ≡ next.Ask r → map number_of (serves image m k u r).units ≡ map number_of m.units
serves_numbers image m k u (request.Load at) there does = numbers_put m.units k u _ there (answer_stepped image m.start u _ (request.Load at) does tt).0.number
serves_numbers image m k u (request.Store at value) there does = numbers_put m.units k u _ there (answer_stepped image m.start u _ (request.Store at value) does tt).0.number
serves_numbers image m k u (request.Add at value) there does = numbers_put m.units k u _ there (answer_stepped image m.start u _ (request.Add at value) does tt).0.number
serves_numbers image m k u (request.Print text) there does = numbers_put m.units k u _ there (answer_stepped image m.start u _ (request.Print text) does tt).0.number
serves_numbers image m k u request.Draw there does =
    joins_numbers image m.start (slice_set m.units k (answer_of image m.start u m.drawn)) ∙ numbers_put m.units k u _ there (answer_stepped image m.start u _ request.Draw does tt).0.number
serves_numbers image m k u (request.Spawn ask) there does =
    map-set number_of (map ready m.units) k (waits_for u) ∙ ap (λ ns. slice_set ns k u.number) (ready_numbers m.units) ∙ set_same (map number_of m.units) k u.number (number_at m.units k u there)

moves_numbers : (image : Image) (m : Machine) (k : ℕ) (u : Unit) (n : Next) → slice_get m.units k ≡ Some u → next_of image m.start u ≡ n → map number_of (moves image m k u n).units ≡ map number_of m.units
moves_numbers image m k u next.Local there does = numbers_put m.units k u _ there (local_stepped image m.start u does).0.number
moves_numbers image m k u (next.Trap kind) there does = refl
moves_numbers image m k u (next.Ask r) there does = serves_numbers image m k u r there does

turn_numbers : (image : Image) (m : Machine) (k : ℕ) (o : Option Unit) → slice_get m.units k ≡ o → map number_of (turn_of image m k o).units ≡ map number_of m.units
turn_numbers image m k None there = refl
turn_numbers image m k (Some u) there = moves_numbers image m k u (next_of image m.start u) there refl

after_numbers : (image : Image) (m : Machine) (turns : List ℕ) → map number_of (after image m turns).units ≡ map number_of m.units
after_numbers image m [] = refl
after_numbers image m (k ∷ ks) = after_numbers image (turn image m k) ks ∙ turn_numbers image m k (slice_get m.units k) refl

pub leads_numbers : (image : Image) (begin end : Machine) → RunsTo image begin end → map number_of end.units ≡ map number_of begin.units
leads_numbers image begin end (schedule, legal, reaches) = ap (λ (m : Machine). map number_of m.units) (sym reaches) ∙ after_numbers image begin schedule
