-- The machine at the beginning, and its empty log.
use Rattle.std.proofs.Common.{◌≡◌, refl, sym, ◌∙◌, ap, subst, ℕ, suc, zero, ◌+◌, ◌==◌, Bool, true, false, if◌then◌else◌, List, [], ◌∷◌, ◌++◌, length, Some, None, slice_get, arith, inl}
use Rattle.xmt_isa.specs.declared.image.Image.{Image}
use Rattle.xmt_isa.specs.declared.unit.Unit.{Unit}
use Rattle.xmt_isa.specs.Opening.{new_unit, new_master, control_units, opening}
use Rattle.machine_log.specs.Log.{opening_world}
use Rattle.xmt_isa.specs.Threads.{main_actor, HasRoom}
use Rattle.machine_log.proofs.Sections.{new_room}
use Rattle.machine_log.specs.Done.{Parts, owned, spawn_entry}
use Rattle.machine_log.proofs.Follows.{Tallies, Follows}
use Rattle.machine_places.proofs.Lists.{some_same}

abbrev pub no_parts : Image → Parts
no_parts image = record { starts = λ a. main_actor image; ends = λ a. main_actor image; steps = λ a. 0; owner = λ a. 0; runner = λ a. 0 }

abbrev pub no_tallies : Tallies
no_tallies = record { turns = λ k. 0; draws = λ place. 0 }

none_owned : (place n : ℕ) → owned (λ a. 0) (λ a. 0) place n ≡ 0
none_owned place zero = refl
none_owned place (suc n) = last (0 == place) (none_owned place n)
  where
    last : (b : Bool) → owned (λ a. 0) (λ a. 0) place n ≡ 0 → owned (λ a. 0) (λ a. 0) place n + (if b then 0 else 0) ≡ 0
    last true h = omega (arith, h)
    last false h = omega (arith, h)

nothing_inside : {X : Type 0} (before after : List X) (x : X) {A : Type 0} → [] ≡ before ++ (x ∷ after) → A
nothing_inside [] after x e = cc
nothing_inside (b ∷ before) after x e = cc

-- an element of a list with one more
last_or_before : {X : Type 0} (P : ℕ → X → Type 0) (xs : List X) (x y : X) (i : ℕ) → slice_get (xs ++ (x ∷ [])) i ≡ Some y → ((j : ℕ) → slice_get xs j ≡ Some y → P j y) → P (length xs) x → P i y
last_or_before P [] x y zero at before last = subst (P 0) (some_same x y at) last
last_or_before P [] x y (suc i) at before last = let never : None ≡ Some y = at in cc
last_or_before P (z ∷ xs) x y zero at before last = before 0 at
last_or_before P (z ∷ xs) x y (suc i) at before last =
    last_or_before (λ j. P (suc j)) xs x y i at (λ j h. before (suc j) h) last

pub control_units-length : (n : ℕ) → length (control_units n) ≡ n
control_units-length zero = refl
control_units-length (suc n) = more (control_units n) (new_unit (suc n)) n (control_units-length n)
  where
    more : (us : List Unit) (u : Unit) (n : ℕ) → length us ≡ n → length (us ++ (u ∷ [])) ≡ suc n
    more [] u n h = ap suc h
    more (v ∷ us) u n h = ap suc (more us u (length us) refl) ∙ ap suc h

control_units-numbers : (n place : ℕ) (u : Unit) → slice_get (control_units n) place ≡ Some u → u.number ≡ 1 + place
control_units-numbers zero place u at = let never : None ≡ Some u = at in cc
control_units-numbers (suc n) place u at =
    last_or_before (λ i x. x.number ≡ 1 + i) (control_units n) (new_unit (suc n)) u place at (λ j h. control_units-numbers n j u h)
    (let count : length (control_units n) ≡ n = control_units-length n in omega (arith, count))

control_units-rooms : (n place : ℕ) (u : Unit) → slice_get (control_units n) place ≡ Some u → HasRoom u
control_units-rooms zero place u at = let never : None ≡ Some u = at in cc
control_units-rooms (suc n) place u at = last_or_before (λ i x. HasRoom x) (control_units n) (new_unit (suc n)) u place at (λ j h. control_units-rooms n j u h) (new_room (suc n))

control_units-steps : (n place : ℕ) (u : Unit) → slice_get (control_units n) place ≡ Some u → u.counts.steps ≡ 0
control_units-steps zero place u at = let never : None ≡ Some u = at in cc
control_units-steps (suc n) place u at = last_or_before (λ i x. x.counts.steps ≡ 0) (control_units n) (new_unit (suc n)) u place at (λ j h. control_units-steps n j u h) refl

pub opening_steps : (image : Image) (memory : List ℕ) (n k : ℕ) (u : Unit) → slice_get (opening image memory n).units k ≡ Some u → u.counts.steps ≡ 0
opening_steps image memory n zero u at = ap (λ (x : Unit). x.counts.steps) (sym (some_same (new_master image) u at))
opening_steps image memory n (suc place) u at = control_units-steps n place u at

pub opening_follows : (image : Image) (memory : List ℕ) (n : ℕ) → Follows image memory (opening image memory n) [] (no_parts image) no_tallies
opening_follows image memory n =
    record {
      done = record {
        lawful = tt;
        does = λ actor. (refl, refl);
        serial = refl;
        blocks = λ before after site low high reply k e. nothing_inside before after (spawn_entry site low high reply) e;
      };
      world = opening_world image memory;
      is_world = refl;
      master = new_master image;
      rest = control_units n;
      units = refl;
      words = refl;
      printed = refl;
      counted = record { serial = refl; units = λ place. ap (λ n. 0 + n) (sym (none_owned place 1)); bound = λ place. omega arith };
      due = λ waits. absurd (let never : false ≡ true = waits in cc);
      prompt = λ waits. absurd (let never : false ≡ true = waits in cc);
      rising = λ one. tt;
      stands = record {
        master_number = refl;
        numbers = control_units-numbers n;
        rooms = control_units-rooms n;
        there = omega arith;
        fresh = λ actor past. (refl, refl);
        phase = inl (record { goes = refl; stands = refl; all_ended = λ actor later less. absurd (omega (arith, later, less)); live = inl (refl, refl) });
      };
    }
