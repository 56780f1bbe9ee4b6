-- The unit in each place has the number of that place: at the beginning, and along legal schedules.
use Rattle.std.proofs.Common.{◌≡◌, refl, sym, ap, ◌∙◌, ℕ, zero, suc, ◌+◌, ◌-◌, ◌*◌, ◌<◌, nat_lt, Bool, true, false, List, [], ◌∷◌, ◌++◌, length, map, replicate, Option, Some, None, slice_get, get_or, length-append, arith}
use Rattle.std.proofs.lemmas.Bool.Decides.{nat_tests}
use Rattle.std.proofs.lemmas.Option.{slice_get-map, get_or_from_slice_get}
use Rattle.std.proofs.lemmas.List.{map-append, length-replicate, get_or_append_left, get_or-append_right}
use Rattle.xmt_isa.specs.declared.image.Image.{Image}
use Rattle.xmt_isa.specs.Machine.{Machine}
use Rattle.xmt_isa.specs.Legal.{RunsTo}
use Rattle.xmt_isa.specs.Opening.{zeros_of, new_unit, new_master, control_units, opening_words, opening}
use Rattle.machine_turns.specs.declared.machine.Machine as kept
use Rattle.machine_turns.specs.declared.seats.Seat.{Seat}
use Rattle.machine_turns.specs.View.{seen_seat, machine_of}
use Rattle.machine_turns.proofs.Seen.{some_inside, seen_number}
use Rattle.threaded_runs.specs.Sections.{AreNumbered}
use Rattle.threaded_runs.proofs.Leads.{number_of, leads_numbers}

-- ---- numbers of seats, and of units as others see them

abbrev shown : Bool → List Seat → List ℕ
shown spawned seats = map number_of (map (seen_seat spawned) seats)

number_shown : (spawned : Bool) (seats : List Seat) (place : ℕ) (s : Seat) → slice_get seats place ≡ Some s → slice_get (shown spawned seats) place ≡ Some s.unit.number
number_shown spawned seats place s there =
    rw (slice_get-map number_of (map (seen_seat spawned) seats) place, slice_get-map (seen_seat spawned) seats place, there) (ap (λ n. Some n) (seen_number spawned s.unit))

none_shown : (spawned : Bool) (seats : List Seat) (place : ℕ) → slice_get seats place ≡ None → slice_get (shown spawned seats) place ≡ None
none_shown spawned seats place none = rw (slice_get-map number_of (map (seen_seat spawned) seats) place, slice_get-map (seen_seat spawned) seats place, none) refl

numbered_by : (before now : Bool) (old new : List Seat) → shown now new ≡ shown before old → AreNumbered old → AreNumbered new
numbered_by before now old new same numbered = λ place s there. at_old place s there (slice_get old place) refl
  where
    at_old : (place : ℕ) (s : Seat) → slice_get new place ≡ Some s → (o : Option Seat) → slice_get old place ≡ o → s.unit.number ≡ place
    at_old place s there None none =
        let never : None ≡ Some s.unit.number = sym (none_shown before old place none) ∙ ap (λ ns. slice_get ns place) (sym same) ∙ number_shown now new place s there in
        absurd cc
    at_old place s there (Some t) at =
        let is : Some t.unit.number ≡ Some s.unit.number = sym (number_shown before old place t at) ∙ ap (λ ns. slice_get ns place) (sym same) ∙ number_shown now new place s there in
        let number : t.unit.number ≡ s.unit.number = cc in
        sym number ∙ numbered place t at

-- a legal schedule leaves each unit its number
pub numbered_further : (image : Image) (old new : kept.Machine) (out further : List ℕ) → RunsTo image (machine_of old out) (machine_of new further) → AreNumbered old.seats.items → AreNumbered new.seats.items
numbered_further image old new out further leads numbered =
    numbered_by old.spawned new.spawned old.seats.items new.seats.items (leads_numbers image (machine_of old out) (machine_of new further) leads) numbered

-- ---- the beginning

control_length : (n : ℕ) → length (map number_of (control_units n)) ≡ n
control_length zero = refl
control_length (suc n) =
    let rest : length (map number_of (control_units n)) ≡ n = control_length n in
    rw (map-append number_of (control_units n) (new_unit (suc n) ∷ [])) (omega (arith, length-append (map number_of (control_units n)) (suc n ∷ []), rest))

number_by : (n place : ℕ) (b : Bool) → nat_lt place n ≡ b → place < suc n → (place < n → get_or (map number_of (control_units n)) place 0 ≡ suc place)
    → get_or (map number_of (control_units n) ++ (suc n ∷ [])) place 0 ≡ suc place
number_by n place true is inside below =
    let less : place < n = grind (arith, nat_tests, is) in
    get_or_append_left (map number_of (control_units n)) (suc n ∷ []) 0 place (omega (arith, less, control_length n)) ∙ below less
number_by n place false is inside below =
    let last : place ≡ n = grind (arith, nat_tests, is, inside) in
    let none : n - n ≡ 0 = omega arith in
    rw last (get_or-append_right (map number_of (control_units n)) (suc n ∷ []) n n 0 (control_length n) (omega arith) ∙ rw none refl)

control_number : (n place : ℕ) → place < n → get_or (map number_of (control_units n)) place 0 ≡ suc place
control_number zero place inside = absurd (omega (arith, inside))
control_number (suc n) place inside =
    rw (map-append number_of (control_units n) (new_unit (suc n) ∷ [])) (number_by n place (nat_lt place n) refl (omega (arith, inside)) (λ less. control_number n place less))

number_there : (image : Image) (n place x : ℕ) → slice_get (map number_of (new_master image ∷ control_units n)) place ≡ Some x → x ≡ place
number_there image n zero x there = cc
number_there image n (suc place) x there =
    let at : slice_get (map number_of (control_units n)) place ≡ Some x = there in
    let inside : place < length (map number_of (control_units n)) = some_inside (map number_of (control_units n)) place x at in
    sym (get_or_from_slice_get (map number_of (control_units n)) place x 0 at) ∙ control_number n place (omega (arith, inside, control_length n))

pub numbered_first : (image : Image) (memory : List ℕ) (n : ℕ) (m : kept.Machine) → machine_of m [] ≡ opening image memory n → AreNumbered m.seats.items
numbered_first image memory n m begins = λ place s there.
    number_there image n place s.unit.number
    (ap (λ us. slice_get (map number_of us) place) (sym (ap (λ (x : Machine). x.units) begins)) ∙ number_shown m.spawned m.seats.items place s there)

zeros_length : (n : ℕ) → length (zeros_of n) ≡ n
unfolding zeros_of
zeros_length n = length-replicate n 0

words_size : (ps memory outer : List ℕ) (n : ℕ) → length ps ≡ 8 → length outer ≡ n → length (replicate 4 0 ++ ps ++ memory ++ outer) ≡ 12 + length memory + n
words_size ps memory outer n eight last = omega (arith, length-append (replicate 4 0 ++ ps ++ memory) outer, length-append (replicate 4 0 ++ ps) memory, length-append (replicate 4 0) ps, eight, last)

pub words_first : (image : Image) (memory : List ℕ) (n : ℕ) (m : kept.Machine) → machine_of m [] ≡ opening image memory n → length image.ps ≡ 8 → length memory ≡ length image.words
    → length m.words.items ≡ 12 + length image.words + 257 * image.outer
words_first image memory n m begins eight same =
    let all : length (opening_words image memory) ≡ 12 + length memory + 257 * image.outer = words_size image.ps memory (zeros_of (257 * image.outer)) (257 * image.outer) eight (zeros_length (257 * image.outer)) in
    ap (λ (x : Machine). length x.words) begins ∙ all ∙ ap (λ k. 12 + k + 257 * image.outer) same
