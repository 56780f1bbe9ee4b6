-- The machine at the beginning of a run.
use Rattle.std.proofs.Common.{◌≡◌, refl, ap, ◌∙◌, ℕ, zero, suc, ◌+◌, ◌≤◌, false, List, [], ◌∷◌, ◌++◌, length, map, All, inl, arith}
use Rattle.std.proofs.lemmas.List.{map-append, length-map, length-append}
use Rattle.std.proofs.lemmas.List.Elements.{All-nil, All-push}
use Rattle.xmt_isa.specs.declared.image.Image.{Image}
use Rattle.xmt_isa.specs.declared.unit.Start.{Start}
use Rattle.xmt_isa.specs.declared.unit.Unit.{Unit}
use Rattle.xmt_isa.specs.Opening.{zeros_of, new_unit, new_master, control_units, opening_words, opening, no_start}
use Rattle.xmt_isa.specs.Fits.{UnitFits}
use Rattle.xmt_isa.specs.Valid.{IsValid}
use Rattle.xmt_isa.proofs.New.{made_fits}
use Rattle.machine_turns.specs.declared.seats.Seat.{Seat}
use Rattle.machine_turns.specs.declared.machine.Machine as kept
use Rattle.machine_turns.specs.Seats.{free, seat_of, Holds}
use Rattle.machine_turns.specs.Kept.{IsIdle, Serial, Kept}
use Rattle.machine_turns.specs.View.{seen_seat, machine_of}
use Rattle.machine_turns.proofs.Seen.{frees}

new_fits : (number : ℕ) (image : Image) (start : Start) → UnitFits image start (new_unit number)
new_fits number image start = made_fits number (zeros_of 256) (zeros_of 131584) refl refl image start

frees_new : (n : ℕ) → frees (map seat_of (control_units n)) ≡ control_units n
frees_new zero = refl
frees_new (suc n) =
    ap (λ (seats : List Seat). frees seats) (map-append seat_of (control_units n) (new_unit (suc n) ∷ []))
    ∙ map-append (λ (s : Seat). free s.unit) (map seat_of (control_units n)) (seat_of (new_unit (suc n)) ∷ [])
    ∙ ap (λ us. us ++ (new_unit (suc n) ∷ [])) (frees_new n)

idle_new : (image : Image) (budget n : ℕ) → All (IsIdle image budget) (map seat_of (control_units n))
idle_new image budget zero = All-nil (IsIdle image budget)
idle_new image budget (suc n) =
    let one : IsIdle image budget (seat_of (new_unit (suc n))) = record { number = λ is. absurd (omega (arith, is)); free = refl; fits = new_fits (suc n) image; within = omega arith; idle = inl refl } in
    rw (map-append seat_of (control_units n) (new_unit (suc n) ∷ [])) (All-push (IsIdle image budget) (map seat_of (control_units n)) (seat_of (new_unit (suc n))) (idle_new image budget n) one)

count_new : (n : ℕ) → length (control_units n) ≡ n
count_new zero = refl
count_new (suc n) =
    let more : length (control_units n ++ (new_unit (suc n) ∷ [])) ≡ length (control_units n) + 1 = length-append (control_units n) (new_unit (suc n) ∷ []) in
    let before : length (control_units n) ≡ n = count_new n in
    omega (arith, more, before)

pub opening_same : (image : Image) (budget n : ℕ) (memory : List ℕ) (m : kept.Machine) (master : Seat) → Holds image m.start budget (new_master image) master.unit master.ask → m.seats.items ≡ master ∷ map seat_of (control_units n)
    → m.words.items ≡ opening_words image memory → m.drawn ≡ 0 → m.start ≡ no_start → m.spawned ≡ false → machine_of m [] ≡ opening image memory n
opening_same image budget n memory m master holds seats words drawn start spawned =
    let units : map (seen_seat m.spawned) m.seats.items ≡ new_master image ∷ control_units n = rw (spawned, seats) (ap (λ u. u ∷ frees (map seat_of (control_units n))) holds.same ∙ ap (λ us. new_master image ∷ us) (frees_new n)) in
    rw (units, words, drawn, start) refl

pub opening_kept : (image : Image) (budget n : ℕ) (m : kept.Machine) (master : Seat) → IsValid image → 1 ≤ n → Holds image m.start budget (new_master image) master.unit master.ask → m.seats.items ≡ master ∷ map seat_of (control_units n)
    → m.spawned ≡ false → Kept image budget m
opening_kept image budget n m master valid some holds seats spawned =
    let held : Serial image budget m.start master (map seat_of (control_units n)) = record { number = ap (λ (u : Unit). u.number) holds.same; tells = holds.tells; idle = idle_new image budget n } in
    let count : length (map seat_of (control_units n)) ≡ n = length-map (control_units n) seat_of ∙ count_new n in
    record { valid = valid; master = master; others = map seat_of (control_units n); are = seats; some = rw count some; holds = rw spawned held }
