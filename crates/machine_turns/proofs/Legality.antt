-- Legal schedules, one turn after another.
use Rattle.std.proofs.Common.{◌≡◌, ℕ, List, map, [], ◌∷◌, ◌++◌, refl, sym, ap, ◌∙◌, slice_get, Some, true, false}
use Rattle.std.specs.Option.{IsSomeAnd}
use Rattle.xmt_isa.specs.declared.image.Image.{Image}
use Rattle.xmt_isa.specs.Machine.{Machine, turn, after}
use Rattle.xmt_isa.specs.declared.unit.Unit.{Unit}
use Rattle.xmt_isa.specs.Step.{next_of}
use Rattle.xmt_isa.specs.Picked.{is_active, is_spawned, is_trap}
use Rattle.xmt_isa.specs.Legal.{HasTurn, IsLegal, RunsTo}
use Rattle.machine_turns.specs.declared.machine.Machine as kept
use Rattle.machine_turns.specs.View.{seen_seat, machine_of}
use Rattle.machine_turns.specs.Kept.{Kept}
use Rattle.machine_turns.specs.Goes.{SeatGoesOn}
use Rattle.machine_turns.proofs.Advance.{Going, going}
use Rattle.machine_turns.proofs.Choices.{spawned_seen}

-- the machine after a further turn
after_push : (image : Image) (m : Machine) (schedule : List ℕ) (k : ℕ) → after image m (schedule ++ k ∷ []) ≡ turn image (after image m schedule) k
after_push image m [] k = refl
after_push image m (j ∷ js) k = after_push image (turn image m j) js k

-- a schedule stays legal with a further turn
legal_push : (image : Image) (m : Machine) (schedule : List ℕ) (k : ℕ) → IsLegal image m schedule → HasTurn image (after image m schedule) k → IsLegal image m (schedule ++ k ∷ [])
legal_push image m [] k legal has = (has, tt)
legal_push image m (j ∷ js) k legal has = (legal.0, legal_push image (turn image m j) js k legal.1 has)

-- a legal schedule leads on by one turn
pub leads_further : (image : Image) (begin old new : Machine) (k : ℕ) → RunsTo image begin old → HasTurn image old k → new ≡ turn image old k → RunsTo image begin new
leads_further image begin old new k (schedule, legal, reaches) has turned =
    (schedule ++ k ∷ [], legal_push image begin schedule k legal (rw reaches has), after_push image begin schedule k ∙ ap (λ m. turn image m k) reaches ∙ sym turned)

-- a unit that goes on has a turn
pub goes_on_turn : (image : Image) (budget : ℕ) (m : kept.Machine) (k : ℕ) → Kept image budget m → IsSomeAnd (slice_get m.seats.items k) (SeatGoesOn m.spawned) → (out : List ℕ) → HasTurn image (machine_of m out) k
goes_on_turn image budget m k kept_m goes out =
    let g : Going image budget m k = going image budget m k kept_m goes in
    let active : is_active (is_spawned (map (seen_seat m.spawned) m.seats.items)) g.unit ≡ true = rw (spawned_seen image budget m kept_m) g.active in (
      there_and (machine_of m out).units k (λ u. is_active (is_spawned (map (seen_seat m.spawned) m.seats.items)) u ≡ true) g.unit g.there active,
      there_and (machine_of m out).units k (λ u. is_trap (next_of image m.start u) ≡ false) g.unit g.there g.untrapped,
    )
  where
    there_and : (units : List Unit) (j : ℕ) (P : Unit → Type 0) (u : Unit) → slice_get units j ≡ Some u → P u → IsSomeAnd (slice_get units j) P
    there_and units j P u there holds = rw there holds
