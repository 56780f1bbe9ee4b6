-- Units outside sections, and at their beginning.
use Rattle.std.proofs.Common.{◌≡◌, ◌≢◌, refl, sym, ap, ◌∙◌, subst, ℕ, suc, ◌==◌, ◌&&◌, Bool, true, false, List, [], ◌∷◌, All, inl, inr, arith}
use Rattle.std.specs.List.{list_all}
use Rattle.std.proofs.lemmas.Bool.Decides.{nat_tests}
use Rattle.std.proofs.lemmas.List.Elements.{All-nil, All-cons}
use Rattle.xmt_isa.specs.declared.image.Image.{Image}
use Rattle.xmt_isa.specs.declared.unit.Unit.{Unit}
use Rattle.xmt_isa.specs.declared.unit.UnitState.{UnitState}
use Rattle.xmt_isa.specs.declared.unit.UnitState.TheVariants.{Draws, Runs, Stopped, Halted}
use Rattle.xmt_isa.specs.declared.unit.Start.{Start}
use Rattle.xmt_isa.specs.Fits.{UnitFits}
use Rattle.xmt_isa.specs.Machine.{ready, is_stopped}
use Rattle.unit_steps.specs.Steps.{begun, is_new_master}
use Rattle.machine_turns.specs.declared.seats.Seat.{Seat}
use Rattle.machine_turns.specs.Seats.{has_stopped}
use Rattle.machine_turns.specs.Kept.{IsIdle, IsRunning, AreReadied, BehindMaster}

-- ---- elements

pub all_head : {A : Type 0} (P : A → Type 0) (x : A) (xs : List A) → All P (x ∷ xs) → P x
all_head P x xs all = all 0 x (omega arith)

pub all_tail : {A : Type 0} (P : A → Type 0) (x : A) (xs : List A) → All P (x ∷ xs) → All P xs
all_tail P x xs all = λ i d inside. all (suc i) d (omega (arith, inside))

pub all_first : {A : Type 0} (P : A → Type 0) (ys : List A) (x : A) (xs : List A) → ys ≡ x ∷ xs → All P ys → P x
all_first P ys x xs are all = all_head P x xs (subst (λ zs. All P zs) are all)

pub all_rest : {A : Type 0} (P : A → Type 0) (ys : List A) (x : A) (xs : List A) → ys ≡ x ∷ xs → All P ys → All P xs
all_rest P ys x xs are all = all_tail P x xs (subst (λ zs. All P zs) are all)

pub behind_master : (image : Image) (start : Start) (budget : ℕ) (seats new : List Seat) (first : Seat) (rest due : List Seat) → seats ≡ first ∷ rest → new ≡ first ∷ due → AreReadied image start budget rest due
    → (master : Seat) (others : List Seat) → seats ≡ master ∷ others → BehindMaster image start budget master others new
behind_master image start budget seats new first rest due front made readied master others are =
    let same_first : first ≡ master = cc in
    let same_rest : rest ≡ others = cc in
    record { due = due; are = made ∙ ap (λ (s : Seat). s ∷ due) same_first; readied = subst (λ (xs : List Seat). AreReadied image start budget xs due) same_rest readied }

-- ---- units that neither run nor wait

-- it fits whatever is broadcast
rests_fits : (image : Image) (start other : Start) (u : Unit) → UnitFits image start u → u.waits ≡ false → (u.state ≡ Runs → ⊥) → UnitFits image other u
rests_fits image start other u fits waits rests = record {
  room = fits.room;
  registers = fits.registers;
  zero = fits.zero;
  depth = fits.depth;
  stops = fits.stops;
  halts = fits.halts;
  waits = fits.waits;
  master_waits = fits.master_waits;
  asks = λ does. let never : false ≡ true = sym waits ∙ does in absurd cc;
  placed = λ runs. absurd (rests runs);
}

pub ready_fits : (image : Image) (start : Start) (u : Unit) → UnitFits image start u → u.waits ≡ false → UnitFits image start (ready u)
ready_fits image start u fits waits = record {
  room = record { back = fits.room.back; frames = fits.room.frames; list = fits.room.list };
  registers = fits.registers;
  zero = fits.zero;
  depth = fits.depth;
  stops = λ is. cc;
  halts = λ is. cc;
  waits = λ does. inr refl;
  master_waits = λ does. let never : false ≡ true = sym waits ∙ does in absurd cc;
  asks = λ does. let never : false ≡ true = sym waits ∙ does in absurd cc;
  placed = λ is. cc;
}

control_not_new : (n : ℕ) → n ≢ 0 → (n == 0) ≡ false
control_not_new n other = grind (arith, nat_tests, other)

pub ready_begun : (image : Image) (u : Unit) → u.number ≢ 0 → begun image (ready u) ≡ ready u
ready_begun image u other = rw (control_not_new u.number other) refl

pub control_begun : (u : Unit) → u.number ≢ 0 → is_new_master u ≡ false
control_begun u other = rw (control_not_new u.number other) refl

-- ---- units that have stopped

stopped_is : (s : UnitState) → is_stopped s ≡ true → s ≡ Stopped
stopped_is Draws is = absurd cc
stopped_is Runs is = absurd cc
stopped_is Stopped is = refl
stopped_is Halted is = absurd cc

isnt : (b : Bool) → (b ≡ true → ⊥) → b ≡ false
isnt true never = absurd (never refl)
isnt false never = refl

stopped_free : (image : Image) (start : Start) (u : Unit) → UnitFits image start u → u.state ≡ Stopped → u.waits ≡ false
stopped_free image start u fits stopped =
    isnt u.waits (λ does. elim (fits.waits does) [
      | inl runs ↦ (let never : Stopped ≡ Runs = sym stopped ∙ runs in cc)
      | inr due ↦ (let never : Stopped ≡ Draws = sym stopped ∙ due in cc)
    ])

idle_of : (image : Image) (start : Start) (budget : ℕ) (s : Seat) → IsRunning image start budget s → has_stopped s ≡ true → IsIdle image budget s
idle_of image start budget s running is =
    let stopped : s.unit.state ≡ Stopped = stopped_is s.unit.state is in
    let waits : s.unit.waits ≡ false = stopped_free image start s.unit running.tells.fits stopped in
    record {
      number = running.number;
      free = waits;
      fits = λ other. rests_fits image start other s.unit running.tells.fits waits (λ runs. let never : Stopped ≡ Runs = sym stopped ∙ runs in cc);
      within = running.tells.within;
      idle = inr stopped;
    }

both : (b c : Bool) → (b && c) ≡ true → (b ≡ true) × (c ≡ true)
both true c is = (refl, is)
both false c is = absurd cc

pub all_idle : (image : Image) (start : Start) (budget : ℕ) (seats : List Seat) → All (IsRunning image start budget) seats → list_all has_stopped seats ≡ true → All (IsIdle image budget) seats
all_idle image start budget [] running stopped = All-nil (IsIdle image budget)
all_idle image start budget (s ∷ seats) running stopped =
    let parts = both (has_stopped s) (list_all has_stopped seats) stopped in
    All-cons (IsIdle image budget) s seats (idle_of image start budget s (all_head (IsRunning image start budget) s seats running) parts.0)
    (all_idle image start budget seats (all_tail (IsRunning image start budget) s seats running) parts.1)
