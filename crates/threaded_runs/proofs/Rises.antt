-- What a unit does by itself: its steps never fall, and it doesn't begin to wait.
use Rattle.std.proofs.Common.{◌≡◌, ◌⊎◌, inl, inr, refl, sym, ap, ◌∙◌, subst, ℕ, zero, suc, ◌^◌, ◌<◌, ◌≤◌, ◌==◌, Bool, true, false, if◌then◌else◌, List, [], ◌∷◌, Option, Some, None, arith}
use Rattle.interleaving.specs.Actors.{Entry, Does, DoesThen, Rests}
use Rattle.xmt_isa.specs.declared.image.Image.{Image}
use Rattle.xmt_isa.specs.declared.operation.Operation.{Operation}
use Rattle.xmt_isa.specs.declared.operation.Operation.TheVariants.{Return, Load, Store, Add, Print, Spawn, Join}
use Rattle.xmt_isa.specs.declared.unit.Unit.{Unit}
use Rattle.xmt_isa.specs.declared.unit.Start.{Start}
use Rattle.xmt_isa.specs.declared.unit.Request.{Request}
use Rattle.xmt_isa.specs.declared.unit.Next.{Next}
use Rattle.xmt_isa.specs.declared.unit.Next.TheVariants as next
use Rattle.xmt_isa.specs.Image.{operation_at}
use Rattle.xmt_isa.specs.Step.{more, is_due, next_of, local_of, local_here, answer_of, answer_here, draws, returns}
use Rattle.xmt_isa.specs.Picked.{is_live}
use Rattle.machine_turns.specs.Steps.{steps_of}
use Rattle.machine_turns.proofs.Frees.{free_same, local_free, answer_free, draws_steps}
use Rattle.machine_sections.specs.Merge.{unit_move_by, unit_move, GoesOn}

-- one step more, or as many
abbrev Rises : Unit → Unit → Type 0
Rises u v = (steps_of v ≡ steps_of u) ⊎ (steps_of v ≡ more (steps_of u))

returns_rise : (u : Unit) (b : Bool) → b ≡ (u.depth == 0) → Rises u (returns u)
returns_rise u true is = rw (← is) (inr refl)
returns_rise u false is = rw (← is) (inr refl)

local_rise : (image : Image) (start : Start) (u : Unit) (o : Option Operation) → Rises u (local_here image start u o)
local_rise image start u None = inl refl
local_rise image start u (Some Return) = returns_rise u (u.depth == 0) refl
local_rise image start u (Some (Load a location)) = inl refl
local_rise image start u (Some (Store a location)) = inl refl
local_rise image start u (Some (Add a location)) = inl refl
local_rise image start u (Some (Print text)) = inl refl
local_rise image start u (Some (Spawn a b mask)) = inl refl
local_rise image start u (Some Join) = inl refl
local_rise image start u (Some operation) = inr refl

answer_rise : (start : Start) (u : Unit) (o : Option Operation) (k : ℕ) → Rises u (answer_here start u o k)
answer_rise start u None k = inl refl
answer_rise start u (Some (Load a location)) k = inr refl
answer_rise start u (Some (Store a location)) k = inr refl
answer_rise start u (Some (Add a location)) k = inr refl
answer_rise start u (Some (Print text)) k = inr refl
answer_rise start u (Some Join) k = inr (draws_steps start u k).steps
answer_rise start u (Some operation) k = inl refl

answer_by : (start : Start) (u : Unit) (o : Option Operation) (k : ℕ) (b : Bool) → Rises u (if b then draws start u k else answer_here start u o k)
answer_by start u o k true = inr (draws_steps start u k).steps
answer_by start u o k false = answer_rise start u o k

-- what stays of a unit that doesn't wait
pub record Keeps (u v : Unit) : Type 0 where
  pub free : v.waits ≡ false
  pub rises : steps_of u ≤ steps_of v

pub record Counts (u : Unit) : Type 0 where
  pub free : u.waits ≡ false
  pub small : steps_of u < 2 ^ 64

risen : (s t : ℕ) → s < 2 ^ 64 → (t ≡ s) ⊎ (t ≡ more s) → (s ≤ t) × (t < 2 ^ 64)
risen s t small (inl is) = (omega (arith, is), omega (arith, is, small))
risen s t small (inr is) = (omega (arith, is, small), omega (arith, is, small))

module _ (image : Image) (start : Start) where
  local_waits : (u : Unit) → u.waits ≡ false → (local_of image start u).waits ≡ false
  local_waits u is = ap (λ v. (local_of image start v).waits) (sym (free_same u is)) ∙ ap (λ (v : Unit). v.waits) (local_free image start u)

  answer_waits : (u : Unit) (k : ℕ) → u.waits ≡ false → (answer_of image start u k).waits ≡ false
  answer_waits u k is = ap (λ v. (answer_of image start v k).waits) (sym (free_same u is)) ∙ ap (λ (v : Unit). v.waits) (answer_free image start u k)

  kept_through : (u mid v : Unit) → steps_of u ≤ steps_of mid → Keeps mid v → Keeps u v
  kept_through u mid v rises rest = let further : steps_of mid ≤ steps_of v = rest.rises in record { free = rest.free; rises = omega (arith, rises, further) }

  does_keeps : (steps : ℕ) (u : Unit) (part : List (Entry Request)) (v : Unit) → Counts u → Does (unit_move image start) steps u part v → Keeps u v
  does_keeps zero u part v counts does =
      let same : u ≡ v = sym does.1 in
      record { free = ap (λ (w : Unit). w.waits) (sym same) ∙ counts.free; rises = subst (λ (w : Unit). steps_of u ≤ steps_of w) same (omega arith) }
  does_keeps (suc n) u part v counts does = by_live (is_live u.state) part (λ mid p c d. does_keeps n mid p v c d) does
    where
      by_next : (next_move : Next) (part : List (Entry Request)) → ((mid : Unit) (p : List (Entry Request)) → Counts mid → Does (unit_move image start) n mid p v → Keeps mid v)
          → DoesThen (Does (unit_move image start) n) (unit_move_by image start u next_move) part v → Keeps u v
      by_next next.Local part go does =
          let went = risen (steps_of u) (steps_of (local_of image start u)) counts.small (local_rise image start u (operation_at image u.at)) in
          kept_through u (local_of image start u) v went.0 (go (local_of image start u) part (record { free = local_waits u counts.free; small = went.1 }) does)
      by_next (next.Trap kind) part go does = absurd does
      by_next (next.Ask ask) [] go does = absurd does
      by_next (next.Ask ask) (e ∷ part) go does =
          let after : Unit = answer_of image start u e.reply in
          let went = risen (steps_of u) (steps_of (answer_of image start u e.reply)) counts.small (answer_by start u (operation_at image u.at) e.reply (is_due u.state)) in
          kept_through u (answer_of image start u e.reply) v went.0 (go (answer_of image start u e.reply) part (record { free = answer_waits u e.reply counts.free; small = went.1 }) does.1)

      by_live : (b : Bool) (part : List (Entry Request)) → ((mid : Unit) (p : List (Entry Request)) → Counts mid → Does (unit_move image start) n mid p v → Keeps mid v)
          → DoesThen (Does (unit_move image start) n) (if b then unit_move_by image start u (next_of image start u) else Rests) part v → Keeps u v
      by_live true part go does = by_next (next_of image start u) part go does
      by_live false part go does = absurd does

  -- a unit that came on by itself
  pub goes_keeps : (u v : Unit) → Counts u → GoesOn image start u v → Keeps u v
  goes_keeps u v counts goes = does_keeps goes.steps u goes.part v counts goes.does
