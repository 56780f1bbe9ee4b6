-- What a unit does next, as the engine answers it.
use Rattle.std.proofs.Common.{◌≡◌, refl, sym, ap, ◌∙◌, inl, inr, ◌⊎◌, ℕ, zero, suc, ◌<◌, ◌≤◌, ◌^◌, ◌%◌, ◌==◌, ◌&&◌, Bool, true, false, arith}
use Rattle.xmt_base.specs.declared.values.Trap as trap
use Rattle.xmt_isa.specs.declared.image.Image.{Image}
use Rattle.xmt_isa.specs.declared.unit.Unit.{Unit}
use Rattle.xmt_isa.specs.declared.unit.UnitState.TheVariants as state
use Rattle.xmt_isa.specs.declared.unit.Start.{Start}
use Rattle.xmt_isa.specs.declared.unit.Request.{Request}
use Rattle.xmt_isa.specs.declared.unit.Request.TheVariants as request
use Rattle.xmt_isa.specs.declared.unit.Next.{Next}
use Rattle.xmt_isa.specs.declared.unit.Next.TheVariants as next
use Rattle.xmt_isa.specs.Step.{more, is_due, next_of, local_of}
use Rattle.xmt_isa.specs.Picked.{is_live}
use Rattle.unit_steps.specs.Steps.{is_new_master, begun, DoesNext, HasSpent, StandsAtTrap, RunsAlone, answered}
use Rattle.tcu_engine.specs.Asks.{ask_of, is_request}
use Rattle.tcu_engine.specs.declared.ask.Ask.{Ask}
use Rattle.tcu_engine.specs.declared.ask.Ask.TheVariants.{Load, Store, Add, Draw, Print, Spawn, Pause, Stopped, Halt, Trap, Spent}
use Rattle.machine_turns.specs.Seats.{free, Means}
use Rattle.machine_turns.specs.Steps.{steps_of}
use Rattle.machine_turns.proofs.Frees.{next_free, Stepped, not_due, draws_steps, answer_stepped}

-- the meaning of an answer, by when each answer comes
pub means_of : (image : Image) (start : Start) (budget : ℕ) (u : Unit) (ask : Ask)
    → (ask ≡ Halt → u.state ≡ state.Halted) → (ask ≡ Stopped → u.state ≡ state.Stopped) → (ask ≡ Spent → HasSpent budget u)
    → ((t : trap.Trap) → ask ≡ Trap t → DoesNext image start budget u (next.Trap t.kind) × StandsAtTrap image start u t)
    → ((r : Request) → ask ≡ ask_of r → DoesNext image start budget u (next.Ask r))
    → (ask ≡ Pause → DoesNext image start budget u next.Local) → Means image start budget u ask
means_of image start budget u (Load word) halt stopped spent traps asks pause = asks (request.Load word) refl
means_of image start budget u (Store word value) halt stopped spent traps asks pause = asks (request.Store word value) refl
means_of image start budget u (Add word value) halt stopped spent traps asks pause = asks (request.Add word value) refl
means_of image start budget u Draw halt stopped spent traps asks pause = asks request.Draw refl
means_of image start budget u (Print text) halt stopped spent traps asks pause = asks (request.Print text) refl
means_of image start budget u (Spawn ask) halt stopped spent traps asks pause = asks (request.Spawn ask) refl
means_of image start budget u Pause halt stopped spent traps asks pause = pause refl
means_of image start budget u Stopped halt stopped spent traps asks pause = stopped refl
means_of image start budget u Halt halt stopped spent traps asks pause = halt refl
means_of image start budget u (Trap t) halt stopped spent traps asks pause = traps t refl
means_of image start budget u Spent halt stopped spent traps asks pause = spent refl

-- ---- how far it ran

pub none_alone : (image : Image) (start : Start) (budget count : ℕ) (u v : Unit) → count ≤ 0 → RunsAlone image start budget count u v → v ≡ u
none_alone image start budget zero u v few alone = alone
none_alone image start budget (suc n) u v few alone = absurd (omega (arith, few))

pub one_alone : (image : Image) (start : Start) (budget count : ℕ) (u v : Unit) → count ≤ 1 → RunsAlone image start budget count u v → ((v ≡ u) × (count ≡ 0)) ⊎ (v ≡ local_of image start u)
one_alone image start budget zero u v few alone = inl (alone, refl)
one_alone image start budget (suc zero) u v few alone = inr alone.1
one_alone image start budget (suc (suc n)) u v few alone = absurd (omega (arith, few))

-- ---- a master that is due to begin

and_false : (b c : Bool) → c ≡ false → (b && c) ≡ false
and_false true c is = is
and_false false c is = refl

pub not_new : (u : Unit) → is_due u.state ≡ false → is_new_master u ≡ false
not_new u due = and_false (u.number == 0) (is_due u.state) due

pub begun_same : (image : Image) (u : Unit) → is_new_master u ≡ false → begun image u ≡ u
begun_same image u is = rw is refl

begun_new : (image : Image) (u : Unit) (b : Bool) → b ≡ is_new_master u → is_new_master (begun image u) ≡ false
begun_new image u true is = rw (← is) (and_false (u.number == 0) false refl)
begun_new image u false is = rw (← is) (sym is)

pub begun_isnt_new : (image : Image) (u : Unit) → is_new_master (begun image u) ≡ false
begun_isnt_new image u = begun_new image u (is_new_master u) refl

-- ---- but for its waiting

pub does_same : (image : Image) (start : Start) (budget : ℕ) (u v : Unit) (n : Next) → free v ≡ u → DoesNext image start budget u n → DoesNext image start budget v n
does_same image start budget u v n same does = record {
  live = ap (λ (w : Unit). is_live w.state) same ∙ does.live;
  below = let steps : steps_of v ≡ steps_of u = ap (λ (w : Unit). w.counts.steps) same in rw steps does.below;
  next = sym (next_free image start v) ∙ ap (λ w. next_of image start w) same ∙ does.next;
}

-- ---- behind a request

pub record Requests (image : Image) (start : Start) (budget : ℕ) (u : Unit) (ask : Ask) : Type 0 where
  pub request : Request
  pub is : ask ≡ ask_of request
  pub does : DoesNext image start budget u (next.Ask request)

pub request_of : (image : Image) (start : Start) (budget : ℕ) (u : Unit) (ask : Ask) → is_request ask ≡ true → Means image start budget u ask → Requests image start budget u ask
request_of image start budget u (Load word) is means = record { request = request.Load word; is = refl; does = means }
request_of image start budget u (Store word value) is means = record { request = request.Store word value; is = refl; does = means }
request_of image start budget u (Add word value) is means = record { request = request.Add word value; is = refl; does = means }
request_of image start budget u Draw is means = record { request = request.Draw; is = refl; does = means }
request_of image start budget u (Print text) is means = record { request = request.Print text; is = refl; does = means }
request_of image start budget u (Spawn ask) is means = record { request = request.Spawn ask; is = refl; does = means }
request_of image start budget u Pause is means = absurd cc
request_of image start budget u Stopped is means = absurd cc
request_of image start budget u Halt is means = absurd cc
request_of image start budget u (Trap t) is means = absurd cc
request_of image start budget u Spent is means = absurd cc

-- a unit behind its request
pub record Behind (u after : Unit) : Type 0 where
  pub stepped : Stepped u after
  pub free : after.waits ≡ false

behind_plain : (u after : Unit) → Stepped u after → Behind u (free after)
behind_plain u after stepped = record { stepped = record { number = stepped.number; steps = stepped.steps; due = stepped.due }; free = refl }

behind_request : (image : Image) (start : Start) (budget : ℕ) (u : Unit) (k : ℕ) (r : Request) → next_of image start u ≡ next.Ask r → Behind u (answered image start u k)
behind_request image start budget u k (request.Load word) is = rw is (behind_plain u _ (answer_stepped image start u (k % 2 ^ 32) _ is tt).0)
behind_request image start budget u k (request.Store word value) is = rw is (behind_plain u _ (answer_stepped image start u (k % 2 ^ 32) _ is tt).0)
behind_request image start budget u k (request.Add word value) is = rw is (behind_plain u _ (answer_stepped image start u (k % 2 ^ 32) _ is tt).0)
behind_request image start budget u k (request.Print text) is = rw is (behind_plain u _ (answer_stepped image start u (k % 2 ^ 32) _ is tt).0)
behind_request image start budget u k request.Draw is = rw is (behind_plain u _ (draws_steps start u k))
behind_request image start budget u k (request.Spawn ask) is =
    rw is (record { stepped = record { number = refl; steps = refl; due = not_due image start u _ is (λ same. cc) }; free = refl })

pub behind_of : (image : Image) (start : Start) (budget : ℕ) (u : Unit) (ask : Ask) (k : ℕ) → is_request ask ≡ true → Means image start budget u ask → Behind u (answered image start u k)
behind_of image start budget u ask k is means =
    let asked : Requests image start budget u ask = request_of image start budget u ask is means in
    behind_request image start budget u k asked.request asked.does.next

-- and its step is in the budget
pub behind_within : (image : Image) (start : Start) (budget : ℕ) (u : Unit) (ask : Ask) (k : ℕ) → is_request ask ≡ true → Means image start budget u ask → (answered image start u k).counts.steps ≤ budget
behind_within image start budget u ask k is means =
    let asked : Requests image start budget u ask = request_of image start budget u ask is means in
    let steps : (answered image start u k).counts.steps ≡ more u.counts.steps = (behind_of image start budget u ask k is means).stepped.steps in
    let below : u.counts.steps < budget = asked.does.below in
    rw steps (omega (arith, below))
