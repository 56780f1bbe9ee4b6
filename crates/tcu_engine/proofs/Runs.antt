-- A unit's own instructions, one after the other.
use Rattle.std.proofs.Common.{◌≡◌, ℕ, zero, suc, ◌+◌, ◌≤◌, ◌==◌, ◌&&◌, Bool, true, false, Option, Some, None, refl, sym, ap, subst, ◌∙◌, arith, if◌then◌else◌}
use Rattle.xmt_isa.specs.declared.image.Image.{Image}
use Rattle.xmt_isa.specs.declared.operation.Operation.{Operation}
use Rattle.xmt_isa.specs.declared.operation.Operation.TheVariants.{Return}
use Rattle.xmt_isa.specs.declared.unit.Unit.{Unit}
use Rattle.xmt_isa.specs.declared.unit.UnitState.{UnitState}
use Rattle.xmt_isa.specs.declared.unit.UnitState.TheVariants.{Draws, Runs, Stopped, Halted}
use Rattle.xmt_isa.specs.declared.unit.Start.{Start}
use Rattle.xmt_isa.specs.declared.unit.Request.{Request}
use Rattle.xmt_isa.specs.declared.unit.Request.TheVariants as request
use Rattle.xmt_isa.specs.declared.unit.Next.{Next}
use Rattle.xmt_isa.specs.declared.unit.Next.TheVariants as next
use Rattle.xmt_isa.specs.Step.{more, is_due, next_of, next_here, local_at, local_here, local_of, goes}
use Rattle.xmt_isa.specs.Image.{operation_at}
use Rattle.xmt_isa.specs.Picked.{is_live}
use Rattle.xmt_isa.specs.Valid.{IsValid}
use Rattle.xmt_isa.specs.Fits.{UnitFits}
use Rattle.unit_steps.specs.Steps.{is_new_master, DoesNext, RunsAlone}
use Rattle.unit_steps.specs.Keeps.{HasStart, IsThere}
use Rattle.tcu_engine.specs.declared.ask.Ask.{Ask}
use Rattle.tcu_engine.specs.Looks.{is_at, HasPlace, HasRun}
use Rattle.tcu_engine.proofs.Looks.{pause_when}
use Rattle.unit_steps.proofs.Keeps.{keeps_fit}

-- what a local instruction leaves
pub record Leaves (u v : Unit) : Type 0 where
  pub number : v.number ≡ u.number
  pub waits : v.waits ≡ u.waits
  pub due : is_due u.state ≡ false → is_due v.state ≡ false

return_leaves : (u : Unit) (b : Bool) (back : ℕ) (depth : ℕ) → Leaves u (if b then record (goes u u.at) { state = Halted } else record (goes u back) { depth = depth })
return_leaves u true back depth = record { number = refl; waits = refl; due = λ due. refl }
return_leaves u false back depth = record { number = refl; waits = refl; due = λ due. due }

leaves_at : (image : Image) (start : Start) (u : Unit) (operation : Operation) → Leaves u (local_at image start u operation)
leaves_at image start u Return = return_leaves u _ _ _
leaves_at image start u operation = record { number = refl; waits = refl; due = λ due. due }

leaves_here : (image : Image) (start : Start) (u : Unit) (here : Option Operation) → Leaves u (local_here image start u here)
leaves_here image start u None = record { number = refl; waits = refl; due = λ due. due }
leaves_here image start u (Some operation) = leaves_at image start u operation

pub leaves : (image : Image) (start : Start) (u : Unit) → Leaves u (local_of image start u)
leaves image start u = leaves_here image start u (operation_at image u.at)

-- one further instruction at the end
pub runs_further : (image : Image) (start : Start) (budget n : ℕ) (u v : Unit) → RunsAlone image start budget n u v → DoesNext image start budget v next.Local
    → RunsAlone image start budget (suc n) u (local_of image start v)
runs_further image start budget zero u v same does = (subst (λ (w : Unit). DoesNext image start budget w next.Local) same does, ap (λ w. local_of image start w) same)
runs_further image start budget (suc n) u v (first, others) does = (first, runs_further image start budget n (local_of image start u) v others does)

-- what a unit of a valid image asks for has a place in 32 bits
place_of_there : (image : Image) → IsValid image → (asked : Request) → IsThere image asked → HasPlace asked
place_of_there image valid (request.Load word) there = omega (arith, there.below, valid.sizes.words)
place_of_there image valid (request.Store word value) there = omega (arith, there.below, valid.sizes.words)
place_of_there image valid (request.Add word value) there = let below = there.0.below in omega (arith, below, valid.sizes.words)
place_of_there image valid request.Draw there = tt
place_of_there image valid (request.Print text) there = tt
place_of_there image valid (request.Spawn ask) there = tt

pub place_of : (image : Image) (start : Start) (u : Unit) → IsValid image → HasStart image start u → UnitFits image start u
    → (asked : Request) → is_live u.state ≡ true → next_of image start u ≡ next.Ask asked → HasPlace asked
place_of image start u valid has fits asked live asks = place_of_there image valid asked ((keeps_fit image valid).there start u asked has fits live asks)

-- ---- one turn of the loop

not_due : (b : Bool) (n : Next) → (if b then next.Ask request.Draw else n) ≡ next.Local → b ≡ false
not_due true n is = cc
not_due false n is = refl

runs_state : (s : UnitState) → is_live s ≡ true → is_due s ≡ false → s ≡ Runs
runs_state Draws live due = cc
runs_state Runs live due = refl
runs_state Stopped live due = cc
runs_state Halted live due = cc

and_false : (b c : Bool) → c ≡ false → b && c ≡ false
and_false true c is = is
and_false false c is = refl

-- after an instruction of its own a unit is as the loop wants it
pub record Turned (image : Image) (start : Start) (budget done : ℕ) (old v : Unit) : Type 0 where
  pub alone : RunsAlone image start budget (done + 1) old v
  pub fits : UnitFits image start v
  pub has : HasStart image start v
  pub free : v.waits ≡ false
  pub begun : is_new_master v ≡ false
  pub within : v.counts.steps ≤ budget

runs_on : (image : Image) (start : Start) (budget n : ℕ) (old u v : Unit) → RunsAlone image start budget n old u → DoesNext image start budget u next.Local → v ≡ local_of image start u
    → RunsAlone image start budget (n + 1) old v
runs_on image start budget n old u v alone does is =
    let one : suc n ≡ n + 1 = omega arith in
    subst (λ (k : ℕ). RunsAlone image start budget k old v) one (subst (λ (w : Unit). RunsAlone image start budget (suc n) old w) (sym is) (runs_further image start budget n old u alone does))

pub turned : (image : Image) (start : Start) (budget done : ℕ) (old u v : Unit) → IsValid image → RunsAlone image start budget done old u → UnitFits image start u → HasStart image start u
    → u.waits ≡ false → DoesNext image start budget u next.Local → v ≡ local_of image start u → v.counts.steps ≡ more u.counts.steps → Turned image start budget done old v
turned image start budget done old u v valid alone fits has free does is steps =
    let due : is_due u.state ≡ false = not_due (is_due u.state) (next_here image start u (operation_at image u.at)) does.next in
    let runs : u.state ≡ Runs = runs_state u.state does.live due in
    let left : Leaves u v = subst (λ (w : Unit). Leaves u w) (sym is) (leaves image start u) in
    let below = does.below in
    record {
      alone = runs_on image start budget done old u v alone does is;
      fits = subst (λ (w : Unit). UnitFits image start w) (sym is) ((keeps_fit image valid).alone start u has fits free runs does.next);
      has = λ control. has (λ master. control (left.number ∙ master));
      free = left.waits ∙ free;
      begun = and_false (v.number == 0) (is_due v.state) (left.due due);
      within = omega (arith, steps, below);
    }

-- where nothing more is run the unit is as it was, and pauses nowhere
pub ran : (image : Image) (start : Start) (budget most done : ℕ) (old u v : Unit) (a : Ask) → done ≤ most → RunsAlone image start budget done old u → v ≡ u → ¬ DoesNext image start budget u next.Local
    → u.counts.steps ≤ budget → a ≡ is_at image start budget v → HasRun image start budget most old v a
ran image start budget most done old u v a few alone same other within is = record {
  count = done;
  few = few;
  alone = subst (λ (w : Unit). RunsAlone image start budget done old w) (sym same) alone;
  pause = λ paused. absurd (other ((pause_when image start budget u a (is ∙ ap (λ (w : Unit). is_at image start budget w) same) within).0 paused));
}
