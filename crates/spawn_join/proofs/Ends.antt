-- How a section ended.
use Rattle.std.proofs.Common.{◌≡◌, sym, ap, subst, ◌∙◌, ℕ, ◌<◌, List, length, slice_index_or, inl, inr, arith}
use Rattle.xmt_base.specs.declared.values.Trap.{Trap}
use Rattle.xmt_isa.specs.declared.image.Image.{Image}
use Rattle.xmt_isa.specs.declared.unit.Unit.{Unit}
use Rattle.xmt_isa.specs.declared.unit.UnitState.TheVariants as state
use Rattle.xmt_isa.specs.declared.unit.Start.{Start}
use Rattle.unit_steps.specs.Steps.{HasSpent}
use Rattle.spawn_join.specs.declared.worker.Worker.{Worker}
use Rattle.spawn_join.specs.Own.{HasEnded}
use Rattle.spawn_join.specs.Ends.{HasTrapped, NoTrap, NoneTrappedTo, IsFirstTrapped, EndsAs, SectionGives}
use Rattle.spawn_join.specs.Worked.{RanAtOnce, AllFinished}
use Rattle.spawn_join.specs.declared.end.SectionEnd.{SectionEnd}
use Rattle.spawn_join.specs.declared.end.SectionEnd.TheVariants as section
use Rattle.spawn_join.proofs.Worked.{get_or-default}

pub first_of : (image : Image) (start : Start) (budget : ℕ) (ws : List Worker) (at : ℕ) (w : Worker) (number : ℕ) (trap : Trap) → w ≡ slice_index_or ws at w → at < length ws → number ≡ w.unit.number → HasTrapped image start budget w.unit trap → NoneTrappedTo image start budget ws at → IsFirstTrapped image start budget ws number trap
first_of image start budget ws at w number trap is inside number_is trapped before =
    let same : (d : Worker) → w ≡ slice_index_or ws at d = λ d. is ∙ get_or-default ws at w d inside in
    record {
      place = at;
      inside = inside;
      trapped = λ d. subst (λ (v : Worker). HasTrapped image start budget v.unit trap) (same d) trapped;
      number_is = λ d. ap (λ (v : Worker). v.unit.number) (sym (same d)) ∙ sym number_is;
      first = before;
    }

-- a unit that has ended, and neither stands at a trap nor has spent its budget, has stopped
pub stopped_of : (image : Image) (start : Start) (budget : ℕ) (u : Unit) → HasEnded image start budget u → NoTrap image start budget u → (HasSpent budget u → ⊥) → u.state ≡ state.Stopped
stopped_of image start budget u (inl stopped) none unspent = stopped
stopped_of image start budget u (inr (inl (trap, below, stands))) none unspent = absurd (none trap (below, stands))
stopped_of image start budget u (inr (inr spent)) none unspent = absurd (unspent spent)

pub section_gives : (image : Image) (start : Start) (budget : ℕ) (words : List ℕ) (olds news : List Worker) (left : List ℕ) (end : SectionEnd) → length news ≡ length olds → RanAtOnce image start words olds news left → AllFinished image start budget olds news → EndsAs image start budget news end
    → SectionGives image start budget words olds news left end
section_gives image start budget words olds news left section.All same run back ends =
    (run, back, λ i d below. stopped_of image start budget (slice_index_or news i d).unit (back i d (omega (arith, below, same))).ended (ends.0 i d below) (ends.1 i d below))
section_gives image start budget words olds news left (section.Trap number trap) same run back ends = (run, back, ends)
section_gives image start budget words olds news left (section.Spent number) same run back ends = (run, back, ends.0, ends.1)
section_gives image start budget words olds news left section.NoMemory same run back ends = absurd ends
