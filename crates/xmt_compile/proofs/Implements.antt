-- An image whose traces are the program's implements it.
use Rattle.std.proofs.Common.{◌≡◌, ◌∙◌, ap, subst, ℕ, suc, Bool, true, List, length}
use Rattle.source_meaning.specs.declared.tree.Program.{Program}
use Rattle.source_log.specs.Bounded.{HasBoundedTraces}
use Rattle.source_log.specs.Checked.{IsPlain}
use Rattle.source_log.specs.Log as source
use Rattle.source_log.specs.Log.{world_of}
use Rattle.xmt_isa.specs.declared.image.Image.{Image}
use Rattle.xmt_isa.specs.Machine.{Machine, after}
use Rattle.xmt_isa.specs.Opening.{opening}
use Rattle.xmt_isa.specs.Traces.{traces_of}
use Rattle.xmt_isa.specs.Valid.{IsValid}
use Rattle.machine_log.specs.Log as machine
use Rattle.machine_log.specs.Log.{Log, opening_world, after_log}
use Rattle.machine_log.specs.Done.{Parts, IsRising}
use Rattle.machine_runs.specs.Runs.{IsLogOf, HasSums}
use Rattle.machine_runs.proofs.Opens.{control_units-length}
use Rattle.machine_runs.proofs.Runs.{after-length, all_have_logs}
use Rattle.run_law.specs.Cells.{OpensAs, WorldsAgree}
use Rattle.run_law.proofs.Cells.{all_lawful_over_cells}
use Rattle.run_law.proofs.Opening.{all_agree_at_first}
use Rattle.xmt_compile.specs.Implements.{Matches}
use Rattle.xmt_compile.specs.Law.{TracesImplement}
use Rattle.xmt_compile.proofs.Opening.{opens_as}
use Rattle.xmt_compile.proofs.Outputs.{printed, globals, over}
use Rattle.xmt_compile.proofs.Schedule.{Chosen, chosen}
use Rattle.xmt_compile.proofs.Steps.{unit_steps_bound}
use Rattle.xmt_compile.proofs.Threads.{trap, SourceSteps, source_steps}
use Rattle.xmt_compile.proofs.Traps.{stand_at_traps}
use Rattle.xmt_compile.proofs.Working.{few_under_way}

module _ (program : Program) (image : Image) (in_blocks : ℕ → Bool) (valid : IsValid image) (plain : IsPlain program (λ f. in_blocks f ≡ true)) (bounded : HasBoundedTraces program (traces_of image))
    (memory : List ℕ) (opens : OpensAs image memory program memory) (n : ℕ) (turns : List ℕ) (m : Machine) (units : length m.units ≡ suc n) (log : Log) (p : Parts) where
  matches : IsLogOf image memory m log p → HasSums turns m log (after_log image (opening_world image memory) log).threads p → (n ≡ 1 → IsRising image memory log p) → (schedule : List ℕ) × Matches program image memory n m schedule
  matches is_log sums rises =
      let cells : source.IsLawful (source.opening_world program memory) log × WorldsAgree image (after_log image (opening_world image memory) log) (world_of program memory log) =
      all_lawful_over_cells image valid memory log p is_log.done (source.opening_world program memory) (all_agree_at_first image memory program memory opens) in
      by_cells cells.0 cells.1
    where
      by_cells : source.IsLawful (source.opening_world program memory) log → WorldsAgree image (after_log image (opening_world image memory) log) (world_of program memory log) → (schedule : List ℕ) × Matches program image memory n m schedule
      by_cells lawful agree = by_steps (source_steps program image bounded memory m log p is_log lawful agree)
        where
          by_schedule : (s : SourceSteps program image bounded memory m log p is_log lawful agree) → Chosen program image bounded memory m log p is_log lawful agree s n → (schedule : List ℕ) × Matches program image memory n m schedule
          by_schedule s c = (
            c.schedule,
            record {
              legal = c.is_schedule.legal;
              printed = printed program image memory m log p is_log agree (trap program image bounded memory m log p is_log lawful agree) s.steps c.schedule c.is_schedule;
              steps = unit_steps_bound program image bounded memory m log p is_log lawful agree s c.schedule c.is_schedule turns (subst (λ (w : machine.World). HasSums turns m log w.threads p) is_log.is_world sums);
              halted = λ halted. (
                over program image memory m log p is_log agree (trap program image bounded memory m log p is_log lawful agree) s.steps c.schedule c.is_schedule halted,
                globals program image memory m log p is_log agree (trap program image bounded memory m log p is_log lawful agree) s.steps c.schedule c.is_schedule opens.size,
              );
              traps = stand_at_traps program image memory m log p is_log agree s.steps c.schedule c.is_schedule;
              rising = c.is_rising;
              under_way = few_under_way program image bounded memory m log p is_log lawful agree s c.schedule c.is_schedule n units;
            },
          )

          by_steps : SourceSteps program image bounded memory m log p is_log lawful agree → (schedule : List ℕ) × Matches program image memory n m schedule
          by_steps s = by_schedule s (chosen program image bounded memory m log p is_log lawful agree s in_blocks plain valid opens n units rises)

pub traces_implement : TracesImplement
traces_implement program image in_blocks valid opens plain bounded =
    record {
      valid = valid;
      opens = opens;
      runs = λ memory n turns size some most legal.
          let r = all_have_logs image valid memory n turns legal in
          matches program image in_blocks valid plain bounded memory (opens_as program image valid opens memory size) n turns (after image (opening image memory n) turns)
          (after-length image (opening image memory n) turns ∙ ap suc (control_units-length n)) r.0 r.1 r.2 r.3 r.4;
    }
