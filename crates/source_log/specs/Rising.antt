-- Logs in which one thread runs behind the other, in the order of their numbers, as one unit runs them.
use Rattle.std.specs.Prelude.{◌≡◌, ℕ, ◌<◌, ◌⊎◌, Bool, true, List, length}
use Rattle.xmt_base.specs.declared.values.TrapKind.{TrapKind}
use Rattle.std.specs.Prelude.{Option}
use Rattle.source_meaning.specs.declared.tree.Program.{Program}
use Rattle.source_meaning.specs.Run.{start, rising}
use Rattle.interleaving.specs.Actors.{IsLawfulBy}
use Rattle.source_log.specs.Log.{Log, World, opening_world, world_of, after_entry}
use Rattle.source_log.specs.Checked.{IsPlain}
use Rattle.source_log.specs.FromLog.{DoTheirParts, IsScheduleOf}

-- all virtual threads below this one have ended
abbrev pub LowerEnded : World → (thread : ℕ) → Type 0
LowerEnded w thread = (lower : ℕ) → 0 < lower → lower < thread → w.ended lower ≡ true

pub record IsRising (program : Program) (words : List ℕ) (log : Log) (steps : ℕ → ℕ) : Type 0 where
  pub entries : IsLawfulBy after_entry (λ w e. LowerEnded w e.actor) (opening_world program words) log
  -- and a thread that has begun comes behind those below it
  pub rest : (t : ℕ) → t < (world_of program words log).threads → LowerEnded (world_of program words log) t ⊎ (steps t ≡ 0)

-- The schedule of a rising log is the rising one.
abbrev pub EachRisingLogHasTheRisingSchedule : Type 0
EachRisingLogHasTheRisingSchedule =
    (program : Program) (in_blocks : ℕ → Bool) (words : List ℕ) (log : Log) (trap : ℕ → Option (TrapKind × ℕ)) (steps : ℕ → ℕ) →
    IsPlain program (λ f. in_blocks f ≡ true) → DoTheirParts program words log trap steps → IsRising program words log steps →
    (schedule : List ℕ) × IsScheduleOf program words log trap steps schedule × (schedule ≡ rising program (start program words) (length schedule))
