-- What a call shows: how the job of its words has ended, and the line on the error stream.
use Rattle.std.specs.Prelude.{◌≡◌, ◌⊎◌, ℕ, ◌≤◌, List, [], unwrap_or, IfSome}
use Rattle.xmt_base.specs.declared.values.Place.{Place}
use Rattle.xmt_base.specs.declared.values.Trap as spec
use Rattle.xmt_host.specs.Host.{Rose}
use Rattle.front_end.specs.declared.refusal.SourceKind.{SourceKind}
use Rattle.xmt_cli.specs.Given.{Text}
use Rattle.xmt_cli.specs.JobOf.{Task, compile, simulate, run, task_of}
use Rattle.xmt_jobs.specs.declared.outcome.BytesFault.{BytesFault}
use Rattle.xmt_jobs.specs.declared.outcome.Outcome.{Outcome}
use Rattle.xmt_jobs.specs.declared.outcome.Outcome.TheVariants.{Done, SourceRefused, ImageRefused, MapRefused, Trap, Spent, Fault, NoMemory}
use Rattle.xmt_host.specs.Told.{Told}
use Rattle.xmt_jobs.specs.Written.{IsSilent, WritesPart}
use Rattle.xmt_jobs.specs.Ended.{HasEnded}
use Rattle.xmt_top.specs.Complaints.{Complains}
use Rattle.xmt_top.specs.Messages.{refusal_line, bytes_line, trap_line, spent_line, fault_line, no_job_line, no_memory_line}

-- the words are a task, of which this holds
abbrev pub ForTask : List Text → (Task → Type 0) → Type 0
ForTask words P = IfSome (task_of words) P

-- the file whose source is compiled or whose image is run
abbrev pub file_of : Task → Text
file_of (compile file out) = file
file_of (simulate file options map dump) = file
file_of (run file options map dump) = file

-- the map's file
abbrev pub map_of : Task → Text
map_of (compile file out) = []
map_of (simulate file options map dump) = unwrap_or map []
map_of (run file options map dump) = unwrap_or map []

-- the line for each end of a task but the good one
abbrev pub line_of : Task → Outcome → List ℕ
line_of task Done = []
line_of task (SourceRefused kind place) = refusal_line (file_of task) kind place
line_of task (ImageRefused fault) = bytes_line (file_of task) fault
line_of task (MapRefused fault) = bytes_line (map_of task) fault
line_of task (Trap trap) = trap_line trap
line_of task (Spent unit steps) = spent_line unit steps
line_of task Fault = fault_line
line_of task NoMemory = no_memory_line

-- the code of each end
abbrev pub code_of : Outcome → ℕ
code_of Done = 0
code_of (SourceRefused kind place) = 1
code_of (ImageRefused fault) = 3
code_of (MapRefused fault) = 3
code_of (Trap trap) = 4
code_of (Spent unit steps) = 5
code_of Fault = 6
code_of NoMemory = 7

-- the task has ended so, and its line was written
pub record Shows (before now : Told) (task : Task) (outcome : Outcome) : Type 0 where
  pub ended : HasEnded task before now outcome
  pub line : Complains (line_of task outcome) before now

-- the task is done, and nothing was complained of
pub record ShowsDone (before now : Told) (task : Task) : Type 0 where
  pub ended : HasEnded task before now Done
  pub line : now.err ≡ before.err

-- the source breaks a rule
abbrev pub ShowsRefusedSource : Told → Told → Task → Type 0
ShowsRefusedSource before now task = (kind : SourceKind) × (place : Place) × Shows before now task (SourceRefused kind place)

-- the image or the map isn't one
abbrev pub ShowsRefusedBytes : Told → Told → Task → Type 0
ShowsRefusedBytes before now task = (fault : BytesFault) × (Shows before now task (ImageRefused fault) ⊎ Shows before now task (MapRefused fault))

abbrev pub ShowsTrap : Told → Told → Task → Type 0
ShowsTrap before now task = (trap : spec.Trap) × Shows before now task (Trap trap)

abbrev pub ShowsSpent : Told → Told → Task → Type 0
ShowsSpent before now task = (unit : ℕ) × (steps : ℕ) × Shows before now task (Spent unit steps)

-- memory ran out before a job was begun: nothing was done, and the line on that, or on words that are no job, may be cut off
pub record ShowsNoWords (before now : Told) : Type 0 where
  pub silent : IsSilent before now
  pub line : WritesPart no_memory_line before.err now.err ⊎ WritesPart no_job_line before.err now.err

-- memory ran out in the job, or when its end was told: the line may be cut off
pub record ShowsNoMemory (before now : Told) (task : Task) : Type 0 where
  pub outcome : Outcome
  pub ended : HasEnded task before now outcome
  pub line : WritesPart (line_of task outcome) before.err now.err

-- the task had ended so at some moment, and from there its end was reported with this code
pub record Reported (task : Task) (before now : Told) (code : ℕ) : Type 0 where
  pub outcome : Outcome
  pub mid : Told
  pub ended : HasEnded task before mid outcome
  pub same_files : now.files ≡ mid.files
  pub same_out : now.out ≡ mid.out
  pub same_err : mid.err ≡ before.err
  pub earlier : before.faults ≤ mid.faults
  pub later : mid.faults ≤ now.faults
  pub rose : outcome ≡ Fault → Rose before.faults mid.faults
  pub is_code : (code ≡ code_of outcome) ⊎ (code ≡ 7)
  pub line : (code ≡ 7) ⊎ Complains (line_of task outcome) mid now
  pub part : WritesPart (line_of task outcome) mid.err now.err
  pub done : code ≡ 0 → now.err ≡ mid.err
