-- What a log and the threads by themselves say, and what a schedule has to do.
use Rattle.std.specs.Prelude.{◌≡◌, ℕ, zero, suc, ◌+◌, ◌<◌, ◌⊎◌, Bool, true, List, [], ◌++◌, length, Option, Some, None, slice_get}
use Rattle.xmt_base.specs.declared.values.TrapKind.{TrapKind}
use Rattle.xmt_base.specs.Action.{Shared, Action, Start, Main, Block}
use Rattle.source_meaning.specs.declared.tree.Program.{Program}
use Rattle.source_meaning.specs.Run.{Thread, Configuration, start, after, IsLegal, has_ended, is_over, next_of_rest, trap_of_thread}
use Rattle.source_meaning.specs.Term.{Code}
use Rattle.source_meaning.specs.Trace.{Local, local_run, main_in, main_of, block_of, spawn_of, IsSpawned, serial_next, traces_in}
use Rattle.interleaving.specs.Actors.{part_of, Does, turns_of}
use Rattle.source_log.specs.Log.{Log, opening_world, world_of, AllEnded, IsLawful, trap_action}
use Rattle.interleaving.specs.Starts.{start_of}
use Rattle.interleaving.specs.Parts.{actions_of, replies_of}
use Rattle.source_log.specs.Threads.{Actor, actor_of, move}
use Rattle.source_log.specs.Standing.{cell_at, thread_of}
use Rattle.source_log.specs.Checked.{IsPlain}

-- Each thread of a log does its part of it by itself, in so many steps, and may then stand at a trap.
pub record DoTheirParts (program : Program) (words : List ℕ) (log : Log) (trap : ℕ → Option (TrapKind × ℕ)) (steps : ℕ → ℕ) : Type 0 where
  pub lawful : IsLawful (opening_world program words) log
  pub traces :
      (t : ℕ) → t < (world_of program words log).threads →
      traces_in program t (start_of log t) (replies_of (part_of t log)) (actions_of (part_of t log) ++ trap_action (trap t)) (steps t)
  -- where threads still live at the end the serial code waits for them, so its last step is its spawn: in one step less it does not do its part
  pub waits :
      AllEnded (world_of program words log) ⊎
      ((less : ℕ) → steps 0 ≡ suc less → traces_in program 0 Main (replies_of (part_of 0 log)) (actions_of (part_of 0 log)) less → ⊥)

-- the actor of a thread at a start of a program
abbrev pub Begins : Program → (t : ℕ) → Start → Actor → Type 0
Begins program t Main x = x ≡ actor_of 0 (main_in program t [])
Begins program t (Block before serial_replies number) x =
    (steps : ℕ) × (done : List Action) × (serial block : Local (Option Code)) ×
    (local_run (next_of_rest program 0 0) steps (main_of program serial_replies) ≡ Some (done, serial)) ×
    (before ≡ done ++ spawn_of (serial_next program serial)) ×
    IsSpawned (serial_next program serial) number ×
    (block_of (serial_next program serial) t serial.store [] ≡ Some block) ×
    (x ≡ actor_of number block)

-- the sum over the numbers below one
abbrev pub total : (count : ℕ) → (ℕ → ℕ) → ℕ
total zero f = 0
total (suc n) f = total n f + f n

-- the `$` of the outermost virtual thread
abbrev pub IsNumbered : (t : ℕ) → Start → Option ℕ → Type 0
IsNumbered zero begin outermost = outermost ≡ None
IsNumbered (suc t) Main outermost = Unit {0}
IsNumbered (suc t) (Block before replies number) outermost = outermost ≡ Some number

abbrev pub end_of : Program → (words schedule : List ℕ) → Configuration
end_of program words schedule = after program (start program words) schedule

-- A schedule of the source does what the log says, and each thread comes where its own steps lead.
pub record IsScheduleOf (program : Program) (words : List ℕ) (log : Log) (trap : ℕ → Option (TrapKind × ℕ)) (steps : ℕ → ℕ) (schedule : List ℕ) : Type 0 where
  pub legal : IsLegal program (start program words) schedule
  pub cells : (place : Shared) → (end_of program words schedule).store (cell_at place) ≡ (world_of program words log).cells place
  pub output : (end_of program words schedule).output ≡ (world_of program words log).printed
  pub over : is_over (end_of program words schedule) ≡ (world_of program words log).ended 0
  pub ended :
      (t : ℕ) (thread : Thread) → t < (world_of program words log).threads → slice_get (end_of program words schedule).threads t ≡ Some thread →
      has_ended thread ≡ (world_of program words log).ended t
  pub count : length (end_of program words schedule).threads ≡ (world_of program words log).threads
  -- each thread stands where its own steps lead
  pub stand :
      (t : ℕ) → t < (world_of program words log).threads →
      (from to : Actor) × Begins program t (start_of log t) from × Does (move program t) (steps t) from (part_of t log) to × (slice_get (end_of program words schedule).threads t ≡ Some (thread_of t to))
  -- so at the same trap
  pub traps :
      (t : ℕ) (kind : TrapKind) (line : ℕ) → t < (world_of program words log).threads → trap t ≡ Some (kind, line) →
      (thread : Thread) × (slice_get (end_of program words schedule).threads t ≡ Some thread) ×
      (trap_of_thread program t thread ≡ Some (record { kind = kind; line = line; thread = thread.outermost })) × IsNumbered t (start_of log t) thread.outermost
  -- each thread takes just its own steps
  pub turns : (t : ℕ) → t < (world_of program words log).threads → turns_of t schedule ≡ steps t
  pub long : length schedule ≡ total (world_of program words log).threads steps

-- The law: in a program whose blocks and the functions that they call are plain, whatever each thread does by itself, in the order of a lawful log, is what some schedule of the source does.
abbrev pub EachLogHasASchedule : Type 0
EachLogHasASchedule =
    (program : Program) (in_blocks : ℕ → Bool) (words : List ℕ) (log : Log) (trap : ℕ → Option (TrapKind × ℕ)) (steps : ℕ → ℕ) →
    IsPlain program (λ f. in_blocks f ≡ true) → DoTheirParts program words log trap steps →
    (schedule : List ℕ) × IsScheduleOf program words log trap steps schedule
