-- A code all of whose traces are the program's: each lawful log that its threads do is what a schedule of the source does.
use Rattle.std.proofs.Common.{◌≡◌, refl, ◌∙◌, ap, ℕ, ◌<◌, nat_lt, ◌≤◌, zero, suc, ◌⊎◌, Bool, true, false, List, ◌++◌, arith, Option, None}
use Rattle.xmt_base.specs.declared.values.TrapKind.{TrapKind}
use Rattle.xmt_base.specs.Action.{Action, Start, Main, Traces}
use Rattle.source_meaning.specs.declared.tree.Program.{Program}
use Rattle.source_meaning.specs.Trace.{traces_in}
use Rattle.interleaving.specs.Actors.{part_of}
use Rattle.source_log.specs.Log.{Log, opening_world, world_of, AllEnded, IsLawful, trap_action}
use Rattle.interleaving.specs.Starts.{start_of}
use Rattle.interleaving.specs.Parts.{actions_of, replies_of}
use Rattle.source_log.specs.Checked.{IsPlain}
use Rattle.source_log.specs.FromLog.{DoTheirParts, IsScheduleOf}
use Rattle.interleaving.proofs.Starts.{are_starts}
use Rattle.source_log.proofs.FromLog.{some_threads_of, each_log_has_a_schedule}
use Rattle.source_log.proofs.Waiting.{with_serial, first_steps}

-- Each trace of a code is one of the program, for whichever thread, and its work is bounded by the steps there. The serial code, thread 0, begins at `main` alone.
abbrev pub ThreadsHaveTracesOf : (Bound : List Action → (work steps : ℕ) → Type 0) → Program → Traces → Type 0
ThreadsHaveTracesOf Bound program code =
    (t : ℕ) (begin : Start) (replies : List ℕ) (trace : List Action) (work : ℕ) → (t ≡ 0 → begin ≡ Main) →
    code begin replies trace work → (steps : ℕ) × traces_in program t begin replies trace steps × Bound trace work steps

module _ (Bound : List Action → (work steps : ℕ) → Type 0) (program : Program) (words : List ℕ) (log : Log) (trap : ℕ → Option (TrapKind × ℕ)) where
  abbrev pub trace_of : (t : ℕ) → List Action
  trace_of t = actions_of (part_of t log) ++ trap_action (trap t)

  -- a thread of the log does its part in a code
  abbrev pub DoesIn : Traces → (t work : ℕ) → Type 0
  DoesIn code t work = code (start_of log t) (replies_of (part_of t log)) (trace_of t) work

  -- the steps of the source for each thread, or 0 for a number that is none
  abbrev Found : (work : ℕ → ℕ) → (t : ℕ) → Type 0
  Found work t = (steps : ℕ) × (t < (world_of program words log).threads → DoesIn (traces_in program t) t steps) × (t < (world_of program words log).threads → Bound (trace_of t) (work t) steps)

  found_of : IsLawful (opening_world program words) log → (code : Traces) (work : ℕ → ℕ) → ThreadsHaveTracesOf Bound program code → ((t : ℕ) → t < (world_of program words log).threads → DoesIn code t (work t)) → (t : ℕ) → (b : Bool) → nat_lt t (world_of program words log).threads ≡ b → Found work t
  found_of lawful code work has does t true e =
      let less : t < (world_of program words log).threads = grind (arith, e) in
      let r : (steps : ℕ) × DoesIn (traces_in program t) t steps × Bound (trace_of t) (work t) steps = has t (start_of log t) (replies_of (part_of t log)) (trace_of t) (work t) (λ zero_t. ap (start_of log) zero_t ∙ (are_starts log).serial) (does t less) in
      (r.0, (λ h. r.1), (λ h. r.2))
  found_of lawful code work has does t false e = (0, (λ h. absurd (grind (arith, e, h))), (λ h. absurd (grind (arith, e, h))))

  -- the schedule that is found for a log of a code, and the bounds on the work of each thread
  pub record CodeSchedule (work : ℕ → ℕ) : Type 0 where
    pub steps : ℕ → ℕ
    pub schedule : List ℕ
    pub is_schedule : IsScheduleOf program words log trap steps schedule
    pub bounds : (t : ℕ) → 0 < t → t < (world_of program words log).threads → Bound (trace_of t) (work t) (steps t)
    -- of the serial code, which has fewer steps only where it waits at the end
    pub serial : ℕ
    pub serial_bound : Bound (trace_of 0) (work 0) serial
    pub fewer : steps 0 ≤ serial
    pub as_many : (steps 0 ≡ serial) ⊎ (trap 0 ≡ None)

  pub code_has_a_schedule : (in_blocks : ℕ → Bool) → IsPlain program (λ f. in_blocks f ≡ true) → (code : Traces) → ThreadsHaveTracesOf Bound program code →
      IsLawful (opening_world program words) log → (work : ℕ → ℕ) → ((t : ℕ) → t < (world_of program words log).threads → DoesIn code t (work t)) → AllEnded (world_of program words log) ⊎ (trap 0 ≡ None) →
      CodeSchedule work
  code_has_a_schedule in_blocks plain code has lawful work does ends =
      let found : (t : ℕ) → Found work t = λ t. found_of lawful code work has does t (nat_lt t (world_of program words log).threads) refl in
      let parts : (serial : ℕ) × (serial ≤ (found 0).0) × DoTheirParts program words log trap (with_serial serial (λ t. (found t).0)) × ((serial ≡ (found 0).0) ⊎ (trap 0 ≡ None)) = first_steps program words log trap (λ t. (found t).0) lawful (λ t less. (found t).1 less) ends in
      let law : (schedule : List ℕ) × IsScheduleOf program words log trap (with_serial parts.0 (λ t. (found t).0)) schedule = each_log_has_a_schedule program in_blocks words log trap (with_serial parts.0 (λ t. (found t).0)) plain parts.2 in
      record {
        steps = with_serial parts.0 (λ t. (found t).0);
        schedule = law.0;
        is_schedule = law.1;
        bounds = λ t positive less. bounds (λ t. (found t).0) parts.0 (λ u there. (found u).2 there) t positive less;
        serial = (found 0).0;
        serial_bound = (found 0).2 (some_threads_of program words log);
        fewer = parts.1;
        as_many = parts.3;
      }
    where
      bounds : (steps : ℕ → ℕ) (serial : ℕ) → ((t : ℕ) → t < (world_of program words log).threads → Bound (trace_of t) (work t) (steps t)) → (t : ℕ) → 0 < t → t < (world_of program words log).threads → Bound (trace_of t) (work t) (with_serial serial steps t)
      bounds steps serial each zero positive less = absurd (grind (arith, positive))
      bounds steps serial each (suc t) positive less = each (suc t) less
