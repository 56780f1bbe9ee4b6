-- Where threads still live at the end of a log, the first steps of the serial code that do its part are taken.
use Rattle.std.proofs.Common.{◌≡◌, refl, sym, ◌∙◌, ap, subst, ℕ, suc, zero, ◌<◌, ◌≤◌, ◌⊎◌, inl, inr, List, ◌++◌, append-nil, arith, Option, None}
use Rattle.xmt_base.specs.declared.values.TrapKind.{TrapKind}
use Rattle.xmt_base.specs.Action.{Main}
use Rattle.source_meaning.specs.declared.tree.Program.{Program}
use Rattle.source_meaning.specs.Trace.{traces_in}
use Rattle.interleaving.specs.Actors.{part_of}
use Rattle.source_log.specs.Log.{Log, opening_world, world_of, AllEnded, IsLawful, trap_action}
use Rattle.interleaving.specs.Starts.{start_of}
use Rattle.interleaving.specs.Parts.{actions_of, replies_of}
use Rattle.source_log.specs.FromLog.{DoTheirParts}
use Rattle.source_log.proofs.Prepared.{parts_plain}
use Rattle.interleaving.proofs.Starts.{are_starts}
use Rattle.source_log.proofs.FromLog.{some_threads_of}
use Rattle.source_log.proofs.Prompt.{prompt_trace}

-- the steps of all threads, with others for the serial code
abbrev pub with_serial : (serial : ℕ) → (steps : ℕ → ℕ) → ℕ → ℕ
with_serial serial steps zero = serial
with_serial serial steps (suc t) = steps (suc t)

-- Traces with any numbers of steps will do: the serial code may need fewer.
pub first_steps : (program : Program) (words : List ℕ) (log : Log) (trap : ℕ → Option (TrapKind × ℕ)) (steps : ℕ → ℕ) → IsLawful (opening_world program words) log →
    ((t : ℕ) → t < (world_of program words log).threads → traces_in program t (start_of log t) (replies_of (part_of t log)) (actions_of (part_of t log) ++ trap_action (trap t)) (steps t)) →
    AllEnded (world_of program words log) ⊎ (trap 0 ≡ None) →
    (serial : ℕ) × (serial ≤ steps 0) × DoTheirParts program words log trap (with_serial serial steps) × ((serial ≡ steps 0) ⊎ (trap 0 ≡ None))
first_steps program words log trap steps lawful traces (inl all) =
    (steps 0, omega arith, record { lawful = lawful; traces = as_before; waits = inl all }, inl refl)
  where
    as_before : (t : ℕ) → t < (world_of program words log).threads → traces_in program t (start_of log t) (replies_of (part_of t log)) (actions_of (part_of t log) ++ trap_action (trap t)) (with_serial (steps 0) steps t)
    as_before zero less = traces zero less
    as_before (suc t) less = traces (suc t) less
first_steps program words log trap steps lawful traces (inr none) =
    let at_main : start_of log 0 ≡ Main = (are_starts log).serial in
    let same : actions_of (part_of 0 log) ++ trap_action (trap 0) ≡ actions_of (part_of 0 log) = ap (λ o. actions_of (part_of 0 log) ++ trap_action o) none ∙ append-nil (actions_of (part_of 0 log)) in
    let serial : traces_in program 0 Main (replies_of (part_of 0 log)) (actions_of (part_of 0 log)) (steps 0) =
    subst (λ acts. traces_in program 0 Main (replies_of (part_of 0 log)) acts (steps 0)) same
    (subst (λ b. traces_in program 0 b (replies_of (part_of 0 log)) (actions_of (part_of 0 log) ++ trap_action (trap 0)) (steps 0)) at_main (traces 0 (some_threads_of program words log))) in
    let first : (less : ℕ) × (less ≤ steps 0) × traces_in program 0 Main (replies_of (part_of 0 log)) (actions_of (part_of 0 log)) less × ((fewer : ℕ) → less ≡ suc fewer → traces_in program 0 Main (replies_of (part_of 0 log)) (actions_of (part_of 0 log)) fewer → ⊥) =
    prompt_trace program (part_of 0 log) (steps 0) (parts_plain 0 log (opening_world program words) lawful) serial in (
      first.0,
      first.1,
      record {
        lawful = lawful;
        traces = with_first first.0 (
            subst (λ b. traces_in program 0 b (replies_of (part_of 0 log)) (actions_of (part_of 0 log) ++ trap_action (trap 0)) first.0) (sym at_main)
            (subst (λ acts. traces_in program 0 Main (replies_of (part_of 0 log)) acts first.0) (sym same) first.2));
        waits = inr first.3;
      },
      inr none,
    )
  where
    with_first : (less : ℕ) → traces_in program 0 (start_of log 0) (replies_of (part_of 0 log)) (actions_of (part_of 0 log) ++ trap_action (trap 0)) less →
        (t : ℕ) → t < (world_of program words log).threads → traces_in program t (start_of log t) (replies_of (part_of t log)) (actions_of (part_of t log) ++ trap_action (trap t)) (with_serial less steps t)
    with_first less h zero there = h
    with_first less h (suc t) there = traces (suc t) there
