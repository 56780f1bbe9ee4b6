-- What is asked of the code of a program: each of its traces is one of the program, with its work in bounds.
use Rattle.std.specs.Prelude.{◌≡◌, ℕ, ◌+◌, ◌*◌, ◌≤◌, List, [], ◌∷◌, ◌++◌}
use Rattle.xmt_base.specs.Action.{Action, Ended, Start, Main, Traces}
use Rattle.source_meaning.specs.declared.tree.Program.{Program}
use Rattle.source_meaning.specs.Trace.{traces_in}

-- a trace whose last action is the thread's end
abbrev pub EndsThread : List Action → Type 0
EndsThread trace = (before : List Action) × (trace ≡ before ++ (Ended ∷ []))

-- at most 64 instructions for each step of the source and 64 more, and none more once the thread has ended
pub record IsBounded (trace : List Action) (work steps : ℕ) : Type 0 where
  pub under_way : work ≤ 64 * (steps + 1)
  pub ended : EndsThread trace → work ≤ 64 * steps

-- Each trace of the code is one of the program, with bounded work, for a thread of any number. Thread 0, the serial code, begins at `main` alone.
abbrev pub HasBoundedTraces : Program → Traces → Type 0
HasBoundedTraces program code =
    (thread : ℕ) (begin : Start) (replies : List ℕ) (trace : List Action) (work : ℕ) → (thread ≡ 0 → begin ≡ Main) →
    code begin replies trace work → (steps : ℕ) × traces_in program thread begin replies trace steps × IsBounded trace work steps
