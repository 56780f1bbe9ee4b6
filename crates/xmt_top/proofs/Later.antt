-- How a job has ended says nothing of what is complained of later.
use Rattle.std.proofs.Common.{◌≡◌, sym, subst, ℕ, Bool, List, Option, inl, inr}
use Rattle.xmt_host.specs.Told.{FileMap}
use Rattle.xmt_isa.specs.declared.image.Image.{Image}
use Rattle.xmt_isa.specs.declared.run.Choice.{Choice}
use Rattle.run_options.specs.declared.options.SimOptions.{SimOptions}
use Rattle.xmt_isa.specs.Machine.{Machine}
use Rattle.xmt_cli.specs.Given.{Text}
use Rattle.xmt_cli.specs.JobOf.{Task, compile, simulate, run}
use Rattle.xmt_jobs.specs.declared.outcome.Outcome.{Outcome}
use Rattle.xmt_jobs.specs.declared.outcome.Outcome.TheVariants.{Done, SourceRefused, ImageRefused, MapRefused, Trap, Spent, Fault, NoMemory}
use Rattle.xmt_host.specs.Told.{Told}
use Rattle.xmt_jobs.specs.Written.{IsSilent}
use Rattle.xmt_jobs.specs.Runs.{RunsTo}
use Rattle.xmt_jobs.specs.Sources.{HasCompiled, HasCompiledPart, HasRun, HasRunPart}
use Rattle.xmt_jobs.specs.Images.{HasSimulated, HasSimulatedPart}
use Rattle.xmt_jobs.specs.Ended.{HasEnded, IsCutCompiling, IsCutSimulating, IsCutRunning}

-- a later moment that tells the same files and the same output
module _ (before mid : Told) (err : Option (List ℕ)) (faults taken : ℕ) (steady : Bool) where
  abbrev now : Told
  now = record mid { err = err; faults = faults; taken = taken; steady = steady }

  silent : IsSilent before mid → IsSilent before now
  silent h = record { out = h.out; files = h.files }

  ran : (image : Image) (memory : List ℕ) (options : SimOptions) (end : Choice) (machine : Machine) → RunsTo image memory options end machine before mid → RunsTo image memory options end machine before now
  ran image memory options end machine h = record { ended = h.ended; halted = h.halted }

  compiled : (file target : Text) → HasCompiled file target before mid → HasCompiled file target before now
  compiled file target h = record { bytes = h.bytes; compiles = h.compiles; put = h.put }

  compiled_part : (file target : Text) → HasCompiledPart file target before mid → HasCompiledPart file target before now
  compiled_part file target h = record { bytes = h.bytes; compiles = h.compiles; put = h.put }

  cut_compiling : (file target : Text) → IsCutCompiling file target before mid → IsCutCompiling file target before now
  cut_compiling file target (same, inl kept) = (same, inl kept)
  cut_compiling file target (same, inr part) = (same, inr (compiled_part file target part))

  module _ (file : Text) (options : SimOptions) (map dump : Option Text) where
    simulated : (end : Choice) → HasSimulated file options map end before mid → HasSimulated file options map end before now
    simulated end h = record { image = h.image; holds = h.holds; memory = h.memory; opens = h.opens; machine = h.machine; run = ran h.image h.memory options end h.machine h.run }

    simulated_part : HasSimulatedPart file options map before mid → HasSimulatedPart file options map before now
    simulated_part h = record { image = h.image; holds = h.holds; memory = h.memory; opens = h.opens; printed = h.printed }

    cut_simulating : IsCutSimulating file options map dump before mid → IsCutSimulating file options map dump before now
    unfolding simulated
    cut_simulating (inl h) = inl (silent h)
    cut_simulating (inr (inl h)) = inr (inl (simulated_part h.0, h.1))
    cut_simulating (inr (inr h)) = inr (inr (simulated _ h.0, h.1))

    has_run : (end : Choice) → HasRun file options map end before mid → HasRun file options map end before now
    has_run end h = record {
      program = h.program;
      holds = h.holds;
      image = h.image;
      implements = h.implements;
      memory = h.memory;
      opens = h.opens;
      machine = h.machine;
      run = ran h.image h.memory options end h.machine h.run;
      does = h.does;
    }

    has_run_part : HasRunPart file options map before mid → HasRunPart file options map before now
    has_run_part h = record {
      program = h.program;
      holds = h.holds;
      image = h.image;
      implements = h.implements;
      memory = h.memory;
      opens = h.opens;
      machine = h.machine;
      reached = h.reached;
      does = h.does;
      printed = h.printed;
    }

    cut_running : IsCutRunning file options map dump before mid → IsCutRunning file options map dump before now
    unfolding has_run
    cut_running (inl h) = inl (silent h)
    cut_running (inr (inl h)) = inr (inl (has_run_part h.0, h.1))
    cut_running (inr (inr h)) = inr (inr (has_run _ h.0, h.1))

  ended_same : (task : Task) (o : Outcome) → HasEnded task before mid o → HasEnded task before now o
  unfolding simulated has_run
  ended_same (compile file target) Done h = (h.0, compiled file target h.1)
  ended_same (compile file target) (SourceRefused kind place) h = (h.0, silent h.1)
  ended_same (compile file target) (ImageRefused fault) h = h
  ended_same (compile file target) (MapRefused fault) h = h
  ended_same (compile file target) (Trap trap) h = h
  ended_same (compile file target) (Spent unit steps) h = h
  ended_same (compile file target) Fault h = cut_compiling file target h
  ended_same (compile file target) NoMemory h = cut_compiling file target h
  ended_same (simulate file options map dump) Done h = (simulated file options map dump _ h.0, h.1)
  ended_same (simulate file options map dump) (SourceRefused kind place) h = h
  ended_same (simulate file options map dump) (ImageRefused fault) h = (h.0, silent h.1)
  ended_same (simulate file options map dump) (MapRefused fault) h = (h.0, silent h.1)
  ended_same (simulate file options map dump) (Trap trap) h = (simulated file options map dump _ h.0, h.1)
  ended_same (simulate file options map dump) (Spent unit steps) h = (simulated file options map dump _ h.0, h.1)
  ended_same (simulate file options map dump) Fault h = cut_simulating file options map dump h
  ended_same (simulate file options map dump) NoMemory h = cut_simulating file options map dump h
  ended_same (run file options map dump) Done h = (has_run file options map dump _ h.0, h.1)
  ended_same (run file options map dump) (SourceRefused kind place) h = (h.0, silent h.1)
  ended_same (run file options map dump) (ImageRefused fault) h = h
  ended_same (run file options map dump) (MapRefused fault) h = (h.0, silent h.1)
  ended_same (run file options map dump) (Trap trap) h = (has_run file options map dump _ h.0, h.1)
  ended_same (run file options map dump) (Spent unit steps) h = (has_run file options map dump _ h.0, h.1)
  ended_same (run file options map dump) Fault h = cut_running file options map dump h
  ended_same (run file options map dump) NoMemory h = cut_running file options map dump h

-- a job has ended so also for a later moment that tells the same files and the same output
pub ended_later : (task : Task) (o : Outcome) (before mid now : Told) → now.files ≡ mid.files → now.out ≡ mid.out → HasEnded task before mid o → HasEnded task before now o
ended_later task o before mid now files out h =
    subst (λ (f : Option FileMap). HasEnded task before (record now { files = f }) o) (sym files)
    (subst (λ (p : Option (List ℕ)). HasEnded task before (record now { files = mid.files; out = p }) o) (sym out)
    (ended_same before mid now.err now.faults now.taken now.steady task o h))
