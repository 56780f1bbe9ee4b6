-- From the run of a loaded image and its dump to what a job has done.
use Rattle.std.proofs.Common.{◌≡◌, ◌∙◌, sym, subst, ℕ, List, Option, inl, inr}
use Rattle.xmt_host.specs.Told.{FileMap}
use Rattle.xmt_isa.specs.declared.image.Image.{Image}
use Rattle.xmt_isa.specs.declared.run.Choice.{Choice}
use Rattle.xmt_isa.specs.declared.run.Choice.TheVariants as choice
use Rattle.run_options.specs.declared.options.SimOptions.{SimOptions}
use Rattle.xmt_isa.specs.Machine.{Machine}
use Rattle.xmt_isa.specs.Legal.{HasHalted}
use Rattle.machine_turns.specs.Runs.{data_words}
use Rattle.memory_map.specs.DumpText.{dump_text}
use Rattle.xmtsim_run.specs.Runs.{EndsUnder, PrintsUnder}
use Rattle.xmt_cli.specs.Given.{Text}
use Rattle.xmt_jobs.specs.declared.outcome.Outcome.{Outcome}
use Rattle.xmt_jobs.specs.declared.outcome.Outcome.TheVariants.{Done, SourceRefused, ImageRefused, MapRefused, Trap, Spent, Fault, NoMemory}
use Rattle.xmt_host.specs.Told.{Told}
use Rattle.xmt_jobs.specs.Written.{IsSilent}
use Rattle.xmt_jobs.specs.Files.{MayPut, MayPutPart, PutsDump}
use Rattle.xmt_jobs.specs.Faults.{HoldsImage, HoldsNoMap, OpensAs}
use Rattle.xmt_jobs.specs.Runs.{RunsTo, dump_of}
use Rattle.xmt_jobs.specs.Images.{HasSimulated, HasSimulatedPart, RunsFrom, RunsPartly, IsCutOff, HasRunLoaded}
use Rattle.xmt_jobs.specs.Ended.{IsCutSimulating, HasEndedSimulating}

-- ---- the dump of a run that is done

module _ (image : Image) (options : SimOptions) (map dump : Option Text) (before now : Told) where
  with_dump : (done : RunsFrom image options map dump before now choice.Done) (o : Outcome) → PutsDump dump (dump_of image.symbols image done.machine) before.files now.files o → HasRunLoaded image options map dump before now o
  with_dump done Done put = (done, put)
  with_dump done Fault put = inr (inr (done, put))
  with_dump done NoMemory put = inr (inr (done, put))
  with_dump done (SourceRefused kind place) put = absurd put
  with_dump done (ImageRefused fault) put = absurd put
  with_dump done (MapRefused fault) put = absurd put
  with_dump done (Trap trap) put = absurd put
  with_dump done (Spent unit steps) put = absurd put

  pub dumped : (memory : List ℕ) → OpensAs before.files map image.symbols image.words memory → (out mid : Option (List ℕ)) → out ≡ before.out → now.out ≡ mid → (files : Option FileMap) → files ≡ before.files → (left : List ℕ) →
      (machine : Machine) × EndsUnder image memory options choice.Done machine out mid × HasHalted machine × (left ≡ data_words image machine.words) →
      (o : Outcome) → PutsDump dump (dump_text image.symbols left) files now.files o → HasRunLoaded image options map dump before now o
  dumped memory opens out mid same_out same_mid files same_files left e o put =
      let ended : EndsUnder image memory options choice.Done e.0 before.out now.out =
      subst (λ (x : Option (List ℕ)). EndsUnder image memory options choice.Done e.0 before.out x) (sym same_mid) (subst (λ (x : Option (List ℕ)). EndsUnder image memory options choice.Done e.0 x mid) same_out e.1) in
      with_dump (record { memory = memory; opens = opens; machine = e.0; run = record { ended = ended; halted = λ is. e.2 } }) o
      (subst (λ (x : List ℕ). PutsDump dump (dump_text image.symbols x) before.files now.files o) e.3 (subst (λ (x : Option FileMap). PutsDump dump (dump_text image.symbols left) x now.files o) same_files put))

-- ---- the image in a file

module _ (file : Text) (options : SimOptions) (map dump : Option Text) (before mid now : Told) (files : mid.files ≡ before.files) (out : mid.out ≡ before.out) (image : Image) where
  pub silent : IsSilent mid now → IsSilent before now
  silent s = record { out = s.out ∙ out; files = s.files ∙ files }

  pub opens_before : (memory : List ℕ) → OpensAs mid.files map image.symbols image.words memory → OpensAs before.files map image.symbols image.words memory
  opens_before memory h = subst (λ (f : Option FileMap). OpensAs f map image.symbols image.words memory) files h

  pub runs_before : (memory : List ℕ) (end : Choice) (machine : Machine) → RunsTo image memory options end machine mid now → RunsTo image memory options end machine before now
  runs_before memory end machine h =
      record { ended = subst (λ (x : Option (List ℕ)). EndsUnder image memory options end machine x now.out) out h.ended; halted = h.halted }

  pub prints_before : (memory : List ℕ) → PrintsUnder image memory options mid.out now.out → PrintsUnder image memory options before.out now.out
  prints_before memory h = subst (λ (x : Option (List ℕ)). PrintsUnder image memory options x now.out) out h

  module _ (holds : HoldsImage before.files file image) where
    abbrev simulated : (end : Choice) → RunsFrom image options map dump mid now end → HasSimulated file options map end before now
    simulated end h = record { image = image; holds = holds; memory = h.memory; opens = opens_before h.memory h.opens; machine = h.machine; run = runs_before h.memory end h.machine h.run }

    simulated_part : RunsPartly image options map dump mid now → HasSimulatedPart file options map before now
    simulated_part h = record { image = image; holds = holds; memory = h.memory; opens = opens_before h.memory h.opens; printed = prints_before h.memory h.printed }

    cut : IsCutOff image options map dump mid now → IsCutSimulating file options map dump before now
    cut (inl s) = inl (silent s)
    cut (inr (inl h)) = inr (inl (simulated_part h.0, h.1 ∙ files))
    cut (inr (inr h)) = inr (inr (simulated choice.Done h.0, subst (λ (f : Option FileMap). MayPutPart dump (dump_of image.symbols image h.0.machine) f now.files) files h.1))

    pub has_simulated : (o : Outcome) → HasRunLoaded image options map dump mid now o → HasEndedSimulating file options map dump before now o
    has_simulated Done h = (simulated choice.Done h.0, subst (λ (f : Option FileMap). MayPut dump (dump_of image.symbols image h.0.machine) f now.files) files h.1)
    has_simulated (MapRefused fault) h = ((image, holds, subst (λ (f : Option FileMap). HoldsNoMap f map image.symbols image.words fault) files h.0), silent h.1)
    has_simulated (Trap trap) h = (simulated (choice.Trap trap) h.0, h.1 ∙ files)
    has_simulated (Spent unit steps) h = (simulated (choice.Spent unit steps) h.0, h.1 ∙ files)
    has_simulated Fault h = cut h
    has_simulated NoMemory h = cut h
    has_simulated (SourceRefused kind place) h = absurd h
    has_simulated (ImageRefused fault) h = absurd h
