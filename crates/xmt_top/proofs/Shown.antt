-- What a call shows, from what the job has done and what was reported.
use Rattle.std.proofs.Common.{◌≡◌, ◌∙◌, ℕ, ◌≤◌, List, [], ◌∷◌, Contains, Option, Some, None, refl, sym, subst, inl, inr, arith}
use Rattle.std.specs.Prelude.{IfSome}
use Rattle.xmt_host.specs.Host.{Rose}
use Rattle.xmt_cli.specs.Given.{Text}
use Rattle.xmt_cli.specs.JobOf.{Task, compile, simulate, run, task_of}
use Rattle.xmt_jobs.specs.declared.outcome.Outcome.{Outcome}
use Rattle.xmt_jobs.specs.declared.outcome.Outcome.TheVariants.{Done, SourceRefused, ImageRefused, MapRefused, Trap, Spent, Fault, NoMemory}
use Rattle.xmt_host.specs.Told.{Told}
use Rattle.xmt_jobs.specs.Written.{WritesPart}
use Rattle.xmt_jobs.specs.Ended.{HasEnded}
use Rattle.xmt_top.specs.Completeness.{MustRefuseSource, MustRefuseBytes, MustRun, MustEnd}
use Rattle.xmt_top.specs.Shows.{ForTask, Shows, ShowsDone, ShowsRefusedSource, ShowsRefusedBytes, ShowsTrap, ShowsSpent, ShowsNoMemory, Reported, code_of, line_of}
use Rattle.xmt_top.proofs.Codes.{code_or, all_codes, never_two, fault_of_six, code_is, one_to_five, one_to_three}
use Rattle.xmt_top.proofs.Complaints.{complains_earlier, rose_later}
use Rattle.xmt_top.proofs.Later.{ended_later}
use Rattle.xmt_top.proofs.Refusals.{source_codes, bytes_codes}
use Rattle.xmt_top.proofs.Taken.{taken_codes, end_codes}

-- ---- tasks

-- what holds of every task holds of the task of the words
pub for_any : (words : List Text) (P : Task → Type 0) → ((task : Task) → P task) → ForTask words P
for_any words P h = by_task (task_of words)
  where
    by_task : (o : Option Task) → IfSome o P
    by_task None = tt
    by_task (Some task) = h task

pub for_task : (words : List Text) (task : Task) (P : Task → Type 0) → task_of words ≡ Some task → P task → ForTask words P
for_task words task P is h = subst (λ (o : Option Task). IfSome o P) (sym is) h

-- ---- what is shown, by the code

module _ (task : Task) (before now : Told) where
  source_shown : (o : Outcome) → code_of o ≡ 1 → Shows before now task o → ShowsRefusedSource before now task
  source_shown Done is shown = absurd (omega (arith, is))
  source_shown (SourceRefused kind place) is shown = (kind, place, shown)
  source_shown (ImageRefused fault) is shown = absurd (omega (arith, is))
  source_shown (MapRefused fault) is shown = absurd (omega (arith, is))
  source_shown (Trap trap) is shown = absurd (omega (arith, is))
  source_shown (Spent unit steps) is shown = absurd (omega (arith, is))
  source_shown Fault is shown = absurd (omega (arith, is))
  source_shown NoMemory is shown = absurd (omega (arith, is))

  bytes_shown : (o : Outcome) → code_of o ≡ 3 → Shows before now task o → ShowsRefusedBytes before now task
  bytes_shown Done is shown = absurd (omega (arith, is))
  bytes_shown (SourceRefused kind place) is shown = absurd (omega (arith, is))
  bytes_shown (ImageRefused fault) is shown = (fault, inl shown)
  bytes_shown (MapRefused fault) is shown = (fault, inr shown)
  bytes_shown (Trap trap) is shown = absurd (omega (arith, is))
  bytes_shown (Spent unit steps) is shown = absurd (omega (arith, is))
  bytes_shown Fault is shown = absurd (omega (arith, is))
  bytes_shown NoMemory is shown = absurd (omega (arith, is))

  trap_shown : (o : Outcome) → code_of o ≡ 4 → Shows before now task o → ShowsTrap before now task
  trap_shown Done is shown = absurd (omega (arith, is))
  trap_shown (SourceRefused kind place) is shown = absurd (omega (arith, is))
  trap_shown (ImageRefused fault) is shown = absurd (omega (arith, is))
  trap_shown (MapRefused fault) is shown = absurd (omega (arith, is))
  trap_shown (Trap trap) is shown = (trap, shown)
  trap_shown (Spent unit steps) is shown = absurd (omega (arith, is))
  trap_shown Fault is shown = absurd (omega (arith, is))
  trap_shown NoMemory is shown = absurd (omega (arith, is))

  spent_shown : (o : Outcome) → code_of o ≡ 5 → Shows before now task o → ShowsSpent before now task
  spent_shown Done is shown = absurd (omega (arith, is))
  spent_shown (SourceRefused kind place) is shown = absurd (omega (arith, is))
  spent_shown (ImageRefused fault) is shown = absurd (omega (arith, is))
  spent_shown (MapRefused fault) is shown = absurd (omega (arith, is))
  spent_shown (Trap trap) is shown = absurd (omega (arith, is))
  spent_shown (Spent unit steps) is shown = (unit, steps, shown)
  spent_shown Fault is shown = absurd (omega (arith, is))
  spent_shown NoMemory is shown = absurd (omega (arith, is))

  done_ended : (o : Outcome) → code_of o ≡ 0 → HasEnded task before now o → HasEnded task before now Done
  done_ended Done is h = h
  done_ended (SourceRefused kind place) is h = absurd (omega (arith, is))
  done_ended (ImageRefused fault) is h = absurd (omega (arith, is))
  done_ended (MapRefused fault) is h = absurd (omega (arith, is))
  done_ended (Trap trap) is h = absurd (omega (arith, is))
  done_ended (Spent unit steps) is h = absurd (omega (arith, is))
  done_ended Fault is h = absurd (omega (arith, is))
  done_ended NoMemory is h = absurd (omega (arith, is))

-- ---- what stays, by the code

module _ (before now : Told) where
  files_kept : (task : Task) (o : Outcome) → HasEnded task before now o → 1 ≤ code_of o → code_of o ≤ 5 → now.files ≡ before.files
  files_kept (compile file target) Done h low high = absurd (omega (arith, low, high))
  files_kept (compile file target) (SourceRefused kind place) h low high = h.1.files
  files_kept (compile file target) (ImageRefused fault) h low high = absurd h
  files_kept (compile file target) (MapRefused fault) h low high = absurd h
  files_kept (compile file target) (Trap trap) h low high = absurd h
  files_kept (compile file target) (Spent unit steps) h low high = absurd h
  files_kept (compile file target) Fault h low high = absurd (omega (arith, low, high))
  files_kept (compile file target) NoMemory h low high = absurd (omega (arith, low, high))
  files_kept (simulate file options map dump) Done h low high = absurd (omega (arith, low, high))
  files_kept (simulate file options map dump) (SourceRefused kind place) h low high = absurd h
  files_kept (simulate file options map dump) (ImageRefused fault) h low high = h.1.files
  files_kept (simulate file options map dump) (MapRefused fault) h low high = h.1.files
  files_kept (simulate file options map dump) (Trap trap) h low high = h.1
  files_kept (simulate file options map dump) (Spent unit steps) h low high = h.1
  files_kept (simulate file options map dump) Fault h low high = absurd (omega (arith, low, high))
  files_kept (simulate file options map dump) NoMemory h low high = absurd (omega (arith, low, high))
  files_kept (run file options map dump) Done h low high = absurd (omega (arith, low, high))
  files_kept (run file options map dump) (SourceRefused kind place) h low high = h.1.files
  files_kept (run file options map dump) (ImageRefused fault) h low high = absurd h
  files_kept (run file options map dump) (MapRefused fault) h low high = h.1.files
  files_kept (run file options map dump) (Trap trap) h low high = h.1
  files_kept (run file options map dump) (Spent unit steps) h low high = h.1
  files_kept (run file options map dump) Fault h low high = absurd (omega (arith, low, high))
  files_kept (run file options map dump) NoMemory h low high = absurd (omega (arith, low, high))

  out_kept : (task : Task) (o : Outcome) → HasEnded task before now o → 1 ≤ code_of o → code_of o ≤ 3 → now.out ≡ before.out
  out_kept (compile file target) Done h low high = absurd (omega (arith, low, high))
  out_kept (compile file target) (SourceRefused kind place) h low high = h.1.out
  out_kept (compile file target) (ImageRefused fault) h low high = absurd h
  out_kept (compile file target) (MapRefused fault) h low high = absurd h
  out_kept (compile file target) (Trap trap) h low high = absurd (omega (arith, low, high))
  out_kept (compile file target) (Spent unit steps) h low high = absurd (omega (arith, low, high))
  out_kept (compile file target) Fault h low high = absurd (omega (arith, low, high))
  out_kept (compile file target) NoMemory h low high = absurd (omega (arith, low, high))
  out_kept (simulate file options map dump) Done h low high = absurd (omega (arith, low, high))
  out_kept (simulate file options map dump) (SourceRefused kind place) h low high = absurd h
  out_kept (simulate file options map dump) (ImageRefused fault) h low high = h.1.out
  out_kept (simulate file options map dump) (MapRefused fault) h low high = h.1.out
  out_kept (simulate file options map dump) (Trap trap) h low high = absurd (omega (arith, low, high))
  out_kept (simulate file options map dump) (Spent unit steps) h low high = absurd (omega (arith, low, high))
  out_kept (simulate file options map dump) Fault h low high = absurd (omega (arith, low, high))
  out_kept (simulate file options map dump) NoMemory h low high = absurd (omega (arith, low, high))
  out_kept (run file options map dump) Done h low high = absurd (omega (arith, low, high))
  out_kept (run file options map dump) (SourceRefused kind place) h low high = h.1.out
  out_kept (run file options map dump) (ImageRefused fault) h low high = absurd h
  out_kept (run file options map dump) (MapRefused fault) h low high = h.1.out
  out_kept (run file options map dump) (Trap trap) h low high = absurd (omega (arith, low, high))
  out_kept (run file options map dump) (Spent unit steps) h low high = absurd (omega (arith, low, high))
  out_kept (run file options map dump) Fault h low high = absurd (omega (arith, low, high))
  out_kept (run file options map dump) NoMemory h low high = absurd (omega (arith, low, high))

-- ---- a job has ended, and its end was reported

module _ {task : Task} {before now : Told} {code : ℕ} (r : Reported task before now code) where
  abbrev o : Outcome
  o = r.outcome

  abbrev mid : Told
  mid = r.mid

  ended_now : HasEnded task before now o
  ended_now = ended_later task o before mid now r.same_files r.same_out r.ended

  -- where the code isn't 7, the line was written
  shown : (k : ℕ) → code ≡ k → k ≤ 6 → Shows before now task o
  shown k is small = record { ended = ended_now; line = elim r.line [ inl seven ↦ absurd (omega (arith, is, seven, small)) | inr told ↦ complains_earlier (line_of task o) before mid now r.earlier r.same_err told ] }

  of_code : (k : ℕ) → code ≡ k → k ≤ 6 → code_of o ≡ k
  of_code k is small = code_is o code k r.is_code is small

  pub shows_done : code ≡ 0 → ShowsDone before now task
  shows_done is = record { ended = done_ended task before now o (of_code 0 is (omega arith)) ended_now; line = r.done is ∙ r.same_err }

  pub shows_source : code ≡ 1 → ShowsRefusedSource before now task
  shows_source is = source_shown task before now o (of_code 1 is (omega arith)) (shown 1 is (omega arith))

  pub shows_bytes : code ≡ 3 → ShowsRefusedBytes before now task
  shows_bytes is = bytes_shown task before now o (of_code 3 is (omega arith)) (shown 3 is (omega arith))

  pub shows_trap : code ≡ 4 → ShowsTrap before now task
  shows_trap is = trap_shown task before now o (of_code 4 is (omega arith)) (shown 4 is (omega arith))

  pub shows_spent : code ≡ 5 → ShowsSpent before now task
  shows_spent is = spent_shown task before now o (of_code 5 is (omega arith)) (shown 5 is (omega arith))

  pub shows_failed : code ≡ 6 → Shows before now task Fault
  shows_failed is = subst (Shows before now task) (fault_of_six o (of_code 6 is (omega arith))) (shown 6 is (omega arith))

  pub shows_no_memory : ShowsNoMemory before now task
  shows_no_memory = record { outcome = o; ended = ended_now; line = subst (λ (old : Option (List ℕ)). WritesPart (line_of task o) old now.err) r.same_err r.part }

  -- ---- codes

  pub has_code : Contains (0 ∷ 1 ∷ 2 ∷ 3 ∷ 4 ∷ 5 ∷ 6 ∷ 7 ∷ []) code
  has_code = code_or (0 ∷ 1 ∷ 2 ∷ 3 ∷ 4 ∷ 5 ∷ 6 ∷ 7 ∷ []) (code_of o) code (all_codes o) (7, omega arith, refl) r.is_code

  pub not_two : code ≡ 2 → ⊥
  not_two is = never_two o code r.is_code is

  pub rose_at_six : code ≡ 6 → Rose before.faults now.faults
  rose_at_six is = rose_later before.faults mid.faults now.faults r.later (r.rose (fault_of_six o (of_code 6 is (omega arith))))

  pub source_only : MustRefuseSource before.files task → Contains (1 ∷ 6 ∷ 7 ∷ []) code
  source_only must = code_or (1 ∷ 6 ∷ 7 ∷ []) (code_of o) code (source_codes before mid task o must r.ended) (2, omega arith, refl) r.is_code

  pub bytes_only : MustRefuseBytes before.files task → Contains (3 ∷ 6 ∷ 7 ∷ []) code
  bytes_only must = code_or (3 ∷ 6 ∷ 7 ∷ []) (code_of o) code (bytes_codes before mid task o must r.ended) (2, omega arith, refl) r.is_code

  module _ (calm : ¬ Rose before.faults now.faults) where
    no_fault : o ≡ Fault → ⊥
    no_fault is = calm (rose_later before.faults mid.faults now.faults r.later (r.rose is))

    pub run_codes : MustRun before.files task → Contains (0 ∷ 4 ∷ 5 ∷ 7 ∷ []) code
    run_codes must = code_or (0 ∷ 4 ∷ 5 ∷ 7 ∷ []) (code_of o) code (taken_codes before mid _ _ task o must r.ended no_fault) (3, omega arith, refl) r.is_code

    pub end_code : MustEnd before.files task → Contains (0 ∷ 7 ∷ []) code
    end_code must = code_or (0 ∷ 7 ∷ []) (code_of o) code (end_codes before mid task o must r.ended no_fault) (1, omega arith, refl) r.is_code

  -- ---- what stays

  -- a code from 1 to 5 is that of the outcome
  own_code : 1 ≤ code → code ≤ 5 → code_of o ≡ code
  own_code low high = of_code code refl (omega (arith, high))

  pub files_stay : Contains (1 ∷ 2 ∷ 3 ∷ 4 ∷ 5 ∷ []) code → now.files ≡ before.files
  files_stay among =
      let range = one_to_five code among in
      let own = own_code range.0 range.1 in
      files_kept before now task o ended_now (omega (arith, own, range.0)) (omega (arith, own, range.1))

  pub out_stays : Contains (1 ∷ 2 ∷ 3 ∷ []) code → now.out ≡ before.out
  out_stays among =
      let range = one_to_three code among in
      let own = own_code range.0 (omega (arith, range.1)) in
      out_kept before now task o ended_now (omega (arith, own, range.0)) (omega (arith, own, range.1))
