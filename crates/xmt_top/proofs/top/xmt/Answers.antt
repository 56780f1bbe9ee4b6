use Rattle.std.proofs.Common.{◌∷◌, [], Contains, map, string_bytes, refl, inl, inr, arith}
use Rattle.xmt_cli.specs.JobOf.{Task, seen_job}
use Rattle.xmt_jobs.specs.declared.outcome.Outcome.TheVariants.{Fault}
use Rattle.xmt_top.specs.Completeness.{MustRefuseSource, MustRefuseBytes, MustRun, MustEnd}
use Rattle.xmt_top.specs.Shows.{Shows, ShowsDone, ShowsRefusedSource, ShowsRefusedBytes, ShowsTrap, ShowsSpent, ShowsNoMemory}
use Rattle.xmt_top.proofs.Codes.{code_or}
use Rattle.xmt_top.proofs.Shown as shown
use Rattle.xmt_top.proofs.Shown.{for_any, for_task}
use Rattle.xmt_top.proofs.top.xmt.Goals as goal

pub returns-in-Err-NotAJob-clause-codes : goal.returns-in-Err-NotAJob-clause-codes
returns-in-Err-NotAJob-clause-codes g c = code_or (0 ∷ 1 ∷ 2 ∷ 3 ∷ 4 ∷ 5 ∷ 6 ∷ 7 ∷ []) 2 _ (2, omega arith, refl) (7, omega arith, refl) c.complain.ensures.code

pub returns-in-Ok-clause-codes : goal.returns-in-Ok-clause-codes
returns-in-Ok-clause-codes g c = shown.has_code c.do_and_report.ensures.reported

pub returns-in-Ok-clause-refused_source_only : goal.returns-in-Ok-clause-refused_source_only
returns-in-Ok-clause-refused_source_only g c = for_task (map string_bytes c.args.words.now) (seen_job c.in-Ok.job) (λ (task : Task). MustRefuseSource (g.H.Host.told c.args.host.now).files task → Contains (1 ∷ 6 ∷ 7 ∷ []) c.do_and_report.result.code) c.in-Ok.ensures.ok (shown.source_only c.do_and_report.ensures.reported)

pub returns-in-Ok-clause-refused_bytes_only : goal.returns-in-Ok-clause-refused_bytes_only
returns-in-Ok-clause-refused_bytes_only g c = for_task (map string_bytes c.args.words.now) (seen_job c.in-Ok.job) (λ (task : Task). MustRefuseBytes (g.H.Host.told c.args.host.now).files task → Contains (3 ∷ 6 ∷ 7 ∷ []) c.do_and_report.result.code) c.in-Ok.ensures.ok (shown.bytes_only c.do_and_report.ensures.reported)

pub returns-in-Ok-clause-accepted : goal.returns-in-Ok-clause-accepted
returns-in-Ok-clause-accepted g c = λ calm. for_task (map string_bytes c.args.words.now) (seen_job c.in-Ok.job) (λ (task : Task). MustRun (g.H.Host.told c.args.host.now).files task → Contains (0 ∷ 4 ∷ 5 ∷ 7 ∷ []) c.do_and_report.result.code) c.in-Ok.ensures.ok (shown.run_codes c.do_and_report.ensures.reported calm)

pub returns-in-Ok-clause-complete : goal.returns-in-Ok-clause-complete
returns-in-Ok-clause-complete g c = λ calm. for_task (map string_bytes c.args.words.now) (seen_job c.in-Ok.job) (λ (task : Task). MustEnd (g.H.Host.told c.args.host.now).files task → Contains (0 ∷ 7 ∷ []) c.do_and_report.result.code) c.in-Ok.ensures.ok (shown.end_code c.do_and_report.ensures.reported calm)

pub returns-in-Ok-clause-done : goal.returns-in-Ok-clause-done
returns-in-Ok-clause-done g c = λ is. for_task (map string_bytes c.args.words.now) (seen_job c.in-Ok.job) (ShowsDone (g.H.Host.told c.args.host.now) (g.H.Host.told c.do_and_report.new.host)) c.in-Ok.ensures.ok (shown.shows_done c.do_and_report.ensures.reported is)

pub returns-in-Ok-clause-refused_source : goal.returns-in-Ok-clause-refused_source
returns-in-Ok-clause-refused_source g c = λ is. for_task (map string_bytes c.args.words.now) (seen_job c.in-Ok.job) (ShowsRefusedSource (g.H.Host.told c.args.host.now) (g.H.Host.told c.do_and_report.new.host)) c.in-Ok.ensures.ok (shown.shows_source c.do_and_report.ensures.reported is)

pub returns-in-Ok-clause-refused_bytes : goal.returns-in-Ok-clause-refused_bytes
returns-in-Ok-clause-refused_bytes g c = λ is. for_task (map string_bytes c.args.words.now) (seen_job c.in-Ok.job) (ShowsRefusedBytes (g.H.Host.told c.args.host.now) (g.H.Host.told c.do_and_report.new.host)) c.in-Ok.ensures.ok (shown.shows_bytes c.do_and_report.ensures.reported is)

pub returns-in-Ok-clause-trapped : goal.returns-in-Ok-clause-trapped
returns-in-Ok-clause-trapped g c = λ is. for_task (map string_bytes c.args.words.now) (seen_job c.in-Ok.job) (ShowsTrap (g.H.Host.told c.args.host.now) (g.H.Host.told c.do_and_report.new.host)) c.in-Ok.ensures.ok (shown.shows_trap c.do_and_report.ensures.reported is)

pub returns-in-Ok-clause-spent : goal.returns-in-Ok-clause-spent
returns-in-Ok-clause-spent g c = λ is. for_task (map string_bytes c.args.words.now) (seen_job c.in-Ok.job) (ShowsSpent (g.H.Host.told c.args.host.now) (g.H.Host.told c.do_and_report.new.host)) c.in-Ok.ensures.ok (shown.shows_spent c.do_and_report.ensures.reported is)

pub returns-in-Ok-clause-failed : goal.returns-in-Ok-clause-failed
returns-in-Ok-clause-failed g c = λ is. for_task (map string_bytes c.args.words.now) (seen_job c.in-Ok.job) (λ (task : Task). Shows (g.H.Host.told c.args.host.now) (g.H.Host.told c.do_and_report.new.host) task Fault) c.in-Ok.ensures.ok (shown.shows_failed c.do_and_report.ensures.reported is)

pub returns-in-Ok-clause-no_memory : goal.returns-in-Ok-clause-no_memory
returns-in-Ok-clause-no_memory g c = λ is. inr (for_task (map string_bytes c.args.words.now) (seen_job c.in-Ok.job) (ShowsNoMemory (g.H.Host.told c.args.host.now) (g.H.Host.told c.do_and_report.new.host)) c.in-Ok.ensures.ok (shown.shows_no_memory c.do_and_report.ensures.reported))

pub returns-in-Ok-clause-fault : goal.returns-in-Ok-clause-fault
returns-in-Ok-clause-fault g c = shown.rose_at_six c.do_and_report.ensures.reported

pub returns-in-Ok-clause-files : goal.returns-in-Ok-clause-files
returns-in-Ok-clause-files g c = shown.files_stay c.do_and_report.ensures.reported

pub returns-in-Ok-clause-out : goal.returns-in-Ok-clause-out
returns-in-Ok-clause-out g c = shown.out_stays c.do_and_report.ensures.reported

pub returns-in-Ok-clause-no_job : goal.returns-in-Ok-clause-no_job
returns-in-Ok-clause-no_job g c = λ is. absurd (shown.not_two c.do_and_report.ensures.reported is)

pub returns-in-Ok-clause-no_job_line : goal.returns-in-Ok-clause-no_job_line
returns-in-Ok-clause-no_job_line g c = λ is. absurd (shown.not_two c.do_and_report.ensures.reported is)

pub returns-in-Err-NoMemory-clause-refused_source_only : goal.returns-in-Err-NoMemory-clause-refused_source_only
returns-in-Err-NoMemory-clause-refused_source_only g c =
    for_any (map string_bytes c.args.words.now) (λ (task : Task). MustRefuseSource (g.H.Host.told c.args.host.now).files task → Contains (1 ∷ 6 ∷ 7 ∷ []) c.complain-in-Err-NoMemory.result.code)
    (λ task must. code_or (1 ∷ 6 ∷ 7 ∷ []) 7 _ (2, omega arith, refl) (2, omega arith, refl) c.complain-in-Err-NoMemory.ensures.code)

pub returns-in-Err-NoMemory-clause-refused_bytes_only : goal.returns-in-Err-NoMemory-clause-refused_bytes_only
returns-in-Err-NoMemory-clause-refused_bytes_only g c =
    for_any (map string_bytes c.args.words.now) (λ (task : Task). MustRefuseBytes (g.H.Host.told c.args.host.now).files task → Contains (3 ∷ 6 ∷ 7 ∷ []) c.complain-in-Err-NoMemory.result.code)
    (λ task must. code_or (3 ∷ 6 ∷ 7 ∷ []) 7 _ (2, omega arith, refl) (2, omega arith, refl) c.complain-in-Err-NoMemory.ensures.code)

pub returns-in-Err-NoMemory-clause-accepted : goal.returns-in-Err-NoMemory-clause-accepted
returns-in-Err-NoMemory-clause-accepted g c =
    λ calm. for_any (map string_bytes c.args.words.now) (λ (task : Task). MustRun (g.H.Host.told c.args.host.now).files task → Contains (0 ∷ 4 ∷ 5 ∷ 7 ∷ []) c.complain-in-Err-NoMemory.result.code)
    (λ task must. code_or (0 ∷ 4 ∷ 5 ∷ 7 ∷ []) 7 _ (3, omega arith, refl) (3, omega arith, refl) c.complain-in-Err-NoMemory.ensures.code)

pub returns-in-Err-NoMemory-clause-complete : goal.returns-in-Err-NoMemory-clause-complete
returns-in-Err-NoMemory-clause-complete g c =
    λ calm. for_any (map string_bytes c.args.words.now) (λ (task : Task). MustEnd (g.H.Host.told c.args.host.now).files task → Contains (0 ∷ 7 ∷ []) c.complain-in-Err-NoMemory.result.code)
    (λ task must. code_or (0 ∷ 7 ∷ []) 7 _ (1, omega arith, refl) (1, omega arith, refl) c.complain-in-Err-NoMemory.ensures.code)

pub returns-in-Err-NotAJob-clause-no_memory : goal.returns-in-Err-NotAJob-clause-no_memory
returns-in-Err-NotAJob-clause-no_memory g c = λ is. inl (record { silent = record { out = c.complain.ensures.only.out; files = c.complain.ensures.only.files }; line = inr c.complain.ensures.part })

pub returns-in-Err-NoMemory-clause-no_memory : goal.returns-in-Err-NoMemory-clause-no_memory
returns-in-Err-NoMemory-clause-no_memory g c =
    λ is. inl (record { silent = record { out = c.complain-in-Err-NoMemory.ensures.only.out; files = c.complain-in-Err-NoMemory.ensures.only.files }; line = inl c.complain-in-Err-NoMemory.ensures.part })
