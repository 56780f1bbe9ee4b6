use Rattle.std.proofs.Common.{sym, subst, ℕ, List, inr, Ok, Err}
use Rattle.image_loader.specs.Layout.{Bytes}
use Rattle.xmt_jobs.proofs.Puts.{put_whole, put_part}
use Rattle.xmt_jobs.proofs.job.put_image.Goals as goal

pub returns-in-Ok-put-clause-put : goal.returns-in-Ok-put-clause-put
returns-in-Ok-put-clause-put g c = (
  c.as_slice.result.now,
  subst (λ (bytes : List ℕ). Bytes c.args.image.now bytes) (sym c.as_slice.ensures.value) c.in-Ok.ensures,
  put_whole c.args.out.now c.as_slice.result.now (g.H.Host.told c.args.host.now).files (g.H.Host.told c.put.new.self).files (Ok c.in-Ok-put.field-0) c.in-Ok-put.ensures.bytes,
)

pub returns-in-Err-Failed-clause-put : goal.returns-in-Err-Failed-clause-put
returns-in-Err-Failed-clause-put g c =
    inr (
      c.as_slice.result.now,
      subst (λ (bytes : List ℕ). Bytes c.args.image.now bytes) (sym c.as_slice.ensures.value) c.in-Ok.ensures,
      put_part c.args.out.now c.as_slice.result.now (g.H.Host.told c.args.host.now).files (g.H.Host.told c.put.new.self).files (Err c.in-Err-Failed.field-0) c.in-Err-Failed.ensures.bytes,
    )

pub returns-clause-put : goal.returns-clause-put
returns-clause-put g c =
    inr (
      c.as_slice.result.now,
      subst (λ (bytes : List ℕ). Bytes c.args.image.now bytes) (sym c.as_slice.ensures.value) c.in-Ok.ensures,
      put_part c.args.out.now c.as_slice.result.now (g.H.Host.told c.args.host.now).files (g.H.Host.told c.put.new.self).files (Err c.in-Err-NoMemory.field-0) c.in-Err-NoMemory.ensures.bytes,
    )
