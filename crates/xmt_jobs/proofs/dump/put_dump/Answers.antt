use Rattle.std.proofs.Common.{◌∙◌, ap, sym, Some, string_bytes}
use Rattle.std.specs.Option.{option_map}
use Rattle.xmt_jobs.proofs.Puts.{may_put, may_put_part}
use Rattle.xmt_jobs.proofs.dump.put_dump.Goals as goal

pub returns-in_ok-text-in-Some-clause-ok : goal.returns-in_ok-text-in-Some-clause-ok
returns-in_ok-text-in-Some-clause-ok g c =
    may_put (option_map string_bytes c.args.dump.now) c.as_str.result.now (ap (option_map string_bytes) c.in-Some.is ∙ ap Some (sym c.as_str.ensures.value)) c.as_slice.result.now _
    (c.as_slice.ensures.value ∙ c.in_ok-text-in-Some.ensures) (g.H.Host.told c.args.host.now).files (g.H.Host.told c.put.new.self).files c.put.result c.put.ensures.bytes

pub returns-in_ok-text-in-Some-clause-part : goal.returns-in_ok-text-in-Some-clause-part
returns-in_ok-text-in-Some-clause-part g c =
    may_put_part (option_map string_bytes c.args.dump.now) c.as_str.result.now (ap (option_map string_bytes) c.in-Some.is ∙ ap Some (sym c.as_str.ensures.value)) c.as_slice.result.now _
    (c.as_slice.ensures.value ∙ c.in_ok-text-in-Some.ensures) (g.H.Host.told c.args.host.now).files (g.H.Host.told c.put.new.self).files c.put.result c.put.ensures.bytes
