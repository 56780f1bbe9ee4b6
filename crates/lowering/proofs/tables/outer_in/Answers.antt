use Rattle.std.proofs.Common.{refl, length}
use Rattle.std.proofs.lemmas.Option.{slice_get_read}
use Rattle.lowering.proofs.Laid.{outer_at}
use Rattle.lowering.proofs.tables.outer_in.Goals as goal

pub returns-in-Some : goal.returns-in-Some
returns-in-Some c = outer_at c.args.tables.now.body.now c.args.tables.now.outer.now c.args.slot c.in-Some.number.now c.args.tables.now.numbered
    (slice_get_read c.args.tables.now.outer.now (length c.args.tables.now.outer.now) c.args.slot c.in-Some.number.now refl c.in-Some.ensures.lookup.3.0 c.in-Some.ensures.lookup.1)
