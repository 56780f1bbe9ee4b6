use Rattle.std.proofs.Common.{refl, length}
use Rattle.std.proofs.lemmas.Option.{slice_get_read, slice_get_past}
use Rattle.lowering.proofs.Laid.{size_of, size_past}
use Rattle.lowering.proofs.tables.size_of.Goals as goal

pub returns-in-Some : goal.returns-in-Some
returns-in-Some c =
    size_of c.args.tables.now.globals.now c.args.tables.now.symbols.now c.args.global c.args.tables.now.laid c.in-Some.symbol.now
    (slice_get_read c.args.tables.now.symbols.now (length c.args.tables.now.symbols.now) c.args.global c.in-Some.symbol.now refl c.in-Some.ensures.lookup.3.0 c.in-Some.ensures.lookup.1)

pub returns-in-None : goal.returns-in-None
returns-in-None c = size_past c.args.tables.now.globals.now c.args.tables.now.symbols.now c.args.global c.args.tables.now.laid
    (slice_get_past c.args.tables.now.symbols.now c.args.global c.in-None.ensures.lookup.3)
