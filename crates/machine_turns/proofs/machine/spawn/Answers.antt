use Rattle.std.proofs.Common.{◌≡◌, refl, slice_get, Some, arith}
use Rattle.machine_turns.proofs.Texts.{there_at}
use Rattle.machine_turns.proofs.Blocks.{spawn_fits, spawn_idle, turned_spawn}
use Rattle.machine_turns.proofs.machine.spawn.Goals as goal

pub begin_section-requires-clause-fits : goal.begin_section-requires-clause-fits
begin_section-requires-clause-fits c =
    let there : slice_get c.args.machine.now.seats.items c.args.k ≡ Some c.index.result.now = there_at c.args.machine.now.seats.items c.args.k c.index.result.now (omega arith) c.index.ensures in
    spawn_fits c.args.image.now c.args.budget c.args.machine.now c.args.k c.args.ask c.requires.kept c.requires.asks c.index.result.now there c.broadcast.new.start c.in_ok-broadcast.ensures

pub begin_section-requires-clause-idle : goal.begin_section-requires-clause-idle
begin_section-requires-clause-idle c =
    let there : slice_get c.args.machine.now.seats.items c.args.k ≡ Some c.index.result.now = there_at c.args.machine.now.seats.items c.args.k c.index.result.now (omega arith) c.index.ensures in
    spawn_idle c.args.image.now c.args.budget c.args.machine.now c.args.k c.args.ask c.requires.kept c.requires.asks c.index.result.now there

pub returns-clause-goes : goal.returns-clause-goes
returns-clause-goes c =
    let there : slice_get c.args.machine.now.seats.items c.args.k ≡ Some c.index.result.now = there_at c.args.machine.now.seats.items c.args.k c.index.result.now (omega arith) c.index.ensures in
    turned_spawn c.args.image.now c.args.budget c.args.machine.now c.args.k c.args.ask c.requires.kept c.requires.asks c.index.result.now there _ c.in_ok-broadcast.ensures refl refl refl c.begin_section.ensures.behind
