use Rattle.std.proofs.Common.{◌≡◌, arith}
use Rattle.xmt_isa.specs.declared.unit.Unit.{Unit}
use Rattle.xmt_isa.specs.declared.unit.Next.TheVariants as next
use Rattle.unit_steps.specs.Steps.{begun, DoesNext}
use Rattle.machine_turns.proofs.Asked.{means_of, begun_same, does_same}
use Rattle.machine_turns.proofs.On.{some_alone}
use Rattle.machine_turns.proofs.seats.run_more.Goals as goal

pub returns : goal.returns
returns c =
    let made = c.advance-seat.ensures in
    let u : Unit = c.args.seat.now.unit in
    let old : begun c.args.image.now u ≡ u = begun_same c.args.image.now u c.requires.may.tells.begun in
    let pauses : DoesNext c.args.image.now c.args.start.now c.args.budget u next.Local = rw c.requires.pauses at c.requires.may.tells.means in
    some_alone c.args.image.now c.args.start.now c.args.budget made.advanced.count u c.advance-seat.new.unit c.advance-seat.result (rw old at made.advanced.alone)
    (λ stays none.
    let paused = made.pause.1 (does_same c.args.image.now c.args.start.now c.args.budget u c.advance-seat.new.unit next.Local stays pauses) in
    let all = made.advanced.pause paused in
    omega (arith, all, none, c.requires.some))
    made.fits made.within made.waits
    (means_of c.args.image.now c.args.start.now c.args.budget c.advance-seat.new.unit c.advance-seat.result
    made.halt.0 made.stopped.0 made.spent.0 (λ t. (made.trap t).0) (λ r. (made.asks r).0) made.pause.0)
