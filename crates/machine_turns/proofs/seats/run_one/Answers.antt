use Rattle.std.proofs.Common.{◌≡◌, ap, ◌∙◌, inl, inr, arith}
use Rattle.xmt_isa.specs.declared.unit.Unit.{Unit}
use Rattle.xmt_isa.specs.declared.unit.Next.TheVariants as next
use Rattle.xmt_isa.specs.Step.{is_due, local_of}
use Rattle.unit_steps.specs.Steps.{begun, DoesNext}
use Rattle.machine_turns.specs.Seats.{free}
use Rattle.machine_turns.proofs.Asked.{means_of, one_alone, begun_same, does_same, not_new}
use Rattle.machine_turns.proofs.Frees.{local_stepped}
use Rattle.machine_turns.proofs.seats.run_one.Goals as goal

pub returns : goal.returns
returns c =
    let made = c.advance-seat.ensures in
    let u : Unit = c.args.seat.now.unit in
    let old : begun c.args.image.now u ≡ u = begun_same c.args.image.now u c.requires.may.tells.begun in
    let pauses : DoesNext c.args.image.now c.args.start.now c.args.budget u next.Local = rw c.requires.pauses at c.requires.may.tells.means in
    let same : free c.advance-seat.new.unit ≡ local_of c.args.image.now c.args.start.now u =
    elim (one_alone c.args.image.now c.args.start.now c.args.budget made.advanced.count _ _ made.advanced.few made.advanced.alone) [
      | inl stays ↦
          (let paused = made.pause.1 (does_same c.args.image.now c.args.start.now c.args.budget u c.advance-seat.new.unit next.Local (stays.0 ∙ old) pauses) in
          let one : made.advanced.count ≡ 1 = made.advanced.pause paused in
          absurd (omega (arith, one, stays.1)))
      | inr goes ↦ goes ∙ ap (λ (w : Unit). local_of c.args.image.now c.args.start.now w) old
    ] in
    record {
      same = same;
      tells = record {
        begun = not_new c.advance-seat.new.unit (ap (λ (w : Unit). is_due w.state) same ∙ (local_stepped c.args.image.now c.args.start.now u pauses.next).0.due);
        fits = made.fits;
        within = made.within;
        waits = made.waits;
        means = means_of c.args.image.now c.args.start.now c.args.budget c.advance-seat.new.unit c.advance-seat.result
            made.halt.0 made.stopped.0 made.spent.0 (λ t. (made.trap t).0) (λ r. (made.asks r).0) made.pause.0;
      };
    }
