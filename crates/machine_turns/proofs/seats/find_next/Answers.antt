use Rattle.std.proofs.Common.{◌≡◌, ap, ◌∙◌}
use Rattle.xmt_isa.specs.declared.unit.Unit.{Unit}
use Rattle.unit_steps.specs.Steps.{is_new_master, begun}
use Rattle.machine_turns.specs.Seats.{free}
use Rattle.machine_turns.proofs.Asked.{means_of, none_alone, begun_isnt_new}
use Rattle.machine_turns.proofs.seats.find_next.Goals as goal

pub returns : goal.returns
returns c =
    let made = c.advance-seat.ensures in
    let same : free c.advance-seat.new.unit ≡ begun c.args.image.now c.args.seat.now.unit =
    none_alone c.args.image.now c.args.start.now c.args.budget made.advanced.count _ _ made.advanced.few made.advanced.alone in
    record {
      same = same;
      tells = record {
        begun = ap (λ (u : Unit). is_new_master u) same ∙ begun_isnt_new c.args.image.now c.args.seat.now.unit;
        fits = made.fits;
        within = made.within;
        waits = made.waits;
        means = means_of c.args.image.now c.args.start.now c.args.budget c.advance-seat.new.unit c.advance-seat.result
            made.halt.0 made.stopped.0 made.spent.0 (λ t. (made.trap t).0) (λ r. (made.asks r).0) made.pause.0;
      };
    }
