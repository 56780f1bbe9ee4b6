use Rattle.std.proofs.Common.{rules, ◌≡◌, subst}
use Rattle.xmt_isa.specs.declared.unit.Start.{Start}
use Rattle.xmt_isa.specs.Machine.{broadcast}
use Rattle.xmt_isa.specs.Fits.{StartFits}
use Rattle.xmt_isa.proofs.Broadcast.{broadcast_fits}
use Rattle.xmt_isa.proofs.unit.Unit.start.Goals as goal

pub returns-clause-fits : goal.returns-clause-fits
returns-clause-fits c =
    λ image before fits is.
    let made : Start = record {
      at = c.args.ask.now.at;
      low = c.args.ask.now.low;
      count = c.count_between.result;
      depth = c.args.self.now.depth;
      regs = c.masked.result;
      frame = c.in_ok-from_slice.field-0;
    } in
    let same : broadcast c.args.self.now c.args.ask.now ≡ made = search rules in
    subst (λ (start : Start). StartFits image start) same (broadcast_fits image before c.args.self.now c.args.ask.now c.requires.spawn fits is)
