use Rattle.std.proofs.Common.{refl, arith}
use Rattle.image_loader.specs.Ranges.{RangeFits}
use Rattle.image_loader.proofs.Elements.{range_more}
use Rattle.image_loader.proofs.targets.has_range.Goals as goal

pub loop-at-preserved : goal.loop-at-preserved
loop-at-preserved c = range_more (RangeFits c.args.start c.args.end c.args.slots) c.args.code.now c.args.start c.loop-at.at (omega (arith, c.loop-at-test.true, c.requires)) c.loop-at.invariant (c.if-not-range_fits.ensures.0 refl)
