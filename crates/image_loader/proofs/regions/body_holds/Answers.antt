use Rattle.std.proofs.Common.{refl, arith}
use Rattle.image_loader.specs.Blocks.{InnerHolds}
use Rattle.image_loader.proofs.Elements.{place_more}
use Rattle.image_loader.proofs.regions.body_holds.Goals as goal

pub loop-at-preserved : goal.loop-at-preserved
loop-at-preserved c = place_more (λ k. InnerHolds c.args.image.now) c.args.code.now c.args.start c.loop-at.at (omega (arith, c.loop-at-test.true, c.requires)) c.loop-at.invariant (c.if-not-inner_holds.ensures.0 refl)
