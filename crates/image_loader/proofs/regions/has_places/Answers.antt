use Rattle.std.proofs.Common.{refl, arith}
use Rattle.image_loader.specs.Blocks.{PlaceHolds}
use Rattle.image_loader.proofs.Elements.{not_true, place_more, place_failed, place_past}
use Rattle.image_loader.proofs.regions.has_places.Goals as goal

pub returns-then-not-place_holds : goal.returns-then-not-place_holds
returns-then-not-place_holds c = (λ e. absurd cc, λ h. absurd (place_failed (PlaceHolds c.args.image.now) c.args.code.now c.loop-at.at c.loop-at-test.true (not_true c.if-not-place_holds.ensures) (h c.loop-at.at)))

pub loop-at-preserved : goal.loop-at-preserved
loop-at-preserved c = place_more (PlaceHolds c.args.image.now) c.args.code.now 0 c.loop-at.at c.loop-at-test.true c.loop-at.invariant (c.if-not-place_holds.ensures.0 refl)

pub returns : goal.returns
returns c = (λ _. place_past (PlaceHolds c.args.image.now) c.args.code.now c.loop-at.at c.loop-at-test.false (λ k lt. c.loop-at.invariant k (omega arith) lt), λ _. refl)
