use Rattle.std.proofs.Common.{refl}
use Rattle.std.proofs.lemmas.List.Elements.{All-more}
use Rattle.xmt_base.specs.Format.{IsFormat}
use Rattle.image_loader.proofs.Elements.{all_passed}
use Rattle.image_loader.proofs.texts.are_formats.Goals as goal

pub loop-item-preserved : goal.loop-item-preserved
loop-item-preserved c = All-more IsFormat c.args.texts.now c.loop-item.item-index c.item-item.result c.loop-item-test.true c.loop-item.invariant (rw (← c.item-item.is, ← c.as_slice.ensures) (c.if-not-is_format.ensures.0 refl))

pub returns : goal.returns
returns c = all_passed IsFormat c.args.texts.now c.loop-item.item-index c.loop-item-test.false c.loop-item.invariant
