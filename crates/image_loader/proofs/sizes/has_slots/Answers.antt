use Rattle.std.proofs.Common.{◌≤◌}
use Rattle.std.proofs.lemmas.List.Elements.{All-more}
use Rattle.image_loader.proofs.Elements.{all_passed, no_function}
use Rattle.image_loader.proofs.sizes.has_slots.Goals as goal

pub loop-item-preserved : goal.loop-item-preserved
loop-item-preserved c = All-more (λ f. f.slots ≤ 512) c.args.functions.now c.loop-item.item-index no_function c.loop-item-test.true c.loop-item.invariant c.if-item-gt512.false

pub returns : goal.returns
returns c = all_passed (λ f. f.slots ≤ 512) c.args.functions.now c.loop-item.item-index c.loop-item-test.false c.loop-item.invariant
