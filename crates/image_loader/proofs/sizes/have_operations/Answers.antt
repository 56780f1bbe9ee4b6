use Rattle.std.proofs.Common.{◌≤◌}
use Rattle.std.proofs.lemmas.List.Elements.{All-more}
use Rattle.image_loader.proofs.Elements.{all_passed, no_instruction}
use Rattle.image_loader.proofs.sizes.have_operations.Goals as goal

pub loop-item-preserved : goal.loop-item-preserved
loop-item-preserved c = All-more (λ i. (1 ≤ i.op) × (i.op ≤ 45)) c.args.code.now c.loop-item.item-index no_instruction c.loop-item-test.true c.loop-item.invariant (c.if-item-lt1.false, c.if-item-gt45.false)

pub returns : goal.returns
returns c = all_passed (λ i. (1 ≤ i.op) × (i.op ≤ 45)) c.args.code.now c.loop-item.item-index c.loop-item-test.false c.loop-item.invariant
