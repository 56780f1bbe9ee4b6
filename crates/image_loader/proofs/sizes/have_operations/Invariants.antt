use Rattle.std.proofs.Common.{◌≤◌, All, take}
use Rattle.image_loader.proofs.sizes.have_operations.Given as goal

abbrev pub invariant-loop-item : goal.invariant-loop-item
invariant-loop-item l = All (λ i. (1 ≤ i.op) × (i.op ≤ 45)) (take l.item-index l.code)
