use Rattle.std.proofs.Common.{All, take}
use Rattle.std.specs.Prelude.{IfSome}
use Rattle.xmt_isa.specs.Operation.{operation_of}
use Rattle.xmt_isa.specs.Targets.{TargetFits}
use Rattle.image_loader.proofs.targets.has_each_target.Given as goal

abbrev pub invariant-loop-item : goal.invariant-loop-item
invariant-loop-item l = All (λ i. IfSome (operation_of i) (TargetFits l.image i.imm)) (take l.item-index l.code)
