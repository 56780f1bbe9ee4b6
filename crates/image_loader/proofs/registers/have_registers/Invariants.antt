use Rattle.xmt_isa.specs.Operation.{operation_of}
use Rattle.std.proofs.Common.{All, take}
use Rattle.std.specs.Prelude.{IfSome}
use Rattle.xmt_isa.specs.Registers.{RegistersFit}
use Rattle.image_loader.proofs.registers.have_registers.Given as goal

abbrev pub invariant-loop-item : goal.invariant-loop-item
invariant-loop-item l = All (λ i. IfSome (operation_of i) (RegistersFit i)) (take l.item-index l.code)
