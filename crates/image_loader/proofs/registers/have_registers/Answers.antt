use Rattle.xmt_isa.specs.Operation.{operation_of}
use Rattle.std.proofs.Common.{refl}
use Rattle.std.specs.Prelude.{IfSome}
use Rattle.std.proofs.lemmas.List.Elements.{All-more}
use Rattle.xmt_isa.specs.Registers.{RegistersFit}
use Rattle.image_loader.proofs.Elements.{all_passed, one_failed, not_true, no_instruction}
use Rattle.image_loader.proofs.registers.have_registers.Goals as goal

pub returns-then-not-instruction_fits : goal.returns-then-not-instruction_fits
returns-then-not-instruction_fits c = one_failed (λ i. IfSome (operation_of i) (RegistersFit i)) c.args.code.now c.loop-item.item-index no_instruction c.loop-item-test.true (not_true c.if-not-instruction_fits.ensures)

pub loop-item-preserved : goal.loop-item-preserved
loop-item-preserved c = All-more (λ i. IfSome (operation_of i) (RegistersFit i)) c.args.code.now c.loop-item.item-index no_instruction c.loop-item-test.true c.loop-item.invariant (c.if-not-instruction_fits.ensures.0 refl)

pub returns : goal.returns
returns c = all_passed (λ i. IfSome (operation_of i) (RegistersFit i)) c.args.code.now c.loop-item.item-index c.loop-item-test.false c.loop-item.invariant
