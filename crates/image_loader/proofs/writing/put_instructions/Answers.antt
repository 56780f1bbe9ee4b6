use Rattle.std.proofs.lemmas.List.Elements.{All-more}
use Rattle.image_loader.specs.Layout.{instruction, InstructionFits}
use Rattle.image_loader.proofs.Pieces.{piece_at}
use Rattle.image_loader.proofs.Elements.{no_instruction}
use Rattle.image_loader.proofs.writing.put_instructions.Goals as goal

pub loop-item-preserved : goal.loop-item-preserved
loop-item-preserved c = record {
  written = piece_at instruction c.args.items.now c.loop-item.item-index no_instruction c.args.out.now.items c.loop-item.out.items c.put_instruction.new.out.items c.loop-item-test.true c.loop-item.invariant.written c.in_ok-put_instruction.ensures.written;
  fits = All-more InstructionFits c.args.items.now c.loop-item.item-index no_instruction c.loop-item-test.true c.loop-item.invariant.fits c.in_ok-put_instruction.ensures.fits;
}
