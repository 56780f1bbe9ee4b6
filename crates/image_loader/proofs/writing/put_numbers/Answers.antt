use Rattle.std.proofs.Common.{arith}
use Rattle.std.proofs.lemmas.List.Elements.{All-more}
use Rattle.image_loader.specs.Layout.{number, IsWord}
use Rattle.image_loader.proofs.Pieces.{piece_at}
use Rattle.image_loader.proofs.writing.put_numbers.Goals as goal

pub loop-item-preserved : goal.loop-item-preserved
loop-item-preserved c = record {
  written = piece_at number c.args.items.now c.loop-item.item-index 0 c.args.out.now.items c.loop-item.out.items c.put_number.new.out.items c.loop-item-test.true c.loop-item.invariant.written c.in_ok-put_number.ensures;
  fits = All-more IsWord c.args.items.now c.loop-item.item-index 0 c.loop-item-test.true c.loop-item.invariant.fits (omega (arith, c.type_inv.items c.loop-item.item-index));
}
