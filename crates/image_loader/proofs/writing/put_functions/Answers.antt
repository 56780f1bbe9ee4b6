use Rattle.std.proofs.lemmas.List.Elements.{All-more}
use Rattle.image_loader.specs.Layout.{function, FunctionFits}
use Rattle.image_loader.proofs.Pieces.{piece_at}
use Rattle.image_loader.proofs.Elements.{no_function}
use Rattle.image_loader.proofs.writing.put_functions.Goals as goal

pub loop-item-preserved : goal.loop-item-preserved
loop-item-preserved c = record {
  written = piece_at function c.args.items.now c.loop-item.item-index no_function c.args.out.now.items c.loop-item.out.items c.put_function.new.out.items c.loop-item-test.true c.loop-item.invariant.written c.in_ok-put_function.ensures.written;
  fits = All-more FunctionFits c.args.items.now c.loop-item.item-index no_function c.loop-item-test.true c.loop-item.invariant.fits c.in_ok-put_function.ensures.fits;
}
