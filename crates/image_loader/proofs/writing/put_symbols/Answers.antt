use Rattle.std.proofs.lemmas.List.Elements.{All-more}
use Rattle.image_loader.specs.Layout.{symbol, SymbolFits}
use Rattle.image_loader.proofs.Pieces.{piece}
use Rattle.image_loader.proofs.writing.put_symbols.Goals as goal

pub loop-item-preserved : goal.loop-item-preserved
loop-item-preserved c = record {
  written = piece symbol c.args.items.now c.loop-item.item-index c.item-item.result c.args.out.now.items c.loop-item.out.items c.put_symbol.new.out.items c.loop-item-test.true c.item-item.is c.loop-item.invariant.written c.in_ok-put_symbol.ensures.written;
  fits = All-more SymbolFits c.args.items.now c.loop-item.item-index c.item-item.result c.loop-item-test.true c.loop-item.invariant.fits (rw (← c.item-item.is) c.in_ok-put_symbol.ensures.fits);
}
