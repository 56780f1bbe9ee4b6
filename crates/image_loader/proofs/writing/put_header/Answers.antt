use Rattle.std.proofs.Common.{◌++◌}
use Rattle.image_loader.specs.Layout.{mark, number, counts, openings}
use Rattle.image_loader.proofs.Pieces.{three}
use Rattle.image_loader.proofs.writing.put_header.Goals as goal

pub returns : goal.returns
returns c = record {
  written = three c.args.out.now.items (mark ++ number 1) (counts c.args.image.now) (openings c.args.image.now) c.put_mark.new.out.items c.put_counts.new.out.items c.put_openings.new.out.items c.in_ok-put_mark.ensures c.in_ok-put_counts.ensures c.in_ok-put_openings.ensures.written;
  fits = c.in_ok-put_openings.ensures.fits;
}
