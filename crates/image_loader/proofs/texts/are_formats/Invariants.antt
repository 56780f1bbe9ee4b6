use Rattle.std.proofs.Common.{All, take}
use Rattle.xmt_base.specs.Format.{IsFormat}
use Rattle.image_loader.proofs.texts.are_formats.Given as goal

abbrev pub invariant-loop-item : goal.invariant-loop-item
invariant-loop-item l = All IsFormat (take l.item-index l.texts)
