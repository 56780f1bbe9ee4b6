use Rattle.std.proofs.Common.{All, take}
use Rattle.xmt_base.specs.Format.{IsPrintable}
use Rattle.xmt_base.proofs.formats.is_printable.Given as goal

abbrev pub invariant-loop-item : goal.invariant-loop-item
invariant-loop-item l = All IsPrintable (take l.item-index l.text)
