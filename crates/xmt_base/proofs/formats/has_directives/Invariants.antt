use Rattle.std.proofs.Common.{◌≡◌, drop, false}
use Rattle.xmt_base.specs.Format.{has_directives}
use Rattle.xmt_base.proofs.formats.has_directives.Given as goal

abbrev pub invariant-loop-item : goal.invariant-loop-item
invariant-loop-item l = has_directives l.behind (drop l.item-index l.text) ≡ has_directives false l.text
