use Rattle.std.proofs.Common.{◌≡◌}
use Rattle.raw_tree.specs.Reading.{readers}
use Rattle.raw_tree.specs.ReadingItems.{values, values_of}
use Rattle.xmt_parse.proofs.items.read_values.Given as goal

abbrev pub invariant-parts : goal.invariant-parts
invariant-parts l = values (readers l.source l.depth).of_cond l.turns l.at l.all l.nest l.left ≡ values_of (readers l.source l.depth).of_cond l.at l.fn.ts

abbrev pub decreases-parts : goal.decreases-parts
decreases-parts l = l.turns
