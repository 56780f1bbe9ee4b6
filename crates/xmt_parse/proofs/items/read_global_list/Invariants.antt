use Rattle.std.proofs.Common.{◌≡◌}
use Rattle.raw_tree.specs.Reading.{parted, read_parted, readers}
use Rattle.raw_tree.specs.ReadingItems.{read_global}
use Rattle.xmt_parse.proofs.items.read_global_list.Given as goal

abbrev pub invariant-parts : goal.invariant-parts
invariant-parts l = parted (read_global l.source ((readers l.source l.depth).of_cond)) l.turns l.all l.nest l.left ≡ read_parted (read_global l.source ((readers l.source l.depth).of_cond)) l.fn.ts

abbrev pub decreases-parts : goal.decreases-parts
decreases-parts l = l.turns
