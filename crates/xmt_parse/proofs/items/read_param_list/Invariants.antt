use Rattle.std.proofs.Common.{◌≡◌}
use Rattle.raw_tree.specs.Reading.{parted, read_parted}
use Rattle.raw_tree.specs.ReadingItems.{read_param}
use Rattle.xmt_parse.proofs.items.read_param_list.Given as goal

abbrev pub invariant-parts : goal.invariant-parts
invariant-parts l = parted (read_param l.source) l.turns l.all l.nest l.left ≡ read_parted (read_param l.source) l.fn.ts

abbrev pub decreases-parts : goal.decreases-parts
decreases-parts l = l.turns
