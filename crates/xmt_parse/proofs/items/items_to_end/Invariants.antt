use Rattle.std.proofs.Common.{◌≡◌, [], length}
use Rattle.raw_tree.specs.ReadingItems.{items, read_item}
use Rattle.xmt_parse.proofs.items.items_to_end.Given as goal

abbrev pub invariant-parts : goal.invariant-parts
invariant-parts l = items (read_item l.source l.depth) l.turns l.all l.left ≡ items (read_item l.source l.depth) (length l.fn.ts) [] l.fn.ts

abbrev pub decreases-parts : goal.decreases-parts
decreases-parts l = l.turns
