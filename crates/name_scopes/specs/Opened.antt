-- Names of the generated view of the raw trees. To unfold this one lets a definition by the rows of a tree compute on a tree that is written with boxes and lists.
use Rattle.raw_tree.specs.declared.tree.RawExprKind.TheBlock.{shape-the_row-RawExpr-0, hidden-the_row-RawExpr-0, shape-the_row-RawExpr-1, hidden-the_row-RawExpr-1}
use Rattle.raw_tree.specs.declared.tree.RawStmtKind.TheBlock.{shape-the_row-RawStmt-0, hidden-the_row-RawStmt-0, shape-the_row-RawStmt-1, hidden-the_row-RawStmt-1}
use denote.Hole.Carrier.{hidden}

unfoldable pub opened : Unit {0}
unfolding
    shape-the_row-RawExpr-0 hidden-the_row-RawExpr-0 shape-the_row-RawExpr-1 hidden-the_row-RawExpr-1
    shape-the_row-RawStmt-0 hidden-the_row-RawStmt-0 shape-the_row-RawStmt-1 hidden-the_row-RawStmt-1
    hidden
opened = tt
