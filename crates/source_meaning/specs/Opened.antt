-- Names of the generated view of the trees. To unfold this one lets a definition by the rows of a tree compute on a tree that is written with boxes and lists.
use Rattle.source_meaning.specs.declared.tree.ExprKind.TheBlock.{shape-the_row-Expr-0, hidden-the_row-Expr-0, shape-the_row-Expr-1, hidden-the_row-Expr-1}
use Rattle.source_meaning.specs.declared.tree.StmtKind.TheBlock.{shape-the_row-Stmt-0, hidden-the_row-Stmt-0, shape-the_row-Stmt-1, hidden-the_row-Stmt-1}
use denote.Hole.Carrier.{hidden}

unfoldable pub opened : Unit {0}
unfolding
    shape-the_row-Expr-0 hidden-the_row-Expr-0 shape-the_row-Expr-1 hidden-the_row-Expr-1
    shape-the_row-Stmt-0 hidden-the_row-Stmt-0 shape-the_row-Stmt-1 hidden-the_row-Stmt-1
    hidden
opened = tt
