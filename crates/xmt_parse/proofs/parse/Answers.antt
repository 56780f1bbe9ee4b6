use Rattle.std.proofs.Common.{List, sym}
use Rattle.raw_tree.specs.declared.tree.RawItem.{RawItem}
use Rattle.raw_tree.proofs.Program.{spelled, none_spelled}
use Rattle.xmt_parse.specs.Law.{IsSpelled}
use Rattle.xmt_parse.proofs.parse.Goals as goal

pub returns-in-Ok : goal.returns-in-Ok
returns-in-Ok c = (spelled c.args.source.now 200 c.args.tokens.now c.in-Ok.items c.in-Ok.ensures, c.end_of.ensures, sym c.in_default.ensures)

pub returns-in-Err-Syntax : goal.returns-in-Err-Syntax
returns-in-Err-Syntax c =
    let nothing = rw c.in-Err-Syntax.field-0-is at c.in-Err-Syntax.ensures in
    (sym c.in_default.ensures, (λ (all : List RawItem) (h : IsSpelled c.args.source.now c.args.tokens.now all). none_spelled c.args.source.now 200 c.args.tokens.now nothing all h.0 h.1 h.2), c.place_at.ensures)
