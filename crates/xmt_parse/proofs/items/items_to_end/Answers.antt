use Rattle.std.proofs.Common.{[], length, arith}
use Rattle.std.proofs.lemmas.Result.{err_from_is_err_and}
use Rattle.raw_tree.specs.Gives.{view}
use Rattle.raw_tree.specs.ReadingItems.{items, read_item}
use Rattle.xmt_parse.proofs.Turns.{items_end, items_exit, items_spent, items_turn}
use Rattle.xmt_parse.proofs.items.items_to_end.Goals as goal

pub returns-in-None : goal.returns-in-None
returns-in-None c =
    let one = read_item c.args.source.now c.args.depth in
    items_end one c.parts.all c.parts.turns c.parts.left.now (items one (length c.args.ts.now) [] c.args.ts.now) c.parts.invariant c.in-None.ensures

pub returns-then-turns-eq0 : goal.returns-then-turns-eq0
returns-then-turns-eq0 c =
    let one = read_item c.args.source.now c.args.depth in
    items_spent one c.parts.all c.parts.turns c.parts.left.now (items one (length c.args.ts.now) [] c.args.ts.now) c.parts.invariant c.in-Some.ensures c.if-turns-eq0.true

pub returns-in_err-one-in-Some : goal.returns-in_err-one-in-Some
returns-in_err-one-in-Some c =
    let one = read_item c.args.source.now c.args.depth in
    let p = err_from_is_err_and c.from_residual.result c.from_residual.ensures.1 in
    items_exit one c.parts.all c.parts.turns c.parts.left.now (items one (length c.args.ts.now) [] c.args.ts.now) c.parts.invariant c.from_residual.result p.1 p.2 c.in-Some.ensures c.in_err-one-in-Some.ensures

pub parts-preserved : goal.parts-preserved
parts-preserved c =
    let one = read_item c.args.source.now c.args.depth in
    items_turn one c.parts.all c.parts.turns c.parts.left.now (items one (length c.args.ts.now) [] c.args.ts.now) c.parts.invariant (view c.in_ok-one-in-Some.one) c.push.new.self
    c.in-Some.ensures (omega (arith, c.if-turns-eq0.false)) c.in_ok-one-in-Some.ensures c.in_ok-push-in-Some.ensures.ok
