use Rattle.std.proofs.Common.{arith}
use Rattle.std.proofs.lemmas.Result.{err_from_is_err_and}
use Rattle.raw_tree.specs.Gives.{view}
use Rattle.raw_tree.specs.Reading.{read_parted, readers}
use Rattle.raw_tree.specs.ReadingItems.{read_global}
use Rattle.raw_tree.proofs.Loops.{parts_exit, parts_end, parts_spent, parts_turn}
use Rattle.xmt_parse.proofs.items.read_global_list.Goals as goal

pub returns-in_err-one : goal.returns-in_err-one
returns-in_err-one c =
    let one = read_global c.args.source.now (readers c.args.source.now c.args.depth).of_cond in
    let p = err_from_is_err_and c.from_residual.result c.from_residual.ensures.1 in
    parts_exit one c.parts.turns c.parts.all c.parts.nest c.parts.left.now (read_parted one c.args.ts.now) c.from_residual.result p.1 p.2 c.parts.invariant c.in_err-one.ensures

pub returns-in-None : goal.returns-in-None
returns-in-None c =
    let one = read_global c.args.source.now (readers c.args.source.now c.args.depth).of_cond in
    parts_end one c.parts.turns c.parts.all c.parts.nest c.parts.left.now (read_parted one c.args.ts.now) (view c.in_ok-one.one) c.push.new.self c.max-nest.result
    c.parts.invariant c.in_ok-one.ensures c.in-None.ensures c.in_ok-push.ensures.ok (omega (arith, c.max-nest.ensures))

pub returns-then-turns-eq0 : goal.returns-then-turns-eq0
returns-then-turns-eq0 c =
    let one = read_global c.args.source.now (readers c.args.source.now c.args.depth).of_cond in
    parts_spent one c.parts.turns c.parts.all c.parts.nest c.parts.left.now c.in-Some.more.now (read_parted one c.args.ts.now) (view c.in_ok-one.one)
    c.parts.invariant c.if-turns-eq0.true c.in_ok-one.ensures c.in-Some.ensures

pub parts-preserved : goal.parts-preserved
parts-preserved c =
    let one = read_global c.args.source.now (readers c.args.source.now c.args.depth).of_cond in
    parts_turn one c.parts.turns c.parts.all c.parts.nest c.parts.left.now c.in-Some.more.now (read_parted one c.args.ts.now) (view c.in_ok-one.one) c.push.new.self c.max-nest.result
    c.parts.invariant (omega (arith, c.if-turns-eq0.false)) c.in_ok-one.ensures c.in-Some.ensures c.in_ok-push.ensures.ok (omega (arith, c.max-nest.ensures))
