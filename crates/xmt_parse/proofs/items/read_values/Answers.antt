use Rattle.std.proofs.Common.{sym, [], ◌∷◌, ◌++◌, ap, ◌∙◌, arith}
use Rattle.raw_tree.specs.declared.tree.RawExpr.{RawExpr}
use Rattle.std.proofs.lemmas.Result.{err_from_is_err_and}
use Rattle.raw_tree.specs.Gives.{view}
use Rattle.raw_tree.specs.Reading.{readers}
use Rattle.raw_tree.specs.ReadingItems.{values_of}
use Rattle.xmt_parse.proofs.Turns.{values_exit, values_end, values_no_comma, values_comma_end, values_cut, values_spent, values_turn}
use Rattle.xmt_parse.proofs.items.read_values.Goals as goal

pub returns-in_err-one : goal.returns-in_err-one
returns-in_err-one c =
    let cond = (readers c.args.source.now c.args.depth).of_cond in
    let p = err_from_is_err_and c.from_residual.result c.from_residual.ensures.1 in
    values_exit cond c.args.at c.parts.turns c.parts.all c.parts.nest c.parts.left.now (values_of cond c.args.at c.args.ts.now) c.parts.invariant c.from_residual.result p.1 p.2 c.in_err-one.ensures

pub returns-in-Some : goal.returns-in-Some
returns-in-Some c =
    let cond = (readers c.args.source.now c.args.depth).of_cond in
    values_end cond c.args.at c.parts.turns c.parts.all c.parts.nest c.parts.left.now (values_of cond c.args.at c.args.ts.now) c.parts.invariant
    (view c.in_ok-one.one) c.in_ok-one.ensures c.push.new.self c.max-nest.result (c.in_ok-push.ensures.ok ∙ ap (λ (a : RawExpr). c.parts.all ++ a ∷ []) c.into_inner.ensures) (omega (arith, c.max-nest.ensures)) c.in-Some.more.now c.in-Some.ensures ∙ sym c.array_values.ensures

pub returns-in-None-behind : goal.returns-in-None-behind
returns-in-None-behind c =
    let cond = (readers c.args.source.now c.args.depth).of_cond in
    values_no_comma cond c.args.at c.parts.turns c.parts.all c.parts.nest c.parts.left.now (values_of cond c.args.at c.args.ts.now) c.parts.invariant
    (view c.in_ok-one.one) c.in_ok-one.ensures c.push.new.self c.max-nest.result (c.in_ok-push.ensures.ok ∙ ap (λ (a : RawExpr). c.parts.all ++ a ∷ []) c.into_inner.ensures) (omega (arith, c.max-nest.ensures)) c.in-None.ensures c.in-None-behind.ensures

pub returns-in-Some-behind-2 : goal.returns-in-Some-behind-2
returns-in-Some-behind-2 c =
    let cond = (readers c.args.source.now c.args.depth).of_cond in
    values_comma_end cond c.args.at c.parts.turns c.parts.all c.parts.nest c.parts.left.now (values_of cond c.args.at c.args.ts.now) c.parts.invariant
    (view c.in_ok-one.one) c.in_ok-one.ensures c.push.new.self c.max-nest.result (c.in_ok-push.ensures.ok ∙ ap (λ (a : RawExpr). c.parts.all ++ a ∷ []) c.into_inner.ensures) (omega (arith, c.max-nest.ensures)) c.in-Some-behind.more.now c.in-Some-behind-2.behind_all.now c.in-None.ensures c.in-Some-behind.ensures c.in-Some-behind-2.ensures ∙ sym c.array_values-in-Some-behind-2.ensures

pub returns-in-None-first : goal.returns-in-None-first
returns-in-None-first c =
    let cond = (readers c.args.source.now c.args.depth).of_cond in
    values_cut cond c.args.at c.parts.turns c.parts.all c.parts.nest c.parts.left.now (values_of cond c.args.at c.args.ts.now) c.parts.invariant
    (view c.in_ok-one.one) c.in_ok-one.ensures c.push.new.self c.max-nest.result (c.in_ok-push.ensures.ok ∙ ap (λ (a : RawExpr). c.parts.all ++ a ∷ []) c.into_inner.ensures) (omega (arith, c.max-nest.ensures)) c.in-Some-behind.more.now c.in-None.ensures c.in-Some-behind.ensures c.in-None-first.ensures

pub returns-then-turns-eq0 : goal.returns-then-turns-eq0
returns-then-turns-eq0 c =
    let cond = (readers c.args.source.now c.args.depth).of_cond in
    values_spent cond c.args.at c.parts.turns c.parts.all c.parts.nest c.parts.left.now (values_of cond c.args.at c.args.ts.now) c.parts.invariant
    (view c.in_ok-one.one) c.in_ok-one.ensures c.push.new.self c.max-nest.result (c.in_ok-push.ensures.ok ∙ ap (λ (a : RawExpr). c.parts.all ++ a ∷ []) c.into_inner.ensures) (omega (arith, c.max-nest.ensures)) c.in-Some-behind.more.now c.in-None.ensures c.in-Some-behind.ensures c.in-None-behind-2.ensures c.in-Some-first.ensures c.if-turns-eq0.true

pub parts-preserved : goal.parts-preserved
parts-preserved c =
    let cond = (readers c.args.source.now c.args.depth).of_cond in
    values_turn cond c.args.at c.parts.turns c.parts.all c.parts.nest c.parts.left.now (values_of cond c.args.at c.args.ts.now) c.parts.invariant
    (view c.in_ok-one.one) c.in_ok-one.ensures c.push.new.self c.max-nest.result (c.in_ok-push.ensures.ok ∙ ap (λ (a : RawExpr). c.parts.all ++ a ∷ []) c.into_inner.ensures) (omega (arith, c.max-nest.ensures)) c.in-Some-behind.more.now c.in-None.ensures c.in-Some-behind.ensures c.in-None-behind-2.ensures c.in-Some-first.ensures (omega (arith, c.if-turns-eq0.false))
