use Rattle.std.proofs.Common.{◌∙◌, ◌++◌, ◌<◌, ap, sym, subst, List, length, append-nil, arith}
use Rattle.std.proofs.lemmas.List.{at_drop_all}
use Rattle.std.proofs.lemmas.Result.{on_ok_weaker}
use Rattle.source_meaning.specs.declared.tree.Spot.{Spot}
use Rattle.source_meaning.specs.declared.tree.Expr.{Expr}
use Rattle.quad_code.specs.Expressions.{operand_of}
use Rattle.lowering.specs.declared.code.Placed.{Placed}
use Rattle.lowering.specs.Emitted.{placed, Appends, spot_code, tested_code, side_code, values_code, call_code}
use Rattle.lowering.proofs.Appends.{of_kind, renamed, read, unary, tested, side, element, binary, assign, update, step, both, either, choose, call, values_turn}
use Rattle.lowering.proofs.expressions.+emit.Goals as goal

pub emit_binary-returns-in_ok-emit_expression-in-Binary-2 : goal.emit_binary-returns-in_ok-emit_expression-in-Binary-2
emit_binary-returns-in_ok-emit_expression-in-Binary-2 t c =
    let globals = c.args.tables.now.globals.now in
    let body = c.args.tables.now.body.now in
    let r = c.args.r in
    let line = c.args.e.now.at.line in
    let c0 : List Placed = c.args.code.now.items in
    let c1 : List Placed = c.emit_expression.new.code.items in
    let c2 : List Placed = c.emit_expression-in-Binary.new.code.items in
    let c3 : List Placed = c.put.new.code.items in
    let second = c.in_ok-second-in-Binary.second in
    on_ok_weaker _ (λ h. of_kind globals body r line _ _ c0 c3 c.in-Binary.is
    (binary globals body r second line c.in-Binary.op c.in-Binary.a c.in-Binary.b _ _ c0 c1 c2 c3 c.in_ok-second-in-Binary.ensures
    (renamed globals body r _ _ c0 c1 c.get-a.ensures c.in_ok-emit_expression-in-Binary.ensures)
    (renamed globals body second _ _ c1 c2 c.get-b.ensures c.in_ok-emit_expression-in-Binary-2.ensures)
    (c.operand.ensures ∙ ap (λ (e : Expr). operand_of r e.kind) c.get-a.ensures)
    (c.operand-in-Binary.ensures ∙ ap (λ (e : Expr). operand_of second e.kind) c.get-b.ensures)
    h)) c.put.ensures

pub emit_call-returns-in_ok-emit_values-in-Call : goal.emit_call-returns-in_ok-emit_values-in-Call
emit_call-returns-in_ok-emit_values-in-Call t c =
    let globals = c.args.tables.now.globals.now in
    let body = c.args.tables.now.body.now in
    let r = c.args.r in
    let line = c.args.e.now.at.line in
    let c0 : List Placed = c.args.code.now.items in
    let c1 : List Placed = c.emit_values.new.code.items in
    let c2 : List Placed = c.put_call.new.code.items in
    on_ok_weaker _ (λ h. of_kind globals body r line _ _ c0 c2 c.in-Call.is
    (call globals body r line c.in-Call.function c.in-Call.values c0 c1 c2
    (subst (λ (values : List Expr). Appends (values_code globals body r values) c0 c1) c.as_slice-values.ensures c.in_ok-emit_values-in-Call.ensures)
    (subst (λ (values : List Expr). Appends (call_code line r c.in-Call.function values) c1 c2) c.as_slice-values.ensures h))) c.put_call.ensures

pub emit_assign-returns-in_ok-emit_expression-in-Assign : goal.emit_assign-returns-in_ok-emit_expression-in-Assign
emit_assign-returns-in_ok-emit_expression-in-Assign t c =
    let globals = c.args.tables.now.globals.now in
    let body = c.args.tables.now.body.now in
    let r = c.args.r in
    let line = c.args.e.now.at.line in
    let c0 : List Placed = c.args.code.now.items in
    let c1 : List Placed = c.emit_spot.new.code.items in
    let c2 : List Placed = c.emit_expression.new.code.items in
    let c3 : List Placed = c.put_assigned.new.code.items in
    let value = c.in_ok-free-in-Assign.free in
    on_ok_weaker _ (λ h. of_kind globals body r line _ _ c0 c3 c.in-Assign.is
    (assign globals body r value line c.in-Assign.p c.in-Assign.e _ c0 c1 c2 c3 c.in_ok-free-in-Assign.ensures
    c.in_ok-emit_spot-in-Assign.ensures
    (renamed globals body value _ _ c1 c2 c.get-e.ensures c.in_ok-emit_expression-in-Assign.ensures)
    (c.operand.ensures ∙ ap (λ (e : Expr). operand_of value e.kind) c.get-e.ensures)
    h)) c.put_assigned.ensures

pub emit_update-returns-in_ok-emit_expression-in-Update : goal.emit_update-returns-in_ok-emit_expression-in-Update
emit_update-returns-in_ok-emit_expression-in-Update t c =
    let globals = c.args.tables.now.globals.now in
    let body = c.args.tables.now.body.now in
    let r = c.args.r in
    let line = c.args.e.now.at.line in
    let c0 : List Placed = c.args.code.now.items in
    let c1 : List Placed = c.emit_spot.new.code.items in
    let c2 : List Placed = c.put_read.new.code.items in
    let c3 : List Placed = c.emit_expression.new.code.items in
    let c4 : List Placed = c.put_updated.new.code.items in
    let old = c.in_ok-old-in-Update.old in
    let value = c.in_ok-value-in-Update.value in
    on_ok_weaker _ (λ h. of_kind globals body r line _ _ c0 c4 c.in-Update.is
    (update globals body r old value line c.in-Update.op c.in-Update.p c.in-Update.e _ c0 c1 c2 c3 c4 c.in_ok-old-in-Update.ensures.register c.in_ok-value-in-Update.ensures
    c.in_ok-emit_spot-in-Update.ensures c.in_ok-old-in-Update.ensures.code
    (renamed globals body value _ _ c2 c3 c.get-e.ensures c.in_ok-emit_expression-in-Update.ensures)
    (c.operand.ensures ∙ ap (λ (e : Expr). operand_of value e.kind) c.get-e.ensures)
    h)) c.put_updated.ensures

pub emit_step-returns-in_ok-emit_spot-in-Step : goal.emit_step-returns-in_ok-emit_spot-in-Step
emit_step-returns-in_ok-emit_spot-in-Step t c =
    let globals = c.args.tables.now.globals.now in
    let body = c.args.tables.now.body.now in
    let r = c.args.r in
    let line = c.args.e.now.at.line in
    let c0 : List Placed = c.args.code.now.items in
    let c1 : List Placed = c.emit_spot.new.code.items in
    let c2 : List Placed = c.put_stepped.new.code.items in
    on_ok_weaker _ (λ h. of_kind globals body r line _ _ c0 c2 c.in-Step.is
    (step globals body r line c.in-Step.spot c.in-Step.up c.in-Step.after c0 c1 c2 c.in_ok-emit_spot-in-Step.ensures h)) c.put_stepped.ensures

pub emit_both-returns-in_ok-put-in-Both : goal.emit_both-returns-in_ok-put-in-Both
emit_both-returns-in_ok-put-in-Both t c =
    let globals = c.args.tables.now.globals.now in
    let body = c.args.tables.now.body.now in
    let r = c.args.r in
    let line = c.args.e.now.at.line in
    let c0 : List Placed = c.args.code.now.items in
    let c1 : List Placed = c.emit_expression.new.code.items in
    let c2 : List Placed = c.reserve.new.code.items in
    let c3 : List Placed = c.emit_tested.new.code.items in
    let c4 : List Placed = c.reserve-in-Both.new.code.items in
    let c5 : List Placed = c.put.new.code.items in
    let c6 : List Placed = c.close_choice.new.code.items in
    on_ok_weaker _ (λ h. of_kind globals body r line _ _ c0 c6 c.in-Both.is
    (both globals body r line c.in-Both.a c.in-Both.b _ c0 c1 c2 c3 c4 c5 c6 _ _ _ _
    (renamed globals body r _ _ c0 c1 c.get-a.ensures c.in_ok-emit_expression-in-Both.ensures)
    c.in_ok-skip-in-Both.ensures.place c.in_ok-skip-in-Both.ensures.code
    (subst (λ (e : Expr). Appends (tested_code globals body r line e) c2 c3) c.get-b.ensures c.in_ok-emit_tested-in-Both.ensures)
    c.in_ok-jump-in-Both.ensures.place c.in_ok-jump-in-Both.ensures.code
    c.in_ok-put-in-Both.ensures
    (c.operand.ensures ∙ ap (λ (e : Expr). operand_of r e.kind) c.get-a.ensures)
    h)) c.close_choice.ensures

pub emit_either-returns-in_ok-put-in-Either : goal.emit_either-returns-in_ok-put-in-Either
emit_either-returns-in_ok-put-in-Either t c =
    let globals = c.args.tables.now.globals.now in
    let body = c.args.tables.now.body.now in
    let r = c.args.r in
    let line = c.args.e.now.at.line in
    let c0 : List Placed = c.args.code.now.items in
    let c1 : List Placed = c.emit_expression.new.code.items in
    let c2 : List Placed = c.reserve.new.code.items in
    let c3 : List Placed = c.emit_tested.new.code.items in
    let c4 : List Placed = c.reserve-in-Either.new.code.items in
    let c5 : List Placed = c.put.new.code.items in
    let c6 : List Placed = c.close_choice.new.code.items in
    on_ok_weaker _ (λ h. of_kind globals body r line _ _ c0 c6 c.in-Either.is
    (either globals body r line c.in-Either.a c.in-Either.b _ c0 c1 c2 c3 c4 c5 c6 _ _ _ _
    (renamed globals body r _ _ c0 c1 c.get-a.ensures c.in_ok-emit_expression-in-Either.ensures)
    c.in_ok-skip-in-Either.ensures.place c.in_ok-skip-in-Either.ensures.code
    (subst (λ (e : Expr). Appends (tested_code globals body r line e) c2 c3) c.get-b.ensures c.in_ok-emit_tested-in-Either.ensures)
    c.in_ok-jump-in-Either.ensures.place c.in_ok-jump-in-Either.ensures.code
    c.in_ok-put-in-Either.ensures
    (c.operand.ensures ∙ ap (λ (e : Expr). operand_of r e.kind) c.get-a.ensures)
    h)) c.close_choice.ensures

pub emit_choose-returns-in_ok-emit_side-in-Choose-2 : goal.emit_choose-returns-in_ok-emit_side-in-Choose-2
emit_choose-returns-in_ok-emit_side-in-Choose-2 t c =
    let globals = c.args.tables.now.globals.now in
    let body = c.args.tables.now.body.now in
    let r = c.args.r in
    let line = c.args.e.now.at.line in
    let c0 : List Placed = c.args.code.now.items in
    let c1 : List Placed = c.emit_expression.new.code.items in
    let c2 : List Placed = c.reserve.new.code.items in
    let c3 : List Placed = c.emit_side.new.code.items in
    let c4 : List Placed = c.reserve-in-Choose.new.code.items in
    let c5 : List Placed = c.emit_side-in-Choose.new.code.items in
    let c6 : List Placed = c.close_choice.new.code.items in
    on_ok_weaker _ (λ h. of_kind globals body r line _ _ c0 c6 c.in-Choose.is
    (choose globals body r line c.in-Choose.test c.in-Choose.a c.in-Choose.b _ c0 c1 c2 c3 c4 c5 c6 _ _ _ _
    (renamed globals body r _ _ c0 c1 c.get-test.ensures c.in_ok-emit_expression-in-Choose.ensures)
    c.in_ok-skip-in-Choose.ensures.place c.in_ok-skip-in-Choose.ensures.code
    (subst (λ (e : Expr). Appends (side_code globals body r line e) c2 c3) c.get.ensures c.in_ok-emit_side-in-Choose.ensures)
    c.in_ok-jump-in-Choose.ensures.place c.in_ok-jump-in-Choose.ensures.code
    (subst (λ (e : Expr). Appends (side_code globals body r line e) c4 c5) c.get-in-Choose.ensures c.in_ok-emit_side-in-Choose-2.ensures)
    (c.operand.ensures ∙ ap (λ (e : Expr). operand_of r e.kind) c.get-test.ensures)
    h)) c.close_choice.ensures

pub emit_tested-returns : goal.emit_tested-returns
emit_tested-returns t c =
    let globals = c.args.tables.now.globals.now in
    let body = c.args.tables.now.body.now in
    let r = c.args.r in
    let line = c.args.line in
    let c0 : List Placed = c.args.code.now.items in
    let c1 : List Placed = c.emit_expression.new.code.items in
    let c2 : List Placed = c.put.new.code.items in
    on_ok_weaker _ (λ h. tested globals body r line c.args.e.now _ c0 c1 c2 c.in_ok-emit_expression.ensures c.operand.ensures h) c.put.ensures

pub emit_side-returns : goal.emit_side-returns
emit_side-returns t c =
    let globals = c.args.tables.now.globals.now in
    let body = c.args.tables.now.body.now in
    let r = c.args.r in
    let line = c.args.line in
    let c0 : List Placed = c.args.code.now.items in
    let c1 : List Placed = c.emit_expression.new.code.items in
    let c2 : List Placed = c.put.new.code.items in
    on_ok_weaker _ (λ h. side globals body r line c.args.e.now _ c0 c1 c2 c.in_ok-emit_expression.ensures c.operand.ensures h) c.put.ensures

pub emit_spot-returns-in_ok-emit_expression-in-Element : goal.emit_spot-returns-in_ok-emit_expression-in-Element
emit_spot-returns-in_ok-emit_expression-in-Element t c =
    let globals = c.args.tables.now.globals.now in
    let body = c.args.tables.now.body.now in
    let r = c.args.r in
    let line = c.args.line in
    let c0 : List Placed = c.args.code.now.items in
    let c1 : List Placed = c.emit_expression.new.code.items in
    let c2 : List Placed = c.put.new.code.items in
    let same = c.get-index.ensures in
    on_ok_weaker _ (λ h. subst (λ (p : Spot). Appends (spot_code globals body r line p) c0 c2) (sym c.in-Element.is)
    (element globals body r line c.in-Element.g _ c.in-Element.index _ c0 c1 c2
    (renamed globals body r _ _ c0 c1 same c.in_ok-emit_expression-in-Element.ensures)
    (c.operand.ensures ∙ ap (λ (e : Expr). operand_of r e.kind) same) c.size_of.ensures h)) c.put.ensures

pub emit_expression-returns-in_ok-emit_spot-in-Read : goal.emit_expression-returns-in_ok-emit_spot-in-Read
emit_expression-returns-in_ok-emit_spot-in-Read t c =
    let globals = c.args.tables.now.globals.now in
    let body = c.args.tables.now.body.now in
    let r = c.args.r in
    let line = c.args.e.now.at.line in
    let c0 : List Placed = c.args.code.now.items in
    let c1 : List Placed = c.emit_spot.new.code.items in
    let c2 : List Placed = c.put-in-Read.new.code.items in
    on_ok_weaker _ (λ h. of_kind globals body r line _ _ c0 c2 c.in-Read.is
    (read globals body r line c.in-Read.p _ _ c0 c1 c2 c.in_ok-emit_spot-in-Read.ensures c.access.ensures c.reading.ensures h)) c.put-in-Read.ensures

pub emit_expression-returns-in_ok-emit_expression-in-Unary : goal.emit_expression-returns-in_ok-emit_expression-in-Unary
emit_expression-returns-in_ok-emit_expression-in-Unary t c =
    let globals = c.args.tables.now.globals.now in
    let body = c.args.tables.now.body.now in
    let r = c.args.r in
    let line = c.args.e.now.at.line in
    let c0 : List Placed = c.args.code.now.items in
    let c1 : List Placed = c.emit_expression.new.code.items in
    let c2 : List Placed = c.put-in-Unary.new.code.items in
    let same = c.get-a.ensures in
    on_ok_weaker _ (λ h. of_kind globals body r line _ _ c0 c2 c.in-Unary.is
    (unary globals body r line c.in-Unary.op c.in-Unary.a _ c0 c1 c2
    (renamed globals body r _ _ c0 c1 same c.in_ok-emit_expression-in-Unary.ensures)
    (c.operand.ensures ∙ ap (λ (e : Expr). operand_of r e.kind) same) h)) c.put-in-Unary.ensures

pub emit_values-loop-e-preserved : goal.emit_values-loop-e-preserved
emit_values-loop-e-preserved t c =
    let within : c.loop-e.e-index < length c.args.values.now = omega arith in
    values_turn c.args.tables.now.globals.now c.args.tables.now.body.now c.loop-e.register c.in_ok-register.register c.loop-e.e-index c.args.values.now c.e-item.result c.loop-e.code.items c.emit_expression.new.code.items _
    within c.e-item.is c.in_ok-register.ensures c.in_ok-emit_expression.ensures c.loop-e.invariant

pub emit_values-returns : goal.emit_values-returns
emit_values-returns t c =
    let code : List Placed = c.loop-e.code.items in
    let rest : List Expr → List Placed = λ values. placed (values_code c.args.tables.now.globals.now c.args.tables.now.body.now c.loop-e.register values (length code)) in
    sym (append-nil code) ∙ ap (λ more. code ++ more) (sym (at_drop_all rest c.args.values.now c.loop-e.e-index c.loop-e-test.false)) ∙ c.loop-e.invariant
