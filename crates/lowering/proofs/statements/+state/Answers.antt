use Rattle.std.proofs.Common.{◌∙◌, ◌<◌, ap, subst, refl, arith, ℕ, ◌+◌, List, [], ◌∷◌, length, Option, Some}
use Rattle.std.proofs.lemmas.Result.{on_ok_weaker}
use Rattle.source_meaning.specs.declared.tree.Expr.{Expr}
use Rattle.source_meaning.specs.declared.tree.Stmt.{Stmt}
use Rattle.quad_code.specs.Expressions.{operand_of}
use Rattle.quad_code.specs.Statements.{option_operand}
use Rattle.xmt_quads.specs.declared.code.Quad.TheVariants as quad
use Rattle.lowering.specs.declared.code.Placed.{Placed}
use Rattle.lowering.specs.declared.loops.Exits.{Exits}
use Rattle.lowering.specs.Emitted.{with_code, expression_code}
use Rattle.lowering.specs.Stated.{Emits, EmitsSequence, exits_behind, loop_begun, loop_ended, bounds_code, option_code, print_code}
use Rattle.lowering.proofs.Appends.{renamed}
use Rattle.lowering.proofs.Sequels.{single, none_more, goes_on, goes_to_end}
use Rattle.lowering.proofs.Branches.{of_statement, of_other, renamed_statement, block, choice_of, while_of, do_of, for_of, spawn_of}
use Rattle.lowering.proofs.statements.+state.Goals as goal

pub emit_while-returns-in_ok-emit_statement-in-While : goal.emit_while-returns-in_ok-emit_statement-in-While
emit_while-returns-in_ok-emit_statement-in-While t c =
    let globals = c.args.tables.now.globals.now in
    let body = c.args.tables.now.body.now in
    let r = c.args.r in
    let line = c.args.s.now.at.line in
    let c0 : List Placed = c.args.code.now.items in
    let c1 : List Placed = c.open_while.new.code.items in
    let c2 : List Placed = c.emit_statement.new.code.items in
    let c3 : List Placed = c.close_while.new.code.items in
    let t0 : List (List ℕ) = c.args.texts.now.list in
    let t1 : List (List ℕ) = c.emit_statement.new.texts.list in
    let test : Expr = c.in-While.test in
    let same = c.get.ensures in
    let b1 : List Placed = with_code (expression_code globals body r test) c0 in
    let exits : Exits = c.in_ok-head-in-While.head.exits in
    on_ok_weaker _ (λ h. of_statement globals body r c.args.exits line _ _ c0 c3 t0 t1 c.in-While.is
    (while_of globals body r c.args.exits exits line test c.in-While.body (operand_of r test.kind) c0 b1 c1 c2 c3 _ _ _ _ t0 t1
    c.in_ok-head-in-While.ensures.start refl refl
    (c.in_ok-head-in-While.ensures.exits ∙ ap (λ (e : Expr). exits_behind (with_code (expression_code globals body r e) c0)) same)
    (c.in_ok-head-in-While.ensures.code ∙ ap (λ (e : Expr). loop_begun (with_code (expression_code globals body r e) c0) (Some (operand_of r e.kind)) line) same)
    (single globals body r exits c.in-While.body c1 c2 t0 t1 (renamed_statement globals body r exits _ _ c1 c2 t0 t1 c.get-in-While.ensures c.in_ok-emit_statement-in-While.ensures))
    refl h)) c.close_while.ensures

pub emit_do-returns-in_ok-emit_statement-in-Do : goal.emit_do-returns-in_ok-emit_statement-in-Do
emit_do-returns-in_ok-emit_statement-in-Do t c =
    let globals = c.args.tables.now.globals.now in
    let body = c.args.tables.now.body.now in
    let r = c.args.r in
    let line = c.args.s.now.at.line in
    let c0 : List Placed = c.args.code.now.items in
    let c1 : List Placed = c.open_loop.new.code.items in
    let c2 : List Placed = c.emit_statement.new.code.items in
    let c3 : List Placed = c.close_do.new.code.items in
    let t0 : List (List ℕ) = c.args.texts.now.list in
    let t1 : List (List ℕ) = c.emit_statement.new.texts.list in
    let test : Expr = c.in-Do.test in
    let exits : Exits = c.in_ok-inner-in-Do.inner in
    let b2 : List Placed = with_code (expression_code globals body r test) c2 in
    on_ok_weaker _ (λ h. of_statement globals body r c.args.exits line _ _ c0 c3 t0 t1 c.in-Do.is
    (do_of globals body r c.args.exits exits line c.in-Do.body test (operand_of r test.kind) c0 c1 c2 b2 c3 _ _ _ _ t0 t1
    c.in_ok-inner-in-Do.ensures.exits c.in_ok-inner-in-Do.ensures.code refl
    (single globals body r exits c.in-Do.body c1 c2 t0 t1 (renamed_statement globals body r exits _ _ c1 c2 t0 t1 c.get.ensures c.in_ok-emit_statement-in-Do.ensures))
    refl refl refl
    (h ∙ ap (λ (e : Expr). loop_ended (with_code (expression_code globals body r e) c2) exits (length c2) (quad.IfNot (operand_of r e.kind) (exits.again + 1)) line) c.get-in-Do.ensures))) c.close_do.ensures

pub emit_for-returns-in_ok-emit_statement-in-For : goal.emit_for-returns-in_ok-emit_statement-in-For
emit_for-returns-in_ok-emit_statement-in-For t c =
    let globals = c.args.tables.now.globals.now in
    let body = c.args.tables.now.body.now in
    let r = c.args.r in
    let line = c.args.s.now.at.line in
    let c0 : List Placed = c.args.code.now.items in
    let c1 : List Placed = c.emit_statements.new.code.items in
    let c2 : List Placed = c.open_tested.new.code.items in
    let c3 : List Placed = c.emit_statement.new.code.items in
    let c4 : List Placed = c.close_for.new.code.items in
    let t0 : List (List ℕ) = c.args.texts.now.list in
    let t1 : List (List ℕ) = c.emit_statements.new.texts.list in
    let t2 : List (List ℕ) = c.emit_statement.new.texts.list in
    let test : Option Expr = c.in-For.test in
    let third : Option Expr = c.in-For.third in
    let exits : Exits = c.in_ok-head-in-For.head.exits in
    let b1 : List Placed = with_code (option_code globals body r test) c1 in
    let b3 : List Placed = with_code (option_code globals body r third) c3 in
    on_ok_weaker _ (λ h. of_statement globals body r c.args.exits line _ _ c0 c4 t0 t2 c.in-For.is
    (for_of globals body r c.args.exits exits line c.in-For.first test third c.in-For.body (option_operand r 1 test) c0 c1 b1 c2 c3 b3 c4 _ _ _ _ t0 t1 t2
    (subst (λ (list : List Stmt). EmitsSequence globals body r c.args.exits list c0 c1 t0 t1) c.as_slice.ensures c.in_ok-emit_statements-in-For.ensures)
    c.in_ok-head-in-For.ensures.start refl refl c.in_ok-head-in-For.ensures.exits c.in_ok-head-in-For.ensures.code
    (single globals body r exits c.in-For.body c2 c3 t1 t2 (renamed_statement globals body r exits _ _ c2 c3 t1 t2 c.get.ensures c.in_ok-emit_statement-in-For.ensures))
    refl refl h)) c.close_for.ensures

pub emit_other-returns-in-None : goal.emit_other-returns-in-None
emit_other-returns-in-None t c =
    of_other c.args.tables.now.globals.now c.args.tables.now.body.now c.args.r c.args.exits _ _ c.args.code.now.items _ c.args.texts.now.list _ c.in-None.is
    (none_more c.args.tables.now.globals.now c.args.tables.now.body.now c.args.r c.args.exits c.args.code.now.items c.args.texts.now.list)

pub emit_other-returns-in-Some : goal.emit_other-returns-in-Some
emit_other-returns-in-Some t c =
    let globals = c.args.tables.now.globals.now in
    let body = c.args.tables.now.body.now in
    let c0 : List Placed = c.args.code.now.items in
    let c1 : List Placed = c.emit_statement.new.code.items in
    let t0 : List (List ℕ) = c.args.texts.now.list in
    let t1 : List (List ℕ) = c.emit_statement.new.texts.list in
    on_ok_weaker _ (λ h. of_other globals body c.args.r c.args.exits _ _ c0 c1 t0 t1 c.in-Some.is
    (single globals body c.args.r c.args.exits c.in-Some.s c0 c1 t0 t1
    (renamed_statement globals body c.args.r c.args.exits _ _ c0 c1 t0 t1 c.get.ensures h))) c.emit_statement.ensures

pub emit_statement-returns-in-Block : goal.emit_statement-returns-in-Block
emit_statement-returns-in-Block t c =
    let globals = c.args.tables.now.globals.now in
    let body = c.args.tables.now.body.now in
    let c0 : List Placed = c.args.code.now.items in
    let c1 : List Placed = c.emit_statements.new.code.items in
    let t0 : List (List ℕ) = c.args.texts.now.list in
    let t1 : List (List ℕ) = c.emit_statements.new.texts.list in
    on_ok_weaker _ (λ h. of_statement globals body c.args.r c.args.exits c.args.s.now.at.line _ _ c0 c1 t0 t1 c.in-Block.is
    (block globals body c.args.r c.args.exits c.args.s.now.at.line c.in-Block.body c0 c1 t0 t1
    (subst (λ (list : List Stmt). EmitsSequence globals body c.args.r c.args.exits list c0 c1 t0 t1) c.as_slice.ensures h))) c.emit_statements.ensures

pub emit_if-returns-in_ok-emit_other-in-If : goal.emit_if-returns-in_ok-emit_other-in-If
emit_if-returns-in_ok-emit_other-in-If t c =
    let globals = c.args.tables.now.globals.now in
    let body = c.args.tables.now.body.now in
    let r = c.args.r in
    let line = c.args.s.now.at.line in
    let c0 : List Placed = c.args.code.now.items in
    let c1 : List Placed = c.emit_expression.new.code.items in
    let c2 : List Placed = c.reserve.new.code.items in
    let c3 : List Placed = c.emit_statement.new.code.items in
    let c4 : List Placed = c.reserve-in-If.new.code.items in
    let c5 : List Placed = c.emit_other.new.code.items in
    let c6 : List Placed = c.close_choice.new.code.items in
    let t0 : List (List ℕ) = c.args.texts.now.list in
    let t1 : List (List ℕ) = c.emit_statement.new.texts.list in
    let t2 : List (List ℕ) = c.emit_other.new.texts.list in
    let exits : Exits = c.args.exits in
    on_ok_weaker _ (λ h. of_statement globals body r exits line _ _ c0 c6 t0 t2 c.in-If.is
    (choice_of globals body r exits line c.in-If.test c.in-If.body c.in-If.other _ c0 c1 c2 c3 c4 c5 c6 _ _ _ _ t0 t1 t2
    (renamed globals body r _ _ c0 c1 c.get-test.ensures c.in_ok-emit_expression-in-If.ensures)
    c.in_ok-skip-in-If.ensures.place c.in_ok-skip-in-If.ensures.code
    (single globals body r exits c.in-If.body c2 c3 t0 t1 (renamed_statement globals body r exits _ _ c2 c3 t0 t1 c.get.ensures c.in_ok-emit_statement-in-If.ensures))
    c.in_ok-jump-in-If.ensures.place c.in_ok-jump-in-If.ensures.code
    c.in_ok-emit_other-in-If.ensures
    (c.operand.ensures ∙ ap (λ (e : Expr). operand_of r e.kind) c.get-test.ensures)
    h)) c.close_choice.ensures

pub emit_spawn-returns-in_ok-emit_statements-in-Spawn : goal.emit_spawn-returns-in_ok-emit_statements-in-Spawn
emit_spawn-returns-in_ok-emit_statements-in-Spawn t c =
    let globals = c.args.tables.now.globals.now in
    let body = c.args.tables.now.body.now in
    let r = c.args.r in
    let line = c.args.s.now.at.line in
    let c0 : List Placed = c.args.code.now.items in
    let c1 : List Placed = c.emit_bounds.new.code.items in
    let c2 : List Placed = c.emit_statements.new.code.items in
    let c3 : List Placed = c.put.new.code.items in
    let t0 : List (List ℕ) = c.args.texts.now.list in
    let t1 : List (List ℕ) = c.emit_statements.new.texts.list in
    let exits : Exits = c.args.exits in
    on_ok_weaker _ (λ h. of_statement globals body r exits line _ _ c0 c3 t0 t1 c.in-Spawn.is
    (spawn_of globals body r exits line c.in-Spawn.low c.in-Spawn.high c.in-Spawn.block c0 c1 c2 c3 t0 t1
    (c.in_ok-emit_bounds-in-Spawn.ensures ∙ ap (λ (low : Expr). bounds_code globals body r line low c.get-in-Spawn.result.now c0) c.get.ensures ∙ ap (λ (high : Expr). bounds_code globals body r line c.in-Spawn.low high c0) c.get-in-Spawn.ensures)
    (subst (λ (list : List Stmt). EmitsSequence globals body r exits list c1 c2 t0 t1) c.as_slice.ensures c.in_ok-emit_statements-in-Spawn.ensures)
    h)) c.put.ensures

pub emit_statement-returns-in-Print : goal.emit_statement-returns-in-Print
emit_statement-returns-in-Print t c =
    let globals = c.args.tables.now.globals.now in
    let body = c.args.tables.now.body.now in
    let r = c.args.r in
    let line = c.args.s.now.at.line in
    let c0 : List Placed = c.args.code.now.items in
    let c1 : List Placed = c.emit_print.new.code.items in
    let t0 : List (List ℕ) = c.args.texts.now.list in
    let t1 : List (List ℕ) = c.emit_print.new.texts.list in
    on_ok_weaker _ (λ h. of_statement globals body r c.args.exits line _ _ c0 c1 t0 t1 c.in-Print.is
    (subst (λ (text : List ℕ). Emits (print_code globals body r line text c.in-Print.values) (text ∷ []) c0 c1 t0 t1) c.as_slice-in-Print.ensures
    (subst (λ (values : List Expr). Emits (print_code globals body r line c.as_slice-in-Print.result.now values) (c.as_slice-in-Print.result.now ∷ []) c0 c1 t0 t1) c.as_slice-values.ensures
    h))) c.emit_print.ensures

pub emit_statements-loop-s-preserved : goal.emit_statements-loop-s-preserved
emit_statements-loop-s-preserved t c =
    let within : c.loop-s.s-index < length c.args.body.now = omega arith in
    goes_on c.args.tables.now.globals.now c.args.tables.now.body.now c.args.r c.args.exits c.args.body.now c.loop-s.s-index c.s-item.result c.args.code.now.items c.loop-s.code.items c.emit_statement.new.code.items
    c.args.texts.now.list c.loop-s.texts.list c.emit_statement.new.texts.list within c.s-item.is c.in_ok-emit_statement.ensures c.loop-s.invariant

pub emit_statements-returns : goal.emit_statements-returns
emit_statements-returns t c =
    goes_to_end c.args.tables.now.globals.now c.args.tables.now.body.now c.args.r c.args.exits c.args.body.now c.loop-s.s-index c.args.code.now.items c.loop-s.code.items c.args.texts.now.list c.loop-s.texts.list
    (omega arith) c.loop-s.invariant
