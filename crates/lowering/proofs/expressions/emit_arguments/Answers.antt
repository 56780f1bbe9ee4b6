use Rattle.std.proofs.Common.{◌∙◌, ◌++◌, ap, sym, ◌<◌, List, length, append-nil, arith}
use Rattle.std.proofs.lemmas.List.{at_drop_all}
use Rattle.source_meaning.specs.declared.tree.Expr.{Expr}
use Rattle.lowering.specs.declared.code.Placed.{Placed}
use Rattle.lowering.specs.Emitted.{placed, arguments_code}
use Rattle.lowering.proofs.Appends.{arguments_turn}
use Rattle.lowering.proofs.expressions.emit_arguments.Goals as goal

pub loop-e-preserved : goal.loop-e-preserved
loop-e-preserved c =
    let within : c.loop-e.e-index < length c.args.values.now = omega arith in
    arguments_turn c.args.line c.loop-e.place c.loop-e.register c.in_ok-place.place c.in_ok-register.register c.loop-e.e-index c.args.values.now c.e-item.result _ c.loop-e.code.items c.put.new.code.items _
    within c.e-item.is c.operand.ensures c.in_ok-put.ensures c.in_ok-place.ensures c.in_ok-register.ensures c.loop-e.invariant

pub returns : goal.returns
returns c =
    let code : List Placed = c.loop-e.code.items in
    let rest : List Expr → List Placed = λ values. placed (arguments_code c.args.line c.loop-e.place c.loop-e.register values (length code)) in
    sym (append-nil code) ∙ ap (λ more. code ++ more) (sym (at_drop_all rest c.args.values.now c.loop-e.e-index c.loop-e-test.false)) ∙ c.loop-e.invariant
