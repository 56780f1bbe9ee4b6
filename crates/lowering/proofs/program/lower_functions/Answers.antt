use Rattle.std.proofs.Common.{◌≤◌, ◌<◌, ◌∙◌, ap, length, get_or, List, subst}
use Rattle.source_meaning.specs.declared.tree.Function.{Function}
use Rattle.source_meaning.specs.declared.tree.GlobalVar.{GlobalVar}
use Rattle.lowering.specs.Whole.{IsFunctionOf}
use Rattle.lowering.proofs.Wholes.{function_turn, functions_end}
use Rattle.lowering.proofs.program.lower_functions.Goals as goal

pub loop-number-preserved : goal.loop-number-preserved
loop-number-preserved c =
    let f : Function = c.function-item.result in
    let functions : List Function = c.args.program.now.functions in
    let same = c.as_slice-function-items.ensures in
    function_turn c.args.program.now c.args.prints.now c.args.spawns.now functions c.loop-number.number c.is_inner-inner.result f c.in_ok-lower_function.field-0 c.loop-number.functions c.push.new.self
    c.args.texts.now.list c.loop-number.texts.list c.lower_function.new.texts.list
    (subst (λ (fs : List Function). c.loop-number.number < length fs) same c.loop-number-test.true)
    (c.function-item.is ∙ ap (λ (fs : List Function). get_or fs c.loop-number.number f) same)
    c.is_inner-inner.ensures
    (subst (λ (globals : List GlobalVar). IsFunctionOf globals f c.is_inner-inner.result c.loop-number.texts.list c.lower_function.new.texts.list c.in_ok-lower_function.field-0) c.requires c.in_ok-lower_function.ensures)
    c.in_ok-push.ensures.ok c.loop-number.invariant

pub returns : goal.returns
returns c =
    functions_end c.args.program.now c.args.prints.now c.args.spawns.now c.args.program.now.functions c.loop-number.number c.loop-number.functions c.args.texts.now.list c.loop-number.texts.list
    (subst (λ (fs : List Function). length fs ≤ c.loop-number.number) c.as_slice-function-items.ensures c.loop-number-test.false) c.loop-number.invariant
