use Rattle.std.proofs.Common.{List, subst}
use Rattle.quad_code.specs.Rows.{rows_of}
use Rattle.quad_code.specs.Whole.{all_texts}
use Rattle.lowering.specs.declared.code.Placed.{Placed}
use Rattle.lowering.specs.Stated.{Emits, body_code}
use Rattle.lowering.proofs.functions.code_of.Goals as goal

pub returns : goal.returns
returns c =
    let globals = c.args.layout.now.globals.now in
    let function = c.args.function.now in
    subst (λ (from : List Placed). Emits (body_code globals function) (all_texts (rows_of function.body)) from c.emit_function.new.code.items c.args.texts.now.list c.emit_function.new.texts.list)
    c.new-code.ensures.items c.in_ok-emit_function.ensures
