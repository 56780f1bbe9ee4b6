use Rattle.std.proofs.Common.{◌∙◌, ap, map, List}
use Rattle.xmt_quads.specs.declared.code.QuadFunction.{QuadFunction}
use Rattle.lowering.specs.declared.code.Placed.{Placed}
use Rattle.lowering.proofs.Wholes.{function_made}
use Rattle.lowering.proofs.functions.lower_function.Goals as goal

pub returns : goal.returns
returns c =
    let registers = c.in_ok-registers.registers in
    let inner = c.args.inner in
    let made : List Placed → QuadFunction = λ code.
    record { quads = map (λ (p : Placed). p.quad) code; lines = map (λ (p : Placed). p.line) code; registers = registers; inner = inner }
    in
    function_made c.args.layout.now.globals.now c.args.function.now inner c.in_ok-code.code.items c.args.texts.now.list c.code_of.new.texts.list c.in_ok-lowered.lowered registers
    c.in_ok-code.ensures c.in_ok-registers.ensures (c.in_ok-lowered.ensures ∙ ap made c.as_slice-3.ensures.value)
