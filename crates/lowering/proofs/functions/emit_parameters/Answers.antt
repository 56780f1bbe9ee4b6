use Rattle.quad_code.specs.Functions.{outer_of}
use Rattle.lowering.proofs.Wholes.{parameters_turn}
use Rattle.lowering.proofs.functions.emit_parameters.Goals as goal

pub loop-slot-preserved : goal.loop-slot-preserved
loop-slot-preserved c =
    parameters_turn (outer_of c.args.tables.now.body.now) c.args.variables c.loop-slot.slot c.args.count c.outer_in.result c.loop-slot.code.items c.emit_parameter.new.code.items _
    c.loop-slot-test.true c.outer_in.ensures c.in_ok-emit_parameter.ensures c.loop-slot.invariant
