use Rattle.lowering.proofs.Branches.{print_of}
use Rattle.lowering.proofs.statements.emit_print.Goals as goal

pub returns : goal.returns
returns c =
    print_of c.args.tables.now.globals.now c.args.tables.now.body.now c.args.r c.args.line c.in_ok-number.number c.args.text.now c.args.values.now
    c.args.code.now.items c.emit_values.new.code.items c.emit_arguments.new.code.items c.put.new.code.items c.args.texts.now.list c.add_text.new.texts.list
    c.in_ok-number.ensures c.in_ok-emit_values.ensures c.in_ok-emit_arguments.ensures c.in_ok-put.ensures c.in_ok-add_text.ensures
