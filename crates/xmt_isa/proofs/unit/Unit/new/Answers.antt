use Rattle.xmt_isa.proofs.New.{made_has_room, made_fits}
use Rattle.xmt_isa.proofs.unit.Unit.new.Goals as goal

pub returns-clause-room : goal.returns-clause-room
returns-clause-room c = made_has_room c.args.number c.in_ok-zeros-2.field-0 c.in_ok-zeros.field-0 c.in_ok-zeros-2.ensures c.in_ok-zeros.ensures

pub returns-clause-fits : goal.returns-clause-fits
returns-clause-fits c = made_fits c.args.number c.in_ok-zeros-2.field-0 c.in_ok-zeros.field-0 c.in_ok-zeros-2.ensures c.in_ok-zeros.ensures
