use Rattle.quad_code.proofs.InProgram.{stands_there, room_there}
use Rattle.quad_code.proofs.Traces.{paid_traces}
use Rattle.quad_code.proofs.law.quads_have_paid_traces.Goals as goal

pub returns : goal.returns
returns c = λ program inner quads known is. paid_traces program inner quads known (stands_there program inner known quads is) (room_there program inner known quads is) is.main
