use Rattle.std.proofs.Common.{◌≡◌, ◌+◌, ◌∷◌, map, vec_len}
use Rattle.xmt_isa.specs.Opening.{control_units}
use Rattle.machine_turns.specs.Seats.{seat_of}
use Rattle.machine_turns.proofs.beginning.new_seats.Given as goal

abbrev pub invariant-loop-i : goal.invariant-loop-i
invariant-loop-i l = record {
  seats : l.seats.items ≡ l.fn.master ∷ map seat_of (control_units l.i);
  len : vec_len l.seats ≡ l.i + 1;
}
