use Rattle.std.proofs.Common.{refl, false}
use Rattle.machine_turns.proofs.Begins.{opening_same, opening_kept}
use Rattle.machine_turns.proofs.beginning.opening.Goals as goal

pub returns-clause-machine : goal.returns-clause-machine
returns-clause-machine c =
    opening_same c.args.image.now c.args.budget c.args.n c.args.memory.now.words (record { seats = c.in_ok-new_seats.field-0; words = c.in_ok-words.words; drawn = 0; start = c.in_ok-start.start; spawned = false }) c.in_ok-master.master c.in_ok-master.ensures c.in_ok-new_seats.ensures.seats
    (rw c.image.ensures.same at c.in_ok-words.ensures) refl c.in_ok-start.ensures refl

pub returns-clause-kept : goal.returns-clause-kept
returns-clause-kept c =
    opening_kept c.args.image.now c.args.budget c.args.n _ c.in_ok-master.master c.image.ensures.valid c.requires.some c.in_ok-master.ensures c.in_ok-new_seats.ensures.seats refl
