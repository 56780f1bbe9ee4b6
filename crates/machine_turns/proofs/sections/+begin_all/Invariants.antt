use Rattle.std.proofs.Common.{length}
use Rattle.machine_turns.proofs.sections.+begin_all.Given as goal

abbrev pub decreases-begin_all : goal.decreases-begin_all
decreases-begin_all l = length l.seats.now
